-- What `encode`, `size` and `encode_bytes` give (01, "The words" and "Where a thing is turned back").
use Rattle.std.specs.Prelude.{ℕ, ◌*◌, ◌-◌, ◌/◌, ◌%◌, Bool, true, false, ◌&&◌, cond, List, [], ◌∷◌, ◌++◌, leb, ltb, pos, length, drop, replicate}
use Rattle.isa.specs.declared.Instruction.{Instruction}
use Rattle.isa.specs.declared.Encoded.{Encoded}
use Rattle.isa.specs.declared.Measured.{Measured}
use Rattle.encode_spec.specs.Item.{Item, Verdict, refusal, is_fine, laid, words_in, failure}
use Rattle.encode_spec.specs.Instruction.{parts_of}

-- the words and checks of an instruction at an address
abbrev pub items_of : Instruction → ℕ → List Item
items_of i a = laid (parts_of i) a

-- its words, which count where it is not refused
abbrev pub words_of : Instruction → ℕ → List ℕ
words_of i a = words_in (items_of i a)

-- the first check that fails; `size` skips the ranges
abbrev pub refusal_of : Bool → Instruction → ℕ → Verdict
refusal_of ranges i a = failure ranges (items_of i a)

-- eleven places, unused ones 0
abbrev pub padded : List ℕ → List ℕ
padded ws = ws ++ replicate (11 - length ws) 0

-- the words, none beside a refusal
abbrev pub encoded_as : Verdict → List ℕ → Encoded
encoded_as v ws =
    record { words = padded (cond (is_fine v) ws []); count = cond (is_fine v) (length ws) 0; number = (refusal v).number; detail = (refusal v).detail; value = (refusal v).value }

unfoldable pub encode_of : Instruction → ℕ → Encoded
encode_of i a = encoded_as (refusal_of true i a) (words_of i a)

-- the size, 0 beside a refusal
abbrev pub measured_as : Verdict → ℕ → Measured
measured_as v n =
    record { size = cond (is_fine v) n 0; number = (refusal v).number; detail = (refusal v).detail; value = (refusal v).value }

-- twice the count; it does not depend on the address
unfoldable pub size_of : Instruction → Measured
size_of i = measured_as (refusal_of false i 0) (2 * length (words_of i 0))

-- each word high byte first
abbrev pub bytes_in : List ℕ → List ℕ
bytes_in [] = []
bytes_in (w ∷ ws) = w / 256 ∷ w % 256 ∷ bytes_in ws

-- refusal 4 comes last: lent bytes fewer than the size
abbrev pub short : Measured
short = record { size = 0; number = 4; detail = 0; value = pos 0 }

abbrev pub bytes_as : Verdict → ℕ → ℕ → Measured
bytes_as v n room = cond (is_fine v && ltb room n) short (measured_as v n)

-- what `encode_bytes` returns where `room` bytes are lent
unfoldable pub bytes_of : Instruction → ℕ → ℕ → Measured
bytes_of i a room = bytes_as (refusal_of true i a) (2 * length (words_of i a)) room

-- and what the lent bytes then are: the instruction's before those past the size, or unchanged
abbrev pub lent_as : Verdict → List ℕ → List ℕ → List ℕ
lent_as v bytes lent = cond (is_fine v && leb (length bytes) (length lent)) (bytes ++ drop (length bytes) lent) lent

unfoldable pub lent_of : Instruction → ℕ → List ℕ → List ℕ
lent_of i a lent = lent_as (refusal_of true i a) (bytes_in (words_of i a)) lent
