-- What the encoding of an instruction consists of, in order: words, and the checks between them.
use Rattle.std.specs.Prelude.{ℕ, ◌+◌, ◌*◌, ◌%◌, ◌^◌, Bool, true, false, cond, List, [], ◌∷◌, ◌++◌, ltb, eqb, ℤ, pos}
use Rattle.isa.specs.declared.RegisterOperand.{RegisterOperand}
use Rattle.isa.specs.declared.RegisterOperand.TheVariants.{Address, Data}
use Rattle.isa.specs.declared.Field.{Field}
use Rattle.isa.specs.declared.Field.TheVariants as field
use Rattle.isa_spec.specs.Field.{holds, field_number}

-- what a check says: that it passes, or the refusal (01, "Where a thing is turned back")
pub data Verdict : Type 0 where
  fine : Verdict
  malformed : Verdict
  out_of_range : Field → ℤ → Verdict
  no_encoding : ℕ → Verdict

-- 01's number, detail and value, all 0 where it passes
pub record Refusal : Type 0 where
  pub number : ℕ
  pub detail : ℕ
  pub value : ℤ

abbrev pub refusal : Verdict → Refusal
refusal fine = record { number = 0; detail = 0; value = pos 0 }
refusal malformed = record { number = 1; detail = 0; value = pos 0 }
refusal (out_of_range f z) = record { number = 2; detail = field_number f; value = z }
refusal (no_encoding r) = record { number = 3; detail = r; value = pos 0 }

abbrev pub is_fine : Verdict → Bool
is_fine v = eqb (refusal v).number 0

-- a verdict where a test fails
abbrev pub unless : Bool → Verdict → Verdict
unless true v = fine
unless false v = v

-- a word, a check, or a check that a field holds a value, which `size` skips
pub data Item : Type 0 where
  word : ℕ → Item
  check : Verdict → Item
  range : Field → ℤ → Item

-- a register number is 0 to 7
abbrev pub number_verdict : ℕ → Verdict
number_verdict n = unless (ltb n 8) (out_of_range field.Register (pos n))

abbrev pub register : ℕ → Item
register n = check (number_verdict n)

abbrev pub data_verdict : RegisterOperand → Verdict
data_verdict (Address n) = no_encoding 1
data_verdict (Data n) = number_verdict n

abbrev pub data_register : RegisterOperand → Item
data_register r = check (data_verdict r)

abbrev pub address_verdict : RegisterOperand → Verdict
address_verdict (Address n) = number_verdict n
address_verdict (Data n) = no_encoding 2

abbrev pub address_register : RegisterOperand → Item
address_register r = check (address_verdict r)

-- no encoding, with a reason, where a test fails
abbrev pub allow : Bool → ℕ → Item
allow b reason = check (unless b (no_encoding reason))

-- The operation word in its fields: bits 15 to 12, 11 to 9, 8 to 6, and the effective address in 5 to 0
-- (the manual, section 2.1, "Instruction Format").
abbrev pub operation : ℕ → ℕ → ℕ → ℕ → Item
operation line x opmode ea = word ((line * 64 + x * 8 + opmode) * 64 + ea)

-- A part of an encoding: its items, from the address of its first word.
abbrev pub Part : Type 0
Part = ℕ → List Item

abbrev pub fixed : List Item → Part
fixed xs at = xs

-- the words of one item, and of several
abbrev pub with_word : Item → List ℕ → List ℕ
with_word (word w) ws = w ∷ ws
with_word (check v) ws = ws
with_word (range f z) ws = ws

abbrev pub words_in : List Item → List ℕ
words_in [] = []
words_in (x ∷ xs) = with_word x (words_in xs)

abbrev pub one_more : Item → ℕ → ℕ
one_more (word w) n = n + 1
one_more (check v) n = n
one_more (range f z) n = n

abbrev pub count_of : List Item → ℕ
count_of [] = 0
count_of (x ∷ xs) = one_more x (count_of xs)

-- the address of the word after n words from a
abbrev pub word_address : ℕ → ℕ → ℕ
word_address a n = (a + 2 * n) % 2 ^ 32

-- the parts one after the other, each from the address that the words before it leave
abbrev pub laid : List Part → ℕ → List Item
laid [] a = []
laid (p ∷ ps) a = p a ++ laid ps (word_address a (count_of (p a)))

-- the first check that fails; `size` skips the ranges
abbrev pub or_else : Verdict → Verdict → Verdict
or_else u v = cond (is_fine u) v u

abbrev pub ranged : Bool → Field → ℤ → Verdict
ranged true f z = unless (holds f z) (out_of_range f z)
ranged false f z = fine

abbrev pub verdict : Bool → Item → Verdict
verdict ranges (word w) = fine
verdict ranges (check v) = v
verdict ranges (range f z) = ranged ranges f z

abbrev pub failure : Bool → List Item → Verdict
failure ranges [] = fine
failure ranges (x ∷ xs) = or_else (verdict ranges x) (failure ranges xs)
