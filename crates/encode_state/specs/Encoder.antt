-- The encoder's state, and what each item does to it: the state after it, or the refusal.
use Rattle.std.specs.Prelude.{ℕ, ◌+◌, ◌*◌, ◌%◌, ◌^◌, Bool, cond, List, [], ◌∷◌, length, nat_lt, slice_set, Result, Ok, Err}
use Rattle.encode_state.specs.declared.Encoder.{Encoder}
use Rattle.encode_state.specs.declared.Refusal.{Refusal}
use Rattle.encode_state.specs.declared.Refusal.TheVariants.{Malformed, OutOfRange, NoEncoding}
use Rattle.encode_spec.specs.Item.{Item, Part, Verdict, fine, malformed, out_of_range, no_encoding, word, check, range, ranged}
use Rattle.encode_spec.specs.Encode.{padded}

-- a state, or the first refusal
abbrev pub State : Type 0
State = Result Encoder Refusal

abbrev pub and_then : State → (Encoder → State) → State
and_then (Ok e) f = f e
and_then (Err r) f = Err r

-- e with one word more, where it has room
unfoldable pub pushed : Encoder → ℕ → Encoder
pushed e w =
    cond (nat_lt e.count 11)
    (record { words = slice_set e.words e.count w; count = e.count + 1; address = e.address; check = e.check })
    e

-- e where the check passes
abbrev pub marked : Verdict → Encoder → State
marked fine e = Ok e
marked malformed e = Err Malformed
marked (out_of_range f z) e = Err (OutOfRange f z)
marked (no_encoding r) e = Err (NoEncoding r)

abbrev pub step : Encoder → Item → State
step e (word w) = Ok (pushed e w)
step e (check v) = marked v e
step e (range f z) = marked (ranged e.check f z) e

-- each item after the one before it
abbrev pub run : List Item → State → State
run [] s = s
run (x ∷ xs) s = run xs (and_then s (λ e. step e x))

-- the address of the next word; a count is at most 11
unfoldable pub next_address : Encoder → ℕ
next_address e = (e.address + 2 * (e.count % 16)) % 2 ^ 32

-- each part from where the one before it left the state
abbrev pub run_parts : List Part → State → State
run_parts [] s = s
run_parts (p ∷ ps) s = run_parts ps (and_then s (λ e. run (p (next_address e)) (Ok e)))

-- a state that holds words
abbrev pub holding : ℕ → Bool → List ℕ → Encoder
holding a ranges ws = record { words = padded ws; count = length ws; address = a; check = ranges }
