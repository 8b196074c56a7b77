-- A number read from a place: whether it is there and inside its declared type, its value, and the next place.
-- What is not there leaves the place and the value 0.
use Rattle.std.specs.Prelude.{ℕ, ◌+◌, ◌-◌, ◌^◌, Bool, true, false, ◌&&◌, cond, List, leb, ltb, get_or, ℤ, pos, negsuc, nat_abs}
use Rattle.numeric_places.specs.declared.Numbers.{Numbers}
use Rattle.numeric_fields.specs.declared.UnsignedAt.{UnsignedAt}
use Rattle.numeric_fields.specs.declared.SignedAt.{SignedAt}
use Rattle.numeric_fields.specs.declared.ByteAt.{ByteAt}
use Rattle.numeric_fields.specs.declared.WordAt.{WordAt}
use Rattle.numeric_fields.specs.declared.LongAt.{LongAt}
use Rattle.base_spec.specs.Signed.{minus}
use Rattle.numeric_spec.specs.Entry.{is_i32}

-- number k, which stands where k is below the count and 24
abbrev pub number_at : Numbers → ℕ → ℤ
number_at ns k = cond (get_or ns.negative k false) (minus (get_or ns.magnitude k 0)) (pos (get_or ns.magnitude k 0))

abbrev pub present : Numbers → ℕ → Bool
present ns k = ltb k 24 && ltb k ns.count

-- the numbers that the code lends
abbrev pub numbers_in : ℕ → List Bool → List ℕ → Numbers
numbers_in count negative magnitude = record { count = count; negative = negative; magnitude = magnitude }

-- z is 0 to top
abbrev pub up_to : ℕ → ℤ → Bool
up_to top (pos n) = leb n top
up_to top (negsuc n) = false

unfoldable pub unsigned_at : ℕ → Numbers → ℕ → UnsignedAt
unsigned_at top ns k =
    cond (present ns k && up_to top (number_at ns k))
    (record { ok = true; value = nat_abs (number_at ns k); next = k + 1 })
    (record { ok = false; value = 0; next = k })

unfoldable pub signed_at : Numbers → ℕ → SignedAt
signed_at ns k =
    cond (present ns k && is_i32 (number_at ns k))
    (record { ok = true; value = number_at ns k; next = k + 1 })
    (record { ok = false; value = pos 0; next = k })

unfoldable pub byte_at : Numbers → ℕ → ByteAt
byte_at ns k = let n = unsigned_at (2 ^ 8 - 1) ns k in record { ok = n.ok; value = n.value; next = n.next }

unfoldable pub word_at : Numbers → ℕ → WordAt
word_at ns k = let n = unsigned_at (2 ^ 16 - 1) ns k in record { ok = n.ok; value = n.value; next = n.next }

unfoldable pub long_at : Numbers → ℕ → LongAt
long_at ns k = let n = unsigned_at (2 ^ 32 - 1) ns k in record { ok = n.ok; value = n.value; next = n.next }
