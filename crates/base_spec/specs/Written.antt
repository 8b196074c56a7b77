-- What is written: places of a buffer, hexadecimal and decimal digits.
use Rattle.std.specs.Prelude.{cond, List, [], ◌∷◌, ◌++◌, ℕ, zero, suc, ◌+◌, ◌/◌, ◌%◌, length, take, drop, ltb, ℤ, pos, negsuc}

-- buf with t from place `at` on
abbrev pub placed : List ℕ → ℕ → List ℕ → List ℕ
placed buf at t = take at buf ++ t ++ drop (at + length t) buf

-- 0 to 9, A to F
abbrev pub hex_digit : ℕ → ℕ
hex_digit d = cond (ltb d 10) (48 + d) (55 + d)

-- two capital hexadecimal digits
abbrev pub hex2_of : ℕ → List ℕ
hex2_of b = hex_digit (b / 16 % 16) ∷ hex_digit (b % 16) ∷ []

-- four of them
abbrev pub hex4_of : ℕ → List ℕ
hex4_of w = hex_digit (w / 4096 % 16) ∷ hex_digit (w / 256 % 16) ∷ hex_digit (w / 16 % 16) ∷ hex_digit (w % 16) ∷ []

-- eight of them
abbrev pub hex8_of : ℕ → List ℕ
hex8_of x = hex4_of (x / 65536) ++ hex4_of (x % 65536)

-- the decimal digits of n, at most k of them; none for 0
abbrev pub digits_to : ℕ → ℕ → List ℕ
digits_to zero n = []
digits_to (suc k) zero = []
digits_to (suc k) (suc n) = digits_to k (suc n / 10) ++ ((48 + suc n % 10) ∷ [])

-- the decimal digits of n, most significant first
unfoldable pub decimal_of : ℕ → List ℕ
decimal_of n = digits_to n (n / 10) ++ ((48 + n % 10) ∷ [])

-- `-` where z is below 0
abbrev pub signed_of : ℤ → List ℕ
signed_of (pos n) = decimal_of n
signed_of (negsuc n) = 45 ∷ decimal_of (suc n)
