-- What a field's value says, with the lines at given addresses.
use Rattle.std.specs.Prelude.{ℕ, zero, suc, pred, Bool, true, false, cond, ◌&&◌, ◌||◌, List, [], ◌∷◌, leb, length, get_or, Option, Some, None}
use Rattle.std.proofs.Math.Option as math
use Rattle.sheet_spec.specs.Line.{Token, Parsed, says, no}
use Rattle.sheet_spec.specs.Made.{of_lines}
use Rattle.sheet_tokens.specs.declared.Value.{Value}
use Rattle.sheet_tokens.specs.declared.Value.TheVariants as value
use Rattle.sheet_tokens.specs.Values.{value_of}

-- the address of line k, 0 where there is none
abbrev pub address_in : List ℕ → ℕ → ℕ
address_in addresses k = get_or (0 ∷ addresses) k 0

-- a label made its line's address
abbrev pub number_in : List ℕ → Option Value → ℕ
number_in addresses (Some (value.Number negative n)) = n
number_in addresses (Some (value.Line k)) = address_in addresses k
number_in addresses None = 0

-- of a label its line's number
abbrev pub own_number : Option Value → ℕ
own_number (Some (value.Number negative n)) = n
own_number (Some (value.Line k)) = k
own_number None = 0

abbrev pub below_zero : Option Value → Bool
below_zero (Some (value.Number negative n)) = negative
below_zero (Some (value.Line k)) = false
below_zero None = false

abbrev pub says_label : Option Value → Bool
says_label (Some (value.Number negative n)) = false
says_label (Some (value.Line k)) = true
says_label None = false

-- a label is the number of one of n lines
abbrev pub names_line : ℕ → Option Value → Bool
names_line n (Some (value.Number negative m)) = true
names_line n (Some (value.Line k)) = leb 1 k && leb k n
names_line n None = true

-- labels made the addresses of a list, one a line
abbrev pub listed : List ℕ → ℕ → math.Option ℕ
listed addresses = of_lines (length addresses) (λ k. get_or addresses (pred k) 0)

-- labels among numbers in places, each made what f says
abbrev pub aimed : (ℕ → ℕ) → List Bool → List ℕ → List ℕ
aimed f [] ms = []
aimed f (b ∷ bs) [] = []
aimed f (b ∷ bs) (m ∷ ms) = cond b (f m) m ∷ aimed f bs ms

-- those of the first k places
abbrev pub aimed_to : ℕ → (ℕ → ℕ) → List Bool → List ℕ → List ℕ
aimed_to zero f bs ms = ms
aimed_to (suc k) f [] ms = ms
aimed_to (suc k) f (b ∷ bs) [] = []
aimed_to (suc k) f (b ∷ bs) (m ∷ ms) = cond b (f m) m ∷ aimed_to k f bs ms

-- what a line says has a label
abbrev pub labelled_all : List Token → Bool
labelled_all [] = false
labelled_all (v ∷ vs) = says_label (value_of v) || labelled_all vs

abbrev pub labelled_in : Parsed → Bool
labelled_in (says vs) = labelled_all vs
labelled_in no = false
