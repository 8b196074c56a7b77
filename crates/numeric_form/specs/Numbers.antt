-- The numbers that literals are, numbers put after others, and what an answer says of the numbers left.
use Rattle.std.specs.Prelude.{ℕ, ◌+◌, Bool, true, false, cond, List, [], ◌∷◌, leb, ltb, set, ℤ, pos, negsuc, nat_abs, Option, Some, None, map, length, take}
use Rattle.base_facts.specs.Lists.{pad}
use Rattle.base_spec.specs.Signed.{minus}
use Rattle.isa.specs.declared.Instruction as Isa
use Rattle.numeric_spec.specs.declared.Built.{Built}
use Rattle.numeric_spec.specs.declared.Built.TheVariants.{Instruction, NotInForm}
use Rattle.numeric_spec.specs.Entry.{Entry, entry_number, is_i32}
use Rattle.numeric_spec.specs.Take.{Taken, taken, not_there}
use Rattle.base_spec.specs.declared.Literal.{Literal}
use Rattle.base_spec.specs.declared.Literals.{Literals}

abbrev pub number_of : Literal → ℤ
number_of l = cond l.negative (minus l.magnitude) (pos l.magnitude)

abbrev pub numbers_in : List Literal → List ℤ
numbers_in [] = []
numbers_in (l ∷ ls) = number_of l ∷ numbers_in ls

abbrev pub said : {A R : Type 0} → (R → List ℤ) → Option (A × R) → Taken A
said left None = not_there
said left (Some x) = taken x.0 (left x.1)

-- what is built, as the definitions have it
abbrev pub as_built : Option Isa.Instruction → Built
as_built (Some i) = Instruction i
as_built None = NotInForm

-- a number from 0 to top
abbrev pub unsigned_in : ℕ → ℤ → Option ℕ
unsigned_in top (pos n) = cond (leb n top) (Some n) None
unsigned_in top (negsuc n) = None

-- an i32
abbrev pub signed_in : ℤ → Option ℤ
signed_in z = cond (is_i32 z) (Some z) None

-- what is taken where the first number gives a value
abbrev pub first_taken : {A : Type 0} → Option A → List ℤ → Taken A
first_taken None zs = not_there
first_taken (Some a) zs = taken a zs

abbrev pub is_negative : ℤ → Bool
is_negative (pos n) = false
is_negative (negsuc n) = true

abbrev pub literal_of : ℤ → Literal
literal_of z = record { negative = is_negative z; magnitude = nat_abs z }

abbrev pub zero_literal : Literal
zero_literal = record { negative = false; magnitude = 0 }

unfoldable pub stored : Literals → Literal → Literals
stored n l = cond (ltb n.count 24) (record { places = set n.places n.count l; count = n.count + 1 }) n

unfoldable pub pushed : Literals → ℤ → Literals
pushed n z = stored n (literal_of z)

unfoldable pub pushed_all : Literals → List Entry → Literals
pushed_all n [] = n
pushed_all n (e ∷ es) = pushed_all (pushed n (entry_number e)) es

unfoldable pub none : Literals
none = record { places = pad 24 zero_literal []; count = 0 }

-- the entries' numbers, from place 0 on
unfoldable pub numbers_from : List Entry → Literals
numbers_from es = record { places = pad 24 zero_literal (map (λ e. literal_of (entry_number e)) es); count = length es }

-- the literals that stand in the places
unfoldable pub literals_held : Literals → List Literal
literals_held n = take n.count n.places
