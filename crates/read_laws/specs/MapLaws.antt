-- The operation code map: what a group says of the fields of its words, by induction over the rows; which group fields are in; and the sizes.
use Rattle.std.specs.Prelude.{ℕ, suc, ◌+◌, ◌-◌, ◌<◌, ◌≤◌, ◌≡◌, refl, Bool, true, false, ◌&&◌, cond, List, [], ◌∷◌, eqb, ltb, leb}
use Rattle.std.proofs.Common.{ap, arith}
use Rattle.isa.specs.declared.Size.{Size}
use Rattle.isa.specs.declared.Size.TheVariants.{Byte, Word, Long}
use Rattle.isa_spec.specs.Code.{size_code}
use Rattle.read_spec.specs.declared.Group.{Group}
use Rattle.read_spec.specs.Map.{Row, row, map, in_row, group_in, first_of, group_at}
use Rattle.read_places.specs.Groups.{group_number}
use Rattle.read_places.specs.GroupLaws.{same_group}
use Rattle.read_spec.specs.Operation.{size_at}
use Rattle.base_facts.specs.Tests.{all, all_in, below, and-true, eqb_eq, eqb_is, ltb_is, leb_is}
use Rattle.read_laws.specs.Tests.{Fact, known, Known, says, implies, among, each-test}

-- at most one row has any upper ten bits, so that it plays no part which row comes first
abbrev pub rows_at : List Row → ℕ → ℕ → ℕ → ℕ
rows_at [] line x opmode = 0
rows_at (r ∷ rs) line x opmode = cond (in_row r line x opmode) (suc (rows_at rs line x opmode)) (rows_at rs line x opmode)

pub one-row : (line x opmode : ℕ) → line < 16 → x < 8 → opmode < 8 → rows_at map line x opmode ≤ 1
unfolding map
one-row line x opmode hl hx ho =
    let few : ℕ → ℕ → ℕ → Bool = λ line x opmode. leb (rows_at map line x opmode) 1 in
    let a = below (λ line. all (λ x. all (few line x) 8) 8) 16 refl line hl in
    let b = below (λ x. all (few line x) 8) 8 a x hx in
    leb_is (rows_at map line x opmode) 1 (below (few line x) 8 b opmode ho)

-- the upper ten bits of an operation word of a group
abbrev pub At : Group → ℕ → ℕ → ℕ → Type 0
At s line x opmode = (line < 16) × (x < 8) × (opmode < 8) × (group_at line x opmode ≡ s)

abbrev pub group_is : Group → ℕ → ℕ → ℕ → Bool
group_is s line x opmode = eqb (group_number (group_at line x opmode)) (group_number s)

group_is_lem : (s : Group) (line x opmode : ℕ) → group_is s line x opmode ≡ true → group_at line x opmode ≡ s
group_is_lem s line x opmode t = same_group (group_at line x opmode) s (eqb_eq (group_number (group_at line x opmode)) (group_number s) t)

abbrev pub is_at : Group → ℕ → ℕ → ℕ → Bool
is_at s line x opmode = ltb line 16 && ltb x 8 && ltb opmode 8 && group_is s line x opmode

pub at_code : (s : Group) (line x opmode : ℕ) → is_at s line x opmode ≡ true → At s line x opmode
at_code s line x opmode t =
    let u = and-true (ltb line 16 && ltb x 8 && ltb opmode 8) _ t in
    let v = and-true (ltb line 16 && ltb x 8) _ u.0 in
    let w = and-true (ltb line 16) _ v.0 in
    (ltb_is line 16 w.0, ltb_is x 8 w.1, ltb_is opmode 8 v.1, group_is_lem s line x opmode u.1)

-- of all registers, of all sizes, and of the opmodes that pass a test
pub at_upto : (s : Group) (line opmode n : ℕ) → all (λ x. is_at s line x opmode) n ≡ true → (x : ℕ) → x < n → At s line x opmode
at_upto s line opmode n t x h = at_code s line x opmode (below (λ x. is_at s line x opmode) n t x h)

pub at_registers : (s : Group) (line opmode : ℕ) → all (λ x. is_at s line x opmode) 8 ≡ true → (x : ℕ) → x < 8 → At s line x opmode
at_registers s line opmode = at_upto s line opmode 8

pub code_lt : (s : Size) → size_code s < 3
code_lt Byte = omega arith
code_lt Word = omega arith
code_lt Long = omega arith

pub at_below : (s : Group) (line x n : ℕ) → all (λ o. is_at s line x o) n ≡ true → (opmode : ℕ) → opmode < n → At s line x opmode
at_below s line x n t opmode h = at_code s line x opmode (below (λ o. is_at s line x o) n t opmode h)

pub at_sizes : (s : Group) (line x : ℕ) → all (λ o. is_at s line x o) 3 ≡ true → (z : Size) → At s line x (size_code z)
at_sizes s line x t z = at_below s line x 3 t (size_code z) (code_lt z)

pub at_line : (s : Group) (line : ℕ) (p : ℕ → Bool) → all (λ o. implies (p o) (all (λ x. is_at s line x o) 8)) 8 ≡ true
    → (x opmode : ℕ) → x < 8 → opmode < 8 → p opmode ≡ true → At s line x opmode
at_line s line p t x opmode hx ho e =
    let w : implies (p opmode) (all (λ x. is_at s line x opmode) 8) ≡ true = below (λ o. implies (p o) (all (λ x. is_at s line x o) 8)) 8 t opmode ho in
    at_registers s line opmode (rw e at w) x hx

pub at_among : (s : Group) (ls os : List ℕ) → all_in (λ l. all_in (λ o. all (λ x. is_at s l x o) 8) os) ls ≡ true
    → (line opmode x : ℕ) → among ls line ≡ true → among os opmode ≡ true → x < 8 → At s line x opmode
at_among s ls os t line opmode x hl ho hx =
    at_registers s line opmode (each-test (λ o. all (λ x. is_at s line x o) 8) os (each-test (λ l. all_in (λ o. all (λ x. is_at s l x o) 8) os) ls t line hl)
    opmode ho) x hx

-- what holds of the fields of a group: a test of its rows
abbrev row_says : Group → (ℕ → ℕ → ℕ → List Fact) → Row → Bool
row_says s fs (row t l x y o p) =
    implies (eqb (group_number t) (group_number s)) (all (λ m. implies (leb x m) (all (λ n. implies (leb o n) (known (fs l m n))) (suc p))) (suc y))

abbrev pub rows_say : Group → (ℕ → ℕ → ℕ → List Fact) → List Row → Bool
rows_say s fs [] = ltb 0 (group_number s)
rows_say s fs (r ∷ rs) = row_says s fs r && rows_say s fs rs

implied : (a b : Bool) → implies a b ≡ true → a ≡ true → b ≡ true
implied a b t e = rw e at t

row_says_lem : (s : Group) (fs : ℕ → ℕ → ℕ → List Fact) (r : Row) → row_says s fs r ≡ true
    → (line x opmode : ℕ) → in_row r line x opmode ≡ true → group_in r ≡ s → known (fs line x opmode) ≡ true
row_says_lem s fs (row t l x₀ y o p) k line x opmode g e =
    let a = and-true (eqb line l && leb x₀ x && leb x y && leb o opmode) _ g in
    let b = and-true (eqb line l && leb x₀ x && leb x y) _ a.0 in
    let c = and-true (eqb line l && leb x₀ x) _ b.0 in
    let d = and-true (eqb line l) _ c.0 in
    let opmodes : ℕ → Bool = λ m. all (λ n. implies (leb o n) (known (fs l m n))) (suc p) in
    let u = implied _ _ k (eqb_is (group_number t) (group_number s) (ap group_number e)) in
    let v : opmodes x ≡ true = implied _ _ (below (λ m. implies (leb x₀ m) (opmodes m)) (suc y) u x (omega (arith, leb_is x y c.1))) d.1 in
    let w = implied _ _ (below (λ n. implies (leb o n) (known (fs l x n))) (suc p) v opmode (omega (arith, leb_is opmode p a.1))) b.1 in
    rw (eqb_eq line l d.0) w

rows_say_lem : (s : Group) (fs : ℕ → ℕ → ℕ → List Fact) (rs : List Row) → rows_say s fs rs ≡ true
    → (line x opmode : ℕ) → first_of rs line x opmode ≡ s → known (fs line x opmode) ≡ true
rows_say_lem s fs [] k line x opmode e = absurd (omega (arith, ltb_is 0 (group_number s) k, ap group_number e))
rows_say_lem s fs (r ∷ rs) k line x opmode e = go (rows_say_lem s fs rs (and-true (row_says s fs r) _ k).1 line x opmode) (in_row r line x opmode) refl e
  where
    go : (first_of rs line x opmode ≡ s → known (fs line x opmode) ≡ true) → (b : Bool) → in_row r line x opmode ≡ b
        → cond b (group_in r) (first_of rs line x opmode) ≡ s → known (fs line x opmode) ≡ true
    go ih true g e = row_says_lem s fs r (and-true (row_says s fs r) _ k).0 line x opmode g e
    go ih false g e = ih e

pub in_group : (s : Group) (fs : ℕ → ℕ → ℕ → List Fact) → rows_say s fs map ≡ true
    → (line x opmode : ℕ) → group_at line x opmode ≡ s → Known (fs line x opmode)
unfolding group_at
in_group s fs t line x opmode e = says (fs line x opmode) (rows_say_lem s fs map t line x opmode e)

-- the size field
pub size_code_lem : (s : Size) → size_at (size_code s) ≡ s
size_code_lem Byte = refl
size_code_lem Word = refl
size_code_lem Long = refl

-- each of the sizes
pub each-size : (P : Size → Type 0) → P Byte → P Word → P Long → (s : Size) → P s
each-size P b w l Byte = b
each-size P b w l Word = w
each-size P b w l Long = l

-- in bits 7 and 6, where bit 8 is 1
pub upper_size : (s : Size) → size_at (4 + size_code s - 4) ≡ s
upper_size = each-size (λ s. size_at (4 + size_code s - 4) ≡ s) refl refl refl
