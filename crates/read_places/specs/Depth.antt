-- How many words a reading looks at.
use Rattle.std.specs.Prelude.{ℕ, zero, suc, ◌+◌, ◌/◌, ◌%◌, ◌≤◌, ◌≡◌, refl, Bool, true, false, cond, List, [], ◌∷◌, ltb, get_or, length, take}
use Rattle.std.proofs.Common.{arith}
use Rattle.base_facts.specs.Numbers.{sucs}
use Rattle.isa.specs.declared.Size.{Size}
use Rattle.isa.specs.declared.Size.TheVariants.{Byte, Word, Long}
use Rattle.isa.specs.declared.DisplacementSize.{DisplacementSize}
use Rattle.isa.specs.declared.DisplacementSize.TheVariants as displacement
use Rattle.encode_spec.specs.Item.{word_address}
use Rattle.isa_spec.specs.ExtensionWord.{is_full, is_canonical, base_size, outer_size}
use Rattle.read_spec.specs.declared.Specifier.{Specifier}
use Rattle.read_spec.specs.declared.Specifier.TheVariants as specifier
use Rattle.read_spec.specs.declared.Layout.{Layout}
use Rattle.read_spec.specs.Tree.{Tree, ret, fail, more, bind, run, Out, got, short, none}
use Rattle.read_places.specs.RunAt.{At, found, ended, refused, run_at}
use Rattle.read_spec.specs.Operand.{displacement_tree, full_tree, brief_operand, indexed_tree, immediate_tree, special_tree, mode_tree, operand_tree}
use Rattle.read_spec.specs.Layout.{valid, one_word, two_words, specifier_tree, accepts, tail_tree}

module _ {A : Type 0} where
  abbrev pub Depth : Tree A → ℕ → Type 0
  Depth (ret x) d = Unit {0}
  Depth fail d = Unit {0}
  Depth (more k) zero = ⊥
  Depth (more k) (suc d) = (at w : ℕ) → Depth (k at w) d

  depth_more : (t : Tree A) (c : ℕ) → Depth t c → Depth t (suc c)
  depth_more (ret x) c h = tt
  depth_more fail c h = tt
  depth_more (more k) zero h = absurd h
  depth_more (more k) (suc c) h = λ at w. depth_more (k at w) c (h at w)

  depth_deeper : (t : Tree A) (c d : ℕ) → Depth t d → Depth t (sucs c d)
  depth_deeper t zero d h = h
  depth_deeper t (suc c) d h = depth_more t (sucs c d) (depth_deeper t c d h)

  depth_cond : (b : Bool) (t u : Tree A) (d : ℕ) → Depth t d → Depth u d → Depth (cond b t u) d
  depth_cond true t u d p q = p
  depth_cond false t u d p q = q

module _ {A B : Type 0} where
  depth_bind : (t : Tree A) (f : A → Tree B) (c d : ℕ) → Depth t c → ((x : A) → Depth (f x) d) → Depth (bind t f) (sucs c d)
  depth_bind (ret x) f c d h g = depth_deeper (f x) c d (g x)
  depth_bind fail f c d h g = tt
  depth_bind (more k) f zero d h g = absurd h
  depth_bind (more k) f (suc c) d h g = λ at w. depth_bind (k at w) f c d (h at w) g

-- ---- an operand's words are at most five
displacement_depth : (s : DisplacementSize) → Depth (displacement_tree s) 2
displacement_depth displacement.Null = tt
displacement_depth displacement.Word = λ at w. tt
displacement_depth displacement.Long = λ at w. λ next v. tt

immediate_depth : (s : Size) → Depth (immediate_tree s) 2
immediate_depth Byte = λ at w. depth_cond (ltb w 256) (ret w) fail 1 tt tt
immediate_depth Word = λ at w. tt
immediate_depth Long = λ at w. λ next v. tt

full_depth : (base at w : ℕ) → Depth (full_tree base at w) 4
full_depth base at w =
    depth_cond (is_canonical w) _ fail 4
    (depth_bind (displacement_tree (base_size w)) _ 2 2 (displacement_depth (base_size w)) (λ z. depth_bind (displacement_tree (outer_size w)) _ 2 0 (displacement_depth (outer_size w)) (λ outer. tt)))
    tt

indexed_depth : (base : ℕ) → Depth (indexed_tree base) 5
indexed_depth base = λ at w. depth_cond (is_full w) (full_tree base at w) (ret (brief_operand base at w)) 4 (full_depth base at w) tt

special_depth : (s : Size) (k : ℕ) → Depth (special_tree s k) 5
special_depth s zero = λ at w. tt
special_depth s (suc zero) = λ at w. λ next v. tt
special_depth s (suc (suc zero)) = λ at w. tt
special_depth s (suc (suc (suc zero))) = indexed_depth 8
special_depth s (suc (suc (suc (suc zero)))) = depth_bind (immediate_tree s) _ 2 3 (immediate_depth s) (λ v. tt)
special_depth s (suc (suc (suc (suc (suc k))))) = tt

mode_depth : (s : Size) (m k : ℕ) → Depth (mode_tree s m k) 5
mode_depth s zero k = tt
mode_depth s (suc zero) k = tt
mode_depth s (suc (suc zero)) k = tt
mode_depth s (suc (suc (suc zero))) k = tt
mode_depth s (suc (suc (suc (suc zero)))) k = tt
mode_depth s (suc (suc (suc (suc (suc zero))))) k = λ at w. tt
mode_depth s (suc (suc (suc (suc (suc (suc zero)))))) k = indexed_depth k
mode_depth s (suc (suc (suc (suc (suc (suc (suc zero))))))) k = special_depth s k
mode_depth s (suc (suc (suc (suc (suc (suc (suc (suc m)))))))) k = tt

pub operand_depth : (s : Size) (ea : ℕ) → Depth (operand_tree s ea) 5
operand_depth s ea = mode_depth s (ea / 8) (ea % 8)

-- ---- a specifier's at most two, so that what follows an operation word has at most twelve
one_depth : (k : Specifier) → Depth (one_word k) 2
one_depth k = λ at w. depth_cond (valid k w) (ret w) fail 1 tt tt

two_depth : (k : Specifier) → Depth (two_words k) 2
two_depth k = λ at w. depth_cond (valid k w) _ fail 1 (λ next v. depth_cond (valid k v) _ fail 0 tt tt) tt

specifier_depth : (k : Specifier) → Depth (specifier_tree k) 2
specifier_depth specifier.Nothing = tt
specifier_depth specifier.Word = one_depth specifier.Word
specifier_depth specifier.Byte = one_depth specifier.Byte
specifier_depth specifier.General = one_depth specifier.General
specifier_depth specifier.Multiply = one_depth specifier.Multiply
specifier_depth specifier.Divide = one_depth specifier.Divide
specifier_depth specifier.Compare = one_depth specifier.Compare
specifier_depth specifier.BitField = one_depth specifier.BitField
specifier_depth specifier.Long = two_depth specifier.Long
specifier_depth specifier.CompareTwo = two_depth specifier.CompareTwo

pub tail_depth : (l : Layout) → Depth (tail_tree l) 12
tail_depth l =
    depth_cond (accepts l) _ fail 12
    (depth_bind (specifier_tree l.specifier) _ 2 10 (specifier_depth l.specifier) (λ v.
    depth_bind (operand_tree l.size l.source) _ 5 5 (operand_depth l.size l.source) (λ o.
    depth_bind (operand_tree l.size l.destination) _ 5 0 (operand_depth l.size l.destination) (λ d. tt))))
    tt

-- ---- what is found is found within the depth, and in the words there
abbrev pub Within : {A : Type 0} → At A → ℕ → Type 0
Within (found x m) n = m ≤ n
Within ended n = Unit {0}
Within refused n = Unit {0}

within_cond : {A : Type 0} (b : Bool) (r : At A) (n : ℕ) → Within r n → Within (cond b r ended) n
within_cond true r n h = h
within_cond false r n h = tt

within_more : {A : Type 0} (r : At A) (m n : ℕ) → m ≤ n → Within r m → Within r n
within_more (found x k) m n l h = omega arith
within_more ended m n l h = tt
within_more refused m n l h = tt

pub depth_within : {A : Type 0} (t : Tree A) (d : ℕ) → Depth t d → (a : ℕ) (ws : List ℕ) (n : ℕ) → Within (run_at t a ws n) (n + d)
depth_within (ret x) d h a ws n = omega arith
depth_within fail d h a ws n = tt
depth_within (more k) zero h a ws n = absurd h
depth_within (more k) (suc d) h a ws n =
    within_cond (ltb n (length ws)) (run_at (k (word_address a n) (get_or ws n 0)) a ws (n + 1)) (n + suc d) (within_more (run_at (k (word_address a n) (get_or ws n 0)) a ws (n + 1)) (n + 1 + d) (n + suc d) (omega arith) (depth_within (k (word_address a n) (get_or ws n 0)) d (h (word_address a n) (get_or ws n 0)) a ws (n + 1)))

abbrev pub at_out : {A : Type 0} → Out A → At A
at_out (got x m r) = found x m
at_out short = ended
at_out none = refused

pub depth_take : {A : Type 0} (t : Tree A) (d : ℕ) → Depth t d → (a n : ℕ) (ws : List ℕ) → at_out (run t a n (take d ws)) ≡ at_out (run t a n ws)
depth_take (ret x) d h a n ws = refl
depth_take fail d h a n ws = refl
depth_take (more k) zero h a n ws = absurd h
depth_take (more k) (suc d) h a n [] = refl
depth_take (more k) (suc d) h a n (w ∷ ws) = depth_take (k (word_address a n) w) d (h (word_address a n) w) a (n + 1) ws
