-- What a line says fits the grammar. Assumes nothing.
use Rattle.std.specs.Prelude.{ℕ, zero, suc, pred, ◌≡◌, refl, Bool, List, [], ◌∷◌, ◌++◌, map, get_or}
use Rattle.std.proofs.Common.{arith}
use Rattle.base_spec.specs.Parts.{fields}
use Rattle.sheet_spec.specs.declared.Kind.{Kind}
use Rattle.sheet_spec.specs.declared.Kind.TheVariants as kind
use Rattle.sheet_spec.specs.Grammar.{kinds_of}
use Rattle.sheet_spec.specs.Line.{Token, literal, label, invalid, token, Parsed, says, no, with, after, line_from, line_of}
use Rattle.sheet_spec.specs.Spell.{next_kinds, SuitAll}
use Rattle.sheet_spec.specs.Sheet.{instruction_lines, sheet_in, line_at}
use Rattle.sheet_spec.specs.Promises.{InGrammar}
use Rattle.sheet_facts.specs.Fields.{token_suits}

no_says : {vs : List Token} → no ≡ says vs → ⊥
no_says e = let z : ◌≡◌ {A = ℕ} 0 1 = cc in absurd (omega arith)

literal_some : {s : Bool} {n : ℕ} → literal s n ≡ invalid → ⊥
literal_some e = let z : ◌≡◌ {A = ℕ} 0 1 = cc in absurd (omega arith)

label_some : {n : ℕ} → label n ≡ invalid → ⊥
label_some e = let z : ◌≡◌ {A = ℕ} 0 1 = cc in absurd (omega arith)

-- what holds of kinds, fields and what they say: of none, and of one more when it holds of the others
module _ (P : List Kind → List (List ℕ) → List Token → Type 0) (none : P [] [] [])
    (more : (k : Kind) (ks : List Kind) (f : List ℕ) (fs : List (List ℕ)) (v : Token) (vs : List Token) → token k f ≡ v → (v ≡ invalid → ⊥)
    → P (next_kinds k v ++ ks) fs vs → P (k ∷ ks) (f ∷ fs) (v ∷ vs)) where
  module _ (k : Kind) (ks : List Kind) (f : List ℕ) (fs : List (List ℕ)) (v : Token) (vs : List Token) (e : token k f ≡ v) (h : v ≡ invalid → ⊥) where
    first : (p : Parsed) → with v p ≡ says vs → ((ws : List Token) → p ≡ says ws → P (next_kinds k v ++ ks) fs ws) → P (k ∷ ks) (f ∷ fs) vs
    first (says ws) q next = let r : v ∷ ws ≡ vs = cc in rw (← r) (more k ks f fs v ws e h (next ws refl))
    first no q next = absurd (no_says q)

  pub by_fields : (ks : List Kind) (fs : List (List ℕ)) (vs : List Token) → line_from ks fs ≡ says vs → P ks fs vs
  by_fields [] [] vs e = let r : [] ≡ vs = cc in rw (← r) none
  by_fields [] (f ∷ fs) vs e = absurd (no_says e)
  by_fields (k ∷ ks) [] vs e = absurd (no_says e)
  by_fields (k ∷ ks) (f ∷ fs) vs e = go (token k f) refl e (λ ls ws q. by_fields ls fs ws q)
    where
      go : (v : Token) → token k f ≡ v → after v (λ n. line_from (kinds_of k n ++ ks) fs) (line_from ks fs) ≡ says vs
          → ((ls : List Kind) (ws : List Token) → line_from ls fs ≡ says ws → P ls fs ws) → P (k ∷ ks) (f ∷ fs) vs
      go (literal s n) t q next = first k ks f fs (literal s n) vs t literal_some (line_from (kinds_of k n ++ ks) fs) q (next (kinds_of k n ++ ks))
      go (label n) t q next = first k ks f fs (label n) vs t label_some (line_from ks fs) q (next ks)
      go invalid t q next = absurd (no_says q)

  -- of a line
  pub by_line : (t : List ℕ) (vs : List Token) → line_of t ≡ says vs → P (kind.Instruction ∷ []) (fields t) vs
  unfolding line_of
  by_line t vs e = by_fields (kind.Instruction ∷ []) (fields t) vs e

pub line_fits : (t : List ℕ) (vs : List Token) → line_of t ≡ says vs → SuitAll (kind.Instruction ∷ []) vs
line_fits = by_line (λ ks fs vs. SuitAll ks vs) tt (λ k ks f fs v vs e h r. (token_suits k f v e h, r))

-- ---- what the lines of a text say is in the grammar
pub parsed_grammar : (t : List ℕ) → InGrammar (line_of t)
parsed_grammar t = go (line_of t) refl
  where
    go : (p : Parsed) → line_of t ≡ p → InGrammar p
    go (says vs) e = line_fits t vs e
    go no e = tt

grammar_at : (ls : List (List ℕ)) (k : ℕ) → InGrammar (get_or (map line_of ls) k no)
grammar_at [] k = tt
grammar_at (l ∷ ls) zero = parsed_grammar l
grammar_at (l ∷ ls) (suc k) = grammar_at ls k

pub line_grammar : (text : List ℕ) (n : ℕ) → InGrammar (line_at (sheet_in text) n)
line_grammar text n = grammar_at (instruction_lines text) (pred n)
