-- The second reader's answer is the first's, or 15 exactly where the first reads what the MC68000 has not.
use Rattle.std.specs.Prelude.{ℕ, ◌≡◌, refl, Bool, true, false, cond, List}
use Rattle.std.proofs.Common.{sym, ap, ◌∙◌, arith}
use Rattle.isa.specs.declared.Instruction.{Instruction}
use Rattle.read_spec.specs.Reading.{Reading, Read, Short, Nothing}
use Rattle.read_spec.specs.Read.{read_of}
use Rattle.m68000_spec.specs.Reading68000.{Reading68000, First, NotOf68000}
use Rattle.m68000_spec.specs.Of68000.{of68000}
use Rattle.m68000_spec.specs.Read68000.{restricted, read_68000_of, refusal68000}
use Rattle.m68000_spec.specs.Promises.{Unmarked}
use Rattle.base_facts.specs.Tests.{cond_true, cond_false}

-- ---- of a reading that is answered
first_same : (q r : Reading) → First q ≡ First r → q ≡ r
first_same q r e = cc

no_first : {C : Type 0} {r : Reading} → NotOf68000 ≡ First r → C
no_first e = let z : ◌≡◌ {A = ℕ} 0 1 = cc in absurd (omega arith)

first_no : {C : Type 0} {r : Reading} → First r ≡ NotOf68000 → C
first_no e = let z : ◌≡◌ {A = ℕ} 0 1 = cc in absurd (omega arith)

answer_first : (q r : Reading) → restricted q ≡ First r → q ≡ r
answer_first (Read i n) r e = go (of68000 i) e
  where
    go : (t : Bool) → cond t (First (Read i n)) NotOf68000 ≡ First r → Read i n ≡ r
    go true g = first_same (Read i n) r g
    go false g = no_first g
answer_first Short r e = first_same Short r e
answer_first Nothing r e = first_same Nothing r e

answer_of_lem : (i : Instruction) (n : ℕ) {r : Reading} → restricted (Read i n) ≡ First r → of68000 i ≡ true
answer_of_lem i n {r} e = go (of68000 i) refl
  where
    go : (t : Bool) → of68000 i ≡ t → of68000 i ≡ true
    go true g = g
    go false g = no_first (rw g at e)

answer_refused : (q : Reading) → restricted q ≡ NotOf68000 → Unmarked q
answer_refused (Read i n) e = go (of68000 i) refl
  where
    go : (t : Bool) → of68000 i ≡ t → Unmarked (Read i n)
    go true g = first_no (rw g at e)
    go false g = (i, n, refl, g)
answer_refused Short e = first_no e
answer_refused Nothing e = first_no e

-- ---- of a run of words
first_alike : (ws : List ℕ) (a : ℕ) (r : Reading) → read_68000_of ws a ≡ First r → read_of ws a ≡ r
unfolding read_68000_of
first_alike ws a r e = answer_first (read_of ws a) r e

-- what it answers, by the first's answer
pub as_restricted : (ws : List ℕ) (a : ℕ) (r : Reading) → read_of ws a ≡ r → read_68000_of ws a ≡ restricted r
unfolding read_68000_of
as_restricted ws a r e = ap restricted e

-- it answers 5 exactly where the first does, and 6 exactly where the first does
pub short_alike : (ws : List ℕ) (a : ℕ) → (read_68000_of ws a ≡ First Short → read_of ws a ≡ Short) × (read_of ws a ≡ Short → read_68000_of ws a ≡ First Short)
short_alike ws a = (first_alike ws a Short, as_restricted ws a Short)

pub nothing_alike : (ws : List ℕ) (a : ℕ)
    → (read_68000_of ws a ≡ First Nothing → read_of ws a ≡ Nothing) × (read_of ws a ≡ Nothing → read_68000_of ws a ≡ First Nothing)
nothing_alike ws a = (first_alike ws a Nothing, as_restricted ws a Nothing)

-- it shows an instruction and a length exactly where the first shows these and the instruction is of the MC68000
pub shown_exactly : (ws : List ℕ) (a : ℕ) (i : Instruction) (n : ℕ)
    → (read_68000_of ws a ≡ First (Read i n) → (read_of ws a ≡ Read i n) × (of68000 i ≡ true))
    × (read_of ws a ≡ Read i n → of68000 i ≡ true → read_68000_of ws a ≡ First (Read i n))
shown_exactly ws a i n = (
  (λ e. let q = first_alike ws a (Read i n) e in (q, answer_of_lem i n (sym (as_restricted ws a (Read i n) q) ∙ e))),
  (λ e t. as_restricted ws a (Read i n) e ∙ cond_true (of68000 i) _ _ t),
)

-- it answers 15 exactly where the first reads what is not of the MC68000
pub refused_exactly : (ws : List ℕ) (a : ℕ) → (read_68000_of ws a ≡ NotOf68000 → Unmarked (read_of ws a)) × (Unmarked (read_of ws a) → read_68000_of ws a ≡ NotOf68000)
unfolding read_68000_of
refused_exactly ws a = (answer_refused (read_of ws a), (λ (i, n, e, t). as_restricted ws a (Read i n) e ∙ cond_false (of68000 i) _ _ t))

-- no other answer has the number 5, 6 or 15
pub numbered : (r : Reading68000)
    → ((refusal68000 r).number ≡ 5 → r ≡ First Short) × ((refusal68000 r).number ≡ 6 → r ≡ First Nothing) × ((refusal68000 r).number ≡ 15 → r ≡ NotOf68000)
numbered (First (Read i n)) = ((λ e. absurd (omega (arith, e))), (λ e. absurd (omega (arith, e))), (λ e. absurd (omega (arith, e))))
numbered (First Short) = ((λ e. refl), (λ e. absurd (omega (arith, e))), (λ e. absurd (omega (arith, e))))
numbered (First Nothing) = ((λ e. absurd (omega (arith, e))), (λ e. refl), (λ e. absurd (omega (arith, e))))
numbered NotOf68000 = ((λ e. absurd (omega (arith, e))), (λ e. absurd (omega (arith, e))), (λ e. refl))
