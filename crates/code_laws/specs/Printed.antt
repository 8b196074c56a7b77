-- Numbers printed one after the other. Assumes nothing.
use Rattle.std.specs.Prelude.{ℕ, zero, suc, ◌≤◌, ◌≡◌, refl, List, [], ◌∷◌, ◌++◌, map, length, take, ℤ}
use Rattle.std.proofs.Common.{sym, ap, ◌∙◌, append_assoc, append-nil, arith}
use Rattle.base_facts.specs.Lists.{pad}
use Rattle.base_spec.specs.declared.Literal.{Literal}
use Rattle.base_spec.specs.Refused.{tab}
use Rattle.base_spec.specs.Written.{signed_of}
use Rattle.numeric_spec.specs.Entry.{Entry, entry_number}
use Rattle.numeric_form.specs.Numbers.{literal_of, zero_literal, numbers_from, literals_held}
use Rattle.print_spec.specs.ReadAnswer.{numbers_text}
use Rattle.read_answers.specs.Put.{literals_text}
use Rattle.read_answers.specs.AnswerLaws.{literals_text_lem}

-- one number more
pub text_more : (zs : List ℤ) (z : ℤ) → numbers_text (zs ++ (z ∷ [])) ≡ numbers_text zs ++ (signed_of z ++ tab)
text_more [] z = append-nil (signed_of z ++ tab)
text_more (y ∷ zs) z =
    ap (λ (t : List ℕ). signed_of y ++ tab ++ t) (text_more zs z) ∙ sym (append_assoc (signed_of y ++ tab) (numbers_text zs) (signed_of z ++ tab))

abbrev held : Entry → Literal
held = λ e. literal_of (entry_number e)

-- the first k of the literals that are held
firsts : (m k : ℕ) (es : List Entry) → k ≤ length es → k ≤ m → take k (take (length es) (pad m zero_literal (map held es))) ≡ map held (take k es)
firsts m zero es h g = refl
firsts zero (suc k) es h g = absurd (omega arith)
firsts (suc m) (suc k) [] h g = absurd (omega arith)
firsts (suc m) (suc k) (e ∷ es) h g = ap (λ (ls : List Literal). held e ∷ ls) (firsts m k es (omega arith) (omega arith))

-- and their text
pub first_text : (es : List Entry) (k : ℕ) → k ≤ length es → k ≤ 24 → literals_text (take k (literals_held (numbers_from es))) ≡ numbers_text (map entry_number (take k es))
unfolding literals_held numbers_from
first_text es k h g = ap literals_text (firsts 24 k es h g) ∙ literals_text_lem (take k es)
