-- Laws of the fields of a line, one after another. Assumes nothing.
use mathlib.Core.Path.{◌≡◌, sym, ap, ◌∙◌}
use mathlib.Core.Bool.{cond}
use mathlib.Core.List.{List, ◌∷◌}
use Prim.Native.Nat.{ℕ, ◌+◌, ◌-◌, ◌≤◌}
use native.Mathlib.Omega.{arith}
use lib.ListN.{length, take, drop}
use Rattle.base_text.specs.Parts.{part_end}
use Rattle.base_text.specs.PartLaws.{parts_from, parts_at, parts-start, part_is}
use Rattle.sheet_spec.specs.Names.{bytes}
use Rattle.sheet_spec.specs.Line.{equal}
use Rattle.explain_spec.specs.Refusal.{no_refusal, refusal_from, refusal_in_fields, refusal_in}

-- the field that begins at `from`, and those after it
pub fields_at : (l : List ℕ) (from e : ℕ) → from ≤ length l → e ≡ part_end 9 l from → parts_from 9 l from ≡ take (e - from) (drop from l) ∷ parts_from 9 l (e + 1)
fields_at l from e h g = rw (parts_at 9 l from h, part_is 9 l from e g, g)

-- what a line prints, by its first field
pub refusal_at : (line : List ℕ) (e : ℕ) → e ≡ part_end 9 line 0
    → refusal_in line ≡ cond (equal (take e line) (bytes "refused")) (refusal_from (parts_from 9 line (e + 1))) no_refusal
unfolding refusal_in
refusal_at line e g =
    let q : e - 0 ≡ e = omega arith in
    ap refusal_in_fields (sym (parts-start 9 line) ∙ fields_at line 0 e (omega arith) g)
    ∙ ap (λ (n : ℕ). cond (equal (take n line) (bytes "refused")) (refusal_from (parts_from 9 line (e + 1))) no_refusal) q
