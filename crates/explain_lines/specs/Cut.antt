-- Where a text that comes in pieces is cut.
use Rattle.std.specs.Prelude.{ℕ, suc, ◌+◌, ◌-◌, Bool, true, false, cond, List, [], ◌∷◌, ◌++◌, eqb, leb, length, take, drop}
use Rattle.base_spec.specs.Lines.{answers_of}
use Rattle.explain_spec.specs.Explained.{explained_line}
use Rattle.explain_lines.specs.declared.Cut.{Cut}

-- the place after the last LF, and after the first; 0 where there is none
abbrev pub ended_of : List ℕ → ℕ
ended_of [] = 0
ended_of (b ∷ bs) = cond (eqb (ended_of bs) 0) (cond (eqb b 10) 1 0) (suc (ended_of bs))

abbrev pub first_end : List ℕ → ℕ
first_end [] = 0
first_end (b ∷ bs) = cond (eqb b 10) 1 (cond (eqb (first_end bs) 0) 0 (suc (first_end bs)))

-- from a place where a line begins: the ended lines are explained, and the rest is kept unless it is too long
unfoldable pub cut_from : List ℕ → ℕ → Cut
cut_from text passed =
    let ended = passed + ended_of (drop passed text) in
    cond (leb 65536 (length text - ended)) (record { passed = passed; ended = ended; kept = length text; begun = true })
    (record { passed = passed; ended = ended; kept = ended; begun = false })

-- inside a line that is passed on as it is, its rest first
unfoldable pub cut_of : Bool → List ℕ → Cut
cut_of begun text =
    cond begun
    (cond (eqb (first_end text) 0) (record { passed = length text; ended = length text; kept = length text; begun = true }) (cut_from text (first_end text)))
    (cut_from text 0)

-- the text between two places
abbrev pub between : ℕ → ℕ → List ℕ → List ℕ
between a b text = take (b - a) (drop a text)

-- what is printed of a text that is cut
abbrev pub cut_text : Cut → List ℕ → List ℕ
cut_text c text = take c.passed text ++ answers_of explained_line (between c.passed c.ended text) ++ between c.ended c.kept text

-- what is printed as pieces come, behind what was kept
abbrev pub printed_pieces : Bool → List ℕ → List (List ℕ) → List ℕ
printed_pieces begun kept [] = kept
printed_pieces begun kept (p ∷ ps) =
    let c = cut_of begun (kept ++ p) in
    cut_text c (kept ++ p) ++ printed_pieces c.begun (drop c.kept (kept ++ p)) ps

-- the whole text that pieces make
abbrev pub joined : List (List ℕ) → List ℕ
joined [] = []
joined (p ∷ ps) = p ++ joined ps
