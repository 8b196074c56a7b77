-- The sentence of a refusal: the line of the sheet, what is wrong, and the field with the value or the reason.
use Rattle.std.specs.Prelude.{ℕ, Bool, cond, not, ◌&&◌, ◌||◌, List, [], ◌∷◌, ◌++◌, map, eqb, get_or}
use Prim.Native.String.{String}
use Rattle.base_spec.specs.Written.{decimal_of}
use Rattle.sheet_spec.specs.Names.{bytes}
use Rattle.sheet_spec.specs.Line.{is_none}
use Rattle.explain_spec.specs.declared.Refusal.{Refusal}
use Rattle.explain_spec.specs.Table.{number_rows, field_rows, reason_rows}

-- row n, counted from 1; empty where there is none
abbrev pub row_at : List (List ℕ) → ℕ → List ℕ
row_at rows n = get_or ([] ∷ rows) n []

abbrev pub field_text_of : String × String → List ℕ
field_text_of r = bytes r.0 ++ bytes ", which holds " ++ bytes r.1

abbrev pub line_texts : List (List ℕ)
line_texts = map (λ (r : String × String). bytes r.0) number_rows

abbrev pub sheet_texts : List (List ℕ)
sheet_texts = map (λ (r : String × String). bytes r.1) number_rows

abbrev pub field_texts : List (List ℕ)
field_texts = map field_text_of field_rows

abbrev pub reason_texts : List (List ℕ)
reason_texts = map bytes reason_rows

-- a refusal of a sheet that stands at no line
abbrev pub is_outside : Refusal → Bool
is_outside r = r.sheet && eqb r.line 0

-- what is wrong
unfoldable pub wrong_of : Refusal → List ℕ
wrong_of r = cond (is_outside r) (row_at sheet_texts r.number) (row_at line_texts r.number)

-- the field of 2, the reason of 3
unfoldable pub detail_of : Refusal → List ℕ
detail_of r = cond (eqb r.number 2) (row_at field_texts r.detail) (cond (eqb r.number 3) (row_at reason_texts r.detail) [])

abbrev pub has_detail : Refusal → Bool
has_detail r = eqb r.number 2 || eqb r.number 3

-- whether the table has its number, and its field or reason
unfoldable pub is_known : Refusal → Bool
is_known r = not (is_none (wrong_of r)) && not (has_detail r && is_none (detail_of r))

-- line n:
unfoldable pub where_of : Refusal → List ℕ
where_of r = cond (r.sheet && not (eqb r.line 0)) (bytes "line " ++ decimal_of r.line ++ bytes ": ") []

abbrev pub value_text : Refusal → List ℕ
value_text r = cond r.negative (45 ∷ []) [] ++ decimal_of r.value

-- # is the value, & the detail
abbrev pub filled_byte : Refusal → ℕ → List ℕ
filled_byte r b = cond (eqb b 35) (value_text r) (cond (eqb b 38) (decimal_of r.detail) (b ∷ []))

abbrev pub filled : Refusal → List ℕ → List ℕ
filled r [] = []
filled r (b ∷ bs) = filled_byte r b ++ filled r bs

-- a line of its own, or nothing
unfoldable pub sentence_of : Refusal → List ℕ
sentence_of r = cond (is_known r) (where_of r ++ filled r (wrong_of r) ++ filled r (detail_of r) ++ (10 ∷ [])) []
