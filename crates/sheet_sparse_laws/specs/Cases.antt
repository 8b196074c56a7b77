-- The definitions at work by the sparse rule: the places that lines need, what these hold, a sheet of 65 lines, and 11 at its place.
use Rattle.std.specs.Prelude.{ℕ, zero, suc, ◌≡◌, refl, List, [], ◌∷◌, ◌++◌, map, pos}
use Rattle.encode_spec.specs.Encode.{encode_of, size_of}
use Rattle.encode_spec.specs.System.{no_operand_parts}
use Rattle.numeric_spec.specs.Take.{take_unsigned}
use Rattle.numeric_spec.specs.Build.{take_instruction, built_of}
use Rattle.sheet_spec.specs.Names.{bytes}
use Rattle.sheet_spec.specs.Line.{line_of}
use Rattle.sheet_spec.specs.Made.{made}
use Rattle.sheet_spec.specs.Sheet.{sized_of, sheet_in, addresses}
use Rattle.sheet_spec.specs.Translate.{in_order, refused, sparse, outcome_at, outcome_of}

needed : map sparse.needed (1 ∷ 63 ∷ 64 ∷ 65 ∷ 127 ∷ 128 ∷ 129 ∷ 4095 ∷ 4096 ∷ []) ≡ 1 ∷ 1 ∷ 1 ∷ 2 ∷ 2 ∷ 2 ∷ 3 ∷ 64 ∷ 64 ∷ []
needed = refl

-- so many NOPs, a line each
abbrev nops : ℕ → List ℕ
nops zero = []
nops (suc n) = bytes "NOP\n" ++ nops n

abbrev lines65 : List ℕ
lines65 = bytes "START\t4096\n" ++ nops 65

listed : (outcome_of sparse lines65 2 65 ≡ in_order) × (sparse.held (addresses (sheet_in lines65)) ≡ 4096 ∷ 4224 ∷ [])
    × (outcome_of sparse lines65 1 65 ≡ refused 11 0 0 (pos 0)) × (outcome_of sparse lines65 2 64 ≡ refused 11 0 0 (pos 0))
unfolding outcome_at sized_of made line_of built_of take_instruction take_unsigned encode_of size_of no_operand_parts
listed = (refl, refl, refl, refl)

-- no place: after 10, 7 and 9, before a line that is not in the form; with a place the line is met
places : (outcome_of sparse (bytes "START\t4096\nNOP") 0 1 ≡ refused 10 0 0 (pos 0)) × (outcome_of sparse (bytes "START\t-1\nNOP\n") 0 1 ≡ refused 7 0 0 (pos 0))
    × (outcome_of sparse (bytes "START\t4097\nNOP\n") 0 1 ≡ refused 9 0 0 (pos 0)) × (outcome_of sparse (bytes "START\t4096\nnop\n") 0 1 ≡ refused 11 0 0 (pos 0))
    × (outcome_of sparse (bytes "START\t4096\nnop\n") 1 1 ≡ refused 7 1 0 (pos 0))
unfolding outcome_at sized_of made line_of built_of take_instruction take_unsigned encode_of size_of no_operand_parts
places = (refl, refl, refl, refl, refl)
