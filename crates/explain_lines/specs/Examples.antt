-- The definition at work.
use Rattle.std.specs.Prelude.{◌≡◌, refl, true}
use Rattle.base_spec.specs.Written.{decimal_of}
use Rattle.sheet_spec.specs.Names.{bytes}
use Rattle.sheet_spec.specs.Line.{equal}
use Rattle.explain_spec.specs.Refusal.{no_refusal, refusal_of, refusal_in}
use Rattle.explain_spec.specs.Sentence.{wrong_of, detail_of, is_known, where_of, sentence_of}
use Rattle.explain_spec.specs.Explained.{explained_line, explained_from, explained}

-- a line of a listing and a sheet's refusal; the last line has no LF
sheet : equal (explained (bytes "1\t00001000\t7005\nrefused\t2\t3\t1\t128\nrefused\t7\t5\t0\t0"))
    (bytes "1\t00001000\t7005\nrefused\t2\t3\t1\t128\nline 3: the value 128 does not fit field 1, the displacement byte of a short branch, which holds -128 to 127, not 0 or -1\nrefused\t7\t5\t0\t0")
    ≡ true
unfolding explained_from explained_line refusal_in refusal_of no_refusal sentence_of is_known wrong_of detail_of where_of decimal_of
sheet = refl

-- three numbers, with a reason that has no row and one that has
reasons : equal (explained (bytes "refused\t3\t66\t0\nrefused\t3\t41\t0\t=>\t2\n")) (bytes "refused\t3\t66\t0\nrefused\t3\t41\t0\t=>\t2\nno encoding, by this rule (reason 41): `cmpm` compares two `(An)+` operands\n") ≡ true
unfolding explained_from explained_line refusal_in refusal_of no_refusal sentence_of is_known wrong_of detail_of where_of decimal_of
reasons = refl

-- what stands outside the lines of a sheet, and what is no refusal
outside : equal (explained (bytes "refused\t7\t0\t0\t0\nrefused\t7\t0\t0\nrefused\t7\t0\t-1\t0\n")) (bytes "refused\t7\t0\t0\t0\nthe START line is not in the form: `START`, a tab and an address from 0 to 4294967295\nrefused\t7\t0\t0\nnot in the form: a field that does not belong there, or a field too many or too few\nrefused\t7\t0\t-1\t0\n") ≡ true
unfolding explained_from explained_line refusal_in refusal_of no_refusal sentence_of is_known wrong_of detail_of where_of decimal_of
outside = refl
