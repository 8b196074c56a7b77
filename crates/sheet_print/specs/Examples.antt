-- The definitions at work.
use Rattle.std.specs.Prelude.{◌≡◌, refl, [], ◌∷◌, negsuc}
use Rattle.base_spec.specs.Written.{decimal_of}
use Rattle.sheet_spec.specs.Names.{bytes}
use Rattle.sheet_spec.specs.Translate.{full, outcome_at}
use Rattle.print_spec.specs.Printed.{line_text, line_refusal, printed_of}

-- a line of one word, and one of two
lines : (line_text 3 4100 (0x66FC ∷ []) ≡ bytes "3\t00001004\t66FC\n") × (line_text 4096 0xFFFFFFFC (0x4278 ∷ 0x8000 ∷ []) ≡ bytes "4096\tFFFFFFFC\t4278\t8000\n")
unfolding line_text decimal_of
lines = (refl, refl)

refusal : line_refusal 2 12 1 (negsuc 128) ≡ bytes "refused\t2\t12\t1\t-129\n"
unfolding line_refusal decimal_of
refusal = refl

-- START 4097 (01)
odd : printed_of full (bytes "START\t4097\nNOP\n") 4096 16384 ≡ bytes "refused\t9\t0\t0\t0\n"
unfolding printed_of outcome_at line_refusal decimal_of
odd = refl
