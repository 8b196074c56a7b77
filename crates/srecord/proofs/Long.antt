-- What is printed of a text that fills the places that are lent for it. Assumes nothing.
use Rattle.std.specs.Prelude.{◌≡◌, refl, ℕ, Bool, true, false, List, ◌&&◌, ◌≤◌, leb, eqb, length}
use Rattle.std.proofs.Common.{arith}
use Rattle.std.proofs.lemmas.Bool.{lt-leb}
use Rattle.sheet_spec.specs.Sheet.{is_sheet, feeds, last}
use Rattle.sheet_spec.specs.Translate.{outcome_at}
use Rattle.print_spec.specs.Printed.{too_long_input}
use Rattle.srecord_spec.specs.Printed.{sheet_records}

sheet_long : (text : List ℕ) → 65537 ≤ length text → is_sheet text ≡ false
sheet_long text h = rw (lt-leb (length text) 65536 (omega arith)) (long (leb 1 (length text)))
  where
    long : (b : Bool) → (((b && false) && eqb (last text) 10) && leb 2 (feeds text)) && leb (feeds text) 4097 ≡ false
    long true = refl
    long false = refl

pub long_records : (text : List ℕ) → 65537 ≤ length text → sheet_records text 4096 16384 ≡ too_long_input
unfolding sheet_records outcome_at
long_records text h = rw (sheet_long text h)
