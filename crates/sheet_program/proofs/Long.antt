-- What is printed of a text that fills the places that are lent for it. Assumes nothing.
use Rattle.std.specs.Prelude.{◌≡◌, ℕ, List, ◌≤◌, length}
use Rattle.std.proofs.Common.{arith}
use Rattle.sheet_spec.specs.Translate.{full}
use Rattle.print_spec.specs.Printed.{printed_of, too_long_input}
use Rattle.sheet_print.specs.PrintedLaws.{long-refused}

pub long_sheet : (text : List ℕ) → 65537 ≤ length text → printed_of full text 4096 16384 ≡ too_long_input
long_sheet text h = long-refused full text 4096 16384 (omega arith)
