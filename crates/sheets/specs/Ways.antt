-- The ways of a sheet in a list, by its header's fourth number, and what is answered.
use Rattle.std.specs.Prelude.{ℕ, Bool, List, cond, eqb, leb, Result, Ok, Err}
use Rattle.base_list.specs.declared.Header.{Header}
use Rattle.base_list.specs.declared.Limits.{Limits}
use Rattle.sheet_spec.specs.Translate.{ScratchRule, full, sparse}
use Rattle.print_spec.specs.Printed.{printed_of}
use Rattle.sheets.specs.declared.Way.{Way}
use Rattle.sheets.specs.declared.Way.TheVariants.{Full, Sparse}
use Rattle.sheets.specs.declared.UnknownWay.{UnknownWay}

abbrev pub rule_of : ℕ → ScratchRule
rule_of way = cond (eqb way 1) sparse full

abbrev pub way_of : ℕ → Result Way UnknownWay
way_of n = cond (eqb n 0) (Ok Full) (cond (eqb n 1) (Ok Sparse) (Err (record { 0 = n })))

abbrev pub rule_by : Way → ScratchRule
rule_by Full = full
rule_by Sparse = sparse

-- a header has the places and words that are lent, at most 4,096 and 45,056, and perhaps a way
abbrev pub limits : Limits
limits = record { least = 3; most = 4; second = 4096; third = 45056; fourth = 1 }

abbrev pub is_answered : Header → List ℕ → Bool
is_answered h sheet = leb h.fourth 1

abbrev pub case_text : Header → List ℕ → List ℕ
case_text h sheet = printed_of (rule_of h.fourth) sheet h.second h.third
