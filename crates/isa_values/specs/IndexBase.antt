-- The register of an index base.
use Rattle.std.specs.Prelude.{ℕ, cond}
use Rattle.std.specs.declared.option.Option.{Option}
use Rattle.std.specs.declared.option.Option.TheVariants.{None, Some}
use Rattle.isa_spec.specs.IndexBase.{is_address_base}

abbrev pub address_register : ℕ → Option ℕ
address_register n = cond (is_address_base n) (Some n) None
