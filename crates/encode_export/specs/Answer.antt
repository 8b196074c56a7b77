-- What an exported function answers.
use Rattle.std.specs.Prelude.{ℕ, pos, replicate}
use Rattle.isa.specs.declared.Encoded.{Encoded}
use Rattle.numeric_spec.specs.declared.Built.{Built}
use Rattle.numeric_spec.specs.declared.Built.TheVariants.{Instruction, NotInForm}
use Rattle.encode_spec.specs.Encode.{encode_of}
use Rattle.encode_export.specs.declared.Answer.{Answer}

-- what `encode` returns, as it stands
abbrev pub answered_as : Encoded → Answer
answered_as e = record { words = e.words; count = e.count; number = e.number; detail = e.detail; value = e.value }

-- of what numbers say, at an address; refusal 7 where they are not in the form
abbrev pub answer_for : Built → ℕ → Answer
answer_for (Instruction i) address = answered_as (encode_of i address)
answer_for NotInForm address = record { words = replicate 11 0; count = 0; number = 7; detail = 0; value = pos 0 }
