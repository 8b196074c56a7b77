-- A line is in the form exactly when it is the spelling of an instruction's line, whatever its names are made. Assumes nothing.
use Rattle.std.specs.Prelude.{ℕ, ◌≡◌, List}
use Rattle.std.proofs.Common.{ap, ◌∙◌}
use Rattle.std.proofs.Math.Option.{Option}
use Rattle.isa.specs.declared.Instruction.{Instruction}
use Rattle.sheet_spec.specs.Line.{Token, line_of}
use Rattle.sheet_spec.specs.Spell.{spell}
use Rattle.sheet_spec.specs.Made.{Line, makes, made}
use Rattle.sheet_facts.specs.Lines.{parsed_grammar}
use Rattle.sheet_size_facts.specs.Says.{line_says_lem, line_makes}
use Rattle.sheet_form_laws.specs.LineForm.{line_spelled, spelled_line_lem}

pub form_sound : (f : ℕ → Option ℕ) (t : List ℕ) (i : Instruction) → made f (line_of t) ≡ makes i → (vs : List Token) × Line f vs i × (t ≡ spell vs)
form_sound f t i e = let d = line_says_lem f (line_of t) i (parsed_grammar t) e in (d.0, d.2, (spelled_line_lem t d.0 d.1).1)

pub form_complete : (f : ℕ → Option ℕ) (vs : List Token) (i : Instruction) → Line f vs i → made f (line_of (spell vs)) ≡ makes i
form_complete f vs i l = ap (made f) (line_spelled vs l.grammar) ∙ line_makes f vs i l
