-- What a line makes: an instruction where it is built and its names are lines, else it is turned back with 7 or 8.
use Rattle.std.specs.Prelude.{ℕ, ◌<◌, ◌≡◌, refl, Bool, true, false}
use Rattle.std.proofs.Common.{sym, ap, arith}
use Rattle.std.proofs.Math.Option.{Option}
use Rattle.isa.specs.declared.Instruction.{Instruction}
use Rattle.numeric_spec.specs.declared.Built.{Built}
use Rattle.numeric_spec.specs.declared.Built.TheVariants as built
use Rattle.sheet_spec.specs.Line.{Parsed}
use Rattle.sheet_spec.specs.Made.{resolves_in, makes, turned_back, judged, built_as, made}

pub turned_not : {C : Type 0} {k : ℕ} {i : Instruction} → turned_back k ≡ makes i → C
turned_not e = let z : ◌≡◌ {A = ℕ} 0 1 = cc in absurd (omega arith)

pub judged_makes : (b : Built) (named : Bool) (i : Instruction) → judged b named ≡ makes i → (b ≡ built.Instruction i) × (named ≡ true)
judged_makes (built.Instruction j) true i e = let q : j ≡ i = cc in (ap built.Instruction q, refl)
judged_makes (built.Instruction j) false i e = turned_not e
judged_makes built.NotInForm named i e = turned_not e

-- a line is turned back with 7 or 8
judged_back : (b : Built) (named : Bool) (k : ℕ) → judged b named ≡ turned_back k → 0 < k
judged_back (built.Instruction j) true k e = turned_not (sym e)
judged_back (built.Instruction j) false k e = let q : ◌≡◌ {A = ℕ} 8 k = cc in omega arith
judged_back built.NotInForm named k e = let q : ◌≡◌ {A = ℕ} 7 k = cc in omega arith

pub made_back : (f : ℕ → Option ℕ) (p : Parsed) (k : ℕ) → made f p ≡ turned_back k → 0 < k
unfolding made
made_back f p k e = judged_back (built_as f p) (resolves_in f p) k e
