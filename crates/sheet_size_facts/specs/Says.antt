-- The numbers of a line that makes an instruction are the instruction's. Assumes nothing.
use Rattle.std.specs.Prelude.{ℕ, ◌<◌, ◌≡◌, refl, Bool, true, false, List, [], ◌∷◌, map, length, get_or, pos, nat_abs}
use Rattle.std.proofs.Common.{ap, subst, ◌∙◌}
use Rattle.std.proofs.Math.Option.{Option}
use Rattle.isa.specs.declared.Instruction.{Instruction}
use Rattle.numeric_spec.specs.declared.Built.{Built}
use Rattle.numeric_spec.specs.Entry.{Entry, unsigned}
use Rattle.numeric_spec.specs.Form.{place_of, payload_of}
use Rattle.numeric_spec.specs.Build.{built_of}
use Rattle.numeric_facts.specs.Built.{build_sound, build_complete}
use Rattle.sheet_spec.specs.declared.Kind.TheVariants as kind
use Rattle.sheet_spec.specs.Names.{bytes, names_of}
use Rattle.sheet_spec.specs.Line.{Token, literal, label, invalid, Parsed, says, no}
use Rattle.sheet_spec.specs.Spell.{Variant}
use Rattle.sheet_spec.specs.Made.{number_as, resolves_all, Line, makes, judged, made}
use Rattle.sheet_spec.specs.Promises.{InGrammar}
use Rattle.sheet_facts.specs.Made.{turned_not, judged_makes}

-- an instruction's form
abbrev pub entries : Instruction → List Entry
entries i = unsigned 98 (place_of i) ∷ payload_of i

-- a line that makes an instruction is a line of it, and the other way round
pub line_says_lem : (f : ℕ → Option ℕ) (p : Parsed) (i : Instruction) → InGrammar p → made f p ≡ makes i → (vs : List Token) × (p ≡ says vs) × Line f vs i
unfolding made
line_says_lem f (says vs) i g e =
    let j = judged_makes (built_of (map (number_as f) vs)) (resolves_all f vs) i e in
    let b = build_sound (map (number_as f) vs) i j.0 in
    (vs, refl, record { grammar = g; labels = j.1; numbers = b.0; inside = b.1 })
line_says_lem f no i g e = turned_not e

pub line_makes : (f : ℕ → Option ℕ) (vs : List Token) (i : Instruction) → Line f vs i → made f (says vs) ≡ makes i
unfolding made
line_makes f vs i l = ap (λ (b : Bool). judged (built_of (map (number_as f) vs)) b) l.labels ∙ ap (λ (b : Built). judged b true) (ap built_of l.numbers ∙ build_complete i l.inside)

-- the place of an instruction that a token says has a name
pub place_named : (f : ℕ → Option ℕ) (v : Token) (p : ℕ) → Variant kind.Instruction v → number_as f v ≡ pos p → 0 < length (get_or (map bytes (names_of kind.Instruction)) p [])
place_named f (literal true n) p s e = absurd s
place_named f (literal false n) p s e = subst (λ (k : ℕ). 0 < length (get_or (map bytes (names_of kind.Instruction)) k [])) (ap nat_abs e) s.1
place_named f (label n) p s e = absurd s
place_named f invalid p s e = absurd s
