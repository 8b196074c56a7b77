-- Every instruction whose numbers are inside their types has a line, IllegalWord and SIMHALT excepted, whatever lines its targets name. Assumes nothing.
use Rattle.std.specs.Prelude.{ℕ, ◌<◌, ◌≡◌, refl, List, [], ◌∷◌, map, true, length, get_or, ℤ, pos}
use Rattle.std.proofs.Common.{sym, ap, ◌∙◌, subst, append-nil, arith}
use Rattle.std.proofs.Math.Option.{Option, some}
use Rattle.isa.specs.declared.RawOperation.TheVariants.{IllegalWord}
use Rattle.isa.specs.declared.NoOperandOperation.TheVariants.{SIMHALT}
use Rattle.isa.specs.declared.Instruction.{Instruction}
use Rattle.isa.specs.declared.Instruction.TheVariants.{Raw, NoOperand}
use Rattle.numeric_spec.specs.Entry.{entry_number, Inside}
use Rattle.numeric_spec.specs.Form.{place_of, form_of, numbers_of}
use Rattle.numeric_spec.specs.Form as numeric
use Rattle.sheet_spec.specs.declared.Kind.{Kind}
use Rattle.sheet_spec.specs.declared.Kind.TheVariants as kind
use Rattle.sheet_spec.specs.Names.{bytes, names_of}
use Rattle.sheet_spec.specs.Line.{Token, literal, label, invalid}
use Rattle.sheet_spec.specs.Spell.{SuitAll}
use Rattle.sheet_spec.specs.Made.{resolves_all, Line}
use Rattle.sheet_size_facts.specs.Says.{entries, place_named}
use Rattle.sheet_size_facts.specs.Fitting.{fields_numbers, Fitting}
use Rattle.sheet_spec.specs.Told.{Mark, saying, unaimed, Told}
use Rattle.isa_spec.specs.Ordinary.{Ordinary}
use Rattle.sheet_size_facts.specs.Sorts.{variant-fitting}
use Rattle.sheet_size_facts.specs.Rows.{row}

pub fitted : (i : Instruction) → Ordinary i → (m : ℕ → Mark) (ks : List Kind) → Fitting entries (kind.Instruction ∷ []) i m ks
fitted i l m ks =
    let r = row {d = λ k. true} i in
    let law = r.law (subst Ordinary (sym r.is) l) in
    subst (λ (j : Instruction). Fitting entries (kind.Instruction ∷ []) j m ks) r.is
    (variant-fitting (record { form = entries; kind = kind.Instruction; suits = λ v h. h; names = λ n. (λ h. h, λ k top. refl); top = 98; untargeted = λ x. x })
    (place_of (r.con r.z)) (λ h. ap (λ t. t.0) (law r.z)) r.sort r.con (λ w. ap (λ t. (t.1, t.2)) (law w)) r.z m ks)

names_some : (vs : List Token) → resolves_all (λ k. some 0) vs ≡ true
names_some [] = refl
names_some (literal s n ∷ vs) = names_some vs
names_some (label n ∷ vs) = names_some vs
names_some (invalid ∷ vs) = names_some vs

pub every_line : (m : ℕ → Mark) (i : Instruction) → Ordinary i → Inside (form_of i) → Told m i
unfolding form_of numbers_of
every_line m i l h =
    let f = fitted i l m [] in
    let n = append-nil (numeric.payload_of i) in
    let e : entries f.untargeted ≡ unaimed m (kind.Instruction ∷ []) (entries i) = sym (append-nil (entries f.untargeted)) ∙ sym (rw n at (f.leaves [])) in
    let b = fields_numbers m (kind.Instruction ∷ []) (entries i) h in
    let g : SuitAll (kind.Instruction ∷ []) (saying m (kind.Instruction ∷ []) (entries i)) = (rw n at (f.fits [])) h (λ i. tt) in
    record { untargeted = f.untargeted; form = e; line = record { grammar = g; labels = names_some (saying m (kind.Instruction ∷ []) (entries i)); numbers = b.0 ∙ ap (map entry_number) (sym e); inside = subst Inside (sym e) b.1 } }

-- IllegalWord and SIMHALT have none
line_named : (f : ℕ → Option ℕ) (vs : List Token) (i : Instruction) → Line f vs i → 0 < length (get_or (map bytes (names_of kind.Instruction)) (place_of i) [])
unfolding form_of numbers_of
line_named f [] i l = absurd l.grammar
line_named f (v ∷ vs) i l = place_named f v (place_of i) l.grammar.0 (ap (λ (zs : List ℤ). get_or zs 0 (pos 0)) l.numbers)

pub illegal_word-none : (f : ℕ → Option ℕ) (vs : List Token) (w : ℕ) → Line f vs (Raw IllegalWord w) → ⊥
illegal_word-none f vs w l = let h : 0 < 0 = line_named f vs (Raw IllegalWord w) l in absurd (omega arith)

pub simhalt_none : (f : ℕ → Option ℕ) (vs : List Token) → Line f vs (NoOperand SIMHALT) → ⊥
simhalt_none f vs l = let h : 0 < 0 = line_named f vs (NoOperand SIMHALT) l in absurd (omega arith)
