-- Line A and line F words are shown by both readers.
use Rattle.std.specs.Prelude.{ℕ, ◌/◌, ◌≡◌, refl, List, ◌∷◌}
use Rattle.std.proofs.Common.{arith, eq-eqb}
use Rattle.isa.specs.declared.RawOperation.TheVariants.{LINEA, LINEF}
use Rattle.isa.specs.declared.Instruction.TheVariants.{Raw}
use Rattle.isa_facts.specs.Ordinary.{ordinary}
use Rattle.encode_spec.specs.System.{raw_parts}
use Rattle.read_spec.specs.Reading.{Read}
use Rattle.read_spec.specs.Read.{read_of}
use Rattle.read_spec.specs.Accepted.{Accepted}
use Rattle.read_laws.specs.ReaderLaws.{complete}
use Rattle.m68000_spec.specs.Reading68000.{First}
use Rattle.m68000_spec.specs.Of68000.{of68000}
use Rattle.m68000_spec.specs.Read68000.{read_68000_of}
use Rattle.m68000_laws.specs.Exactly.{shown_exactly}

line_a_accepted : (a w : ℕ) → w / 4096 ≡ 10 → Accepted a (Raw LINEA w)
unfolding raw_parts
line_a_accepted a w e = (omega (arith, e), simp (eq-eqb _ _ e), ordinary _ refl)

line_f_accepted : (a w : ℕ) → w / 4096 ≡ 15 → Accepted a (Raw LINEF w)
unfolding raw_parts
line_f_accepted a w e = (omega (arith, e), simp (eq-eqb _ _ e), ordinary _ refl)

pub line_a_shown : (a w : ℕ) (rest : List ℕ) → w / 4096 ≡ 10
    → (read_of (w ∷ rest) a ≡ Read (Raw LINEA w) 2) × (read_68000_of (w ∷ rest) a ≡ First (Read (Raw LINEA w) 2))
unfolding raw_parts of68000
line_a_shown a w rest e =
    let r : read_of (w ∷ rest) a ≡ Read (Raw LINEA w) 2 = complete a (Raw LINEA w) rest (line_a_accepted a w e) in
    (r, (shown_exactly (w ∷ rest) a (Raw LINEA w) 2).1 r refl)

pub line_f_shown : (a w : ℕ) (rest : List ℕ) → w / 4096 ≡ 15
    → (read_of (w ∷ rest) a ≡ Read (Raw LINEF w) 2) × (read_68000_of (w ∷ rest) a ≡ First (Read (Raw LINEF w) 2))
unfolding raw_parts of68000
line_f_shown a w rest e =
    let r : read_of (w ∷ rest) a ≡ Read (Raw LINEF w) 2 = complete a (Raw LINEF w) rest (line_f_accepted a w e) in
    (r, (shown_exactly (w ∷ rest) a (Raw LINEF w) 2).1 r refl)
