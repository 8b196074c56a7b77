-- What an operation word and what follows it form: an instruction or nothing, and an instruction where the layout is followed.
use Rattle.std.specs.Prelude.{◌-◌, ℕ, ◌+◌, ◌/◌, ◌%◌, ◌<◌, ◌≡◌, refl, Bool, true, false, cond, List, [], ◌∷◌, eqb, get_or, ℤ}
use Rattle.std.proofs.Common.{ap, sym, ◌∙◌, arith}
use Rattle.std.proofs.lemmas.Bool.{false≢true}
use Rattle.isa.specs.declared.AddressWidth.TheVariants as width
use Rattle.isa.specs.declared.RegisterOperand.TheVariants.{Address, Data}
use Rattle.isa.specs.declared.Size.{Size}
use Rattle.isa.specs.declared.Operand.{Operand}
use Rattle.isa.specs.declared.Operand.TheVariants.{Immediate, Register, Indirect, PostIndirect, PreIndirect, IndirectDisplacement, IndirectIndex, PcDisplacement, PcIndex, Extended, Absolute}
use Rattle.isa.specs.declared.Instruction.{Instruction}
use Rattle.encode_spec.specs.Ea.{mode_of, permits}
use Rattle.read_spec.specs.declared.Group.{Group}
use Rattle.read_spec.specs.declared.Group.TheVariants as group
use Rattle.read_spec.specs.declared.Tail.{Tail}
use Rattle.read_spec.specs.Tree.{Tree, ret, fail, more, run, got, short}
use Rattle.read_spec.specs.Layouts.{layout_of}
use Rattle.read_spec.specs.Decoded.{decoded, movep_decoded, cmpm_decoded, cmpm_to}
use Rattle.base_facts.specs.Tests.{all, eqb_is}
use Rattle.read_operand_laws.specs.TreeLaws.{none_no, none-short, got_short, got_subst}
use Rattle.read_operand_laws.specs.TailStands.{TailStands}
use Rattle.isa.specs.declared.RegisterOperand.{RegisterOperand}
use Rattle.isa.specs.declared.Size.TheVariants.{Byte, Word}
use Rattle.isa_spec.specs.IndexBase.{is_pc}
use Rattle.isa_spec.specs.Mode.{only}
use Rattle.read_spec.specs.Operand.{mode_at}
use Rattle.read_spec.specs.Operation.{size_at}
use Rattle.read_operand_laws.specs.Stands.{Stands}
use Rattle.read_operand_laws.specs.OperandLaws.{mode_field_lem}
use Rattle.read_facts.specs.Flat.{Flat, Live, Decoding, always, unused, dynamic, compare, decoding}
use Rattle.read_laws.specs.Tests.{equal, known, facts_below}
use Rattle.read_laws.specs.Operands.{simple_is}

-- ---- what is formed is an instruction or nothing
pub flat_got : (t : Tree Instruction) → Flat t → (a m : ℕ) (ws : List ℕ) (i : Instruction) (n : ℕ) (r : List ℕ) → run t a m ws ≡ got i n r
    → (t ≡ ret i) × (m ≡ n) × (ws ≡ r)
flat_got (ret j) h a m ws i n r e = got_subst (λ k p q. (◌≡◌ {A = Tree Instruction} (ret j) (ret k)) × (m ≡ p) × (ws ≡ q)) e (refl, refl, refl)
flat_got fail h a m ws i n r e = none_no e
flat_got (more k) h a m ws i n r e = absurd h

pub flat_short : (t : Tree Instruction) → Flat t → (a m : ℕ) (ws : List ℕ) → run t a m ws ≡ short → ⊥
flat_short (ret j) h a m ws e = got_short e
flat_short fail h a m ws e = none-short e
flat_short (more k) h a m ws e = h

pub live_is : (t : Tree Instruction) → Live t → (i : Instruction) × (t ≡ ret i)
live_is (ret i) l = (i, refl)
live_is fail l = absurd l
live_is (more k) l = absurd l

-- ---- MOVEP takes d16(An), and CMPM (An)+
pub data Kind (o : Operand) : Type 0 where
  displaced : (z : ℤ) (base : RegisterOperand) → o ≡ IndirectDisplacement z base → Kind o
  post : (n : ℕ) → o ≡ PostIndirect n → Kind o
  other : (mode_of o ≡ 5 → ⊥) → (permits (only 5) o ≡ false)
      × ((x opmode : ℕ) → movep_decoded x opmode o ≡ fail) × ((s : Size) (d : Operand) → cmpm_decoded s o d ≡ fail) × ((s : Size) (y : ℕ) → cmpm_to s y o ≡ fail)
      → Kind o

pub kind? : (o : Operand) → Kind o
unfolding permits
kind? (Immediate v) = other (λ e. omega (arith, e)) (refl, λ x p. refl, λ s d. refl, λ s y. refl)
kind? (Register (Address n)) = other (λ e. omega (arith, e)) (refl, λ x p. refl, λ s d. refl, λ s y. refl)
kind? (Register (Data n)) = other (λ e. omega (arith, e)) (refl, λ x p. refl, λ s d. refl, λ s y. refl)
kind? (Indirect n) = other (λ e. omega (arith, e)) (refl, λ x p. refl, λ s d. refl, λ s y. refl)
kind? (PostIndirect n) = post n refl
kind? (PreIndirect n) = other (λ e. omega (arith, e)) (refl, λ x p. refl, λ s d. refl, λ s y. refl)
kind? (IndirectDisplacement z base) = displaced z base refl
kind? (IndirectIndex base z i) = other (λ e. omega (arith, e)) (refl, λ x p. refl, λ s d. refl, λ s y. refl)
kind? (PcDisplacement t) = other (λ e. omega (arith, e)) (refl, λ x p. refl, λ s d. refl, λ s y. refl)
kind? (PcIndex t i) = other (λ e. omega (arith, e)) (refl, λ x p. refl, λ s d. refl, λ s y. refl)
kind? (Extended base w z outer) = other (go (is_pc base)) (not_five (is_pc base), λ x p. refl, λ s d. refl, λ s y. refl)
  where
    not_five : (b : Bool) → get_or (only 5) (cond b 10 6) false ≡ false
    not_five true = refl
    not_five false = refl

    go : (b : Bool) → ◌≡◌ {A = ℕ} (cond b 10 6) 5 → ⊥
    go true e = omega (arith, e)
    go false e = omega (arith, e)
kind? (Absolute a width.Word) = other (λ e. omega (arith, e)) (refl, λ x p. refl, λ s d. refl, λ s y. refl)
kind? (Absolute a width.Long) = other (λ e. omega (arith, e)) (refl, λ x p. refl, λ s d. refl, λ s y. refl)

-- an operand in six bits is in their mode
pub mode_is : (s : Size) (at ea : ℕ) (o : Operand) → Stands s at ea o → mode_of o ≡ mode_at ea
mode_is s at ea o h = sym (mode_field_lem o h.1) ∙ ap mode_at h.3

movep_live : (x opmode : ℕ) (o : Operand) → mode_of o ≡ 5 → Kind o → Live (movep_decoded x opmode o)
movep_live x opmode o m (displaced z base e) = rw e tt
movep_live x opmode o m (post n e) = absurd (omega (arith, m, ap mode_of e))
movep_live x opmode o m (other k q) = absurd (k m)

cmpm_live : (s : Size) (o d : Operand) → mode_of o ≡ 3 → mode_of d ≡ 3 → Live (cmpm_decoded s o d)
cmpm_live s o d p q =
    let y = simple_is 3 (omega arith) o (eqb_is (mode_of o) 3 p) in
    let x = simple_is 3 (omega arith) d (eqb_is (mode_of d) 3 q) in
    rw (y, x) tt

live_cond : (b : Bool) (t u : Tree Instruction) → (b ≡ true → Live t) → (b ≡ false → Live u) → Live (cond b t u)
live_cond true t u p q = p refl
live_cond false t u p q = q refl

pub decoded_live : (a : ℕ) (s : Group) (line x opmode ea : ℕ) (f : Tail) → x < 8 → TailStands a (layout_of s line x opmode ea) f
    → Live (decoded a s line x opmode ea f.value f.source f.destination)
decoded_live a s line x opmode ea f hx h = go (decoding s)
  where
    mode : (m n : ℕ) → all (λ n. known (equal (mode_at (m + n)) (m / 8) ∷ [])) 8 ≡ true → n < 8 → mode_at (m + n) ≡ m / 8
    mode m n t l = (facts_below 8 (λ n. equal (mode_at (m + n)) (m / 8) ∷ []) t n l).0

    go : Decoding s → Live (decoded a s line x opmode ea f.value f.source f.destination)
    go (always l) = l a line x opmode ea f.value f.source f.destination
    go (unused e) = absurd (false≢true (rw e at h).0)
    go (dynamic e) =
        let g : TailStands a (layout_of group.DynamicBitMovep line x opmode ea) f = rw e at h in
        rw e (live_cond (eqb (ea / 8) 1) (movep_decoded x opmode f.source) _
        (λ b. movep_live x opmode f.source (mode_is Word _ _ f.source (rw b at g).2 ∙ mode 40 (ea % 8) refl (omega arith))
        (kind? f.source)) (λ b. tt))
    go (compare e) =
        let g : TailStands a (layout_of group.LogicCompare line x opmode ea) f = rw e at h in
        rw e (live_cond (eqb (ea / 8) 1) (cmpm_decoded (size_at (opmode - 4)) f.source f.destination) _
        (λ b. cmpm_live _ f.source f.destination (mode_is Byte _ _ f.source (rw b at g).2 ∙ mode 24 (ea % 8) refl (omega arith))
        (mode_is Byte _ _ f.destination (rw b at g).3 ∙ mode 24 x refl hx)) (λ b. tt))
