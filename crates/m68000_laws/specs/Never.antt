-- What is never shown: a full extension word, a scale above 1, a long branch.
use Rattle.std.specs.Prelude.{ℕ, ◌*◌, ◌/◌, ◌%◌, ◌≡◌, refl, Bool, true, false, not, ◌&&◌, ◌||◌, cond, List, [], ◌∷◌, ◌++◌, eqb, ℤ, pos}
use Rattle.std.proofs.Common.{sym, ap, ◌∙◌, inl, inr}
use Rattle.std.proofs.lemmas.Bool.{false≢true}
use Rattle.isa.specs.declared.Size.{Size}
use Rattle.isa.specs.declared.Size.TheVariants.{Byte, Word, Long}
use Rattle.isa.specs.declared.BranchSize.TheVariants as branch
use Rattle.isa.specs.declared.BranchOperation.{BranchOperation}
use Rattle.isa.specs.declared.BranchOperation.TheVariants.{BRA, BSR}
use Rattle.isa.specs.declared.Condition.{Condition}
use Rattle.isa.specs.declared.Operand.{Operand}
use Rattle.isa.specs.declared.Operand.TheVariants.{Extended}
use Rattle.isa.specs.declared.Instruction.{Instruction}
use Rattle.isa.specs.declared.Instruction.TheVariants.{IntoRegister, MOVEM, Transfer, Pair, Quick, MOVEQ, ImmediateInto, WordIntoData, SWAP, EXG, UnsizedIntoRegister, UnsizedOne, UnsizedPair, EXT, OneOperand, Bcc, Scc, DBcc, Branch, Link, UNLK, Shift, Vector, Status, ConditionCode, MOVEUSP, Raw, NoOperand, RTD, MOVEC, TRAPcc, MULL, Pack, CAS, CAS2, BF, DIVL}
use Rattle.isa_spec.specs.Code.{unsized_size, unsized_register_size}
use Rattle.isa_spec.specs.Condition.{condition_of}
use Rattle.isa_spec.specs.ExtensionWord.{is_full}
use Rattle.base_facts.specs.Tests.{cond_false, and-true, and-false}
use Rattle.encode_spec.specs.Encode.{words_of}
use Rattle.read_spec.specs.Reading.{Read, Short}
use Rattle.read_spec.specs.Plain.{plain, plain_operand, plain_index}
use Rattle.read_spec.specs.Decoded.{branch_to}
use Rattle.read_spec.specs.Accepted.{Accepted}
use Rattle.read_laws.specs.ByteFF.{byte_ff_reads}
use Rattle.m68000_spec.specs.Reading68000.{First, NotOf68000}
use Rattle.m68000_spec.specs.Of68000.{operand_of_68000, operands_of, all_of_68000, instruction_of_68000, of68000}
use Rattle.m68000_spec.specs.Read68000.{read_68000_of}
use Rattle.m68000_spec.specs.Promises.{HasOperand, is_full_or_scaled}
use Rattle.m68000_laws.specs.Exactly.{short_alike, shown_exactly, refused_exactly}
use Rattle.m68000_laws.specs.Shown.{accepted_answer}
use Rattle.m68000_laws.specs.Operands.{Among, among}

-- ---- what is shown has no Extended operand
among-all : (os : List Operand) (o : Operand) → Among o os → all_of_68000 os ≡ true → operand_of_68000 o ≡ true
among-all [] o m t = elim m [ ]
among-all (x ∷ xs) o (inl e) t = rw e (and-true (operand_of_68000 x) (all_of_68000 xs) t).0
among-all (x ∷ xs) o (inr m) t = among-all xs o m (and-true (operand_of_68000 x) (all_of_68000 xs) t).1

-- no operand of it is one of a full extension word or of a scale above 1, which in plain form are `Extended`
pub no_extended : (ws : List ℕ) (a : ℕ) (i : Instruction) (n : ℕ) → read_68000_of ws a ≡ First (Read i n)
    → (base w : ℕ) (z outer : ℤ) → HasOperand (Extended base w z outer) i → ⊥
unfolding of68000
no_extended ws a i n e base w z outer m =
    let t = (and-true (instruction_of_68000 i) (all_of_68000 (operands_of i)) ((shown_exactly ws a i n).0 e).1).1 in
    false≢true (among-all (operands_of i) (Extended base w z outer) (among _ i m) t)

-- ---- words of an instruction that has such an operand are answered 15
-- the operands ps are the plain forms of the operands os
abbrev Plained : List Operand → List Operand → Type 0
Plained [] [] = Unit {0}
Plained [] (p ∷ ps) = ⊥
Plained (o ∷ os) [] = ⊥
Plained (o ∷ os) (p ∷ ps) = ((s : Size) × (p ≡ plain_operand s o)) × Plained os ps

plain_operands : (i : Instruction) → Plained (operands_of i) (operands_of (plain i))
plain_operands (IntoRegister op o r s) = ((s, refl), tt)
plain_operands (MOVEM direction s mask o) = ((s, refl), tt)
plain_operands (Transfer op direction s r o) = ((s, refl), tt)
plain_operands (Pair op o d s) = ((s, refl), ((s, refl), tt))
plain_operands (Quick op n o s) = ((s, refl), tt)
plain_operands (MOVEQ v r) = tt
plain_operands (ImmediateInto op v o s) = ((s, refl), tt)
plain_operands (WordIntoData op o r sign) = ((Word, refl), tt)
plain_operands (SWAP r) = tt
plain_operands (EXG x y) = tt
plain_operands (UnsizedIntoRegister op o r) = ((unsized_register_size op, refl), tt)
plain_operands (UnsizedOne op o) = ((unsized_size op, refl), tt)
plain_operands (UnsizedPair op o d) = ((Long, refl), ((Byte, refl), tt))
plain_operands (EXT r from to) = tt
plain_operands (OneOperand op o s) = ((s, refl), tt)
plain_operands (Bcc t condition s) = tt
plain_operands (Scc o condition) = ((Byte, refl), tt)
plain_operands (DBcc r t condition) = tt
plain_operands (Branch op t s) = tt
plain_operands (Link op r d) = tt
plain_operands (UNLK r) = tt
plain_operands (Shift op count o direction s) = ((Long, refl), ((s, refl), tt))
plain_operands (Vector op v) = tt
plain_operands (Status op v) = tt
plain_operands (ConditionCode op v) = tt
plain_operands (MOVEUSP to r) = tt
plain_operands (Raw op w) = tt
plain_operands (NoOperand op) = tt
plain_operands (RTD d) = tt
plain_operands (MOVEC to control r) = tt
plain_operands (TRAPcc condition x) = tt
plain_operands (MULL o low high sign) = ((Long, refl), tt)
plain_operands (Pack op o d adjustment) = ((Long, refl), ((Long, refl), tt))
plain_operands (CAS compare update o s) = ((s, refl), tt)
plain_operands (CAS2 compare1 compare2 update1 update2 pointer1 pointer2 s) = tt
plain_operands (BF op o f r) = ((Byte, refl), tt)
plain_operands (DIVL o quotient remainder wide sign) = ((Long, refl), tt)

module _ (base w : ℕ) (z outer : ℤ) (h : is_full_or_scaled w ≡ true) where
  extended-plain : (s : Size) → operand_of_68000 (plain_operand s (Extended base w z outer)) ≡ false
  extended-plain s = go (is_full w) (eqb (w / 512 % 4) 0) h
    where
      go : (t u : Bool) → t || not u ≡ true
          → operand_of_68000 (cond t (Extended base w z outer) (cond u (plain_index base w z) (Extended base (w / 512 * 512) z (pos 0)))) ≡ false
      go true u e = refl
      go false true e = absurd (false≢true e)
      go false false e = refl

  among-refused : (os ps : List Operand) → Among (Extended base w z outer) os → Plained os ps → all_of_68000 ps ≡ false
  among-refused [] ps m k = elim m [ ]
  among-refused (o ∷ os) [] m k = elim k [ ]
  among-refused (o ∷ os) (p ∷ ps) (inl e) ((s, q), k) =
      let f : operand_of_68000 p ≡ false = ap operand_of_68000 (q ∙ ap (plain_operand s) (sym e)) ∙ extended-plain s in
      rw f
  among-refused (o ∷ os) (p ∷ ps) (inr m) ((s, q), k) = ap (λ (b : Bool). operand_of_68000 p && b) (among-refused os ps m k) ∙ and-false (operand_of_68000 p)

-- so the words of an accepted instruction with a full extension word or a scale above 1 are answered 15
pub extended-refused : (a : ℕ) (i : Instruction) (rest : List ℕ) → Accepted a i
    → (base w : ℕ) (z outer : ℤ) → HasOperand (Extended base w z outer) i → is_full_or_scaled w ≡ true
    → read_68000_of (words_of i a ++ rest) a ≡ NotOf68000
unfolding of68000
extended-refused a i rest g base w z outer m h =
    let f = among-refused base w z outer h (operands_of i) (operands_of (plain i)) (among _ i m) (plain_operands i) in
    accepted_answer a i rest g
    ∙ cond_false (of68000 (plain i)) _ _ (ap (λ (b : Bool). instruction_of_68000 (plain i) && b) f ∙ and-false (instruction_of_68000 (plain i)))

-- ---- no branch of Long is shown, and words of one are answered 15
pub no_long_branch : (ws : List ℕ) (a : ℕ) (i : Instruction) (n : ℕ) → read_68000_of ws a ≡ First (Read i n)
    → ((t : ℕ) (c : Condition) → i ≡ Bcc t c branch.Long → ⊥) × ((op : BranchOperation) (t : ℕ) → i ≡ Branch op t branch.Long → ⊥)
unfolding of68000
no_long_branch ws a i n e =
    let h = ((shown_exactly ws a i n).0 e).1 in
    ((λ t c g. false≢true (sym (ap of68000 g) ∙ h)), (λ op t g. false≢true (sym (ap of68000 g) ∙ h)))

branch_refused : (k t : ℕ) → of68000 (branch_to k t branch.Long) ≡ false
unfolding of68000
branch_refused k t = go (eqb k 0) (eqb k 1)
  where
    go : (u v : Bool) → of68000 (cond u (Branch BRA t branch.Long) (cond v (Branch BSR t branch.Long) (Bcc t (condition_of k) branch.Long))) ≡ false
    go true v = refl
    go false true = refl
    go false false = refl

-- a byte $FF in line 6: with two words more 15, with fewer 5
pub byte_ff : (a w : ℕ) → w / 4096 ≡ 6 → w % 256 ≡ 255
    → (read_68000_of (w ∷ []) a ≡ First Short) × ((v : ℕ) → read_68000_of (w ∷ v ∷ []) a ≡ First Short)
    × ((v u : ℕ) (rest : List ℕ) → read_68000_of (w ∷ v ∷ u ∷ rest) a ≡ NotOf68000)
byte_ff a w hl hb =
    let (one, two, more) = byte_ff_reads a w hl hb in (
      (short_alike (w ∷ []) a).1 one,
      (λ v. (short_alike (w ∷ v ∷ []) a).1 (two v)),
      (λ v u rest. (refused_exactly (w ∷ v ∷ u ∷ rest) a).1 (_, 6, more v u rest, branch_refused (w / 256 % 16) _)),
    )
