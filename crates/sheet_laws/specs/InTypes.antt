-- An instruction whose numbers are inside the types of its form is of its declared types, as the reader's laws say it.
use Rattle.std.specs.Prelude.{ℕ, ◌-◌, ◌^◌, ◌<◌, ◌≡◌, true, List, ◌++◌, leb, ℤ, pos, negsuc}
use Rattle.std.proofs.Common.{arith}
use Rattle.isa.specs.declared.TrapOperand.{TrapOperand}
use Rattle.isa.specs.declared.TrapOperand.TheVariants as trap
use Rattle.isa.specs.declared.Operand.{Operand}
use Rattle.isa.specs.declared.Operand.TheVariants.{Immediate, Register, Indirect, PostIndirect, PreIndirect, IndirectDisplacement, IndirectIndex, PcDisplacement, PcIndex, Extended, Absolute}
use Rattle.isa.specs.declared.Instruction.{Instruction}
use Rattle.isa.specs.declared.Instruction.TheVariants.{IntoRegister, MOVEM, Transfer, Pair, Quick, MOVEQ, ImmediateInto, WordIntoData, SWAP, EXG, UnsizedIntoRegister, UnsizedOne, UnsizedPair, EXT, OneOperand, Bcc, Scc, DBcc, Branch, Link, UNLK, Shift, Vector, Status, ConditionCode, MOVEUSP, Raw, NoOperand, RTD, MOVEC, TRAPcc, MULL, Pack, CAS, CAS2, BF, DIVL}
use Rattle.numeric_spec.specs.Entry.{Entry, Inside, is_i32}
use Rattle.numeric_spec.specs.Payload.{size_form, condition_form, shift_direction_form, sign_form, flag_form, byte_form, word_form, long_form, bit_field_form, register_form, register_choice_form, trap_operand_form, operand_form}
use Rattle.read_spec.specs.Accepted.{Fits32, InTypes, TrapInTypes, InstructionInTypes}
use Rattle.read_operand_laws.specs.Facts.{as_fits32}
use Rattle.base_facts.specs.Tests.{leb_is}
use Rattle.numeric_facts.specs.Exact.{inside-parts}
use Rattle.sheet_size_facts.specs.Says.{entries}

small : (top n : ℕ) → leb n (top - 1) ≡ true → 0 < top → n < top
small top n h g = omega (arith, leb_is n (top - 1) h)

fits_i32 : (z : ℤ) → is_i32 z ≡ true → Fits32 z
fits_i32 (pos k) h = as_fits32 (pos k) h
fits_i32 (negsuc k) h = as_fits32 (negsuc k) h

front : (xs ys : List Entry) → Inside (xs ++ ys) → Inside xs
front xs ys h = (inside-parts xs ys h).0

back : (xs ys : List Entry) → Inside (xs ++ ys) → Inside ys
back xs ys h = (inside-parts xs ys h).1

operand_in_types : (o : Operand) → Inside (operand_form o) → InTypes o
operand_in_types (Immediate v) h = tt
operand_in_types (Register r) h = tt
operand_in_types (Indirect k) h = tt
operand_in_types (PostIndirect k) h = tt
operand_in_types (PreIndirect k) h = tt
operand_in_types (IndirectDisplacement z base) h = tt
operand_in_types (IndirectIndex base z x) h = tt
operand_in_types (PcDisplacement t) h = small (2 ^ 32) t h.1.0 (omega arith)
operand_in_types (PcIndex t x) h = small (2 ^ 32) t h.1.0 (omega arith)
operand_in_types (Extended base w z outer) h = (small 65536 w h.1.1.0 (omega arith), fits_i32 z h.1.1.1.0, fits_i32 outer h.1.1.1.1.0)
operand_in_types (Absolute a w) h = small (2 ^ 64) a h.1.0 (omega arith)

-- an operand in front of other entries
first : (o : Operand) (es : List Entry) → Inside (operand_form o ++ es) → InTypes o
first o es h = operand_in_types o (front (operand_form o) es h)

trap_in_types : (x : TrapOperand) → Inside (trap_operand_form x) → TrapInTypes x
trap_in_types trap.None h = tt
trap_in_types (trap.Word v) h = small 65536 v h.1.0 (omega arith)
trap_in_types (trap.Long v) h = small (2 ^ 32) v h.1.0 (omega arith)

pub inside_in_types : (i : Instruction) → Inside (entries i) → InstructionInTypes i
inside_in_types (IntoRegister op o r s) (e, h) = first o (register_form r) (front (operand_form o ++ register_form r) (size_form s) h)
inside_in_types (MOVEM d s mask o) (e, h) = (small 65536 mask h.1.1.0 (omega arith), operand_in_types o h.1.1.1)
inside_in_types (Transfer op d s r o) (e, h) = operand_in_types o (back (register_form r) (operand_form o) h.1.1)
inside_in_types (Pair op o d s) (e, h) =
    let p = front (operand_form o ++ operand_form d) (size_form s) h in
    (first o (operand_form d) p, operand_in_types d (back (operand_form o) (operand_form d) p))
inside_in_types (Quick op v o s) (e, h) = first o (size_form s) h.1
inside_in_types (MOVEQ v r) (e, h) = small 256 v h.0 (omega arith)
inside_in_types (ImmediateInto op v o s) (e, h) = first o (size_form s) h.1
inside_in_types (WordIntoData op o r g) (e, h) = first o (register_form r) (front (operand_form o ++ register_form r) (sign_form g) h)
inside_in_types (SWAP r) h = tt
inside_in_types (EXG x y) h = tt
inside_in_types (UnsizedIntoRegister op o r) (e, h) = first o (register_form r) h
inside_in_types (UnsizedOne op o) (e, h) = operand_in_types o h
inside_in_types (UnsizedPair op o d) (e, h) = (first o (operand_form d) h, operand_in_types d (back (operand_form o) (operand_form d) h))
inside_in_types (EXT r s v) h = tt
inside_in_types (OneOperand op o s) (e, h) = first o (size_form s) h
inside_in_types (Bcc t c s) (e, h) = small (2 ^ 32) t h.0 (omega arith)
inside_in_types (Scc o c) (e, h) = first o (condition_form c) h
inside_in_types (DBcc r t c) (e, h) = small (2 ^ 32) t (back (register_form r) (long_form t) (front (register_form r ++ long_form t) (condition_form c) h)).0 (omega arith)
inside_in_types (Branch op t s) (e, h) = small (2 ^ 32) t h.0 (omega arith)
inside_in_types (Link op r v) (e, h) = small (2 ^ 32) v (back (register_form r) (long_form v) h).0 (omega arith)
inside_in_types (UNLK r) h = tt
inside_in_types (Shift op o d g s) (e, h) =
    let p = front (operand_form o ++ operand_form d) (shift_direction_form g) (front (operand_form o ++ operand_form d ++ shift_direction_form g) (size_form s) h) in
    (first o (operand_form d) p, operand_in_types d (back (operand_form o) (operand_form d) p))
inside_in_types (Vector op v) h = tt
inside_in_types (Status op v) (e, h) = small 65536 v h.0 (omega arith)
inside_in_types (ConditionCode op v) (e, h) = small 256 v h.0 (omega arith)
inside_in_types (MOVEUSP b r) h = tt
inside_in_types (Raw op v) (e, h) = small 65536 v h.0 (omega arith)
inside_in_types (NoOperand op) h = tt
inside_in_types (RTD v) (e, h) = small (2 ^ 32) v h.0 (omega arith)
inside_in_types (MOVEC b v r) (e, h) = small 65536 v h.1.0 (omega arith)
inside_in_types (TRAPcc c x) (e, h) = trap_in_types x h.1
inside_in_types (MULL o v c g) (e, h) =
    first o (byte_form v) (front (operand_form o ++ byte_form v) (register_choice_form c) (front (operand_form o ++ byte_form v ++ register_choice_form c) (sign_form g) h))
inside_in_types (Pack op o d v) (e, h) =
    let p = front (operand_form o ++ operand_form d) (word_form v) h in
    (first o (operand_form d) p, operand_in_types d (back (operand_form o) (operand_form d) p), small 65536 v (back (operand_form o ++ operand_form d) (word_form v) h).0 (omega arith))
inside_in_types (CAS c v o s) (e, h) = first o (size_form s) h.1.1
inside_in_types (CAS2 c d u v p q s) h = tt
inside_in_types (BF op o b r) (e, h) = first o (bit_field_form b) (front (operand_form o ++ bit_field_form b) (byte_form r) h.1)
inside_in_types (DIVL o q r b g) (e, h) =
    first o (byte_form q) (front (operand_form o ++ byte_form q) (byte_form r) (front (operand_form o ++ byte_form q ++ byte_form r) (flag_form b) (front (operand_form o ++ byte_form q ++ byte_form r ++ flag_form b) (sign_form g) h)))
