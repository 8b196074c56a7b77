-- An instruction: what is taken is exactly its form. Assumes nothing.
use Rattle.std.specs.Prelude.{ℕ, ◌≤◌, ◌≡◌, refl, List, eqb, get_or, ℤ}
use Rattle.std.proofs.Common.{◌∙◌, arith, eqb-true}
use Rattle.isa.specs.declared.RegisterOperation.{RegisterOperation}
use Rattle.isa.specs.declared.RegisterOperation.TheVariants.{ADDA, SUBA, CMPA, MOVEA, CMP, CHK2, CMP2}
use Rattle.isa.specs.declared.TransferOperation.{TransferOperation}
use Rattle.isa.specs.declared.TransferOperation.TheVariants.{MOVEP, MOVES}
use Rattle.isa.specs.declared.PairOperation.{PairOperation}
use Rattle.isa.specs.declared.PairOperation.TheVariants.{MOVE, ADD, SUB, ADDX, SUBX, CMPM, OR, AND, EOR}
use Rattle.isa.specs.declared.QuickOperation.{QuickOperation}
use Rattle.isa.specs.declared.QuickOperation.TheVariants.{ADDQ, SUBQ}
use Rattle.isa.specs.declared.ImmediateOperation.{ImmediateOperation}
use Rattle.isa.specs.declared.ImmediateOperation.TheVariants.{ADDI, SUBI, ANDI, ORI, EORI, CMPI}
use Rattle.isa.specs.declared.WordOperation.{WordOperation}
use Rattle.isa.specs.declared.WordOperation.TheVariants.{DIVx, MULx}
use Rattle.isa.specs.declared.UnsizedRegisterOperation.{UnsizedRegisterOperation}
use Rattle.isa.specs.declared.UnsizedRegisterOperation.TheVariants.{LEA, CHK, CHKL}
use Rattle.isa.specs.declared.UnsizedOneOperation.{UnsizedOneOperation}
use Rattle.isa.specs.declared.UnsizedOneOperation.TheVariants.{PEA, NBCD, JSR, JMP, TAS, MOVEtoCCR, MOVEfromCCR, MOVEtoSR, MOVEfromSR}
use Rattle.isa.specs.declared.UnsizedPairOperation.{UnsizedPairOperation}
use Rattle.isa.specs.declared.UnsizedPairOperation.TheVariants.{ABCD, SBCD, BTST, BCLR, BSET, BCHG}
use Rattle.isa.specs.declared.OneOperation.{OneOperation}
use Rattle.isa.specs.declared.OneOperation.TheVariants.{CLR, NEG, NEGX, NOT, TST}
use Rattle.isa.specs.declared.ShiftOperation.{ShiftOperation}
use Rattle.isa.specs.declared.ShiftOperation.TheVariants.{ASd, ROd, LSd, ROXd}
use Rattle.isa.specs.declared.PackOperation.{PackOperation}
use Rattle.isa.specs.declared.PackOperation.TheVariants.{PACK, UNPK}
use Rattle.isa.specs.declared.BranchOperation.{BranchOperation}
use Rattle.isa.specs.declared.BranchOperation.TheVariants.{BRA, BSR}
use Rattle.isa.specs.declared.LinkOperation.{LinkOperation}
use Rattle.isa.specs.declared.LinkOperation.TheVariants.{LINK, LINKL}
use Rattle.isa.specs.declared.StatusOperation.{StatusOperation}
use Rattle.isa.specs.declared.StatusOperation.TheVariants.{ANDItoSR, ORItoSR, EORItoSR, STOP}
use Rattle.isa.specs.declared.ConditionCodeOperation.{ConditionCodeOperation}
use Rattle.isa.specs.declared.ConditionCodeOperation.TheVariants.{ANDItoCCR, ORItoCCR, EORItoCCR}
use Rattle.isa.specs.declared.VectorOperation.{VectorOperation}
use Rattle.isa.specs.declared.VectorOperation.TheVariants.{TRAP, BKPT}
use Rattle.isa.specs.declared.RawOperation.{RawOperation}
use Rattle.isa.specs.declared.RawOperation.TheVariants.{LINEA, LINEF, IllegalWord}
use Rattle.isa.specs.declared.NoOperandOperation.{NoOperandOperation}
use Rattle.isa.specs.declared.NoOperandOperation.TheVariants.{RTE, RESET, RTR, TRAPV, ILLEGAL, RTS, NOP, SIMHALT}
use Rattle.isa.specs.declared.Instruction.{Instruction}
use Rattle.isa.specs.declared.Instruction.TheVariants.{IntoRegister, MOVEM, Transfer, Pair, Quick, MOVEQ, ImmediateInto, WordIntoData, SWAP, EXG, UnsizedIntoRegister, UnsizedOne, UnsizedPair, EXT, OneOperand, Bcc, Scc, DBcc, Branch, Link, UNLK, Shift, Vector, Status, ConditionCode, MOVEUSP, Raw, NoOperand, RTD, MOVEC, TRAPcc, MULL, Pack, CAS, CAS2, BF, DIVL}
use Rattle.base_facts.specs.Tests.{below}
use Rattle.numeric_spec.specs.Entry.{Entry, Inside}
use Rattle.numeric_spec.specs.Form.{place_of, payload_of, form_of, register_operation_place, transfer_operation_place, pair_operation_place, quick_operation_place, immediate_operation_place, word_operation_place, unsized_register_operation_place, unsized_one_operation_place, unsized_pair_operation_place, one_operation_place, shift_operation_place, pack_operation_place, branch_operation_place, link_operation_place, status_operation_place, condition_code_operation_place, vector_operation_place, raw_operation_place, no_operand_operation_place}
use Rattle.numeric_spec.specs.Take.{Take, taken, make1}
use Rattle.numeric_spec.specs.Shape.{Shape, shapes, into_register, movem, transfer, pair, quick, moveq, immediate_into, word_into_data, swap, exg, unsized_into_register, unsized_one, unsized_pair, ext, one_operand, bcc, scc, dbcc, branch, link, unlk, shift, vector, status, condition_code, moveusp, raw, no_operand, rtd, movec, trapcc, mull, pack, cas, cas2, bf, divl}
use Rattle.numeric_spec.specs.Build.{take_shape, take_instruction}
use Rattle.numeric_facts.specs.Exact.{Exact, before, thence, made_sound, made_back, given_sound, chosen}
use Rattle.numeric_facts.specs.Payload.{bit_field_exact, bit_field_operation_exact, branch_size_exact, byte_exact, condition_exact, flag_exact, long_exact, operand_exact, register_choice_exact, register_exact, shift_direction_exact, sign_exact, size_exact, target-direction_exact, trap_operand_exact, word_exact}

-- the place of each shape: its entry in `shapes`
shape_place : Shape → ℕ
shape_place (into_register op) = register_operation_place op
shape_place movem = 4
shape_place (transfer op) = transfer_operation_place op
shape_place (pair op) = pair_operation_place op
shape_place (quick op) = quick_operation_place op
shape_place moveq = 11
shape_place (immediate_into op) = immediate_operation_place op
shape_place (word_into_data op) = word_operation_place op
shape_place swap = 22
shape_place exg = 24
shape_place (unsized_into_register op) = unsized_register_operation_place op
shape_place (unsized_one op) = unsized_one_operation_place op
shape_place (unsized_pair op) = unsized_pair_operation_place op
shape_place ext = 32
shape_place (one_operand op) = one_operation_place op
shape_place bcc = 35
shape_place scc = 36
shape_place dbcc = 37
shape_place (branch op) = branch_operation_place op
shape_place (link op) = link_operation_place op
shape_place unlk = 40
shape_place (shift op) = shift_operation_place op
shape_place (vector op) = vector_operation_place op
shape_place (status op) = status_operation_place op
shape_place (condition_code op) = condition_code_operation_place op
shape_place moveusp = 60
shape_place (raw op) = raw_operation_place op
shape_place (no_operand op) = no_operand_operation_place op
shape_place rtd = 83
shape_place movec = 85
shape_place trapcc = 89
shape_place mull = 90
shape_place (pack op) = pack_operation_place op
shape_place cas = 95
shape_place cas2 = 96
shape_place bf = 97
shape_place divl = 98

abbrev ShapeAt : ℕ → Take Instruction → Type 0
ShapeAt p t = (zs : List ℤ) (x : Instruction) (end : List ℤ) → t zs ≡ taken x end → (zs ≡ before (payload_of x) end) × Inside (payload_of x) × (place_of x ≡ p)

module _ {A : Type 0} {f : A → List Entry} {t : Take A} where
  shape_made : (p : ℕ) (make : A → Instruction) → Exact f t → ((a : A) → payload_of (make a) ≡ f a) → ((a : A) → place_of (make a) ≡ p) → ShapeAt p (make1 make t)
  shape_made p make F same g = made_sound make payload_of (λ x. place_of x ≡ p) F same g

shape_sound : (s : Shape) → ShapeAt (shape_place s) (take_shape s)
unfolding shape_place
shape_sound (into_register op) = shape_made (shape_place (into_register op)) (λ x. IntoRegister op x.0.0 x.0.1 x.1) (thence (thence operand_exact register_exact) size_exact) (λ a. refl) (λ a. refl)
shape_sound movem = shape_made (shape_place movem) (λ x. MOVEM x.0.0.0 x.0.0.1 x.0.1 x.1) (thence (thence (thence target-direction_exact size_exact) word_exact) operand_exact) (λ a. refl) (λ a. refl)
shape_sound (transfer op) = shape_made (shape_place (transfer op)) (λ x. Transfer op x.0.0.0 x.0.0.1 x.0.1 x.1) (thence (thence (thence target-direction_exact size_exact) register_exact) operand_exact) (λ a. refl) (λ a. refl)
shape_sound (pair op) = shape_made (shape_place (pair op)) (λ x. Pair op x.0.0 x.0.1 x.1) (thence (thence operand_exact operand_exact) size_exact) (λ a. refl) (λ a. refl)
shape_sound (quick op) = shape_made (shape_place (quick op)) (λ x. Quick op x.0.0 x.0.1 x.1) (thence (thence byte_exact operand_exact) size_exact) (λ a. refl) (λ a. refl)
shape_sound moveq = shape_made (shape_place moveq) (λ x. MOVEQ x.0 x.1) (thence byte_exact register_exact) (λ a. refl) (λ a. refl)
shape_sound (immediate_into op) = shape_made (shape_place (immediate_into op)) (λ x. ImmediateInto op x.0.0 x.0.1 x.1) (thence (thence long_exact operand_exact) size_exact) (λ a. refl) (λ a. refl)
shape_sound (word_into_data op) = shape_made (shape_place (word_into_data op)) (λ x. WordIntoData op x.0.0 x.0.1 x.1) (thence (thence operand_exact register_exact) sign_exact) (λ a. refl) (λ a. refl)
shape_sound swap = shape_made (shape_place swap) SWAP register_exact (λ a. refl) (λ a. refl)
shape_sound exg = shape_made (shape_place exg) (λ x. EXG x.0 x.1) (thence register_exact register_exact) (λ a. refl) (λ a. refl)
shape_sound (unsized_into_register op) = shape_made (shape_place (unsized_into_register op)) (λ x. UnsizedIntoRegister op x.0 x.1) (thence operand_exact register_exact) (λ a. refl) (λ a. refl)
shape_sound (unsized_one op) = shape_made (shape_place (unsized_one op)) (UnsizedOne op) operand_exact (λ a. refl) (λ a. refl)
shape_sound (unsized_pair op) = shape_made (shape_place (unsized_pair op)) (λ x. UnsizedPair op x.0 x.1) (thence operand_exact operand_exact) (λ a. refl) (λ a. refl)
shape_sound ext = shape_made (shape_place ext) (λ x. EXT x.0.0 x.0.1 x.1) (thence (thence register_exact size_exact) size_exact) (λ a. refl) (λ a. refl)
shape_sound (one_operand op) = shape_made (shape_place (one_operand op)) (λ x. OneOperand op x.0 x.1) (thence operand_exact size_exact) (λ a. refl) (λ a. refl)
shape_sound bcc = shape_made (shape_place bcc) (λ x. Bcc x.0.0 x.0.1 x.1) (thence (thence long_exact condition_exact) branch_size_exact) (λ a. refl) (λ a. refl)
shape_sound scc = shape_made (shape_place scc) (λ x. Scc x.0 x.1) (thence operand_exact condition_exact) (λ a. refl) (λ a. refl)
shape_sound dbcc = shape_made (shape_place dbcc) (λ x. DBcc x.0.0 x.0.1 x.1) (thence (thence register_exact long_exact) condition_exact) (λ a. refl) (λ a. refl)
shape_sound (branch op) = shape_made (shape_place (branch op)) (λ x. Branch op x.0 x.1) (thence long_exact branch_size_exact) (λ a. refl) (λ a. refl)
shape_sound (link op) = shape_made (shape_place (link op)) (λ x. Link op x.0 x.1) (thence register_exact long_exact) (λ a. refl) (λ a. refl)
shape_sound unlk = shape_made (shape_place unlk) UNLK register_exact (λ a. refl) (λ a. refl)
shape_sound (shift op) = shape_made (shape_place (shift op)) (λ x. Shift op x.0.0.0 x.0.0.1 x.0.1 x.1) (thence (thence (thence operand_exact operand_exact) shift_direction_exact) size_exact) (λ a. refl) (λ a. refl)
shape_sound (vector op) = shape_made (shape_place (vector op)) (Vector op) byte_exact (λ a. refl) (λ a. refl)
shape_sound (status op) = shape_made (shape_place (status op)) (Status op) word_exact (λ a. refl) (λ a. refl)
shape_sound (condition_code op) = shape_made (shape_place (condition_code op)) (ConditionCode op) byte_exact (λ a. refl) (λ a. refl)
shape_sound moveusp = shape_made (shape_place moveusp) (λ x. MOVEUSP x.0 x.1) (thence flag_exact register_exact) (λ a. refl) (λ a. refl)
shape_sound (raw op) = shape_made (shape_place (raw op)) (Raw op) word_exact (λ a. refl) (λ a. refl)
shape_sound (no_operand op) = given_sound (NoOperand op) payload_of (λ x. place_of x ≡ shape_place (no_operand op)) refl refl
shape_sound rtd = shape_made (shape_place rtd) RTD long_exact (λ a. refl) (λ a. refl)
shape_sound movec = shape_made (shape_place movec) (λ x. MOVEC x.0.0 x.0.1 x.1) (thence (thence flag_exact word_exact) register_exact) (λ a. refl) (λ a. refl)
shape_sound trapcc = shape_made (shape_place trapcc) (λ x. TRAPcc x.0 x.1) (thence condition_exact trap_operand_exact) (λ a. refl) (λ a. refl)
shape_sound mull = shape_made (shape_place mull) (λ x. MULL x.0.0.0 x.0.0.1 x.0.1 x.1) (thence (thence (thence operand_exact byte_exact) register_choice_exact) sign_exact) (λ a. refl) (λ a. refl)
shape_sound (pack op) = shape_made (shape_place (pack op)) (λ x. Pack op x.0.0 x.0.1 x.1) (thence (thence operand_exact operand_exact) word_exact) (λ a. refl) (λ a. refl)
shape_sound cas = shape_made (shape_place cas) (λ x. CAS x.0.0.0 x.0.0.1 x.0.1 x.1) (thence (thence (thence byte_exact byte_exact) operand_exact) size_exact) (λ a. refl) (λ a. refl)
shape_sound cas2 = shape_made (shape_place cas2) (λ x. CAS2 x.0.0.0.0.0.0 x.0.0.0.0.0.1 x.0.0.0.0.1 x.0.0.0.1 x.0.0.1 x.0.1 x.1) (thence (thence (thence (thence (thence (thence byte_exact byte_exact) byte_exact) byte_exact) register_exact) register_exact) size_exact) (λ a. refl) (λ a. refl)
shape_sound bf = shape_made (shape_place bf) (λ x. BF x.0.0.0 x.0.0.1 x.0.1 x.1) (thence (thence (thence bit_field_operation_exact operand_exact) bit_field_exact) byte_exact) (λ a. refl) (λ a. refl)
shape_sound divl = shape_made (shape_place divl) (λ x. DIVL x.0.0.0.0 x.0.0.0.1 x.0.0.1 x.0.1 x.1) (thence (thence (thence (thence operand_exact byte_exact) byte_exact) flag_exact) sign_exact) (λ a. refl) (λ a. refl)

shape_there : (p : ℕ) → p ≤ 98 → ShapeAt p (take_shape (get_or shapes p (into_register ADDA)))
unfolding shape_place
shape_there p h zs x end e =
    let s = get_or shapes p (into_register ADDA) in
    let r = shape_sound s zs x end e in
    (r.0, r.1, r.2 ∙ eqb-true (shape_place s) p (below (λ q. eqb (shape_place (get_or shapes q (into_register ADDA))) q) 99 refl p (omega arith)))

register_operation_entry : (op : RegisterOperation) → get_or shapes (register_operation_place op) (into_register ADDA) ≡ into_register op
register_operation_entry ADDA = refl
register_operation_entry SUBA = refl
register_operation_entry CMPA = refl
register_operation_entry MOVEA = refl
register_operation_entry CMP = refl
register_operation_entry CHK2 = refl
register_operation_entry CMP2 = refl

transfer_operation_entry : (op : TransferOperation) → get_or shapes (transfer_operation_place op) (into_register ADDA) ≡ transfer op
transfer_operation_entry MOVEP = refl
transfer_operation_entry MOVES = refl

pair_operation_entry : (op : PairOperation) → get_or shapes (pair_operation_place op) (into_register ADDA) ≡ pair op
pair_operation_entry MOVE = refl
pair_operation_entry ADD = refl
pair_operation_entry SUB = refl
pair_operation_entry ADDX = refl
pair_operation_entry SUBX = refl
pair_operation_entry CMPM = refl
pair_operation_entry OR = refl
pair_operation_entry AND = refl
pair_operation_entry EOR = refl

quick_operation_entry : (op : QuickOperation) → get_or shapes (quick_operation_place op) (into_register ADDA) ≡ quick op
quick_operation_entry ADDQ = refl
quick_operation_entry SUBQ = refl

immediate_operation_entry : (op : ImmediateOperation) → get_or shapes (immediate_operation_place op) (into_register ADDA) ≡ immediate_into op
immediate_operation_entry ADDI = refl
immediate_operation_entry SUBI = refl
immediate_operation_entry ANDI = refl
immediate_operation_entry ORI = refl
immediate_operation_entry EORI = refl
immediate_operation_entry CMPI = refl

word_operation_entry : (op : WordOperation) → get_or shapes (word_operation_place op) (into_register ADDA) ≡ word_into_data op
word_operation_entry DIVx = refl
word_operation_entry MULx = refl

unsized_register_operation_entry : (op : UnsizedRegisterOperation) → get_or shapes (unsized_register_operation_place op) (into_register ADDA) ≡ unsized_into_register op
unsized_register_operation_entry LEA = refl
unsized_register_operation_entry CHK = refl
unsized_register_operation_entry CHKL = refl

unsized_one_operation_entry : (op : UnsizedOneOperation) → get_or shapes (unsized_one_operation_place op) (into_register ADDA) ≡ unsized_one op
unsized_one_operation_entry PEA = refl
unsized_one_operation_entry NBCD = refl
unsized_one_operation_entry JSR = refl
unsized_one_operation_entry JMP = refl
unsized_one_operation_entry TAS = refl
unsized_one_operation_entry MOVEtoCCR = refl
unsized_one_operation_entry MOVEfromCCR = refl
unsized_one_operation_entry MOVEtoSR = refl
unsized_one_operation_entry MOVEfromSR = refl

unsized_pair_operation_entry : (op : UnsizedPairOperation) → get_or shapes (unsized_pair_operation_place op) (into_register ADDA) ≡ unsized_pair op
unsized_pair_operation_entry ABCD = refl
unsized_pair_operation_entry SBCD = refl
unsized_pair_operation_entry BTST = refl
unsized_pair_operation_entry BCLR = refl
unsized_pair_operation_entry BSET = refl
unsized_pair_operation_entry BCHG = refl

one_operation_entry : (op : OneOperation) → get_or shapes (one_operation_place op) (into_register ADDA) ≡ one_operand op
one_operation_entry CLR = refl
one_operation_entry NEG = refl
one_operation_entry NEGX = refl
one_operation_entry NOT = refl
one_operation_entry TST = refl

shift_operation_entry : (op : ShiftOperation) → get_or shapes (shift_operation_place op) (into_register ADDA) ≡ shift op
shift_operation_entry ASd = refl
shift_operation_entry ROd = refl
shift_operation_entry LSd = refl
shift_operation_entry ROXd = refl

pack_operation_entry : (op : PackOperation) → get_or shapes (pack_operation_place op) (into_register ADDA) ≡ pack op
pack_operation_entry PACK = refl
pack_operation_entry UNPK = refl

branch_operation_entry : (op : BranchOperation) → get_or shapes (branch_operation_place op) (into_register ADDA) ≡ branch op
branch_operation_entry BRA = refl
branch_operation_entry BSR = refl

link_operation_entry : (op : LinkOperation) → get_or shapes (link_operation_place op) (into_register ADDA) ≡ link op
link_operation_entry LINK = refl
link_operation_entry LINKL = refl

status_operation_entry : (op : StatusOperation) → get_or shapes (status_operation_place op) (into_register ADDA) ≡ status op
status_operation_entry ANDItoSR = refl
status_operation_entry ORItoSR = refl
status_operation_entry EORItoSR = refl
status_operation_entry STOP = refl

condition_code_operation_entry : (op : ConditionCodeOperation) → get_or shapes (condition_code_operation_place op) (into_register ADDA) ≡ condition_code op
condition_code_operation_entry ANDItoCCR = refl
condition_code_operation_entry ORItoCCR = refl
condition_code_operation_entry EORItoCCR = refl

vector_operation_entry : (op : VectorOperation) → get_or shapes (vector_operation_place op) (into_register ADDA) ≡ vector op
vector_operation_entry TRAP = refl
vector_operation_entry BKPT = refl

raw_operation_entry : (op : RawOperation) → get_or shapes (raw_operation_place op) (into_register ADDA) ≡ raw op
raw_operation_entry LINEA = refl
raw_operation_entry LINEF = refl
raw_operation_entry IllegalWord = refl

no_operand_operation_entry : (op : NoOperandOperation) → get_or shapes (no_operand_operation_place op) (into_register ADDA) ≡ no_operand op
no_operand_operation_entry RTE = refl
no_operand_operation_entry RESET = refl
no_operand_operation_entry RTR = refl
no_operand_operation_entry TRAPV = refl
no_operand_operation_entry ILLEGAL = refl
no_operand_operation_entry RTS = refl
no_operand_operation_entry NOP = refl
no_operand_operation_entry SIMHALT = refl

shape_back : (x : Instruction) (end : List ℤ) → Inside (payload_of x) → take_shape (get_or shapes (place_of x) (into_register ADDA)) (before (payload_of x) end) ≡ taken x end
shape_back (IntoRegister op o r s) end i = rw (register_operation_entry op) (made_back (λ x. IntoRegister op x.0.0 x.0.1 x.1) (thence (thence operand_exact register_exact) size_exact) ((o, r), s) end i)
shape_back (MOVEM d s w o) end i = made_back (λ x. MOVEM x.0.0.0 x.0.0.1 x.0.1 x.1) (thence (thence (thence target-direction_exact size_exact) word_exact) operand_exact) (((d, s), w), o) end i
shape_back (Transfer op d s r o) end i = rw (transfer_operation_entry op) (made_back (λ x. Transfer op x.0.0.0 x.0.0.1 x.0.1 x.1) (thence (thence (thence target-direction_exact size_exact) register_exact) operand_exact) (((d, s), r), o) end i)
shape_back (Pair op o o₂ s) end i = rw (pair_operation_entry op) (made_back (λ x. Pair op x.0.0 x.0.1 x.1) (thence (thence operand_exact operand_exact) size_exact) ((o, o₂), s) end i)
shape_back (Quick op n o s) end i = rw (quick_operation_entry op) (made_back (λ x. Quick op x.0.0 x.0.1 x.1) (thence (thence byte_exact operand_exact) size_exact) ((n, o), s) end i)
shape_back (MOVEQ n r) end i = made_back (λ x. MOVEQ x.0 x.1) (thence byte_exact register_exact) (n, r) end i
shape_back (ImmediateInto op v o s) end i = rw (immediate_operation_entry op) (made_back (λ x. ImmediateInto op x.0.0 x.0.1 x.1) (thence (thence long_exact operand_exact) size_exact) ((v, o), s) end i)
shape_back (WordIntoData op o r g) end i = rw (word_operation_entry op) (made_back (λ x. WordIntoData op x.0.0 x.0.1 x.1) (thence (thence operand_exact register_exact) sign_exact) ((o, r), g) end i)
shape_back (SWAP r) end i = made_back SWAP register_exact r end i
shape_back (EXG r r₂) end i = made_back (λ x. EXG x.0 x.1) (thence register_exact register_exact) (r, r₂) end i
shape_back (UnsizedIntoRegister op o r) end i = rw (unsized_register_operation_entry op) (made_back (λ x. UnsizedIntoRegister op x.0 x.1) (thence operand_exact register_exact) (o, r) end i)
shape_back (UnsizedOne op o) end i = rw (unsized_one_operation_entry op) (made_back (UnsizedOne op) operand_exact o end i)
shape_back (UnsizedPair op o o₂) end i = rw (unsized_pair_operation_entry op) (made_back (λ x. UnsizedPair op x.0 x.1) (thence operand_exact operand_exact) (o, o₂) end i)
shape_back (EXT r s s₂) end i = made_back (λ x. EXT x.0.0 x.0.1 x.1) (thence (thence register_exact size_exact) size_exact) ((r, s), s₂) end i
shape_back (OneOperand op o s) end i = rw (one_operation_entry op) (made_back (λ x. OneOperand op x.0 x.1) (thence operand_exact size_exact) (o, s) end i)
shape_back (Bcc v c s) end i = made_back (λ x. Bcc x.0.0 x.0.1 x.1) (thence (thence long_exact condition_exact) branch_size_exact) ((v, c), s) end i
shape_back (Scc o c) end i = made_back (λ x. Scc x.0 x.1) (thence operand_exact condition_exact) (o, c) end i
shape_back (DBcc r v c) end i = made_back (λ x. DBcc x.0.0 x.0.1 x.1) (thence (thence register_exact long_exact) condition_exact) ((r, v), c) end i
shape_back (Branch op v s) end i = rw (branch_operation_entry op) (made_back (λ x. Branch op x.0 x.1) (thence long_exact branch_size_exact) (v, s) end i)
shape_back (Link op r v) end i = rw (link_operation_entry op) (made_back (λ x. Link op x.0 x.1) (thence register_exact long_exact) (r, v) end i)
shape_back (UNLK r) end i = made_back UNLK register_exact r end i
shape_back (Shift op o o₂ d s) end i = rw (shift_operation_entry op) (made_back (λ x. Shift op x.0.0.0 x.0.0.1 x.0.1 x.1) (thence (thence (thence operand_exact operand_exact) shift_direction_exact) size_exact) (((o, o₂), d), s) end i)
shape_back (Vector op n) end i = rw (vector_operation_entry op) (made_back (Vector op) byte_exact n end i)
shape_back (Status op w) end i = rw (status_operation_entry op) (made_back (Status op) word_exact w end i)
shape_back (ConditionCode op n) end i = rw (condition_code_operation_entry op) (made_back (ConditionCode op) byte_exact n end i)
shape_back (MOVEUSP b r) end i = made_back (λ x. MOVEUSP x.0 x.1) (thence flag_exact register_exact) (b, r) end i
shape_back (Raw op w) end i = rw (raw_operation_entry op) (made_back (Raw op) word_exact w end i)
shape_back (NoOperand op) end i = rw (no_operand_operation_entry op)
shape_back (RTD v) end i = made_back RTD long_exact v end i
shape_back (MOVEC b w r) end i = made_back (λ x. MOVEC x.0.0 x.0.1 x.1) (thence (thence flag_exact word_exact) register_exact) ((b, w), r) end i
shape_back (TRAPcc c t) end i = made_back (λ x. TRAPcc x.0 x.1) (thence condition_exact trap_operand_exact) (c, t) end i
shape_back (MULL o n high g) end i = made_back (λ x. MULL x.0.0.0 x.0.0.1 x.0.1 x.1) (thence (thence (thence operand_exact byte_exact) register_choice_exact) sign_exact) (((o, n), high), g) end i
shape_back (Pack op o o₂ w) end i = rw (pack_operation_entry op) (made_back (λ x. Pack op x.0.0 x.0.1 x.1) (thence (thence operand_exact operand_exact) word_exact) ((o, o₂), w) end i)
shape_back (CAS n n₂ o s) end i = made_back (λ x. CAS x.0.0.0 x.0.0.1 x.0.1 x.1) (thence (thence (thence byte_exact byte_exact) operand_exact) size_exact) (((n, n₂), o), s) end i
shape_back (CAS2 n n₂ n₃ n₄ r r₂ s) end i = made_back (λ x. CAS2 x.0.0.0.0.0.0 x.0.0.0.0.0.1 x.0.0.0.0.1 x.0.0.0.1 x.0.0.1 x.0.1 x.1) (thence (thence (thence (thence (thence (thence byte_exact byte_exact) byte_exact) byte_exact) register_exact) register_exact) size_exact) ((((((n, n₂), n₃), n₄), r), r₂), s) end i
shape_back (BF p o f n) end i = made_back (λ x. BF x.0.0.0 x.0.0.1 x.0.1 x.1) (thence (thence (thence bit_field_operation_exact operand_exact) bit_field_exact) byte_exact) (((p, o), f), n) end i
shape_back (DIVL o n n₂ b g) end i = made_back (λ x. DIVL x.0.0.0.0 x.0.0.0.1 x.0.0.1 x.0.1 x.1) (thence (thence (thence (thence operand_exact byte_exact) byte_exact) flag_exact) sign_exact) ((((o, n), n₂), b), g) end i

pub instruction_exact : Exact form_of take_instruction
unfolding take_instruction form_of
instruction_exact = chosen 98 place_of payload_of (λ p. take_shape (get_or shapes p (into_register ADDA))) shape_there shape_back
