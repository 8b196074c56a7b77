-- Following (01, "The listing"): two followers, one over the lines and one over the image's words, and what it is for them to be together.
use Rattle.std.specs.Prelude.{ℕ, ◌+◌, ◌*◌, ◌-◌, ◌/◌, ◌%◌, ◌≤◌, ◌≡◌, Bool, true, false, cond, ◌&&◌, List, [], ◌∷◌, leb, ltb, eqb, length, drop}
use Rattle.std.proofs.Math.Option.{Option}
use Rattle.isa.specs.declared.Instruction.{Instruction}
use Rattle.isa.specs.declared.Instruction.TheVariants.{IntoRegister, MOVEM, Transfer, Pair, Quick, MOVEQ, ImmediateInto, WordIntoData, SWAP, EXG, UnsizedIntoRegister, UnsizedOne, UnsizedPair, EXT, OneOperand, Bcc, Scc, DBcc, Branch, Link, UNLK, Shift, Vector, Status, ConditionCode, MOVEUSP, Raw, NoOperand, RTD, MOVEC, TRAPcc, MULL, Pack, CAS, CAS2, BF, DIVL}
use Rattle.isa.specs.declared.UnsizedOneOperation.{UnsizedOneOperation}
use Rattle.isa.specs.declared.UnsizedOneOperation.TheVariants.{PEA, NBCD, JSR, JMP, TAS, MOVEtoCCR, MOVEfromCCR, MOVEtoSR, MOVEfromSR}
use Rattle.isa.specs.declared.StatusOperation.{StatusOperation}
use Rattle.isa.specs.declared.StatusOperation.TheVariants.{ANDItoSR, ORItoSR, EORItoSR, STOP}
use Rattle.isa.specs.declared.RawOperation.{RawOperation}
use Rattle.isa.specs.declared.RawOperation.TheVariants.{LINEA, LINEF, IllegalWord}
use Rattle.isa.specs.declared.NoOperandOperation.{NoOperandOperation}
use Rattle.isa.specs.declared.NoOperandOperation.TheVariants.{RTE, RESET, RTR, TRAPV, ILLEGAL, RTS, NOP, SIMHALT}
use Rattle.read_spec.specs.Reading.{Reading, Read, Short, Nothing}
use Rattle.read_spec.specs.Plain.{plain}
use Rattle.read_spec.specs.Read.{read_of}
use Rattle.sheet_spec.specs.Line.{Token, says}
use Rattle.sheet_spec.specs.Made.{Line, Made, makes, turned_back, made, of_lines}
use Rattle.sheet_spec.specs.Sheet.{Sheet, line_count, end_of, line_at, count_of_line, address_of_line, resolved}

-- where an instruction in plain form goes: on to what stands after it, to a target, to a target if taken and else on, or nowhere
pub data Next : Type 0 where
  on : Next
  to : ℕ → Next
  either : ℕ → Next
  stop : Next

abbrev pub jumps : UnsizedOneOperation → Next
jumps PEA = on
jumps NBCD = on
jumps JSR = stop
jumps JMP = stop
jumps TAS = on
jumps MOVEtoCCR = on
jumps MOVEfromCCR = on
jumps MOVEtoSR = on
jumps MOVEfromSR = on

abbrev pub status_next : StatusOperation → Next
status_next ANDItoSR = on
status_next ORItoSR = on
status_next EORItoSR = on
status_next STOP = stop

abbrev pub raw_next : RawOperation → Next
raw_next LINEA = stop
raw_next LINEF = stop
raw_next IllegalWord = on

abbrev pub no_operand_next : NoOperandOperation → Next
no_operand_next RTE = stop
no_operand_next RESET = on
no_operand_next RTR = stop
no_operand_next TRAPV = on
no_operand_next ILLEGAL = stop
no_operand_next RTS = stop
no_operand_next NOP = on
no_operand_next SIMHALT = on

abbrev pub next_of : Instruction → Next
next_of (IntoRegister op o r s) = on
next_of (MOVEM direction s mask o) = on
next_of (Transfer op direction s r o) = on
next_of (Pair op o d s) = on
next_of (Quick op n o s) = on
next_of (MOVEQ v r) = on
next_of (ImmediateInto op v o s) = on
next_of (WordIntoData op o r sign) = on
next_of (SWAP r) = on
next_of (EXG x y) = on
next_of (UnsizedIntoRegister op o r) = on
next_of (UnsizedOne op o) = jumps op
next_of (UnsizedPair op o d) = on
next_of (EXT r s z) = on
next_of (OneOperand op o s) = on
next_of (Bcc t condition s) = either t
next_of (Scc o condition) = on
next_of (DBcc r t condition) = either t
next_of (Branch op t s) = to t
next_of (Link op r d) = on
next_of (UNLK r) = on
next_of (Shift op count o direction s) = on
next_of (Vector op v) = stop
next_of (Status op v) = status_next op
next_of (ConditionCode op v) = on
next_of (MOVEUSP b r) = on
next_of (Raw op w) = raw_next op
next_of (NoOperand op) = no_operand_next op
next_of (RTD d) = stop
next_of (MOVEC b control r) = on
next_of (TRAPcc condition x) = on
next_of (MULL o low high sign) = on
next_of (Pack op o d adjustment) = on
next_of (CAS compare update o s) = on
next_of (CAS2 compare1 compare2 update1 update2 pointer1 pointer2 s) = on
next_of (BF op o f r) = on
next_of (DIVL o quotient remainder wide sign) = on

-- where a follower is
pub data Place : Type 0 where
  at : ℕ → Place
  ended : Place
  lost : Place

-- one step for each choice
abbrev pub follow : (Place → Bool → Place) → Place → List Bool → Place
follow step p [] = p
follow step p (c ∷ cs) = follow step (step p c) cs

-- the step of either follower: `come` is what coming to a place does, `after` the next place, `aim` the target's
abbrev pub goes : (ℕ → Place) → Next → ℕ → ℕ → Bool → Place
goes come on after aim c = come after
goes come (to t) after aim c = come aim
goes come (either t) after aim true = come aim
goes come (either t) after aim false = come after
goes come stop after aim c = ended

abbrev pub target : Next → ℕ
target on = 0
target (to t) = t
target (either t) = t
target stop = 0

-- ---- the lines of a sheet

-- where a line goes, by its plain form
abbrev pub line_next : Made → Next
line_next (makes i) = next_of (plain i)
line_next (turned_back k) = stop

abbrev pub next_with : (ℕ → Option ℕ) → Sheet → ℕ → Next
next_with f s n = line_next (made f (line_at s n))

-- the line that its target names
abbrev pub target_line : Sheet → ℕ → ℕ
target_line s n = target (next_with (of_lines (line_count s) (λ k. k)) s n)

-- the first follower; passing the last line ends
abbrev pub come_line : Sheet → ℕ → Place
come_line s n = cond (leb n (line_count s)) (at n) ended

abbrev pub step_line : Sheet → Place → Bool → Place
step_line s (at n) c = goes (come_line s) (next_with (resolved s) s n) (n + 1) (target_line s n) c
step_line s ended c = ended
step_line s lost c = lost

abbrev pub by_lines : Sheet → List Bool → Place
by_lines s cs = follow (step_line s) (come_line s 1) cs

-- ---- the words v from the start to the end

-- a word of the image begins there
abbrev pub begins : ℕ → List ℕ → ℕ → Bool
begins start v a = leb start a && ltb a (end_of start (length v)) && eqb ((a - start) % 2) 0

abbrev pub reading_at : ℕ → List ℕ → ℕ → Reading
reading_at start v a = read_of (drop ((a - start) / 2) v) a

abbrev pub seen : Reading → ℕ → Place
seen (Read i n) a = at a
seen Short a = lost
seen Nothing a = lost

abbrev pub come_word : ℕ → List ℕ → ℕ → Place
come_word start v a = cond (eqb a (end_of start (length v))) ended (cond (begins start v a) (seen (reading_at start v a) a) lost)

abbrev pub moved : (ℕ → Place) → Reading → ℕ → Bool → Place
moved come (Read i n) a c = goes come (next_of i) (a + n) (target (next_of i)) c
moved come Short a c = lost
moved come Nothing a c = lost

abbrev pub step_word : ℕ → List ℕ → Place → Bool → Place
step_word start v (at a) c = moved (come_word start v) (reading_at start v a) a c
step_word start v ended c = ended
step_word start v lost c = lost

abbrev pub by_words : ℕ → List ℕ → List Bool → Place
by_words start v cs = follow (step_word start v) (come_word start v start) cs

-- line n says tokens and is an instruction, which is what the words v read at its address, in plain form
pub record Reads (s : Sheet) (v : List ℕ) (n : ℕ) : Type 0 where
  pub tokens : List Token
  pub instruction : Instruction
  pub parsed : line_at s n ≡ says tokens
  pub line : Line (resolved s) tokens instruction
  pub reads : reading_at s.start v (address_of_line s n) ≡ Read (plain instruction) (2 * count_of_line s n)

-- both have ended; or the image is at the address of the line where the sheet is, and reads there as that line's plain form
pub data Together (s : Sheet) (v : List ℕ) : Place → Place → Type 0 where
  both-ended : Together s v ended ended
  both_at : (n : ℕ) → 1 ≤ n → n ≤ line_count s → Reads s v n → Together s v (at n) (at (address_of_line s n))
