-- What contracts and theorems promise of a sheet.
use Rattle.std.specs.Prelude.{ℕ, pred, ◌+◌, ◌-◌, ◌/◌, ◌%◌, ◌^◌, ◌≤◌, ◌≡◌, Bool, true, List, [], ◌∷◌, ◌++◌, length, take, drop, get_or}
use Rattle.std.proofs.Math.Option.{some}
use Rattle.isa.specs.declared.BranchOperation.{BranchOperation}
use Rattle.isa.specs.declared.BranchSize.TheVariants.{Short}
use Rattle.isa.specs.declared.Condition.{Condition}
use Rattle.isa.specs.declared.Instruction.TheVariants.{Bcc, Branch}
use Rattle.encode_spec.specs.Encode.{encode_of}
use Rattle.base_spec.specs.Written.{decimal_of}
use Rattle.sheet_spec.specs.declared.Listed.{Listed}
use Rattle.sheet_spec.specs.Names.{bytes}
use Rattle.sheet_spec.specs.declared.Kind.TheVariants as kind
use Rattle.sheet_spec.specs.Line.{Parsed, says, no}
use Rattle.sheet_spec.specs.Spell.{SuitAll, spell}
use Rattle.sheet_spec.specs.Made.{makes, made}
use Rattle.sheet_spec.specs.Sheet.{is_sheet, start_line, instruction_lines, start_of, sized_of, Sheet, sheet_at, start_in, sheet_in, line_count, word_count, end_of, addresses, line_at, count_of_line, address_of_line, resolved, encoded_line, encoded_words, image}
use Rattle.sheet_spec.specs.Translate.{in_order, ScratchRule, full, outcome_at, listed_of, image_of, scratch_of}
use Rattle.sheet_spec.specs.Follow.{Reads, Together, by_lines, by_words}

-- a START line in the form
abbrev pub start_text : ℕ → List ℕ
start_text n = bytes "START" ++ (9 ∷ decimal_of n)

-- what is said is in the grammar
abbrev pub InGrammar : Parsed → Type 0
InGrammar (says vs) = SuitAll (kind.Instruction ∷ []) vs
InGrammar no = Unit {0}

-- each line is measured, and the end is at most 2^32
pub record MeasuredSheet (s : Sheet) : Type 0 where
  pub sized : (n : ℕ) → 1 ≤ n → n ≤ line_count s → (sized_of (line_count s) (line_at s n)).number ≡ 0
  pub ends : end_of s.start (word_count s) ≤ 2 ^ 32

-- every place of 01's table is in order: of a sheet, and of a text at a start
pub record AcceptedSheet (s : Sheet) (room : ℕ) : Type 0 where
  pub measured : MeasuredSheet s
  pub image : word_count s ≤ room
  pub encoded : (n : ℕ) → 1 ≤ n → n ≤ line_count s → (encoded_line (address_of_line s n) (made (resolved s) (line_at s n))).number ≡ 0

pub record AcceptedText (rule : ScratchRule) (text : List ℕ) (start places room : ℕ) : Type 0 where
  pub sheet : is_sheet text ≡ true
  pub form : start_of (start_line text) ≡ some (start_in text)
  pub even : start % 2 ≡ 0
  pub scratch : rule.needed (line_count (sheet_at start text)) ≤ places
  pub lines : AcceptedSheet (sheet_at start text) room

-- line n is no short branch of -1, to its own address plus 1 (02, N5)
abbrev pub NoMinusOne : Sheet → ℕ → Type 0
NoMinusOne s n =
    ((op : BranchOperation) → made (resolved s) (line_at s n) ≡ makes (Branch op ((address_of_line s n + 1) % 2 ^ 32) Short) → ⊥)
    × ((c : Condition) → made (resolved s) (line_at s n) ≡ makes (Bcc ((address_of_line s n + 1) % 2 ^ 32) c Short) → ⊥)

-- from a text, an image v and a scratch s: the answer r, the image v' and the scratch s'
pub record Translated (rule : ScratchRule) (text v s v' s' : List ℕ) (r : Listed) : Type 0 where
  pub listed : r ≡ listed_of rule text (length s) (length v)
  pub image : v' ≡ image_of rule text (length s) v
  pub scratch : s' ≡ scratch_of rule text s v

-- two sheets, at starts a and b, are the same (01)
pub record SameAt (a b : ℕ) (f g : List ℕ) : Type 0 where
  pub first : outcome_at full f a 4096 45056 ≡ in_order
  pub second : outcome_at full g b 4096 45056 ≡ in_order
  pub starts : a ≡ b
  pub images : image (sheet_at a f) ≡ image (sheet_at b g)

-- line n of a sheet: its tokens and instruction, read from the words v at its address as its plain form; its words stand at its place
pub record Stands (s : Sheet) (v : List ℕ) (n : ℕ) : Type 0 where
  pub read : Reads s v n
  pub words : take (count_of_line s n) (drop ((address_of_line s n - s.start) / 2) v) ≡ encoded_words (encode_of read.instruction (address_of_line s n))

-- demand 3 of a sheet and its words v: the followers stay together after any choices; each line stands, reached or not
pub record Demand3 (s : Sheet) (v : List ℕ) : Type 0 where
  pub together : (choices : List Bool) → Together s v (by_lines s choices) (by_words s.start v choices)
  pub each : (n : ℕ) → 1 ≤ n → n ≤ line_count s → Stands s v n

-- no refusal: the counts; demand 3 of the words left; each line's spelling; each place's address; later words and places unchanged
pub record Followed (rule : ScratchRule) (text v s v' s' : List ℕ) (r : Listed) : Type 0 where
  pub lines : r.lines ≡ line_count (sheet_in text)
  pub counted : r.words ≡ word_count (sheet_in text)
  pub words : take r.words v' ≡ image (sheet_in text)
  pub demand_3 : Demand3 (sheet_in text) (take r.words v')
  pub spelled : (n : ℕ) (h : 1 ≤ n) (g : n ≤ line_count (sheet_in text)) → get_or (instruction_lines text) (pred n) [] ≡ spell (demand_3.each n h g).read.tokens
  pub addresses : (n : ℕ) → 1 ≤ n → n ≤ rule.needed r.lines → get_or s' (pred n) 0 ≡ get_or (rule.held (addresses (sheet_in text))) (pred n) 0
  pub later_words : drop r.words v' ≡ drop r.words v
  pub later_places : drop (rule.needed r.lines) s' ≡ drop (rule.needed r.lines) s
