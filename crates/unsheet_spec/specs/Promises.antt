-- What contracts and theorems promise of the sheet of an image.
use Rattle.std.specs.Prelude.{ℕ, ◌+◌, ◌/◌, ◌%◌, ◌^◌, ◌≤◌, ◌≡◌, ◌⊎◌, List, [], ◌∷◌, length, drop}
use Rattle.isa.specs.declared.Instruction.{Instruction}
use Rattle.read_spec.specs.Reading.{Read}
use Rattle.read_spec.specs.Read.{read_of}
use Rattle.sheet_spec.specs.Sheet.{start_in, sheet_in, line_count, end_of, image}
use Rattle.sheet_spec.specs.Follow.{to, either, next_of}
use Rattle.sheet_spec.specs.Translate.{full, in_order, outcome_of}
use Rattle.unsheet_spec.specs.declared.Unsheeted.{Unsheeted}
use Rattle.unsheet_spec.specs.Lines.{ReadLine, address_at}
use Rattle.unsheet_spec.specs.Text.{sheet_text}
use Rattle.unsheet_spec.specs.Unsheet.{unsheeted_of, bytes_left}

-- from a start, an image and lent bytes t: the answer r and the bytes t'
pub record SheetFound (start : ℕ) (image t t' : List ℕ) (r : Unsheeted) : Type 0 where
  pub answer : r ≡ unsheeted_of start image (length t)
  pub bytes : t' ≡ bytes_left start image t

-- lines from a place on, one directly after the other, each what the image reads at its place, the last up to the end
abbrev pub Successive : ℕ → List ℕ → ℕ → List ReadLine → Type 0
Successive start v place [] = place ≡ length v
Successive start v place (l ∷ ls) =
    (i : Instruction) × (n : ℕ)
    × (l ≡ record { place = place; reading = Read i n })
    × (read_of (drop place v) (address_at start place) ≡ Read i n)
    × Successive start v (place + n / 2) ls

-- a target is the address of a line's first word
abbrev pub OnLine : ℕ → List ReadLine → ℕ → Type 0
OnLine start [] t = ⊥
OnLine start (l ∷ ls) t = (address_at start l.place ≡ t) ⊎ OnLine start ls t

-- each branch of some of the lines lands on a line
abbrev pub Land : ℕ → List ReadLine → List ReadLine → Type 0
Land start all [] = Unit {0}
Land start all (l ∷ ls) =
    ((i : Instruction) (n t : ℕ) → l.reading ≡ Read i n → (next_of i ≡ to t) ⊎ (next_of i ≡ either t) → OnLine start all t) × Land start all ls

-- every sentence of 02 that can refuse an image is met by the lines ls
pub record Found (start : ℕ) (v : List ℕ) (room : ℕ) (ls : List ReadLine) : Type 0 where
  pub even : start % 2 ≡ 0
  pub ends : end_of start (length v) ≤ 2 ^ 32
  pub some : 1 ≤ length v
  pub whole : Successive start v 0 ls
  pub lines : length ls ≤ 4096
  pub branches : Land start ls ls
  pub text : length (sheet_text start v) ≤ 65536
  pub lent : length (sheet_text start v) ≤ room

-- a text is translated, with enough lent, into start and image
pub record Returns (text : List ℕ) (start : ℕ) (v : List ℕ) : Type 0 where
  pub accepts : (places room : ℕ) → line_count (sheet_in text) ≤ places → length v ≤ room → outcome_of full text places room ≡ in_order
  pub starts : start_in text ≡ start
  pub words : image (sheet_in text) ≡ v
