-- What contracts and theorems promise of S-records.
use Rattle.std.specs.Prelude.{◌≡◌, true, false, List, [], ◌∷◌, ◌++◌, ℕ, ◌+◌, ◌%◌, ◌^◌, ◌≤◌, ◌<◌, length}
use Rattle.base_spec.specs.Written.{placed}
use Rattle.srecord_spec.specs.declared.Written.{Written}
use Rattle.srecord_spec.specs.declared.Loaded.{Loaded}
use Rattle.srecord_spec.specs.Record.{SRecord, address_width, closes, count_of, checksum_of}
use Rattle.srecord_spec.specs.Write.{text_of, written_of, text_left}
use Rattle.srecord_spec.specs.Read.{paired_words, loaded_of, image_left}

-- from a start, an image and a lent text t: the answer r and the text t'
pub record RecordsWritten (start : ℕ) (image t t' : List ℕ) (r : Written) : Type 0 where
  pub answer : r ≡ written_of start image (length t)
  pub text : t' ≡ text_left start image t

-- from a text and a lent image v: the answer r and the image v'
pub record RecordsRead (text v v' : List ℕ) (r : Loaded) : Type 0 where
  pub answer : r ≡ loaded_of text (length v)
  pub image : v' ≡ image_left text v

-- a text from the first place of a buffer on, of n bytes
pub record PrintedInto (t out out' : List ℕ) (n : ℕ) : Type 0 where
  pub count : n ≡ length t
  pub buffer : out' ≡ placed out 0 t

-- each is below m
abbrev pub AllBelow : ℕ → List ℕ → Type 0
AllBelow m [] = Unit {0}
AllBelow m (b ∷ bs) = (b < m) × AllBelow m bs

-- a record that can be spelled: its numbers are inside their bytes, its data even in number, none where it closes
pub record InForm (r : SRecord) : Type 0 where
  pub known : 1 ≤ address_width r.type
  pub address : r.address < 256 ^ address_width r.type
  pub bytes : AllBelow 256 r.bytes
  pub even : length r.bytes % 2 ≡ 0
  pub none : closes r.type ≡ true → r.bytes ≡ []
  pub count : count_of r < 256
  pub checksum : r.checksum < 256

-- data records, the first at next, each where the last ended, none past 2^32
abbrev pub Consecutive : ℕ → List SRecord → Type 0
Consecutive next [] = Unit {0}
Consecutive next (r ∷ rs) =
    InForm r × (r.checksum ≡ checksum_of r) × (closes r.type ≡ false) × (r.address ≡ next) × (next + length r.bytes ≤ 2 ^ 32)
    × Consecutive (next + length r.bytes) rs

abbrev pub record_words : List SRecord → List ℕ
record_words [] = []
record_words (r ∷ rs) = paired_words r.bytes ++ record_words rs

-- a text as 02 wants it, with its start and its words
pub record Recorded (text : List ℕ) (start : ℕ) (words : List ℕ) : Type 0 where
  pub data_records_lem : List SRecord
  pub last : SRecord
  pub spelled : text ≡ text_of (data_records_lem ++ (last ∷ []))
  pub consecutive : Consecutive start data_records_lem
  pub form : InForm last
  pub sum : last.checksum ≡ checksum_of last
  pub closing : closes last.type ≡ true
  pub again : last.address ≡ start
  pub image : words ≡ record_words data_records_lem
