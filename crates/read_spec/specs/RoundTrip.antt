-- What the two ways round give: `read` of what `encode` laid down, and `encode` of what `read` gave.
use Rattle.std.specs.Prelude.{ℕ, ◌*◌, take, replicate, ◌≡◌, List}
use Rattle.isa.specs.declared.Instruction.{Instruction}
use Rattle.isa.specs.declared.Encoded.{Encoded}
use Rattle.isa.specs.declared.Measured.{Measured}
use Rattle.isa_spec.specs.Ordinary.{Ordinary}
use Rattle.encode_spec.specs.Encode.{encode_of, size_of}
use Rattle.read_spec.specs.Reading.{Reading, Read, Short, Nothing}
use Rattle.read_spec.specs.Read.{read_of}
use Rattle.read_spec.specs.ReadingRefusal.{reading_refusal}
use Rattle.read_spec.specs.Plain.{plain}

-- what the two ways round give
unfoldable pub read_back_of : Instruction → ℕ → Reading
read_back_of i a = read_of (take (encode_of i a).count (encode_of i a).words) a

-- an ordinary instruction that is accepted comes back in plain form, with its size
abbrev pub ReadsBack : Instruction → ℕ → Reading → Type 0
ReadsBack i a r = (encode_of i a).number ≡ 0 → Ordinary i → r ≡ Read (plain i) (size_of i).size

abbrev pub refused_back : Measured → Encoded
refused_back m = record { words = replicate 11 0; count = 0; number = m.number; detail = m.detail; value = m.value }

abbrev pub written_back : Reading → ℕ → Encoded
written_back (Read i n) a = encode_of i a
written_back Short a = refused_back (reading_refusal Short)
written_back Nothing a = refused_back (reading_refusal Nothing)

-- what reads is accepted again, and its words are those read
abbrev pub WritesBack : List ℕ → ℕ → Encoded → Type 0
WritesBack ws a r =
    (i : Instruction) (n : ℕ) → read_of ws a ≡ Read i n → (r.number ≡ 0) × (2 * r.count ≡ n) × (take r.count r.words ≡ take r.count ws)
