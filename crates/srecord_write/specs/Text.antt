-- The text of an image, record by record.
use Rattle.std.specs.Prelude.{List, [], ◌∷◌, ◌++◌, ℕ, ◌+◌, ◌*◌, ◌/◌, length}
use Rattle.base_spec.specs.Written.{hex2_of, hex8_of}
use Rattle.encode_spec.specs.Encode.{bytes_in}
use Rattle.srecord_spec.specs.Record.{spell_record}
use Rattle.srecord_spec.specs.Write.{summed, data_records, text_of}

-- `S`, the type, the count and the address
abbrev pub head_text : ℕ → ℕ → ℕ → List ℕ
head_text t count a = 83 ∷ (48 + t) ∷ (hex2_of count ++ hex8_of a)

-- a record of words, with its LF
unfoldable pub record_text : ℕ → ℕ → List ℕ → List ℕ
record_text t a ws = spell_record (summed t a (bytes_in ws)) ++ (10 ∷ [])

-- the data records of what remains, from address a on, then the S7 with the start
unfoldable pub rest_text : ℕ → ℕ → List ℕ → List ℕ
rest_text start a ws = text_of (data_records ((length (bytes_in ws) + 31) / 32) a (bytes_in ws) ++ (summed 7 start [] ∷ []))

-- the length of the text of so many words
abbrev pub text_length : ℕ → ℕ
text_length words = 15 * ((words + 15) / 16 + 1) + 4 * words
