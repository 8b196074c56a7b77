-- How long the text of an image is. Assumes nothing.
use Rattle.std.specs.Prelude.{◌≡◌, refl, List, [], ◌∷◌, ◌++◌, ℕ, zero, suc, ◌+◌, ◌*◌, ◌-◌, ◌/◌, ◌≤◌, ◌<◌, min, length, take, drop}
use Rattle.std.proofs.Common.{sym, ap, ◌∙◌, arith, length-append, length-take, length-drop}
use Rattle.std.proofs.Math.Nat.{div-div-eq-div-mul}
use Rattle.base_facts.specs.Tests.{Lt, less, past, lt?}
use Rattle.encode_spec.specs.Encode.{bytes_in}
use Rattle.m68k_facts.specs.Laws.{bytes_length}
use Rattle.srecord_spec.specs.Record.{SRecord, address_width, digits_of, spell_record}
use Rattle.srecord_spec.specs.Write.{summed, data_records, text_of, image_text}
use Rattle.srecord_write.specs.Text.{text_length}

digits_length : (bs : List ℕ) → length (digits_of bs) ≡ 2 * length bs
digits_length [] = omega arith
digits_length (b ∷ bs) = omega (arith, digits_length bs)

-- a record with four address bytes, without its LF
pub record_length : (t a : ℕ) (bs : List ℕ) → address_width t ≡ 4 → length (spell_record (summed t a bs)) ≡ 14 + 2 * length bs
unfolding spell_record summed
record_length t a bs w =
    let sum = (summed t a bs).checksum in
    rw w (omega (arith, digits_length (bs ++ (sum ∷ [])), length-append bs (sum ∷ [])))

data_length : (n a : ℕ) (bs : List ℕ) (rs : List SRecord) → length bs ≤ 32 * n
    → length (text_of (data_records n a bs ++ rs)) ≡ 15 * n + 2 * length bs + length (text_of rs)
data_length zero a bs rs h = omega arith
data_length (suc n) a bs rs h =
    let first = spell_record (summed 3 a (take 32 bs)) in
    omega (
      arith,
      length-append (first ++ (10 ∷ [])) (text_of (data_records n (a + 32) (drop 32 bs) ++ rs)),
      length-append first (10 ∷ []),
      record_length 3 a (take 32 bs) refl,
      length-take 32 bs,
      length-drop 32 bs,
      data_length n (a + 32) (drop 32 bs) rs (rw length-drop (omega arith)),
    )

record_count : (n : ℕ) → (2 * n + 31) / 32 ≡ (n + 15) / 16
record_count n = let h : (2 * n + 31) / 2 ≡ n + 15 = omega arith in sym (div-div-eq-div-mul (2 * n + 31) 2 16) ∙ ap (λ (m : ℕ). m / 16) h

-- 15 bytes for each data record and for the S7, and 4 for each word
pub text_length_lem : (start : ℕ) (image : List ℕ) → length (image_text start image) ≡ 15 * ((length image + 15) / 16 + 1) + 4 * length image
unfolding image_text
text_length_lem start image =
    let bs = bytes_in image in
    let s7 = spell_record (summed 7 start []) in
    let n : (length bs + 31) / 32 ≡ (length image + 15) / 16 = rw (bytes_length image) (record_count (length image)) in
    omega (
      arith,
      bytes_length image,
      data_length ((length bs + 31) / 32) start bs (summed 7 start [] ∷ []) (omega arith),
      record_length 7 start [] refl,
      length-append (s7 ++ (10 ∷ [])) [],
      length-append s7 (10 ∷ []),
    )

-- after the first record of what remains from word `from` on
pub length_from : (n from c : ℕ) → from < n → c ≡ min 16 (n - from) → 15 + 4 * c + text_length (n - (from + c)) ≡ text_length (n - from)
length_from n from c h e = go (lt? (n - from) 16)
  where
    go : Lt (n - from) 16 → 15 + 4 * c + text_length (n - (from + c)) ≡ text_length (n - from)
    go (less l f) = let q : n - (from + c) ≡ 0 = omega arith in rw q (omega arith)
    go (past l f) = let q : n - from ≡ n - (from + c) + 16 = omega arith in rw q (omega arith)
