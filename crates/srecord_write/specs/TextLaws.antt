-- Laws of the text of an image, record by record. Assumes nothing.
use Rattle.std.specs.Prelude.{◌≡◌, refl, ℕ, zero, suc, ◌+◌, ◌*◌, ◌-◌, ◌/◌, ◌%◌, ◌^◌, ◌≤◌, ◌<◌, min, take, drop, get_or}
use Rattle.std.proofs.Math.Path.{sym}
use Rattle.std.proofs.Common.{ap, ◌∙◌, arith, add-one, length-drop, drop_of_length-le, take-suc, take_all, drop-drop}
use mathlib.Core.List.{List, [], ◌∷◌, ◌++◌, append-nil}
use Rattle.std.proofs.Math.Numerals.{unary_clauses}
use Rattle.std.proofs.Math.Nat.{div-div-eq-div-mul}
use Rattle.std.proofs.Math.ListN.{length}
use Rattle.base_facts.specs.Tests.{Lt, less, past, lt?}
use Rattle.base_spec.specs.Written.{hex2_of, hex4_of, hex8_of}
use Rattle.encode_spec.specs.Encode.{bytes_in}
use Rattle.m68k_facts.specs.Laws.{bytes_length}
use Rattle.sheet_spec.specs.Sheet.{total}
use Rattle.srecord_spec.specs.Record.{address_width, bytes_to, checksum_of, digits_of, spell_record}
use Rattle.srecord_spec.specs.Write.{summed, image_text}
use Rattle.srecord_facts.specs.Bytes.{twice}
use Rattle.srecord_write.specs.Text.{head_text, record_text, rest_text}

-- ---- sums of bytes
sum_more : (ws : List ℕ) (w : ℕ) → total (bytes_in (ws ++ (w ∷ []))) ≡ total (bytes_in ws) + (w / 256 + w % 256)
sum_more [] w = omega arith
sum_more (v ∷ ws) w = omega (arith, sum_more ws w)

-- one word more
pub sum_next : (ws : List ℕ) (i : ℕ) → i < length ws
    → total (bytes_in (take (i + 1) ws)) ≡ total (bytes_in (take i ws)) + (get_or ws i 0 / 256 + get_or ws i 0 % 256)
sum_next ws i h = rw (add-one, take-suc ws i 0 h) (sum_more (take i ws) (get_or ws i 0))

-- ---- digits
pub hex4_bytes : (w : ℕ) → hex4_of w ≡ hex2_of (w / 256) ++ hex2_of (w % 256)
hex4_bytes w =
    let p : w / 16 / 16 ≡ w / 256 = div-div-eq-div-mul w 16 16 in
    let a : w / 4096 % 16 ≡ w / 256 / 16 % 16 = rw (div-div-eq-div-mul w 256 16) in
    let b : w / 16 % 16 ≡ w % 256 / 16 % 16 = omega (arith, p) in
    let c : w % 16 ≡ w % 256 % 16 = omega arith in
    rw (a, b, c)

data_more : (ws : List ℕ) (w : ℕ) → digits_of (bytes_in (ws ++ (w ∷ []))) ≡ digits_of (bytes_in ws) ++ hex4_of w
data_more [] w = sym (hex4_bytes w)
data_more (v ∷ ws) w = ap (λ (t : List ℕ). hex2_of (v / 256) ++ hex2_of (v % 256) ++ t) (data_more ws w)

-- one word more
pub data_next : (ws : List ℕ) (i : ℕ) → i < length ws → digits_of (bytes_in (take (i + 1) ws)) ≡ digits_of (bytes_in (take i ws)) ++ hex4_of (get_or ws i 0)
data_next ws i h = rw (add-one, take-suc ws i 0 h) (data_more (take i ws) (get_or ws i 0))

digits_append : (xs ys : List ℕ) → digits_of (xs ++ ys) ≡ digits_of xs ++ digits_of ys
digits_append [] ys = refl
digits_append (x ∷ xs) ys = ap (λ (t : List ℕ). hex2_of x ++ t) (digits_append xs ys)

-- four bytes of an address
address_digits : (a : ℕ) → a < 2 ^ 32 → hex8_of a ≡ digits_of (bytes_to 4 a)
address_digits a h =
    let d : a / 65536 / 256 ≡ a / 16777216 = div-div-eq-div-mul a 65536 256 in
    let e : a / 256 / 256 ≡ a / 65536 = div-div-eq-div-mul a 256 256 in
    let b3 : a / 65536 / 256 ≡ a / 256 ^ 3 % 256 = omega (arith, d) in
    let b1 : a % 65536 / 256 ≡ a / 256 ^ 1 % 256 = omega (arith, e) in
    let b0 : a % 65536 % 256 ≡ a / 256 ^ 0 % 256 = omega arith in
    ap (λ (t : List ℕ). t ++ hex4_of (a % 65536)) (hex4_bytes (a / 65536) ∙ ap (λ (b : ℕ). hex2_of b ++ hex2_of (a / 65536 % 256)) b3)
    ∙ ap (λ (t : List ℕ). hex2_of (a / 256 ^ 3 % 256) ++ hex2_of (a / 256 ^ 2 % 256) ++ t)
    (hex4_bytes (a % 65536) ∙ ap (λ (b : ℕ). hex2_of b ++ hex2_of (a % 65536 % 256)) b1 ∙ ap (λ (b : ℕ). hex2_of (a / 256 ^ 1 % 256) ++ hex2_of b) b0)

-- ---- bytes of words
bytes_take : (n : ℕ) (ws : List ℕ) → bytes_in (take n ws) ≡ take (twice n) (bytes_in ws)
bytes_take zero ws = refl
bytes_take (suc n) [] = refl
bytes_take (suc n) (w ∷ ws) = ap (λ (t : List ℕ). w / 256 ∷ w % 256 ∷ t) (bytes_take n ws)

bytes_drop : (n : ℕ) (ws : List ℕ) → bytes_in (drop n ws) ≡ drop (twice n) (bytes_in ws)
bytes_drop zero ws = refl
bytes_drop (suc n) [] = refl
bytes_drop (suc n) (w ∷ ws) = bytes_drop n ws

-- ---- a record, part by part
module _ (t a : ℕ) (ws : List ℕ) (w : address_width t ≡ 4) (h : a < 2 ^ 32) where
  record_digits : (count sum : ℕ) → digits_of (count ∷ ((bytes_to 4 a ++ bytes_in ws) ++ (sum ∷ [])))
      ≡ ((hex2_of count ++ hex8_of a) ++ digits_of (bytes_in ws)) ++ hex2_of sum
  record_digits count sum =
      ap (λ (s : List ℕ). hex2_of count ++ s)
      (digits_append (bytes_to 4 a ++ bytes_in ws) (sum ∷ [])
      ∙ ap (λ (s : List ℕ). s ++ hex2_of sum) (digits_append (bytes_to 4 a) (bytes_in ws) ∙ ap (λ (s : List ℕ). s ++ digits_of (bytes_in ws)) (sym (address_digits a h))))

  pub record_parts : (count sum : ℕ) → count ≡ 5 + 2 * length ws → sum ≡ 255 - (count + total (bytes_to 4 a ++ bytes_in ws)) % 256
      → record_text t a ws ≡ ((head_text t count a ++ digits_of (bytes_in ws)) ++ hex2_of sum) ++ (10 ∷ [])
  unfolding record_text spell_record summed checksum_of
  record_parts count sum c s =
      let n : length (bytes_to 4 a ++ bytes_in ws) + 1 ≡ count = omega (arith, bytes_length ws) in
      rw (w, n, sym s) (ap (λ (d : List ℕ). 83 ∷ (48 + t) ∷ (d ++ (10 ∷ []))) (record_digits count sum))

-- ---- what remains
pub rest_all : (start : ℕ) (image : List ℕ) → image_text start image ≡ rest_text start (start + 2 * 0) image
unfolding image_text rest_text
rest_all start image = simp unary_clauses

pub rest_none : (start a : ℕ) → rest_text start a [] ≡ record_text 7 start []
unfolding rest_text record_text
rest_none start a = append-nil (spell_record (summed 7 start []) ++ (10 ∷ []))

-- the first record, full or the last
rest_first : (start a : ℕ) (ws : List ℕ) → 1 ≤ length ws → rest_text start a ws ≡ record_text 3 a (take 16 ws) ++ rest_text start (a + 32) (drop 16 ws)
unfolding rest_text record_text
rest_first start a ws h =
    let n : (length (bytes_in ws) + 31) / 32 ≡ suc ((length (drop 32 (bytes_in ws)) + 31) / 32) = rw length-drop (omega (arith, bytes_length ws)) in
    rw (n, bytes_take 16 ws, bytes_drop 16 ws)

pub rest_next : (start a : ℕ) (ws : List ℕ) (c : ℕ) → 1 ≤ length ws → c ≡ min 16 (length ws)
    → rest_text start a ws ≡ record_text 3 a (take c ws) ++ rest_text start (a + 2 * c) (drop c ws)
rest_next start a ws c h e = go (lt? (length ws) 16)
  where
    go : Lt (length ws) 16 → rest_text start a ws ≡ record_text 3 a (take c ws) ++ rest_text start (a + 2 * c) (drop c ws)
    go (less l f) =
        rw (rest_first start a ws h, take_all 16 ws (omega arith), drop_of_length-le ws {i = 16} (omega arith), take_all c ws (omega arith), drop_of_length-le ws {i = c} (omega arith), rest_none start (a + 32), rest_none start (a + 2 * c))
    go (past l f) = let q : c ≡ 16 = omega arith in rw q (rest_first start a ws h)

-- the first record of what remains from word `from` on
pub rest_from : (start : ℕ) (image : List ℕ) (from c : ℕ) → from < length image → c ≡ min 16 (length image - from)
    → rest_text start (start + 2 * from) (drop from image)
    ≡ record_text 3 (start + 2 * from) (take (from + c - from) (drop from image)) ++ rest_text start (start + 2 * (from + c)) (drop (from + c) image)
rest_from start image from c h e =
    let n = rest_next start (start + 2 * from) (drop from image) c (rw length-drop (omega arith)) (rw length-drop e) in
    let part : from + c - from ≡ c = omega arith in
    let address : start + 2 * (from + c) ≡ start + 2 * from + 2 * c = omega arith in
    rw (part, address, sym (drop-drop c from image)) n
