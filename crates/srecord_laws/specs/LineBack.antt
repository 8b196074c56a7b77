-- What is printed as an image line is read back. Assumes nothing.
use Rattle.std.specs.Prelude.{◌≡◌, refl, true, false, List, [], ◌∷◌, ◌++◌, map, ℕ, zero, suc, ◌+◌, ◌*◌, ◌/◌, ◌%◌, ◌^◌, ◌<◌, pred, eqb, leb, length}
use Rattle.std.proofs.Common.{ap, ◌∙◌, arith, length-append, take_at}
use Rattle.base_facts.specs.Tests.{and-true, true_and, ltb-true, leb_is, eqb_is, eqb_not}
use Rattle.base_spec.specs.Number.{is_digit, all_digits, number_of}
use Rattle.base_spec.specs.Numbers.{magnitude_of}
use Rattle.base_spec.specs.Parts.{fields}
use Rattle.base_spec.specs.Written.{decimal_of, hex_digit, hex4_of}
use Rattle.base_text.specs.WrittenLaws.{decimal_small}
use Rattle.base_text.specs.ReadBack.{decimal_digits, decimal_back}
use Rattle.sheet_spec.specs.Sheet.{last}
use Rattle.print_spec.specs.Printed.{listed_words}
use Rattle.print_spec.specs.Run.{is_address_field}
use Rattle.srecord_spec.specs.Record.{are_pairs, number_from}
use Rattle.srecord_spec.specs.Printed.{image_line}
use Rattle.srecord_spec.specs.Promises.{AllBelow}
use Rattle.srecord_facts.specs.Digits.{digit_above, digits_pairs, digits_back}
use Rattle.srecord_line.specs.LineForm.{is_capital_word, are_capital_words, capital_word, image_fields, is_image, is_image_line, fields_start, image_line_start, fields_words, image_line_words}
use Rattle.srecord_write.specs.TextLaws.{hex4_bytes}

-- ---- a word and its four digits
word_form_lem : (w : ℕ) → is_capital_word (hex4_of w) ≡ true
word_form_lem w = ap are_pairs (hex4_bytes w) ∙ digits_pairs (w / 256 ∷ w % 256 ∷ [])

word_back : (w : ℕ) → w < 65536 → capital_word (hex4_of w) ≡ w
word_back w h =
    let e : (0 * 256 + w / 256) * 256 + w % 256 ≡ w = omega arith in
    ap capital_word (hex4_bytes w) ∙ ap (number_from 0) (digits_back (w / 256 ∷ w % 256 ∷ []) (omega arith, (omega arith, tt))) ∙ e

words_form : (ws : List ℕ) → are_capital_words (map hex4_of ws) ≡ true
words_form [] = refl
words_form (w ∷ ws) = true_and (is_capital_word (hex4_of w)) (are_capital_words (map hex4_of ws)) (word_form_lem w) (words_form ws)

listed_back : (ws : List ℕ) → AllBelow 65536 ws → map capital_word (map hex4_of ws) ≡ ws
listed_back [] h = refl
listed_back (w ∷ ws) h = λ i. word_back w h.0 i ∷ listed_back ws h.1 i

-- ---- no digit is a tab
hex_no_tab : (d : ℕ) → d < 16 → eqb (hex_digit d) 9 ≡ false
hex_no_tab d h = eqb_not (hex_digit d) 9 (λ e. omega (arith, digit_above d h))

digit_no_tab : (b : ℕ) → is_digit b ≡ true → eqb b 9 ≡ false
digit_no_tab b e = eqb_not b 9 (λ q. omega (arith, leb_is 48 b (and-true (leb 48 b) (leb b 57) e).0))

start_digits : (n : ℕ) → all_digits (decimal_of n) ≡ true
start_digits zero = rw (decimal_small 0 (omega arith))
start_digits (suc n) = (decimal_digits (suc (suc n)) (suc n) (omega arith) (omega arith)).digits

-- ---- the fields of a line
listed-fields : (ws : List ℕ) → fields (listed_words ws) ≡ [] ∷ map hex4_of ws
listed-fields [] = refl
listed-fields (w ∷ ws) =
    rw (
      hex_no_tab (w / 4096 % 16) (omega arith),
      hex_no_tab (w / 256 % 16) (omega arith),
      hex_no_tab (w / 16 % 16) (omega arith),
      hex_no_tab (w % 16) (omega arith),
      listed-fields ws,
    )

line_parts : (l ws : List ℕ) → all_digits l ≡ true → fields (l ++ listed_words ws) ≡ l ∷ map hex4_of ws
line_parts [] ws e = listed-fields ws
line_parts (b ∷ bs) ws e = let t = and-true (is_digit b) (all_digits bs) e in rw (digit_no_tab b t.0, line_parts bs ws t.1)

last_feed : (t : List ℕ) → last (t ++ (10 ∷ [])) ≡ 10
last_feed [] = refl
last_feed (b ∷ []) = refl
last_feed (b ∷ (c ∷ bs)) = last_feed (c ∷ bs)

line_fields : (start : ℕ) (words : List ℕ) → image_fields (image_line start words) ≡ decimal_of start ∷ map hex4_of words
unfolding image_line
line_fields start words =
    let t : List ℕ = decimal_of start ++ listed_words words in
    let n : length t ≡ pred (length (t ++ (10 ∷ []))) = omega (arith, length-append t (10 ∷ [])) in
    ap fields (take_at t (10 ∷ []) (pred (length (t ++ (10 ∷ [])))) n) ∙ line_parts (decimal_of start) words (start_digits start)

pub line_back : (start : ℕ) (words : List ℕ) → start < 2 ^ 32 → AllBelow 65536 words
    → (is_image_line (image_line start words) ≡ true) × (image_line_start (image_line start words) ≡ start) × (image_line_words (image_line start words) ≡ words)
unfolding is_image_line image_line
line_back start words s h =
    let line = image_line start words in
    let f : image_fields line ≡ decimal_of start ∷ map hex4_of words = line_fields start words in
    let d = decimal_back start (omega arith) in
    let a : is_address_field (number_of (decimal_of start)) ≡ true = ap is_address_field d ∙ ltb-true start (2 ^ 32) s in
    let i : is_image (image_fields line) ≡ true =
    ap is_image f ∙ true_and (is_address_field (number_of (decimal_of start))) (are_capital_words (map hex4_of words)) a (words_form words) in
    let l : eqb (last line) 10 ≡ true = eqb_is (last line) 10 (last_feed (decimal_of start ++ listed_words words)) in
    (true_and (eqb (last line) 10) (is_image (image_fields line)) l i, ap fields_start f ∙ ap magnitude_of d, ap fields_words f ∙ listed_back words h)
