-- The lines of an image as the lines of a sheet: each is made the instruction that was read, lies where it was read, and lays down the words read.
use Rattle.std.specs.Prelude.{ℕ, zero, suc, pred, ◌+◌, ◌*◌, ◌-◌, ◌/◌, ◌^◌, ◌≤◌, ◌<◌, ◌≡◌, refl, List, [], ◌∷◌, ◌++◌, map, leb, drop, get_or}
use Rattle.std.proofs.Common.{sym, ◌∙◌, subst, arith, length-drop, take-append-drop, drop-drop, le-leb}
use Rattle.std.proofs.Math.Path.{ap}
use Rattle.std.proofs.Math.Option.{Option, some}
use Rattle.std.proofs.Math.ListN.{length, take}
use Rattle.std.proofs.lemmas.List.{length-map}
use Rattle.std.proofs.Math.Seq.{drop-length}
use Rattle.isa.specs.declared.Instruction.{Instruction}
use Rattle.isa.specs.declared.Measured.{Measured}
use Rattle.isa.specs.declared.Encoded.{Encoded}
use Rattle.encode_spec.specs.Item.{Verdict, fine}
use Rattle.encode_spec.specs.Encode.{words_of, encoded_as, encode_of, measured_as}
use Rattle.read_spec.specs.Reading.{Reading, Read, Short, Nothing}
use Rattle.read_spec.specs.Accepted.{Words}
use Rattle.read_spec.specs.Read.{read_of}
use Rattle.read_operand_laws.specs.TreeLaws.{rest_words}
use Rattle.read_laws.specs.ReaderLaws.{sound}
use Rattle.m68k_facts.specs.Laws.{size_law, accepted_words}
use Rattle.sheet_spec.specs.Line.{Parsed, says, no}
use Rattle.sheet_spec.specs.Made.{Line, made, of_lines}
use Rattle.sheet_spec.specs.Sheet.{sized_as, sized_of, half_of, Sheet, word_count, total, end_of, addresses_from, addresses, resolved, encoded_line, encoded_from, encoded, encoded_words, all_words, image}
use Rattle.sheet_spec.specs.Translate.{in_order, and_then, require, in_turn, size_outcome, encode_outcome, sizing, closing, encoding, sheet_outcome}
use Rattle.sheet_spec.specs.Follow.{next_of}
use Rattle.sheet_spec.specs.declared.Kind.TheVariants as kind
use Rattle.sheet_spec.specs.Spell.{SuitAll}
use Rattle.sheet_facts.specs.Listing.{as_in_order}
use Rattle.sheet_laws.specs.Otherwise.{require-is, and_fine}
use Rattle.sheet_size_facts.specs.Turned.{Bounded}
use Rattle.sheet_size_facts.specs.Says.{line_makes}
use Rattle.sheet_size_facts.specs.Bounds.{up_to, up_to_lem}
use Rattle.sheet_size_facts.specs.Counted.{words_counted}
use Rattle.unsheet_spec.specs.Lines.{ReadLine, address_at, landing}
use Rattle.unsheet_spec.specs.Text.{tokens_of}
use Rattle.unsheet_spec.specs.Promises.{Successive, Land}
use Rattle.read_facts.specs.Length.{read_words}
use Rattle.unsheet_laws.specs.Lands.{standing, lands_sound, on_some}
use Rattle.unsheet_laws.specs.Found.{on_goes}
use Rattle.unsheet_laws.specs.ReadInside.{read-inside}
use Rattle.unsheet_laws.specs.Tokens.{tokens_line, tokens_size}

-- what a line that was read says
abbrev pub saying_of : (ℕ → Option ℕ) → Reading → Parsed
saying_of lands (Read i n) = says (tokens_of lands i)
saying_of lands Short = no
saying_of lands Nothing = no

abbrev pub lines_said : (ℕ → Option ℕ) → List ReadLine → List Parsed
lines_said lands ls = map (λ l. saying_of lands l.reading) ls

not_read_lem : {C : Type 0} {i : Instruction} {n : ℕ} → Nothing ≡ Read i n → C
not_read_lem e = let z : ◌≡◌ {A = ℕ} 0 1 = cc in absurd (omega arith)

words_from_lem : (v : List ℕ) → Words v → (p : ℕ) → Words (drop p v)
words_from_lem v h p = rest_words (take p v) (drop p v) (subst Words (sym (take-append-drop p v)) h)

-- lines lie below the end
below_end : (start : ℕ) (v : List ℕ) (p : ℕ) (ls : List ReadLine) → Successive start v p ls → (m : ℕ) → m < length ls → get_or (standing start ls) m 0 < end_of start (length v)
below_end start v p [] c m h = absurd (omega arith)
below_end start v p (l ∷ ls) (i, n, e, f, c) zero h =
    let b = read_words (drop p v) (address_at start p) i n f in
    omega (arith, ap (λ (x : ReadLine). x.place) e, b.some, b.there, length-drop p v)
below_end start v p (l ∷ ls) (i, n, e, f, c) (suc m) h = below_end start v (p + n / 2) ls c m (omega arith)

-- what lines say is in the grammar
abbrev pub Grammatical : (ℕ → Option ℕ) → List ReadLine → Type 0
Grammatical lands [] = Unit {0}
Grammatical lands (l ∷ ls) = ((i : Instruction) × (n : ℕ) × (l.reading ≡ Read i n) × SuitAll (kind.Instruction ∷ []) (tokens_of lands i)) × Grammatical lands ls

module _ (start : ℕ) (v : List ℕ) (words : Words v) (all : List ReadLine) (whole : Successive start v 0 all) (ends : end_of start (length v) ≤ 2 ^ 32) where
  abbrev lands : ℕ → Option ℕ
  lands = landing start all

  abbrev count : ℕ
  count = length (lines_said lands all)

  abbrev address : ℕ → ℕ
  address k = get_or (standing start all) (pred k) 0

  -- each label made its line's address
  abbrev pub found_at : ℕ → Option ℕ
  found_at = of_lines count address

  count_is : count ≡ length all
  count_is = length-map all (λ l. saying_of lands l.reading)

  agree : (t k : ℕ) → lands t ≡ some k → found_at k ≡ some t
  agree t k e =
      let s = lands_sound start all t k e in
      rw (le-leb 1 k s.0, le-leb k count (omega (arith, s.1, count_is))) (ap some s.2)

  bounded : Bounded (up_to count) address
  bounded k h =
      let u = up_to_lem count k h in
      omega (arith, below_end start v 0 all whole (pred k) (omega (arith, u.0, u.1, count_is)), ends)

  -- what is used of a line at a place
  record LineFound (p : ℕ) (l : ReadLine) (i : Instruction) (n : ℕ) : Type 0 where
    pub is : l ≡ record { place = p; reading = Read i n }
    pub line : Line found_at (tokens_of lands i) i
    pub sized : sized_as (made (of_lines count (λ k. 0)) (says (tokens_of lands i))) ≡ measured_as fine n
    pub encodes : (encode_of i (address_at start p)).number ≡ 0
    pub laid : encoded_words (encode_of i (address_at start p)) ≡ take (n / 2) (drop p v)

  line_found : (p : ℕ) (l : ReadLine) (i : Instruction) (n : ℕ) → l ≡ record { place = p; reading = Read i n } → read_of (drop p v) (address_at start p) ≡ Read i n → Land start all (l ∷ []) → LineFound p l i n
  unfolding encode_of
  line_found p l i n e f b =
      let a = address_at start p in
      let s = sound a (drop p v) i n (words_from_lem v words p) f in
      let o = s.0.2 in
      let h = read-inside a (drop p v) i n (words_from_lem v words p) f o in
      let g = on_goes lands (next_of i) (λ t x. on_some start 1 all t (b.0 i n t (ap (λ (x : ReadLine). x.reading) e) x)) in
      let z : (encode_of i a).number ≡ 0 = ap (λ (x : Verdict). (encoded_as x (words_of i a)).number) s.0.1 in
      let w = accepted_words i a z in
      let k : n / 2 ≡ length (words_of i a) = omega (arith, s.2) in
      let c : 2 * (encode_of i a).count ≡ n = omega (arith, s.2, words_counted i a, ap length w) in
      record {
        is = e;
        line = tokens_line lands found_at agree i o h g;
        sized = tokens_size lands (up_to count) address bounded agree i o h g ∙ size_law i a z ∙ ap (measured_as fine) c;
        encodes = z;
        laid = w ∙ s.3 ∙ ap (λ (m : ℕ). take m (drop p v)) (sym k);
      }

  -- lines found one after the other, up to the end
  abbrev Run : ℕ → List ReadLine → Type 0
  Run p [] = p ≡ length v
  Run p (l ∷ ls) = (i : Instruction) × (n : ℕ) × LineFound p l i n × Run (p + n / 2) ls

  run : (p : ℕ) (ls : List ReadLine) → Successive start v p ls → Land start all ls → Run p ls
  run p [] c b = c
  run p (l ∷ ls) (i, n, e, f, c) b = (i, n, line_found p l i n e f (b.0, tt), run (p + n / 2) ls c b.1)

  -- ---- what the lines are measured as, and where they lie
  said : (p : ℕ) (l : ReadLine) (i : Instruction) (n : ℕ) → LineFound p l i n → saying_of lands l.reading ≡ says (tokens_of lands i)
  said p l i n f = ap (λ (x : ReadLine). saying_of lands x.reading) f.is

  measured : (p : ℕ) (l : ReadLine) (i : Instruction) (n : ℕ) → LineFound p l i n → sized_of count (saying_of lands l.reading) ≡ measured_as fine n
  unfolding sized_of
  measured p l i n f = ap (λ (x : Parsed). sized_as (made (of_lines count (λ k. 0)) x)) (said p l i n f) ∙ f.sized

  abbrev sizes : List ReadLine → List Measured
  sizes ls = map (sized_of count) (lines_said lands ls)

  sizes_in_order : (p : ℕ) (ls : List ReadLine) (j : ℕ) → Run p ls → in_turn size_outcome j (sizes ls) ≡ in_order
  sizes_in_order p [] j r = refl
  sizes_in_order p (l ∷ ls) j (i, n, f, r) = ap (λ (m : Measured). and_then (size_outcome j m) (in_turn size_outcome (suc j) (sizes ls))) (measured p l i n f) ∙ sizes_in_order (p + n / 2) ls (suc j) r

  lie : (p : ℕ) (ls : List ReadLine) → Run p ls → addresses_from (address_at start p) (map half_of (sizes ls)) ≡ standing start ls
  lie p [] r = refl
  lie p (l ∷ ls) (i, n, f, r) =
      let q : address_at start p + 2 * (n / 2) ≡ address_at start (p + n / 2) = omega arith in
      let m : half_of (sized_of count (saying_of lands l.reading)) ≡ n / 2 = ap half_of (measured p l i n f) in
      let h : address_at start p ≡ address_at start l.place = ap (λ (x : ReadLine). address_at start x.place) (sym f.is) in
      ap (λ (c : ℕ). address_at start p ∷ addresses_from (address_at start p + 2 * c) (map half_of (sizes ls))) m
      ∙ ap (λ (a : ℕ). address_at start p ∷ addresses_from a (map half_of (sizes ls))) q
      ∙ (λ t. h t ∷ lie (p + n / 2) ls r t)

  counted : (p : ℕ) (ls : List ReadLine) → Run p ls → p + total (map half_of (sizes ls)) ≡ length v
  counted p [] r = omega (arith, r)
  counted p (l ∷ ls) (i, n, f, r) = let m : half_of (sized_of count (saying_of lands l.reading)) ≡ n / 2 = ap half_of (measured p l i n f) in omega (arith, m, counted (p + n / 2) ls r)

  -- ---- what they are encoded as
  encoded_line_lem : (p : ℕ) (l : ReadLine) (i : Instruction) (n : ℕ) → LineFound p l i n → encoded_line (address_at start l.place) (made found_at (saying_of lands l.reading)) ≡ encode_of i (address_at start p)
  encoded_line_lem p l i n f =
      ap (λ (x : ReadLine). encoded_line (address_at start x.place) (made found_at (saying_of lands x.reading))) f.is
      ∙ ap (encoded_line (address_at start p)) (line_makes found_at (tokens_of lands i) i f.line)

  abbrev encodings : List ReadLine → List Encoded
  encodings ls = encoded_from found_at (standing start ls) (lines_said lands ls)

  encodings_in_order : (p : ℕ) (ls : List ReadLine) (j : ℕ) → Run p ls → in_turn encode_outcome j (encodings ls) ≡ in_order
  encodings_in_order p [] j r = refl
  encodings_in_order p (l ∷ ls) j (i, n, f, r) =
      let e = encode_of i (address_at start p) in
      and_fine (encode_outcome j (encoded_line (address_at start l.place) (made found_at (saying_of lands l.reading)))) _ (ap (encode_outcome j) (encoded_line_lem p l i n f) ∙ as_in_order j e.number e.detail e.value f.encodes) (encodings_in_order (p + n / 2) ls (suc j) r)

  words_laid : (p : ℕ) (ls : List ReadLine) → Run p ls → all_words (encodings ls) ≡ drop p v
  words_laid p [] r = sym (ap (λ (k : ℕ). drop k v) r ∙ drop-length v)
  words_laid p (l ∷ ls) (i, n, f, r) =
      let q : encoded_words (encoded_line (address_at start l.place) (made found_at (saying_of lands l.reading))) ≡ take (n / 2) (drop p v) = ap encoded_words (encoded_line_lem p l i n f) ∙ f.laid in
      (λ t. q t ++ words_laid (p + n / 2) ls r t)
      ∙ ap (λ (ws : List ℕ). take (n / 2) (drop p v) ++ ws) (sym (drop-drop (n / 2) p v)) ∙ take-append-drop (n / 2) (drop p v)

  -- ---- the sheet of these lines
  module _ (land : Land start all all) where
    abbrev pub found_sheet : Sheet
    found_sheet = record { start = start; lines = lines_said lands all }

    r : Run 0 all
    r = run 0 all whole land

    addresses_are : addresses found_sheet ≡ standing start all
    addresses_are =
        let z : start ≡ address_at start 0 = omega arith in
        ap (λ (a : ℕ). addresses_from a (map half_of (sizes all))) z ∙ lie 0 all r

    resolved_are : resolved found_sheet ≡ found_at
    resolved_are = ap (λ (bs : List ℕ). of_lines count (λ k. get_or bs (pred k) 0)) addresses_are

    encoded_are : encoded found_sheet ≡ encodings all
    encoded_are = λ t. encoded_from (resolved_are t) (addresses_are t) (lines_said lands all)

    words_are : word_count found_sheet ≡ length v
    words_are = omega (arith, counted 0 all r)

    pub found_image : image found_sheet ≡ v
    found_image = ap all_words encoded_are ∙ words_laid 0 all r

    pub found_accepted : (room : ℕ) → length v ≤ room → sheet_outcome found_sheet room ≡ in_order
    found_accepted room h =
        let e = end_of start (word_count found_sheet) in
        and_fine (sizing (lines_said lands all)) _ (sizes_in_order 0 all 1 r)
        (and_fine (closing start (word_count found_sheet) room) _
        (and_fine (require (leb e (2 ^ 32)) 9) _ (require-is _ 9 (le-leb e (2 ^ 32) (omega (arith, words_are, ends)))) (require-is _ 11 (le-leb (word_count found_sheet) room (omega (arith, words_are, h)))))
        (ap encoding encoded_are ∙ encodings_in_order 0 all 1 r))

    -- each line's tokens make the instruction that was read
    lines-made : (p : ℕ) (ls : List ReadLine) → Run p ls → (k : ℕ) (i : Instruction) (n : ℕ) → (get_or ls k (record { place = 0; reading = Nothing })).reading ≡ Read i n → Line found_at (tokens_of lands i) i
    lines-made p [] r k i n e = not_read_lem e
    lines-made p (l ∷ ls) (j, m, f, r) zero i n e =
        let q : Read j m ≡ Read i n = sym (ap (λ (x : ReadLine). x.reading) f.is) ∙ e in
        let h : j ≡ i = cc in
        subst (λ (x : Instruction). Line found_at (tokens_of lands x) x) h f.line
    lines-made p (l ∷ ls) (j, m, f, r) (suc k) i n e = lines-made (p + m / 2) ls r k i n e

    pub found_made : (k : ℕ) (i : Instruction) (n : ℕ) → (get_or all k (record { place = 0; reading = Nothing })).reading ≡ Read i n → Line (resolved found_sheet) (tokens_of lands i) i
    found_made k i n e = subst (λ (f : ℕ → Option ℕ). Line f (tokens_of lands i) i) (sym resolved_are) (lines-made 0 all r k i n e)

    spelling : (p : ℕ) (ls : List ReadLine) → Run p ls → Grammatical lands ls
    spelling p [] r = tt
    spelling p (l ∷ ls) (i, n, f, r) = ((i, n, ap (λ (x : ReadLine). x.reading) f.is, f.line.grammar), spelling (p + n / 2) ls r)

    pub found_spelling : Grammatical lands all
    found_spelling = spelling 0 all r
