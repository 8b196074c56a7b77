-- Laws of a text, a record at a time. Assumes nothing.
use Rattle.std.proofs.Math.Path.{◌≡◌, refl, ap}
use Rattle.std.proofs.Common.{sym, ◌∙◌, append-nil, length-append, length-drop}
use Rattle.std.specs.Prelude.{Bool, ◌&&◌, List, [], ◌∷◌, eqb, pos, take, drop, get_or}
use Rattle.std.proofs.Math.Bool.{true, false, cond}
use Prim.Native.Nat.{ℕ, suc, ◌+◌, ◌-◌, ◌/◌, ◌%◌, ◌^◌, ◌≤◌, ◌<◌}
use native.Mathlib.Omega.{arith}
use Rattle.std.proofs.Math.Dec.{leb}
use Rattle.std.proofs.Math.ListN.{length}
use Rattle.std.proofs.Math.Seq.{drop-length}
use borrow.Author.Tests.{eqb-true, leb-true, eq-eqb, ne_eqb, le-leb, lt-leb}
use Rattle.base_facts.specs.Tests.{and-true, lt?, Lt, less, past, eq?, Eq, same, other}
use Rattle.base_spec.specs.Parts.{onto, parts}
use Rattle.base_text.specs.Parts.{before, part_end}
use Rattle.base_text.specs.PartLaws.{parts_from, parts_first, parts_at, part_is, parts_past, parts-start, take_before}
use Rattle.sheet_spec.specs.Translate.{Outcome, in_order, refused, and_then, over}
use Rattle.srecord_spec.specs.declared.Loaded.{Loaded}
use Rattle.srecord_spec.specs.Record.{closes, checksum_of, record_in, is_record}
use Rattle.srecord_spec.specs.Read.{require_at, is_end, is_next, records_from, paired_words, words_in, start_read, image_read, text_outcome, read_outcome, loaded_as, loaded_of, image_left}
use Rattle.srecord_spec.specs.Promises.{RecordsRead}
use Rattle.srecord_facts.specs.Lines.{no_bytes}
use Rattle.srecord_read.specs.declared.Record.{Record}
use Rattle.srecord_read.specs.Line.{record_says, line_says, is_due, refusal_number}
use Rattle.srecord_read.specs.Text.{refused_as, closed_as, checked_of, checked_from}
use Rattle.srecord_read.specs.Words.{data_words, data_of, data_in}
use Rattle.srecord_read.specs.LineLaws.{and_step, eqb_iff, no_says, yes_says, formed}
use Rattle.srecord_read.specs.WordLaws.{data_words_lem}

-- ---- one record: refused by its number, or closing, or going on
one_record : (R C E N : Bool) (A B : Outcome) (k : ℕ)
    → and_then (and_then (require_at k true 12) (require_at k R 13)) (cond C (and_then (require_at k E 14) A) (and_then (require_at k N 14) B))
    ≡ cond (eqb (cond R (cond (cond C E N) 0 14) 13) 0) (cond C A B) (refused (cond R (cond (cond C E N) 0 14) 13) k 0 (pos 0))
one_record false C E N A B k = refl
one_record true true true N A B k = refl
one_record true true false N A B k = refl
one_record true false E true A B k = refl
one_record true false E false A B k = refl

accepts : (R X : Bool) → ◌≡◌ {A = ℕ} (cond R (cond X 0 14) 13) 0 → X ≡ true
accepts true true h = refl
accepts true false h = absurd (omega arith)
accepts false X h = absurd (omega arith)

next_is : (a b next : ℕ) → a < 2 ^ 32 → eqb a next && leb b (2 ^ 32 - a) ≡ eqb a next && leb (next + b) (2 ^ 32)
next_is a b next h =
    and_step (eqb a next) (eqb a next) (leb b (2 ^ 32 - a)) (leb (next + b) (2 ^ 32)) refl
    (λ t. go t (lt? (2 ^ 32) (next + b)))
  where
    go : eqb a next ≡ true → Lt (2 ^ 32) (next + b) → leb b (2 ^ 32 - a) ≡ leb (next + b) (2 ^ 32)
    go t (less l u) = let e = eqb-true a next t in rw (lt-leb (next + b) (2 ^ 32) l, lt-leb b (2 ^ 32 - a) (omega arith))
    go t (past l u) = let e = eqb-true a next t in rw (le-leb (next + b) (2 ^ 32) l, le-leb b (2 ^ 32 - a) (omega arith))

module _ (start next k : ℕ) (p q : List ℕ) (qs : List (List ℕ)) where
  abbrev n : ℕ
  n = refusal_number (line_says p) start next

  abbrev later : Outcome
  later = records_from start (next + (line_says p).size) (suc k) (q ∷ qs)

  step_is : records_from start next k (p ∷ (q ∷ qs)) ≡ cond (eqb n 0) (cond (line_says p).closing (require_at (suc k) (is_end q qs) 12) later) (refused n k 0 (pos 0))
  unfolding refusal_number
  step_is = go (is_record p) refl
    where
      go : (b : Bool) → is_record p ≡ b
          → records_from start next k (p ∷ (q ∷ qs)) ≡ cond (eqb n 0) (cond (line_says p).closing (require_at (suc k) (is_end q qs) 12) later) (refused n k 0 (pos 0))
      go true e =
          let r = record_in p in
          rw (yes_says p e, e, next_is r.address (length r.bytes) next (formed p e).address)
          (one_record (eqb r.checksum (checksum_of r)) (closes r.type) (eqb r.address start) (is_next next r) (require_at (suc k) (is_end q qs) 12)
          (records_from start (next + length r.bytes) (suc k) (q ∷ qs)) k)
      go false e = rw (no_says p e, e)

  module _ (z : n ≡ 0) where
    accepted_record : is_record p ≡ true
    unfolding refusal_number
    accepted_record = go (is_record p) refl
      where
        go : (b : Bool) → is_record p ≡ b → is_record p ≡ true
        go true e = e
        go false e = let q : ◌≡◌ {A = ℕ} 12 0 = rw (no_says p e) at z in absurd (omega arith)

    due_here : is_due (record_says p) start next ≡ true
    unfolding refusal_number
    due_here =
        let r = record_in p in
        accepts (eqb r.checksum (checksum_of r)) (is_due (record_says p) start next) (rw (yes_says p accepted_record) at z)

    step_next : (line_says p).closing ≡ false → next + (line_says p).size ≤ 2 ^ 32
    step_next f =
        let r = record_in p in
        let says = yes_says p accepted_record in
        let c : closes r.type ≡ false = rw says at f in
        let t : eqb r.address next && leb (length r.bytes) (2 ^ 32 - r.address) ≡ true = rw c at due_here in
        let u = and-true (eqb r.address next) (leb (length r.bytes) (2 ^ 32 - r.address)) t in
        let v = eqb-true r.address next u.0 in
        let x = leb-true (length r.bytes) (2 ^ 32 - r.address) u.1 in
        rw says (omega (arith, (formed p accepted_record).address))

-- ---- what is left of a text, behind k records
pub paired_length : (bs : List ℕ) → length (paired_words bs) ≡ length bs / 2
paired_length [] = refl
paired_length (a ∷ []) = refl
paired_length (a ∷ (b ∷ bs)) = omega (arith, paired_length bs)

module _ (start next k : ℕ) (p q : List ℕ) (qs : List (List ℕ)) where
  from-refused : (refusal_number (line_says p) start next ≡ 0 → ⊥) → checked_from start next k (p ∷ (q ∷ qs)) ≡ refused_as (refusal_number (line_says p) start next) (k + 1)
  unfolding checked_from
  from-refused z = rw (step_is start next (k + 1) p q qs, ne_eqb (refusal_number (line_says p) start next) 0 z)

  module _ (z : refusal_number (line_says p) start next ≡ 0) where
    yes : line_says p ≡ record_says p
    yes = yes_says p (accepted_record start next k p q qs z)

    step_zero : records_from start next (k + 1) (p ∷ (q ∷ qs))
        ≡ cond (line_says p).closing (require_at (suc (k + 1)) (is_end q qs) 12) (records_from start (next + (line_says p).size) (suc (k + 1)) (q ∷ qs))
    step_zero = step_is start next (k + 1) p q qs ∙ rw (eq-eqb (refusal_number (line_says p) start next) 0 z)

    words_here : length (words_in (p ∷ (q ∷ qs))) ≡ (line_says p).size / 2 + length (words_in (q ∷ qs))
    words_here = rw (length-append (paired_words (record_in p).bytes) (words_in (q ∷ qs)), paired_length (record_in p).bytes, yes)

    even_here : (line_says p).size % 2 ≡ 0
    even_here = rw yes (formed p (accepted_record start next k p q qs z)).even_bytes

    from_on : (line_says p).closing ≡ false → start ≤ next → checked_from start next k (p ∷ (q ∷ qs)) ≡ checked_from start (next + (line_says p).size) (k + 1) (q ∷ qs)
    unfolding checked_from
    from_on f h =
        let a : suc (k + 1) ≡ k + 1 + 1 = omega arith in
        let b : (next - start) / 2 + length (words_in (p ∷ (q ∷ qs))) ≡ (next + (line_says p).size - start) / 2 + length (words_in (q ∷ qs)) = omega (arith, words_here, even_here) in
        let s : records_from start next (k + 1) (p ∷ (q ∷ qs)) ≡ records_from start (next + (line_says p).size) (k + 1 + 1) (q ∷ qs) = step_zero ∙ rw (f, a) in
        λ i. loaded_as (s i) start (b i)

    from_closed : (line_says p).closing ≡ true → checked_from start next k (p ∷ (q ∷ qs)) ≡ closed_as (is_end q qs) start next k
    unfolding checked_from
    from_closed f =
        let s : records_from start next (k + 1) (p ∷ (q ∷ qs)) ≡ require_at (suc (k + 1)) (is_end q qs) 12 = step_zero ∙ rw f in
        ap (λ (o : Outcome). loaded_as o start ((next - start) / 2 + length (words_in (p ∷ (q ∷ qs))))) s ∙ go q qs words_here
      where
        empty : (line_says p).size ≡ 0
        empty =
            let w = formed p (accepted_record start next k p q qs z) in
            rw yes (w.no_bytes (rw yes at f))

        go : (x : List ℕ) (xs : List (List ℕ)) → length (words_in (p ∷ (x ∷ xs))) ≡ (line_says p).size / 2 + length (words_in (x ∷ xs))
            → loaded_as (require_at (suc (k + 1)) (is_end x xs) 12) start ((next - start) / 2 + length (words_in (p ∷ (x ∷ xs)))) ≡ closed_as (is_end x xs) start next k
        go [] [] e =
            let l : length (words_in ([] ∷ [])) ≡ 0 = rw (append-nil, no_bytes) in
            let b : (next - start) / 2 + length (words_in (p ∷ ([] ∷ []))) ≡ (next - start) / 2 = omega (arith, e, l, empty) in
            rw b
        go [] (y ∷ ys) e = let a : suc (k + 1) ≡ k + 2 = omega arith in rw (ne_eqb (0 + suc (length ys)) 0 (λ t. omega arith), a)
        go (y ∷ ys) xs e = let a : suc (k + 1) ≡ k + 2 = omega arith in rw (ne_eqb (suc (length ys) + length xs) 0 (λ t. omega arith), a)

-- ---- nothing stands behind a part exactly where no byte does
abbrev ends_here : List (List ℕ) → Bool
ends_here [] = false
ends_here (q ∷ qs) = is_end q qs

ends_is : (l : List ℕ) → ends_here (parts 10 l) ≡ eqb (length l) 0
ends_is [] = refl
ends_is (b ∷ bs) = go (eqb b 10) ∙ sym (ne_eqb (suc (length bs)) 0 (λ t. omega arith))
  where
    go : (t : Bool) → ends_here (cond t ([] ∷ parts 10 bs) (onto b (parts 10 bs))) ≡ false
    go true = rw (parts_first 10 bs) (ne_eqb (0 + suc (length (parts_from 10 bs (suc (length (before 10 bs)))))) 0 (λ t. omega arith))
    go false = rw (parts_first 10 bs) (ne_eqb (suc (length (before 10 bs)) + length (parts_from 10 bs (suc (length (before 10 bs))))) 0 (λ t. omega arith))

-- ---- the loop over lines
module _ (text : List ℕ) (start next k from e : ℕ) (h : from ≤ length text) (g : e ≡ part_end 10 text from) where
  abbrev line : List ℕ
  line = take (e - from) (drop from text)

  parts_here : parts_from 10 text from ≡ line ∷ parts_from 10 text (e + 1)
  parts_here = parts_at 10 text from h ∙ rw (part_is 10 text from e g, g)

  pub check_last : length text ≤ e → checked_from start next k (parts_from 10 text from) ≡ refused_as 12 (k + 1)
  unfolding checked_from
  check_last m = rw (parts_here, parts_past 10 text (e + 1) (omega arith))

  module _ (m : e < length text) where
    abbrev tail : List ℕ
    tail = drop (e + 1) text

    abbrev q : List ℕ
    q = before 10 tail

    abbrev qs : List (List ℕ)
    qs = parts_from 10 tail (suc (length q))

    tail_is : parts_from 10 text (e + 1) ≡ q ∷ qs
    tail_is = rw (le-leb (e + 1) (length text) (omega arith)) (parts_first 10 tail)

    two : parts_from 10 text from ≡ line ∷ (q ∷ qs)
    two = parts_here ∙ rw tail_is

    end_is : is_end q qs ≡ eqb (e + 1) (length text)
    end_is =
        let a : ends_here (q ∷ qs) ≡ eqb (length tail) 0 = sym (ap ends_here (parts_first 10 tail)) ∙ ends_is tail in
        a ∙ rw length-drop (eqb_iff (length text - (e + 1)) 0 (e + 1) (length text) (λ t. omega arith) (λ t. omega arith))

    module _ (r : Record) (is : r ≡ line_says line) (number : ℕ) (says : number ≡ refusal_number r start next) where
      number_is : number ≡ refusal_number (line_says line) start next
      number_is = says ∙ rw is

      pub check_refused : (number ≡ 0 → ⊥) → checked_from start next k (parts_from 10 text from) ≡ refused_as number (k + 1)
      check_refused z = rw (two, number_is) (from-refused start next k line q qs (λ t. z (number_is ∙ t)))

      module _ (z : number ≡ 0) where
        zero_here : refusal_number (line_says line) start next ≡ 0
        zero_here = sym number_is ∙ z

        pub check_closed : r.closing ≡ true → checked_from start next k (parts_from 10 text from) ≡ closed_as (eqb (e + 1) (length text)) start next k
        check_closed f = rw (two, ← end_is) (from_closed start next k line q qs zero_here (rw is at f))

        pub check_on : r.closing ≡ false → start ≤ next → checked_from start next k (parts_from 10 text from) ≡ checked_from start (next + r.size) (k + 1) (parts_from 10 text (e + 1))
        check_on f s = rw (two, tail_is, is) (from_on start next k line q qs zero_here (rw is at f) s)

        pub check_next : r.closing ≡ false → next + r.size ≤ 2 ^ 32
        check_next f = rw is (step_next start next k line q qs zero_here (rw is at f))

pub check_end : (text : List ℕ) (start next k from : ℕ) → from ≤ length text → length text ≤ from → checked_from start next k (parts_from 10 text from) ≡ refused_as 12 (k + 1)
unfolding checked_from
check_end text start next k from h g = let q : from ≡ length text = omega arith in rw (q, le-leb (length text) (length text) (omega arith), drop-length text)

-- ---- the start: where the first record is not in form, nothing depends on it
unformed : (start next k a b : ℕ) (p : List ℕ) (ps : List (List ℕ)) → is_record p ≡ false → loaded_as (records_from start next k (p ∷ ps)) a b ≡ refused_as 12 k
unformed start next k a b p [] e = refl
unformed start next k a b p (q ∷ qs) e = rw e

pub check_start : (text : List ℕ) (start : ℕ) → start ≡ (line_says (before 10 text)).address → checked_of text ≡ checked_from start start 0 (parts_from 10 text 0)
unfolding checked_of checked_from text_outcome
check_start text start s = go (is_record (before 10 text)) refl
  where
    go : (b : Bool) → is_record (before 10 text) ≡ b
        → loaded_as (records_from (start_read text) (start_read text) 1 (parts 10 text)) (start_read text) (length (image_read text))
        ≡ loaded_as (records_from start start (0 + 1) (parts_from 10 text 0)) start ((start - start) / 2 + length (words_in (parts_from 10 text 0)))
    go true e =
        let t : start_read text ≡ start = ap (λ (l : List (List ℕ)). (record_in (get_or l 0 [])).address) (parts_first 10 text) ∙ sym (s ∙ rw (yes_says (before 10 text) e)) in
        let z : (start - start) / 2 + length (words_in (parts_from 10 text 0)) ≡ length (words_in (parts_from 10 text 0)) = omega arith in
        rw (t, z, parts-start 10 text)
    go false e =
        let p = before 10 text in
        let ps = parts_from 10 text (suc (length p)) in
        let a = (record_in p).address in
        rw (parts-start 10 text, parts_first 10 text)
        (unformed a a 1 a (length (words_in (p ∷ ps))) p ps e ∙ sym (unformed start start 1 start ((start - start) / 2 + length (words_in (p ∷ ps))) p ps e))

pub check_first : (text : List ℕ) (first : ℕ) → first ≡ part_end 10 text 0 → (r : Record) → r ≡ line_says (take first text)
    → checked_of text ≡ checked_from r.address r.address 0 (parts_from 10 text 0)
check_first text first g r is =
    let q : first ≡ length (before 10 text) = omega arith in
    let l : take first text ≡ before 10 text = rw q (take_before 10 text) in
    check_start text r.address (ap (λ (x : Record). x.address) is ∙ ap (λ (p : List ℕ). (line_says p).address) l)

-- ---- an accepted text: its lines' data are its image
data_empty : data_words [] ≡ []
unfolding data_words
data_empty = refl

accepted : (start next k a b : ℕ) (ps : List (List ℕ)) → (loaded_as (records_from start next k ps) a b).number ≡ 0 → (records_from start next k ps ≡ in_order) × (data_of ps ≡ words_in ps)
accepted start next k a b [] h = absurd (omega arith)
accepted start next k a b (p ∷ []) h = absurd (omega arith)
accepted start next k a b (p ∷ (q ∷ qs)) h = go (eq? (refusal_number (line_says p) start next) 0) (accepted start (next + (line_says p).size) (suc k) a b (q ∷ qs))
  where
    data_here : refusal_number (line_says p) start next ≡ 0 → data_words p ≡ paired_words (record_in p).bytes
    data_here z = data_words_lem p (accepted_record start next k p q qs z)

    closing : refusal_number (line_says p) start next ≡ 0 → (x : List ℕ) (xs : List (List ℕ)) → (loaded_as (require_at (suc k) (is_end x xs) 12) a b).number ≡ 0
        → (require_at (suc k) (is_end x xs) 12 ≡ in_order) × (data_of (p ∷ (x ∷ xs)) ≡ words_in (p ∷ (x ∷ xs)))
    closing z [] [] e = (refl, rw (data_here z, data_empty, no_bytes))
    closing z [] (y ∷ ys) e =
        let t : ◌≡◌ {A = ℕ} 12 0 = rw (ne_eqb (0 + suc (length ys)) 0 (λ u. omega arith)) at e in absurd (omega arith)
    closing z (y ∷ ys) xs e =
        let t : ◌≡◌ {A = ℕ} 12 0 = rw (ne_eqb (suc (length ys) + length xs) 0 (λ u. omega arith)) at e in absurd (omega arith)

    go : Eq (refusal_number (line_says p) start next) 0
        → ((loaded_as (records_from start (next + (line_says p).size) (suc k) (q ∷ qs)) a b).number ≡ 0 → (records_from start (next + (line_says p).size) (suc k) (q ∷ qs) ≡ in_order) × (data_of (q ∷ qs) ≡ words_in (q ∷ qs)))
        → (records_from start next k (p ∷ (q ∷ qs)) ≡ in_order) × (data_of (p ∷ (q ∷ qs)) ≡ words_in (p ∷ (q ∷ qs)))
    go (other m t) ih =
        let s : records_from start next k (p ∷ (q ∷ qs)) ≡ refused (refusal_number (line_says p) start next) k 0 (pos 0) = step_is start next k p q qs ∙ rw t in
        absurd (m (sym (ap (λ (o : Outcome). (loaded_as o a b).number) s) ∙ h))
    go (same z t) ih = more (line_says p).closing refl
      where
        more : (c : Bool) → (line_says p).closing ≡ c → (records_from start next k (p ∷ (q ∷ qs)) ≡ in_order) × (data_of (p ∷ (q ∷ qs)) ≡ words_in (p ∷ (q ∷ qs)))
        more true f =
            let s : records_from start next k (p ∷ (q ∷ qs)) ≡ require_at (suc k) (is_end q qs) 12 = step_is start next k p q qs ∙ rw (t, f) in
            let d = closing z q qs (sym (ap (λ (o : Outcome). (loaded_as o a b).number) s) ∙ h) in
            (s ∙ d.0, d.1)
        more false f =
            let s : records_from start next k (p ∷ (q ∷ qs)) ≡ records_from start (next + (line_says p).size) (suc k) (q ∷ qs) = step_is start next k p q qs ∙ rw (t, f) in
            let d = ih (sym (ap (λ (o : Outcome). (loaded_as o a b).number) s) ∙ h) in
            (s ∙ d.0, rw (data_here z, d.1))

pub text_accepted : (text : List ℕ) → (checked_of text).number ≡ 0 → (text_outcome text ≡ in_order) × (data_in text ≡ image_read text)
unfolding checked_of text_outcome data_in
text_accepted text h = accepted (start_read text) (start_read text) 1 (start_read text) (length (image_read text)) (parts 10 text) h

-- ---- the answer
module _ (text v : List ℕ) (r : Loaded) (is : r ≡ checked_of text) where
  pub read-refused : (r.number ≡ 0 → ⊥) → RecordsRead text v v r
  unfolding checked_of loaded_of image_left read_outcome
  read-refused z = go (text_outcome text) refl
    where
      go : (o : Outcome) → text_outcome text ≡ o → RecordsRead text v v r
      go in_order e =
          let s : r ≡ record { start = start_read text; words = length (image_read text); number = 0; line = 0 } = is ∙ rw e in
          absurd (z (ap (λ (x : Loaded). x.number) s))
      go (refused number line detail value) e = record { answer = is ∙ rw e; image = rw e }

  module _ (z : r.number ≡ 0) where
    in_order_lem : (text_outcome text ≡ in_order) × (data_in text ≡ image_read text)
    in_order_lem = text_accepted text (sym (ap (λ (x : Loaded). x.number) is) ∙ z)

    loaded : r ≡ record { start = start_read text; words = length (image_read text); number = 0; line = 0 }
    unfolding checked_of
    loaded = is ∙ rw in_order_lem.0

    words_are : r.words ≡ length (image_read text)
    words_are = ap (λ (x : Loaded). x.words) loaded

    pub read_short : length v < r.words → (a : Loaded) → a ≡ refused_as 11 0 → RecordsRead text v v a
    unfolding loaded_of image_left read_outcome
    read_short h a e =
        let t : leb (length (image_read text)) (length v) ≡ false = lt-leb (length (image_read text)) (length v) (omega (arith, words_are)) in
        record { answer = e ∙ rw (in_order_lem.0, t); image = rw (in_order_lem.0, t) }

    pub read-room : r.words ≤ length v → length (data_in text) ≤ length v
    read-room h = rw in_order_lem.1 (omega (arith, words_are))

    pub read-filled : r.words ≤ length v → (v' : List ℕ) → v' ≡ over (data_in text) v → RecordsRead text v v' r
    unfolding loaded_of image_left read_outcome
    read-filled h v' e =
        let t : leb (length (image_read text)) (length v) ≡ true = le-leb (length (image_read text)) (length v) (omega (arith, words_are)) in
        record { answer = loaded ∙ rw (in_order_lem.0, t); image = e ∙ rw (in_order_lem.1, in_order_lem.0, t) }
