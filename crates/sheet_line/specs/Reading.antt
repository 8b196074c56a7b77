-- A line read a field at a time. Assumes nothing.
use Prim.Native.Nat.{ℕ, ◌+◌, ◌-◌, ◌%◌, ◌^◌, ◌≤◌, ◌<◌}
use Rattle.std.specs.Prelude.{◌≡◌, refl, Bool, true, ◌&&◌, ◌||◌, take, drop}
use Rattle.std.proofs.Math.Path.{sym, ap}
use Rattle.std.proofs.Common.{◌∙◌, arith}
use Rattle.std.proofs.Math.Bool.{false}
use Rattle.std.proofs.lemmas.Bool.{false≢true}
use mathlib.Core.List.{List, [], ◌∷◌, ◌++◌, map, append-nil}
use Rattle.std.proofs.Math.Option.{Option}
use Rattle.std.proofs.Math.ListN.{length, set, length-append}
use Rattle.std.proofs.Math.Seq.{append_snoc}
use Rattle.base_text.specs.Parts.{part_end}
use Rattle.base_spec.specs.Parts.{fields}
use Rattle.base_text.specs.PartLaws.{parts_from, parts_at, parts-start, parts_past, part_is}
use Rattle.sheet_spec.specs.declared.Kind.{Kind}
use Rattle.sheet_spec.specs.declared.Kind.TheVariants as kind
use Rattle.std.specs.Prelude as code
use Rattle.sheet_tokens.specs.declared.Value.{Value}
use Rattle.sheet_spec.specs.Grammar.{kinds_of}
use Rattle.sheet_spec.specs.Line.{Token, literal, label, invalid, token, Parsed, says, no, with, after, line_from, line_of}
use Rattle.sheet_spec.specs.Made.{resolves_all, of_lines}
use Rattle.sheet_spec.specs.Spell.{Suits}
use Rattle.sheet_facts.specs.Fields.{Sorted, of_number, of_target, of_place, of_variant, sorted, token_suits, suits_some}
use Rattle.sheet_tokens.specs.Values.{value_of}
use Rattle.sheet_kinds.specs.Ahead as ahead
use Rattle.sheet_kinds.specs.Ahead.{split}
use Rattle.sheet_kinds.specs.Packed.{packed, kind_at}
use Rattle.sheet_kinds.specs.Weight.{room, most, total, room_next, most_next}
use Rattle.sheet_kinds.specs.Next.{kinds_after}
use Rattle.sheet_kinds.specs.NextLaws.{packed_none, next_packed}
use Rattle.sheet_labels.specs.Labels.{below_zero, says_label, names_line, own_number, labelled_all}
use Rattle.sheet_labels.specs.LabelLaws.{names-token, resolves_more, length_pad, in_places_more, negative_as, own_as, label_as, labelled_more}
use Rattle.sheet_line.specs.declared.LineRead.{LineRead}
use Rattle.sheet_line.specs.Value.{is_said, variant_place}
use Rattle.sheet_line.specs.LineRead.{line_read, not_read, part_read, read_more, Holds, FieldsRead}

-- 24 places
module _ {l : LineRead} {vs : List Token} {r : LineRead} {negative : List Bool} {magnitude : List ℕ} {label : List Bool} (h : Holds l vs r negative magnitude label) where
  pub length_negative : length negative ≡ 24
  length_negative = rw h.negatives (length_pad 24 false (map negative_as vs))

-- vs said before the rest
abbrev pub token_first : List Token → Parsed → Parsed
token_first vs (says ws) = says (vs ++ ws)
token_first vs no = no

first_none : (p : Parsed) → token_first [] p ≡ p
first_none (says vs) = refl
first_none no = refl

first_more : (vs : List Token) (v : Token) (p : Parsed) → token_first vs (with v p) ≡ token_first (vs ++ (v ∷ [])) p
first_more vs v (says ws) = ap says (sym (append_snoc vs v ws))
first_more vs v no = refl

-- what is read before `from`, and the kinds to come, of a line of a sheet of n lines
pub record Reading (n : ℕ) (line : List ℕ) (r : LineRead) (negative : List Bool) (magnitude : List ℕ) (label : List Bool) (kinds from : ℕ) : Type 0 where
  pub done : List Token
  pub ahead : List Kind
  pub holds : Holds (part_read n done) done r negative magnitude label
  pub packs : kinds ≡ packed ahead
  pub fits : total room ahead ≤ 10
  pub few : length done + total most ahead ≤ 17
  pub whole : line_of line ≡ token_first done (line_from ahead (parts_from 9 line from))

module _ (n : ℕ) (line : List ℕ) {r : LineRead} {negative : List Bool} {magnitude : List ℕ} {label : List Bool} (h : Holds not_read [] r negative magnitude label) where
  pub reading_start : Reading n line r negative magnitude label 17 0
  unfolding line_of not_read part_read
  reading_start =
      record {
        done = [];
        ahead = kind.Instruction ∷ [];
        holds = h;
        packs = refl;
        fits = omega arith;
        few = omega arith;
        whole = rw (parts-start 9 line) (sym (first_none (line_from (kind.Instruction ∷ []) (fields line))));
      }

  -- of a line that is not in the form
  pub reading_no : line_of line ≡ no → FieldsRead n (line_of line) r negative magnitude label
  unfolding line_read not_read
  reading_no e = rw e h

-- what says something, and what says nothing
is-token : (v : Token) → is_said (value_of v) ≡ true → v ≡ invalid → ⊥
is-token v h e = false≢true (ap (λ (x : Token). is_said (value_of x)) (sym e) ∙ h)

not_token : (v : Token) → is_said (value_of v) ≡ false → v ≡ invalid
not_token (literal s n) h = absurd (false≢true (sym h))
not_token (label n) h = absurd (false≢true (sym h))
not_token invalid h = refl

-- a line's name has no fields
name_last : (k : Kind) (n m : ℕ) → Suits k (label n) → kinds_of k m ≡ []
name_last k n m = go (sorted k)
  where
    go : {k : Kind} → Sorted k → Suits k (label n) → kinds_of k m ≡ []
    go of_number h = absurd h
    go of_target h = refl
    go of_place h = refl
    go (of_variant x) h = absurd (x.suits (label n) h)

token_on : (k : Kind) (ks : List Kind) (fs : List (List ℕ)) (v : Token) → Suits k v
    → after v (λ n. line_from (kinds_of k n ++ ks) fs) (line_from ks fs) ≡ with v (line_from (kinds_of k (variant_place (value_of v)) ++ ks) fs)
token_on k ks fs (literal s n) h = refl
token_on k ks fs (label n) h = ap (λ (ls : List Kind). with (label n) (line_from (ls ++ ks) fs)) (sym (name_last k n 0 h))
token_on k ks fs invalid h = absurd (suits_some k h)

-- one field more
module _ (k : Kind) (ks : List Kind) (f : List ℕ) (fs : List (List ℕ)) where
  from-none : is_said (value_of (token k f)) ≡ false → line_from (k ∷ ks) (f ∷ fs) ≡ no
  from-none t = ap (λ (v : Token). after v (λ n. line_from (kinds_of k n ++ ks) fs) (line_from ks fs)) (not_token (token k f) t)

  from_on : is_said (value_of (token k f)) ≡ true → line_from (k ∷ ks) (f ∷ fs) ≡ with (token k f) (line_from (kinds_of k (variant_place (value_of (token k f))) ++ ks) fs)
  from_on t = token_on k ks fs (token k f) (token_suits k f (token k f) refl (is-token (token k f) t))

module _ (n : ℕ) (line : List ℕ) {r : LineRead} {negative : List Bool} {magnitude : List ℕ} {label : List Bool} {kinds from : ℕ}
    (R : Reading n line r negative magnitude label kinds from) where
  refused : line_from R.ahead (parts_from 9 line from) ≡ no → line_of line ≡ no
  refused h = R.whole ∙ ap (token_first R.done) h

  -- a field too many
  pub reading_over : from ≤ length line → kinds ≡ 0 → line_of line ≡ no
  reading_over h z = refused (rw (packed_none R.ahead (sym R.packs ∙ z), parts_at 9 line from h))

  counted : r.count ≡ length R.done
  unfolding part_read
  counted = ap (λ (x : LineRead). x.count) R.holds.read

  -- there is a place for the next field
  pub reading_place : (kinds ≡ 0 → ⊥) → r.count < 24
  reading_place some = omega (arith, counted, R.few)

  pub reading_end : length line < from → kinds ≡ 0 → FieldsRead n (line_of line) (record { ok = true; count = r.count; labelled = r.labelled; resolves = r.resolves }) negative magnitude label
  unfolding line_read part_read
  reading_end h z =
      let a : R.ahead ≡ [] = packed_none R.ahead (sym R.packs ∙ z) in
      let said : line_of line ≡ says R.done = R.whole ∙ rw (a, parts_past 9 line from h) (ap says (append-nil R.done)) in
      rw said
      (record {
        read = ap (λ (x : LineRead). record { ok = true; count = x.count; labelled = x.labelled; resolves = x.resolves }) R.holds.read;
        negatives = R.holds.negatives;
        magnitudes = R.holds.magnitudes;
        labels = R.holds.labels;
      })

  -- a field too few
  pub reading_short : length line < from → (kinds ≡ 0 → ⊥) → line_of line ≡ no
  reading_short h some = refused (rw (parts_past 9 line from h) (go R.ahead R.packs))
    where
      go : (ks : List Kind) → kinds ≡ packed ks → line_from ks [] ≡ no
      go [] p = absurd (some p)
      go (k ∷ ks) p = refl

  module _ (some : kinds ≡ 0 → ⊥) where
    pub next_fits : (m : ℕ) → kinds_after kinds m < 2 ^ 64
    next_fits m = ahead.next_fits R.ahead R.packs some R.fits m

    -- one token more
    part_more : (vs : List Token) (v : Token) → n ≤ 4096 → read_more n (part_read n vs) (value_of v) ≡ part_read n (vs ++ (v ∷ []))
    unfolding part_read read_more
    part_more vs v few_lines =
        let f : ℕ → Option ℕ = of_lines n (λ y. 0) in
        let counts : length vs + 1 ≡ length (vs ++ (v ∷ [])) = rw length-append in
        let labels : labelled_all vs || says_label (value_of v) ≡ labelled_all (vs ++ (v ∷ [])) = sym (labelled_more vs v) in
        let names : resolves_all f vs && names_line n (value_of v) ≡ resolves_all f (vs ++ (v ∷ [])) = ap (λ (t : Bool). resolves_all f vs && t) (names-token n few_lines (λ y. 0) v) ∙ sym (resolves_more f vs v) in
        λ j. record { ok = false; count = counts j; labelled = labels j; resolves = names j }

    holds_more : (v : Token) → n ≤ 4096
        → Holds (part_read n (R.done ++ (v ∷ []))) (R.done ++ (v ∷ [])) (read_more n r (value_of v)) (set negative r.count (below_zero (value_of v))) (set magnitude r.count (own_number (value_of v))) (set label r.count (says_label (value_of v)))
    unfolding part_read read_more
    holds_more v few_lines =
        let H = R.holds in
        let d = R.done in
        let c : ℕ = r.count in
        let place : c < 24 = reading_place some in
        record {
          read = ap (λ (x : LineRead). read_more n x (value_of v)) H.read ∙ part_more d v few_lines;
          negatives = ap (λ (x : List Bool). set x c (below_zero (value_of v))) H.negatives ∙ in_places_more false negative_as d v c counted place;
          magnitudes = ap (λ (x : List ℕ). set x c (own_number (value_of v))) H.magnitudes ∙ in_places_more 0 own_as d v c counted place;
          labels = ap (λ (x : List Bool). set x c (says_label (value_of v))) H.labels ∙ in_places_more false label_as d v c counted place;
        }

    -- the next field, which ends at `end`: its kind and what it says
    module _ (end : ℕ) (h : from ≤ length line) (g : end ≡ part_end 9 line from) (k : Kind) (q : k ≡ kind_at (kinds % 32)) (w : code.Option Value)
        (i : w ≡ value_of (token k (take (end - from) (drop from line)))) where
      abbrev f : List ℕ
      f = take (end - from) (drop from line)

      abbrev rest : List (List ℕ)
      rest = parts_from 9 line (end + 1)

      parts_on : parts_from 9 line from ≡ f ∷ rest
      parts_on = rw (parts_at 9 line from h, part_is 9 line from end g, g)

      pub reading_none : is_said w ≡ false → line_of line ≡ no
      reading_none t = split R.ahead R.packs some (λ ks a. refused (rw (a, ← q, parts_on) (from-none k ks f rest (rw i at t))))

      pub reading_on : n ≤ 4096 → is_said w ≡ true
          → Reading n line (read_more n r w) (set negative r.count (below_zero w)) (set magnitude r.count (own_number w)) (set label r.count (says_label w)) (kinds_after kinds (variant_place w)) (end + 1)
      reading_on few_lines t =
          split R.ahead R.packs some (λ ks a.
          let v : Token = token k f in
          let m : ℕ = variant_place (value_of v) in
          let some-said : is_said (value_of v) ≡ true = rw i at t in
          let b : R.ahead ≡ k ∷ ks = a ∙ ap (λ (x : Kind). x ∷ ks) (sym q) in
          let fits : total room (k ∷ ks) ≤ 10 = rw b at R.fits in
          let few : length R.done + total most (k ∷ ks) ≤ 17 = rw b at R.few in
          rw i
          (record {
            done = R.done ++ (v ∷ []);
            ahead = kinds_of k m ++ ks;
            holds = holds_more v few_lines;
            packs = ap (λ (x : ℕ). kinds_after x m) (R.packs ∙ ap packed b) ∙ next_packed k ks m;
            fits = omega (arith, room_next k ks m);
            few = rw length-append (omega (arith, most_next k ks m));
            whole = R.whole ∙ rw (b, parts_on) (ap (token_first R.done) (from_on k ks f rest some-said)) ∙ first_more R.done v (line_from (kinds_of k m ++ ks) rest);
          }))
