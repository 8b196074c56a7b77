-- Laws of what is printed. Assumes nothing.
use Rattle.std.specs.Prelude.{◌≡◌, Bool, ◌&&◌, List, [], ◌∷◌, ◌++◌, map, ℕ, suc, ◌+◌, ◌-◌, ◌≤◌, ◌<◌, ℤ, pos, take, drop, get_or, replicate}
use Rattle.std.proofs.Math.Path.{refl, sym, ap}
use Rattle.std.proofs.Common.{◌∙◌, append_assoc, arith, add-one, length-append, take-suc}
use Rattle.std.proofs.Math.Bool.{true, false, cond}
use Rattle.std.proofs.Math.Dec.{leb}
use Rattle.std.proofs.Math.ListN.{length, length-map}
use Rattle.std.proofs.lemmas.List.{length-replicate}
use borrow.Author.Tests.{leb-false}
use Rattle.base_facts.specs.Tests.{and-true, cond_true, cond_false, leb_is, leb-true, never}
use Rattle.base_spec.specs.Parts.{fields}
use Rattle.base_spec.specs.Number.{Number, Is, No, number_of}
use Rattle.base_spec.specs.Numbers.{all_numbers, magnitude_of, integer_of}
use Rattle.base_spec.specs.Signed.{minus}
use Rattle.base_spec.specs.Written.{hex4_of}
use Rattle.base_spec.specs.Refused.{tab, not_in_form}
use Rattle.base_text.specs.declared.LineNumbers.{LineNumbers}
use Rattle.base_text.specs.Numbers.{negative_of, places, no_numbers, gathered, line_numbers}
use Rattle.numeric_places.specs.declared.Numbers.{Numbers}
use Rattle.numeric_spec.specs.declared.Built.{Built}
use Rattle.numeric_spec.specs.Take.{Taken, taken, not_there, take_long}
use Rattle.numeric_spec.specs.Build.{built_of}
use Rattle.numeric_places.specs.Places.{signed_from, numbers_held, built_from}
use Rattle.numeric_facts.specs.Built.{build_long}
use Rattle.numeric_facts.specs.Payload.{long_exact}
use Rattle.numeric_fields.specs.declared.LongAt.{LongAt}
use Rattle.numeric_fields.specs.Number.{long_at}
use Rattle.numeric_fields.specs.Taken.{Whole, long_same, long_next_lem}
use Rattle.print_spec.specs.EncodeAnswer.{words_text, built_text, addressed_text, instruction_text, line_numbers_text, answer_of}
use Rattle.encode_answers.specs.Places.{places_in, places_text}

words_more : (ws : List ℕ) (w : ℕ) → words_text (ws ++ (w ∷ [])) ≡ words_text ws ++ (hex4_of w ++ tab)
words_more [] w = refl
words_more (v ∷ ws) w = rw (words_more ws w, append_assoc)

-- one word more
pub words_next : (ws : List ℕ) (i : ℕ) → i < length ws → words_text (take (i + 1) ws) ≡ words_text (take i ws) ++ (hex4_of (get_or ws i 0) ++ tab)
words_next ws i h = rw (add-one, take-suc ws i 0 h) (words_more (take i ws) (get_or ws i 0))

-- ---- the form
module _ (ns : Numbers) (a : LongAt) (e : a ≡ long_at ns 0) where
  pub numbers_yes : (b : Built) → b ≡ built_from ns 1 → a.ok ≡ true → places_text ns ≡ built_text b a.value
  unfolding places_text
  numbers_yes b f h = cond_true (long_at ns 0).ok _ _ (rw (sym e) h) ∙ rw (e, f)

  pub numbers_no : a.ok ≡ false → places_text ns ≡ not_in_form
  unfolding places_text
  numbers_no h = cond_false (long_at ns 0).ok _ _ (rw (sym e) h)

-- in places, the numbers are those that the fields say
module _ (xs : List Number) (h : length xs ≤ 24) where
  abbrev held : Numbers
  held = record { count = length xs; negative = places false (map negative_of xs); magnitude = places 0 (map magnitude_of xs) }

  places_length : {A : Type 0} (f : Number → A) (z : A) → length (places z (map f xs)) ≡ 24
  places_length f z =
      let l = length-map xs f in
      length-append (map f xs) (replicate (24 - length (map f xs)) z) ∙ ap (λ n. length (map f xs) + n) (length-replicate (24 - length (map f xs)) z) ∙ omega arith

  held_whole : Whole held
  held_whole = record { negative = places_length negative_of false; magnitude = places_length magnitude_of 0 }

signed-fields : (xs : List Number) (bs : List Bool) (ms : List ℕ) → all_numbers xs ≡ true → take (length xs) (signed_from (map negative_of xs ++ bs) (map magnitude_of xs ++ ms)) ≡ map integer_of xs
signed-fields [] bs ms a = refl
signed-fields (Is s n ∷ xs) bs ms a = ap (λ (t : List ℤ). cond s (minus n) (pos n) ∷ t) (signed-fields xs bs ms a)
signed-fields (No ∷ xs) bs ms a = never a

held_listed : (xs : List Number) (h : length xs ≤ 24) → all_numbers xs ≡ true → numbers_held (held xs h) ≡ map integer_of xs
unfolding numbers_held
held_listed xs h a = signed-fields xs _ _ a

-- an address, then an instruction, in places
module _ (ns : Numbers) (w : Whole ns) (few : ns.count ≤ 24) where
  places_taken : places_text ns ≡ instruction_text (numbers_held ns)
  unfolding places_text instruction_text
  places_taken = go (long_at ns 0).ok refl (long_same ns w 0).is
    where
      go : (t : Bool) → (long_at ns 0).ok ≡ t → take_long (drop 0 (numbers_held ns)) ≡ cond t (taken (long_at ns 0).value (drop (long_at ns 0).next (numbers_held ns))) not_there
          → cond t (built_text (built_from ns 1) (long_at ns 0).value) not_in_form ≡ addressed_text (take_long (numbers_held ns))
      go true t e = ap (λ (b : Built). built_text b (long_at ns 0).value) (cond_true (leb ns.count 24) _ _ (leb-true ns.count 24 few))
          ∙ ap (λ (k : ℕ). built_text (built_of (drop k (numbers_held ns))) (long_at ns 0).value) (sym (long_next_lem ns w 0 t))
          ∙ sym (ap addressed_text e)
      go false t e = sym (ap addressed_text e)

-- more than 24 numbers are in no form
long_text : (zs : List ℤ) → 24 < length zs → instruction_text zs ≡ not_in_form
unfolding instruction_text
long_text zs h = go (take_long zs) refl
  where
    go : (t : Taken ℕ) → take_long zs ≡ t → addressed_text t ≡ not_in_form
    go (taken address rest) e =
        let s = long_exact.sound zs address rest e in
        let l : length zs ≡ suc (length rest) = ap length s.0 in
        ap (λ (b : Built). built_text b address) (build_long rest (omega arith))
    go not_there e = refl

-- ---- the line
module _ (xs : List Number) where
  gathered_yes : (gathered xs).ok ≡ true → (all_numbers xs ≡ true) × (length xs ≤ 24)
  unfolding gathered no_numbers
  gathered_yes h = go (all_numbers xs && leb (length xs) 24) refl h
    where
      go : (t : Bool) → all_numbers xs && leb (length xs) 24 ≡ t → (cond {A = LineNumbers} t (record { ok = true; count = length xs; negative = places false (map negative_of xs); magnitude = places 0 (map magnitude_of xs) }) no_numbers).ok ≡ true
          → (all_numbers xs ≡ true) × (length xs ≤ 24)
      go true e h = let b = and-true (all_numbers xs) (leb (length xs) 24) e in (b.0, leb_is (length xs) 24 b.1)
      go false e h = never h

  gathered_held : (h : length xs ≤ 24) → all_numbers xs ≡ true → places_in (gathered xs) ≡ held xs h
  unfolding gathered
  gathered_held h a = rw (a, leb-true (length xs) 24 h)

-- `text` is what numbers get, `held_text` what numbers in places get
module _ (text : List ℤ → List ℕ) (held_text : Numbers → List ℕ)
    (same : (ns : Numbers) → Whole ns → ns.count ≤ 24 → held_text ns ≡ text (numbers_held ns)) (long : (zs : List ℤ) → 24 < length zs → text zs ≡ not_in_form) where
  module _ (xs : List Number) where
    text_yes : (gathered xs).ok ≡ true → line_numbers_text text xs ≡ held_text (places_in (gathered xs))
    unfolding line_numbers_text
    text_yes t =
        let g = gathered_yes xs t in
        cond_true (all_numbers xs) _ _ g.0
        ∙ ap text (sym (held_listed xs g.1 g.0))
        ∙ sym (same (held xs g.1) (held_whole xs g.1) g.1)
        ∙ ap held_text (sym (gathered_held xs g.1 g.0))

    text_no : (gathered xs).ok ≡ false → line_numbers_text text xs ≡ not_in_form
    unfolding line_numbers_text gathered
    text_no t = go (all_numbers xs) refl (leb (length xs) 24) refl t
      where
        go : (a : Bool) → all_numbers xs ≡ a → (b : Bool) → leb (length xs) 24 ≡ b
            → (cond {A = LineNumbers} (a && b) (record { ok = true; count = length xs; negative = places false (map negative_of xs); magnitude = places 0 (map magnitude_of xs) }) no_numbers).ok ≡ false
            → cond a (text (map integer_of xs)) not_in_form ≡ not_in_form
        go true h true k e = never (sym e)
        go true h false k e = let l = length-map xs integer_of in long (map integer_of xs) (omega (arith, leb-false (length xs) 24 k))
        go false h b k e = refl

  module _ (line : List ℕ) (n : LineNumbers) (e : n ≡ line_numbers line) where
    pub line_yes : (ns : Numbers) → ns ≡ places_in n → n.ok ≡ true → line_numbers_text text (map number_of (fields line)) ≡ held_text ns
    line_yes ns f h = text_yes (map number_of (fields line)) (rw (sym e) h) ∙ ap held_text (sym (f ∙ ap places_in e))

    pub line_no : n.ok ≡ false → line_numbers_text text (map number_of (fields line)) ≡ not_in_form
    line_no h = text_no (map number_of (fields line)) (rw (sym e) h)

module _ (line : List ℕ) (n : LineNumbers) (e : n ≡ line_numbers line) where
  pub answer_yes : (ns : Numbers) → ns ≡ places_in n → n.ok ≡ true → answer_of line ≡ places_text ns
  unfolding answer_of
  answer_yes = line_yes instruction_text places_text places_taken long_text line n e

  pub answer_no : n.ok ≡ false → answer_of line ≡ not_in_form
  unfolding answer_of
  answer_no = line_no instruction_text places_text places_taken long_text line n e
