-- Laws of the encoder's state: what a run of items leaves, and where each part begins.
use Rattle.std.specs.Prelude.{◌≡◌, ℕ, suc, ◌+◌, ◌-◌, ◌%◌, ◌^◌, ◌<◌, Bool, List, [], ◌∷◌, ◌++◌, length, replicate, pos, slice_set, Ok, Err}
use Rattle.std.proofs.Common.{append_assoc, append-nil, ap, sym, ◌∙◌, length-append, arith, lt-ltb}
use Rattle.std.proofs.Math.Path.{refl}
use Rattle.isa.specs.declared.Encoded.{Encoded}
use Rattle.encode_spec.specs.Item.{Item, Part, Verdict, fine, malformed, out_of_range, no_encoding, word, check, range, ranged, words_in, count_of, word_address, laid, or_else, failure}
use Rattle.encode_spec.specs.Item as item
use Rattle.encode_spec.specs.Encode.{padded, encoded_as, short}
use Rattle.encode_state.specs.declared.Encoder.{Encoder}
use Rattle.encode_state.specs.declared.Refusal.{Refusal}
use Rattle.encode_state.specs.declared.Refusal.TheVariants.{Malformed, OutOfRange, NoEncoding, FewBytes, Numbered}
use Rattle.encode_state.specs.Encoder.{State, and_then, pushed, marked, step, run, next_address, run_parts, holding}
use Rattle.encode_facts.specs.Items.{words_count, count_append, address_address}

-- ---- a refusal stays as it is
pub run-refused : (xs : List Item) (r : Refusal) → run xs (Err r) ≡ Err r
run-refused [] r = refl
run-refused (x ∷ xs) r = run-refused xs r

pub parts_refused : (ps : List Part) (r : Refusal) → run_parts ps (Err r) ≡ Err r
parts_refused [] r = refl
parts_refused (p ∷ ps) r = parts_refused ps r

-- ---- runs one after the other
pub run_append : (xs ys : List Item) (s : State) → run (xs ++ ys) s ≡ run ys (run xs s)
run_append [] ys s = refl
run_append (x ∷ xs) ys s = run_append xs ys (and_then s (λ e. step e x))

-- ---- words laid down
set_end : (ws xs : List ℕ) (x w : ℕ) → slice_set (ws ++ (x ∷ xs)) (length ws) w ≡ ws ++ (w ∷ xs)
set_end [] xs x w = refl
set_end (v ∷ ws) xs x w = ap (λ (l : List ℕ). v ∷ l) (set_end ws xs x w)

one_less : (n : ℕ) → n < 11 → replicate {A = ℕ} (11 - n) 0 ≡ 0 ∷ replicate {A = ℕ} (11 - (n + 1)) 0
one_less n h = let e : 11 - n ≡ suc (11 - (n + 1)) = omega arith in ap (λ (k : ℕ). replicate {A = ℕ} k 0) e

length_snoc : (ws : List ℕ) (w : ℕ) → length (ws ++ (w ∷ [])) ≡ length ws + 1
length_snoc ws w = length-append ws (w ∷ [])

padded_snoc : (ws : List ℕ) (w : ℕ) → length ws < 11 → slice_set (padded ws) (length ws) w ≡ padded (ws ++ (w ∷ []))
padded_snoc ws w h =
    rw (one_less (length ws) h, set_end ws (replicate {A = ℕ} (11 - (length ws + 1)) 0) 0 w, length_snoc ws w)
    (sym (append_assoc ws (w ∷ []) (replicate {A = ℕ} (11 - (length ws + 1)) 0)))

pub push_holding : (a : ℕ) (b : Bool) (ws : List ℕ) (w : ℕ) → length ws < 11 → pushed (holding a b ws) w ≡ holding a b (ws ++ (w ∷ []))
unfolding pushed
push_holding a b ws w h = rw (lt-ltb (length ws) 11 h, padded_snoc ws w h, length_snoc ws w)

-- ---- what a run of items leaves: the words after those before, or the first failure
module _ (a : ℕ) (b : Bool) where
  after_check : (v u : Verdict) (xs : List Item) (ws us : List ℕ)
      → run xs (Ok (holding a b ws)) ≡ marked u (holding a b us)
      → run xs (marked v (holding a b ws)) ≡ marked (or_else v u) (holding a b us)
  after_check fine u xs ws us h = h
  after_check malformed u xs ws us h = run-refused xs _
  after_check (out_of_range f z) u xs ws us h = run-refused xs _
  after_check (no_encoding r) u xs ws us h = run-refused xs _

  pub run_holding : (xs : List Item) (ws : List ℕ) → length ws + count_of xs < 12
      → run xs (Ok (holding a b ws)) ≡ marked (failure b xs) (holding a b (ws ++ words_in xs))
  run_holding [] ws m = rw (append-nil ws)
  run_holding (word w ∷ xs) ws m =
      rw (push_holding a b ws w (omega arith), ← append_assoc ws (w ∷ []) (words_in xs))
      (run_holding xs (ws ++ (w ∷ [])) (rw (length_snoc ws w) (omega arith)))
  run_holding (check v ∷ xs) ws m = after_check v (failure b xs) xs ws (ws ++ words_in xs) (run_holding xs ws m)
  run_holding (range f z ∷ xs) ws m = after_check (ranged b f z) (failure b xs) xs ws (ws ++ words_in xs) (run_holding xs ws m)

-- ---- where each part begins
next_holding : (a : ℕ) (b : Bool) (ws : List ℕ) → length ws < 12 → next_address (holding a b ws) ≡ word_address a (length ws)
unfolding next_address
next_holding a b ws m = let e : length ws % 16 ≡ length ws = omega arith in rw e

after_part : (v : Verdict) (ps : List Part) (xs : List Item) (e : Encoder)
    → run_parts ps (Ok e) ≡ run xs (Ok e) → run_parts ps (marked v e) ≡ run xs (marked v e)
after_part fine ps xs e h = h
after_part malformed ps xs e h = parts_refused ps _ ∙ sym (run-refused xs _)
after_part (out_of_range f z) ps xs e h = parts_refused ps _ ∙ sym (run-refused xs _)
after_part (no_encoding r) ps xs e h = parts_refused ps _ ∙ sym (run-refused xs _)

pub parts-run : (a : ℕ) (b : Bool) (ps : List Part) (ws : List ℕ) → length ws + count_of (laid ps (word_address a (length ws))) < 12
    → run_parts ps (Ok (holding a b ws)) ≡ run (laid ps (word_address a (length ws))) (Ok (holding a b ws))
parts-run a b [] ws m = refl
parts-run a b (p ∷ ps) ws m =
    let at = word_address a (length ws) in
    let xs = p at in
    let rest = laid ps (word_address at (count_of xs)) in
    let n : length ws + (count_of xs + count_of rest) < 12 = rw (count_append xs rest) at m in
    let long : length (ws ++ words_in xs) ≡ length ws + count_of xs = length-append ws (words_in xs) ∙ ap (λ (k : ℕ). length ws + k) (words_count xs) in
    let there : word_address a (length (ws ++ words_in xs)) ≡ word_address at (count_of xs) = rw long (sym (address_address a (length ws) (count_of xs))) in
    rw (next_holding a b ws (omega arith), run_append xs rest (Ok (holding a b ws)), run_holding a b xs ws (omega arith))
    (after_part (failure b xs) ps rest (holding a b (ws ++ words_in xs))
    (rw (← there) (parts-run a b ps (ws ++ words_in xs) (rw (there, long) (omega arith)))))

-- ---- the result of a run
-- 01's number, detail and value of a refusal: those of the verdict that it stands for
abbrev pub refusal : Refusal → item.Refusal
refusal Malformed = item.refusal malformed
refusal (OutOfRange f z) = item.refusal (out_of_range f z)
refusal (NoEncoding r) = item.refusal (no_encoding r)
refusal FewBytes = record { number = short.number; detail = short.detail; value = short.value }
refusal (Numbered n d z) = record { number = n; detail = d; value = z }

-- a refusal has no words
abbrev pub finished : State → Encoded
finished (Ok e) = record { words = e.words; count = e.count; number = 0; detail = 0; value = pos 0 }
finished (Err r) = record { words = replicate 11 0; count = 0; number = (refusal r).number; detail = (refusal r).detail; value = (refusal r).value }

finish_holding : (v : Verdict) (a : ℕ) (b : Bool) (ws : List ℕ) → finished (marked v (holding a b ws)) ≡ encoded_as v ws
finish_holding fine a b ws = refl
finish_holding malformed a b ws = refl
finish_holding (out_of_range f z) a b ws = refl
finish_holding (no_encoding r) a b ws = refl

-- what the parts of an instruction give, from the first word on
pub view : (ps : List Part) (a : ℕ) (b : Bool) → a < 2 ^ 32 → count_of (laid ps a) < 12
    → finished (run_parts ps (Ok (holding a b []))) ≡ encoded_as (failure b (laid ps a)) (words_in (laid ps a))
view ps a b h m =
    let here : word_address a 0 ≡ a = omega arith in
    let n : 0 + count_of (laid ps (word_address a 0)) < 12 = rw here (omega arith) in
    rw (parts-run a b ps [] n, here, run_holding a b (laid ps a) [] (omega arith))
    (finish_holding (failure b (laid ps a)) a b (words_in (laid ps a)))
