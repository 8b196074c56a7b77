-- Laws of the encoder's state: a refusal stays, and what passes leaves the address of the next word. Assumes nothing.
use Rattle.std.specs.Prelude.{◌≡◌, ℕ, ◌+◌, ◌<◌, ◌≤◌, Bool, true, false, cond, List, [], ◌∷◌, ◌++◌, length, Result, Ok, Err, IfErr, ⊤}
use Rattle.std.proofs.Common.{ap, sym, ◌∙◌, arith}
use Rattle.std.proofs.Math.Path.{refl}
use Rattle.isa.specs.declared.Field.{Field}
use Rattle.encode_spec.specs.Item.{Item, Part, Verdict, fine, malformed, out_of_range, no_encoding, word, check, range, ranged, words_in, count_of, or_else, failure}
use Rattle.encode_spec.specs.Item as item
use Rattle.encode_spec.specs.Encode.{encoded_as}
use Rattle.encode_state.specs.declared.Encoder.{Encoder}
use Rattle.encode_state.specs.declared.Refusal.{Refusal}
use Rattle.encode_state.specs.declared.Refusal.TheVariants.{Malformed, OutOfRange, NoEncoding, FewBytes, Numbered}
use Rattle.encode_state.specs.Encoder.{State, and_then, pushed, marked, step, run, next_address, run_parts, holding}
use Rattle.encode_state.specs.Laws.{run-refused, run_holding, finished, refusal}
use Rattle.encode_state.specs.Laws as laws

-- no word is laid down after a refusal
pub push_refused : (r : Refusal) (w : ℕ) → and_then (Err r) (λ e. Ok (pushed e w)) ≡ Err r
push_refused r w = refl

-- and no check makes it another
pub marked_refused : (v : Verdict) (r : Refusal) → and_then (Err r) (marked v) ≡ Err r
marked_refused v r = refl

pub refuse_refused : (f : Encoder → State) (r : Refusal) → and_then (Err r) f ≡ Err r
refuse_refused f r = refl

pub step_refused : (x : Item) (r : Refusal) → and_then (Err r) (λ e. step e x) ≡ Err r
step_refused x r = refl

pub refused_there : (r : ℕ) (e : Encoder) → marked (no_encoding r) e ≡ Err (NoEncoding r)
refused_there r e = refl

pub parts-refused : (ps : List Part) (r : Refusal) → run_parts ps (Err r) ≡ Err r
parts-refused = laws.parts_refused

-- a check leaves the state, or refuses
pub by_fine : (Q : State → Type 0) (v : Verdict) (e : Encoder) → Q (Ok e) → ((r : Refusal) → Q (Err r)) → Q (marked v e)
by_fine Q fine e p q = p
by_fine Q malformed e p q = q _
by_fine Q (out_of_range f z) e p q = q _
by_fine Q (no_encoding r) e p q = q _

pub by_verdict : (Q : Type 0) (v : Verdict) (e : Encoder) → (v ≡ fine → Q) → ((r : Refusal) → marked v e ≡ Err r → Q) → Q
by_verdict Q fine e p q = p refl
by_verdict Q malformed e p q = q _ refl
by_verdict Q (out_of_range f z) e p q = q _ refl
by_verdict Q (no_encoding r) e p q = q _ refl

-- and the refusal has the verdict's number, detail and value
pub refusal_marked : (v : Verdict) (e : Encoder) (r : Refusal) → marked v e ≡ Err r → refusal r ≡ item.refusal v
refusal_marked fine e r h = cc
refusal_marked malformed e r h = cc
refusal_marked (out_of_range f z) e r h = cc
refusal_marked (no_encoding k) e r h = cc

-- a check that passes leaves the state, so the next word's address is the same
pub marked_same : (v : Verdict) (e f : Encoder) → marked v e ≡ Ok f → f ≡ e
marked_same fine e f h = cc
marked_same malformed e f h = cc
marked_same (out_of_range g z) e f h = cc
marked_same (no_encoding r) e f h = cc

pub marked_next : (v : Verdict) (e f : Encoder) → marked v e ≡ Ok f → next_address f ≡ next_address e
marked_next v e f h = ap next_address (marked_same v e f h)

next_cond : (b : Bool) (x y : Encoder) → next_address x ≡ next_address y → next_address (cond b x y) ≡ next_address y
next_cond true x y h = h
next_cond false x y h = refl

-- a refused state has no next word, so what follows a check, whether it passes or refuses, is laid at the address before it
pub check_next : (v : Verdict) (e : Encoder) (g : ℕ → Encoder → State)
    → and_then (marked v e) (λ f. g (next_address f) f) ≡ and_then (marked v e) (g (next_address e))
check_next fine e g = refl
check_next malformed e g = refl
check_next (out_of_range f z) e g = refl
check_next (no_encoding r) e g = refl

pub refuse_next : (b : Bool) (r : Refusal) (e : Encoder) (g : ℕ → Encoder → State)
    → and_then (cond b (Ok e) (Err r)) (λ f. g (next_address f) f) ≡ and_then (cond b (Ok e) (Err r)) (g (next_address e))
refuse_next true r e g = refl
refuse_next false r e g = refl

-- so are the parts
pub part_next : (v : Verdict) (p : Part) (ps : List Part) (e : Encoder)
    → run_parts (p ∷ ps) (marked v e) ≡ run_parts ps (run (p (next_address e)) (marked v e))
part_next fine p ps e = refl
part_next malformed p ps e = ap (run_parts ps) (sym (run-refused (p (next_address e)) _))
part_next (out_of_range f z) p ps e = ap (run_parts ps) (sym (run-refused (p (next_address e)) _))
part_next (no_encoding r) p ps e = ap (run_parts ps) (sym (run-refused (p (next_address e)) _))

-- what a run of items leaves: the words after those before, or a refusal
pub after : (a : ℕ) (b : Bool) (Q : State → Type 0) (xs : List Item) (ws : List ℕ) → length ws + count_of xs < 12
    → Q (Ok (holding a b (ws ++ words_in xs)))
    → ((r : Refusal) → Q (Err r))
    → Q (run xs (Ok (holding a b ws)))
after a b Q xs ws m p q = rw (run_holding a b xs ws m) (by_fine Q (failure b xs) (holding a b (ws ++ words_in xs)) p q)

-- and what it gives
finish_check : (v : Verdict) (xs : List Item) (a : ℕ) (b : Bool) (ws us : List ℕ) (u : Verdict)
    → finished (run xs (Ok (holding a b ws))) ≡ encoded_as u us
    → finished (run xs (marked v (holding a b ws))) ≡ encoded_as (or_else v u) us
finish_check fine xs a b ws us u k = k
finish_check malformed xs a b ws us u k = ap finished (run-refused xs _)
finish_check (out_of_range f z) xs a b ws us u k = ap finished (run-refused xs _)
finish_check (no_encoding r) xs a b ws us u k = ap finished (run-refused xs _)

finish_holding : (v : Verdict) (a : ℕ) (b : Bool) (ws : List ℕ) → finished (marked v (holding a b ws)) ≡ encoded_as v ws
finish_holding fine a b ws = refl
finish_holding malformed a b ws = refl
finish_holding (out_of_range f z) a b ws = refl
finish_holding (no_encoding r) a b ws = refl

finish_run : (xs : List Item) (a : ℕ) (b : Bool) (ws : List ℕ) → length ws + count_of xs < 12
    → finished (run xs (Ok (holding a b ws))) ≡ encoded_as (failure b xs) (ws ++ words_in xs)
finish_run xs a b ws m = ap finished (run_holding a b xs ws m) ∙ finish_holding (failure b xs) a b (ws ++ words_in xs)

-- ---- which refusals there are
-- one of the four, and not one in numbers
abbrev pub OneOfFour : Refusal → Type 0
OneOfFour Malformed = ⊤
OneOfFour (OutOfRange f z) = ⊤
OneOfFour (NoEncoding r) = ⊤
OneOfFour FewBytes = ⊤
OneOfFour (Numbered n d z) = ⊥

pub four_numbers : (r : Refusal) → OneOfFour r → (1 ≤ (refusal r).number) × ((refusal r).number ≤ 4)
four_numbers Malformed h = (omega arith, omega arith)
four_numbers (OutOfRange f z) h = (omega arith, omega arith)
four_numbers (NoEncoding r) h = (omega arith, omega arith)
four_numbers FewBytes h = (omega arith, omega arith)
four_numbers (Numbered n d z) h = absurd h

marked_four : (v : Verdict) (e : Encoder) → IfErr (marked v e) OneOfFour
marked_four fine e = tt
marked_four malformed e = tt
marked_four (out_of_range f z) e = tt
marked_four (no_encoding r) e = tt

pub step_four : (s : State) (x : Item) → IfErr s OneOfFour → IfErr (and_then s (λ e. step e x)) OneOfFour
step_four (Ok e) (word w) h = tt
step_four (Ok e) (check v) h = marked_four v e
step_four (Ok e) (range f z) h = marked_four (ranged e.check f z) e
step_four (Err r) x h = h

-- items refuse with one of the four, and so do parts
pub run_four : (xs : List Item) (s : State) → IfErr s OneOfFour → IfErr (run xs s) OneOfFour
run_four [] s h = h
run_four (x ∷ xs) s h = run_four xs _ (step_four s x h)

pub parts_four : (ps : List Part) (s : State) → IfErr s OneOfFour → IfErr (run_parts ps s) OneOfFour
parts_four [] s h = h
parts_four (p ∷ ps) (Ok e) h = parts_four ps _ (run_four (p (next_address e)) (Ok e) tt)
parts_four (p ∷ ps) (Err r) h = parts_four ps (Err r) h
