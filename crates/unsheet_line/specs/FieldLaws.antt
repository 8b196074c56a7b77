-- The fields of a line one after the other, each with its end. Assumes nothing.
use Rattle.std.specs.Prelude.{ℕ, ◌+◌, ◌%◌, ◌^◌, ◌≤◌, ◌<◌, ◌≡◌, refl, Bool, true, ◌||◌, eqb, ℤ, pos, negsuc, length, drop, get_or}
use Rattle.std.proofs.Common.{sym, ap, subst, ◌∙◌, arith, add-one, length-drop, drop_of_length-le, drop-cons}
use Rattle.std.proofs.Math.Bool.{false}
use mathlib.Core.List.{List, [], ◌∷◌, ◌++◌, map, append_assoc, append-nil}
use Rattle.std.proofs.Math.Option.{Option, none, some}
use Rattle.std.proofs.Math.IntN.{nat_abs}
use Rattle.std.proofs.Math.ListN.{get_or-map}
use Rattle.base_facts.specs.Lists.{get_d_pad}
use Rattle.base_facts.specs.Tests.{eqb_is, eqb_not}
use Rattle.base_text.specs.Wrote.{Wrote}
use Rattle.base_text.specs.WroteLaws.{wrote_none, wrote_then}
use Rattle.isa.specs.declared.Instruction.{Instruction}
use Rattle.numeric_spec.specs.Entry.{Entry, unsigned, signed, entry_number}
use Rattle.numeric_spec.specs.Form.{place_of, payload_of, form_of}
use Rattle.base_spec.specs.declared.Literal.{Literal}
use Rattle.numeric_form.specs.Numbers.{is_negative, literal_of, zero_literal, numbers_from}
use Rattle.sheet_spec.specs.declared.Kind.{Kind}
use Rattle.sheet_spec.specs.declared.Kind.TheVariants as kind
use Rattle.sheet_spec.specs.Names.{bytes, names_of}
use Rattle.sheet_spec.specs.Grammar.{kinds_of}
use Rattle.sheet_spec.specs.Line.{Token, literal}
use Rattle.sheet_spec.specs.Spell.{number_text, name_text, spelled, next_kinds, fields_from, joined, spell}
use Rattle.sheet_kinds.specs.Ahead as ahead
use Rattle.sheet_kinds.specs.Ahead.{split}
use Rattle.sheet_kinds.specs.Packed.{packed, kind_at}
use Rattle.sheet_kinds.specs.Next.{kinds_after}
use Rattle.sheet_kinds.specs.NextLaws.{code_fits, packed_none, next_packed}
use Rattle.sheet_kinds.specs.Weight.{room, total, room_next}
use Rattle.unsheet_spec.specs.Text.{as_literal, target_or, token_for, tokens_from, tokens_of}
use Rattle.unsheet_line.specs.Field.{field_spelled, ending}
use Rattle.unsheet_line.specs.Targets.{Target, Targets, kinds_past, form_targets}
use Rattle.unsheet_line.specs.Targets as targets

-- no field is to come
abbrev is_last : List Kind → List Entry → Bool
is_last [] es = true
is_last (k ∷ ks) [] = true
is_last (k ∷ ks) (e ∷ es) = false

module _ (lands : ℕ → Option ℕ) where
  -- ---- one field: its text, and the kinds after it
  abbrev text_of : Kind → Entry → List ℕ
  text_of k e = field_spelled lands k (is_negative (entry_number e)) (nat_abs (entry_number e))

  abbrev Told : Kind → Entry → Token → Type 0
  Told k e v = (spelled k v ≡ text_of k e) × (next_kinds k v ≡ kinds_of k (nat_abs (entry_number e)))

  -- a number, and a name
  literal_is : (e : Entry) → as_literal e ≡ literal (is_negative (entry_number e)) (nat_abs (entry_number e))
  literal_is (unsigned top n) = refl
  literal_is (signed (pos n)) = refl
  literal_is (signed (negsuc n)) = refl

  number_told : (k : Kind) (e : Entry) → (number_text (as_literal e) ≡ number_text (literal (is_negative (entry_number e)) (nat_abs (entry_number e)))) × (next_kinds k (as_literal e) ≡ kinds_of k (nat_abs (entry_number e)))
  number_told k e = rw (literal_is e) (refl, refl)

  name_told : (k : Kind) (e : Entry) → (name_text k (as_literal e) ≡ get_or (map bytes (names_of k)) (nat_abs (entry_number e)) []) × (next_kinds k (as_literal e) ≡ kinds_of k (nat_abs (entry_number e)))
  name_told k e = rw (literal_is e) (refl, refl)

  no_kinds : (k : Kind) → ((n : ℕ) → kinds_of k n ≡ []) → (t : ℕ) (l : Option ℕ) → next_kinds k (target_or l t) ≡ kinds_of k t
  no_kinds k h t none = refl
  no_kinds k h t (some n) = sym (h t)

  told : (k : Kind) (e : Entry) → Target k e → Told k e (token_for lands k e)
  told kind.Number e h = number_told kind.Number e
  told kind.Target (unsigned top t) h = (refl, no_kinds kind.Target (λ n. refl) t (lands t))
  told kind.Target (signed z) h = absurd h
  told kind.Place (unsigned top t) h = (refl, no_kinds kind.Place (λ n. refl) t (lands t))
  told kind.Place (signed z) h = absurd h
  told kind.Size e h = name_told kind.Size e
  told kind.TargetDirection e h = name_told kind.TargetDirection e
  told kind.RegisterOperand e h = name_told kind.RegisterOperand e
  told kind.AddressWidth e h = name_told kind.AddressWidth e
  told kind.Condition e h = name_told kind.Condition e
  told kind.BranchSize e h = name_told kind.BranchSize e
  told kind.ShiftDirection e h = name_told kind.ShiftDirection e
  told kind.Sign e h = name_told kind.Sign e
  told kind.BitFieldOperation e h = name_told kind.BitFieldOperation e
  told kind.FieldValue e h = name_told kind.FieldValue e
  told kind.TrapOperand e h = name_told kind.TrapOperand e
  told kind.RegisterChoice e h = name_told kind.RegisterChoice e
  told kind.Operand e h = name_told kind.Operand e
  told kind.Instruction e h = name_told kind.Instruction e

  -- ---- the fields to come, each followed by a tab, the last by LF
  abbrev ended : List Kind → List Entry → List ℕ
  ended ks [] = []
  ended [] (e ∷ es) = []
  ended (k ∷ ks) (e ∷ es) = text_of k e ++ ending (is_last (kinds_past k e ks) es) ++ ended (kinds_past k e ks) es

  -- as the spelling has it
  abbrev Same : Kind → List Kind → Entry → List Entry → Type 0
  Same k ks e es = joined (fields_from (k ∷ ks) (tokens_from lands (k ∷ ks) (e ∷ es))) ++ (10 ∷ []) ≡ ended (k ∷ ks) (e ∷ es)

  ended_is : (k : Kind) (ks : List Kind) (e : Entry) (es : List Entry) → Targets (k ∷ ks) (e ∷ es) → Same k ks e es
  ended_is k ks e [] (targets.field h later) = rw ((told k e h).0, (told k e h).1) (go (kinds_past k e ks))
    where
      go : (ls : List Kind) → joined (text_of k e ∷ fields_from ls []) ++ (10 ∷ []) ≡ text_of k e ++ ending (is_last ls []) ++ []
      go [] = sym (append-nil (text_of k e ++ (10 ∷ [])))
      go (l ∷ ls) = sym (append-nil (text_of k e ++ (10 ∷ [])))
  ended_is k ks e (f ∷ fs) (targets.field h later) = rw ((told k e h).0, (told k e h).1) (go (kinds_past k e ks) later (λ l ls t. ended_is l ls f fs t))
    where
      go : (ls : List Kind) → Targets ls (f ∷ fs) → ((l : Kind) (ls : List Kind) → Targets (l ∷ ls) (f ∷ fs) → Same l ls f fs)
          → joined (text_of k e ∷ fields_from ls (tokens_from lands ls (f ∷ fs))) ++ (10 ∷ []) ≡ text_of k e ++ ending (is_last ls (f ∷ fs)) ++ ended ls (f ∷ fs)
      go [] h later = sym (append-nil (text_of k e ++ (10 ∷ [])))
      go (l ∷ ls) h later =
          append_assoc (text_of k e) (9 ∷ joined (fields_from (l ∷ ls) (tokens_from lands (l ∷ ls) (f ∷ fs)))) (10 ∷ [])
          ∙ ap (λ (t : List ℕ). text_of k e ++ (9 ∷ t)) (later l ls h)
          ∙ sym (append_assoc (text_of k e) (9 ∷ []) (ended (l ∷ ls) (f ∷ fs)))

  pub spell-ended : (i : Instruction) → spell (tokens_of lands i) ++ (10 ∷ []) ≡ ended (kind.Instruction ∷ []) (form_of i)
  unfolding spell tokens_of form_of
  spell-ended i = ended_is kind.Instruction [] (unsigned 98 (place_of i)) (payload_of i) (form_targets i)

-- ---- the kinds in one number and the entries in places, as code holds them

none_left : (ls : List Kind) (n m : ℕ) (es : List Entry) → length es + n ≡ m → eqb (packed ls) 0 || eqb n m ≡ is_last ls es
none_left [] n m es h = refl
none_left (l ∷ ls) n m [] h = rw (eqb_not (packed (l ∷ ls)) 0 (λ z. omega (arith, code_fits l)), eqb_is n m (omega arith))
none_left (l ∷ ls) n m (e ∷ es) h = rw (eqb_not (packed (l ∷ ls)) 0 (λ z. omega (arith, code_fits l)), eqb_not n m (λ z. omega arith))

-- entry n, in its place
module _ (es : List Entry) (n : ℕ) (h : n < 24) where
  abbrev entry_at : ℤ
  entry_at = entry_number (get_or es n (unsigned 0 0))

  literal_at : get_or (numbers_from es).places n zero_literal ≡ literal_of entry_at
  unfolding numbers_from
  literal_at = get_d_pad 24 zero_literal (map (λ e. literal_of (entry_number e)) es) n h ∙ get_or-map (λ e. literal_of (entry_number e)) es n (unsigned 0 0)

pub count_is : (es : List Entry) → (numbers_from es).count ≡ length es
unfolding numbers_from
count_is es = refl

later_suits : {k : Kind} {ks : List Kind} {e : Entry} {es : List Entry} → Targets (k ∷ ks) (e ∷ es) → Targets (kinds_past k e ks) es
later_suits (targets.field h later) = later

-- n of the entries es are written from place `at` on as the first part of `whole`, and the kinds to come
pub record Spelling (lands : ℕ → Option ℕ) (es : List Entry) (whole buf : List ℕ) (at : ℕ) (out : List ℕ) (next kinds n : ℕ) : Type 0 where
  pub written : List ℕ
  pub ahead : List Kind
  pub wrote : Wrote buf at written out next
  pub packs : kinds ≡ packed ahead
  pub fits : total room ahead ≤ 10
  pub suits : Targets ahead (drop n es)
  pub rest : whole ≡ written ++ ended lands ahead (drop n es)

pub spelling-start : (lands : ℕ → Option ℕ) (i : Instruction) (buf : List ℕ) (at : ℕ) → Spelling lands (form_of i) (spell (tokens_of lands i) ++ (10 ∷ [])) buf at buf at 17 0
spelling-start lands i buf at =
    record { written = []; ahead = kind.Instruction ∷ []; wrote = wrote_none buf at; packs = refl; fits = omega arith; suits = form_targets i; rest = spell-ended lands i }

module _ {lands : ℕ → Option ℕ} {es : List Entry} {whole buf out : List ℕ} {at next kinds n : ℕ} (s : Spelling lands es whole buf at out next kinds n) where
  -- all of it
  finished : ended lands s.ahead (drop n es) ≡ [] → Wrote buf at whole out next
  finished e = subst (λ (t : List ℕ). Wrote buf at t out next) (sym (s.rest ∙ ap (λ (t : List ℕ). s.written ++ t) e ∙ append-nil s.written)) s.wrote

  pub spelling_past : length es ≤ n → Wrote buf at whole out next
  spelling_past h = finished (ap (ended lands s.ahead) (drop_of_length-le es h))

  pub spelling-none : kinds ≡ 0 → Wrote buf at whole out next
  spelling-none z = finished (ap (λ (ks : List Kind). ended lands ks (drop n es)) (packed_none s.ahead (sym s.packs ∙ z)) ∙ go (drop n es))
    where
      go : (fs : List Entry) → ended lands [] fs ≡ []
      go [] = refl
      go (f ∷ fs) = refl

  module _ (some : kinds ≡ 0 → ⊥) where
    pub next_fits : (m : ℕ) → kinds_after kinds m < 2 ^ 64
    next_fits m = ahead.next_fits s.ahead s.packs some s.fits m

    -- the next field and its end
    module _ (h : n < length es) (few : n < 24) (k : Kind) (q : k ≡ kind_at (kinds % 32)) (number : Literal) (later : ℕ) (number_is : number ≡ get_or (numbers_from es).places n zero_literal)
        (l : later ≡ kinds_after kinds number.magnitude) where
      pub spelling_on : {mid end : List ℕ} {p r : ℕ} → Wrote out next (field_spelled lands k number.negative number.magnitude) mid p → Wrote mid p (ending (eqb later 0 || eqb (n + 1) (length es))) end r → r ≤ length buf
          → p ≤ length buf → Spelling lands es whole buf at end r later (n + 1)
      spelling_on {mid} {end} {p} {r} w v room₁ room₂ =
          split s.ahead s.packs some (λ ks a.
          let e : Entry = get_or es n (unsigned 0 0) in
          let b : s.ahead ≡ k ∷ ks = a ∙ ap (λ (x : Kind). x ∷ ks) (sym q) in
          let d : drop n es ≡ e ∷ drop (n + 1) es = rw (add-one, drop-cons es n (unsigned 0 0)) in
          let m : ℕ = number.magnitude in
          let entry_is : number ≡ literal_of (entry_number e) = number_is ∙ literal_at es n few in
          let magnitude-is : m ≡ nat_abs (entry_number e) = ap (λ (x : Literal). x.magnitude) entry_is in
          let sign-is : number.negative ≡ is_negative (entry_number e) = ap (λ (x : Literal). x.negative) entry_is in
          let packs : later ≡ packed (kinds_past k e ks) = l ∙ ap (λ (x : ℕ). kinds_after x m) (s.packs ∙ ap packed b) ∙ next_packed k ks m ∙ ap (λ (x : ℕ). packed (kinds_of k x ++ ks)) magnitude-is in
          let last : eqb later 0 || eqb (n + 1) (length es) ≡ is_last (kinds_past k e ks) (drop (n + 1) es) = ap (λ (x : ℕ). eqb x 0 || eqb (n + 1) (length es)) packs ∙ none_left (kinds_past k e ks) (n + 1) (length es) (drop (n + 1) es) (rw length-drop (omega arith)) in
          let fits : total room (k ∷ ks) ≤ 10 = rw b at s.fits in
          record {
            written = s.written ++ field_spelled lands k number.negative number.magnitude ++ ending (eqb later 0 || eqb (n + 1) (length es));
            ahead = kinds_past k e ks;
            wrote = wrote_then (wrote_then s.wrote w room₂) v room₁;
            packs = packs;
            fits = omega (arith, room_next k ks (nat_abs (entry_number e)));
            suits = later_suits (rw (b, d) at s.suits);
            rest = s.rest ∙ rw (b, d, sign-is, magnitude-is, last) (simp append_assoc);
          })
