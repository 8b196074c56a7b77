-- The tokens of an instruction are its line, where its branch lands and the lines are where they are said to be. Assumes nothing.
use Prim.Native.Nat.{ℕ, zero, suc, ◌<◌}
use Rattle.std.specs.Prelude.{◌≡◌, refl, Bool, true, false, ◌&&◌, ◌⊎◌, get_or, pos, negsuc}
use Rattle.std.proofs.Common.{sym, ◌∙◌, inl, inr, arith, length-append}
use Rattle.std.proofs.Math.Path.{ap, subst}
use mathlib.Core.List.{List, [], ◌∷◌, ◌++◌, map, append-nil, append_assoc}
use Rattle.std.proofs.Math.Option
use Rattle.std.proofs.Math.Option.{Option, none, some}
use Rattle.std.proofs.Math.ListN.{length, length-map}
use Rattle.isa.specs.declared.RegisterOperand.TheVariants.{Address, Data}
use Rattle.isa.specs.declared.BranchOperation.TheVariants.{BRA, BSR}
use Rattle.isa.specs.declared.Instruction.{Instruction}
use Rattle.isa.specs.declared.Instruction.TheVariants.{IntoRegister, MOVEM, Transfer, Pair, Quick, MOVEQ, ImmediateInto, WordIntoData, SWAP, EXG, UnsizedIntoRegister, UnsizedOne, UnsizedPair, EXT, OneOperand, Bcc, Scc, DBcc, Branch, Link, UNLK, Shift, Vector, Status, ConditionCode, MOVEUSP, Raw, NoOperand, RTD, MOVEC, TRAPcc, MULL, Pack, CAS, CAS2, BF, DIVL}
use Rattle.isa_spec.specs.Ordinary.{Ordinary}
use Rattle.encode_spec.specs.Encode.{size_of}
use Rattle.numeric_spec.specs.Entry.{Entry, unsigned, signed, entry_number, Inside}
use Rattle.numeric_spec.specs.Payload.{long_form, condition_form, branch_size_form}
use Rattle.numeric_spec.specs.Form.{place_of, payload_of, form_of, numbers_of}
use Rattle.sheet_spec.specs.declared.Kind.{Kind}
use Rattle.sheet_spec.specs.declared.Kind.TheVariants as kind
use Rattle.sheet_spec.specs.Grammar.{operand_kinds, kinds_of}
use Rattle.sheet_spec.specs.Line.{Token, literal, label, invalid, by_kind, says}
use Rattle.sheet_spec.specs.Spell.{next_kinds, SuitAll}
use Rattle.sheet_spec.specs.Made.{number_as, is_some, resolves, resolves_all, Line, made}
use Rattle.sheet_spec.specs.Follow.{next_of}
use Rattle.sheet_spec.specs.Told.{Mark, numbered, labelled, unmarked, field, fields_by, saying, unaimed}
use Rattle.sheet_spec.specs.Sheet.{sized_as}
use Rattle.sheet_size_facts.specs.Turned.{every, given, Bounded}
use Rattle.sheet_size_facts.specs.Made.{line_size}
use Rattle.sheet_size_facts.specs.Says.{entries}
use Rattle.sheet_size_facts.specs.Rows.{row}
use Rattle.sheet_form_laws.specs.EveryLine.{fitted, every_line}
use Rattle.base_facts.specs.Tests.{and-true, true_and, never}
use Rattle.unsheet_spec.specs.Text.{as_literal, target_or, as_target, token_for, tokens_from, tokens_of}
use Rattle.unsheet_spec.specs.Unsheet.{goes_to_line}

-- ---- kinds that no target follows
abbrev free : Kind → Bool
free kind.Number = true
free kind.Target = false
free kind.Place = true
free kind.Size = true
free kind.TargetDirection = true
free kind.RegisterOperand = true
free kind.AddressWidth = true
free kind.Condition = true
free kind.BranchSize = true
free kind.ShiftDirection = true
free kind.Sign = true
free kind.BitFieldOperation = true
free kind.FieldValue = true
free kind.TrapOperand = true
free kind.RegisterChoice = true
free kind.Operand = true
free kind.Instruction = false

abbrev all_free : List Kind → Bool
all_free [] = true
all_free (k ∷ ks) = free k && all_free ks

abbrev all_rows : List (List Kind) → Bool
all_rows [] = true
all_rows (r ∷ rs) = all_free r && all_rows rs

free-both : (js ks : List Kind) → all_free js ≡ true → all_free ks ≡ true → all_free (js ++ ks) ≡ true
free-both [] ks h g = g
free-both (j ∷ js) ks h g = let p = and-true (free j) (all_free js) h in true_and (free j) (all_free (js ++ ks)) p.0 (free-both js ks p.1 g)

free_at : (rows : List (List Kind)) (n : ℕ) → all_rows rows ≡ true → all_free (get_or rows n []) ≡ true
free_at [] n h = refl
free_at (r ∷ rs) zero h = (and-true (all_free r) (all_rows rs) h).0
free_at (r ∷ rs) (suc n) h = free_at rs n (and-true (all_free r) (all_rows rs) h).1

kinds-free : (k : Kind) (n : ℕ) → free k ≡ true → all_free (kinds_of k n) ≡ true
kinds-free kind.Number n h = refl
kinds-free kind.Target n h = refl
kinds-free kind.Place n h = refl
kinds-free kind.Size n h = refl
kinds-free kind.TargetDirection n h = refl
kinds-free kind.RegisterOperand n h = refl
kinds-free kind.AddressWidth n h = refl
kinds-free kind.Condition n h = refl
kinds-free kind.BranchSize n h = refl
kinds-free kind.ShiftDirection n h = refl
kinds-free kind.Sign n h = refl
kinds-free kind.BitFieldOperation n h = refl
kinds-free kind.FieldValue n h = refl
kinds-free kind.TrapOperand n h = free_at ([] ∷ (kind.Number ∷ []) ∷ (kind.Number ∷ []) ∷ []) n refl
kinds-free kind.RegisterChoice n h = free_at ([] ∷ (kind.Number ∷ []) ∷ []) n refl
kinds-free kind.Operand n h = free_at operand_kinds n refl
kinds-free kind.Instruction n h = never h

next_free : (k : Kind) (v : Token) → free k ≡ true → all_free (next_kinds k v) ≡ true
next_free k (literal s n) h = kinds-free k n h
next_free k (label n) h = refl
next_free k invalid h = refl

-- ---- every branch's target lands
abbrev Landing : (ℕ → Option ℕ) → Entry → Type 0
Landing lands (unsigned top t) = is_some (lands t) ≡ true
Landing lands (signed z) = ⊥

abbrev LandingAt : (ℕ → Option ℕ) → Kind → Entry → Type 0
LandingAt lands k e = by_kind k (Unit {0}) (Landing lands e) (Unit {0}) (Unit {0})

abbrev LandAll : (ℕ → Option ℕ) → List Kind → List Entry → Type 0
LandAll lands ks [] = Unit {0}
LandAll lands [] (e ∷ es) = Unit {0}
LandAll lands (k ∷ ks) (e ∷ es) = LandingAt lands k e × LandAll lands (next_kinds k (token_for lands k e) ++ ks) es

free_lands : (lands : ℕ → Option ℕ) (k : Kind) (e : Entry) → free k ≡ true → LandingAt lands k e
free_lands lands k e = elim k as (λ k. free k ≡ true → LandingAt lands k e) [ kind.Number ↦ λ h. tt | kind.Target ↦ λ h. never h | kind.Place ↦ λ h. tt | kind.Size ↦ λ h. tt | kind.TargetDirection ↦ λ h. tt | kind.RegisterOperand ↦ λ h. tt | kind.AddressWidth ↦ λ h. tt | kind.Condition ↦ λ h. tt | kind.BranchSize ↦ λ h. tt | kind.ShiftDirection ↦ λ h. tt | kind.Sign ↦ λ h. tt | kind.BitFieldOperation ↦ λ h. tt | kind.FieldValue ↦ λ h. tt | kind.TrapOperand ↦ λ h. tt | kind.RegisterChoice ↦ λ h. tt | kind.Operand ↦ λ h. tt | kind.Instruction ↦ λ h. tt ]

all_free_land : (lands : ℕ → Option ℕ) (ks : List Kind) (es : List Entry) → all_free ks ≡ true → LandAll lands ks es
all_free_land lands ks [] h = tt
all_free_land lands [] (e ∷ es) h = tt
all_free_land lands (k ∷ ks) (e ∷ es) h =
    let p = and-true (free k) (all_free ks) h in
    (free_lands lands k e p.0, all_free_land lands (next_kinds k (token_for lands k e) ++ ks) es (free-both (next_kinds k (token_for lands k e)) ks (next_free k (token_for lands k e) p.0) p.1))

-- a target that lands, in front of other entries
target_next : (o : Option ℕ) (t : ℕ) → next_kinds kind.Target (target_or o t) ≡ []
target_next none t = refl
target_next (some n) t = refl

target_land : (lands : ℕ → Option ℕ) (t : ℕ) (ks : List Kind) (es : List Entry) → is_some (lands t) ≡ true → LandAll lands ks es → LandAll lands (kind.Target ∷ ks) (long_form t ++ es)
target_land lands t ks es h g = (h, subst (λ (js : List Kind). LandAll lands (js ++ ks) es) (sym (target_next (lands t) t)) g)

-- either no field of an instruction is a target, or it is a branch
abbrev Branching : Instruction → Type 0
Branching i = (all_free (row {d = λ k. true} i).sort.kinds ≡ true) ⊎ ((lands : ℕ → Option ℕ) → goes_to_line lands (next_of i) ≡ true → LandAll lands (kind.Instruction ∷ []) (entries i))

branching : (i : Instruction) → Branching i
branching (IntoRegister op o r s) = inl refl
branching (MOVEM d s v o) = inl refl
branching (Transfer op d s r o) = inl refl
branching (Pair op o d s) = inl refl
branching (Quick op v o s) = inl refl
branching (MOVEQ v r) = inl refl
branching (ImmediateInto op v o s) = inl refl
branching (WordIntoData op o r g) = inl refl
branching (SWAP r) = inl refl
branching (EXG r q) = inl refl
branching (UnsizedIntoRegister op o r) = inl refl
branching (UnsizedOne op o) = inl refl
branching (UnsizedPair op o d) = inl refl
branching (EXT r s q) = inl refl
branching (OneOperand op o s) = inl refl
branching (Bcc t c s) = inr (λ lands g. (tt, target_land lands t (kind.Condition ∷ kind.BranchSize ∷ []) (condition_form c ++ branch_size_form s) g (tt, (tt, tt))))
branching (Scc o c) = inl refl
branching (DBcc (Address n) t c) = inr (λ lands g. (tt, (tt, (tt, target_land lands t (kind.Condition ∷ []) (condition_form c) g (tt, tt)))))
branching (DBcc (Data n) t c) = inr (λ lands g. (tt, (tt, (tt, target_land lands t (kind.Condition ∷ []) (condition_form c) g (tt, tt)))))
branching (Branch BRA t s) = inr (λ lands g. (tt, target_land lands t (kind.BranchSize ∷ []) (branch_size_form s) g (tt, tt)))
branching (Branch BSR t s) = inr (λ lands g. (tt, target_land lands t (kind.BranchSize ∷ []) (branch_size_form s) g (tt, tt)))
branching (Link op r v) = inl refl
branching (UNLK r) = inl refl
branching (Shift op o d g s) = inl refl
branching (Vector op v) = inl refl
branching (Status op v) = inl refl
branching (ConditionCode op v) = inl refl
branching (MOVEUSP b r) = inl refl
branching (Raw op v) = inl refl
branching (NoOperand op) = inl refl
branching (RTD v) = inl refl
branching (MOVEC b v r) = inl refl
branching (TRAPcc c x) = inl refl
branching (MULL o v c g) = inl refl
branching (Pack op o d v) = inl refl
branching (CAS c v o s) = inl refl
branching (CAS2 c d u v p q s) = inl refl
branching (BF p o f n) = inl refl
branching (DIVL o q r b g) = inl refl

instruction_land : (lands : ℕ → Option ℕ) (i : Instruction) → Ordinary i → goes_to_line lands (next_of i) ≡ true → LandAll lands (kind.Instruction ∷ []) (entries i)
instruction_land lands i l g = go (branching i)
  where
    go : Branching i → LandAll lands (kind.Instruction ∷ []) (entries i)
    go (inl h) =
        let r = row {d = λ k. true} i in
        let n : kinds_of kind.Instruction (place_of (r.con r.z)) ≡ r.sort.kinds = ap (λ t. t.1) (r.law (subst Ordinary (sym r.is) l) r.z) in
        let f : all_free (kinds_of kind.Instruction (place_of i)) ≡ true = sym (ap (λ (j : Instruction). all_free (kinds_of kind.Instruction (place_of j))) r.is) ∙ ap all_free n ∙ h in
        (tt, all_free_land lands (kinds_of kind.Instruction (place_of i) ++ []) (payload_of i) (free-both (kinds_of kind.Instruction (place_of i)) [] f refl))
    go (inr h) = h lands g

-- ---- what is said is what a line for the instruction says, each target marked by where it lands
abbrev mark_by : Option ℕ → Mark
mark_by none = numbered 0
mark_by (some n) = labelled n

abbrev mark_of : (ℕ → Option ℕ) → Entry → Mark
mark_of lands (unsigned top t) = mark_by (lands t)
mark_of lands (signed z) = numbered 0

abbrev marks : (ℕ → Option ℕ) → List Entry → ℕ → Mark
marks lands [] j = numbered 0
marks lands (e ∷ es) zero = mark_of lands e
marks lands (e ∷ es) (suc j) = marks lands es j

literal_said : (e : Entry) → as_literal e ≡ (unmarked e).0
literal_said (unsigned top n) = refl
literal_said (signed (pos n)) = refl
literal_said (signed (negsuc n)) = refl

target_said : (lands : ℕ → Option ℕ) (e : Entry) → Landing lands e → as_target lands e ≡ (field kind.Target (mark_of lands e) e).0
target_said lands (unsigned top t) h = go (lands t) h
  where
    go : (o : Option ℕ) → is_some o ≡ true → target_or o t ≡ (field kind.Target (mark_by o) (unsigned top t)).0
    go none h = never h
    go (some n) h = refl
target_said lands (signed z) h = absurd h

place_said : (lands : ℕ → Option ℕ) (e : Entry) → as_target lands e ≡ (field kind.Place (mark_of lands e) e).0
place_said lands (unsigned top t) = go (lands t)
  where
    go : (o : Option ℕ) → target_or o t ≡ (field kind.Place (mark_by o) (unsigned top t)).0
    go none = refl
    go (some n) = refl
place_said lands (signed z) = literal_said (signed z)

token_said : (lands : ℕ → Option ℕ) (k : Kind) (e : Entry) → LandingAt lands k e → token_for lands k e ≡ (field k (mark_of lands e) e).0
token_said lands k e =
    let l = literal_said e in
    elim k as (λ k. LandingAt lands k e → token_for lands k e ≡ (field k (mark_of lands e) e).0) [ kind.Number ↦ λ h. l | kind.Target ↦ λ h. target_said lands e h | kind.Place ↦ λ h. place_said lands e | kind.Size ↦ λ h. l | kind.TargetDirection ↦ λ h. l | kind.RegisterOperand ↦ λ h. l | kind.AddressWidth ↦ λ h. l | kind.Condition ↦ λ h. l | kind.BranchSize ↦ λ h. l | kind.ShiftDirection ↦ λ h. l | kind.Sign ↦ λ h. l | kind.BitFieldOperation ↦ λ h. l | kind.FieldValue ↦ λ h. l | kind.TrapOperand ↦ λ h. l | kind.RegisterChoice ↦ λ h. l | kind.Operand ↦ λ h. l | kind.Instruction ↦ λ h. l ]

tokens_said : (lands : ℕ → Option ℕ) (ks : List Kind) (es : List Entry) → LandAll lands ks es → tokens_from lands ks es ≡ saying (marks lands es) ks es
tokens_said lands ks [] h = refl
tokens_said lands [] (e ∷ es) h = refl
tokens_said lands (k ∷ ks) (e ∷ es) h =
    let q = token_said lands k e h.0 in
    (λ i. q i ∷ tokens_said lands (next_kinds k (token_for lands k e) ++ ks) es h.1 i)
    ∙ ap (λ (v : Token). (field k (mark_of lands e) e).0 ∷ saying (marks lands es) (next_kinds k v ++ ks) es) q

-- ---- the kinds do not run out before the entries
no_kinds : (m : ℕ → Mark) (es : List Entry) → fields_by m [] es ≡ []
no_kinds m [] = refl
no_kinds m (e ∷ es) = refl

number_next : (e : Entry) → next_kinds kind.Number (unmarked e).0 ≡ []
number_next (unsigned top n) = refl
number_next (signed (pos n)) = refl
number_next (signed (negsuc n)) = refl

abbrev Counted : (ℕ → Mark) → List Kind → List Entry → ℕ
Counted m ks es = length (fields_by m ks es)

-- a number after the last kind, which takes one entry
one_more : (m : ℕ → Mark) (x : Entry) (es : List Entry) → Counted m (kind.Number ∷ []) (x ∷ es) ≡ 1
one_more m x es = ap (λ (js : List Kind). suc (length (fields_by (λ n. m (suc n)) (js ++ []) es))) (number_next x) ∙ ap (λ (l : List (Token × Entry)). suc (length l)) (no_kinds (λ n. m (suc n)) es)

-- where it takes the entry behind others, the kinds before it took all of these
enough : (m : ℕ → Mark) (ks : List Kind) (es : List Entry) (e : Entry) → Counted m (ks ++ (kind.Number ∷ [])) es < Counted m (ks ++ (kind.Number ∷ [])) (es ++ (e ∷ [])) → Counted m ks es ≡ length es
enough m ks [] e h = refl
enough m [] (x ∷ es) e h = absurd (omega (arith, h, one_more m x es, one_more m x (es ++ (e ∷ []))))
enough m (k ∷ ks) (x ∷ es) e h =
    let js = next_kinds k (field k (m 0) x).0 in
    let a = append_assoc js ks (kind.Number ∷ []) in
    ap suc (enough (λ n. m (suc n)) (js ++ ks) es e (rw a (omega arith)))

instruction_enough : (i : Instruction) → Ordinary i → (m : ℕ → Mark) → Counted m (kind.Instruction ∷ []) (entries i) ≡ length (entries i)
instruction_enough i l m =
    let ks : List Kind = kind.Instruction ∷ kind.Number ∷ [] in
    let f = fitted i l m (kind.Number ∷ []) in
    let e : List Entry = unsigned 0 0 ∷ [] in
    let n : (es : List Entry) → length (unaimed m ks es) ≡ Counted m ks es = λ es. length-map (fields_by m ks es) (λ w. w.1) in
    let a : length (unaimed m ks (entries i ++ [])) ≡ length (entries f.untargeted ++ []) = ap length (f.leaves []) in
    let b : length (unaimed m ks (entries i ++ e)) ≡ length (entries f.untargeted ++ e) = ap length (f.leaves e) in
    let c : Counted m ks (entries i ++ []) ≡ Counted m ks (entries i) = ap (Counted m ks) (append-nil (entries i)) in
    enough m (kind.Instruction ∷ []) (entries i) (unsigned 0 0)
    (omega (arith, n (entries i ++ []), n (entries i ++ e), a, b, c, length-append (entries f.untargeted) [], length-append (entries f.untargeted) e))

-- ---- the numbers that are said, each label made the address of its line
module _ (lands f : ℕ → Option ℕ) (agree : (t k : ℕ) → lands t ≡ some k → f k ≡ some t) where
  abbrev Right : Entry → Token → Type 0
  Right e v = (number_as f v ≡ entry_number e) × (resolves f v ≡ true)

  literal_right : (e : Entry) → Right e (as_literal e)
  literal_right (unsigned top n) = (refl, refl)
  literal_right (signed (pos n)) = (refl, refl)
  literal_right (signed (negsuc n)) = (refl, refl)

  target_right : (e : Entry) → Right e (as_target lands e)
  target_right (unsigned top t) = go (lands t) refl
    where
      go : (o : Option ℕ) → lands t ≡ o → Right (unsigned top t) (target_or o t)
      go none e = (refl, refl)
      go (some k) e = let q = agree t k e in (ap (λ (o : Option ℕ). pos (Option.get_or o 0)) q, ap is_some q)
  target_right (signed z) = literal_right (signed z)

  token_right : (k : Kind) (e : Entry) → Right e (token_for lands k e)
  token_right k e =
      let l = literal_right e in
      let t = target_right e in
      elim k as (λ k. Right e (token_for lands k e)) [ kind.Number ↦ l | kind.Target ↦ t | kind.Place ↦ t | kind.Size ↦ l | kind.TargetDirection ↦ l | kind.RegisterOperand ↦ l | kind.AddressWidth ↦ l | kind.Condition ↦ l | kind.BranchSize ↦ l | kind.ShiftDirection ↦ l | kind.Sign ↦ l | kind.BitFieldOperation ↦ l | kind.FieldValue ↦ l | kind.TrapOperand ↦ l | kind.RegisterChoice ↦ l | kind.Operand ↦ l | kind.Instruction ↦ l ]

  all_resolve : (ks : List Kind) (es : List Entry) → resolves_all f (tokens_from lands ks es) ≡ true
  all_resolve ks [] = refl
  all_resolve [] (e ∷ es) = refl
  all_resolve (k ∷ ks) (e ∷ es) = true_and (resolves f (token_for lands k e)) _ (token_right k e).1 (all_resolve (next_kinds k (token_for lands k e) ++ ks) es)

  all_numbers_lem : (ks : List Kind) (es : List Entry) → length (tokens_from lands ks es) ≡ length es → map (number_as f) (tokens_from lands ks es) ≡ map entry_number es
  all_numbers_lem ks [] h = refl
  all_numbers_lem [] (e ∷ es) h = absurd (omega arith)
  all_numbers_lem (k ∷ ks) (e ∷ es) h = λ i. (token_right k e).0 i ∷ all_numbers_lem (next_kinds k (token_for lands k e) ++ ks) es (omega arith) i

  pub tokens_line : (i : Instruction) → Ordinary i → Inside (form_of i) → goes_to_line lands (next_of i) ≡ true → Line f (tokens_of lands i) i
  unfolding tokens_of form_of numbers_of
  tokens_line i l h g =
      let ks : List Kind = kind.Instruction ∷ [] in
      let m : ℕ → Mark = marks lands (entries i) in
      let q : tokens_from lands ks (entries i) ≡ saying m ks (entries i) = tokens_said lands ks (entries i) (instruction_land lands i l g) in
      let n : length (tokens_from lands ks (entries i)) ≡ length (entries i) = ap length q ∙ length-map (fields_by m ks (entries i)) (λ w. w.0) ∙ instruction_enough i l m in
      record {
        grammar = subst (SuitAll ks) (sym q) (every_line m i l h).line.grammar;
        labels = all_resolve ks (entries i);
        numbers = all_numbers_lem ks (entries i) n;
        inside = h;
      }

-- the size of the line, measured with every label as 0, is the instruction's
pub tokens_size : (lands : ℕ → Option ℕ) (d : ℕ → Bool) (g : ℕ → ℕ) → Bounded d g → ((t k : ℕ) → lands t ≡ some k → given d g k ≡ some t)
    → (i : Instruction) → Ordinary i → Inside (form_of i) → goes_to_line lands (next_of i) ≡ true → sized_as (made (given d (λ k. 0)) (says (tokens_of lands i))) ≡ size_of i
unfolding tokens_of form_of
tokens_size lands d g b agree i l h e =
    let m : ℕ → Mark = marks lands (entries i) in
    let t = every_line m i l h in
    let q : saying m (kind.Instruction ∷ []) (entries i) ≡ tokens_of lands i = sym (tokens_said lands (kind.Instruction ∷ []) (entries i) (instruction_land lands i l e)) in
    line_size d g b (tokens_of lands i) t.untargeted i (subst (λ (vs : List Token). Line (every (λ k. 0)) vs t.untargeted) q t.line) (tokens_line lands (given d g) agree i l h e)
