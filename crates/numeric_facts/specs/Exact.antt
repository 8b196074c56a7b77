-- What is taken from numbers is exactly what the form says. Assumes nothing.
use Rattle.std.specs.Prelude.{ℕ, suc, ◌≤◌, ◌≡◌, refl, Bool, true, false, cond, List, [], ◌∷◌, ◌++◌, map, eqb, leb, ℤ, pos, negsuc}
use Rattle.std.proofs.Common.{sym, ap, ◌∙◌, subst, arith, leb-true, eqb-true}
use Rattle.base_facts.specs.Tests.{all, below, never}
use Rattle.numeric_spec.specs.Entry.{Entry, unsigned, entry_number, is_i32, Inside}
use Rattle.numeric_spec.specs.Payload.{unsigned_form, signed_form}
use Rattle.numeric_spec.specs.Take.{Taken, taken, not_there, Take, then_take, given, take_unsigned, take_signed, take_both, make1, variant}

-- ---- what is taken
value : {A : Type 0} → A → Taken A → A
value d (taken a zs) = a
value d not_there = d

rest : {A : Type 0} → Taken A → List ℤ
rest (taken a zs) = zs
rest not_there = []

pub taken_value : {A : Type 0} {a b : A} {xs ys : List ℤ} → taken a xs ≡ taken b ys → a ≡ b
unfolding value
taken_value {A} {a} e = ap (value a) e

pub taken_rest : {A : Type 0} {a b : A} {xs ys : List ℤ} → taken a xs ≡ taken b ys → xs ≡ ys
unfolding rest
taken_rest e = ap rest e

is_taken : {A : Type 0} → Taken A → Bool
is_taken (taken a zs) = true
is_taken not_there = false

pub not_taken : {A : Type 0} {a : A} {zs : List ℤ} {P : Type 0} → not_there ≡ taken a zs → P
unfolding is_taken
not_taken e = never (ap is_taken e)

-- ---- entries, one after another
pub inside_both : (xs ys : List Entry) → Inside xs → Inside ys → Inside (xs ++ ys)
inside_both [] ys p q = q
inside_both (x ∷ xs) ys p q = (p.0, inside_both xs ys p.1 q)

pub inside-parts : (xs ys : List Entry) → Inside (xs ++ ys) → Inside xs × Inside ys
inside-parts [] ys p = (tt, p)
inside-parts (x ∷ xs) ys p = let r = inside-parts xs ys p.1 in ((p.0, r.0), r.1)

-- the numbers of entries, then zs
abbrev pub before : List Entry → List ℤ → List ℤ
before es zs = map entry_number es ++ zs

before-both : (xs ys : List Entry) (zs : List ℤ) → before (xs ++ ys) zs ≡ before xs (before ys zs)
before-both [] ys zs = refl
before-both (x ∷ xs) ys zs = ap (λ (t : List ℤ). entry_number x ∷ t) (before-both xs ys zs)

pub record Exact {A : Type 0} (form : A → List Entry) (t : Take A) : Type 0 where
  pub sound : (zs : List ℤ) (a : A) (end : List ℤ) → t zs ≡ taken a end → (zs ≡ before (form a) end) × Inside (form a)
  pub complete : (a : A) (end : List ℤ) → Inside (form a) → t (before (form a) end) ≡ taken a end

module _ {A B : Type 0} {f : A → List Entry} {g : B → List Entry} {t : Take A} {u : Take B} where
  -- one after another
  pub thence : Exact f t → Exact g u → Exact (λ (x : A × B). f x.0 ++ g x.1) (take_both t u)
  thence F G =
      record {
        sound = λ zs x end e. first zs x end (t zs) refl e;
        complete = λ x end i.
            let p = inside-parts (f x.0) (g x.1) i in
            rw (before-both (f x.0) (g x.1) end, F.complete x.0 (before (g x.1) end) p.0, G.complete x.1 end p.1);
      }
    where
      second : (zs mid end : List ℤ) (a : A) (x : A × B) (r : Taken B) → t zs ≡ taken a mid → u mid ≡ r → then_take r (λ b q. taken (a, b) q) ≡ taken x end
          → (zs ≡ before (f x.0 ++ g x.1) end) × Inside (f x.0 ++ g x.1)
      second zs mid end a x (taken b q) h k e =
          let v : (a, b) ≡ x = taken_value e in
          let w : q ≡ end = taken_rest e in
          let s = F.sound zs a mid h in
          let r = G.sound mid b q k in
          let i = inside_both (f a) (g b) s.1 r.1 in
          let z : zs ≡ before (f a ++ g b) end = s.0 ∙ ap (before (f a)) (r.0 ∙ ap (before (g b)) w) ∙ sym (before-both (f a) (g b) end) in
          (z ∙ ap (λ (y : A × B). before (f y.0 ++ g y.1) end) v, subst (λ (y : A × B). Inside (f y.0 ++ g y.1)) v i)
      second zs mid end a x not_there h k e = not_taken e

      first : (zs : List ℤ) (x : A × B) (end : List ℤ) (r : Taken A) → t zs ≡ r → then_take r (λ a q. then_take (u q) (λ b p. taken (a, b) p)) ≡ taken x end
          → (zs ≡ before (f x.0 ++ g x.1) end) × Inside (f x.0 ++ g x.1)
      first zs x end (taken a mid) h e = second zs mid end a x (u mid) h refl e
      first zs x end not_there h e = not_taken e

-- ---- numbers
pub unsigned_exact : (top : ℕ) → Exact (unsigned_form top) (take_unsigned top)
unfolding take_unsigned
unsigned_exact top = record { sound = there; complete = λ n end i. rw i.0 }
  where
    bounded : (n : ℕ) (zs : List ℤ) (m : ℕ) (end : List ℤ) (b : Bool) → leb n top ≡ b → cond b (taken n zs) not_there ≡ taken m end
        → (pos n ∷ zs ≡ before (unsigned_form top m) end) × Inside (unsigned_form top m)
    bounded n zs m end true h e = ((λ i. pos (taken_value e i) ∷ taken_rest e i), (rw (taken_value e) at h, tt))
    bounded n zs m end false h e = not_taken e

    there : (zs : List ℤ) (m : ℕ) (end : List ℤ) → take_unsigned top zs ≡ taken m end → (zs ≡ before (unsigned_form top m) end) × Inside (unsigned_form top m)
    there [] m end e = not_taken e
    there (pos n ∷ zs) m end e = bounded n zs m end (leb n top) refl e
    there (negsuc n ∷ zs) m end e = not_taken e

pub signed_exact : Exact signed_form take_signed
unfolding take_signed
signed_exact = record { sound = there; complete = λ z end i. rw i.0 }
  where
    bounded : (z : ℤ) (zs : List ℤ) (y : ℤ) (end : List ℤ) (b : Bool) → is_i32 z ≡ b → cond b (taken z zs) not_there ≡ taken y end
        → (z ∷ zs ≡ before (signed_form y) end) × Inside (signed_form y)
    bounded z zs y end true h e = ((λ i. taken_value e i ∷ taken_rest e i), (rw (taken_value e) at h, tt))
    bounded z zs y end false h e = not_taken e

    there : (zs : List ℤ) (y : ℤ) (end : List ℤ) → take_signed zs ≡ taken y end → (zs ≡ before (signed_form y) end) × Inside (signed_form y)
    there [] y end e = not_taken e
    there (z ∷ zs) y end e = bounded z zs y end (is_i32 z) refl e

-- ---- what is made of a value
module _ {A B : Type 0} {f : A → List Entry} {t : Take A} (make : A → B) (payload : B → List Entry) (good : B → Type 0) where
  pub made_sound : Exact f t → ((a : A) → payload (make a) ≡ f a) → ((a : A) → good (make a))
      → (zs : List ℤ) (b : B) (end : List ℤ) → make1 make t zs ≡ taken b end → (zs ≡ before (payload b) end) × Inside (payload b) × good b
  made_sound F same g zs b end e = go (t zs) refl e
    where
      go : (r : Taken A) → t zs ≡ r → then_take r (λ a q. taken (make a) q) ≡ taken b end → (zs ≡ before (payload b) end) × Inside (payload b) × good b
      go (taken a q) h e =
          let s = F.sound zs a q h in
          let v : make a ≡ b = taken_value e in
          let z : zs ≡ before (payload (make a)) end = s.0 ∙ (λ i. before (sym (same a) i) (taken_rest e i)) in
          let i : Inside (payload (make a)) = rw (same a) s.1 in
          (z ∙ ap (λ (y : B). before (payload y) end) v, rw v at i, rw v at (g a))
      go not_there h e = not_taken e

pub made_back : {A B : Type 0} {f : A → List Entry} {t : Take A} (make : A → B) → Exact f t → (a : A) (end : List ℤ) → Inside (f a) → make1 make t (before (f a) end) ≡ taken (make a) end
made_back make F a end i = rw (F.complete a end i)

-- a variant without payload
pub given_sound : {A : Type 0} (a : A) (payload : A → List Entry) (good : A → Type 0) → payload a ≡ [] → good a
    → (zs : List ℤ) (x : A) (end : List ℤ) → given a zs ≡ taken x end → (zs ≡ before (payload x) end) × Inside (payload x) × good x
given_sound {A = A} a payload good n g zs x end e =
    let v : a ≡ x = taken_value e in
    let i : Inside (payload a) = rw n tt in
    (taken_rest e ∙ (λ i. before (sym n i) end) ∙ ap (λ (y : A). before (payload y) end) v, rw v at i, rw v at g)

-- an enum without payload: its places and its variants are each other's, the first by a computed test
module _ {A : Type 0} (top : ℕ) (of : ℕ → A) (place : A → ℕ) (test : all (λ v. eqb (place (of v)) v) (suc top) ≡ true) (back : (x : A) → of (place x) ≡ x) where
  pub named : Exact (λ (x : A). unsigned_form top (place x)) (make1 of (take_unsigned top))
  named =
      record {
        sound = λ zs x end e. go zs x end (take_unsigned top zs) refl e;
        complete = λ x end i. made_back of (unsigned_exact top) (place x) end i ∙ ap (λ (y : A). taken y end) (back x);
      }
    where
      go : (zs : List ℤ) (x : A) (end : List ℤ) (r : Taken ℕ) → take_unsigned top zs ≡ r → then_take r (λ n q. taken (of n) q) ≡ taken x end
          → (zs ≡ before (unsigned_form top (place x)) end) × Inside (unsigned_form top (place x))
      go zs x end (taken n q) h e =
          let s = (unsigned_exact top).sound zs n q h in
          let p : place (of n) ≡ n = eqb-true (place (of n)) n (below (λ w. eqb (place (of w)) w) (suc top) test n (omega (arith, leb-true n top s.1.0))) in
          let v : n ≡ place x = sym p ∙ ap place (taken_value e) in
          (s.0 ∙ (λ i. before (unsigned_form top (v i)) (taken_rest e i)), rw v at s.1)
      go zs x end not_there h e = not_taken e

-- an enum with payload: the variant's place, then the payload
module _ {A : Type 0} (top : ℕ) (place : A → ℕ) (payload : A → List Entry) (f : ℕ → Take A)
    (there : (p : ℕ) → p ≤ top → (zs : List ℤ) (x : A) (end : List ℤ) → f p zs ≡ taken x end → (zs ≡ before (payload x) end) × Inside (payload x) × (place x ≡ p))
    (back : (x : A) (end : List ℤ) → Inside (payload x) → f (place x) (before (payload x) end) ≡ taken x end) where
  pub chosen : Exact (λ (x : A). unsigned top (place x) ∷ payload x) (variant top f)
  chosen =
      record {
        sound = λ zs x end e. go zs x end (take_unsigned top zs) refl e;
        complete = λ x end i. rw ((unsigned_exact top).complete (place x) (before (payload x) end) (i.0, tt)) (back x end i.1);
      }
    where
      go : (zs : List ℤ) (x : A) (end : List ℤ) (r : Taken ℕ) → take_unsigned top zs ≡ r → then_take r f ≡ taken x end
          → (zs ≡ before (unsigned top (place x) ∷ payload x) end) × Inside (unsigned top (place x) ∷ payload x)
      go zs x end (taken n q) h e =
          let s = (unsigned_exact top).sound zs n q h in
          let r = there n (leb-true n top s.1.0) q x end e in
          (s.0 ∙ (λ i. pos (sym r.2 i) ∷ r.0 i), (rw r.2 s.1.0, r.1))
      go zs x end not_there h e = not_taken e
