-- Sorts of values in a line: their form, the kinds of its fields, what they make whatever labels are made, and their line whatever their targets name.
use Rattle.std.specs.Prelude.{ℕ, suc, ◌-◌, ◌^◌, ◌≡◌, refl, Bool, true, false, cond, ◌&&◌, List, [], ◌∷◌, ◌++◌, map, leb, ltb, length, get_or, ℤ, pos, negsuc}
use Rattle.std.proofs.Common.{sym, ap, ap₂, ◌∙◌, append_assoc, arith, le-leb, leb-true, ltb-true}
use Rattle.std.proofs.lemmas.Bool.{false≢true}
use Rattle.std.proofs.Math.Option as option
use Rattle.std.proofs.Math.Option.{some}
use Rattle.numeric_spec.specs.Entry.{Entry, unsigned, signed, inside, Inside}
use Rattle.numeric_spec.specs.Payload.{long_form}
use Rattle.sheet_spec.specs.declared.Kind.{Kind}
use Rattle.sheet_spec.specs.declared.Kind.TheVariants as kind
use Rattle.sheet_spec.specs.Names.{bytes, names_of}
use Rattle.sheet_spec.specs.Grammar.{kinds_of}
use Rattle.sheet_spec.specs.Line.{Token, literal, label, invalid}
use Rattle.sheet_spec.specs.Spell.{Suits, Variant, next_kinds}
use Rattle.sheet_spec.specs.Made.{number_as, is_some, resolves, resolves_all}
use Rattle.sheet_size_facts.specs.Turned.{every, given, Input, Turned, Turn, head_is, tail_is}
use Rattle.numeric_facts.specs.Exact.{inside_both, inside-parts}
use Rattle.sheet_size_facts.specs.Fitting.{Fitting}
use Rattle.sheet_spec.specs.Told.{Mark, numbered, labelled, field, unaimed}
use Rattle.base_facts.specs.Tests.{and-true, below, all}

-- what is known of their targets is in Aims
pub record Sort (d : ℕ → Bool) (X : Type 0) : Type 1 where
  pub form : X → List Entry
  pub kinds : List Kind
  pub untargeted : X → X
  pub Aims : ((ℕ → ℕ) → X) → Type 0
  pub turn : (x : X) → Turn d form kinds untargeted Aims x
  pub fitting : (x : X) (m : ℕ → Mark) (ks : List Kind) → Fitting form kinds x m ks

-- ---- no value, and one value after the other
abbrev pub none : {d : ℕ → Bool} → Sort d (Unit {0})
none = record {
  form = λ z. [];
  kinds = [];
  untargeted = λ z. z;
  Aims = λ y. Unit {0};
  turn = λ x ks vs es h i. record { rest = vs; left = h; made = λ f. tt; good = (λ f. refl, tt); spells = λ f b us q. q; stays = λ f b. tt };
  fitting = λ x m ks. record { untargeted = tt; next = m; leaves = λ es. refl; fits = λ es i h. h i };
}

pub both_turned : {d : ℕ → Bool} {X Y : Type 0} (s : Sort d X) (t : Sort d Y) (z : X × Y)
    → Turn d (λ w. s.form w.0 ++ t.form w.1) (s.kinds ++ t.kinds) (λ w. (s.untargeted w.0, t.untargeted w.1)) (λ y. s.Aims (λ f. (y f).0) × t.Aims (λ f. (y f).1)) z
both_turned s t z ks vs es h g =
    let i = inside-parts (s.form z.0) (t.form z.1) g in
    let a = s.turn z.0 (t.kinds ++ ks) vs (t.form z.1 ++ es) (simp append_assoc at h) i.0 in
    let b = t.turn z.1 ks a.rest es a.left i.1 in
    record {
      rest = b.rest;
      left = b.left;
      made = λ f. (a.made f, b.made f);
      good = (λ f j. (a.good.0 f j, b.good.0 f j), (a.good.1, b.good.1));
      spells = λ f k us q. rw (append_assoc (s.form (a.made f)) (t.form (b.made f)) us) (a.spells f k (t.form (b.made f) ++ us) (b.spells f k us q));
      stays = λ f k. inside_both (s.form (a.made f)) (t.form (b.made f)) (a.stays f k) (b.stays f k);
    }

infixl 60 ◌⊗◌
abbrev pub ◌⊗◌ : {d : ℕ → Bool} {X Y : Type 0} → Sort d X → Sort d Y → Sort d (X × Y)
s ⊗ t = record {
  form = λ z. s.form z.0 ++ t.form z.1;
  kinds = s.kinds ++ t.kinds;
  untargeted = λ z. (s.untargeted z.0, t.untargeted z.1);
  Aims = λ y. s.Aims (λ f. (y f).0) × t.Aims (λ f. (y f).1);
  turn = both_turned s t;
  fitting = λ z m ks.
      let a = s.fitting z.0 m (t.kinds ++ ks) in
      let b = t.fitting z.1 a.next ks in
      record {
        untargeted = (a.untargeted, b.untargeted);
        next = b.next;
        leaves = λ es.
            rw (append_assoc s.kinds t.kinds ks, append_assoc (s.form z.0) (t.form z.1) es, append_assoc (s.form a.untargeted) (t.form b.untargeted) (unaimed b.next ks es))
            (a.leaves (t.form z.1 ++ es) ∙ ap (λ l. s.form a.untargeted ++ l) (b.leaves es));
        fits = λ es. rw (append_assoc s.kinds t.kinds ks, append_assoc (s.form z.0) (t.form z.1) es) (λ i h. a.fits (t.form z.1 ++ es) i (λ j. b.fits es j h));
      };
}

-- ---- one field: a number or a variant without fields
same_number : (f : ℕ → ℕ) (b : Bool) (m : ℕ) → number_as (every f) (literal b m) ≡ number_as (every (λ k. 0)) (literal b m)
same_number f true m = refl
same_number f false m = refl

token_turned : {d : ℕ → Bool} {X : Type 0} {P : ((ℕ → ℕ) → X) → Type 0} (e : X → Entry) (x : X) → P (λ f. x) → (k : Kind) (b : Bool) (m : ℕ) → kinds_of k m ≡ [] → (ks : List Kind) (vs : List Token) (es : List Entry)
    → Input d (k ∷ ks) (literal b m ∷ vs) (e x ∷ es) → Inside (e x ∷ []) → Turned d X (λ z. e z ∷ []) P ks (literal b m ∷ vs) es
token_turned e x p k b m c ks vs es h i =
    record {
      rest = vs;
      left = record { fits = rw c at h.fits.1; labels = (and-true true (resolves_all _ vs) h.labels).1; zeros = tail_is h.zeros };
      made = λ f. x;
      good = p;
      spells = λ f l us q. ap₂ ◌∷◌ (same_number f b m ∙ head_is h.zeros) q;
      stays = λ f l. i;
    }

-- a kind whose fields say numbers that no fields follow
abbrev pub Simple : Kind → Type 0
Simple k = (m : ℕ) → (kinds_of k m ≡ []) × (Suits k (label m) → ⊥) × (Suits k invalid → ⊥)

pub plain_turned : {d : ℕ → Bool} {X : Type 0} (k : Kind) → Simple k → (e : X → Entry) (x : X) → Turn d (λ z. e z ∷ []) (k ∷ []) (λ z. z) (λ y. Unit {0}) x
plain_turned k s e x ks [] es h i = absurd h.fits
plain_turned k s e x ks (literal b m ∷ vs) es h i = token_turned e x (λ f. refl, tt) k b m (s m).0 ks vs es h i
plain_turned k s e x ks (label m ∷ vs) es h i = absurd ((s m).1 h.fits.0)
plain_turned k s e x ks (invalid ∷ vs) es h i = absurd ((s 0).2 h.fits.0)

-- its line, whatever a target in it names
pub one-fitting : {X : Type 0} (k : Kind) (e : X → Entry) (untargeted : Mark → X → X)
    → ((m : Mark) (x : X) → ((field k m (e x)).1 ≡ e (untargeted m x)) × (next_kinds k (field k m (e x)).0 ≡ []) × (inside (e x) ≡ true → Suits k (field k m (e x)).0))
    → (x : X) (m : ℕ → Mark) (ks : List Kind) → Fitting (λ z. e z ∷ []) (k ∷ []) x m ks
one-fitting k e untargeted law x m ks =
    let l = law (m 0) x in
    record { untargeted = untargeted (m 0) x; next = λ n. m (suc n); leaves = λ es. rw l.1 (λ i. l.0 i ∷ unaimed (λ n. m (suc n)) ks es); fits = λ es i h. rw l.1 (l.2 i.0, h i.1) }

abbrev pub number : {d : ℕ → Bool} {X : Type 0} (top : ℕ) → leb top (2 ^ 64 - 1) ≡ true → (X → ℕ) → Sort d X
number top t p = record {
  form = λ x. unsigned top (p x) ∷ [];
  kinds = kind.Number ∷ [];
  untargeted = λ x. x;
  Aims = λ y. Unit {0};
  turn = plain_turned kind.Number (λ m. (refl, λ h. h, λ h. h)) (λ x. unsigned top (p x));
  fitting = one-fitting kind.Number (λ x. unsigned top (p x)) (λ m x. x) (λ m x. (refl, refl, λ h. omega (arith, leb-true (p x) top h, leb-true top (2 ^ 64 - 1) t)));
}

abbrev pub integer : {d : ℕ → Bool} → Sort d ℤ
integer = record {
  form = λ z. signed z ∷ [];
  kinds = kind.Number ∷ [];
  untargeted = λ z. z;
  Aims = λ y. Unit {0};
  turn = plain_turned kind.Number (λ m. (refl, λ h. h, λ h. h)) signed;
  fitting = one-fitting kind.Number signed (λ m z. z)
      (λ m. elim [ pos n ↦ (refl, refl, λ h. omega (arith, ltb-true n (2 ^ 31) h)) | negsuc n ↦ (refl, refl, λ h. (omega arith, omega (arith, ltb-true n (2 ^ 31) h))) ]);
}

-- ---- a target, and a target in an operand, which may also be a number
abbrev pub Aimed : (ℕ → Bool) → ((ℕ → ℕ) → ℕ) → Type 0
Aimed d y = (m : ℕ) × (d m ≡ true) × ((f : ℕ → ℕ) → y f ≡ f m)

given_some : (b : Bool) (n : ℕ) → is_some (cond b (some n) option.none) ≡ true → b ≡ true
given_some true n e = refl
given_some false n e = absurd (false≢true e)

pub aim_turned : {d : ℕ → Bool} {A : ((ℕ → ℕ) → ℕ) → Type 0} (k : Kind) → ((m : ℕ) → kinds_of k m ≡ []) → (Suits k invalid → ⊥)
    → (x : ℕ) → ((b : Bool) (m : ℕ) → Suits k (literal b m) → A (λ f. x)) → ((m : ℕ) → Aimed d (λ f. f m) → A (λ f. f m)) → Turn d long_form (k ∷ []) (λ x. 0) A x
aim_turned k s t x p q ks [] es h i = absurd h.fits
aim_turned k s t x p q ks (literal b m ∷ vs) es h i = token_turned (λ z. unsigned (2 ^ 32 - 1) z) x (λ f. refl, p b m h.fits.0) k b m (s m) ks vs es h i
aim_turned {d} k s t x p q ks (label m ∷ vs) es h i =
    let g = and-true (resolves (given d (λ k. 0)) (label m)) (resolves_all (given d (λ k. 0)) vs) h.labels in
    let l = given_some (d m) 0 g.0 in
    record {
      rest = vs;
      left = record { fits = h.fits.1; labels = g.1; zeros = tail_is h.zeros };
      made = λ f. f m;
      good = (λ f. refl, q m (m, l, λ f. refl));
      spells = λ f b us e. ap (λ (zs : List ℤ). pos (f m) ∷ zs) e;
      stays = λ f b. (le-leb (f m) (2 ^ 32 - 1) (omega (arith, b m l)), tt);
    }
aim_turned k s t x p q ks (invalid ∷ vs) es h i = absurd (t h.fits.0)

abbrev pub target : {d : ℕ → Bool} → Sort d ℕ
target {d} = record {
  form = long_form;
  kinds = kind.Target ∷ [];
  untargeted = λ x. 0;
  Aims = Aimed d;
  turn = λ x. aim_turned kind.Target (λ m. refl) (λ h. h) x (λ b m h. absurd h) (λ m a. a);
  fitting = one-fitting kind.Target (λ t. unsigned (2 ^ 32 - 1) t) (λ m t. 0) (elim [ numbered n ↦ λ t. (refl, refl, λ h. tt) | labelled n ↦ λ t. (refl, refl, λ h. tt) ]);
}

abbrev pub place : {d : ℕ → Bool} → Sort d ℕ
place = record {
  form = long_form;
  kinds = kind.Place ∷ [];
  untargeted = λ x. 0;
  Aims = λ y. Unit {0};
  turn = λ x. aim_turned kind.Place (λ m. refl) (λ h. h) x (λ b m h. tt) (λ m a. tt);
  fitting = one-fitting kind.Place (λ t. unsigned (2 ^ 32 - 1) t) (λ m t. elim m [ numbered n ↦ t | labelled n ↦ 0 ])
      (elim [ numbered n ↦ λ t. (refl, refl, λ h. omega (arith, leb-true t (2 ^ 32 - 1) h)) | labelled n ↦ λ t. (refl, refl, λ h. tt) ]);
}

-- ---- a variant, by its name
abbrev pub is_named : Kind → ℕ → Bool
is_named k n = ltb n (length (names_of k)) && ltb 0 (length (get_or (map bytes (names_of k)) n []))

is-variant : (k : Kind) (n : ℕ) → is_named k n ≡ true → Variant k (literal false n)
is-variant k n e =
    let b = and-true (ltb n (length (names_of k))) (ltb 0 (length (get_or (map bytes (names_of k)) n []))) e in
    (ltb-true n (length (names_of k)) b.0, ltb-true 0 (length (get_or (map bytes (names_of k)) n [])) b.1)

-- a kind whose fields are names
abbrev pub Naming : Kind → Type 0
Naming k = (n : ℕ) → (Variant k (literal false n) → Suits k (literal false n)) × ((m : Mark) (top : ℕ) → field k m (unsigned top n) ≡ (literal false n, unsigned top n))

-- ---- a variant and its fields
pub chosen : {d : ℕ → Bool} {X Z : Type 0} {form : X → List Entry} {P : ((ℕ → ℕ) → X) → Type 0} (k : Kind) → ((v : Token) → Suits k v → Variant k v) → (top p : ℕ) (s : Sort d Z) (con : Z → X) (z : Z)
    → (Variant k (literal false p) → (kinds_of k p ≡ s.kinds) × ((w : Z) → form (con w) ≡ unsigned top p ∷ s.form w)
    × ((y : (ℕ → ℕ) → Z) → ((f : ℕ → ℕ) → s.untargeted (y f) ≡ s.untargeted z) → s.Aims y → P (λ f. con (y f))))
    → (ks : List Kind) (vs : List Token) (es : List Entry) → Input d (k ∷ ks) vs (unsigned top p ∷ (s.form z ++ es)) → Inside (unsigned top p ∷ s.form z) → Turned d X form P ks vs es
chosen k v top p s con z l ks [] es h i = absurd h.fits
chosen k v top p s con z l ks (literal true m ∷ vs) es h i = absurd (v (literal true m) h.fits.0)
chosen {d} k v top p s con z l ks (literal false m ∷ vs) es h i =
    let e = h.zeros in
    let q : m ≡ p = cc in
    let t = l (rw q at (v (literal false m) h.fits.0)) in
    let a = s.turn z ks vs es (record { fits = rw (q, t.0) at h.fits.1; labels = (and-true true (resolves_all (given d (λ k. 0)) vs) h.labels).1; zeros = tail_is e }) i.1 in
    record {
      rest = a.rest;
      left = a.left;
      made = λ f. con (a.made f);
      good = t.2 a.made a.good.0 a.good.1;
      spells = λ f b us r. rw (t.1 (a.made f)) (λ j. head_is e j ∷ a.spells f b us r j);
      stays = λ f b. rw (t.1 (a.made f)) (i.0, a.stays f b);
    }
chosen k v top p s con z l ks (label m ∷ vs) es h i = absurd (v (label m) h.fits.0)
chosen k v top p s con z l ks (invalid ∷ vs) es h i = absurd (v invalid h.fits.0)

-- an enum: its form, its kind and the place of its last variant, and a value without its targets
pub record Enum (X : Type 0) : Type 0 where
  pub form : X → List Entry
  pub kind : Kind
  pub suits : (v : Token) → Suits kind v → Variant kind v
  pub names : Naming kind
  pub top : ℕ
  pub untargeted : X → X

pub variant-fitting : {d : ℕ → Bool} {X Z : Type 0} (e : Enum X) (p : ℕ) → (leb p e.top ≡ true → is_named e.kind p ≡ true) → (s : Sort d Z) (con : Z → X)
    → ((w : Z) → ◌≡◌ {A = List Kind × List Entry} (kinds_of e.kind p, e.form (con w)) (s.kinds, unsigned e.top p ∷ s.form w))
    → (z : Z) (m : ℕ → Mark) (ks : List Kind) → Fitting e.form (e.kind ∷ []) (con z) m ks
variant-fitting {d} {X} {Z} e p t s con law z m ks =
    let a = s.fitting z (λ n. m (suc n)) ks in
    let n = (e.names p).1 (m 0) e.top in
    let l : (w : Z) → e.form (con w) ≡ unsigned e.top p ∷ s.form w = λ w. ap (λ t. t.1) (law w) in
    let q : kinds_of e.kind p ≡ s.kinds = ap (λ t. t.0) (law z) in
    record {
      untargeted = con a.untargeted;
      next = a.next;
      leaves = λ es. rw (l z, l a.untargeted, n, q) (ap (λ x. unsigned e.top p ∷ x) (a.leaves es));
      fits = λ es. rw (l z, n, q) (λ i h. ((e.names p).0 (is-variant e.kind p (t i.0)), a.fits es i.1 h));
    }

abbrev pub Variants : (d : ℕ → Bool) {X : Type 0} → Enum X → X → Type 0
Variants d e x = Turn d e.form (e.kind ∷ []) e.untargeted (λ y. Unit {0}) x × ((m : ℕ → Mark) (ks : List Kind) → Fitting e.form (e.kind ∷ []) x m ks)

pub variant : {d : ℕ → Bool} {X Z : Type 0} (e : Enum X) (p : ℕ) → (leb p e.top ≡ true → is_named e.kind p ≡ true) → (s : Sort d Z) (con : Z → X) (z : Z)
    → ((w : Z) → ◌≡◌ {A = List Kind × List Entry × X} (kinds_of e.kind p, e.form (con w), e.untargeted (con w)) (s.kinds, unsigned e.top p ∷ s.form w, con (s.untargeted w)))
    → Variants d e (con z)
variant {d} {X} {Z} e p t s con z law =
    let form : (w : Z) → e.form (con w) ≡ unsigned e.top p ∷ s.form w = λ w. ap (λ t. t.1) (law w) in
    let untargeted : (w : Z) → e.untargeted (con w) ≡ con (s.untargeted w) = λ w. ap (λ t. t.2) (law w) in (
      λ ks vs es h i. chosen e.kind e.suits e.top p s con z (λ l. (ap (λ t. t.0) (law z), form, λ y q a. (λ f. untargeted (y f) ∙ ap con (q f) ∙ sym (untargeted z), tt)))
          ks vs es (rw (form z) at h) (rw (form z) at i),
      variant-fitting e p t s con (λ w. ap (λ t. (t.0, t.1)) (law w)) z,
    )

abbrev pub enum : {d : ℕ → Bool} {X : Type 0} (e : Enum X) → ((x : X) → Variants d e x) → Sort d X
enum e t = record { form = e.form; kinds = e.kind ∷ []; untargeted = e.untargeted; Aims = λ y. Unit {0}; turn = λ x. (t x).0; fitting = λ x. (t x).1 }

-- an enum without fields
abbrev pub choice : {d : ℕ → Bool} {X : Type 0} (k : Kind) → ((m : ℕ) → kinds_of k m ≡ []) → ((v : Token) → Suits k v → Variant k v) → (top : ℕ) (p : X → ℕ) → all (is_named k) (suc top) ≡ true → Naming k → Sort d X
choice {d} {X} k s u top p t c = record {
  form = λ x. unsigned top (p x) ∷ [];
  kinds = k ∷ [];
  untargeted = λ x. x;
  Aims = λ y. Unit {0};
  turn = plain_turned k (λ m. (s m, u (label m), u invalid)) (λ x. unsigned top (p x));
  fitting = λ x.
      let e : Enum X = record { form = λ x. unsigned top (p x) ∷ []; kind = k; suits = u; names = c; top = top; untargeted = λ x. x } in
      variant-fitting {d = d} e (p x) (λ h. below (is_named k) (suc top) t (p x) (omega (arith, leb-true (p x) top h))) none (λ w. x) (λ w i. (s (p x) i, unsigned top (p x) ∷ [])) tt;
}
