-- The line on whose first word a target lands. Assumes nothing.
use Rattle.std.specs.Prelude.{ℕ, zero, suc, pred, ◌+◌, ◌-◌, ◌/◌, ◌≤◌, ◌<◌, ◌≡◌, true, cond, List, [], ◌∷◌, map, ◌⊎◌, eqb, length, get_or}
use Rattle.std.proofs.Common.{sym, ap, ◌∙◌, inl, inr, arith, eq-eqb, ne_eqb}
use Rattle.std.proofs.Math.Option.{none, some}
use Rattle.std.proofs.lemmas.List.{length-map}
use Rattle.base_facts.specs.Tests.{Eq, eq?, same, other, never}
use Rattle.sheet_spec.specs.Made.{is_some}
use Rattle.unsheet_spec.specs.Lines.{ReadLine, address_at, line_standing_at, landing}
use Rattle.unsheet_spec.specs.Promises.{Successive, OnLine}
use Rattle.read_facts.specs.Length.{read_words}

-- the addresses of lines
abbrev pub standing : ℕ → List ReadLine → List ℕ
standing start ls = map (λ l. address_at start l.place) ls

not_some : {C : Type 0} {n : ℕ} → none ≡ some n → C
not_some e = let z : ◌≡◌ {A = ℕ} 0 1 = cc in absurd (omega arith)

-- ---- what is found is there
found : (k : ℕ) (bs : List ℕ) (t m : ℕ) → line_standing_at k bs t ≡ some m → (k ≤ m) × (m < k + length bs) × (get_or bs (m - k) 0 ≡ t)
found k [] t m e = not_some e
found k (a ∷ bs) t m e = go (found (suc k) bs t m) (eq? a t) e
  where
    go : (line_standing_at (suc k) bs t ≡ some m → (suc k ≤ m) × (m < suc k + length bs) × (get_or bs (m - suc k) 0 ≡ t)) → Eq a t → cond (eqb a t) (some k) (line_standing_at (suc k) bs t) ≡ some m
        → (k ≤ m) × (m < k + suc (length bs)) × (get_or (a ∷ bs) (m - k) 0 ≡ t)
    go next (same p q) e =
        let r : k ≡ m = let u : some k ≡ some m = rw q at e in cc in
        let z : m - k ≡ 0 = omega (arith, r) in
        (omega (arith, r), omega (arith, r), ap (λ (n : ℕ). get_or (a ∷ bs) n 0) z ∙ p)
    go next (other p q) e =
        let h = next (rw q at e) in
        let z : m - k ≡ suc (m - suc k) = omega (arith, h.0) in
        (omega (arith, h.0), omega (arith, h.1), ap (λ (n : ℕ). get_or (a ∷ bs) n 0) z ∙ h.2)

pub lands_sound : (start : ℕ) (ls : List ReadLine) (t k : ℕ) → landing start ls t ≡ some k
    → (1 ≤ k) × (k ≤ length ls) × (get_or (map (λ l. address_at start l.place) ls) (pred k) 0 ≡ t)
lands_sound start ls t k e =
    let h = found 1 (standing start ls) t k e in
    let z : k - 1 ≡ pred k = omega arith in
    (h.0, omega (arith, h.1, length-map ls (λ l. address_at start l.place)), ap (λ (n : ℕ). get_or (standing start ls) n 0) (sym z) ∙ h.2)

-- ---- what is there is found, since addresses increase
abbrev Increasing : ℕ → List ℕ → Type 0
Increasing low [] = Unit {0}
Increasing low (a ∷ bs) = (low ≤ a) × Increasing (suc a) bs

lower : (m n : ℕ) (bs : List ℕ) → m ≤ n → Increasing n bs → Increasing m bs
lower m n [] h i = tt
lower m n (a ∷ bs) h i = (omega (arith, i.0), i.1)

above : (low : ℕ) (bs : List ℕ) → Increasing low bs → (m : ℕ) → m < length bs → low ≤ get_or bs m 0
above low [] i m h = absurd (omega arith)
above low (a ∷ bs) i zero h = i.0
above low (a ∷ bs) i (suc m) h = omega (arith, i.0, above (suc a) bs i.1 m (omega arith))

find : (k low : ℕ) (bs : List ℕ) → Increasing low bs → (t m : ℕ) → m < length bs → get_or bs m 0 ≡ t → line_standing_at k bs t ≡ some (k + m)
find k low [] i t m h e = absurd (omega arith)
find k low (a ∷ bs) i t zero h e = let z : k ≡ k + 0 = omega arith in rw (eq-eqb a t e) (ap some z)
find k low (a ∷ bs) i t (suc m) h e =
    let z : suc k + m ≡ k + suc m = omega arith in
    let o = above (suc a) bs i.1 m (omega arith) in
    rw (ne_eqb a t (λ p. omega (arith, o, e, p))) (find (suc k) (suc a) bs i.1 t m (omega arith) e ∙ ap some z)

increasing : (start : ℕ) (v : List ℕ) (p : ℕ) (ls : List ReadLine) → Successive start v p ls → Increasing (address_at start p) (standing start ls)
increasing start v p [] c = tt
increasing start v p (l ∷ ls) (i, n, e, f, c) =
    let b = read_words _ (address_at start p) i n f in
    let q : l.place ≡ p = ap (λ (x : ReadLine). x.place) e in
    (omega (arith, q), lower (suc (address_at start l.place)) (address_at start (p + n / 2)) (standing start ls) (omega (arith, q, b.some)) (increasing start v (p + n / 2) ls c))

pub lands_complete : (start : ℕ) (v : List ℕ) (ls : List ReadLine) → Successive start v 0 ls → (t k : ℕ) → 1 ≤ k → k ≤ length ls
    → get_or (map (λ l. address_at start l.place) ls) (pred k) 0 ≡ t → landing start ls t ≡ some k
lands_complete start v ls c t k h g e =
    let z : 1 + pred k ≡ k = omega arith in
    find 1 (address_at start 0) (standing start ls) (increasing start v 0 ls c) t (pred k) (omega (arith, length-map ls (λ l. address_at start l.place))) e ∙ ap some z

-- ---- some line is found exactly where a target is on a line
pub some_on : (start k : ℕ) (ls : List ReadLine) (t : ℕ) → is_some (line_standing_at k (standing start ls) t) ≡ true → OnLine start ls t
some_on start k [] t e = never e
some_on start k (l ∷ ls) t e = go (some_on start (suc k) ls t) (eq? (address_at start l.place) t) e
  where
    go : (is_some (line_standing_at (suc k) (standing start ls) t) ≡ true → OnLine start ls t) → Eq (address_at start l.place) t
        → is_some (cond (eqb (address_at start l.place) t) (some k) (line_standing_at (suc k) (standing start ls) t)) ≡ true → (address_at start l.place ≡ t) ⊎ OnLine start ls t
    go next (same p q) e = inl p
    go next (other p q) e = inr (next (rw q at e))

pub on_some : (start k : ℕ) (ls : List ReadLine) (t : ℕ) → OnLine start ls t → is_some (line_standing_at k (standing start ls) t) ≡ true
on_some start k [] t o = absurd o
on_some start k (l ∷ ls) t o = go (on_some start (suc k) ls t) o (eq? (address_at start l.place) t)
  where
    go : (OnLine start ls t → is_some (line_standing_at (suc k) (standing start ls) t) ≡ true) → (address_at start l.place ≡ t) ⊎ OnLine start ls t → Eq (address_at start l.place) t
        → is_some (cond (eqb (address_at start l.place) t) (some k) (line_standing_at (suc k) (standing start ls) t)) ≡ true
    go next o (same p q) = rw q
    go next (inl e) (other p q) = absurd (p e)
    go next (inr o) (other p q) = rw q (next o)
