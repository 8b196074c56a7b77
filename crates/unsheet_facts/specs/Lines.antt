-- The lines that an image reads as: the line at a place and those after it, and how far apart lines stand.
use Rattle.std.specs.Prelude.{ℕ, zero, suc, pred, ◌+◌, ◌/◌, ◌≤◌, ◌<◌, ◌≡◌, refl, List, [], ◌∷◌, length, drop}
use Rattle.std.proofs.Common.{sym, ap, ◌∙◌, subst, arith, length-drop, drop-drop}
use Rattle.read_spec.specs.Reading.{Reading, Read, Short, Nothing}
use Rattle.read_spec.specs.Read.{read_of}
use Rattle.read_facts.specs.Length.{read_words}
use Rattle.unsheet_spec.specs.Lines.{ReadLine, address_at, reading_then, lines_from}

-- ---- the words of the line before are passed over
pub lines_past : (start place taken : ℕ) (ws : List ℕ) → lines_from start place taken ws ≡ lines_from start (place + taken) 0 (drop taken ws)
lines_past start place zero [] = refl
lines_past start place (suc taken) [] = refl
lines_past start place zero (w ∷ ws) = let z : place ≡ place + 0 = omega arith in ap (λ (p : ℕ). lines_from start p 0 (w ∷ ws)) z
lines_past start place (suc taken) (w ∷ ws) =
    let z : suc place + taken ≡ place + suc taken = omega arith in
    lines_past start (suc place) taken ws ∙ ap (λ (p : ℕ). lines_from start p 0 (drop taken ws)) z

-- the lines of an image from a place on
abbrev pub lines_at : ℕ → List ℕ → ℕ → List ReadLine
lines_at start image place = lines_from start place 0 (drop place image)

-- those after a reading at a place
abbrev pub lines_after : ℕ → List ℕ → ℕ → Reading → List ReadLine
lines_after start image place (Read i n) = lines_at start image (place + n / 2)
lines_after start image place Short = []
lines_after start image place Nothing = []

later : (start : ℕ) (image : List ℕ) (place : ℕ) (w : ℕ) (ws : List ℕ) → drop place image ≡ w ∷ ws → (r : Reading) → read_of (w ∷ ws) (address_at start place) ≡ r
    → reading_then r (λ taken. lines_from start (suc place) taken ws) ≡ lines_after start image place r
later start image place w ws d (Read i n) e =
    let c = read_words (w ∷ ws) (address_at start place) i n e in
    let t : suc (pred (n / 2)) ≡ n / 2 = omega (arith, c.some) in
    let p : suc place + pred (n / 2) ≡ place + n / 2 = omega (arith, c.some) in
    let q : drop (pred (n / 2)) ws ≡ drop (place + n / 2) image =
    ap (λ (k : ℕ). drop k (w ∷ ws)) t ∙ ap (drop (n / 2)) (sym d) ∙ drop-drop (n / 2) place image in
    lines_past start (suc place) (pred (n / 2)) ws ∙ ap (λ (k : ℕ). lines_from start k 0 (drop (pred (n / 2)) ws)) p ∙ ap (lines_from start (place + n / 2) 0) q
later start image place w ws d Short e = refl
later start image place w ws d Nothing e = refl

-- ---- the line at a place
pub lines_next : (start : ℕ) (image : List ℕ) (place : ℕ) → place < length image → (r : Reading) → read_of (drop place image) (address_at start place) ≡ r
    → lines_at start image place ≡ record { place = place; reading = r } ∷ lines_after start image place r
lines_next start image place h r e = go (drop place image) refl
  where
    go : (ws : List ℕ) → drop place image ≡ ws → lines_at start image place ≡ record { place = place; reading = r } ∷ lines_after start image place r
    go [] d = absurd (omega (arith, length-drop place image, ap (λ (v : List ℕ). length v) d))
    go (w ∷ ws) d =
        let f : read_of (w ∷ ws) (address_at start place) ≡ r = ap (λ (v : List ℕ). read_of v (address_at start place)) (sym d) ∙ e in
        ap (lines_from start place 0) d
        ∙ ap (λ (x : Reading). record { place = place; reading = x } ∷ reading_then x (λ taken. lines_from start (suc place) taken ws)) f
        ∙ ap (λ (ls : List ReadLine). record { place = place; reading = r } ∷ ls) (later start image place w ws d r f)

pub lines_end : (start : ℕ) (image : List ℕ) (place : ℕ) → length image ≤ place → lines_at start image place ≡ []
lines_end start image place h = go (drop place image) refl
  where
    go : (ws : List ℕ) → drop place image ≡ ws → lines_at start image place ≡ []
    go [] d = ap (lines_from start place 0) d
    go (w ∷ ws) d = absurd (omega (arith, length-drop place image, ap (λ (v : List ℕ). length v) d))

-- ---- each line stands 1 to 13 words behind the one before
abbrev pub Spaced : ℕ → List ReadLine → Type 0
Spaced place [] = Unit {0}
Spaced place (l ∷ ls) = (l.place ≡ place) × (count : ℕ) × (1 ≤ count) × (count ≤ 13) × Spaced (place + count) ls

spaced_after : (start place w : ℕ) (ws : List ℕ) → ((taken : ℕ) → Spaced (suc place + taken) (lines_from start (suc place) taken ws)) → (r : Reading) → read_of (w ∷ ws) (address_at start place) ≡ r
    → (count : ℕ) × (1 ≤ count) × (count ≤ 13) × Spaced (place + count) (reading_then r (λ taken. lines_from start (suc place) taken ws))
spaced_after start place w ws h (Read i n) e =
    let c = read_words (w ∷ ws) (address_at start place) i n e in
    let p : suc place + pred (n / 2) ≡ place + n / 2 = omega (arith, c.some) in
    (n / 2, c.some, c.most, subst (λ (k : ℕ). Spaced k (lines_from start (suc place) (pred (n / 2)) ws)) p (h (pred (n / 2))))
spaced_after start place w ws h Short e = (1, omega arith, omega arith, tt)
spaced_after start place w ws h Nothing e = (1, omega arith, omega arith, tt)

pub lines_spaced : (start place taken : ℕ) (ws : List ℕ) → Spaced (place + taken) (lines_from start place taken ws)
lines_spaced start place zero [] = tt
lines_spaced start place (suc taken) [] = tt
lines_spaced start place (suc taken) (w ∷ ws) =
    let p : suc place + taken ≡ place + suc taken = omega arith in
    subst (λ (k : ℕ). Spaced k (lines_from start (suc place) taken ws)) p (lines_spaced start (suc place) taken ws)
lines_spaced start place zero (w ∷ ws) =
    let p : place ≡ place + 0 = omega arith in
    let a = spaced_after start place w ws (λ taken. lines_spaced start (suc place) taken ws) (read_of (w ∷ ws) (address_at start place)) refl in
    subst (λ (k : ℕ). Spaced k (lines_from start place 0 (w ∷ ws))) p
    (refl, a.0, a.1, a.2, a.3)

-- ---- each line stands before the end
abbrev pub Below : ℕ → List ReadLine → Type 0
Below end [] = Unit {0}
Below end (l ∷ ls) = (l.place < end) × Below end ls

below-after : (r : Reading) (end : ℕ) (lines : ℕ → List ReadLine) → ((taken : ℕ) → Below end (lines taken)) → Below end (reading_then r lines)
below-after (Read i n) end lines h = h (pred (n / 2))
below-after Short end lines h = tt
below-after Nothing end lines h = tt

pub lines-below : (start place taken : ℕ) (ws : List ℕ) (end : ℕ) → place + length ws ≤ end → Below end (lines_from start place taken ws)
lines-below start place zero [] end h = tt
lines-below start place (suc taken) [] end h = tt
lines-below start place (suc taken) (w ∷ ws) end h = lines-below start (suc place) taken ws end (omega arith)
lines-below start place zero (w ∷ ws) end h =
    (omega arith, below-after (read_of (w ∷ ws) (address_at start place)) end (λ taken. lines_from start (suc place) taken ws) (λ taken. lines-below start (suc place) taken ws end (omega arith)))
