-- Words as bytes in a lent slice. Assumes nothing.
use Prim.Native.Nat.{ℕ, suc, ◌+◌, ◌*◌, ◌/◌, ◌%◌, ◌<◌}
use mathlib.Core.List.{List, [], ◌∷◌, ◌++◌, append_assoc}
use mathlib.Core.Path.{◌≡◌, refl, ap, sym, ◌∙◌}
use native.Mathlib.Omega.{arith}
use native.Mathlib.Numerals.{add-one}
use lib.ListN.{length, take, drop, get_or, set, length-take, length-append}
use lib.Seq.{take-suc, drop-cons, set_at}
use Rattle.encode_spec.specs.Encode.{bytes_in}
use Rattle.m68k_facts.specs.Laws.{bytes_length}

bytes_append : (ws : List ℕ) (w : ℕ) → bytes_in (ws ++ (w ∷ [])) ≡ bytes_in ws ++ (w / 256 ∷ w % 256 ∷ [])
bytes_append [] w = refl
bytes_append (v ∷ ws) w = ap (λ (l : List ℕ). v / 256 ∷ v % 256 ∷ l) (bytes_append ws w)

two_more : (p r : List ℕ) (x y u v n : ℕ) → length p ≡ n → set (set (p ++ (x ∷ y ∷ r)) n u) (n + 1) v ≡ p ++ (u ∷ v ∷ r)
two_more p r x y u v n h =
    let k : length (p ++ (u ∷ [])) ≡ n + 1 = length-append p (u ∷ []) ∙ ap (λ (m : ℕ). m + 1) h in
    rw (set_at p x (y ∷ r) u n h, ← append_assoc p (u ∷ []) (y ∷ r), set_at (p ++ (u ∷ [])) y r v (n + 1) k)
    (append_assoc p (u ∷ []) (v ∷ r))

-- one word more
pub turn : (ws l : List ℕ) (k : ℕ) → k < length ws → 2 * k + 1 < length l
    → set (set (bytes_in (take k ws) ++ drop (2 * k) l) (2 * k) (get_or ws k 0 / 256)) (2 * k + 1) (get_or ws k 0 % 256)
    ≡ bytes_in (take (k + 1) ws) ++ drop (2 * (k + 1)) l
turn ws l k h m =
    let w = get_or ws k 0 in
    let e : 2 * (k + 1) ≡ suc (suc (2 * k)) = omega arith in
    let n : length (bytes_in (take k ws)) ≡ 2 * k = bytes_length (take k ws) ∙ ap (λ (j : ℕ). 2 * j) (length-take k ws ∙ omega arith) in
    rw (e, add-one k, take-suc ws k 0 h, bytes_append (take k ws) w, drop-cons l (2 * k) 0 (omega arith), drop-cons l (suc (2 * k)) 0 (omega arith))
    (two_more (bytes_in (take k ws)) (drop (suc (suc (2 * k))) l) (get_or l (2 * k) 0) (get_or l (suc (2 * k)) 0) (w / 256) (w % 256) (2 * k) n
    ∙ sym (append_assoc (bytes_in (take k ws)) (w / 256 ∷ w % 256 ∷ []) (drop (suc (suc (2 * k))) l)))
