-- Words printed one after another. Assumes nothing.
use Rattle.std.specs.Prelude.{◌≡◌, refl, List, [], ◌∷◌, ◌++◌, ℕ, ◌+◌, ◌<◌, length, take, get_or}
use Rattle.std.proofs.Common.{ap, add-one, take-suc}
use Rattle.base_spec.specs.Written.{hex4_of}
use Rattle.base_spec.specs.Refused.{tab}
use Rattle.print_spec.specs.Printed.{listed_words}

words_more : (ws : List ℕ) (w : ℕ) → listed_words (ws ++ (w ∷ [])) ≡ listed_words ws ++ (tab ++ hex4_of w)
words_more [] w = refl
words_more (v ∷ ws) w = ap (λ (t : List ℕ). tab ++ hex4_of v ++ t) (words_more ws w)

-- one word more
pub words_next : (ws : List ℕ) (i : ℕ) → i < length ws → listed_words (take (i + 1) ws) ≡ listed_words (take i ws) ++ (tab ++ hex4_of (get_or ws i 0))
words_next ws i h = rw (add-one, take-suc ws i 0 h) (words_more (take i ws) (get_or ws i 0))
