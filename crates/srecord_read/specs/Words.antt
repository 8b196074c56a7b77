-- The words that the code takes from a text.
use Rattle.std.specs.Prelude.{cond, List, [], ◌∷◌, ◌++◌, ℕ, ◌+◌, ◌*◌, ◌-◌, ◌%◌, ltb, length, take, drop, get_or}
use Rattle.base_spec.specs.Parts.{parts}
use Rattle.srecord_spec.specs.Record.{digit_value, address_width}

abbrev pub word_of : ℕ → ℕ → ℕ → ℕ → ℕ
word_of a b c d = ((digit_value a * 16 + digit_value b) * 256 + (digit_value c * 16 + digit_value d)) % 65536

-- four digits a word
abbrev pub words_of : List ℕ → List ℕ
words_of [] = []
words_of (a ∷ []) = []
words_of (a ∷ (b ∷ [])) = []
words_of (a ∷ (b ∷ (c ∷ []))) = []
words_of (a ∷ (b ∷ (c ∷ (d ∷ ds)))) = word_of a b c d ∷ words_of ds

-- where the data digits of a line begin; two digits stand behind them
abbrev pub data_begin : List ℕ → ℕ
data_begin p = 4 + 2 * address_width (get_or p 1 0 - 48)

unfoldable pub data_words : List ℕ → List ℕ
data_words p = cond (ltb (length p) (data_begin p + 2)) [] (words_of (take (length p - 2 - data_begin p) (drop (data_begin p) p)))

abbrev pub data_of : List (List ℕ) → List ℕ
data_of [] = []
data_of (p ∷ ps) = data_words p ++ data_of ps

unfoldable pub data_in : List ℕ → List ℕ
data_in text = data_of (parts 10 text)
