-- The header of a line that was found and read.
use Rattle.std.specs.Prelude.{Option, Some, None}
use Rattle.std.proofs.Common.{◌≡◌, ℕ, ◌-◌, List, Bool, true, false, length, take, drop, sym, ap, ◌∙◌}
use Rattle.base_facts.specs.Tests.{cond_true, cond_false}
use Rattle.base_text.specs.Parts.{part_end}
use Rattle.base_text.specs.declared.LineNumbers.{LineNumbers}
use Rattle.base_text.specs.Numbers.{line_numbers}
use Rattle.base_list.specs.declared.Header.{Header}
use Rattle.base_list.specs.declared.Limits.{Limits}
use Rattle.base_list.specs.Headers.{is_header, header_of, header_as, header_at}

header_is : (limits : Limits) (list : List ℕ) (from feed : ℕ) (n : LineNumbers) → feed ≡ part_end 10 list from → n ≡ line_numbers (take (feed - from) (drop from list))
    → header_as limits list feed n ≡ header_at limits list from
unfolding header_at
header_is limits list from feed n e f =
    ap (header_as limits list feed) f ∙ ap (λ (k : ℕ). header_as limits list k (line_numbers (take (k - from) (drop from list)))) e

pub header_yes : (limits : Limits) (list : List ℕ) (from feed : ℕ) (n : LineNumbers) (h : Option Header) → feed ≡ part_end 10 list from → n ≡ line_numbers (take (feed - from) (drop from list))
    → h ≡ header_of feed (length list - feed) n → is_header limits n ≡ true → h ≡ header_at limits list from
header_yes limits list from feed n h e f is t = is ∙ sym (cond_true (is_header limits n) _ _ t) ∙ header_is limits list from feed n e f

pub header_none : (limits : Limits) (list : List ℕ) (from feed : ℕ) (n : LineNumbers) → feed ≡ part_end 10 list from → n ≡ line_numbers (take (feed - from) (drop from list))
    → is_header limits n ≡ false → None ≡ header_at limits list from
header_none limits list from feed n e f t = sym (cond_false (is_header limits n) _ _ t) ∙ header_is limits list from feed n e f
