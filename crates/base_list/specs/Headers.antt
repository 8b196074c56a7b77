-- The header of a case in a list: the bytes that follow it, and one to three numbers more.
use Rattle.std.specs.Prelude.{Bool, false, cond, not, ◌&&◌, ◌||◌, List, ℕ, ◌+◌, ◌-◌, ◌≤◌, ◌<◌, leb, ltb, length, take, drop, get_or, Option, Some, None, option_and_then}
use Rattle.base_text.specs.Parts.{part_end}
use Rattle.base_text.specs.declared.LineNumbers.{LineNumbers}
use Rattle.base_text.specs.Numbers.{line_numbers}
use Rattle.base_list.specs.declared.Header.{Header}
use Rattle.base_list.specs.declared.Limits.{Limits}

-- a number of a line, 0 where it is not there, and whether it is below 0
abbrev pub number_at : LineNumbers → ℕ → ℕ
number_at n k = get_or n.magnitude k 0

abbrev pub below : LineNumbers → ℕ → Bool
below n k = get_or n.negative k false

-- the bytes of a case come after the LF at `feed`, `left` bytes before the list's end
unfoldable pub header_of : ℕ → ℕ → LineNumbers → Option Header
header_of feed left n =
    cond (ltb (number_at n 0) left)
    (Some (record { begin = feed + 1; end = feed + 1 + number_at n 0; second = number_at n 1; third = number_at n 2; fourth = number_at n 3 }))
    None

-- from `least` to `most` numbers, none of the first four below 0
abbrev pub is_header : Limits → LineNumbers → Bool
is_header limits n =
    n.ok && leb limits.least n.count && leb n.count limits.most && not (below n 0 || below n 1 || below n 2 || below n 3)

abbrev pub header_as : Limits → List ℕ → ℕ → LineNumbers → Option Header
header_as limits list feed n = cond (is_header limits n) (header_of feed (length list - feed) n) None

unfoldable pub header_at : Limits → List ℕ → ℕ → Option Header
header_at limits list from = let feed = part_end 10 list from in header_as limits list feed (line_numbers (take (feed - from) (drop from list)))

-- the other numbers at most so large
abbrev pub is_limited : Limits → Header → Bool
is_limited limits h = leb h.second limits.second && leb h.third limits.third && leb h.fourth limits.fourth

unfoldable pub header_in : Limits → List ℕ → ℕ → Option Header
header_in limits list from = option_and_then (λ h. cond (is_limited limits h) (Some h) None) (header_at limits list from)

-- the case lies before `most`, its end past `from`
pub record Inside (from most : ℕ) (h : Header) : Type 0 where
  pub order : h.begin ≤ h.end
  pub inside : h.end ≤ most
  pub onward : from < h.end

-- its other numbers are at most so large
pub record Limited (limits : Limits) (h : Header) : Type 0 where
  pub second_most : h.second ≤ limits.second
  pub third_most : h.third ≤ limits.third
  pub fourth_most : h.fourth ≤ limits.fourth

pub record Within (from most : ℕ) (limits : Limits) (h : Header) : Type 0 where
  pub place : Inside from most h
  pub limited : Limited limits h
