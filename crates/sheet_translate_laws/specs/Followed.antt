-- Demand 3 of what `translate` returns and leaves: Translated is what it ensures.
use Rattle.std.specs.Prelude.{ℕ, pred, ◌≤◌, ◌≡◌, List, [], length, take, get_or}
use Rattle.std.proofs.Common.{sym, ap, ◌∙◌, arith}
use Rattle.std.proofs.lemmas.List.{length-map}
use Rattle.sheet_spec.specs.declared.Listed.{Listed}
use Rattle.sheet_spec.specs.Line.{Token, says, no, line_of}
use Rattle.sheet_spec.specs.Spell.{spell}
use Rattle.sheet_spec.specs.Sheet.{instruction_lines, start_in, sheet_in, line_count, line_at, addresses, image}
use Rattle.sheet_spec.specs.Translate.{ScratchRule, full}
use Rattle.sheet_spec.specs.Promises.{Translated, Demand3, Followed}
use Rattle.sheet_size_facts.specs.Scratch.{Filled, full-filled}
use Rattle.sheet_size_facts.specs.Outcomes.{map_at}
use Rattle.sheet_size_facts.specs.Counted.{image-counts}
use Rattle.sheet_form_laws.specs.LineForm.{spelled_line_lem}
use Rattle.sheet_laws.specs.Demand3.{demand_3_text}
use Rattle.sheet_translate.specs.PlaceLaws.{over_drop, held_places}
use Rattle.sheet_translate.specs.Left.{left}

-- a line's text is the spelling of what it says
spelling : (text : List ℕ) (n : ℕ) → 1 ≤ n → n ≤ line_count (sheet_in text) → (vs : List Token) → line_at (sheet_in text) n ≡ says vs → get_or (instruction_lines text) (pred n) [] ≡ spell vs
spelling text n h g vs e =
    (spelled_line_lem (get_or (instruction_lines text) (pred n) []) vs
    (sym (map_at line_of (instruction_lines text) (pred n) [] no (omega (arith, length-map (instruction_lines text) line_of))) ∙ e)).1

-- whatever the scratch's rule
pub followed : {rule : ScratchRule} → Filled rule → (text v s v' s' : List ℕ) (r : Listed) → Translated rule text v s v' s' r → r.number ≡ 0 → Followed rule text v s v' s' r
followed {rule} f text v s v' s' r t h =
    let l = left f text v s v' s' r t h in
    let d : Demand3 (sheet_in text) (take r.words v') = rw l.words (demand_3_text rule text (start_in text) (length s) (length v) l.accepts) in
    record {
      lines = l.lines;
      counted = l.counted;
      words = l.words;
      demand_3 = d;
      spelled = λ n g k. spelling text n g k (d.each n g k).read.tokens (d.each n g k).read.parsed;
      addresses = λ n g k. l.places n g (rw l.lines at k);
      later_words = rw l.image (over_drop (image (sheet_in text)) v r.words (image-counts rule text (start_in text) (length s) (length v) l.accepts ∙ sym l.counted));
      later_places = rw l.scratch (over_drop (rule.held (addresses (sheet_in text))) s (rule.needed r.lines) (held_places f text ∙ ap rule.needed (sym l.lines)));
    }

-- DEMAND 3
pub translated_stands : (text v s v' s' : List ℕ) (r : Listed) → Translated full text v s v' s' r → r.number ≡ 0 → Followed full text v s v' s' r
translated_stands = followed full-filled
