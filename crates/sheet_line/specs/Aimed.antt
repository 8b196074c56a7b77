-- The instruction of a line whose labels are made addresses behind its reading. Assumes nothing.
use Rattle.std.specs.Prelude.{ℕ, ◌≤◌, ◌<◌, ◌≡◌, refl, Bool, true, false, length}
use Rattle.std.proofs.Math.Path.{sym, ap}
use Rattle.std.proofs.Common.{◌∙◌, arith}
use Rattle.std.proofs.lemmas.Bool.{false≢true}
use mathlib.Core.List.{List, [], ◌∷◌, ◌++◌, map}
use Rattle.std.proofs.Math.Option.{Option}
use Rattle.numeric_spec.specs.declared.Built.{Built}
use Rattle.numeric_spec.specs.declared.Built.TheVariants as built
use Rattle.numeric_places.specs.declared.Numbers.{Numbers}
use Rattle.numeric_places.specs.Places.{built_from}
use Rattle.numeric_fields.specs.Number.{numbers_in}
use Rattle.numeric_fields.specs.Taken.{Whole}
use Rattle.sheet_spec.specs.declared.Kind.{Kind}
use Rattle.sheet_spec.specs.declared.Kind.TheVariants as kind
use Rattle.base_spec.specs.Parts.{fields}
use Rattle.sheet_spec.specs.Grammar.{kinds_of}
use Rattle.sheet_spec.specs.Line.{Token, literal, label, invalid, token, Parsed, says, no, with, after, line_from, line_of}
use Rattle.sheet_spec.specs.Made.{built_as}
use Rattle.sheet_kinds.specs.Weight.{most, total, most_next, most_rest}
use Rattle.sheet_labels.specs.Labels.{address_in, listed, aimed, aimed_to, labelled_all, labelled_in}
use Rattle.sheet_labels.specs.LabelLaws.{length_pad, magnitude_as, held_by, built_held, aimed-all, aimed-unlabelled, aimed-listed}
use Rattle.sheet_line.specs.declared.LineRead.{LineRead}
use Rattle.sheet_line.specs.LineMade.{not_made, line_made}
use Rattle.sheet_line.specs.LineRead.{is_says, tokens_in, line_read, FieldsRead}
use Rattle.sheet_line.specs.Reading.{length_negative}

-- ---- a line in the form has at most 17 fields
with_few : (v : Token) (p : Parsed) (m : ℕ) → length (tokens_in p) < m → length (tokens_in (with v p)) ≤ m
with_few v (says vs) m h = omega arith
with_few v no m h = omega arith

after_few : (v : Token) (next : ℕ → Parsed) (rest : Parsed) (m : ℕ) → ((n : ℕ) → length (tokens_in (next n)) < m) → length (tokens_in rest) < m → length (tokens_in (after v next rest)) ≤ m
after_few (literal s n) next rest m g h = with_few (literal s n) (next n) m (g n)
after_few (label n) next rest m g h = with_few (label n) rest m h
after_few invalid next rest m g h = omega arith

from_few : (ks : List Kind) (fs : List (List ℕ)) → length (tokens_in (line_from ks fs)) ≤ total most ks
from_few [] [] = omega arith
from_few [] (f ∷ fs) = omega arith
from_few (k ∷ ks) [] = omega arith
from_few (k ∷ ks) (f ∷ fs) =
    after_few (token k f) (λ n. line_from (kinds_of k n ++ ks) fs) (line_from ks fs) (total most (k ∷ ks))
    (λ n. omega (arith, from_few (kinds_of k n ++ ks) fs, most_next k ks n))
    (omega (arith, from_few ks fs, most_rest k ks))

pub fields-most : (line : List ℕ) → length (tokens_in (line_of line)) ≤ 17
unfolding line_of
fields-most line = from_few (kind.Instruction ∷ []) (fields line)

-- ---- what is read of a line
said : (p : Parsed) → is_says p ≡ true → p ≡ says (tokens_in p)
said (says vs) e = refl
said no e = absurd (false≢true e)

unsaid : (p : Parsed) → is_says p ≡ false → p ≡ no
unsaid (says vs) e = absurd (false≢true (sym e))
unsaid no e = refl

labelled_said : (p : Parsed) → labelled_in p ≡ labelled_all (tokens_in p)
labelled_said (says vs) = refl
labelled_said no = refl

module _ (n : ℕ) (line : List ℕ) {r : LineRead} {negative : List Bool} {magnitude : List ℕ} {label : List Bool} (F : FieldsRead n (line_of line) r negative magnitude label) where
  abbrev vs : List Token
  vs = tokens_in (line_of line)

  pub ok_is : r.ok ≡ is_says (line_of line)
  unfolding line_read
  ok_is = ap (λ (x : LineRead). x.ok) F.read

  pub count_is : r.count ≡ length vs
  unfolding line_read
  count_is = ap (λ (x : LineRead). x.count) F.read

  pub labelled_is : r.labelled ≡ labelled_all vs
  unfolding line_read
  labelled_is = ap (λ (x : LineRead). x.labelled) F.read ∙ labelled_said (line_of line)

  pub read_in_form : r.ok ≡ true → line_of line ≡ says vs
  read_in_form e = said (line_of line) (sym ok_is ∙ e)

  pub read-not_in_form : r.ok ≡ false → line_of line ≡ no
  read-not_in_form e = unsaid (line_of line) (sym ok_is ∙ e)

  pub count_few : r.count ≤ 17
  count_few = omega (arith, count_is, fields-most line)

  -- labels are among the first places, and where there is none nothing is made anything else
  pub read-aimed : (f : ℕ → ℕ) → aimed_to r.count f label magnitude ≡ aimed f label magnitude
  read-aimed f = rw (count_is, F.labels, F.magnitudes) (aimed-all f vs)

  pub read-unlabelled : (f : ℕ → ℕ) → r.labelled ≡ false → magnitude ≡ aimed f label magnitude
  read-unlabelled f e = rw (F.labels, F.magnitudes) (sym (aimed-unlabelled f vs (sym labelled_is ∙ e)))

  module _ (addresses : List ℕ) (few : length addresses ≤ 4096) where
    held : numbers_in r.count negative (aimed (address_in addresses) label magnitude) ≡ held_by addresses vs
    held = rw (count_is, F.negatives, F.labels, F.magnitudes, aimed-listed addresses vs)

    -- each label made its line's address
    pub aimed_built : r.ok ≡ true → built_from (numbers_in r.count negative (aimed (address_in addresses) label magnitude)) 0 ≡ built_as (listed addresses) (line_of line)
    aimed_built e =
        ap (λ (ns : Numbers). built_from ns 0) held
        ∙ built_held addresses few vs (omega (arith, fields-most line))
        ∙ sym (ap (built_as (listed addresses)) (read_in_form e))

    module _ (m : List ℕ) (e : m ≡ aimed (address_in addresses) label magnitude) where
      pub aimed-whole : Whole (numbers_in r.count negative m)
      aimed-whole =
          record {
            negative = length_negative F;
            magnitude = rw (e, F.labels, F.magnitudes, aimed-listed addresses vs) (length_pad 24 0 (map (magnitude_as addresses) vs));
          }

      pub aimed-made : r.ok ≡ true → (b : Built) → b ≡ built_from (numbers_in r.count negative m) 0
          → record { built = b; labelled = r.labelled; resolves = r.resolves } ≡ line_made n addresses (line_of line)
      unfolding line_made line_read
      aimed-made o b g =
          let made : b ≡ built_as (listed addresses) (line_of line) = g ∙ ap (λ (x : List ℕ). built_from (numbers_in r.count negative x) 0) e ∙ aimed_built o in
          λ i. record { built = made i; labelled = (F.read i).labelled; resolves = (F.read i).resolves }

  -- not in the form
  pub not_read_built : (f : ℕ → Option ℕ) → r.ok ≡ false → built_as f (line_of line) ≡ built.NotInForm
  not_read_built f e = ap (built_as f) (read-not_in_form e)

  pub not_read-made : (addresses : List ℕ) → r.ok ≡ false → not_made ≡ line_made n addresses (line_of line)
  unfolding not_made line_made
  not_read-made addresses e = sym (ap (line_made n addresses) (read-not_in_form e))
