-- Words written one after another into lent places. Assumes nothing.
use Rattle.std.specs.Prelude.{◌≡◌, refl, List, [], ◌∷◌, ◌++◌, ℕ, ◌+◌, ◌-◌, ◌≤◌, length, take, drop, set}
use Rattle.std.proofs.Common.{sym, ap, ◌∙◌, append_assoc, append-nil, arith, length-append}
use borrow.Rule.Slice.PartMut.{put_mid}
use Rattle.sheet_spec.specs.Translate.{over}
use Rattle.sheet_facts.specs.Listing.{over_length, over_set, over_more}

-- ws are to stand in front of lent, rest of them is still to come, and at are written, which makes it v
pub record Writing (ws lent rest : List ℕ) (at : ℕ) (v : List ℕ) : Type 0 where
  pub written : List ℕ
  pub all : ws ≡ written ++ rest
  pub places : at ≡ length written
  pub image : v ≡ over written lent

pub writing : (ws lent : List ℕ) → Writing ws lent ws 0 lent
writing ws lent = record { written = []; all = refl; places = refl; image = refl }

module _ {ws lent rest v : List ℕ} {at : ℕ} (s : Writing ws lent rest at v) where
  pub writing_end : rest ≡ [] → (at ≡ length ws) × (v ≡ over ws lent)
  writing_end e =
      let q : ws ≡ s.written = s.all ∙ rw (e, append-nil) in
      (rw q s.places, rw q s.image)

  pub writing_length : length ws ≤ length lent → length v ≡ length lent
  writing_length room = rw s.image (over_length s.written lent (omega (arith, ap length s.all, length-append s.written rest)))

  module _ (new next : List ℕ) (e : rest ≡ new ++ next) (room : length ws ≤ length lent) where
    all_here : ws ≡ (s.written ++ new) ++ next
    all_here = s.all ∙ rw (e, append_assoc)

    pub writing_room : at + length new ≤ length lent
    writing_room =
        omega (
          arith,
          room,
          s.places,
          ap length all_here,
          length-append (s.written ++ new) next,
          length-append s.written new,
        )

    pub writing_more : (n : ℕ) → n ≡ length new → (last : List ℕ) → last ≡ over new (take (length v - at) (drop at v))
        → Writing ws lent next (at + n) (put_mid at (length v - at) v last)
    writing_more n q last f =
        record {
          written = s.written ++ new;
          all = all_here;
          places = omega (arith, s.places, length-append s.written new);
          image = rw s.image (over_more s.written new lent last at s.places writing_room (rw s.image at f));
        }

  pub writing_one : (w : ℕ) (next : List ℕ) → rest ≡ w ∷ next → length ws ≤ length lent → Writing ws lent next (at + 1) (set v at w)
  writing_one w next e room =
      let r = writing_room (w ∷ []) next e room in
      record {
        written = s.written ++ (w ∷ []);
        all = all_here (w ∷ []) next e room;
        places = omega (arith, s.places, length-append s.written (w ∷ []));
        image = rw s.image (over_set s.written lent at w (sym s.places) (omega arith));
      }
