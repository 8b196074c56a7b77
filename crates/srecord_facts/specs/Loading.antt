-- What is known where a text of S-records was read, and where it was refused. Assumes nothing.
use Rattle.std.specs.Prelude.{◌≡◌, List, ℕ, ◌≤◌, leb, pos, length, take, drop}
use Rattle.std.proofs.Math.Path.{refl}
use Rattle.std.proofs.Common.{arith}
use Rattle.std.proofs.Math.ListN.{length-append}
use Rattle.std.proofs.Math.Seq.{take_at}
use Rattle.base_facts.specs.Tests.{leb_is}
use Rattle.sheet_spec.specs.Translate.{Outcome, in_order, refused, require}
use Rattle.sheet_facts.specs.Listing.{both_in_order, require_true}
use Rattle.srecord_spec.specs.declared.Loaded.{Loaded}
use Rattle.srecord_spec.specs.Read.{start_read, image_read, text_outcome, read_outcome, loaded_of, image_left}
use Rattle.srecord_spec.specs.Promises.{RecordsRead}
use Rattle.srecord_facts.specs.Refused.{Plain, plain-read}

room-read : (text : List ℕ) (room : ℕ) → read_outcome text room ≡ in_order → length (image_read text) ≤ room
unfolding read_outcome
room-read text room e =
    let t = both_in_order (text_outcome text) (require (leb (length (image_read text)) room) 11) e in
    leb_is (length (image_read text)) room (require_true (leb (length (image_read text)) room) 11 t.1)

-- a text is read into the front of v, which makes it v'
pub record Loads (text v v' : List ℕ) (start words : ℕ) : Type 0 where
  pub order : read_outcome text (length v) ≡ in_order
  pub start_is : start ≡ start_read text
  pub room : words ≤ length v'
  pub few : words ≤ length v
  pub image : take words v' ≡ image_read text

module _ {text v v' : List ℕ} {r : Loaded} (w : RecordsRead text v v' r) where
  pub loads : r.number ≡ 0 → Loads text v v' r.start r.words
  unfolding loaded_of image_left
  loads h = go (read_outcome text (length v)) refl (plain-read text (length v))
    where
      go : (o : Outcome) → read_outcome text (length v) ≡ o → Plain o → Loads text v v' r.start r.words
      go in_order e p =
          let f = room-read text (length v) e in
          let t = take_at (image_read text) (drop (length (image_read text)) v) (length (image_read text)) refl in
          rw (w.answer, w.image, e) (record { order = e; start_is = refl; room = rw length-append (omega arith); few = f; image = t })
      go (refused number line detail value) e p = absurd (p.0 (rw (w.answer, e) at h))

  pub not_loaded : (r.number ≡ 0 → ⊥) → read_outcome text (length v) ≡ refused r.number r.line 0 (pos 0)
  unfolding loaded_of
  not_loaded h = go (read_outcome text (length v)) refl (plain-read text (length v))
    where
      go : (o : Outcome) → read_outcome text (length v) ≡ o → Plain o → read_outcome text (length v) ≡ refused r.number r.line 0 (pos 0)
      go in_order e p = absurd (h (rw (w.answer, e)))
      go (refused number line detail value) e p = rw (w.answer, e, p.1, p.2)
