-- What `write_records` answers and leaves. Assumes nothing.
use Rattle.std.specs.Prelude.{◌≡◌, List, ◌++◌, ℕ, ◌+◌, ◌*◌, ◌^◌, ◌≤◌, ◌<◌}
use Rattle.std.proofs.Common.{arith}
use Rattle.std.proofs.Math.Nat.{zero-add}
use Rattle.std.proofs.Math.ListN.{length, drop}
use borrow.Author.Tests.{le-leb, lt-leb}
use Rattle.base_text.specs.Wrote.{Wrote}
use Rattle.srecord_spec.specs.Write.{image_text, write_outcome, written_of, text_left}
use Rattle.srecord_spec.specs.Promises.{RecordsWritten}
use Rattle.srecord_write.specs.Text.{text_length}
use Rattle.srecord_write.specs.LengthLaws.{text_length_lem}

module _ (start : ℕ) (image lent : List ℕ) where
  pub past_end : 2 ^ 32 < start + 2 * length image → RecordsWritten start image lent lent (record { count = 0; number = 9 })
  unfolding written_of text_left write_outcome
  past_end h = let e = lt-leb (start + 2 * length image) (2 ^ 32) h in record { answer = rw e; text = rw e }

  pub too_short : start + 2 * length image ≤ 2 ^ 32 → length lent < text_length (length image)
      → RecordsWritten start image lent lent (record { count = 0; number = 11 })
  unfolding written_of text_left write_outcome
  too_short h g =
      let e = le-leb (start + 2 * length image) (2 ^ 32) h in
      let f = lt-leb (length (image_text start image)) (length lent) (omega (arith, text_length_lem start image)) in
      record { answer = rw (e, f); text = rw (e, f) }

  pub in_full : {left : List ℕ} {count : ℕ} → start + 2 * length image ≤ 2 ^ 32 → text_length (length image) ≤ length lent
      → Wrote lent 0 (image_text start image) left count → RecordsWritten start image lent left (record { count = count; number = 0 })
  unfolding written_of text_left write_outcome
  in_full {left} {count} h g w =
      let e = le-leb (start + 2 * length image) (2 ^ 32) h in
      let f = le-leb (length (image_text start image)) (length lent) (omega (arith, text_length_lem start image)) in
      let n : count ≡ length (image_text start image) = omega (arith, w.next) in
      let i : left ≡ image_text start image ++ drop (0 + length (image_text start image)) lent = w.image in
      record { answer = rw (e, f, n); text = rw (e, f) (simp zero-add at i) }
