-- Laws of writing texts one after another.
use Rattle.std.specs.Prelude.{◌≡◌, List, [], ◌++◌, ℕ, suc, ◌+◌, ◌≤◌, ◌<◌, length, ℤ, pos, negsuc}
use Rattle.std.proofs.Common.{arith, length-append, SFits}
use Rattle.std.proofs.Math.Seq.{paste-zero}
use Rattle.std.specs.Int.{w64}
use Rattle.base_spec.specs.Written.{placed, decimal_of, signed_of}
use Rattle.base_spec.specs.Refused.{tab, field_text}
use Rattle.base_text.specs.WrittenLaws.{placed_then, decimal_length, decimal_19}
use Rattle.base_text.specs.Wrote.{Wrote}

pub wrote : {buf out t : List ℕ} {at r : ℕ} → (r ≡ at + length t) × (out ≡ placed buf at t) → Wrote buf at t out r
wrote (e, f) = record { next = e; image = f }

pub wrote_none : (buf : List ℕ) (at : ℕ) → Wrote buf at [] buf at
wrote_none buf at = record { next = omega arith; image = paste-zero buf at [] }

-- one text after another
pub wrote_then : {buf mid out s t : List ℕ} {at next r : ℕ} → Wrote buf at s mid next → Wrote mid next t out r → r ≤ length buf
    → Wrote buf at (s ++ t) out r
wrote_then {buf} {mid} {out} {s} {t} {at} {next} {r} v w h =
    record {
      next = omega (arith, v.next, w.next, length-append s t);
      image = placed_then buf mid out at next s t (omega (arith, v.next, w.next, length-append s t)) v.next v.image w.image;
    }

pub byte-field : (n : ℕ) → n < 256 → length (field_text n) ≤ 4
byte-field n h = omega (arith, decimal_length 2 n (omega arith), length-append (decimal_of n) tab)

pub signed_20 : (z : ℤ) → SFits w64 z → length (signed_of z) ≤ 20
signed_20 (pos n) h = omega (arith, h.sfits, decimal_19 n (omega (arith, h.sfits)))
signed_20 (negsuc n) h = omega (arith, h.sfits, decimal_19 (suc n) (omega (arith, h.sfits)))
