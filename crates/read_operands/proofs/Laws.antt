-- Laws of the reader's parts. Assumes nothing.
use Prim.Native.Nat.{ℕ, zero, suc, ◌+◌, ◌*◌, ◌-◌, ◌/◌, ◌%◌, ◌<◌, ◌≤◌}
use mathlib.Core.Path.{◌≡◌, ap, sym, ◌∙◌}
use mathlib.Core.List.{List}
use lib.Dec.{ltb, eqb}
use lib.ListN.{get_or}
use native.Mathlib.Omega.{arith}
use borrow.Author.Tests.{eq-eqb, ne_eqb}
use Rattle.isa.specs.declared.Size.{Size}
use Rattle.isa.specs.declared.Size.TheVariants as size
use Rattle.base_facts.specs.Numbers.{sucs}
use Rattle.base_facts.specs.Tests.{Lt, less, past, lt?}
use Rattle.isa_values.specs.ExtensionWord.{index_register, index_operand}
use Rattle.read_spec.specs.declared.Specifier.TheVariants as specifier
use Rattle.read_spec.specs.Tree.{Tree, fail, more}
use Rattle.read_places.specs.RunAt.{run_at}
use Rattle.read_places.specs.RunAtLaws.{after_at, run_at_bind}
use Rattle.read_spec.specs.Operand.{index_of, general_of, immediate_tree, special_tree, mode_tree}
use Rattle.read_spec.specs.Layout.{one_word, two_words}

-- ---- the index register of a word
operand-is : (w : ℕ) → w < 65536 → Lt (w / 4096) 8 → index_operand w ≡ general_of (w / 4096)
operand-is w h (less p e) =
    let b : w / 32768 % 2 ≡ 0 = omega arith in
    let k : w / 4096 % 8 ≡ w / 4096 = omega arith in
    rw (e, b, k)
operand-is w h (past p e) =
    let b : w / 32768 % 2 ≡ 1 = omega arith in
    let k : w / 4096 % 8 ≡ w / 4096 - 8 = omega arith in
    rw (e, b, k)

pub index_is : (w : ℕ) → w < 65536 → index_register w ≡ index_of w
index_is w h = rw (operand-is w h (lt? (w / 4096) 8))

-- ---- trees that read alike
byte-test : (w : ℕ) → Lt w 256 → eqb (w / 256) 0 ≡ ltb w 256
byte-test w (less p e) = eq-eqb (w / 256) 0 (omega arith) ∙ sym e
byte-test w (past p e) = ne_eqb (w / 256) 0 (λ q. omega arith) ∙ sym e

pub byte-is : (a : ℕ) (ws : List ℕ) (n : ℕ) → run_at (one_word specifier.Byte) a ws n ≡ run_at (immediate_tree size.Byte) a ws n
byte-is a ws n = rw (byte-test (get_or ws n 0) (lt? (get_or ws n 0) 256))

module _ {B : Type 0} (f : ℕ → Tree B) where
  pub long_then : (a : ℕ) (ws : List ℕ) (n : ℕ) → run_at (more (λ at h. more (λ next l. f (h * 65536 + l)))) a ws n ≡ after_at a ws f (run_at (two_words specifier.Long) a ws n)
  long_then a ws n = run_at_bind (two_words specifier.Long) f a ws n

-- no register field of mode 7 above 4, and no mode field above 7
counted : (n k : ℕ) → n ≤ k → k ≡ sucs n (k - n)
counted zero k h = omega arith
counted (suc n) zero h = absurd (omega arith)
counted (suc n) (suc k) h =
    let e : suc k - suc n ≡ k - n = omega arith in
    rw e (ap suc (counted n k (omega arith)))

pub special_past : (s : Size) (k : ℕ) → 5 ≤ k → special_tree s k ≡ fail
special_past s k h = rw (counted 5 k h)

pub mode_past : (s : Size) (m k : ℕ) → 8 ≤ m → mode_tree s m k ≡ fail
mode_past s m k h = rw (counted 8 m h)
