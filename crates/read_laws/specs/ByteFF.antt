-- The byte $FF of a branch calls for a long one (02, N5).
use Rattle.std.specs.Prelude.{ℕ, ◌+◌, ◌*◌, ◌/◌, ◌%◌, ◌<◌, ◌≡◌, refl, true, List, [], ◌∷◌}
use Rattle.std.proofs.Common.{ap, ◌∙◌, arith}
use Rattle.isa.specs.declared.BranchSize.TheVariants as branch
use Rattle.base_spec.specs.Signed.{signed32}
use Rattle.encode_spec.specs.Item.{word_address}
use Rattle.read_spec.specs.declared.Specifier.TheVariants as specifier
use Rattle.read_spec.specs.declared.Group.{Group}
use Rattle.read_spec.specs.declared.Group.TheVariants as group
use Rattle.read_spec.specs.Reading.{Read, Short}
use Rattle.read_spec.specs.Tree.{ret, bind, run}
use Rattle.read_spec.specs.Number.{reach}
use Rattle.read_spec.specs.Layout.{tail_tree, alone}
use Rattle.read_spec.specs.Layouts.{branch_layout}
use Rattle.read_spec.specs.Map.{group_at, map}
use Rattle.read_spec.specs.Decoded.{branch_to, branch_decoded}
use Rattle.read_spec.specs.Read.{group_tree, word_tree, reader, reading_of, read_of}
use Rattle.read_laws.specs.MapLaws.{at_line}

-- an operation word of line 6 with the byte $FF, by its fields
ff_tree : (a x opmode ea : ℕ) (ws : List ℕ) → x < 8 → opmode < 8 → opmode % 4 * 64 + ea ≡ 255
    → run (word_tree a 6 x opmode ea) a 1 ws
    ≡ run (bind (tail_tree (alone specifier.Long)) (λ f. ret (branch_decoded a (x * 2 + opmode / 4) 255 f.value))) a 1 ws
unfolding group_at map
ff_tree a x opmode ea ws hx ho e =
    ap (λ (g : Group). run (group_tree a g 6 x opmode ea) a 1 ws) (at_line group.Branch 6 (λ o. true) refl x opmode hx ho refl).3
    ∙ ap (λ (b : ℕ). run (bind (tail_tree (branch_layout b)) (λ f. ret (branch_decoded a (x * 2 + opmode / 4) b f.value))) a 1 ws) e

halves : (v : ℕ) → v / 2 % 8 * 2 + v % 2 ≡ v % 16
halves v = omega arith

low_bit : (u : ℕ) → u % 8 / 4 ≡ u / 4 % 2
low_bit u = omega arith

-- the condition of an operation word, in bits 11 to 8
condition-is : (w : ℕ) → w / 512 % 8 * 2 + w / 64 % 8 / 4 ≡ w / 256 % 16
condition-is w =
    let p : w / 256 / 2 ≡ w / 512 = omega arith in
    let q : w / 64 / 4 ≡ w / 256 = omega arith in
    rw (low_bit (w / 64), q, ← p) (halves (w / 256))

ff_run : (a w : ℕ) → w / 4096 ≡ 6 → w % 256 ≡ 255 → (ws : List ℕ)
    → run (reader a) a 0 (w ∷ ws) ≡ run (bind (tail_tree (alone specifier.Long)) (λ f. ret (branch_decoded a (w / 256 % 16) 255 f.value))) a 1 ws
ff_run a w hl hb ws =
    let e : w / 64 % 8 % 4 * 64 + w % 64 ≡ 255 = omega (arith, hb) in
    ap (λ (line : ℕ). run (word_tree a line (w / 512 % 8) (w / 64 % 8) (w % 64)) a 1 ws) hl
    ∙ ff_tree a (w / 512 % 8) (w / 64 % 8) (w % 64) ws (omega arith) (omega arith) e
    ∙ ap (λ (k : ℕ). run (bind (tail_tree (alone specifier.Long)) (λ f. ret (branch_decoded a k 255 f.value))) a 1 ws) (condition-is w)

-- with two words more it is the long branch of its condition, with fewer the answer is 5
pub byte_ff_reads : (a w : ℕ) → w / 4096 ≡ 6 → w % 256 ≡ 255
    → (read_of (w ∷ []) a ≡ Short) × ((v : ℕ) → read_of (w ∷ v ∷ []) a ≡ Short)
    × ((v u : ℕ) (rest : List ℕ) → read_of (w ∷ v ∷ u ∷ rest) a ≡ Read (branch_to (w / 256 % 16) (reach (word_address a 1) (signed32 (v * 65536 + u))) branch.Long) 6)
unfolding read_of
byte_ff_reads a w hl hb = (
  ap reading_of (ff_run a w hl hb []),
  (λ v. ap reading_of (ff_run a w hl hb (v ∷ []))),
  (λ v u rest. ap reading_of (ff_run a w hl hb (v ∷ u ∷ rest))),
)
