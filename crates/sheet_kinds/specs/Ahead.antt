-- The kinds to come, known to be in one number: the next apart, and room for its fields. Assumes nothing.
use Rattle.std.specs.Prelude.{ℕ, ◌%◌, ◌^◌, ◌≤◌, ◌<◌, ◌≡◌, refl, List, [], ◌∷◌, ◌++◌}
use Rattle.std.proofs.Common.{sym, ap, ◌∙◌, arith}
use Rattle.sheet_spec.specs.declared.Kind.{Kind}
use Rattle.sheet_spec.specs.Grammar.{kinds_of}
use Rattle.sheet_kinds.specs.Packed.{packed, kind_at}
use Rattle.sheet_kinds.specs.Next.{kinds_after}
use Rattle.sheet_kinds.specs.NextLaws.{packed_first, packed_small, next_packed}
use Rattle.sheet_kinds.specs.Weight.{room, total, room_next, length_room}

module _ {kinds : ℕ} (ahead : List Kind) (packs : kinds ≡ packed ahead) (some : kinds ≡ 0 → ⊥) where
  -- the next kind apart
  pub split : {P : Type 0} → ((ks : List Kind) → ahead ≡ kind_at (kinds % 32) ∷ ks → P) → P
  split {P} f = go ahead refl
    where
      go : (ls : List Kind) → ahead ≡ ls → P
      go [] a = absurd (some (packs ∙ ap packed a))
      go (k ∷ ks) a =
          let q : kind_at (kinds % 32) ≡ k = ap (λ (n : ℕ). kind_at (n % 32)) (packs ∙ ap packed a) ∙ packed_first k ks in
          f ks (a ∙ ap (λ (x : Kind). x ∷ ks) (sym q))

  -- its fields put in its place
  pub next_fits : total room ahead ≤ 10 → (m : ℕ) → kinds_after kinds m < 2 ^ 64
  next_fits h m =
      split (λ ks a.
      let k : Kind = kind_at (kinds % 32) in
      let fits : total room (k ∷ ks) ≤ 10 = rw a at h in
      let next : List Kind = kinds_of k m ++ ks in
      let p : packed next < 32 ^ 10 = packed_small 10 next (omega (arith, length_room next, room_next k ks m)) in
      let z : kinds_after kinds m ≡ packed next = ap (λ (x : ℕ). kinds_after x m) (packs ∙ ap packed a) ∙ next_packed k ks m in
      omega arith)
