-- A field of more than eight bytes has its place among the names of its length. Assumes nothing.
use Rattle.std.specs.Prelude.{ℕ, suc, ◌<◌, ◌≡◌, refl, Bool, true, false, cond, eqb, leb, List, [], ◌∷◌, map, length, Option, Some, None}
use Rattle.std.proofs.Common.{sym, ◌∙◌, arith}
use Rattle.base_facts.specs.Tests.{Eq, same, other, eq?, leb_is}
use Rattle.sheet_spec.specs.declared.Kind.{Kind}
use Rattle.sheet_spec.specs.Line.{equal}
use Rattle.sheet_spec.specs.Names.{bytes, names_of}
use Rattle.sheet_field.specs.Place.{long_from, long_place}
use Rattle.sheet_field.proofs.Laws.{equal_lengths}

-- the first place from k on of a field among the names of m bytes
abbrev pub length_from : ℕ → ℕ → List ℕ → List (List ℕ) → Option ℕ
length_from m k f [] = None
length_from m k f (n ∷ ns) = cond (eqb (length n) m) (cond (equal f n) (Some k) (length_from m (suc k) f ns)) (length_from m (suc k) f ns)

unfoldable pub of_length : ℕ → Kind → List ℕ → Option ℕ
of_length m kind f = length_from m 0 f (map bytes (names_of kind))

of_length-from : (m k : ℕ) (f : List ℕ) (ns : List (List ℕ)) → 8 < m → length f ≡ m → length_from m k f ns ≡ long_from k f ns
of_length-from m k f [] h e = refl
of_length-from m k f (n ∷ ns) h e = rw (of_length-from m (suc k) f ns h e) (go (eq? (length n) m) (leb (length n) 8) refl)
  where
    next : Option ℕ
    next = long_from (suc k) f ns

    go : Eq (length n) m → (u : Bool) → leb (length n) 8 ≡ u → cond (eqb (length n) m) (cond (equal f n) (Some k) next) next ≡ cond u next (cond (equal f n) (Some k) next)
    go (same q t) true d = absurd (omega (arith, leb_is (length n) 8 d))
    go (same q t) false d = rw t
    go (other q t) true d = rw t
    go (other q t) false d = rw (t, equal_lengths f n (λ r. q (sym r ∙ e)))

pub of_length_lem : (kind : Kind) (m : ℕ) (f : List ℕ) → 8 < m → length f ≡ m → of_length m kind f ≡ long_place kind f
unfolding long_place of_length
of_length_lem kind m f h e = of_length-from m 0 f (map bytes (names_of kind)) h e
