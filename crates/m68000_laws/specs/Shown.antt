-- What is shown encodes, and is shown again.
use Rattle.std.specs.Prelude.{ℕ, ◌*◌, ◌≡◌, refl, true, List, ◌++◌, length, take}
use Rattle.std.proofs.Common.{sym, ap, ◌∙◌, arith}
use Rattle.isa.specs.declared.Instruction.{Instruction}
use Rattle.encode_spec.specs.Item.{fine}
use Rattle.encode_spec.specs.Encode.{encode_of, refusal_of, words_of}
use Rattle.read_spec.specs.Reading.{Read}
use Rattle.read_spec.specs.Plain.{plain}
use Rattle.read_spec.specs.Read.{read_of}
use Rattle.read_spec.specs.Accepted.{Accepted, Words}
use Rattle.read_laws.specs.ReaderLaws.{complete, sound}
use Rattle.m68k_facts.specs.Laws.{accepted_words}
use Rattle.m68000_spec.specs.Reading68000.{First}
use Rattle.m68000_spec.specs.Read68000.{restricted, read_68000_of}
use Rattle.m68000_laws.specs.Exactly.{as_restricted, shown_exactly}

-- an accepted instruction's words, whatever follows them, are answered by its plain form
pub accepted_answer : (a : ℕ) (i : Instruction) (rest : List ℕ) → Accepted a i
    → read_68000_of (words_of i a ++ rest) a ≡ restricted (Read (plain i) (2 * length (words_of i a)))
accepted_answer a i rest h = as_restricted (words_of i a ++ rest) a _ (complete a i rest h)

accepted_count : (i : Instruction) (a : ℕ) → refusal_of true i a ≡ fine → ((encode_of i a).number ≡ 0) × ((encode_of i a).count ≡ length (words_of i a))
unfolding encode_of
accepted_count i a e = rw e (refl, refl)

-- an instruction that is shown is accepted, lays down the words read, and is shown again of these, whatever follows them
pub shown_again : (ws : List ℕ) (a : ℕ) (i : Instruction) (n : ℕ) → Words ws → read_68000_of ws a ≡ First (Read i n)
    → ((encode_of i a).number ≡ 0) × (2 * (encode_of i a).count ≡ n)
    × (take (encode_of i a).count (encode_of i a).words ≡ take (encode_of i a).count ws)
    × ((rest : List ℕ) → read_68000_of (take (encode_of i a).count (encode_of i a).words ++ rest) a ≡ First (Read i n))
shown_again ws a i n h e =
    let q = (shown_exactly ws a i n).0 e in
    let s = sound a ws i n h q.0 in
    let c = accepted_count i a s.0.1 in
    let w = accepted_words i a c.0 in
    let again : (rest : List ℕ) → read_of (words_of i a ++ rest) a ≡ Read i n
    = λ rest. complete a i rest s.0 ∙ ap (λ (j : Instruction). Read j (2 * length (words_of i a))) s.1 ∙ ap (λ (k : ℕ). Read i k) (sym s.2) in (
      c.0,
      omega (arith, c.1, s.2),
      w ∙ rw c.1 s.3,
      (λ rest. rw w ((shown_exactly (words_of i a ++ rest) a i n).1 (again rest) q.1)),
    )
