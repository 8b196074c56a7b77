-- What `encode` lays down reads back, and what `read` gives encodes to the words read.
use Rattle.std.specs.Prelude.{ℕ, suc, ◌*◌, ◌-◌, ◌<◌, ◌≤◌, ◌≡◌, refl, true, List, [], ◌∷◌, ◌++◌, length, take, replicate, get_or}
use Rattle.std.proofs.Common.{ap, sym, ◌∙◌, append-nil, arith, length-take, take_at}
use Rattle.isa.specs.declared.Instruction.{Instruction}
use Rattle.isa.specs.declared.Encoded.{Encoded}
use Rattle.isa.specs.declared.Measured.{Measured}
use Rattle.encode_spec.specs.Item.{Verdict, fine, malformed, out_of_range, no_encoding}
use Rattle.encode_spec.specs.Encode.{encoded_as, encode_of, size_of, refusal_of, words_of}
use Rattle.read_spec.specs.Reading.{Reading, Read}
use Rattle.read_spec.specs.Plain.{plain}
use Rattle.read_spec.specs.Read.{read_of}
use Rattle.m68k_facts.specs.Laws.{size_law}
use Rattle.read_spec.specs.Accepted.{InstructionInTypes, Accepted, Words}
use Rattle.read_spec.specs.RoundTrip.{read_back_of, ReadsBack, written_back, WritesBack}
use Rattle.read_laws.specs.ReaderLaws.{complete, sound}

-- an accepted instruction's words are those that count
pub encoded_words_lem : (i : Instruction) (a : ℕ) → refusal_of true i a ≡ fine
    → ((encode_of i a).number ≡ 0) × ((encode_of i a).count ≡ length (words_of i a)) × (take (encode_of i a).count (encode_of i a).words ≡ words_of i a)
unfolding encode_of
encoded_words_lem i a e =
    rw e (refl, refl, take_at (words_of i a) (replicate {A = ℕ} (11 - length (words_of i a)) 0) (length (words_of i a)) refl)

-- read of what encode laid down, with anything after it
pub read-encoded : (i : Instruction) (a : ℕ) (rest : List ℕ) → Accepted a i
    → read_of (take (encode_of i a).count (encode_of i a).words ++ rest) a ≡ Read (plain i) (2 * (encode_of i a).count)
read-encoded i a rest h =
    let e = encoded_words_lem i a h.1 in
    rw (e.2, e.1) (complete a i rest h)

-- encode of what read gave
pub encode_read : (ws : List ℕ) (a : ℕ) (i : Instruction) (n : ℕ) → Words ws → read_of ws a ≡ Read i n
    → ((encode_of i a).number ≡ 0) × (2 * (encode_of i a).count ≡ n) × (take (encode_of i a).count (encode_of i a).words ≡ take (encode_of i a).count ws)
encode_read ws a i n h e =
    let s = sound a ws i n h e in
    let w = encoded_words_lem i a s.0.1 in
    (w.0, rw w.1 (sym s.2), w.2 ∙ rw w.1 s.3)

-- ---- the same as the contracts have it
accepted_is : (i : Instruction) (a : ℕ) → (encode_of i a).number ≡ 0 → refusal_of true i a ≡ fine
unfolding encode_of
accepted_is i a h = go (refusal_of true i a) h
  where
    go : (v : Verdict) → (encoded_as v (words_of i a)).number ≡ 0 → v ≡ fine
    go fine e = refl
    go malformed e = absurd (omega (arith, e))
    go (out_of_range f z) e = absurd (omega (arith, e))
    go (no_encoding r) e = absurd (omega (arith, e))

pub reads_back : (i : Instruction) (a : ℕ) (r : Reading) → InstructionInTypes i → r ≡ read_back_of i a → ReadsBack i a r
unfolding read_back_of
reads_back i a r t e n l =
    let h : Accepted a i = (t, accepted_is i a n, l) in
    let z : (size_of i).size ≡ 2 * (encode_of i a).count = ap (λ (m : Measured). m.size) (size_law i a n) in
    e ∙ ap (λ (ws : List ℕ). read_of ws a) (sym (append-nil (take (encode_of i a).count (encode_of i a).words))) ∙ read-encoded i a [] h ∙ ap (λ (k : ℕ). Read (plain i) k) (sym z)

pub writes_back : (ws : List ℕ) (a : ℕ) (r : Encoded) → Words ws → r ≡ written_back (read_of ws a) a → WritesBack ws a r
writes_back ws a r h e i n g =
    let q : r ≡ encode_of i a = e ∙ ap (λ (x : Reading). written_back x a) g in
    rw q (encode_read ws a i n h g)

pub back : (i : Instruction) (a : ℕ) (e : Encoded) → e ≡ encode_of i a → read_of (take e.count e.words) a ≡ read_back_of i a
unfolding read_back_of
back i a e h = ap (λ (x : Encoded). read_of (take x.count x.words) a) h

pub written : (r : Reading) (a : ℕ) (i : Instruction) (n : ℕ) {e : Encoded} → r ≡ Read i n → e ≡ encode_of i a → e ≡ written_back r a
written r a i n h g = g ∙ ap (λ (x : Reading). written_back x a) (sym h)

pub words_all : (ws : List ℕ) → ((k : ℕ) → get_or ws k 0 < 65536) → Words ws
words_all [] h = tt
words_all (w ∷ ws) h = (h 0, words_all ws (λ k. h (suc k)))

pub take_count : (n : ℕ) (ws : List ℕ) → n ≤ length ws → n ≡ length (take n ws)
take_count n ws h = rw (length-take n ws) (omega arith)
