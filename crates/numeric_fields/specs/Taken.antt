-- What the code reads from places is what is taken from the numbers that they hold. Assumes nothing.
use Prim.Native.Nat.{ℕ, zero, suc, ◌+◌, ◌-◌, ◌^◌, ◌≤◌, ◌<◌, min}
use Rattle.std.specs.Prelude.{◌≡◌, ◌&&◌, List, [], ◌∷◌, leb, ltb, negsuc, length, drop}
use Rattle.std.proofs.Math.Path.{refl, sym, ap}
use Rattle.std.proofs.Common.{◌∙◌, arith, add-one, drop_of_length-le, drop-cons, ltb-true}
use Rattle.std.proofs.Math.Bool.{Bool, true, false, cond}
use Rattle.std.proofs.Math.IntN.{ℤ, pos, nat_abs}
use Rattle.std.proofs.Math.ListN.{get_or, length-take}
use Rattle.std.proofs.Math.Seq.{get_or-take}
use Rattle.isa.specs.declared.Operand.TheVariants.{Immediate, Register, Indirect, PostIndirect, PreIndirect, IndirectDisplacement, IndirectIndex, PcDisplacement, PcIndex, Extended, Absolute}
use Rattle.isa.specs.declared.TrapOperand.TheVariants as trap
use Rattle.std.specs.declared.option.Option.TheVariants as choice
use Rattle.base_facts.specs.Tests.{Lt, lt?, less, past, and-true, never}
use Rattle.numeric_places.specs.declared.Numbers.{Numbers}
use Rattle.numeric_spec.specs.Entry.{is_i32}
use Rattle.numeric_spec.specs.Value.{size_by_place, address_width_by_place, register_by_place, field_value_by_place}
use Rattle.numeric_spec.specs.Take.{Taken, taken, not_there, Take, then_take, given, none, make1, take_unsigned, take_signed, take_byte, take_word, take_long, take_size, take_address_width, take_register, take_index, take_field_value, take_bit_field, take_trap_operand, take_register_choice, operand_payloads, take_operand}
use Rattle.base_spec.specs.Signed.{minus}
use Rattle.numeric_places.specs.Places.{signed_from, numbers_held}
use Rattle.numeric_fields.specs.declared.UnsignedAt.{UnsignedAt}
use Rattle.numeric_fields.specs.declared.SignedAt.{SignedAt}
use Rattle.numeric_fields.specs.Number.{number_at, present, up_to, unsigned_at, signed_at, byte_at, word_at, long_at}
use Rattle.numeric_fields.specs.Part.{size_at, address_width_at, register_at, index_at, field_value_at, bit_field_at, trap_operand_of, trap_operand_at, register_choice_of, register_choice_at}
use Rattle.numeric_fields.specs.NumberLaws.{unsigned_le}
use Rattle.numeric_fields.specs.Operand.{immediate_at, register_operand_at, indirect_at, post_indirect_at, pre_indirect_at, indirect_displacement_at, indirect_index_at, pc_displacement_at, pc_index_at, extended_at, absolute_at, operand_of, operand_at}

-- ---- the numbers that 24 places hold
pub record Whole (ns : Numbers) : Type 0 where
  pub negative : length ns.negative ≡ 24
  pub magnitude : length ns.magnitude ≡ 24

signed_length : (ss : List Bool) (ms : List ℕ) → length ss ≡ length ms → length (signed_from ss ms) ≡ length ms
signed_length [] [] e = refl
signed_length [] (m ∷ ms) e = absurd (omega arith)
signed_length (s ∷ ss) [] e = refl
signed_length (s ∷ ss) (m ∷ ms) e = ap suc (signed_length ss ms (omega arith))

signed_at_lem : (ss : List Bool) (ms : List ℕ) (k : ℕ) → k < length ss → k < length ms → get_or (signed_from ss ms) k (pos 0) ≡ cond (get_or ss k false) (minus (get_or ms k 0)) (pos (get_or ms k 0))
signed_at_lem [] ms k h g = absurd (omega arith)
signed_at_lem (s ∷ ss) [] k h g = absurd (omega arith)
signed_at_lem (s ∷ ss) (m ∷ ms) zero h g = refl
signed_at_lem (s ∷ ss) (m ∷ ms) (suc k) h g = signed_at_lem ss ms k (omega arith) (omega arith)

module _ (ns : Numbers) (w : Whole ns) where
  pub listed_length : length (numbers_held ns) ≡ min ns.count 24
  unfolding numbers_held
  listed_length =
      length-take ns.count (signed_from ns.negative ns.magnitude)
      ∙ ap (min ns.count) (signed_length ns.negative ns.magnitude (w.negative ∙ sym w.magnitude) ∙ w.magnitude)

  number-listed : (k : ℕ) → k < 24 → k < ns.count → get_or (numbers_held ns) k (pos 0) ≡ number_at ns k
  unfolding numbers_held
  number-listed k h g =
      get_or-take ns.count (signed_from ns.negative ns.magnitude) k (pos 0) g
      ∙ signed_at_lem ns.negative ns.magnitude k (omega (arith, w.negative)) (omega (arith, w.magnitude))

  listed_there : (k : ℕ) → present ns k ≡ true → (drop k (numbers_held ns) ≡ number_at ns k ∷ drop (k + 1) (numbers_held ns)) × (k + 1 ≤ length (numbers_held ns))
  listed_there k e =
      let b = and-true (ltb k 24) (ltb k ns.count) e in
      let h : k < 24 = ltb-true k 24 b.0 in
      let g : k < ns.count = ltb-true k ns.count b.1 in
      let l : k < length (numbers_held ns) = omega (arith, listed_length) in
      (drop-cons (numbers_held ns) k (pos 0) l ∙ rw (number-listed k h g, add-one), omega arith)

  listed_past : (k : ℕ) → present ns k ≡ false → drop k (numbers_held ns) ≡ []
  listed_past k e = drop_of_length-le (numbers_held ns) {i = k} (go (lt? k 24) (lt? k ns.count))
    where
      go : Lt k 24 → Lt k ns.count → length (numbers_held ns) ≤ k
      go (less h a) (less g b) = never (sym e ∙ rw (a, b))
      go (less h a) (past g b) = omega (arith, listed_length)
      go (past h a) g = omega (arith, listed_length)

-- what is read from places, with its test, its value and the next place, against what is taken
pub record Same {A : Type 0} (zs : List ℤ) (ok : Bool) (a : A) (n : ℕ) (t : Taken A) : Type 0 where
  pub is : t ≡ cond ok (taken a (drop n zs)) not_there
  pub ends : ok ≡ true → n ≤ length zs

pub same-given : {A : Type 0} {zs : List ℤ} {k : ℕ} (a : A) → k ≤ length zs → Same zs true a k (given a (drop k zs))
same-given a h = record { is = refl; ends = λ e. h }

pub same_none : {A : Type 0} {zs : List ℤ} {k : ℕ} {a : A} {t : Taken A} → t ≡ not_there → Same zs false a k t
same_none e = record { is = e; ends = λ e. never e }

module _ {A B : Type 0} {zs : List ℤ} {p : Bool} {a : A} {n : ℕ} {r : Taken A} where
  pub same-one : (make : A → B) → Same zs p a n r → Same zs p (make a) n (then_take r (λ x end. taken (make x) end))
  same-one make S = record { is = go p S.is; ends = S.ends }
    where
      go : (p : Bool) → r ≡ cond p (taken a (drop n zs)) not_there → then_take r (λ x end. taken (make x) end) ≡ cond p (taken (make a) (drop n zs)) not_there
      go true e = rw e
      go false e = rw e

  -- one after another, the second read where the first ends
  pub same_next : {q : Bool} {b : B} {m : ℕ} (f : A → Take B) → Same zs p a n r → (n ≤ length zs → Same zs q b m (f a (drop n zs))) → Same zs (p && q) b m (then_take r f)
  same_next {q} {b} {m} f S F = go p S.is (λ e. F (S.ends e))
    where
      go : (p : Bool) → r ≡ cond p (taken a (drop n zs)) not_there → (p ≡ true → Same zs q b m (f a (drop n zs))) → Same zs (p && q) b m (then_take r f)
      go true e F = let d = F refl in record { is = rw e d.is; ends = d.ends }
      go false e F = same_none (rw e)

  pub same-both : {q : Bool} {b : B} {m : ℕ} (u : Take B) → Same zs p a n r → Same zs q b m (u (drop n zs))
      → Same {A = A × B} zs (p && q) (a, b) m (then_take r (λ x rest. then_take (u rest) (λ y end. taken (x, y) end)))
  same-both {q} {b} {m} u S U = go p q S.is U.is U.ends
    where
      go : (p q : Bool) → r ≡ cond p (taken a (drop n zs)) not_there → u (drop n zs) ≡ cond q (taken b (drop m zs)) not_there → (q ≡ true → m ≤ length zs)
          → Same {A = A × B} zs (p && q) (a, b) m (then_take r (λ x rest. then_take (u rest) (λ y end. taken (x, y) end)))
      go true true e f h = record { is = rw (e, f); ends = h }
      go true false e f h = same_none (rw (e, f))
      go false q e f h = same_none (rw e)

-- ---- numbers
module _ (ns : Numbers) (w : Whole ns) where
  pub unsigned_same : (top k : ℕ) → Same (numbers_held ns) (unsigned_at top ns k).ok (unsigned_at top ns k).value (unsigned_at top ns k).next (take_unsigned top (drop k (numbers_held ns)))
  unfolding unsigned_at take_unsigned
  unsigned_same top k = go (present ns k) refl (number_at ns k) refl
    where
      read : Bool → ℤ → UnsignedAt
      read p z = cond (p && up_to top z) (record { ok = true; value = nat_abs z; next = k + 1 }) (record { ok = false; value = 0; next = k })

      up : (n : ℕ) (b : Bool) → leb n top ≡ b → (drop k (numbers_held ns) ≡ pos n ∷ drop (k + 1) (numbers_held ns)) × (k + 1 ≤ length (numbers_held ns))
          → Same (numbers_held ns) (read true (pos n)).ok (read true (pos n)).value (read true (pos n)).next (take_unsigned top (drop k (numbers_held ns)))
      up n true h d = record { is = rw (d.0, h); ends = rw h (λ e. d.1) }
      up n false h d = record { is = rw (d.0, h); ends = rw h (λ e. never e) }

      go : (p : Bool) → present ns k ≡ p → (z : ℤ) → number_at ns k ≡ z → Same (numbers_held ns) (read p z).ok (read p z).value (read p z).next (take_unsigned top (drop k (numbers_held ns)))
      go true hp (pos n) hz = let d = listed_there ns w k hp in up n (leb n top) refl (d.0 ∙ ap (λ (z : ℤ). z ∷ drop (k + 1) (numbers_held ns)) hz, d.1)
      go true hp (negsuc n) hz = same_none (ap (take_unsigned top) ((listed_there ns w k hp).0 ∙ ap (λ (z : ℤ). z ∷ drop (k + 1) (numbers_held ns)) hz))
      go false hp z hz = same_none (ap (take_unsigned top) (listed_past ns w k hp))

  pub signed_same : (k : ℕ) → Same (numbers_held ns) (signed_at ns k).ok (signed_at ns k).value (signed_at ns k).next (take_signed (drop k (numbers_held ns)))
  unfolding signed_at take_signed
  signed_same k = go (present ns k) refl (is_i32 (number_at ns k)) refl
    where
      read : Bool → Bool → SignedAt
      read p t = cond (p && t) (record { ok = true; value = number_at ns k; next = k + 1 }) (record { ok = false; value = pos 0; next = k })

      go : (p : Bool) → present ns k ≡ p → (t : Bool) → is_i32 (number_at ns k) ≡ t → Same (numbers_held ns) (read p t).ok (read p t).value (read p t).next (take_signed (drop k (numbers_held ns)))
      go true hp true ht = let d = listed_there ns w k hp in record { is = ap take_signed d.0 ∙ rw ht; ends = λ e. d.1 }
      go true hp false ht = same_none (ap take_signed (listed_there ns w k hp).0 ∙ rw ht)
      go false hp t ht = same_none (ap take_signed (listed_past ns w k hp))

  pub byte-same : (k : ℕ) → Same (numbers_held ns) (byte_at ns k).ok (byte_at ns k).value (byte_at ns k).next (take_byte (drop k (numbers_held ns)))
  unfolding byte_at
  byte-same k = unsigned_same (2 ^ 8 - 1) k

  pub word_same : (k : ℕ) → Same (numbers_held ns) (word_at ns k).ok (word_at ns k).value (word_at ns k).next (take_word (drop k (numbers_held ns)))
  unfolding word_at
  word_same k = unsigned_same (2 ^ 16 - 1) k

  pub long_same : (k : ℕ) → Same (numbers_held ns) (long_at ns k).ok (long_at ns k).value (long_at ns k).next (take_long (drop k (numbers_held ns)))
  unfolding long_at
  long_same k = unsigned_same (2 ^ 32 - 1) k

  pub long_next_lem : (k : ℕ) → (long_at ns k).ok ≡ true → (long_at ns k).next ≡ k + 1
  unfolding long_at unsigned_at
  long_next_lem k = go (present ns k && up_to (2 ^ 32 - 1) (number_at ns k))
    where
      go : (t : Bool) → (cond {A = UnsignedAt} t (record { ok = true; value = nat_abs (number_at ns k); next = k + 1 }) (record { ok = false; value = 0; next = k })).ok ≡ true
          → (cond {A = UnsignedAt} t (record { ok = true; value = nat_abs (number_at ns k); next = k + 1 }) (record { ok = false; value = 0; next = k })).next ≡ k + 1
      go true e = refl
      go false e = never e

  -- ---- enums, registers
  pub size_same : (k : ℕ) → Same (numbers_held ns) (size_at ns k).ok (size_at ns k).size (size_at ns k).next (take_size (drop k (numbers_held ns)))
  unfolding size_at
  size_same k = same-one size_by_place (unsigned_same 2 k)

  address_width-same : (k : ℕ) → Same (numbers_held ns) (address_width_at ns k).ok (address_width_at ns k).width (address_width_at ns k).next (take_address_width (drop k (numbers_held ns)))
  unfolding address_width_at
  address_width-same k = same-one address_width_by_place (unsigned_same 1 k)

  pub register-same : (k : ℕ) → Same (numbers_held ns) (register_at ns k).ok (register_at ns k).register (register_at ns k).next (take_register (drop k (numbers_held ns)))
  unfolding register_at take_register
  register-same k =
      let p = unsigned_at 1 ns k in
      same_next (λ place. make1 (register_by_place place) take_byte) (unsigned_same 1 k) (λ h. same-one (register_by_place p.value) (byte-same p.next))

  field-value-same : (k : ℕ) → Same (numbers_held ns) (field_value_at ns k).ok (field_value_at ns k).value (field_value_at ns k).next (take_field_value (drop k (numbers_held ns)))
  unfolding field_value_at take_field_value
  field-value-same k =
      let p = unsigned_at 1 ns k in
      same_next (λ place. make1 (field_value_by_place place) take_byte) (unsigned_same 1 k) (λ h. same-one (field_value_by_place p.value) (byte-same p.next))

  index_same : (k : ℕ) → Same (numbers_held ns) (index_at ns k).ok (index_at ns k).index (index_at ns k).next (take_index (drop k (numbers_held ns)))
  unfolding index_at take_index
  index_same k = same-one (λ x. record { register = x.0; size = x.1 }) (same-both take_size (register-same k) (size_same (register_at ns k).next))

  pub bit_field-same : (k : ℕ) → Same (numbers_held ns) (bit_field_at ns k).ok (bit_field_at ns k).field (bit_field_at ns k).next (take_bit_field (drop k (numbers_held ns)))
  unfolding bit_field_at take_bit_field
  bit_field-same k = same-one (λ x. record { offset = x.0; width = x.1 }) (same-both take_field_value (field-value-same k) (field-value-same (field_value_at ns k).next))

  trap_same : (p : ℕ) → p ≤ 2 → (k : ℕ) → k ≤ length (numbers_held ns)
      → Same (numbers_held ns) (trap_operand_of p ns k).ok (trap_operand_of p ns k).operand (trap_operand_of p ns k).next (get_or (given trap.None ∷ make1 trap.Word take_word ∷ make1 trap.Long take_long ∷ []) p none (drop k (numbers_held ns)))
  unfolding trap_operand_of
  trap_same zero h k e = same-given trap.None e
  trap_same (suc zero) h k e = same-one trap.Word (word_same k)
  trap_same (suc (suc zero)) h k e = same-one trap.Long (long_same k)
  trap_same (suc (suc (suc p))) h k e = absurd (omega arith)

  pub trap_operand-same : (k : ℕ) → Same (numbers_held ns) (trap_operand_at ns k).ok (trap_operand_at ns k).operand (trap_operand_at ns k).next (take_trap_operand (drop k (numbers_held ns)))
  unfolding trap_operand_at take_trap_operand
  trap_operand-same k =
      let p = unsigned_at 2 ns k in
      same_next (λ place. get_or (given trap.None ∷ make1 trap.Word take_word ∷ make1 trap.Long take_long ∷ []) place none) (unsigned_same 2 k) (λ h. trap_same p.value (unsigned_le 2 ns k) p.next h)

  choice-same : (p : ℕ) → p ≤ 1 → (k : ℕ) → k ≤ length (numbers_held ns)
      → Same (numbers_held ns) (register_choice_of p ns k).ok (register_choice_of p ns k).register (register_choice_of p ns k).next (get_or (given choice.None ∷ make1 choice.Some take_byte ∷ []) p none (drop k (numbers_held ns)))
  unfolding register_choice_of
  choice-same zero h k e = same-given choice.None e
  choice-same (suc zero) h k e = same-one choice.Some (byte-same k)
  choice-same (suc (suc p)) h k e = absurd (omega arith)

  pub register_choice-same : (k : ℕ) → Same (numbers_held ns) (register_choice_at ns k).ok (register_choice_at ns k).register (register_choice_at ns k).next (take_register_choice (drop k (numbers_held ns)))
  unfolding register_choice_at take_register_choice
  register_choice-same k =
      let p = unsigned_at 1 ns k in
      same_next (λ place. get_or (given choice.None ∷ make1 choice.Some take_byte ∷ []) place none) (unsigned_same 1 k) (λ h. choice-same p.value (unsigned_le 1 ns k) p.next h)

  -- ---- operands
  operand_of-same : (p : ℕ) → p ≤ 10 → (k : ℕ) → Same (numbers_held ns) (operand_of p ns k).ok (operand_of p ns k).operand (operand_of p ns k).next (get_or operand_payloads p none (drop k (numbers_held ns)))
  unfolding operand_payloads operand_of immediate_at register_operand_at indirect_at post_indirect_at pre_indirect_at indirect_displacement_at indirect_index_at pc_displacement_at pc_index_at extended_at absolute_at
  operand_of-same zero h k = same-one Immediate (long_same k)
  operand_of-same (suc zero) h k = same-one Register (register-same k)
  operand_of-same (suc (suc zero)) h k = same-one Indirect (byte-same k)
  operand_of-same (suc (suc (suc zero))) h k = same-one PostIndirect (byte-same k)
  operand_of-same (suc (suc (suc (suc zero)))) h k = same-one PreIndirect (byte-same k)
  operand_of-same (suc (suc (suc (suc (suc zero))))) h k = same-one (λ x. IndirectDisplacement x.0 x.1) (same-both take_register (signed_same k) (register-same (signed_at ns k).next))
  operand_of-same (suc (suc (suc (suc (suc (suc zero)))))) h k = same-one (λ x. IndirectIndex x.0.0 x.0.1 x.1) (same-both take_index (same-both take_signed (register-same k) (signed_same (register_at ns k).next)) (index_same (signed_at ns (register_at ns k).next).next))
  operand_of-same (suc (suc (suc (suc (suc (suc (suc zero))))))) h k = same-one PcDisplacement (long_same k)
  operand_of-same (suc (suc (suc (suc (suc (suc (suc (suc zero)))))))) h k = same-one (λ x. PcIndex x.0 x.1) (same-both take_index (long_same k) (index_same (long_at ns k).next))
  operand_of-same (suc (suc (suc (suc (suc (suc (suc (suc (suc zero))))))))) h k =
      let word = word_at ns (byte_at ns k).next in
      same-one (λ x. Extended x.0.0.0 x.0.0.1 x.0.1 x.1) (same-both take_signed (same-both take_signed (same-both take_word (byte-same k) (word_same (byte_at ns k).next)) (signed_same word.next)) (signed_same (signed_at ns word.next).next))
  operand_of-same (suc (suc (suc (suc (suc (suc (suc (suc (suc (suc zero)))))))))) h k = same-one (λ x. Absolute x.0 x.1) (same-both take_address_width (unsigned_same (2 ^ 64 - 1) k) (address_width-same (unsigned_at (2 ^ 64 - 1) ns k).next))
  operand_of-same (suc (suc (suc (suc (suc (suc (suc (suc (suc (suc (suc p))))))))))) h k = absurd (omega arith)

  pub operand_same : (k : ℕ) → Same (numbers_held ns) (operand_at ns k).ok (operand_at ns k).operand (operand_at ns k).next (take_operand (drop k (numbers_held ns)))
  unfolding operand_at take_operand
  operand_same k =
      let p = unsigned_at 10 ns k in
      same_next (λ place. get_or operand_payloads place none) (unsigned_same 10 k) (λ h. operand_of-same p.value (unsigned_le 10 ns k) p.next)
