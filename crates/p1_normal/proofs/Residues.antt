-- Residues of integers: sums and products.
use Rattle.std.proofs.Common.{◌≡◌, ◌+◌, ◌*◌, ◌%◌, ◌<◌, ◌≤◌, ℕ, zero, suc, ◌↔◌, refl, sym, ◌∙◌, ap, subst, arith}
use Rattle.std.specs.Prelude.{ℤ, pos, negsuc, ◌+ℤ◌, ◌*ℤ◌, unsigned_abs, neg_ℤ}
use Rattle.std.proofs.Math.Nat.{dvd-mod_iff, dvd-add_iff_left, dvd-add_iff_right, dvd-mul_left_of_dvd, mod-lt, add-mod, add-mul-mod_self_left}
use Rattle.std.proofs.lemmas.Nat.{mul-mod, mul-mod_second}
use Rattle.std.specs.Int.{◌∣◌, w32, cast_signed, cast_unsigned, int_rem_euclid}
use Rattle.std.proofs.lemmas.Int.{int_rem_euclid_is, ints, to_z-of_z, to_z_pos, fits_signed_from_abs}
use Rattle.p1_normal.specs.declared.level.TheConstants.{MAX_LEVEL}
use Rattle.p1_normal.specs.declared.matrix.TheConstants.{MAX_ENTRY}
use Rattle.linear_algebra.specs.Integers.{residue_of}

pub residue_is : (N k m : ℕ) (z : ℤ) → 0 < N → z +ℤ pos (k * N) ≡ pos m → residue_of N z ≡ m % N
residue_is N k m z some e = ap unsigned_abs (int_rem_euclid_is z (pos N) N k m some refl e)

-- z and k times N are the natural m
record Natural (N : ℕ) (z : ℤ) : Type 0 where
  turns : ℕ
  value : ℕ
  same : z +ℤ pos (turns * N) ≡ pos value

natural : (n : ℕ) (z : ℤ) → Natural (suc n) z
natural n (pos a) = record { turns = 0; value = a; same = omega (arith, ints) }
natural n (negsuc b) = record { turns = suc b; value = suc b * n; same = omega (arith, ints) }

pub residue-pos : (N a : ℕ) → residue_of N (pos a) ≡ a % N
residue-pos N a = refl

pub residue-add : (n : ℕ) (x y : ℤ) → residue_of (suc n) (x +ℤ y) ≡ (residue_of (suc n) x + residue_of (suc n) y) % suc n
residue-add n x y =
    let a = natural n x in
    let b = natural n y in
    let split : (a.turns + b.turns) * suc n ≡ a.turns * suc n + b.turns * suc n = omega arith in
    let e : (x +ℤ y) +ℤ pos ((a.turns + b.turns) * suc n) ≡ pos (a.value + b.value) = omega (arith, ints, a.same, b.same, split) in
    residue_is (suc n) (a.turns + b.turns) (a.value + b.value) (x +ℤ y) (omega arith) e
    ∙ add-mod a.value b.value (suc n)
    ∙ ap (λ i. (i + b.value % suc n) % suc n) (sym (residue_is (suc n) a.turns a.value x (omega arith) a.same))
    ∙ ap (λ i. (residue_of (suc n) x + i) % suc n) (sym (residue_is (suc n) b.turns b.value y (omega arith) b.same))

minus : (n b : ℕ) → residue_of (suc n) (negsuc b) ≡ (suc b * n) % suc n
minus n b = residue_is (suc n) (suc b) (suc b * n) (negsuc b) (omega arith) (omega (arith, ints))

opposite : (n k : ℕ) → residue_of (suc n) (neg_ℤ (pos k)) ≡ (k * n) % suc n
opposite n zero = ap (λ i. i % suc n) (omega arith)
opposite n (suc b) = minus n b

pub residue-mul : (n : ℕ) (x y : ℤ) → residue_of (suc n) (x *ℤ y) ≡ (residue_of (suc n) x * residue_of (suc n) y) % suc n
residue-mul n (pos a) (pos b) = mul-mod a b (suc n)
residue-mul n (pos a) (negsuc b) =
    let e : a * suc b * n ≡ a * (suc b * n) = omega arith in
    opposite n (a * suc b) ∙ ap (λ i. i % suc n) e ∙ mul-mod a (suc b * n) (suc n) ∙ ap (λ i. (a % suc n * i) % suc n) (sym (minus n b))
residue-mul n (negsuc a) (pos b) =
    let e : suc a * b * n ≡ suc a * n * b = omega arith in
    opposite n (suc a * b) ∙ ap (λ i. i % suc n) e ∙ mul-mod (suc a * n) b (suc n) ∙ ap (λ i. (i * (b % suc n)) % suc n) (sym (minus n a))
residue-mul n (negsuc a) (negsuc b) =
    let e : suc a * suc b + suc n * (suc a * suc b * suc n) ≡ suc a * n * (suc b * n) + suc n * (2 * (suc a * suc b)) = squares n (suc a) (suc b) in
    sym (add-mul-mod_self_left (suc a * suc b) (suc n) (suc a * suc b * suc n)) ∙ ap (λ i. i % suc n) e
    ∙ add-mul-mod_self_left (suc a * n * (suc b * n)) (suc n) (2 * (suc a * suc b))
    ∙ mul-mod (suc a * n) (suc b * n) (suc n) ∙ ap (λ i. (i * ((suc b * n) % suc n)) % suc n) (sym (minus n a))
    ∙ ap (λ i. (residue_of (suc n) (negsuc a) * i) % suc n) (sym (minus n b))
  where
    squares : (n a b : ℕ) → a * b + suc n * (a * b * suc n) ≡ a * n * (b * n) + suc n * (2 * (a * b))
    squares n a b = omega arith

pub residue-neg : (n : ℕ) (z : ℤ) → residue_of (suc n) (neg_ℤ z) ≡ (n * residue_of (suc n) z) % suc n
residue-neg n (pos k) = let e : k * n ≡ n * k = omega arith in opposite n k ∙ ap (λ i. i % suc n) e ∙ sym (mul-mod_second n k (suc n))
residue-neg n (negsuc b) =
    let e : suc b + suc n * (suc b * suc n) ≡ n * (suc b * n) + suc n * (2 * suc b) = omega arith in
    sym (add-mul-mod_self_left (suc b) (suc n) (suc b * suc n)) ∙ ap (λ i. i % suc n) e ∙ add-mul-mod_self_left (n * (suc b * n)) (suc n) (2 * suc b)
    ∙ sym (mul-mod_second n (suc b * n) (suc n)) ∙ ap (λ i. (n * i) % suc n) (sym (minus n b))

-- what divides N divides an integer where it divides its residue
pub dvd-residue : (n d : ℕ) (z : ℤ) → d ∣ suc n → (d ∣ residue_of (suc n) z) ↔ (d ∣ unsigned_abs z)
dvd-residue n d (pos a) h = dvd-mod_iff d h
dvd-residue n d (negsuc b) h =
    let whole : suc b * n + suc b ≡ suc b * suc n = omega arith in
    let in_whole : d ∣ suc b * n + suc b = subst (λ x. d ∣ x) (sym whole) (dvd-mul_left_of_dvd d h (suc b)) in
    let same : residue_of (suc n) (negsuc b) ≡ (suc b * n) % suc n = minus n b in (
      λ e. let k : d ∣ suc b * n = (dvd-mod_iff d h).0 (subst (λ x. d ∣ x) same e) in (dvd-add_iff_right d k).1 in_whole,
      λ e. subst (λ x. d ∣ x) (sym same) ((dvd-mod_iff d h).1 ((dvd-add_iff_left d e).1 in_whole)),
    )

-- an entry keeps its value through its bits
pub whole : (z : ℤ) → unsigned_abs z ≤ MAX_ENTRY → cast_signed w32 (cast_unsigned w32 z) ≡ z
whole z h = to_z-of_z w32 z (fits_signed_from_abs w32 z (omega arith))

wide : (z : ℤ) → unsigned_abs z ≤ 2 * (MAX_LEVEL * MAX_ENTRY) → cast_signed w32 (cast_unsigned w32 z) ≡ z
wide z h = to_z-of_z w32 z (fits_signed_from_abs w32 z (omega arith))

abs_sum : (s t : ℤ) → unsigned_abs s ≤ MAX_LEVEL * MAX_ENTRY → unsigned_abs t ≤ MAX_LEVEL * MAX_ENTRY
    → unsigned_abs (s +ℤ t) ≤ 2 * (MAX_LEVEL * MAX_ENTRY)
abs_sum s t g h = omega (arith, ints)

pub residue-lt : (n : ℕ) (z : ℤ) → residue_of (suc n) z < suc n
residue-lt n z = let a = natural n z in subst (λ i. i < suc n) (sym (residue_is (suc n) a.turns a.value z (omega arith) a.same))
    (mod-lt a.value (omega arith))

-- what the code computes for u x + v y
pub part_value : (N u v : ℕ) (x y s t r : ℤ) → 0 < N → N ≤ MAX_LEVEL → unsigned_abs x ≤ MAX_ENTRY → unsigned_abs y ≤ MAX_ENTRY
    → unsigned_abs s ≤ MAX_LEVEL * MAX_ENTRY → unsigned_abs t ≤ MAX_LEVEL * MAX_ENTRY →
    s ≡ pos u *ℤ cast_signed w32 (cast_unsigned w32 x) → t ≡ pos v *ℤ cast_signed w32 (cast_unsigned w32 y) →
    r ≡ int_rem_euclid (cast_signed w32 (cast_unsigned w32 (cast_signed w32 (cast_unsigned w32 s) +ℤ cast_signed w32 (cast_unsigned w32 t))))
    (cast_signed w32 N) →
    unsigned_abs (cast_signed w32 (cast_unsigned w32 r)) ≡ residue_of N (pos u *ℤ x +ℤ pos v *ℤ y)
part_value zero u v x y s t r some small hx hy hs ht es et e = absurd (omega arith)
part_value (suc n) u v x y s t r some small hx hy hs ht es et e =
    let sum : ℤ = s +ℤ t in
    let kept_s : cast_signed w32 (cast_unsigned w32 s) ≡ s = wide s (omega arith) in
    let kept_t : cast_signed w32 (cast_unsigned w32 t) ≡ t = wide t (omega arith) in
    let kept_sum : cast_signed w32 (cast_unsigned w32 (s +ℤ t)) ≡ s +ℤ t = wide (s +ℤ t) (abs_sum s t hs ht) in
    let divisor : cast_signed w32 (suc n) ≡ pos (suc n) = to_z_pos w32 (suc n) (omega arith) in
    let value : r ≡ int_rem_euclid (s +ℤ t) (pos (suc n)) =
    e ∙ ap (λ i. int_rem_euclid (cast_signed w32 (cast_unsigned w32 (i +ℤ cast_signed w32 (cast_unsigned w32 t)))) (cast_signed w32 (suc n))) kept_s
    ∙ ap (λ i. int_rem_euclid (cast_signed w32 (cast_unsigned w32 (s +ℤ i))) (cast_signed w32 (suc n))) kept_t
    ∙ ap (λ i. int_rem_euclid i (cast_signed w32 (suc n))) kept_sum
    ∙ ap (λ i. int_rem_euclid (s +ℤ t) i) divisor in
    let below : unsigned_abs r ≤ 2 * (MAX_LEVEL * MAX_ENTRY) = omega (arith, ap unsigned_abs value, residue-lt n (s +ℤ t)) in
    ap unsigned_abs (wide r below ∙ value)
    ∙ ap (λ i. residue_of (suc n) (i +ℤ t)) (es ∙ ap (λ i. pos u *ℤ i) (whole x hx))
    ∙ ap (λ i. residue_of (suc n) (pos u *ℤ x +ℤ i)) (et ∙ ap (λ i. pos v *ℤ i) (whole y hy))
