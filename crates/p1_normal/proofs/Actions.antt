-- Matrices act on points.
use Rattle.std.proofs.Common.{◌≡◌, ◌+◌, ◌*◌, ◌%◌, ◌<◌, ℕ, zero, suc, refl, sym, ◌∙◌, ap, subst, arith}
use Rattle.std.specs.Prelude.{ℤ, pos, negsuc, neg_ℤ, ◌+ℤ◌, ◌*ℤ◌}
use Rattle.std.specs.Int.{◌∣◌}
use Rattle.std.proofs.Math.Nat.{zero-mod, mod_self, mod-mod, mod-add-mod, add-mod-mod, dvd_trans, dvd-mod_iff, dvd-add, dvd-add_iff_left, dvd-mul_left_of_dvd, dvd-mul_right_of_dvd, eq-one_of_dvd-one}
use Rattle.std.proofs.lemmas.Nat.{mul-mod_first, mul-mod_second}
use Rattle.p1_normal.specs.declared.point.Point.{Point}
use Rattle.p1_normal.specs.declared.matrix.Matrix.{Matrix}
use Rattle.p1_normal.specs.Units.{gcd, IsUnit}
use Rattle.linear_algebra.specs.Integers.{residue_of}
use Rattle.p1_normal.specs.Points.{point, SamePoint, common_divisor, pair_multiple}
use Rattle.p1_normal.specs.Actions.{image, determinant, product, matrix}
use Rattle.p1_normal.proofs.Units.{inner, IsGcd-gcd, IsUnit-from_gcd, IsUnit-from_mod, gcd_from_IsUnit}
use Rattle.p1_normal.proofs.Places.{same_point}
use Rattle.p1_normal.proofs.Residues.{residue-add, residue-mul, residue-neg}

-- the matrix of residues acts as the matrix
pub image_by : ℕ → ℕ → ℕ → ℕ → ℕ → Point → Point
image_by N a b c d p = point ((p.u * a + p.v * c) % N) ((p.u * b + p.v * d) % N)

part : (n u v : ℕ) (x y : ℤ) → residue_of (suc n) (pos u *ℤ x +ℤ pos v *ℤ y) ≡ (u * residue_of (suc n) x + v * residue_of (suc n) y) % suc n
part n u v x y = residue-add n (pos u *ℤ x) (pos v *ℤ y)
    ∙ ap (λ i. (i + residue_of (suc n) (pos v *ℤ y)) % suc n) (residue-mul n (pos u) x)
    ∙ ap (λ i. ((u % suc n * residue_of (suc n) x) % suc n + i) % suc n) (residue-mul n (pos v) y)
    ∙ tidy u v (residue_of (suc n) x) (residue_of (suc n) y)
  where
    tidy : (u v a b : ℕ) → ((u % suc n * a) % suc n + (v % suc n * b) % suc n) % suc n ≡ (u * a + v * b) % suc n
    tidy u v a b = simp inner refl

pub image_is : (n : ℕ) (p : Point) (m : Matrix) → image (suc n) p m ≡ image_by (suc n) (residue_of (suc n) m.a) (residue_of (suc n) m.b)
    (residue_of (suc n) m.c) (residue_of (suc n) m.d) p
unfolding image image_by
image_is n p m = same_point (image (suc n) p m) (image_by (suc n) (residue_of (suc n) m.a) (residue_of (suc n) m.b) (residue_of (suc n) m.c)
    (residue_of (suc n) m.d) p) (part n p.u p.v m.a m.c) (part n p.u p.v m.b m.d)

mod_parts : (N y z a c : ℕ) → (y % N * a + z % N * c) % N ≡ (y * a + z * c) % N
mod_parts N y z a c = sym (mod-add-mod (y % N * a) N (z % N * c)) ∙ ap (λ i. (i + z % N * c) % N) (mul-mod_first y a N)
    ∙ mod-add-mod (y * a) N (z % N * c)
    ∙ sym (add-mod-mod (y * a) (z % N * c) N) ∙ ap (λ i. (y * a + i) % N) (mul-mod_first z c N) ∙ add-mod-mod (y * a) (z * c) N

-- ---- the action respects the names of a point
across : (N s u v w x a c : ℕ) → (s * u) % N ≡ w % N → (s * v) % N ≡ x % N → (s * ((u * a + v * c) % N)) % N ≡ (w * a + x * c) % N % N
across N s u v w x a c e f =
    let opened : s * (u * a + v * c) ≡ s * u * a + s * v * c = omega arith in
    mul-mod_second s (u * a + v * c) N ∙ ap (λ i. i % N) opened
    ∙ sym (mod_parts N (s * u) (s * v) a c) ∙ ap (λ i. (i * a + (s * v) % N * c) % N) e ∙ ap (λ i. (w % N * a + i * c) % N) f ∙ mod_parts N w x a c
    ∙ sym (mod-mod (w * a + x * c) N)

SamePoint-image_by : {N : ℕ} {p q : Point} (a b c d : ℕ) → SamePoint N p q → SamePoint N (image_by N a b c d p) (image_by N a b c d q)
unfolding image_by
SamePoint-image_by {N} {p} {q} a b c d h = record {
  factor = h.factor;
  unit = h.unit;
  first = across N h.factor p.u p.v q.u q.v a c h.first h.second;
  second = across N h.factor p.u p.v q.u q.v b d h.first h.second;
}

-- two names of a point have images that are names of one point
pub SamePoint-image : (n : ℕ) {p q : Point} (m : Matrix) → SamePoint (suc n) p q → SamePoint (suc n) (image (suc n) p m) (image (suc n) q m)
SamePoint-image n {p} {q} m h =
    subst (λ r. SamePoint (suc n) r (image (suc n) q m)) (sym (image_is n p m))
    (subst (λ r. SamePoint (suc n) (image_by (suc n) (residue_of (suc n) m.a) (residue_of (suc n) m.b) (residue_of (suc n) m.c)
    (residue_of (suc n) m.d) p) r) (sym (image_is n q m))
    (SamePoint-image_by (residue_of (suc n) m.a) (residue_of (suc n) m.b) (residue_of (suc n) m.c) (residue_of (suc n) m.d) h))

-- ---- the action of a product
image_by-image_by : (N u v a b c d x z : ℕ) → ((u * a + v * c) % N * x + (u * b + v * d) % N * z) % N
    ≡ (u * ((a * x + b * z) % N) + v * ((c * x + d * z) % N)) % N
image_by-image_by N u v a b c d x z =
    let e : (u * a + v * c) * x + (u * b + v * d) * z ≡ (a * x + b * z) * u + (c * x + d * z) * v = omega arith in
    let f : (a * x + b * z) % N * u + (c * x + d * z) % N * v ≡ u * ((a * x + b * z) % N) + v * ((c * x + d * z) % N) = omega arith in
    mod_parts N (u * a + v * c) (u * b + v * d) x z ∙ ap (λ i. i % N) e ∙ sym (mod_parts N (a * x + b * z) (c * x + d * z) u v) ∙ ap (λ i. i % N) f

entry : (n : ℕ) (x y w z : ℤ) → residue_of (suc n) (x *ℤ w +ℤ y *ℤ z) ≡ (residue_of (suc n) x * residue_of (suc n) w + residue_of (suc n)
    y * residue_of (suc n) z) % suc n
entry n x y w z = residue-add n (x *ℤ w) (y *ℤ z)
    ∙ ap (λ i. (i + residue_of (suc n) (y *ℤ z)) % suc n) (residue-mul n x w)
    ∙ ap (λ i. ((residue_of (suc n) x * residue_of (suc n) w) % suc n + i) % suc n) (residue-mul n y z)
    ∙ mod-add-mod (residue_of (suc n) x * residue_of (suc n) w) (suc n) ((residue_of (suc n) y * residue_of (suc n) z) % suc n)
    ∙ add-mod-mod (residue_of (suc n) x * residue_of (suc n) w) (residue_of (suc n) y * residue_of (suc n) z) (suc n)

-- to act by m and then by k is to act by the product
pub image-image : (n : ℕ) (p : Point) (m k : Matrix) → image (suc n) (image (suc n) p m) k ≡ image (suc n) p (product m k)
unfolding image_by
image-image n p m k =
    let r : ℤ → ℕ = residue_of (suc n) in
    ap (λ q. image (suc n) q k) (image_is n p m) ∙ image_is n (image_by (suc n) (r m.a) (r m.b) (r m.c) (r m.d) p) k
    ∙ same_point _ _
    (image_by-image_by (suc n) p.u p.v (r m.a) (r m.b) (r m.c) (r m.d) (r k.a) (r k.c)
    ∙ ap (λ i. (p.u * i + p.v * ((r m.c * r k.a + r m.d * r k.c) % suc n)) % suc n) (sym (entry n m.a m.b k.a k.c))
    ∙ ap (λ i. (p.u * r (product m k).a + p.v * i) % suc n) (sym (entry n m.c m.d k.a k.c)))
    (image_by-image_by (suc n) p.u p.v (r m.a) (r m.b) (r m.c) (r m.d) (r k.b) (r k.d)
    ∙ ap (λ i. (p.u * i + p.v * ((r m.c * r k.b + r m.d * r k.d) % suc n)) % suc n) (sym (entry n m.a m.b k.b k.d))
    ∙ ap (λ i. (p.u * r (product m k).b + p.v * i) % suc n) (sym (entry n m.c m.d k.b k.d)))
    ∙ sym (image_is n p (product m k))

-- ---- a determinant coprime to N keeps the common divisor 1
residue-det : (n : ℕ) (m : Matrix) → residue_of (suc n) (determinant m)
    ≡ (residue_of (suc n) m.a * residue_of (suc n) m.d + n * (residue_of (suc n) m.b * residue_of (suc n) m.c)) % suc n
residue-det n m =
    let r : ℤ → ℕ = residue_of (suc n) in
    residue-add n (m.a *ℤ m.d) (neg_ℤ (m.b *ℤ m.c))
    ∙ ap (λ i. (i + r (neg_ℤ (m.b *ℤ m.c))) % suc n) (residue-mul n m.a m.d)
    ∙ ap (λ i. ((r m.a * r m.d) % suc n + i) % suc n) (residue-neg n (m.b *ℤ m.c) ∙ ap (λ i. (n * i) % suc n) (residue-mul n m.b m.c)
    ∙ mul-mod_second n (r m.b * r m.c) (suc n))
    ∙ mod-add-mod (r m.a * r m.d) (suc n) ((n * (r m.b * r m.c)) % suc n)
    ∙ add-mod-mod (r m.a * r m.d) (n * (r m.b * r m.c)) (suc n)

-- what divides N and det times u divides u
pub freed : (N e u d : ℕ) → IsUnit N e → d ∣ N → d ∣ u * e → d ∣ u
freed N e u d h divides in_product =
    let more : d ∣ u * e * h.inverse = dvd-mul_right_of_dvd d in_product h.inverse in
    let turned : u * e * h.inverse ≡ u * (e * h.inverse) = omega arith in
    let same : (u * e * h.inverse) % N ≡ u % N = ap (λ i. i % N) turned ∙ sym (mul-mod_second u (e * h.inverse) N) ∙ ap (λ i. (u * i) % N) h.gives_one
    ∙ mul-mod_second u 1 N ∙ ap (λ i. i % N) (omega arith) in
    (dvd-mod_iff d divides).0 (subst (λ i. d ∣ i) same ((dvd-mod_iff d divides).1 more))

common_divisor-image_by : (n a b c d : ℕ) (p : Point) → IsUnit (suc n) (a * d + n * (b * c))
    → common_divisor (suc n) (image_by (suc n) a b c d p) ∣ common_divisor (suc n) p
unfolding image_by
common_divisor-image_by n a b c d p h =
    let N : ℕ = suc n in
    let q : Point = image_by N a b c d p in
    let g : ℕ = common_divisor N q in
    let whole = IsGcd-gcd (gcd q.u q.v) N in
    let pair = IsGcd-gcd q.u q.v in
    let first : g ∣ p.u * a + p.v * c = (dvd-mod_iff g whole.1).0 (dvd_trans g whole.0 pair.0) in
    let second : g ∣ p.u * b + p.v * d = (dvd-mod_iff g whole.1).0 (dvd_trans g whole.0 pair.1) in
    let in_u : g ∣ p.u = freed N (a * d + n * (b * c)) p.u g h whole.1 (dropped g N (p.u * (a * d + n * (b * c))) (p.v * (c * d)) whole.1
    (subst (λ i. g ∣ i) (first_sum n p.u p.v a b c d) (dvd-add g (dvd-mul_right_of_dvd g first d) (dvd-mul_right_of_dvd g second (n * c))))) in
    let in_v : g ∣ p.v = freed N (a * d + n * (b * c)) p.v g h whole.1 (dropped g N (p.v * (a * d + n * (b * c))) (p.u * (a * b)) whole.1
    (subst (λ i. g ∣ i) (second_sum n p.u p.v a b c d) (dvd-add g (dvd-mul_right_of_dvd g first (n * b)) (dvd-mul_right_of_dvd g second a)))) in
    (IsGcd-gcd (gcd p.u p.v) N).2 g ((IsGcd-gcd p.u p.v).2 g in_u in_v) whole.1
  where
    first_sum : (n u v a b c d : ℕ) → (u * a + v * c) * d + (u * b + v * d) * (n * c) ≡ u * (a * d + n * (b * c)) + v * (c * d) * suc n
    first_sum n u v a b c d = omega arith

    second_sum : (n u v a b c d : ℕ) → (u * a + v * c) * (n * b) + (u * b + v * d) * a ≡ v * (a * d + n * (b * c)) + u * (a * b) * suc n
    second_sum n u v a b c d = omega arith

    dropped : (g N x y : ℕ) → g ∣ N → g ∣ x + y * N → g ∣ x
    dropped g N x y divides h = (dvd-add_iff_left g (dvd-mul_left_of_dvd g divides y)).1 h

-- a matrix whose determinant is coprime to N sends points to points
pub common_divisor-image : (n : ℕ) (p : Point) (m : Matrix) → gcd (residue_of (suc n) (determinant m)) (suc n) ≡ 1 → common_divisor (suc n) p ≡ 1
    → common_divisor (suc n) (image (suc n) p m) ≡ 1
common_divisor-image n p m coprime one =
    let r : ℤ → ℕ = residue_of (suc n) in
    let unit : IsUnit (suc n) (r m.a * r m.d + n * (r m.b * r m.c)) = IsUnit-from_mod (suc n) (r m.a * r m.d + n * (r m.b * r m.c))
    (subst (IsUnit (suc n)) (residue-det n m) (IsUnit-from_gcd (suc n) (r (determinant m)) (omega arith) coprime)) in
    ap (common_divisor (suc n)) (image_is n p m)
    ∙ eq-one_of_dvd-one (subst (λ i. common_divisor (suc n) (image_by (suc n) (r m.a) (r m.b) (r m.c) (r m.d) p) ∣ i) one
    (common_divisor-image_by n (r m.a) (r m.b) (r m.c) (r m.d) p unit))

-- ---- the matrices S, T and U
-- a scalar matrix multiplies the pair
pub scalar : (n : ℕ) (p : Point) (x : ℤ) → image (suc n) p (matrix x (pos 0) (pos 0) x) ≡ pair_multiple (suc n) (residue_of (suc n) x) p
unfolding image_by
scalar n p x =
    let r : ℕ = residue_of (suc n) x in
    let z : residue_of (suc n) (pos 0) ≡ 0 = zero-mod (suc n) in
    let e : p.u * r + p.v * 0 ≡ r * p.u = omega arith in
    let f : p.u * 0 + p.v * r ≡ r * p.v = omega arith in
    image_is n p (matrix x (pos 0) (pos 0) x)
    ∙ same_point _ _ (ap (λ i. (p.u * r + p.v * i) % suc n) z ∙ ap (λ i. i % suc n) e)
    (ap (λ i. (p.u * i + p.v * r) % suc n) z ∙ ap (λ i. i % suc n) f)

-- so does a shift by N
pub shift : (n : ℕ) (p : Point) → image (suc n) p (matrix (pos 1) (pos (suc n)) (pos 0) (pos 1)) ≡ pair_multiple (suc n) (1 % suc n) p
unfolding image_by
shift n p =
    let r : ℕ = 1 % suc n in
    let z : residue_of (suc n) (pos 0) ≡ 0 = zero-mod (suc n) in
    let w : residue_of (suc n) (pos (suc n)) ≡ 0 = mod_self (suc n) in
    let e : p.u * r + p.v * 0 ≡ r * p.u = omega arith in
    let f : p.u * 0 + p.v * r ≡ r * p.v = omega arith in
    image_is n p (matrix (pos 1) (pos (suc n)) (pos 0) (pos 1))
    ∙ same_point _ _ (ap (λ i. (p.u * r + p.v * i) % suc n) z ∙ ap (λ i. i % suc n) e)
    (ap (λ i. (p.u * i + p.v * r) % suc n) w ∙ ap (λ i. i % suc n) f)

-- -1 is a unit
pub IsUnit-minus_one : (n : ℕ) → IsUnit (suc n) (residue_of (suc n) (negsuc 0))
IsUnit-minus_one n = record { inverse = residue_of (suc n) (negsuc 0); gives_one = sym (residue-mul n (negsuc 0) (negsuc 0)) }

pub coprime-minus_one : (N : ℕ) → 0 < N → gcd (residue_of N (negsuc 0)) N ≡ 1
coprime-minus_one zero some = absurd (omega arith)
coprime-minus_one (suc n) some = gcd_from_IsUnit (suc n) (residue_of (suc n) (negsuc 0)) (IsUnit-minus_one n)
