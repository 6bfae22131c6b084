-- Matrices act on the numbers of symbols.
use Rattle.std.proofs.Common.{◌≡◌, ◌+◌, ◌%◌, ◌<◌, ℕ, zero, suc, length, refl, sym, ◌∙◌, ap, subst, arith}
use Rattle.std.specs.Prelude.{ℤ, pos, negsuc}
use Rattle.std.specs.Fn.{iterate}
use Rattle.std.proofs.lemmas.Int.{ints}
use Rattle.p1_normal.specs.declared.point.Point.{Point}
use Rattle.p1_normal.specs.declared.matrix.Matrix.{Matrix}
use Rattle.p1_normal.specs.Units.{gcd, IsUnit}
use Rattle.linear_algebra.specs.Integers.{residue_of}
use Rattle.p1_normal.specs.Points.{SamePoint, common_divisor, normal_form, symbols, symbol_at, number, IsBelow}
use Rattle.p1_normal.specs.Actions.{matrix, product, determinant, image, action, IsInvertible, image_number, matrix_s, matrix_t, matrix_u, matrix_star}
use Rattle.p1_normal.proofs.Units.{gcd_from_IsUnit, IsUnit-mod, IsUnit-one}
use Rattle.p1_normal.proofs.SamePoints.{SamePoint_sym, SamePoint-pair_multiple}
use Rattle.p1_normal.proofs.NormalForms.{SamePoint-normal_form, normal_form-same}
use Rattle.p1_normal.proofs.Actions.{image-image, scalar, shift, SamePoint-image, IsUnit-minus_one, coprime-minus_one}
use Rattle.p1_normal.proofs.Symbols.{symbol_is, image_coprime}
use Rattle.p1_normal.proofs.Numbers.{level_positive, IsNumber-symbol_at, number-symbol_at, symbol_at-number, number-lt}

-- to act by m and then by k is to act by the product
pub action-action : (n : ℕ) (p : Point) (m k : Matrix) → action (suc n) (action (suc n) p m) k ≡ action (suc n) p (product m k)
action-action n p m k =
    normal_form-same (suc n) (image (suc n) (action (suc n) p m) k) (image (suc n) (image (suc n) p m) k) (omega arith)
    (SamePoint-image n k (SamePoint_sym (SamePoint-normal_form (suc n) (image (suc n) p m))))
    ∙ ap (normal_form (suc n)) (image-image n p m k)

-- two names of a point go to one symbol
pub action-same : (n : ℕ) (p q : Point) (m : Matrix) → SamePoint (suc n) p q → action (suc n) p m ≡ action (suc n) q m
action-same n p q m same = normal_form-same (suc n) (image (suc n) p m) (image (suc n) q m) (omega arith) (SamePoint-image n m same)

-- a symbol is below N
pub symbol_below : (N k : ℕ) → k < length (symbols N) → IsBelow N (symbol_at N k)
symbol_below N k within = (symbol_is N k (symbol_at N k) (level_positive N k within) (IsNumber-symbol_at N k within)).below

-- an invertible matrix takes it to a pair that names a point
pub coprime_at : (N k : ℕ) (m : Matrix) → k < length (symbols N) → IsInvertible N m → common_divisor N (image N (symbol_at N k) m) ≡ 1
coprime_at N k m within unit =
    let some : 0 < N = level_positive N k within in
    image_coprime N (symbol_at N k) m some unit (symbol_is N k (symbol_at N k) some (IsNumber-symbol_at N k within)).coprime

pub image_number-lt : (N k : ℕ) (m : Matrix) → k < length (symbols N) → IsInvertible N m → image_number N k m < length (symbols N)
unfolding image_number
image_number-lt N k m within unit = number-lt N (image N (symbol_at N k) m) (level_positive N k within) (coprime_at N k m within unit)

pub symbol_at-image_number : (N k : ℕ) (m : Matrix) → k < length (symbols N) → IsInvertible N m
    → symbol_at N (image_number N k m) ≡ action N (symbol_at N k) m
unfolding image_number
symbol_at-image_number N k m within unit = symbol_at-number N (image N (symbol_at N k) m) (level_positive N k within) (coprime_at N k m within unit)

-- the move by a product
pub image_number-image_number : (n k : ℕ) (m w : Matrix) → k < length (symbols (suc n)) → IsInvertible (suc n) m
    → image_number (suc n) (image_number (suc n) k m) w ≡ image_number (suc n) k (product m w)
unfolding image_number
image_number-image_number n k m w within unit =
    ap (λ p. number (suc n) (action (suc n) p w)) (symbol_at-image_number (suc n) k m within unit)
    ∙ ap (number (suc n)) (action-action n (symbol_at (suc n) k) m w)

-- a matrix that takes the pair of each symbol to a name of the same point
pub image_number_same : (N k : ℕ) (m : Matrix) → 0 < N → k < length (symbols N) → SamePoint N (symbol_at N k) (image N (symbol_at N k) m)
    → image_number N k m ≡ k
unfolding image_number
image_number_same N k m some within same =
    ap (number N) (sym (normal_form-same N (symbol_at N k) (image N (symbol_at N k) m) some same)
    ∙ (symbol_is N k (symbol_at N k) some (IsNumber-symbol_at N k within)).own)
    ∙ number-symbol_at N k within

-- a scalar matrix keeps each symbol
pub image_number-scalar : (n k : ℕ) (x : ℤ) → k < length (symbols (suc n)) → IsUnit (suc n) (residue_of (suc n) x)
    → image_number (suc n) k (matrix x (pos 0) (pos 0) x) ≡ k
image_number-scalar n k x within unit = image_number_same (suc n) k (matrix x (pos 0) (pos 0) x) (omega arith) within
    (subst (SamePoint (suc n) (symbol_at (suc n) k)) (sym (scalar n (symbol_at (suc n) k) x))
    (SamePoint-pair_multiple (suc n) (residue_of (suc n) x) (symbol_at (suc n) k) unit))

-- ---- S, T, U and star
pub IsUnit-plus_one : (N : ℕ) → IsUnit N (residue_of N (pos 1))
IsUnit-plus_one N = IsUnit-mod N 1 (IsUnit-one N)

-- their determinants are 1 and -1
pub invertible_s : (N : ℕ) → IsInvertible N matrix_s
invertible_s N = gcd_from_IsUnit N (residue_of N (pos 1)) (IsUnit-plus_one N)

pub invertible_t : (N : ℕ) → IsInvertible N matrix_t
invertible_t N = gcd_from_IsUnit N (residue_of N (pos 1)) (IsUnit-plus_one N)

pub invertible_u : (N : ℕ) → IsInvertible N matrix_u
invertible_u N = gcd_from_IsUnit N (residue_of N (pos 1)) (IsUnit-plus_one N)

pub invertible_star : (N : ℕ) → 0 < N → IsInvertible N matrix_star
invertible_star N some = coprime-minus_one N some

pub image_number-s-s : (n k : ℕ) → k < length (symbols (suc n)) → image_number (suc n) (image_number (suc n) k matrix_s) matrix_s ≡ k
image_number-s-s n k within = image_number-image_number n k matrix_s matrix_s within (invertible_s (suc n))
    ∙ image_number-scalar n k (negsuc 0) within (IsUnit-minus_one n)

pub image_number-t-t-t : (n k : ℕ) → k < length (symbols (suc n)) → image_number (suc n)
    (image_number (suc n) (image_number (suc n) k matrix_t) matrix_t) matrix_t ≡ k
image_number-t-t-t n k within =
    image_number-image_number n (image_number (suc n) k matrix_t) matrix_t matrix_t (image_number-lt (suc n) k matrix_t within (invertible_t (suc n)))
    (invertible_t (suc n))
    ∙ image_number-image_number n k matrix_t (product matrix_t matrix_t) within (invertible_t (suc n))
    ∙ image_number-scalar n k (pos 1) within (IsUnit-plus_one (suc n))

pub image_number-star-star : (n k : ℕ) → k < length (symbols (suc n)) → image_number (suc n) (image_number (suc n) k matrix_star) matrix_star ≡ k
image_number-star-star n k within = image_number-image_number n k matrix_star matrix_star within (invertible_star (suc n) (omega arith))
    ∙ image_number-scalar n k (pos 1) within (IsUnit-plus_one (suc n))

-- -1 takes each pair to a name of the same point
image_number-negated : (n k : ℕ) (m : Matrix) → k < length (symbols (suc n)) → IsInvertible (suc n) m
    → image_number (suc n) k (product m (matrix (negsuc 0) (pos 0) (pos 0) (negsuc 0))) ≡ image_number (suc n) k m
image_number-negated n k m within unit =
    sym (image_number-image_number n k m (matrix (negsuc 0) (pos 0) (pos 0) (negsuc 0)) within unit)
    ∙ image_number-scalar n (image_number (suc n) k m) (negsuc 0) (image_number-lt (suc n) k m within unit) (IsUnit-minus_one n)

pub image_number-star-s : (n k : ℕ) → k < length (symbols (suc n)) → image_number (suc n) (image_number (suc n) k matrix_star) matrix_s
    ≡ image_number (suc n) (image_number (suc n) k matrix_s) matrix_star
image_number-star-s n k within =
    image_number-image_number n k matrix_star matrix_s within (invertible_star (suc n) (omega arith))
    ∙ sym (image_number-negated n k (product matrix_star matrix_s) within
    (gcd_from_IsUnit (suc n) (residue_of (suc n) (negsuc 0)) (IsUnit-minus_one n)))
    ∙ sym (image_number-image_number n k matrix_s matrix_star within (invertible_s (suc n)))

-- star, then T, then star is S, then T twice, then S
pub image_number-star-t-star : (n k : ℕ) → k < length (symbols (suc n)) →
    image_number (suc n) (image_number (suc n) (image_number (suc n) k matrix_star) matrix_t) matrix_star
    ≡ image_number (suc n) (image_number (suc n) (image_number (suc n) (image_number (suc n) k matrix_s) matrix_t) matrix_t) matrix_s
image_number-star-t-star n k within =
    let N : ℕ = suc n in
    let by_star : image_number N k matrix_star < length (symbols N) = image_number-lt N k matrix_star within
    (invertible_star (suc n) (omega arith)) in
    let by_s : image_number N k matrix_s < length (symbols N) = image_number-lt N k matrix_s within (invertible_s (suc n)) in
    let by_s_t : image_number N (image_number N k matrix_s) matrix_t < length (symbols N) =
    image_number-lt N (image_number N k matrix_s) matrix_t by_s (invertible_t (suc n)) in
    image_number-image_number n (image_number N k matrix_star) matrix_t matrix_star by_star (invertible_t (suc n))
    ∙ image_number-image_number n k matrix_star (product matrix_t matrix_star) within (invertible_star (suc n) (omega arith))
    ∙ sym (image_number-negated n k (product matrix_star (product matrix_t matrix_star)) within
    (gcd_from_IsUnit N (residue_of N (pos 1)) (IsUnit-plus_one (suc n))))
    ∙ sym (image_number-image_number n k matrix_s (product matrix_t (product matrix_t matrix_s)) within (invertible_s (suc n)))
    ∙ sym (image_number-image_number n (image_number N k matrix_s) matrix_t (product matrix_t matrix_s) by_s (invertible_t (suc n)))
    ∙ sym (image_number-image_number n (image_number N (image_number N k matrix_s) matrix_t) matrix_t matrix_s by_s_t (invertible_t (suc n)))

-- ---- powers of U
abbrev power_u : ℕ → Matrix
power_u a = matrix (pos 1) (pos a) (pos 0) (pos 1)

same_matrix : (m k : Matrix) → m.a ≡ k.a → m.b ≡ k.b → m.c ≡ k.c → m.d ≡ k.d → m ≡ k
same_matrix m k e f g h = λ i. record { a = e i; b = f i; c = g i; d = h i }

product-power_u : (a : ℕ) → product (power_u a) matrix_u ≡ power_u (a + 1)
product-power_u a = same_matrix (product (power_u a) matrix_u) (power_u (a + 1)) (omega (arith, ints)) (omega (arith, ints)) refl refl

determinant-power_u : (a : ℕ) → determinant (power_u a) ≡ pos 1
determinant-power_u a = omega (arith, ints)

invertible_power : (n a : ℕ) → IsInvertible (suc n) (power_u a)
invertible_power n a = subst (λ z. gcd (residue_of (suc n) z) (suc n) ≡ 1) (sym (determinant-power_u a)) (invertible_u (suc n))

iterate-power_u : (n k a i : ℕ) → k < length (symbols (suc n)) → iterate (λ j. image_number (suc n) j matrix_u) i (image_number (suc n) k (power_u a))
    ≡ image_number (suc n) k (power_u (a + i))
iterate-power_u n k a zero within = ap (λ x. image_number (suc n) k (power_u x)) (omega arith)
iterate-power_u n k a (suc i) within =
    ap (iterate (λ j. image_number (suc n) j matrix_u) i) (image_number-image_number n k (power_u a) matrix_u within (invertible_power n a)
    ∙ ap (image_number (suc n) k) (product-power_u a))
    ∙ iterate-power_u n k (a + 1) i within
    ∙ ap (λ x. image_number (suc n) k (power_u x)) (omega arith)

-- U N times is the identity
pub iterate-u : (n k : ℕ) → k < length (symbols (suc n)) → iterate (λ j. image_number (suc n) j matrix_u) (suc n) k ≡ k
iterate-u n k within =
    ap (iterate (λ j. image_number (suc n) j matrix_u) (suc n)) (sym (image_number-scalar n k (pos 1) within (IsUnit-plus_one (suc n))))
    ∙ iterate-power_u n k 0 (suc n) within
    ∙ ap (λ x. image_number (suc n) k (power_u x)) (omega arith)
    ∙ image_number_same (suc n) k (power_u (suc n)) (omega arith) within
    (subst (SamePoint (suc n) (symbol_at (suc n) k)) (sym (shift n (symbol_at (suc n) k)))
    (SamePoint-pair_multiple (suc n) (1 % suc n) (symbol_at (suc n) k) (IsUnit-plus_one (suc n))))
