-- Merel's set holds what its definition asks, and all of it.
use Rattle.std.proofs.Common.{◌≡◌, ◌+◌, ◌-◌, ◌*◌, ◌^◌, ◌<◌, ◌≤◌, ◌↔◌, ℕ, zero, suc, Bool, true, List, [], ◌∷◌, length, get_or, All, refl, sym, ◌∙◌, ap, subst, arith}
use Rattle.std.specs.Prelude.{ℤ, pos, negsuc, ◌+ℤ◌, ◌≤ℤ◌, map, filter}
use Rattle.std.specs.List.{flat_map, Contains}
use Rattle.std.proofs.Math.Nat.{mul-le-mul, pow-succ', pow-zero}
use Rattle.std.proofs.lemmas.Int.{ints}
use Rattle.std.proofs.lemmas.Bool.{cond_both, false≢true}
use Rattle.std.proofs.lemmas.List.Elements.{All-nil, All-append, All-map, All-filter, All-contains, filter_passes, Contains-append_left, Contains-append_right}
use Rattle.std.proofs.lemmas.List.FromFn.{length-range_with_len, get_or-range_with_len}
use Rattle.p1_normal.specs.declared.matrix.Matrix.{Matrix}
use Rattle.p1_normal.specs.declared.matrix.TheConstants.{MAX_DET}
use Rattle.p1_normal.specs.Actions.{matrix, IsSmall}
use Rattle.heilbronn_sets.specs.Merel.{entries, quadruples, is_merel, merel_matrices, IsMerel}
use Rattle.heilbronn_sets.specs.Sets.{IsMatrixSet}
use Rattle.heilbronn_sets.proofs.Entries.{AreEntries, entries_sum}
use Rattle.heilbronn_sets.proofs.Rows.{passes, passes_entries, merel_from}
use Rattle.heilbronn_sets.proofs.Counts.{merel_matrices-count}

-- ---- elements of filtered, mapped and joined lists
-- an element that passes is an element of the filtered list
Contains-filter : {X : Type 0} (p : X → Bool) (xs : List X) (x : X) → Contains xs x → p x ≡ true → Contains (filter p xs) x
Contains-filter p [] x (k, l, same) e = absurd (omega arith)
Contains-filter p (y ∷ ys) x (zero, l, same) e = cond_both (p y) (y ∷ filter p ys) (filter p ys) (λ zs. Contains zs x)
    (λ yes. (0, omega arith, same))
    (λ fails. absurd (false≢true (sym fails ∙ ap p same ∙ e)))
Contains-filter p (y ∷ ys) x (suc k, l, same) e =
    let (j, m, here) = Contains-filter p ys x (k, omega arith, same) e in
    cond_both (p y) (y ∷ filter p ys) (filter p ys) (λ zs. Contains zs x) (λ yes. (suc j, omega arith, here)) (λ fails. (j, m, here))

-- the image of an element is an element of the mapped list
Contains-map : {X Y : Type 0} (f : X → Y) (xs : List X) (x : X) → Contains xs x → Contains (map f xs) (f x)
Contains-map f [] x (k, l, same) = absurd (omega arith)
Contains-map f (y ∷ ys) x (zero, l, same) = (0, omega arith, ap f same)
Contains-map f (y ∷ ys) x (suc k, l, same) = let (j, m, here) = Contains-map f ys x (k, omega arith, same) in (suc j, omega arith, here)

-- an element of the piece of an element is one of the joined pieces
Contains-flat_map : {X Y : Type 0} (f : X → List Y) (xs : List X) (x : X) (y : Y) → Contains xs x → Contains (f x) y → Contains (flat_map f xs) y
Contains-flat_map f [] x y (k, l, same) h = absurd (omega arith)
Contains-flat_map f (z ∷ zs) x y (zero, l, same) h = Contains-append_left (f z) (flat_map f zs) y (subst (λ u. Contains (f u) y) (sym same) h)
Contains-flat_map f (z ∷ zs) x y (suc k, l, same) h = Contains-append_right (f z) (flat_map f zs) y
    (Contains-flat_map f zs x y (k, omega arith, same) h)

-- the numbers up to n are entries
Contains-entries : (n k : ℕ) → k ≤ n → Contains (entries n) k
Contains-entries n k l = (k, omega (arith, length-range_with_len 0 (n + 1)), get_or-range_with_len 0 (n + 1) k k (omega arith) ∙ omega arith)

-- what holds of each piece holds of the joined pieces
pub All-flat_map : {X Y : Type 0} (P : Y → Type 0) (f : X → List Y) → ((x : X) → All P (f x)) → (xs : List X) → All P (flat_map f xs)
All-flat_map P f h [] = All-nil P
All-flat_map P f h (x ∷ xs) = All-append P (f x) (flat_map f xs) (h x) (All-flat_map P f h xs)

-- ---- the quadruples
-- b and c are not negative
IsNatural : Matrix → Type 0
IsNatural m = (pos 0 ≤ℤ m.b) × (pos 0 ≤ℤ m.c)

-- the quadruples have natural entries
All-quadruples : (n : ℕ) → All IsNatural (quadruples n)
unfolding quadruples IsNatural
All-quadruples n =
    All-flat_map IsNatural (λ a. flat_map (λ b. flat_map (λ c. map (λ d. matrix (pos a) (pos b) (pos c) (pos d)) (entries n)) (entries n))
    (entries n))
    (λ a. All-flat_map IsNatural (λ b. flat_map (λ c. map (λ d. matrix (pos a) (pos b) (pos c) (pos d)) (entries n)) (entries n))
    (λ b. All-flat_map IsNatural (λ c. map (λ d. matrix (pos a) (pos b) (pos c) (pos d)) (entries n))
    (λ c. All-map IsNatural (λ d. matrix (pos a) (pos b) (pos c) (pos d)) (entries n) (λ k d l. (omega (arith, ints), omega (arith, ints))))
    (entries n)) (entries n)) (entries n)

-- each matrix with entries up to n is a quadruple
Contains-quadruples : (n a b c d : ℕ) → a ≤ n → b ≤ n → c ≤ n → d ≤ n → Contains (quadruples n) (matrix (pos a) (pos b) (pos c) (pos d))
unfolding quadruples
Contains-quadruples n a b c d h k l m =
    Contains-flat_map (λ a. flat_map (λ b. flat_map (λ c. map (λ d. matrix (pos a) (pos b) (pos c) (pos d)) (entries n)) (entries n)) (entries n))
    (entries n) a (matrix (pos a) (pos b) (pos c) (pos d)) (Contains-entries n a h)
    (Contains-flat_map (λ b. flat_map (λ c. map (λ d. matrix (pos a) (pos b) (pos c) (pos d)) (entries n)) (entries n)) (entries n) b
    (matrix (pos a) (pos b) (pos c) (pos d)) (Contains-entries n b k)
    (Contains-flat_map (λ c. map (λ d. matrix (pos a) (pos b) (pos c) (pos d)) (entries n)) (entries n) c (matrix (pos a) (pos b) (pos c) (pos d))
    (Contains-entries n c l)
    (Contains-map (λ d. matrix (pos a) (pos b) (pos c) (pos d)) (entries n) d (Contains-entries n d m))))

-- ---- members
-- the natural entries of a member
pub record HasEntries (n : ℕ) (m : Matrix) : Type 0 where
  pub a : ℕ
  pub b : ℕ
  pub c : ℕ
  pub d : ℕ
  pub is : m ≡ matrix (pos a) (pos b) (pos c) (pos d)
  pub entries : AreEntries n a b c d

-- an integer that is not negative is a natural number
natural : (z : ℤ) → pos 0 ≤ℤ z → (k : ℕ) × (z ≡ pos k)
natural (pos k) l = (k, refl)
natural (negsuc k) l = absurd (omega (arith, ints, l))

-- each member has natural entries
pub member_entries : (n : ℕ) (m : Matrix) → IsMerel n m → HasEntries n m
member_entries n m h =
    let upper = h.upper in
    let lower = h.lower in
    let left = h.left in
    let right = h.right in
    let (a, ea) = natural m.a (omega (arith, ints)) in
    let (b, eb) = natural m.b upper in
    let (c, ec) = natural m.c lower in
    let (d, ed) = natural m.d (omega (arith, ints)) in
    let is : m ≡ matrix (pos a) (pos b) (pos c) (pos d) = λ i. record { a = ea i; b = eb i; c = ec i; d = ed i } in
    let k : IsMerel n (matrix (pos a) (pos b) (pos c) (pos d)) = subst (IsMerel n) is h in
    record {
      a = a;
      b = b;
      c = c;
      d = d;
      is = is;
      entries = passes_entries n a b c d
          (record { left = k.left; right = k.right; value = k.determinant_is });
    }

-- all of Merel's set is what its definition asks
pub All-merel_matrices : (n : ℕ) → All (IsMerel n) (merel_matrices n)
unfolding merel_matrices IsNatural
All-merel_matrices n = λ k d l.
    let pass = passes n (get_or (merel_matrices n) k d) (filter_passes (is_merel n) (quadruples n) k d l) in
    let kept = All-filter (is_merel n) IsNatural (quadruples n) (All-quadruples n) k d l in
    record { left = pass.left; right = pass.right; upper = kept.0; lower = kept.1; determinant_is = pass.value }

-- natural entries that fit are those of a member
Contains-merel_entries : (n a b c d : ℕ) → AreEntries n a b c d → Contains (merel_matrices n) (matrix (pos a) (pos b) (pos c) (pos d))
unfolding merel_matrices
Contains-merel_entries n a b c d h =
    let left = h.left in
    let right = h.right in
    let sum = entries_sum n a b c d h in
    Contains-filter (is_merel n) (quadruples n) (matrix (pos a) (pos b) (pos c) (pos d))
    (Contains-quadruples n a b c d (omega (arith, sum)) (omega (arith, sum)) (omega (arith, sum)) (omega (arith, sum))) (merel_from n a b c d h)

-- Merel's set holds exactly what its definition asks
pub Contains-merel_matrices : (n : ℕ) (m : Matrix) → Contains (merel_matrices n) m ↔ IsMerel n m
Contains-merel_matrices n m = (
  λ h. All-contains (IsMerel n) (merel_matrices n) m (All-merel_matrices n) h,
  λ h. let k = member_entries n m h in subst (Contains (merel_matrices n)) (sym k.is) (Contains-merel_entries n k.a k.b k.c k.d k.entries),
)

-- the trace is at most n + 1
pub IsMerel-trace : (n : ℕ) (m : Matrix) → IsMerel n m → (m.a +ℤ m.d) ≤ℤ pos (n + 1)
IsMerel-trace n m h =
    let k = member_entries n m h in
    let sum = entries_sum n k.a k.b k.c k.d k.entries in
    let bound : (pos k.a +ℤ pos k.d) ≤ℤ pos (n + 1) = omega (arith, ints, sum) in
    subst (λ w. (w.a +ℤ w.d) ≤ℤ pos (n + 1)) (sym k.is) bound

-- the third power
third : (m : ℕ) → m * (m * m) ≡ m ^ 3
third m = sym (pow-succ' m 2 ∙ ap (λ k. m * k) (pow-succ' m 1 ∙ ap (λ k. m * k) (pow-succ' m 0 ∙ ap (λ k. m * k) (pow-zero m) ∙ omega arith)))

-- there are at most (n + 1)^3 of them, since the first three entries determine the fourth
pub length-merel_matrices : (n : ℕ) → length (merel_matrices n) ≤ (n + 1) ^ 3
length-merel_matrices n = subst (λ k. length (merel_matrices n) ≤ k) (third (n + 1)) (merel_matrices-count n)

-- a member is small
pub IsSmall-member : (n : ℕ) (m : Matrix) → n ≤ MAX_DET → IsMerel n m → IsSmall m
IsSmall-member n m few h =
    let k = member_entries n m h in
    let sum = entries_sum n k.a k.b k.c k.d k.entries in
    let left = k.entries.left in
    let right = k.entries.right in
    subst IsSmall (sym k.is) (record { a = omega (arith, sum); b = omega (arith, sum); c = omega (arith, sum); d = omega (arith, sum) })

-- within the limit they can be numbered
merel_matrices_few : (n : ℕ) → n ≤ MAX_DET → length (merel_matrices n) < 2 ^ 32 - 1
merel_matrices_few n small =
    let next : n + 1 ≤ MAX_DET + 1 = omega arith in
    let bound : (n + 1) * ((n + 1) * (n + 1)) ≤ (MAX_DET + 1) * ((MAX_DET + 1) * (MAX_DET + 1)) = mul-le-mul next (mul-le-mul next next) in
    omega (arith, merel_matrices-count n, bound)

-- Merel's set is a set of matrices of determinant n
pub IsMatrixSet-merel_matrices : (n : ℕ) (ms : List Matrix) → 0 < n → n ≤ MAX_DET → ms ≡ merel_matrices n
    → IsMatrixSet (record { det = n; list = ms })
IsMatrixSet-merel_matrices n ms some few e = subst (λ xs. IsMatrixSet (record { det = n; list = xs })) (sym e) (record {
  positive = some;
  limited = few;
  small = λ k d l. IsSmall-member n (get_or (merel_matrices n) k d) few (All-merel_matrices n k d l);
  determinants = λ k d l. (All-merel_matrices n k d l).determinant_is;
  few = merel_matrices_few n few;
})
