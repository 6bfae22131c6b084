-- The first matrix that does not fit.
use Rattle.std.proofs.Common.{◌≡◌, ◌+◌, ◌-◌, ◌^◌, ◌<◌, ◌≤◌, ℕ, Bool, true, false, not, cond, List, length, get_or, Some, None, nat_lt, nat_eq, nat_le, refl, sym, ◌∙◌, ap, inl, inr, below_more, arith, FitsSigned, w64, of_z, to_z, ◌&&◌}
use Rattle.std.specs.Prelude.{ℤ, pos, ◌+ℤ◌, ◌-ℤ◌, ◌*ℤ◌, unsigned_abs}
use Rattle.std.specs.List.{position_or_len}
use Rattle.std.proofs.lemmas.Int.{ints, to_z-of_z}
use Rattle.std.proofs.lemmas.Option.{none-some}
use Rattle.std.proofs.lemmas.Bool.{cases_lt, cond_both, and_parts, leb-true, eqb-true, eq-eqb, le-ltb, lt-ltb}
use Rattle.std.proofs.lemmas.Bool.Decides.{Decides-int_eq}
use Rattle.std.proofs.lemmas.List.Sums.{position_or_len_is, fails_before_first}
use Rattle.std.proofs.lemmas.List.Elements.{All-from_get_or}
use Rattle.p1_normal.specs.declared.matrix.Matrix.{Matrix}
use Rattle.p1_normal.specs.declared.matrix.TheConstants.{MAX_DET, MAX_ENTRY}
use Rattle.p1_normal.specs.Actions.{matrix, determinant, IsSmall}
use Rattle.heilbronn_sets.specs.declared.matrix_set.SetFault.{SetFault}
use Rattle.heilbronn_sets.specs.declared.matrix_set.SetFault.TheVariants.{Entry, Determinant}
use Rattle.heilbronn_sets.specs.Sets.{is_small, has_determinant, fault_at, matrix_fault, list_fault, IsMatrixSet}

-- ---- the test of a determinant
-- two tests that pass together are equal
same_test : (s t : Bool) → (s ≡ true → t ≡ true) → (t ≡ true → s ≡ true) → s ≡ t
same_test true true f g = refl
same_test true false f g = sym (f refl)
same_test false true f g = g refl
same_test false false f g = refl

-- a d = n + b c says that the determinant is n
pub determinant_test : (n : ℕ) (m : Matrix) (x y z : ℤ) → FitsSigned w64 x → FitsSigned w64 y → FitsSigned w64 z → FitsSigned w64 (y +ℤ z)
    → x ≡ m.a *ℤ m.d → y ≡ pos n → z ≡ m.b *ℤ m.c →
    nat_eq (of_z w64 x) (of_z w64 (to_z w64 (of_z w64 y) +ℤ to_z w64 (of_z w64 z))) ≡ has_determinant n m
determinant_test n m x y z fx fy fz fs ex ey ez =
    ap (λ s. nat_eq (of_z w64 x) (of_z w64 s)) (ap (λ u. u +ℤ to_z w64 (of_z w64 z)) (to_z-of_z w64 y fy) ∙ ap (λ v. y +ℤ v) (to_z-of_z w64 z fz))
    ∙ same_test (nat_eq (of_z w64 x) (of_z w64 (y +ℤ z))) (has_determinant n m)
    (λ e. (Decides-int_eq (determinant m) (pos n)).1 (moved (m.a *ℤ m.d) (m.b *ℤ m.c) (pos n)
    (sym ex ∙ read (eqb-true (of_z w64 x) (of_z w64 (y +ℤ z)) e) ∙ sum)))
    (λ e. eq-eqb (of_z w64 x) (of_z w64 (y +ℤ z)) (ap (of_z w64) (ex ∙ back (m.a *ℤ m.d) (m.b *ℤ m.c) (pos n)
    ((Decides-int_eq (determinant m) (pos n)).0 e) ∙ sym sum)))
  where
    sum : y +ℤ z ≡ pos n +ℤ (m.b *ℤ m.c)
    sum = ap (λ u. u +ℤ z) ey ∙ ap (λ v. pos n +ℤ v) ez

    read : of_z w64 x ≡ of_z w64 (y +ℤ z) → x ≡ y +ℤ z
    read e = sym (to_z-of_z w64 x fx) ∙ ap (to_z w64) e ∙ to_z-of_z w64 (y +ℤ z) fs

    moved : (u v w : ℤ) → u ≡ w +ℤ v → (u -ℤ v) ≡ w
    moved u v w e = omega (arith, ints, e)

    back : (u v w : ℤ) → (u -ℤ v) ≡ w → u ≡ w +ℤ v
    back u v w e = omega (arith, ints, e)

-- ---- the first place
-- what is read past the end of a list
abbrev pub zero_matrix : Matrix
zero_matrix = matrix (pos 0) (pos 0) (pos 0) (pos 0)

-- a matrix fits where it is small and of determinant n
abbrev pub fits : ℕ → Matrix → Bool
fits n m = is_small m && has_determinant n m

-- the first i matrices fit
pub record FitUpTo (n : ℕ) (ms : List Matrix) (i : ℕ) : Type 0 where
  pub each : (k : ℕ) → k < i → fits n (get_or ms k zero_matrix) ≡ true

-- a matrix has a fault where it does not fit
fault_cases : (n k : ℕ) (m : Matrix) (f : SetFault) → matrix_fault n m k ≡ Some f
    → (fits n m ≡ false) × (Some (cond (is_small m) (Determinant k) (Entry k)) ≡ Some f)
fault_cases n k m f e =
    cond_both (fits n m) None (Some (cond (is_small m) (Determinant k) (Entry k)))
    (λ o. o ≡ Some f → (fits n m ≡ false) × (Some (cond (is_small m) (Determinant k) (Entry k)) ≡ Some f))
    (λ yes h. absurd (none-some f h)) (λ fails h. (fails, h)) e

-- and none where it fits
no_fault : (n k : ℕ) (m : Matrix) → matrix_fault n m k ≡ None → fits n m ≡ true
no_fault n k m e =
    cond_both (fits n m) None (Some (cond (is_small m) (Determinant k) (Entry k))) (λ o. o ≡ None → fits n m ≡ true)
    (λ yes h. yes) (λ fails h. absurd (none-some (cond (is_small m) (Determinant k) (Entry k)) (sym h))) e

-- one more matrix fits
pub fit_more : (n : ℕ) (ms : List Matrix) (i : ℕ) → FitUpTo n ms i → matrix_fault n (get_or ms i zero_matrix) i ≡ None → FitUpTo n ms (i + 1)
fit_more n ms i h e = record { each = below_more (λ k. fits n (get_or ms k zero_matrix) ≡ true) i h.each (no_fault n i (get_or ms i zero_matrix) e) }

-- the first matrix that does not fit follows those that do
first_place : (n : ℕ) (ms : List Matrix) (i : ℕ) → FitUpTo n ms i → i ≤ length ms → (i < length ms → fits n (get_or ms i zero_matrix) ≡ false)
    → position_or_len (λ m. not (fits n m)) ms ≡ i
first_place n ms i h l e = position_or_len_is (λ m. not (fits n m)) ms i zero_matrix l (λ k u. ap not (h.each k u)) (λ u. ap not (e u))

-- where all fit, the list has no fault
pub list_fault-none : (n : ℕ) (ms : List Matrix) (i : ℕ) → length ms ≤ i → FitUpTo n ms i → list_fault n ms ≡ None
list_fault-none n ms i l h =
    let whole : FitUpTo n ms (length ms) = record { each = λ k u. h.each k (omega arith) } in
    ap (fault_at ms) (ap (λ j. cond (nat_lt j (length ms)) (Some j) None)
    (first_place n ms (length ms) whole (omega arith) (λ u. absurd (omega arith)))
    ∙ ap (λ t. cond t (Some (length ms)) None) (le-ltb (length ms) (length ms) (omega arith)))

-- where the first i fit and the next has a fault, that is the list's
pub list_fault-some : (n : ℕ) (ms : List Matrix) (i : ℕ) (f : SetFault) → FitUpTo n ms i → i < length ms
    → matrix_fault n (get_or ms i zero_matrix) i ≡ Some f → list_fault n ms ≡ Some f
list_fault-some n ms i f h l e =
    let (fails, is) = fault_cases n i (get_or ms i zero_matrix) f e in
    ap (fault_at ms) (ap (λ j. cond (nat_lt j (length ms)) (Some j) None) (first_place n ms i h (omega arith) (λ u. fails))
    ∙ ap (λ t. cond t (Some i) None) (lt-ltb i (length ms) l)) ∙ is

-- ---- a list with no fault is a set
-- what the test of entries says
IsSmall-from_test : (m : Matrix) → is_small m ≡ true → IsSmall m
IsSmall-from_test m e =
    let (three, d) = and_parts (nat_le (unsigned_abs m.a) MAX_ENTRY && nat_le (unsigned_abs m.b) MAX_ENTRY && nat_le (unsigned_abs m.c) MAX_ENTRY)
    (nat_le (unsigned_abs m.d) MAX_ENTRY) e in
    let (two, c) = and_parts (nat_le (unsigned_abs m.a) MAX_ENTRY && nat_le (unsigned_abs m.b) MAX_ENTRY) (nat_le (unsigned_abs m.c) MAX_ENTRY)
    three in
    let (a, b) = and_parts (nat_le (unsigned_abs m.a) MAX_ENTRY) (nat_le (unsigned_abs m.b) MAX_ENTRY) two in
    record {
      a = leb-true (unsigned_abs m.a) MAX_ENTRY a;
      b = leb-true (unsigned_abs m.b) MAX_ENTRY b;
      c = leb-true (unsigned_abs m.c) MAX_ENTRY c;
      d = leb-true (unsigned_abs m.d) MAX_ENTRY d;
    }

-- what is not false
not_true : (t : Bool) → not t ≡ false → t ≡ true
not_true true e = refl
not_true false e = sym e

-- each matrix of a list with no fault fits
all_fit : (n : ℕ) (ms : List Matrix) → list_fault n ms ≡ None → (k : ℕ) → k < length ms → fits n (get_or ms k zero_matrix) ≡ true
all_fit n ms e k l = elim (cases_lt (position_or_len (λ m. not (fits n m)) ms) (length ms)) [
  | inl within ↦
      let j = position_or_len (λ m. not (fits n m)) ms in
      absurd (none-some (cond (is_small (get_or ms j zero_matrix)) (Determinant j) (Entry j))
      (sym e ∙ ap (λ t. fault_at ms (cond t (Some j) None)) (lt-ltb j (length ms) within)))
  | inr past ↦ not_true (fits n (get_or ms k zero_matrix)) (fails_before_first (λ m. not (fits n m)) ms k zero_matrix (omega arith))
]

-- so the list is a set of matrices of determinant n
pub IsMatrixSet-from_no_fault : (n : ℕ) (ms : List Matrix) → 0 < n → n ≤ MAX_DET → length ms < 2 ^ 32 - 1 → list_fault n ms ≡ None
    → IsMatrixSet (record { det = n; list = ms })
IsMatrixSet-from_no_fault n ms some limited few e = record {
  positive = some;
  limited = limited;
  few = few;
  small = All-from_get_or IsSmall ms zero_matrix (λ k l. IsSmall-from_test (get_or ms k zero_matrix)
      (and_parts (is_small (get_or ms k zero_matrix)) (has_determinant n (get_or ms k zero_matrix)) (all_fit n ms e k l)).0);
  determinants = All-from_get_or (λ m. determinant m ≡ pos n) ms zero_matrix
      (λ k l. (Decides-int_eq (determinant (get_or ms k zero_matrix)) (pos n)).0
      (and_parts (is_small (get_or ms k zero_matrix)) (has_determinant n (get_or ms k zero_matrix)) (all_fit n ms e k l)).1);
}
