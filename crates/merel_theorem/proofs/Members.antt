-- Finite families of matrices, none of which stands twice: two with the same members are one family in two orders, and where the members of one
-- belong to different members of another it has no more than that.
use Rattle.std.proofs.Common.{sym, ap, subst, List, [], length, refl, arith, zero, suc, Bool, inl, inr, ◌≢◌, ◌&&◌, true, false, ◌≡◌, ◌≤◌, ◌∷◌, ◌∙◌}
use Rattle.p1_normal.specs.declared.matrix.Matrix.{Matrix}
use Rattle.p1_normal.specs.Actions.{matrix}
use Rattle.std.specs.Ordering.{int_eq}
use Rattle.std.specs.Bool.{Decides}
use Rattle.std.specs.List.{Contains, AllPairs, remove}
use Rattle.std.specs.List.Sorted.{IsPermutation}
use Rattle.std.proofs.lemmas.Bool.{and_parts, and_from, cond_both, false≢true}
use Rattle.std.proofs.lemmas.Bool.Decides.{Decides-int_eq}
use Rattle.std.proofs.lemmas.List.Elements.{All-contains, All-nil, filter_passes, Contains-append_right}
use Rattle.std.proofs.lemmas.List.Sorted.{Contains-permutation, IsPermutation-refl, IsPermutation-sym, IsPermutation-trans, IsPermutation-cons, IsPermutation-remove, length_permutation}
use Rattle.std.proofs.lemmas.Map.Keys.{IsDistinct-IsPermutation}
use Rattle.std.proofs.lemmas.Map.Made.{IsDistinct-from_AllPairs, AllPairs-from_IsDistinct}
use Rattle.heilbronn_chains.proofs.Order.{contains_cases, pairs_head, pairs_tail}
use Rattle.heilbronn_chains.proofs.Telescoping.{same_test}
use Rattle.std.specs.Prelude.{filter}
use Rattle.std.proofs.lemmas.List.Kept.{AllPairs-cons}

-- ---- families of the same matrices, none of them twice, are one another in another order
pub is_same_matrix : Matrix → Matrix → Bool
is_same_matrix x y = int_eq x.a y.a && int_eq x.b y.b && int_eq x.c y.c && int_eq x.d y.d

pub Decides-is_same_matrix : (x y : Matrix) → Decides (is_same_matrix x y) (x ≡ y)
unfolding is_same_matrix
Decides-is_same_matrix x y = (
  λ e.
      let (three, d) = and_parts (int_eq x.a y.a && int_eq x.b y.b && int_eq x.c y.c) (int_eq x.d y.d) e in
      let (two, c) = and_parts (int_eq x.a y.a && int_eq x.b y.b) (int_eq x.c y.c) three in
      let (a, b) = and_parts (int_eq x.a y.a) (int_eq x.b y.b) two in
      λ t. matrix ((Decides-int_eq x.a y.a).0 a t) ((Decides-int_eq x.b y.b).0 b t) ((Decides-int_eq x.c y.c).0 c t)
      ((Decides-int_eq x.d y.d).0 d t),
  λ e. and_from (int_eq x.a y.a && int_eq x.b y.b && int_eq x.c y.c) (int_eq x.d y.d)
      (and_from (int_eq x.a y.a && int_eq x.b y.b) (int_eq x.c y.c)
      (and_from (int_eq x.a y.a) (int_eq x.b y.b) ((Decides-int_eq x.a y.a).1 (ap (λ w. w.a) e)) ((Decides-int_eq x.b y.b).1 (ap (λ w. w.b) e)))
      ((Decides-int_eq x.c y.c).1 (ap (λ w. w.c) e)))
      ((Decides-int_eq x.d y.d).1 (ap (λ w. w.d) e)),
)

is_same_matrix-flips : (x y : Matrix) → is_same_matrix x y ≡ is_same_matrix y x
is_same_matrix-flips x y = same_test (is_same_matrix x y) (is_same_matrix y x)
    (λ e. (Decides-is_same_matrix y x).1 (sym ((Decides-is_same_matrix x y).0 e)))
    (λ e. (Decides-is_same_matrix x y).1 (sym ((Decides-is_same_matrix y x).0 e)))

apart_moved : (xs ys : List Matrix) → IsPermutation xs ys → AllPairs (λ x y. x ≢ y) xs → AllPairs (λ x y. x ≢ y) ys
apart_moved xs ys order h = AllPairs-from_IsDistinct Decides-is_same_matrix ys
    (IsDistinct-IsPermutation is_same_matrix is_same_matrix-flips xs ys order (IsDistinct-from_AllPairs Decides-is_same_matrix xs h))

head_apart : (x : Matrix) (xs : List Matrix) → AllPairs (λ x y. x ≢ y) (x ∷ xs) → Contains xs x → ⊥
head_apart x xs h inside = All-contains (λ y. x ≢ y) xs x (pairs_head (λ x y. x ≢ y) x xs h) inside refl

pub same_members : (xs ys : List Matrix) → AllPairs (λ x y. x ≢ y) xs → AllPairs (λ x y. x ≢ y) ys →
    ((x : Matrix) → Contains xs x → Contains ys x) → ((x : Matrix) → Contains ys x → Contains xs x) → IsPermutation xs ys
same_members [] [] g h into onto = IsPermutation-refl []
same_members [] (y ∷ ys) g h into onto = absurd (let (k, l, same) = onto y (0, omega arith, refl) in omega (arith, l))
same_members (x ∷ xs) ys g h into onto =
    let (i, l, same) = into x (0, omega arith, refl) in
    let rest = remove ys i in
    let order : IsPermutation ys (x ∷ rest) = IsPermutation-remove ys i x l (sym same) in
    let back : IsPermutation (x ∷ rest) ys = IsPermutation-sym ys (x ∷ rest) order in
    let apart : AllPairs (λ x y. x ≢ y) (x ∷ rest) = apart_moved ys (x ∷ rest) order h in
    IsPermutation-trans (x ∷ xs) (x ∷ rest) ys (IsPermutation-cons x xs rest
    (same_members xs rest (pairs_tail (λ x y. x ≢ y) x xs g) (pairs_tail (λ x y. x ≢ y) x rest apart)
    (λ z inside. elim (contains_cases x rest z (Contains-permutation ys (x ∷ rest) z order (into z (Contains-append_right (x ∷ []) xs z inside)))) [
      | inl e ↦ absurd (head_apart x xs g (subst (Contains xs) (sym e) inside))
      | inr other ↦ other
    ])
    (λ z inside. elim (contains_cases x xs z (onto z (Contains-permutation (x ∷ rest) ys z back (Contains-append_right (x ∷ []) rest z inside)))) [
      | inl e ↦ absurd (head_apart x rest apart (subst (Contains rest) (sym e) inside))
      | inr other ↦ other
    ]))) back

-- ---- where distinct members of xs belong to distinct ones of ys, there are no more of them
pub fewer : (R : Matrix → Matrix → Type 0) (xs ys : List Matrix) → AllPairs (λ x y. x ≢ y) xs →
    ((x : Matrix) → Contains xs x → (y : Matrix) × R x y × Contains ys y)
    → ((x z y : Matrix) → R x y → R z y → x ≡ z) → length xs ≤ length ys
fewer R [] ys apart into one = omega arith
fewer R (x ∷ xs) ys apart into one =
    let (y, related, (i, l, same)) = into x (0, omega arith, refl) in
    let rest = remove ys i in
    let order : IsPermutation ys (y ∷ rest) = IsPermutation-remove ys i y l (sym same) in
    let inner = fewer R xs rest (pairs_tail (λ x y. x ≢ y) x xs apart) (λ z inside.
    let (u, again, within) = into z (Contains-append_right (x ∷ []) xs z inside) in (
      u,
      again,
      elim (contains_cases y rest u (Contains-permutation ys (y ∷ rest) u order within)) [
        | inl e ↦ absurd (All-contains (λ w. x ≢ w) xs z (pairs_head (λ x y. x ≢ y) x xs apart) inside (one x z u (subst (R x) e related) again))
        | inr other ↦ other
      ],
    )) one in
    omega (arith, inner, length_permutation ys (y ∷ rest) order)

-- a family with one member has the length 1
pub one_member : (xs : List Matrix) (x : Matrix) → AllPairs (λ x y. x ≢ y) xs → Contains xs x → ((y : Matrix) → Contains xs y → y ≡ x)
    → length xs ≡ 1
one_member xs x apart inside all =
    sym (length_permutation xs (x ∷ []) (same_members xs (x ∷ []) apart
    (AllPairs-cons (λ x y. x ≢ y) x [] (All-nil (λ y. x ≢ y)) (λ i j d l lower. absurd (omega (arith, l))))
    (λ y here. (0, omega arith, sym (all y here)))
    (λ y here. elim (contains_cases x [] y here) [
      | inl e ↦ subst (Contains xs) e inside
      | inr (j, l, same) ↦ absurd (omega (arith, l))
    ])))

-- ---- members that pass a test
pub contains_filter : {X : Type 0} (p : X → Bool) (xs : List X) (x : X) → Contains xs x → p x ≡ true → Contains (filter p xs) x
contains_filter p [] x (k, l, same) e = absurd (omega (arith, l))
contains_filter p (y ∷ ys) x (zero, l, same) e = cond_both (p y) (y ∷ filter p ys) (filter p ys) (λ zs. Contains zs x)
    (λ passes. (0, omega arith, same))
    (λ fails. absurd (false≢true (sym fails ∙ ap p same ∙ e)))
contains_filter p (y ∷ ys) x (suc k, l, same) e =
    let (j, m, here) = contains_filter p ys x (k, omega (arith, l), same) e in
    cond_both (p y) (y ∷ filter p ys) (filter p ys) (λ zs. Contains zs x) (λ passes. (suc j, omega (arith, m), here)) (λ fails. (j, m, here))

pub filtered_passes : {X : Type 0} (p : X → Bool) (xs : List X) (x : X) → Contains (filter p xs) x → p x ≡ true
filtered_passes p xs x inside = All-contains (λ x. p x ≡ true) (filter p xs) x (filter_passes p xs) inside
