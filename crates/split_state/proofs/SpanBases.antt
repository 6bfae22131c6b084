-- The span of each list of vectors of one length has a reduced echelon basis.
use Rattle.std.proofs.Common.{◌≡◌, ◌≢◌, ◌⊎◌, ◌<◌, ◌≤◌, ℕ, zero, suc, List, [], ◌∷◌, length, map, get_or, insert, All, refl, sym, ◌∙◌, ap, subst, inl, inr, arith}
use Rattle.std.specs.List.{range_with_len}
use Rattle.std.proofs.Math.ListN.{length-map}
use Rattle.std.proofs.lemmas.Bool.{cases_eq, cases_lt}
use Rattle.std.proofs.lemmas.List.{get_or_past}
use Rattle.std.proofs.lemmas.List.Elements.{All-get_or, All-from_get_or, All-nil, All-cons}
use Rattle.std.proofs.lemmas.List.FromFn.{length-range_with_len}
use Rattle.field_table.specs.Residues.{AreResidues}
use Rattle.linear_algebra.specs.Prime.{IsPrime}
use Rattle.linear_algebra.specs.Residue.{Residue, residue, ◌⊗◌}
use Rattle.linear_algebra.specs.Vector.{Vector, ◌⊡◌, combination, EndsBefore}
use Rattle.linear_algebra.specs.Dense.{dense, dense_rows}
use Rattle.linear_algebra.specs.Echelon.{remainder}
use Rattle.linear_algebra.specs.Span.{Each, none, more, InSpan}
use Rattle.linear_algebra.proofs.BoundPlaces.{in_range}
use Rattle.linear_algebra.proofs.DenseLaws.{dense_at, dense-zeros, EndsBefore-dense}
use Rattle.linear_algebra.proofs.ResidueLaws.{same_residue, value-residue, value_below, zero_or_inverse}
use Rattle.linear_algebra.proofs.Spans.{Each-weaker, InSpan-first, InSpan-more, InSpan-trans}
use Rattle.linear_algebra.proofs.SparseLaws.{some_residue}
use Rattle.linear_algebra.proofs.Support.{EndsBefore-combination, EndsBefore-minus, EndsBefore-plus, EndsBefore-scale}
use Rattle.dense_mat.specs.Echelon.{AreRows, lead, IsEchelon, IsEchelonOf, cleared}
use Rattle.dense_mat.specs.Subspace.{Subspace, subspace, IsBasisOf}
use Rattle.dense_mat.proofs.Bases.{basis_of-echelon}
use Rattle.dense_mat.proofs.Steps.{echelon_none, echelon_of-insert, echelon_of-remainder, echelon_of-spanned, length-dense_rows, other_leads, rows_end, scaled_clear, scaled_one, scaled_zero}

-- ---- the numbers of a vector
-- the least residues at the places before n
numbers_of : {p : ℕ} → ℕ → Vector p → List ℕ
numbers_of n v = map (λ k. (v k).value) (range_with_len 0 n)

length-numbers_of : {p : ℕ} (n : ℕ) (v : Vector p) → length (numbers_of n v) ≡ n
unfolding numbers_of
length-numbers_of n v = length-map (range_with_len 0 n) (λ k. (v k).value) ∙ length-range_with_len 0 n

get_or-map : {A B : Type 0} (f : A → B) (xs : List A) (k : ℕ) (d : A) (e : B) → k < length xs → get_or (map f xs) k e ≡ f (get_or xs k d)
get_or-map f [] k d e l = absurd (omega arith)
get_or-map f (x ∷ xs) zero d e l = refl
get_or-map f (x ∷ xs) (suc k) d e l = get_or-map f xs k d e (omega arith)

numbers_of_at : {p : ℕ} (n : ℕ) (v : Vector p) (k : ℕ) → k < n → get_or (numbers_of n v) k 0 ≡ (v k).value
unfolding numbers_of
numbers_of_at n v k l = get_or-map (λ j. (v j).value) (range_with_len 0 n) k 0 0 (omega (arith, length-range_with_len 0 n))
    ∙ ap (λ j. (v j).value) (in_range n k l)

numbers_of_residues : {p : ℕ} → 0 < p → (n : ℕ) (v : Vector p) → AreResidues p (numbers_of n v)
numbers_of_residues {p} positive n v = All-from_get_or (λ x. x < p) (numbers_of n v) 0 (λ k l.
    let w : k < n = omega (arith, length-numbers_of n v) in
    subst (λ x. x < p) (sym (numbers_of_at n v k w)) (value_below positive (v k)))

residue-value : {p : ℕ} (a : Residue p) → residue p a.value ≡ a
residue-value {p} a = same_residue (residue p a.value) a (value-residue p a.value ∙ a.reduced)

dense-numbers_of : {p : ℕ} (n : ℕ) (v : Vector p) → EndsBefore n v → dense p (numbers_of n v) ≡ v
dense-numbers_of {p} n v ends = λ i k. at k (cases_lt k n) i
  where
    at : (k : ℕ) → (k < n) ⊎ (n ≤ k) → dense p (numbers_of n v) k ≡ v k
    at k (inl l) = dense_at p (numbers_of n v) k ∙ ap (residue p) (numbers_of_at n v k l) ∙ residue-value (v k)
    at k (inr l) = dense_at p (numbers_of n v) k ∙ ap (residue p) (get_or_past (numbers_of n v) k 0 (omega (arith, length-numbers_of n v)))
        ∙ sym (ends k l)

-- ---- the first place that is not 0
record IsFirstPlace (xs : List ℕ) (k : ℕ) : Type 0 where
  within : k < length xs
  some : 0 < get_or xs k 0
  before : (i : ℕ) → i < k → get_or xs i 0 ≡ 0

zeros_or_first : (xs : List ℕ) → ((k : ℕ) → get_or xs k 0 ≡ 0) ⊎ ((k : ℕ) × IsFirstPlace xs k)
zeros_or_first [] = inl (λ k. refl)
zeros_or_first (x ∷ xs) = by_case (cases_eq x 0) (zeros_or_first xs)
  where
    by_case : (x ≡ 0) ⊎ (x ≢ 0) → ((k : ℕ) → get_or xs k 0 ≡ 0) ⊎ ((k : ℕ) × IsFirstPlace xs k)
        → ((k : ℕ) → get_or (x ∷ xs) k 0 ≡ 0) ⊎ ((k : ℕ) × IsFirstPlace (x ∷ xs) k)
    by_case (inr other) rest = inr (0, record { within = omega arith; some = omega arith; before = λ i l. absurd (omega arith) })
    by_case (inl nothing) (inl all) = inl every
      where
        every : (k : ℕ) → get_or (x ∷ xs) k 0 ≡ 0
        every zero = nothing
        every (suc k) = all k
    by_case (inl nothing) (inr (k, first)) = inr (suc k, record { within = omega (arith, first.within); some = first.some; before = every })
      where
        every : (i : ℕ) → i < suc k → get_or (x ∷ xs) i 0 ≡ 0
        every zero l = nothing
        every (suc i) l = first.before i (omega arith)

-- ---- how many leads come before a place
record IsPosition (places : List ℕ) (k i : ℕ) : Type 0 where
  within : i ≤ length places
  below : (j : ℕ) → j < i → lead places j < k
  at : i < length places → k ≤ lead places i

position : (places : List ℕ) (k : ℕ) → (i : ℕ) × IsPosition places k i
position places k = found (among (length places) (omega arith))
  where
    among : (m : ℕ) → m ≤ length places → ((j : ℕ) → j < m → lead places j < k) ⊎ ((i : ℕ) × IsPosition places k i)
    among zero l = inl (λ j u. absurd (omega arith))
    among (suc m) l = by_case (among m (omega arith)) (cases_lt (lead places m) k)
      where
        by_case : ((j : ℕ) → j < m → lead places j < k) ⊎ ((i : ℕ) × IsPosition places k i) → (lead places m < k) ⊎ (k ≤ lead places m)
            → ((j : ℕ) → j < suc m → lead places j < k) ⊎ ((i : ℕ) × IsPosition places k i)
        by_case (inr h) here = inr h
        by_case (inl all) (inr here) = inr (m, record { within = omega arith; below = all; at = λ u. here })
        by_case (inl all) (inl here) = inl (λ j u. each j u (cases_eq j m))
          where
            each : (j : ℕ) → j < suc m → (j ≡ m) ⊎ (j ≢ m) → lead places j < k
            each j u (inl same) = subst (λ i. lead places i < k) (sym same) here
            each j u (inr other) = all j (omega arith)

    found : ((j : ℕ) → j < length places → lead places j < k) ⊎ ((i : ℕ) × IsPosition places k i) → (i : ℕ) × IsPosition places k i
    found (inr h) = h
    found (inl all) = (length places, record { within = omega arith; below = all; at = λ u. absurd (omega arith) })

-- ---- the first rows of a list changed
change_first : (List ℕ → List ℕ) → ℕ → List (List ℕ) → List (List ℕ)
change_first f zero rows = rows
change_first f (suc i) [] = []
change_first f (suc i) (r ∷ rows) = f r ∷ change_first f i rows

length-change_first : (f : List ℕ → List ℕ) (i : ℕ) (rows : List (List ℕ)) → length (change_first f i rows) ≡ length rows
unfolding change_first
length-change_first f zero rows = refl
length-change_first f (suc i) [] = refl
length-change_first f (suc i) (r ∷ rows) = ap suc (length-change_first f i rows)

change_first_below : (f : List ℕ → List ℕ) (i : ℕ) (rows : List (List ℕ)) (j : ℕ) → j < i → j < length rows
    → get_or (change_first f i rows) j [] ≡ f (get_or rows j [])
unfolding change_first
change_first_below f zero rows j l u = absurd (omega arith)
change_first_below f (suc i) [] j l u = absurd (omega arith)
change_first_below f (suc i) (r ∷ rows) zero l u = refl
change_first_below f (suc i) (r ∷ rows) (suc j) l u = change_first_below f i rows j (omega arith) (omega arith)

change_first_others : (f : List ℕ → List ℕ) (i : ℕ) (rows : List (List ℕ)) (j : ℕ) → i ≤ j → get_or (change_first f i rows) j [] ≡ get_or rows j []
unfolding change_first
change_first_others f zero rows j l = refl
change_first_others f (suc i) [] j l = refl
change_first_others f (suc i) (r ∷ rows) zero l = absurd (omega arith)
change_first_others f (suc i) (r ∷ rows) (suc j) l = change_first_others f i rows j (omega arith)

All-change_first : (P : List ℕ → Type 0) (f : List ℕ → List ℕ) (i : ℕ) (rows : List (List ℕ)) → ((r : List ℕ) → P (f r)) → All P rows
    → All P (change_first f i rows)
unfolding change_first
All-change_first P f zero rows h all = all
All-change_first P f (suc i) [] h all = all
All-change_first P f (suc i) (r ∷ rows) h all =
    All-cons P (f r) (change_first f i rows) (h r) (All-change_first P f i rows h (λ k d l. all (suc k) d (omega arith)))

-- ---- one row more
-- a row among rows in echelon form
record HasEchelon (p n : ℕ) (given : List (List ℕ)) : Type 0 where
  rows : List (List ℕ)
  places : List ℕ
  echelon : IsEchelonOf p n given rows places

module _ (p n : ℕ) (prime : IsPrime p) (rows : List (List ℕ)) (places : List ℕ) (e : IsEchelon p n rows places) (given : List ℕ)
    (sized : length given ≡ n) (residues : AreResidues p given) where
  positive : 0 < p
  positive = omega (arith, prime.above_one)

  ends : Each (EndsBefore n) (dense_rows p rows)
  ends = rows_end p n rows e.rows_of

  ends_list : (xs : List ℕ) → length xs ≡ n → EndsBefore n (dense p xs)
  ends_list xs same = subst (λ m. EndsBefore m (dense p xs)) same (EndsBefore-dense p xs)

  rest : Vector p
  rest = remainder (dense_rows p rows) (lead places) (dense p given)

  rest_ends : EndsBefore n rest
  unfolding rest
  rest_ends = EndsBefore-minus positive n (dense p given) (combination (λ j. dense p given (lead places j)) (dense_rows p rows))
      (ends_list given sized) (EndsBefore-combination n (λ j. dense p given (lead places j)) (dense_rows p rows) ends)

  left : List ℕ
  left = numbers_of n rest

  is_left : dense p left ≡ remainder (dense_rows p rows) (lead places) (dense p given)
  unfolding left rest
  is_left = dense-numbers_of n rest rest_ends

  left_sized : length left ≡ n
  unfolding left
  left_sized = length-numbers_of n rest

  left_residues : AreResidues p left
  unfolding left
  left_residues = numbers_of_residues positive n rest

  -- where something is left, a multiple of it is inserted
  module _ (k : ℕ) (first : IsFirstPlace left k) where
    number : ℕ
    number = get_or left k 0

    low : number < p
    unfolding number
    low = All-get_or (λ x. x < p) left k 0 first.within left_residues

    inverse_of : (residue p number ≡ residue p 0) ⊎ ((b : Residue p) × (residue p number ⊗ b ≡ residue p 1))
        → (b : Residue p) × (residue p number ⊗ b ≡ residue p 1)
    unfolding number
    inverse_of (inl nothing) = absurd (some_residue p number first.some low nothing)
    inverse_of (inr found) = found

    inverse : (b : Residue p) × (residue p number ⊗ b ≡ residue p 1)
    inverse = inverse_of (zero_or_inverse prime (residue p number))

    factor : ℕ
    factor = inverse.0.value

    is_one : residue p number ⊗ residue p factor ≡ residue p 1
    unfolding factor
    is_one = ap (λ b. residue p number ⊗ b) (residue-value inverse.0) ∙ inverse.1

    s : List ℕ
    s = numbers_of n (residue p factor ⊡ dense p left)

    s_sized : length s ≡ n
    unfolding s
    s_sized = length-numbers_of n (residue p factor ⊡ dense p left)

    is_s : dense p s ≡ residue p factor ⊡ dense p left
    unfolding s
    is_s = dense-numbers_of n (residue p factor ⊡ dense p left) (EndsBefore-scale n (residue p factor) (dense p left) (ends_list left left_sized))

    s_residues : AreResidues p s
    unfolding s
    s_residues = numbers_of_residues positive n (residue p factor ⊡ dense p left)

    i : ℕ
    i = (position places k).0

    here : IsPosition places k i
    unfolding i
    here = (position places k).1

    -- the rows above it, cleared at its lead
    clear : List ℕ → List ℕ
    clear r = numbers_of n (cleared k (dense p s) (dense p r))

    is_clear : (r : List ℕ) → length r ≡ n → dense p (clear r) ≡ cleared k (dense p s) (dense p r)
    unfolding clear
    is_clear r same = dense-numbers_of n (cleared k (dense p s) (dense p r))
        (EndsBefore-plus n (dense p r) _ (ends_list r same) (EndsBefore-scale n _ (dense p s) (ends_list s s_sized)))

    new : List (List ℕ)
    new = change_first clear i rows

    new_rows : AreRows p n new
    unfolding new clear
    new_rows = record {
      sized = All-change_first (λ r. length r ≡ n) clear i rows (λ r. length-numbers_of n (cleared k (dense p s) (dense p r))) e.rows_of.sized;
      residues = All-change_first (AreResidues p) clear i rows (λ r. numbers_of_residues positive n (cleared k (dense p s) (dense p r)))
          e.rows_of.residues;
    }

    above : (j : ℕ) → i ≤ j → j < length places → k < lead places j
    above j l u =
        let other : lead places j ≢ k = other_leads p positive n rows places e (dense p given) left k is_left first.some
        (All-get_or (λ x. x < p) left k 0 first.within left_residues) j u in
        by_case other (cases_eq i j)
      where
        by_case : lead places j ≢ k → (i ≡ j) ⊎ (i ≢ j) → k < lead places j
        by_case other (inl same) = let w : k ≤ lead places j = subst (λ m. k ≤ lead places m) same (here.at (omega arith)) in omega arith
        by_case other (inr apart) =
            let w : k ≤ lead places i = here.at (omega arith) in
            let v : lead places i < lead places j = e.reduced.rising i j (omega arith) (omega (arith, e.many, length-dense_rows p rows)) in
            omega arith

    cleared_rows : (j : ℕ) → j < i → dense p (get_or new j []) ≡ cleared k (dense p s) (dense p (get_or rows j []))
    unfolding new
    cleared_rows j l =
        let w : j < length rows = omega (arith, here.within, e.many) in
        ap (dense p) (change_first_below clear i rows j l w)
        ∙ is_clear (get_or rows j []) (All-get_or (λ r. length r ≡ n) rows j [] w e.rows_of.sized)

    echelon-more : IsEchelonOf p n (given ∷ rows) (insert new i s) (insert places i k)
    unfolding new number
    echelon-more = echelon_of-remainder p positive n rows (insert new i s) places (insert places i k) e given left s
        (residue p factor) (residue p number) is_left is_s is_one
        (echelon_of-insert p positive n rows new places e s k i s_sized s_residues (omega (arith, first.within, left_sized))
        (scaled_one p left s k number factor refl is_s is_one)
        (λ q l. scaled_zero p left s (residue p factor) q is_s (first.before q l))
        (scaled_clear p positive n rows places e (dense p given) left s (residue p factor) is_left is_s)
        here.within here.below above cleared_rows (change_first_others clear i rows) new_rows (length-change_first clear i rows))

  echelon_with : HasEchelon p n (given ∷ rows)
  echelon_with = by_case (zeros_or_first left)
    where
      by_case : ((k : ℕ) → get_or left k 0 ≡ 0) ⊎ ((k : ℕ) × IsFirstPlace left k) → HasEchelon p n (given ∷ rows)
      by_case (inl nothing) = record {
        rows = rows;
        places = places;
        echelon = echelon_of-spanned p positive n rows places e given left is_left (dense-zeros p left (λ k l. nothing k));
      }
      by_case (inr (k, first)) = record { rows = insert (new k first) (i k first) (s k first); places = insert places (i k first) k; echelon = echelon-more k first }

-- ---- each list of rows has an echelon form
echelon_exists : (p n : ℕ) → IsPrime p → (given : List (List ℕ)) → AreRows p n given → HasEchelon p n given
echelon_exists p n prime [] h = record { rows = []; places = []; echelon = record { echelon = echelon_none p n; inside = none; spans = none } }
echelon_exists p n prime (r ∷ given) h =
    let before = echelon_exists p n prime given (record {
      sized = λ k d l. h.sized (suc k) d (omega arith);
      residues = λ k d l. h.residues (suc k) d (omega arith);
    }) in
    let after = echelon_with p n prime before.rows before.places before.echelon.echelon r (h.sized 0 [] (omega arith)) (h.residues 0 [] (omega arith)) in
    joined before.rows after.rows after.places before.echelon.inside before.echelon.spans after.echelon after.echelon.spans
  where
    joined : (rows new : List (List ℕ)) (places : List ℕ) → Each (InSpan (dense_rows p given)) (dense_rows p rows)
        → Each (InSpan (dense_rows p rows)) (dense_rows p given) → IsEchelonOf p n (r ∷ rows) new places
        → Each (InSpan (dense_rows p new)) (dense p r ∷ dense_rows p rows) → HasEchelon p n (r ∷ given)
    joined rows new places inside spans more_of (more here olds) = record {
      rows = new;
      places = places;
      echelon = record {
        echelon = more_of.echelon;
        inside = Each-weaker (dense_rows p new) (λ v u. InSpan-trans (dense p r ∷ dense_rows p given) (dense p r ∷ dense_rows p rows) v
            (more (InSpan-first (dense p r) (dense_rows p given))
            (Each-weaker (dense_rows p rows) (λ w q. InSpan-more (dense p r) w (dense_rows p given) q) inside)) u) more_of.inside;
        spans = more here (Each-weaker (dense_rows p given) (λ v u. InSpan-trans (dense_rows p new) (dense_rows p rows) v olds u) spans);
      };
    }

-- ---- each list of vectors has a basis
rows_of_vectors : {p : ℕ} → 0 < p → (n : ℕ) (vs : List (Vector p)) → Each (EndsBefore n) vs
    → (rows : List (List ℕ)) × AreRows p n rows × (dense_rows p rows ≡ vs)
rows_of_vectors {p} some n [] none =
    ([], record { sized = All-nil (λ r. length r ≡ n); residues = All-nil (AreResidues p) }, refl)
rows_of_vectors {p} some n (v ∷ vs) (more h hs) =
    let (rows, rows_of, same) = rows_of_vectors some n vs hs in (
      numbers_of n v ∷ rows,
      record {
        sized = All-cons (λ r. length r ≡ n) (numbers_of n v) rows (length-numbers_of n v) rows_of.sized;
        residues = All-cons (AreResidues p) (numbers_of n v) rows (numbers_of_residues some n v) rows_of.residues;
      },
      ap (λ w. w ∷ dense_rows p rows) (dense-numbers_of n v h) ∙ ap (λ ws. v ∷ ws) same,
    )

pub span_basis : (p n : ℕ) → IsPrime p → (vs : List (Vector p)) → Each (EndsBefore n) vs → (b : Subspace) × IsBasisOf p n (InSpan vs) b
span_basis p n prime vs ends =
    let (rows, rows_of, same) = rows_of_vectors (omega (arith, prime.above_one)) n vs ends in
    let found = echelon_exists p n prime rows rows_of in (
      subspace p n found.rows,
      subst (λ ws. IsBasisOf p n (InSpan ws) (subspace p n found.rows)) same
          (basis_of-echelon p n rows found.rows found.places found.echelon),
    )
