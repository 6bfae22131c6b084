-- The sum of a relation from the columns of its symbols.
use Rattle.std.proofs.Common.{◌≡◌, ◌+◌, ◌-◌, ◌*◌, ◌%◌, ◌<◌, ◌≤◌, ℕ, List, [], length, get_or, sym, ◌∙◌, ap, subst, arith}
use Rattle.std.proofs.lemmas.List.{get_or_default}
use Rattle.std.proofs.lemmas.List.Elements.{All-get_or}
use Rattle.linear_algebra.specs.Vector.{Vector, ◌⊞◌}
use Rattle.linear_algebra.specs.Dense.{dense}
use Rattle.linear_algebra.specs.Coordinates.{IsCoordinates, unit}
use Rattle.linear_algebra.proofs.Vectors.{one-scale}
use Rattle.linear_algebra.proofs.DenseLaws.{dense_plus}
use Rattle.linear_algebra.proofs.Coordinates.{coordinates-plus}
use Rattle.field_table.specs.Residues.{AreResidues}
use Rattle.p1_normal.specs.declared.matrix.Matrix.{Matrix}
use Rattle.p1_normal.specs.Points.{symbols}
use Rattle.p1_normal.specs.Actions.{image_number, matrix_s, matrix_t}
use Rattle.manin_relations.specs.Relations.{relation, relations}
use Rattle.manin_relations.proofs.Occurrences.{s-lt, t-lt}
use Rattle.manin_relations.proofs.RelationLaws.{EndsBefore-relations, relation_pair, relation_triple}
use Rattle.quotient_coords.specs.Quotient.{AreCoordinates, ground_of}
use Rattle.hecke_columns.specs.Hecke.{IsColumn, hecke_sum}
use Rattle.hecke_columns.proofs.Sums.{hecke_sum-plus}
use Rattle.dense_mat.specs.Echelon.{AreRows}
use Rattle.hecke_ops.specs.Operators.{AreColumns, relation_sum}

-- a list of the sums of residues at each place is the sum of the vectors
pub dense_sum : (p : ℕ) (xs ys zs : List ℕ) → length xs ≡ length ys → length zs ≡ length xs
    → ((k : ℕ) → k < length zs → get_or zs k 0 ≡ (get_or xs k 0 + get_or ys k 0) % p) → dense p zs ≡ dense p xs ⊞ dense p ys
dense_sum p xs ys zs e f each =
    dense_plus p 1 xs ys zs e f (λ k l. each k (omega arith)
    ∙ ap (λ n. n % p) (let w : get_or xs k 0 + get_or ys k 0 ≡ get_or xs k 0 + 1 * get_or ys k 0 = omega arith in w))
    ∙ ap (λ v. dense p xs ⊞ v) (one-scale (dense p ys))

-- the coordinates of a sum of sums
coordinates_plus : (N p : ℕ) (L : List Matrix) → 0 < p → (x y : Vector p) (xs ys zs : List ℕ) → AreCoordinates N (hecke_sum N L x) xs
    → AreCoordinates N (hecke_sum N L y) ys → length zs ≡ length xs → AreResidues p zs → dense p zs ≡ dense p xs ⊞ dense p ys
    → AreCoordinates N (hecke_sum N L (x ⊞ y)) zs
coordinates_plus N p L positive x y xs ys zs h g count residues sum = record {
  count = count ∙ h.count;
  residues = residues;
  coordinates = subst (λ v. IsCoordinates (length (symbols N)) (relations N) v (dense p zs)) (sym (hecke_sum-plus N L x y))
      (subst (IsCoordinates (length (symbols N)) (relations N) (hecke_sum N L x ⊞ hecke_sum N L y)) (sym sum)
      (coordinates-plus positive (length (symbols N)) (relations N) (EndsBefore-relations p N) (hecke_sum N L x) (hecke_sum N L y)
      (dense p xs) (dense p ys) h.coordinates g.coordinates));
}

-- the sum of a two-term relation
pub sum_of_pair : (p N : ℕ) (columns : List (List ℕ)) (k s : ℕ) (xs ys zs : List ℕ) → 0 < p → k < length (symbols N) → s ≡ image_number N k matrix_s
    → xs ≡ get_or columns k [] → ys ≡ get_or columns s [] → length zs ≡ length xs → AreResidues p zs → dense p zs ≡ dense p xs ⊞ dense p ys
    → (L : List Matrix) → AreColumns N p L columns → AreCoordinates {p = p} N (relation_sum N L k) zs
sum_of_pair p N columns k s xs ys zs positive l is_s first second count residues sum L h =
    let s_below : s < length (symbols N) = subst (λ n. n < length (symbols N)) (sym is_s) (s-lt N k l) in
    let a : IsColumn (ground_of N p) L k xs = subst (IsColumn (ground_of N p) L k) (sym first) (h.each k l) in
    let b : IsColumn (ground_of N p) L s ys = subst (IsColumn (ground_of N p) L s) (sym second) (h.each s s_below) in
    subst (λ v. AreCoordinates {p = p} N (hecke_sum N L v) zs) (ap (λ n. unit k ⊞ unit n) is_s ∙ sym (relation_pair p N k l))
    (coordinates_plus N p L positive (unit k) (unit s) xs ys zs a b count residues sum)

-- the sum of a three-term relation
pub sum_of_triple : (p N : ℕ) (columns : List (List ℕ)) (k j t u : ℕ) (xs ys ws us zs : List ℕ) → 0 < p → length (symbols N) ≤ k
    → k < 2 * length (symbols N) → j ≡ k - length (symbols N) → t ≡ image_number N j matrix_t → u ≡ image_number N t matrix_t
    → xs ≡ get_or columns j [] → ys ≡ get_or columns t [] → ws ≡ get_or columns u []
    → length us ≡ length xs → AreResidues p us → dense p us ≡ dense p xs ⊞ dense p ys
    → length zs ≡ length us → AreResidues p zs → dense p zs ≡ dense p us ⊞ dense p ws
    → (L : List Matrix) → AreColumns N p L columns → AreCoordinates {p = p} N (relation_sum N L k) zs
sum_of_triple p N columns k j t u xs ys ws us zs positive from l is_j is_t is_u first second third count residues sum count' residues' sum' L h =
    let within : j < length (symbols N) = omega arith in
    let whole : length (symbols N) + j ≡ k = omega arith in
    let t_below : t < length (symbols N) = subst (λ n. n < length (symbols N)) (sym is_t) (t-lt N j within) in
    let u_below : u < length (symbols N) = subst (λ n. n < length (symbols N)) (sym is_u) (t-lt N t t_below) in
    let a : IsColumn (ground_of N p) L j xs = subst (IsColumn (ground_of N p) L j) (sym first) (h.each j within) in
    let b : IsColumn (ground_of N p) L t ys = subst (IsColumn (ground_of N p) L t) (sym second) (h.each t t_below) in
    let d : IsColumn (ground_of N p) L u ws = subst (IsColumn (ground_of N p) L u) (sym third) (h.each u u_below) in
    let same : unit {p = p} j ⊞ unit t ⊞ unit u ≡ relation N k =
    ap (λ n. unit {p = p} j ⊞ unit t ⊞ unit n) is_u
    ∙ ap (λ n. unit {p = p} j ⊞ unit n ⊞ unit (image_number N n matrix_t)) is_t
    ∙ sym (relation_triple p N j within) ∙ ap (λ n. relation {p = p} N n) whole in
    subst (λ v. AreCoordinates {p = p} N (hecke_sum N L v) zs) same
    (coordinates_plus N p L positive (unit j ⊞ unit t) (unit u) us ws zs
    (coordinates_plus N p L positive (unit j) (unit t) xs ys us a b count residues sum) d count' residues' sum')

-- what an index reads is the column at that place
pub column_at : (columns : List (List ℕ)) (k : ℕ) (xs r : List ℕ) → xs ≡ r → r ≡ get_or columns k r → k < length columns → xs ≡ get_or columns k []
column_at columns k xs r same is l = same ∙ is ∙ get_or_default columns k r [] l

-- and as high
pub height_at : (p n : ℕ) (columns : List (List ℕ)) (k : ℕ) (xs r : List ℕ) → AreRows p n columns → xs ≡ r → r ≡ get_or columns k r
    → k < length columns → length xs ≡ n
height_at p n columns k xs r rows same is l = ap (λ ys. length ys) (same ∙ is) ∙ All-get_or (λ ys. length ys ≡ n) columns k r l rows.sized
