-- The boundaries of terms are added one after another.
use Rattle.std.proofs.Common.{◌≡◌, ◌+◌, ◌-◌, ◌*◌, ◌%◌, ◌<◌, ℕ, List, length, get_or, map, replicate, set, take, sym, ◌∙◌, ap, arith, length-set}
use Rattle.std.specs.List.{range_with_len}
use Rattle.std.proofs.lemmas.List.{take_all}
use Rattle.std.proofs.lemmas.List.Elements.{All-set}
use Rattle.linear_algebra.specs.Residue.{residue}
use Rattle.linear_algebra.specs.Vector.{Vector, ◌⊞◌, ◌⊡◌, zeros}
use Rattle.linear_algebra.specs.Coordinates.{unit}
use Rattle.linear_algebra.specs.Dense.{dense}
use Rattle.linear_algebra.specs.Sparse.{single, sparse}
use Rattle.linear_algebra.proofs.DenseLaws.{dense-replicate}
use Rattle.linear_algebra.proofs.Differences.{minus-times, opposite-residue, opposite-times, scale-minus}
use Rattle.linear_algebra.proofs.SparseLaws.{scale-unit, sparse_more, sparse_nil}
use Rattle.linear_algebra.proofs.Vectors.{combination-zeros, plus_assoc, plus-zeros, scale-scale, zeros-plus}
use Rattle.field_table.specs.Residues.{AreResidues}
use Rattle.field_table.proofs.Lists.{dense_set}
use Rattle.p1_normal.specs.Points.{symbols}
use Rattle.p1_normal.specs.Actions.{image_number, matrix_s}
use Rattle.cusps_boundary.specs.Cusps.{cusps, cusp_number}
use Rattle.cusps_boundary.specs.Boundary.{boundary_of, boundary}
use Rattle.cusps_boundary.proofs.Boundaries.{boundary-plus, boundary-scale, boundary-unit}

-- the boundary of one term
boundary-single : (p N k a : ℕ) → a < p → k < length (symbols N) →
    boundary N (single p k a) ≡ residue p a ⊡ unit (cusp_number N k) ⊞ residue p (p - a) ⊡ unit (cusp_number N (image_number N k matrix_s))
boundary-single p N k a below within =
    let positive : 0 < p = omega arith in
    let from : Vector p = unit (cusp_number N k) in
    let to : Vector p = unit (cusp_number N (image_number N k matrix_s)) in
    ap (boundary N) (sym (scale-unit p k a))
    ∙ boundary-scale N (residue p a) (unit k)
    ∙ ap (λ v. residue p a ⊡ v) (boundary-unit N k within)
    ∙ scale-minus positive (residue p a) from to
    ∙ minus-times positive (residue p a ⊡ from) (residue p a ⊡ to)
    ∙ ap (λ v. residue p a ⊡ from ⊞ v) (sym (scale-scale (residue p (p - 1)) (residue p a) to))
    ∙ ap (λ r. residue p a ⊡ from ⊞ r ⊡ to) (sym (opposite-times positive (residue p a)) ∙ opposite-residue p a below)

-- the boundaries of the first i terms are added to the list
pub record AreAdded (p N : ℕ) (start : List ℕ) (terms : List (ℕ × ℕ)) (i : ℕ) (sums : List ℕ) : Type 0 where
  pub sum : dense p sums ≡ dense p start ⊞ boundary N (sparse p (take i terms))
  pub residues : AreResidues p sums
  pub size : length sums ≡ length (cusps N)

-- none yet
pub added_none : (p N : ℕ) (start : List ℕ) (terms : List (ℕ × ℕ)) → AreResidues p start → length start ≡ length (cusps N) →
    AreAdded p N start terms 0 start
added_none p N start terms residues size = record {
  sum = sym (ap (λ x. dense p start ⊞ boundary N x) (sparse_nil p) ∙ ap (λ v. dense p start ⊞ v) (boundary-zeros p N) ∙ plus-zeros (dense p start));
  residues = residues;
  size = size;
}
  where
    boundary-zeros : (p N : ℕ) → boundary {p = p} N zeros ≡ zeros
    boundary-zeros p N = combination-zeros (map (boundary_of N) (range_with_len 0 (length (symbols N))))

-- one more
pub added_more : (p N k a from to x y : ℕ) (start : List ℕ) (terms : List (ℕ × ℕ)) (i : ℕ) (sums : List ℕ) → i < length terms →
    (get_or terms i (0, 0)).0 ≡ k → (get_or terms i (0, 0)).1 ≡ a
    → a < p → k < length (symbols N) → from ≡ cusp_number N k → to ≡ cusp_number N (image_number N k matrix_s) → from < length (cusps N) →
    to < length (cusps N)
    → x ≡ (get_or sums from 0 + a) % p → x < p → y ≡ (get_or (set sums from x) to 0 + (p - a)) % p → y < p
    → AreAdded p N start terms i sums → AreAdded p N start terms (i + 1) (set (set sums from x) to y)
added_more p N k a from to x y start terms i sums l place number a_below k_within is_from is_to from_below to_below ex x_below ey y_below h =
    let middle : List ℕ = set sums from x in
    let size : length (set sums from x) ≡ length (cusps N) = length-set sums from x ∙ h.size in
    let times_a : a * 1 ≡ a = omega arith in
    let times_rest : (p - a) * 1 ≡ p - a = omega arith in
    let before : Vector p = boundary N (sparse p (take i terms)) in
    let first : Vector p = residue p a ⊡ unit from in
    let second : Vector p = residue p (p - a) ⊡ unit to in
    record {
      sum = dense_set p (p - a) to 1 y middle (omega arith) (ey ∙ ap (λ z. (get_or middle to 0 + z) % p) (sym times_rest))
          ∙ ap (λ v. v ⊞ second) (dense_set p a from 1 x sums (omega (arith, h.size)) (ex ∙ ap (λ z. (get_or sums from 0 + z) % p) (sym times_a)))
          ∙ ap (λ v. v ⊞ first ⊞ second) h.sum
          ∙ plus_assoc (dense p start ⊞ before) first second
          ∙ plus_assoc (dense p start) before (first ⊞ second)
          ∙ ap (λ v. dense p start ⊞ (before ⊞ v)) (ap (λ c. residue p a ⊡ unit c ⊞ second) is_from
          ∙ ap (λ c. residue p a ⊡ unit (cusp_number N k) ⊞ residue p (p - a) ⊡ unit c) is_to ∙ sym (boundary-single p N k a a_below k_within))
          ∙ ap (λ v. dense p start ⊞ v) (sym (boundary-plus N (sparse p (take i terms)) (single p k a))
          ∙ ap (boundary N) (ap (λ j. sparse p (take i terms) ⊞ single p j a) (sym place)
          ∙ ap (λ b. sparse p (take i terms) ⊞ single p (get_or terms i (0, 0)).0 b) (sym number) ∙ sym (sparse_more p terms i l)));
      residues = All-set (λ z. z < p) middle to y y_below (All-set (λ z. z < p) sums from x x_below h.residues);
      size = length-set middle to y ∙ size;
    }

-- all of them
pub added_all : (p N : ℕ) (start sums : List ℕ) (terms : List (ℕ × ℕ)) → AreAdded p N start terms (length terms) sums →
    dense p sums ≡ dense p start ⊞ boundary N (sparse p terms)
added_all p N start sums terms h = h.sum ∙ ap (λ ts. dense p start ⊞ boundary N (sparse p ts)) (take_all (length terms) terms (omega arith))

-- added to zeros they are the boundary
pub boundary_value : (p N n : ℕ) (start new sums : List ℕ) (terms combo : List (ℕ × ℕ)) → sums ≡ new → start ≡ replicate n 0 → terms ≡ combo →
    dense p new ≡ dense p start ⊞ boundary N (sparse p terms) → dense p sums ≡ boundary N (sparse p combo)
boundary_value p N n start new sums terms combo same zero lent e =
    ap (dense p) same ∙ e
    ∙ ap (λ xs. dense p xs ⊞ boundary N (sparse p terms)) zero
    ∙ ap (λ v. v ⊞ boundary N (sparse p terms)) (dense-replicate p n)
    ∙ zeros-plus (boundary N (sparse p terms))
    ∙ ap (λ ts. boundary N (sparse p ts)) lent
