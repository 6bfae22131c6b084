-- What the stored form answers of the given rows.
use Rattle.std.proofs.Common.{◌≡◌, ◌≢◌, ◌<◌, ◌↔◌, ℕ, List, [], length, get_or, Option, Some, None, MatchOption, IsTrue, refl, sym, ◌∙◌, ap, subst, arith}
use Rattle.std.specs.Option.{is_some}
use Rattle.std.proofs.Math.ListN.{length-map}
use Rattle.std.proofs.lemmas.List.{get_or_default}
use Rattle.std.proofs.lemmas.List.Elements.{All-get_or}
use Rattle.field_table.specs.Terms.{HasPlacesBelow}
use Rattle.field_table.proofs.TableFacts.{listed_prime}
use Rattle.linear_algebra.specs.Prime.{IsPrime}
use Rattle.linear_algebra.specs.Vector.{Vector, combination, minus, EndsBefore}
use Rattle.linear_algebra.specs.Span.{Each, row}
use Rattle.linear_algebra.specs.Echelon.{IsPivot, IsTopBasis, remainder}
use Rattle.linear_algebra.specs.Sparse.{sparse, sparse_rows}
use Rattle.linear_algebra.specs.Coordinates.{IsReduction, AreKeptCoefficients, unit}
use Rattle.linear_algebra.proofs.Differences.{minus_twice}
use Rattle.linear_algebra.proofs.SparseLaws.{EndsBefore-sparse, row-sparse_rows}
use Rattle.linear_algebra.proofs.Spans.{Each-rows, InSpan-trans}
use Rattle.linear_algebra.proofs.Pivots.{pivot_is_lead, independent_from_top}
use Rattle.linear_algebra.proofs.Elimination.{eliminated_all, row_of_lead, trace_of_remainder}
use Rattle.linear_algebra.proofs.Reductions.{bound_is_pivot, lead_is_bound, reduction_once, remainder_is_reduction}
use Rattle.linear_algebra.specs.Span.{IsRank}
use Rattle.linear_algebra.specs.Coordinates.{AreKeptCoefficientsOf}
use Rattle.sparse_echelon.specs.System.{System, vectors, vector}
use Rattle.sparse_echelon.specs.Leads.{lead, at_leads}
use Rattle.sparse_echelon.specs.Stored.{IsEchelon}
use Rattle.sparse_echelon.specs.declared.stored.Stored.{Stored}
use Rattle.sparse_echelon.proofs.Steps.{length-sparse_rows}

module _ (s : System) (stored : Stored) (h : IsEchelon s stored) where
  -- the characteristic is prime
  prime : IsPrime s.characteristic
  prime = listed_prime s.characteristic h.listed

  -- and above 0
  positive : 0 < s.characteristic
  positive = omega (arith, prime.above_one)

  -- the stored rows are a basis of the span
  top : IsTopBasis (vectors s) (sparse_rows s.characteristic stored.basis.items) (lead stored.leads)
  top = eliminated_all (vectors s) (sparse_rows s.characteristic stored.basis.items) (sparse_rows s.characteristic stored.logs.items)
      (lead stored.leads) stored.kept.items
      (rw (length-map s.rows (sparse s.characteristic)) h.stores.eliminated)

  -- the rows end before the width
  ends : Each (EndsBefore s.width) (vectors s)
  ends = Each-rows (EndsBefore s.width) (vectors s) (λ j u. at j (omega (arith, length-map s.rows (sparse s.characteristic))))
    where
      at : (j : ℕ) → j < length s.rows → EndsBefore s.width (row (vectors s) j)
      at j u = subst (EndsBefore s.width) (sym (row-sparse_rows s.characteristic s.rows j u))
          (EndsBefore-sparse s.characteristic s.width (get_or s.rows j []) (All-get_or (HasPlacesBelow s.width) s.rows j [] u h.places))

  -- the greatest place of a stored row is a pivot
  pub pivot_from_row : (k j : ℕ) → (j < length stored.leads.places) × (lead stored.leads j ≡ k) → IsPivot (vectors s) k
  pivot_from_row k j (u, e) = subst (IsPivot (vectors s)) e (bound_is_pivot positive (vectors s) (lead stored.leads j)
      (lead_is_bound prime (vectors s) (sparse_rows s.characteristic stored.basis.items) (lead stored.leads) top j
      (omega (arith, length-sparse_rows s.characteristic stored.basis.items, h.stores.many))))

  -- and each pivot is that of a stored row
  pub row_from_pivot : (k : ℕ) → IsPivot (vectors s) k → ((j : ℕ) → j < length stored.leads.places → lead stored.leads j ≢ k) → ⊥
  row_from_pivot k (v, held, greatest) other =
      let (j, u, e) = pivot_is_lead (sparse_rows s.characteristic stored.basis.items) (lead stored.leads) top.reduced k
      (v, InSpan-trans (sparse_rows s.characteristic stored.basis.items) (vectors s) v top.spans held, greatest) in
      other j (omega (arith, length-sparse_rows s.characteristic stored.basis.items, h.stores.many)) e

  -- so a place is a pivot where the table has a row
  pub pivot_where_found : (k : ℕ) (found : Option ℕ) → MatchOption found ((j : ℕ) → j < length stored.leads.places → lead stored.leads j ≢ k)
      (λ j. (j < length stored.leads.places) × (lead stored.leads j ≡ k))
      → IsTrue (is_some found) ↔ IsPivot (vectors s) k
  pivot_where_found k None other = (λ t. absurd cc, λ pivot. absurd (row_from_pivot k pivot other))
  pivot_where_found k (Some j) at = (λ t. pivot_from_row k j at, λ pivot. refl)

  -- there are as many stored rows as kept ones
  pub rank_of_kept : IsRank (vectors s) (length stored.kept.items)
  rank_of_kept = record {
    basis = sparse_rows s.characteristic stored.basis.items;
    is_basis = record {
      independent = independent_from_top (sparse_rows s.characteristic stored.basis.items) (lead stored.leads) top.reduced;
      same = record {
        forth = λ v held. InSpan-trans (sparse_rows s.characteristic stored.basis.items) (vectors s) v top.spans held;
        back = λ v held. InSpan-trans (vectors s) (sparse_rows s.characteristic stored.basis.items) v top.inside held;
      };
    };
    size = sym h.stores.eliminated.as_many;
  }

  -- the remainder is the reduction
  pub reduction_from_remainder : (x y : List (ℕ × ℕ)) → sparse s.characteristic y ≡ remainder (sparse_rows s.characteristic stored.basis.items)
      (lead stored.leads) (vector s x)
      → IsReduction (vectors s) (vector s x) (vector s y)
  reduction_from_remainder x y is_y =
      subst (IsReduction (vectors s) (vector s x)) (sym is_y) (remainder_is_reduction positive (vectors s)
      (sparse_rows s.characteristic stored.basis.items) (lead stored.leads) top (vector s x))

  -- and there is no other
  remainder_once : (x : Vector s.characteristic) (y : Vector s.characteristic) → IsReduction (vectors s) x y
      → remainder (sparse_rows s.characteristic stored.basis.items) (lead stored.leads) x ≡ y
  remainder_once x y r = reduction_once positive s.width (vectors s) ends x
      (remainder (sparse_rows s.characteristic stored.basis.items) (lead stored.leads) x) y
      (remainder_is_reduction positive (vectors s) (sparse_rows s.characteristic stored.basis.items) (lead stored.leads) top x) r

  -- the row at a greatest place is the unit vector there less its reduction
  pub row_from_lead : (k j : ℕ) (r : List (ℕ × ℕ)) → (j < length stored.leads.places) × (lead stored.leads j ≡ k) → r ≡ get_or stored.basis.items j r
      → IsReduction (vectors s) (unit k) (minus (unit k) (vector s r))
  row_from_lead k j r (u, e) is_row =
      let within : j < length stored.basis.items = omega (arith, h.stores.many) in
      let left : Vector s.characteristic = remainder (sparse_rows s.characteristic stored.basis.items) (lead stored.leads) (unit k) in
      let row_is : vector s r ≡ minus (unit k) left = ap (sparse s.characteristic) (is_row ∙ get_or_default stored.basis.items j r [] within)
      ∙ sym (row-sparse_rows s.characteristic stored.basis.items j within)
      ∙ sym (row_of_lead prime (sparse_rows s.characteristic stored.basis.items) (lead stored.leads) top.reduced j
      (omega (arith, length-sparse_rows s.characteristic stored.basis.items)))
      ∙ ap (λ q. minus (unit q) (remainder (sparse_rows s.characteristic stored.basis.items) (lead stored.leads) (unit q))) e in
      subst (IsReduction (vectors s) (unit k)) (sym (ap (minus (unit k)) row_is ∙ minus_twice positive (unit k) left))
      (remainder_is_reduction positive (vectors s) (sparse_rows s.characteristic stored.basis.items) (lead stored.leads) top (unit k))

  -- the combination of the logs is the trace
  pub trace_from_logs : (x c : List (ℕ × ℕ)) → sparse s.characteristic c ≡ combination (at_leads stored.leads (vector s x))
      (sparse_rows s.characteristic stored.logs.items) → AreKeptCoefficientsOf (vectors s) (vector s x) (vector s c)
  trace_from_logs x c is_c = record {
    of_reduction = λ y r. subst (λ z. AreKeptCoefficients (vectors s) (vector s x) z (vector s c))
        (remainder_once (vector s x) y r) (subst (AreKeptCoefficients (vectors s) (vector s x) left) (sym is_c) traced);
  }
    where
      left : Vector s.characteristic
      left = remainder (sparse_rows s.characteristic stored.basis.items) (lead stored.leads) (vector s x)

      traced : AreKeptCoefficients (vectors s) (vector s x) left (combination (at_leads stored.leads (vector s x))
          (sparse_rows s.characteristic stored.logs.items))
      traced = trace_of_remainder prime (vectors s) (length s.rows) (sparse_rows s.characteristic stored.basis.items)
          (sparse_rows s.characteristic stored.logs.items) (lead stored.leads) stored.kept.items h.stores.eliminated (vector s x)
