-- Merel's set has no fault.
use Rattle.std.proofs.Common.{◌≡◌, ◌-◌, ◌^◌, ◌<◌, ◌≤◌, ℕ, true, List, length, get_or, sym, ◌∙◌, ap, arith, ◌&&◌}
use Rattle.std.specs.Prelude.{pos, unsigned_abs, nat_le, Option, Some, None, Result, Ok, Err, IfErr, if◌then◌else◌}
use Rattle.std.proofs.lemmas.Option.{none-some}
use Rattle.std.proofs.lemmas.Bool.{and_from, le-leb}
use Rattle.std.proofs.lemmas.Bool.Decides.{Decides-int_eq}
use Rattle.p1_normal.specs.declared.matrix.Matrix.{Matrix}
use Rattle.p1_normal.specs.declared.matrix.TheConstants.{MAX_DET, MAX_ENTRY}
use Rattle.p1_normal.specs.Actions.{determinant, IsSmall}
use Rattle.heilbronn_sets.specs.Merel.{merel_matrices}
use Rattle.heilbronn_sets.specs.Sets.{IsMatrixSet, is_small, has_determinant, list_fault, set_fault}
use Rattle.heilbronn_sets.specs.declared.matrix_set.SetFault.TheVariants.{Limit}
use Rattle.heilbronn_sets.proofs.Members.{IsMatrixSet-merel_matrices}
use Rattle.heilbronn_sets.proofs.Faults.{list_fault-none, zero_matrix}

is_small-from : (m : Matrix) → IsSmall m → is_small m ≡ true
is_small-from m h =
    and_from (nat_le (unsigned_abs m.a) MAX_ENTRY && nat_le (unsigned_abs m.b) MAX_ENTRY && nat_le (unsigned_abs m.c) MAX_ENTRY)
    (nat_le (unsigned_abs m.d) MAX_ENTRY)
    (and_from (nat_le (unsigned_abs m.a) MAX_ENTRY && nat_le (unsigned_abs m.b) MAX_ENTRY) (nat_le (unsigned_abs m.c) MAX_ENTRY)
    (and_from (nat_le (unsigned_abs m.a) MAX_ENTRY) (nat_le (unsigned_abs m.b) MAX_ENTRY) (le-leb (unsigned_abs m.a) MAX_ENTRY h.a)
    (le-leb (unsigned_abs m.b) MAX_ENTRY h.b))
    (le-leb (unsigned_abs m.c) MAX_ENTRY h.c))
    (le-leb (unsigned_abs m.d) MAX_ENTRY h.d)

-- a set of matrices has no fault
set_none : (n : ℕ) (ms : List Matrix) → IsMatrixSet (record { det = n; list = ms }) → set_fault n ms ≡ None
set_none n ms h =
    ap (λ t. if t then list_fault n ms else Some (Limit n)) (and_from (nat_le 1 n) (nat_le n MAX_DET) (le-leb 1 n (let l = h.positive in omega arith))
    (le-leb n MAX_DET h.limited))
    ∙ list_fault-none n ms (length ms) (omega arith) (record {
      each = λ k l.
          and_from (is_small (get_or ms k zero_matrix)) (has_determinant n (get_or ms k zero_matrix))
          (is_small-from (get_or ms k zero_matrix) (h.small k zero_matrix l))
          ((Decides-int_eq (determinant (get_or ms k zero_matrix)) (pos n)).1 (h.determinants k zero_matrix l));
    })

pub merel_no_fault : (n : ℕ) (ms : List Matrix) → 0 < n → n ≤ MAX_DET → ms ≡ merel_matrices n → set_fault n ms ≡ None
merel_no_fault n ms some few e = set_none n ms (IsMatrixSet-merel_matrices n ms some few e)

-- there are fewer than 2^32 of its matrices
pub merel_few : (n : ℕ) (ms : List Matrix) → 0 < n → n ≤ MAX_DET → ms ≡ merel_matrices n → length ms < 2 ^ 32 - 1
merel_few n ms some limited e = (IsMatrixSet-merel_matrices n ms some limited e).few

-- where there is no fault nothing is refused
pub none_refused : {A E : Type 0} (f : Option E) (P : E → Type 0) (r : Result A E) → f ≡ None → IfErr r (λ e. f ≡ Some e) → IfErr r P
none_refused f P (Ok x) e h = tt
none_refused f P (Err x) e h = absurd (none-some x (sym e ∙ h))
