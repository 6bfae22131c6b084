-- The test of an operator says one thing.
use Rattle.std.proofs.Common.{◌≡◌, ℕ, refl, ap, subst}
use Rattle.field_table.specs.Table.{IsListed}
use Rattle.field_table.proofs.TableFacts.{listed_prime}
use Rattle.linear_algebra.specs.Prime.{IsPrime}
use Rattle.op_polynomials.specs.declared.name.OpName.{OpName}
use Rattle.op_polynomials.specs.declared.name.OpName.TheVariants.{T, Star}
use Rattle.quotient_coords.specs.Quotient.{Ground}
use Rattle.hecke_ops.proofs.FirstFailing.{failing_once, failing_or_keeps}
use Rattle.split_state.specs.Decomposition.{Decomposition}
use Rattle.split_state.specs.Difference.{AgreesWithListed}
use Rattle.split_state.proofs.FirstDifferences.{none_where_listed_agree}
use Rattle.split_state.proofs.Versions.{operator_matrix_once}
use Rattle.shared_core.specs.Verdicts.{FailsFirst, KeepsRelationsOf, IsAccepted, IsCommutator, Verdict, accepted, relation, commutator, IsVerdict}

fails_or_keeps : (g : Ground) → IsPrime g.characteristic → (op : OpName) (k : ℕ) → FailsFirst g op k → KeepsRelationsOf g op → ⊥
fails_or_keeps g prime (T n) k h keeps = failing_or_keeps prime h.1 keeps
fails_or_keeps g prime Star k h keeps = h

fails_once : (g : Ground) → IsPrime g.characteristic → (op : OpName) (j k : ℕ) → FailsFirst g op j → FailsFirst g op k → j ≡ k
fails_once g prime (T n) j k h other = failing_once prime h.1 other.1
fails_once g prime Star j k h other = absurd h

agrees_or_differs : (g : Ground) → IsPrime g.characteristic → (s : Decomposition) (op : OpName) → IsAccepted g s op → IsCommutator g s op → ⊥
agrees_or_differs g prime s op h k =
    none_where_listed_agree s k.matrix k.other k.row k.column k.left k.right
    (subst (AgreesWithListed s) (operator_matrix_once g prime op h.matrix k.matrix h.operator k.operator) h.agrees) k.first

pub verdict_once : (g : Ground) → IsListed g.characteristic → (s : Decomposition) (op : OpName) (v w : Verdict) → IsVerdict g s op v
    → IsVerdict g s op w → v ≡ w
verdict_once g listed s op accepted accepted h k = refl
verdict_once g listed s op accepted (relation j) h k = absurd (fails_or_keeps g (listed_prime g.characteristic listed) op j k h.keeps)
verdict_once g listed s op accepted commutator h k = absurd (agrees_or_differs g (listed_prime g.characteristic listed) s op h k)
verdict_once g listed s op (relation i) accepted h k = absurd (fails_or_keeps g (listed_prime g.characteristic listed) op i h k.keeps)
verdict_once g listed s op (relation i) (relation j) h k = ap relation (fails_once g (listed_prime g.characteristic listed) op i j h k)
verdict_once g listed s op (relation i) commutator h k = absurd (fails_or_keeps g (listed_prime g.characteristic listed) op i h k.keeps)
verdict_once g listed s op commutator accepted h k = absurd (agrees_or_differs g (listed_prime g.characteristic listed) s op k h)
verdict_once g listed s op commutator (relation j) h k = absurd (fails_or_keeps g (listed_prime g.characteristic listed) op j k h.keeps)
verdict_once g listed s op commutator commutator h k = refl
