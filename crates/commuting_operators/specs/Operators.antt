-- Operators at a level N (Stein, Modular Forms: A Computational Approach, chapter 3). A ground is a level and a characteristic.
--   IsPrimeTo N op      the index n of an operator T_n is at least 1 and coprime to N; star, which has no index, is prime to each level
--   RelationsAreKept    each operator that is prime to the level of a ground keeps congruence there
--   MatricesCommute     the matrices of any two such operators commute, over a field of prime characteristic
use Rattle.std.specs.Prelude.{◌≡◌, ◌<◌, ℕ}
use Rattle.linear_algebra.specs.Prime.{IsPrime}
use Rattle.p1_normal.specs.Units.{gcd}
use Rattle.quotient_coords.specs.Quotient.{Ground}
use Rattle.op_polynomials.specs.declared.name.OpName.{OpName}
use Rattle.op_polynomials.specs.declared.name.OpName.TheVariants as ops
use Rattle.split_state.specs.Versions.{HaveCommutingMatrices}
use Rattle.session_core.specs.Operators.{KeepsCongruence}

abbrev pub IsPrimeTo : ℕ → OpName → Type 0
IsPrimeTo N (ops.T n) = (0 < n) × (gcd n N ≡ 1)
IsPrimeTo N ops.Star = Unit {0}

abbrev pub RelationsAreKept : Type 0
RelationsAreKept = (g : Ground) (op : OpName) → 0 < g.characteristic → IsPrimeTo g.level op
    → KeepsCongruence g op

abbrev pub MatricesCommute : Type 0
MatricesCommute = (g : Ground) (op other : OpName) → IsPrime g.characteristic → IsPrimeTo g.level op
    → IsPrimeTo g.level other → HaveCommutingMatrices g op other
