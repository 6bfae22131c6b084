use Rattle.std.proofs.Common.{arith}
use Rattle.linear_algebra.proofs.Reductions.{bound_is_lead, lead_is_bound, bound_is_pivot, pivot_is_bound}
use Rattle.linear_algebra.proofs.classes.pivots_are_leads.Goals as goal

pub returns : goal.returns
returns c = record {
  pivot = λ p rows basis lead k prime t h. bound_is_lead (omega (arith, prime.above_one)) rows basis lead t k
      (pivot_is_bound (omega (arith, prime.above_one)) rows k h);
  lead =
      λ p rows basis lead j prime t l. bound_is_pivot (omega (arith, prime.above_one)) rows (lead j) (lead_is_bound prime rows basis lead t j l);
}
