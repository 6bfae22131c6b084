use Rattle.std.proofs.Common.{arith}
use Rattle.std.proofs.Math.Decide.{ℕ_discrete}
use Rattle.field_table.proofs.Merging.{merged_start, merged_left, merged_right, merged_right_none, merged_both, merged_both_none}
use Rattle.field_table.proofs.sums.merged.Goals as goal

pub both-init : goal.both-init
both-init c = rw c.in_ok-sum.ensures.items (merged_start c.args.field c.args.c c.args.x.now c.args.y.now)

pub both-preserved-then-x-i : goal.both-preserved-then-x-i
both-preserved-then-x-i c = rw c.in_ok-push.ensures.items (merged_left _ _ _ _ _ _ _ c.requires.left c.requires.residues c.both.invariant
    (omega arith) (λ l. omega arith))

pub both-preserved-then-y-j : goal.both-preserved-then-y-j
both-preserved-then-y-j c = elim (ℕ_discrete c.mul.result 0) [
  | yes none ↦ rw (c.in_ok-push_nonzero.ensures.zero none) (merged_right_none _ _ _ _ _ _ c.mul.result _ c.requires.right c.both.invariant
      (omega arith) c.mul.ensures.value none)
  | no some ↦ rw (c.in_ok-push_nonzero.ensures.some some) (merged_right _ _ _ _ _ _ c.mul.result _ c.requires.right c.both.invariant (omega arith)
      (λ l. omega arith) c.mul.ensures.value c.mul.ensures.below some)
]

pub both-preserved : goal.both-preserved
both-preserved c = elim (ℕ_discrete c.add.result 0) [
  | yes none ↦ rw (c.in_ok-push_nonzero-2.ensures.zero none) (merged_both_none _ _ _ _ _ _ c.mul-else-y-j.result c.add.result _ c.requires.left
      c.requires.right c.both.invariant (omega arith) (omega arith) (omega arith)
      c.mul-else-y-j.ensures.value c.add.ensures.value none)
  | no some ↦ rw (c.in_ok-push_nonzero-2.ensures.some some) (merged_both _ _ _ _ _ _ c.mul-else-y-j.result c.add.result _ c.requires.left
      c.requires.right c.both.invariant (omega arith) (omega arith) (omega arith)
      c.mul-else-y-j.ensures.value c.add.ensures.value c.add.ensures.below some)
]

pub left-preserved : goal.left-preserved
left-preserved c = record {
  merged = rw c.in_ok-push-2.ensures.items (merged_left _ _ _ _ _ _ _ c.requires.left c.requires.residues
      c.left.invariant.merged (omega arith) (λ l. omega arith));
  last = omega arith;
}

pub right-preserved : goal.right-preserved
right-preserved c = elim (ℕ_discrete c.mul-in-right.result 0) [
  | yes none ↦ record {
    merged = rw (c.in_ok-push_nonzero-3.ensures.zero none)
        (merged_right_none _ _ _ _ _ _ c.mul-in-right.result _ c.requires.right c.right.invariant.merged (omega arith) c.mul-in-right.ensures.value
        none);
    last = omega arith;
  }
  | no some ↦ record {
    merged = rw (c.in_ok-push_nonzero-3.ensures.some some)
        (merged_right _ _ _ _ _ _ c.mul-in-right.result _ c.requires.right c.right.invariant.merged (omega arith) (λ l. omega arith)
        c.mul-in-right.ensures.value c.mul-in-right.ensures.below some);
    last = omega arith;
  }
]
