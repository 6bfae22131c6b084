use Rattle.std.proofs.Common.{rules, length, ap, arith}
use Rattle.field_table.specs.Table.{IsListed}
use Rattle.op_polynomials.specs.declared.name.OpName.TheVariants.{Star}
use Rattle.split_state.proofs.Keeping.{step_matches}
use Rattle.split_state.proofs.VersionSplittings.{whole_splitting}
use Rattle.splitting_cases.proofs.splittings.twice.Goals as goal

pub refine-requires-2-clause-listed : goal.refine-requires-2-clause-listed
refine-requires-2-clause-listed c =
    let listed : IsListed c.args.field = search rules in
    step_matches c.in_ok-whole.whole c.in_ok-split.split Star c.in_ok-mat.mat c.in_ok-poly.poly
    (whole_splitting c.args.field 3 listed c.in_ok-whole.whole c.in_ok-whole.ensures)
    (λ k l e. absurd (omega (arith, l, ap length c.in_ok-whole.ensures.names))) c.in_ok-split.ensures.step
