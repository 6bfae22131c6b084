use Rattle.std.proofs.Common.{◌<◌, refl, arith, subst}
use Rattle.std.specs.Prelude.{unsigned_abs}
use Rattle.heilbronn_chains.specs.Chains.{Follows, degree}
use Rattle.heilbronn_chains.proofs.Walks.{degree_is, walk_smaller}
use Rattle.hecke_columns.proofs.StepLists.{lower_row, stepping_begins, stepping_goes_on, stepping_ends}
use Rattle.hecke_columns.proofs.steps.push_chain.Goals as goal

pub loop-matrix-init : goal.loop-matrix-init
loop-matrix-init c = stepping_begins (degree c.args.start) c.args.start c.args.steps.now.items c.push.new.self.items c.requires.member
    c.in_ok-push.ensures.items

pub least_quotient-requires-clause-lower : goal.least_quotient-requires-clause-lower
least_quotient-requires-clause-lower c =
    let row = lower_row (degree c.args.start) c.loop-matrix.last c.loop-matrix.invariant.walked.is_member in
    omega (arith, row.below, row.few, c.requires.limit)

pub least_quotient-requires-clause-right : goal.least_quotient-requires-clause-right
least_quotient-requires-clause-right c =
    let row = lower_row (degree c.args.start) c.loop-matrix.last c.loop-matrix.invariant.walked.is_member in
    omega (arith, row.few, c.requires.limit)

pub loop-matrix-preserved : goal.loop-matrix-preserved
loop-matrix-preserved c =
    let n = degree c.args.start in
    let last = c.loop-matrix.last in
    let next = c.in-Some.matrix in
    let follows : Follows n last next = subst (λ d. Follows d last next) (degree_is n last c.loop-matrix.invariant.walked.is_member)
    c.in-Some.ensures.next in
    let falls = walk_smaller n last next follows in
    let more : 0 < unsigned_abs last.c = omega (arith, falls) in
    stepping_goes_on n c.args.start last next c.args.steps.now.items c.loop-matrix.steps.items c.push-in-Some.new.self.items c.least_quotient.result
    c.requires.some c.requires.limit more follows c.least_quotient.ensures.covers c.least_quotient.ensures.least c.in_ok-push-2.ensures.items
    c.loop-matrix.invariant

pub returns : goal.returns
returns c = record {
  chain = stepping_ends (degree c.args.start) c.args.start c.loop-matrix.last c.args.steps.now.items c.loop-matrix.steps.items c.requires.member
      c.requires.begins (c.in_default.ensures.last.0 refl) c.loop-matrix.invariant;
}
