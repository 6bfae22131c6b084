use Rattle.std.proofs.Common.{refl, ◌<◌, arith}
use Rattle.std.proofs.lemmas.List.{length-set}
use Rattle.std.proofs.lemmas.List.Elements.{All-set}
use Rattle.heilbronn_sets.proofs.Members.{IsSmall-member}
use Rattle.heilbronn_chains.specs.Chains.{degree}
use Rattle.hecke_columns.proofs.Coprime.{IsInvertible-from_determinant}
use Rattle.hecke_columns.proofs.ChainSums.{count_begins, count_goes_on, count_ends, member_after}
use Rattle.hecke_columns.proofs.chains.add_chain.Goals as goal

pub act-hit-requires-clause-coprime : goal.act-hit-requires-clause-coprime
act-hit-requires-clause-coprime c = IsInvertible-from_determinant c.args.level.now (degree c.args.start) c.args.start c.requires.coprime
    c.requires.member.determinant_is

pub loop-matrix-init : goal.loop-matrix-init
loop-matrix-init c = record {
  counted = count_begins c.args.level.now c.args.field (degree c.args.start) c.args.k c.args.start c.args.counts.now c.act-hit.result c.add.result
      c.requires.member c.act-hit.ensures.number (omega arith) c.add.ensures.value;
  residues = All-set (λ x. x < c.args.field) c.args.counts.now c.act-hit.result c.add.result c.add.ensures.below c.requires.residues;
}

pub act-hit-requires-in-Some-clause-coprime : goal.act-hit-requires-in-Some-clause-coprime
act-hit-requires-in-Some-clause-coprime c =
    let f = member_after c.loop-matrix.invariant.counted c.in-Some.ensures.next in
    IsInvertible-from_determinant c.args.level.now (degree c.args.start) c.in-Some.matrix c.requires.coprime f.is_member.determinant_is

pub act-hit-requires-in-Some-clause-entries : goal.act-hit-requires-in-Some-clause-entries
act-hit-requires-in-Some-clause-entries c =
    let f = member_after c.loop-matrix.invariant.counted c.in-Some.ensures.next in
    IsSmall-member (degree c.args.start) c.in-Some.matrix c.requires.limit f.is_member

pub loop-matrix-preserved : goal.loop-matrix-preserved
loop-matrix-preserved c = record {
  counted = count_goes_on c.args.level.now c.args.field (degree c.args.start) c.args.k c.args.start c.loop-matrix.last c.in-Some.matrix
      c.args.counts.now c.loop-matrix.counts c.act-hit-in-Some.result c.add-in-Some.result
      (member_after c.loop-matrix.invariant.counted c.in-Some.ensures.next) c.act-hit-in-Some.ensures.number
      (omega (
        arith,
        c.loop-matrix.auto.counts,
        length-set c.args.counts.now c.act-hit.result c.add.result,
        c.act-hit-in-Some.ensures.below,
        c.requires.count,
      )) c.add-in-Some.ensures.value c.loop-matrix.invariant.counted;
  residues = All-set (λ x. x < c.args.field) c.loop-matrix.counts c.act-hit-in-Some.result c.add-in-Some.result c.add-in-Some.ensures.below
      c.loop-matrix.invariant.residues;
}

pub returns-clause-sum : goal.returns-clause-sum
returns-clause-sum c = count_ends c.args.level.now c.args.field (degree c.args.start) c.args.k c.args.start c.loop-matrix.last c.args.counts.now
    c.loop-matrix.counts c.requires.member c.requires.begins (c.in_default.ensures.last.0 refl) c.loop-matrix.invariant.counted
