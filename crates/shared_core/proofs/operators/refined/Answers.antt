use Rattle.std.proofs.Common.{Err, sym, ◌∙◌, ap, subst}
use Rattle.field_table.specs.Residues.{AreResidues}
use Rattle.field_table.specs.Table.{IsListed}
use Rattle.dense_mat.specs.Matrix.{IsMatrix}
use Rattle.split_state.proofs.Versions.{version_characteristic, version_dim, version_matches, version_more}
use Rattle.shared_core.proofs.operators.refined.Goals as goal

pub refine-requires-clause-size : goal.refine-requires-clause-size
refine-requires-clause-size c = c.requires.size ∙ sym (version_dim c.args.space.now c.requires.version.0 c.args.last.now c.requires.version.1)

pub refine-requires-clause-matrix : goal.refine-requires-clause-matrix
refine-requires-clause-matrix c =
    subst (λ p. IsMatrix p c.args.mat.now) (sym (version_characteristic c.args.space.now c.requires.version.0 c.args.last.now c.requires.version.1))
    c.requires.residues

pub refine-requires-clause-coefficients : goal.refine-requires-clause-coefficients
refine-requires-clause-coefficients c =
    subst (λ p. AreResidues p c.args.entry.now.poly)
    (sym (version_characteristic c.args.space.now c.requires.version.0 c.args.last.now c.requires.version.1)) c.requires.coefficients

pub refine-requires-clause-listed : goal.refine-requires-clause-listed
refine-requires-clause-listed c =
    version_matches c.args.space.now
    (subst IsListed (c.characteristic-listed.ensures.value ∙ c.field.ensures) c.characteristic-listed.ensures.listed)
    c.requires.version.0 c.args.last.now c.args.entry.now.op c.args.mat.now c.requires.version.1 c.requires.operator

pub returns-in-Ok-clause-version : goal.returns-in-Ok-clause-version
returns-in-Ok-clause-version c = λ E h.
    version_more c.args.space.now E c.args.entry.now c.args.last.now c.in-Ok.next h
    (record { matrix = c.args.mat.now; operator = c.requires.operator; step = c.in-Ok.ensures.step })

pub returns-in-Err-Commutator-clause-commutator : goal.returns-in-Err-Commutator-clause-commutator
returns-in-Err-Commutator-clause-commutator c = λ same. record {
  matrix = c.args.mat.now;
  keeps = c.requires.keeps;
  operator = c.requires.operator;
  other = _;
  row = _;
  column = _;
  left = _;
  right = _;
  first = c.in-Err-Commutator.ensures.commutator c.in-Err-Commutator.field-0-0 c.in-Err-Commutator.field-0-1 c.in-Err-Commutator.field-0-2
      c.in-Err-Commutator.field-0-3 c.in-Err-Commutator.field-0-4 (ap Err c.in-Err-Commutator.field-0-is);
}
