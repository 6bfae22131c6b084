use Rattle.std.proofs.Common.{sym, ◌∙◌, subst}
use Rattle.field_table.specs.Residues.{AreResidues}
use Rattle.field_table.specs.Table.{IsListed}
use Rattle.dense_mat.specs.Matrix.{IsMatrix}
use Rattle.split_state.proofs.Versions.{version_characteristic, version_dim, version_matches}
use Rattle.session_core.proofs.OperatorLemmas.{commutator_of, commutator_finish}
use Rattle.session_core.proofs.answers.splits.refined.Goals as goal

pub refine-requires-clause-size : goal.refine-requires-clause-size
refine-requires-clause-size c =
    c.requires.size ∙ sym (version_dim c.args.space.now c.requires.version.1.history c.args.splitting.now c.requires.version.1.version)

pub refine-requires-clause-matrix : goal.refine-requires-clause-matrix
refine-requires-clause-matrix c =
    subst (λ p. IsMatrix p c.args.mat.now)
    (sym (version_characteristic c.args.space.now c.requires.version.1.history c.args.splitting.now c.requires.version.1.version))
    c.requires.matrix

pub refine-requires-clause-coefficients : goal.refine-requires-clause-coefficients
refine-requires-clause-coefficients c =
    subst (λ p. AreResidues p c.args.poly)
    (sym (version_characteristic c.args.space.now c.requires.version.1.history c.args.splitting.now c.requires.version.1.version))
    c.requires.coefficients

pub refine-requires-clause-listed : goal.refine-requires-clause-listed
refine-requires-clause-listed c =
    version_matches c.args.space.now
    (subst IsListed (c.characteristic-listed.ensures.value ∙ c.field.ensures) c.characteristic-listed.ensures.listed)
    c.requires.version.1.history c.args.splitting.now c.args.op c.args.mat.now c.requires.version.1.version c.requires.operator

pub returns-in_ok-commutator_reply-in-Err : goal.returns-in_ok-commutator_reply-in-Err
returns-in_ok-commutator_reply-in-Err c = λ v coefficients same.
    commutator_finish c.args.space.now v c.args.splitting.now c.args.op c.args.mat.now coefficients c.in_ok-commutator_reply-in-Err.field-0
    c.requires.keeps c.requires.operator
    (c.in_ok-commutator_reply-in-Err.ensures c.args.splitting.now c.args.mat.now
    (commutator_of c.args.splitting.now c.args.mat.now c.refine.result c.in-Err.fault c.in-Err.is c.refine.ensures.commutator))
