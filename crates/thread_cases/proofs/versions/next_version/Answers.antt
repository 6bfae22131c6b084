use Rattle.std.proofs.Common.{◌++◌, ◌∷◌, [], sym, ◌∙◌, subst}
use Rattle.field_table.specs.Residues.{AreResidues}
use Rattle.field_table.specs.Table.{IsListed}
use Rattle.dense_mat.specs.Matrix.{IsMatrix}
use Rattle.split_state.specs.Versions.{IsOperatorMatrix, IsVersion}
use Rattle.split_state.proofs.Versions.{version_characteristic, version_dim, version_matches, version_more}
use Rattle.thread_cases.proofs.versions.next_version.Goals as goal

pub refine-requires-clause-size : goal.refine-requires-clause-size
refine-requires-clause-size c =
    c.in_ok-mat.ensures.size ∙ sym (version_dim c.args.space.now c.requires.version.0 c.args.last.now c.requires.version.1)

pub refine-requires-clause-matrix : goal.refine-requires-clause-matrix
refine-requires-clause-matrix c =
    subst (λ p. IsMatrix p c.in_ok-mat.mat)
    (sym (version_characteristic c.args.space.now c.requires.version.0 c.args.last.now c.requires.version.1)) c.in_ok-mat.ensures.square

pub refine-requires-clause-coefficients : goal.refine-requires-clause-coefficients
refine-requires-clause-coefficients c =
    subst (λ p. AreResidues p c.args.entry.now.poly)
    (sym (version_characteristic c.args.space.now c.requires.version.0 c.args.last.now c.requires.version.1)) c.requires.residues

pub refine-requires-clause-listed : goal.refine-requires-clause-listed
refine-requires-clause-listed c =
    version_matches c.args.space.now
    (subst IsListed (version_characteristic c.args.space.now c.requires.version.0 c.args.last.now c.requires.version.1) c.parts.ensures.splitting.listed)
    c.requires.version.0 c.args.last.now c.args.entry.now.op c.in_ok-mat.mat c.requires.version.1
    (subst (λ op. IsOperatorMatrix c.args.space.now op c.in_ok-mat.mat) (sym c.requires.star) c.in_ok-mat.ensures.star)

pub returns : goal.returns
returns c = λ entries h.
    subst (IsVersion c.args.space.now (entries ++ c.args.entry.now ∷ [])) (sym c.in_ok-new.ensures.ok)
    (version_more c.args.space.now entries c.args.entry.now c.args.last.now c.in_ok-next.next h
    (record {
      matrix = c.in_ok-mat.mat;
      operator = subst (λ op. IsOperatorMatrix c.args.space.now op c.in_ok-mat.mat) (sym c.requires.star) c.in_ok-mat.ensures.star;
      step = c.in_ok-next.ensures.step;
    }))
