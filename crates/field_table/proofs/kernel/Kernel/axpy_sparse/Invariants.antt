use Rattle.std.proofs.Common.{◌≡◌, take}
use Rattle.linear_algebra.specs.Dense.{dense}
use Rattle.linear_algebra.specs.Residue.{residue}
use Rattle.linear_algebra.specs.Sparse.{sparse}
use Rattle.linear_algebra.specs.Vector.{◌⊞◌, ◌⊡◌}
use Rattle.field_table.specs.Residues.{AreResidues}
use Rattle.field_table.proofs.kernel.Kernel.axpy_sparse.Given as goal

-- the terms so far are added
abbrev pub invariant-loop-term : goal.invariant-loop-term
invariant-loop-term g l = record {
  sum : dense g.row.P l.acc ≡ dense g.row.P l.fn.acc ⊞ residue g.row.P l.multiple.factor ⊡ sparse g.row.P (take l.term-index l.terms);
  residues : AreResidues g.row.P l.acc;
}
