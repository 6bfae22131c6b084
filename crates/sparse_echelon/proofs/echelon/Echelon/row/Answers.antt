use Rattle.std.proofs.Common.{subst}
use Rattle.linear_algebra.specs.Coordinates.{IsReduction, unit}
use Rattle.linear_algebra.specs.Echelon.{IsPivot}
use Rattle.linear_algebra.specs.Vector.{minus}
use Rattle.sparse_echelon.specs.System.{System, vector, vectors}
use Rattle.sparse_echelon.proofs.Answering.{row_from_lead, row_from_pivot}
use Rattle.sparse_echelon.proofs.echelon.Echelon.row.Goals as goal

pub unreachable-requires : goal.unreachable-requires
unreachable-requires c =
    subst (λ (s : System). IsPivot (vectors s) c.args.place → ⊥) c.self.view_is
    (λ pivot. row_from_pivot _ _ c.self.invariant c.args.place pivot c.in-None.ensures.number) c.requires

pub returns-clause-row : goal.returns-clause-row
returns-clause-row c =
    subst (λ (s : System). IsReduction (vectors s) (unit c.args.place) (minus (unit c.args.place) (vector s c.index.result.now))) c.self.view_is
    (row_from_lead _ _ c.self.invariant c.args.place c.in-Some.row c.index.result.now c.in-Some.ensures.number c.index.ensures)
