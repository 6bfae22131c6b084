use Rattle.std.proofs.Common.{refl}
use Rattle.hecke_ops.proofs.Operators.{operator_square}
use Rattle.hecke_ops.proofs.operator.Operator.trace.Goals as goal

pub trace-requires : goal.trace-requires
trace-requires c = record { matrix = operator_square c.self.inside.modulus c.self.inside.field c.self.inside.mat _ refl c.self.invariant }
