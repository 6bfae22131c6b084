use Rattle.hecke_ops.proofs.Operators.{operator_size, operator_square}
use Rattle.hecke_ops.proofs.operator.Operator.mat.Goals as goal

pub returns-clause-square : goal.returns-clause-square
returns-clause-square c = operator_square c.self.inside.modulus c.self.inside.field c.self.inside.mat c.args.self.now c.self.view_is c.self.invariant

pub returns-clause-size : goal.returns-clause-size
returns-clause-size c = operator_size c.self.inside.modulus c.self.inside.field c.self.inside.mat c.args.self.now c.self.view_is c.self.invariant
