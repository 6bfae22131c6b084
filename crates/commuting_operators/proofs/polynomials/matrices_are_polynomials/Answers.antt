use Rattle.commuting_operators.proofs.PolynomialMatrices.{matrix_polynomial, column_polynomial}
use Rattle.commuting_operators.proofs.polynomials.matrices_are_polynomials.Goals as goal

pub returns : goal.returns
returns c = record { values = matrix_polynomial; columns = column_polynomial }
