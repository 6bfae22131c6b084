use Rattle.merel_theorem.proofs.SmallPolynomials.{one, two, four, six, eight, nine, twelve, twenty_seven}
use Rattle.merel_theorem.proofs.polynomials.small_hecke_polynomials.Goals as goal

pub returns : goal.returns
returns c = record {
  one = one;
  two = two;
  four = four;
  six = six;
  eight = eight;
  nine = nine;
  twelve = twelve;
  twenty_seven = twenty_seven;
}
