use Rattle.p1_normal.proofs.NormalForms.{SamePoint-normal_form, IsBelow-normal_form}
use Rattle.p1_normal.proofs.LevelLaws.{normal_form-least, normal_form_iff}
use Rattle.p1_normal.proofs.laws.normal_form_laws.Goals as goal

pub returns : goal.returns
returns c = record {
  names = SamePoint-normal_form;
  below = IsBelow-normal_form;
  least = normal_form-least;
  same = normal_form_iff;
}
