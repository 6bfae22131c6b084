use Rattle.p1_normal.proofs.LevelLaws.{s_twice, t_thrice, u_round, star_twice, star_s, star_t}
use Rattle.p1_normal.proofs.laws.order_laws.Goals as goal

pub returns : goal.returns
returns c = record {
  s_twice = s_twice;
  t_thrice = t_thrice;
  u_round = u_round;
  star_twice = star_twice;
  star_s = star_s;
  star_t = star_t;
}
