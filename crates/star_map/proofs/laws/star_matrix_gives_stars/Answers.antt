use Rattle.star_map.proofs.Columns.{star_of_coordinates, stars_of_lists, star_matrix_once}
use Rattle.star_map.proofs.laws.star_matrix_gives_stars.Goals as goal

pub returns : goal.returns
returns c = record {
  vectors = λ N p columns x c positive h. star_of_coordinates N p columns x c positive h;
  lists = λ N p columns x values images positive h. stars_of_lists N p columns x values images positive h;
  one_matrix = λ N p columns others prime h k. star_matrix_once N p columns others prime h k;
}
