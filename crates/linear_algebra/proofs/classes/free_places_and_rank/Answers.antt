use Rattle.linear_algebra.proofs.Counting.{length-free_places}
use Rattle.linear_algebra.proofs.classes.free_places_and_rank.Goals as goal

pub returns : goal.returns
returns _ = record { law = λ p d rows basis prime ends b. length-free_places prime d rows basis ends b }
