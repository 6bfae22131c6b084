use Rattle.split_state.proofs.FirstDifferences.{among_once, none_where_listed_agree}
use Rattle.split_state.proofs.VersionSplittings.{agreeing_centralises}
use Rattle.split_state.proofs.laws.first_differences_are_unique.Goals as goal

pub returns-clause-law : goal.returns-clause-law
returns-clause-law c = λ s a op other i j x y k l z w h. among_once s.characteristic a s.names s.matrices h.many op other i j x y k l z w

pub returns-clause-none : goal.returns-clause-none
returns-clause-none c = none_where_listed_agree

pub returns-clause-commute : goal.returns-clause-commute
returns-clause-commute c = agreeing_centralises
