-- What a call that reads a whole source has taken.
--   TakesWithin old new limit past   bytes were taken, where the source tells them: more than the limit exactly where `past` holds,
--                                    and at most one piece more than it
use Rattle.std.specs.Prelude.{ℕ, ◌+◌, ◌<◌, ◌≤◌, ◌↔◌, List, length}
use Rattle.std.specs.declared.option.Option.{Option}
use Rattle.std.specs.Io.KnownBytes.{Consumes}
use Rattle.sym_io.specs.declared.whole.TheConstants.{PIECE_SIZE}

pub record TakesWithin (old new : Option (List ℕ)) (limit : ℕ) (past : Type 0) : Type 0 where
  pub taken : List ℕ
  pub consumed : Consumes old new taken
  pub cause : past ↔ (limit < length taken)
  pub one_piece : length taken ≤ limit + PIECE_SIZE
