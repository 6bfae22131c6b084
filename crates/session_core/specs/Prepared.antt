-- What a prepared command keeps.
--   IsPrepared g v c command numbers demand
--                          the command is within its limits, nothing refuses it at version v with c parts, the numbers are those of the symbols
--                          of its terms, with the coefficients, and the demand is its own
use Rattle.std.specs.Prelude.{◌≡◌, ℕ, ℤ, ◌<◌, List, length, All, None}
use Rattle.p1_normal.specs.Points.{symbols}
use Rattle.quotient_coords.specs.Quotient.{Ground}
use Rattle.script_text.specs.declared.command.Command.{Command}
use Rattle.script_text.specs.Commands.{IsWithin}
use Rattle.session_core.specs.declared.demand.Demand.{Demand}
use Rattle.session_core.specs.Terms.{terms_of, symbol_terms}
use Rattle.session_core.specs.Refusals.{refusal_of}
use Rattle.session_core.specs.Demands.{IsDemand, HasColumns}

pub record IsPrepared (g : Ground) (v parts : ℕ) (command : Command) (numbers : List (ℕ × ℤ)) (demand : Demand) : Type 0 where
  pub within : IsWithin command
  pub unrefused : refusal_of g v parts command ≡ None
  pub terms : numbers ≡ symbol_terms g.level (terms_of command)
  pub places : All (λ t. t.0 < length (symbols g.level)) numbers
  pub demand_is : IsDemand g command demand
  pub columns : HasColumns g.level demand
