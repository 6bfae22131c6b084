-- The core that sessions share, of one space: a list of flights, a history of splits, and the length that each session has learnt.
--   CoreState                   the flights, the history, and the learnt lengths, that of session 1 first
--   core_start sessions         no flight, no entry, and nothing learnt
--   IsFlightKey N key           n is 1 to MAX_DET and coprime to N, and the symbol is one of level N
--   IsLegalAct setting s session act
--                               the session may do so at the state s
--   IsLegalStep setting sessions s step
--                               the session is 1 to the number of sessions, and its act is legal
--   look_outcome standing       what a look at a key of this standing answers
--   claims_made key session standing
--                               the claim that such a look makes, of a free key alone
--   commit_outcome verdict learnt count
--                               what a commit answers, where the test of the operator says so, the session has learnt one length, and the
--                               history has another
--   committed s session entry outcome
--                               the state after a commit with this outcome
--   Does setting s session act o t
--                               the act of the session answers o at the state s and leaves the state t
--   IsStep setting s step o t   the step answers o at the state s and leaves the state t
--   IsRun setting sessions s steps outcomes t
--                               the steps are legal one after another from the state s, answer so, and leave the state t
--   IsFirstIllegal setting sessions steps place
--                               the steps before the place run from the start, and the step at it is not legal after them
use Rattle.std.specs.Prelude.{◌≡◌, ◌≢◌, ℕ, ◌+◌, ◌-◌, ◌<◌, ◌≤◌, ◌==◌, ◌++◌, if◌then◌else◌, nat_lt, List, [], ◌∷◌, Some, length, take, replicate, slice_get, slice_set, slice_index}
use Rattle.p1_normal.specs.declared.matrix.TheConstants.{MAX_DET}
use Rattle.p1_normal.specs.Points.{symbols}
use Rattle.p1_normal.specs.Units.{gcd}
use Rattle.quotient_coords.specs.Quotient.{Ground}
use Rattle.op_polynomials.specs.declared.entry.SplitEntry.{SplitEntry}
use Rattle.column_flight.specs.declared.event.FlightKey.{FlightKey}
use Rattle.column_flight.specs.declared.event.FlightEvent.{FlightEvent}
use Rattle.column_flight.specs.declared.event.FlightEvent.TheVariants as event
use Rattle.column_flight.specs.Flights.{Standing, free, claimed, published, claimer, standing}
use Rattle.split_state.specs.Decomposition.{Decomposition}
use Rattle.split_state.specs.Versions.{IsVersion}
use Rattle.reply_text.specs.declared.limits.TheConstants.{MAX_VERSIONS}
use Rattle.shared_core.specs.declared.step.CoreStep.{CoreStep}
use Rattle.shared_core.specs.declared.step.Act.{Act}
use Rattle.shared_core.specs.declared.step.Act.TheVariants.{Learn, Look, Publish, Abandon, Commit}
use Rattle.shared_core.specs.declared.step.Outcome.{Outcome}
use Rattle.shared_core.specs.declared.step.Outcome.TheVariants.{Learnt, Ready, Mine, Pending, Published, Abandoned, Committed, Stale, Full, Relation, Commutator}
use Rattle.shared_core.specs.Verdicts.{IsOperator, Verdict, accepted, relation, commutator, IsVerdict}

pub record CoreState : Type 0 where
  pub flights : List FlightEvent
  pub history : List SplitEntry
  pub learnt : List ℕ

abbrev pub core_start : ℕ → CoreState
core_start sessions = record { flights = []; history = []; learnt = replicate sessions 0 }

pub record IsFlightKey (N : ℕ) (key : FlightKey) : Type 0 where
  pub positive : 0 < key.n
  pub limited : key.n ≤ MAX_DET
  pub coprime : gcd key.n N ≡ 1
  pub place : key.symbol < length (symbols N)

abbrev pub IsLegalAct : Ground → CoreState → ℕ → Act → Type 0
IsLegalAct setting s session Learn = Unit {0}
IsLegalAct setting s session (Look key) = IsFlightKey setting.level key × (claimer s.flights key ≢ Some session)
IsLegalAct setting s session (Publish key) = IsFlightKey setting.level key × (claimer s.flights key ≡ Some session)
IsLegalAct setting s session (Abandon key) = IsFlightKey setting.level key × (claimer s.flights key ≡ Some session)
IsLegalAct setting s session (Commit command op poly) = IsOperator setting.level op

pub record IsLegalStep (setting : Ground) (sessions : ℕ) (s : CoreState) (step : CoreStep) : Type 0 where
  pub session : (1 ≤ step.session) × (step.session ≤ sessions)
  pub act : IsLegalAct setting s step.session step.act

abbrev pub look_outcome : Standing → Outcome
look_outcome free = Mine
look_outcome (claimed by) = Pending by
look_outcome published = Ready

abbrev pub claims_made : FlightKey → ℕ → Standing → List FlightEvent
claims_made key session free = event.Claim key session ∷ []
claims_made key session (claimed by) = []
claims_made key session published = []

abbrev pub commit_outcome : Verdict → ℕ → ℕ → Outcome
commit_outcome accepted learnt count =
    if nat_lt learnt count then Stale count else (if count == MAX_VERSIONS then Full else Committed (count + 1))
commit_outcome (relation k) learnt count = Relation k
commit_outcome commutator learnt count = Commutator

-- the learnt lengths, after a session has learnt one
abbrev pub learns : CoreState → ℕ → ℕ → List ℕ
learns s session count = slice_set s.learnt (session - 1) count

abbrev pub learnt_of : CoreState → ℕ → ℕ
learnt_of s session = slice_index s.learnt (session - 1)

abbrev pub committed : CoreState → ℕ → SplitEntry → Outcome → CoreState
committed s session entry (Committed count) =
    record { flights = s.flights; history = s.history ++ entry ∷ []; learnt = learns s session count }
committed s session entry other = s

abbrev pub Does : Ground → CoreState → ℕ → Act → Outcome → CoreState → Type 0
Does setting s session Learn o t =
    (o ≡ Learnt (length s.history))
    × (t ≡ record { flights = s.flights; history = s.history; learnt = learns s session (length s.history) })
Does setting s session (Look key) o t =
    (o ≡ look_outcome (standing s.flights key))
    × (t ≡ record { flights = s.flights ++ claims_made key session (standing s.flights key); history = s.history; learnt = s.learnt })
Does setting s session (Publish key) o t =
    (o ≡ Published) × (t ≡ record { flights = s.flights ++ event.Publish key session ∷ []; history = s.history; learnt = s.learnt })
Does setting s session (Abandon key) o t =
    (o ≡ Abandoned) × (t ≡ record { flights = s.flights ++ event.Abandon key session ∷ []; history = s.history; learnt = s.learnt })
Does setting s session (Commit command op poly) o t =
    (parts : Decomposition) × (verdict : Verdict) × IsVersion setting (take (learnt_of s session) s.history) parts
    × IsVerdict setting parts op verdict
    × (o ≡ commit_outcome verdict (learnt_of s session) (length s.history))
    × (t ≡ committed s session (record { session = session; command = command; op = op; poly = poly }) o)

abbrev pub IsStep : Ground → CoreState → CoreStep → Outcome → CoreState → Type 0
IsStep setting s step o t = Does setting s step.session step.act o t

abbrev pub IsRun : Ground → ℕ → CoreState → List CoreStep → List Outcome → CoreState → Type 0
IsRun setting sessions s [] outcomes t = (outcomes ≡ []) × (t ≡ s)
IsRun setting sessions s (step ∷ steps) outcomes t =
    (o : Outcome) × (after : CoreState) × (rest : List Outcome) × IsLegalStep setting sessions s step × IsStep setting s step o after
    × (outcomes ≡ o ∷ rest) × IsRun setting sessions after steps rest t

pub record IsFirstIllegal (setting : Ground) (sessions : ℕ) (steps : List CoreStep) (place : ℕ) : Type 0 where
  pub step : CoreStep
  pub at : slice_get steps place ≡ Some step
  pub outcomes : List Outcome
  pub reached : CoreState
  pub before : IsRun setting sessions (core_start sessions) (take place steps) outcomes reached
  pub illegal : IsLegalStep setting sessions reached step → ⊥
