-- Sources and sinks in memory, as contracts see them.
--   PlannedSource            the bytes left, the most bytes a call, the numbers of the calls that fail, the calls and faults so far
--   PlannedSink              the bytes written and the capacity, with the same plan
--   is_planned fails call    the call with this number is among those that fail
--   room sink                how many bytes the sink still takes
--   HasSamePlan old new      a sink's capacity, its piece and the numbers of its calls that fail stay
--   is_refused sink          the sink's next call fails: it is planned to, or the sink is full
--   piece_of piece a b       how many bytes one call moves: the least of the three
--   new_source, new_sink     as they are made: no call yet
use Rattle.std.specs.Prelude.{◌≡◌, ℕ, ◌-◌, ◌||◌, min, Bool, List, [], length, nat_eq, nat_le}
use Rattle.std.specs.List.{list_any}

pub record PlannedSource : Type 0 where
  pub bytes : List ℕ
  pub piece : ℕ
  pub fails : List ℕ
  pub calls : ℕ
  pub faults : ℕ

pub record PlannedSink : Type 0 where
  pub bytes : List ℕ
  pub capacity : ℕ
  pub piece : ℕ
  pub fails : List ℕ
  pub calls : ℕ
  pub faults : ℕ

abbrev pub new_source : List ℕ → ℕ → List ℕ → PlannedSource
new_source bytes piece fails = record { bytes = bytes; piece = piece; fails = fails; calls = 0; faults = 0 }

abbrev pub new_sink : ℕ → ℕ → List ℕ → PlannedSink
new_sink capacity piece fails = record { bytes = []; capacity = capacity; piece = piece; fails = fails; calls = 0; faults = 0 }

abbrev pub is_planned : List ℕ → ℕ → Bool
is_planned fails call = list_any (λ number. nat_eq number call) fails

abbrev pub room : PlannedSink → ℕ
room sink = sink.capacity - length sink.bytes

pub record HasSamePlan (old new : PlannedSink) : Type 0 where
  pub capacity : new.capacity ≡ old.capacity
  pub piece : new.piece ≡ old.piece
  pub fails : new.fails ≡ old.fails

abbrev pub is_refused : PlannedSink → Bool
is_refused sink = is_planned sink.fails sink.calls || nat_le sink.capacity (length sink.bytes)

abbrev pub piece_of : ℕ → ℕ → ℕ → ℕ
piece_of piece a b = min (min a b) piece
