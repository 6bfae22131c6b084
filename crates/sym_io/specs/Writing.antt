-- What calls append to a sink, where it tells its bytes.
--   TakesSome r bytes               a call took between one and all of the bytes
--   AppendsPart old new text        the first bytes of the text were appended: some, none or all of them
--   BuffersText old new waiting kept text r    of the bytes that waited and the text, the first were appended, and the rest waits now
use Rattle.std.specs.Prelude.{◌≡◌, ℕ, ◌<◌, ◌≤◌, ◌++◌, List, length, take, drop, Result, OnOk, IfOk}
use Rattle.std.specs.declared.option.Option.{Option}
use Rattle.std.specs.Io.KnownBytes.{Appends}

abbrev pub TakesSome : {E : Type 0} → Result ℕ E → List ℕ → Type 0
TakesSome result bytes = IfOk result (λ k. (0 < k) × (k ≤ length bytes))

pub record AppendsPart (old new : Option (List ℕ)) (text : List ℕ) : Type 0 where
  pub count : ℕ
  pub within : count ≤ length text
  pub appended : Appends old new (take count text)

pub record BuffersText {T E : Type 0} (old new : Option (List ℕ)) (waiting kept text : List ℕ) (result : Result T E) : Type 0 where
  pub count : ℕ
  pub within : count ≤ length (waiting ++ text)
  pub appended : Appends old new (take count (waiting ++ text))
  pub rest : OnOk result (kept ≡ drop count (waiting ++ text))
