-- The history of accepted splits of a space of modular symbols, and the versions that its first entries make.
--   VersionHistory          what a version state stands for: its entries, and the level and the characteristic of its space
--   maker_of entry          the session of an entry
--   commit_answer seen count
--                           what a commit answers that was tested after so many entries, where there are count
--   IsSplittingVersion g entries s
--                           s is the version of the entries, and a splitting
--   AreVersions g entries   for each i up to the number of entries the first i of them have a version that is a splitting; and the version
--                           of the first i + 1 refines that of the first i
--   IsHistory N p entries capacity newest
--                           there is room for MAX_VERSIONS entries and no more entries than that, the newest splitting is the version of the
--                           entries, and each version of its first ones is a splitting that refines the one before
use Rattle.std.specs.Prelude.{ℕ, ◌+◌, ◌<◌, ◌≤◌, ◌==◌, nat_lt, if◌then◌else◌, List, length, take, Result, Ok, Err}
use Rattle.quotient_coords.specs.Quotient.{Ground}
use Rattle.op_polynomials.specs.declared.entry.SplitEntry.{SplitEntry}
use Rattle.reply_text.specs.declared.limits.TheConstants.{MAX_VERSIONS}
use Rattle.split_state.specs.Decomposition.{Decomposition, IsSplitting}
use Rattle.split_state.specs.Refinement.{Refines}
use Rattle.split_state.specs.Versions.{IsVersion}
use Rattle.split_versions.specs.declared.fault.CommitFault.{CommitFault}
use Rattle.split_versions.specs.declared.fault.CommitFault.TheVariants.{Stale, Full}

pub record VersionHistory : Type 0 where
  pub entries : List SplitEntry
  pub setting : Ground

abbrev pub maker_of : SplitEntry → ℕ
maker_of entry = entry.session

abbrev pub commit_answer : ℕ → ℕ → Result ℕ CommitFault
commit_answer seen count =
    if nat_lt seen count then Err (Stale count) else (if count == MAX_VERSIONS then Err Full else Ok (count + 1))

pub record IsSplittingVersion (g : Ground) (entries : List SplitEntry) (s : Decomposition) : Type 0 where
  pub version : IsVersion g entries s
  pub splitting : IsSplitting s

pub record AreVersions (g : Ground) (entries : List SplitEntry) : Type 0 where
  pub splittings : (i : ℕ) → i ≤ length entries → (s : Decomposition) × IsSplittingVersion g (take i entries) s
  pub refining : (i : ℕ) → i < length entries → (s r : Decomposition) → IsVersion g (take i entries) s
      → IsVersion g (take (i + 1) entries) r → Refines r s

pub record IsHistory (N p : ℕ) (entries : List SplitEntry) (capacity : ℕ) (newest : Decomposition) : Type 0 where
  pub few : length entries ≤ MAX_VERSIONS
  pub room : MAX_VERSIONS ≤ capacity
  pub newest_is : IsVersion (record { level = N; characteristic = p }) entries newest
  pub versions : AreVersions (record { level = N; characteristic = p }) entries
