-- The versions of the space that a history of accepted splits makes, at a ground g: a level and a characteristic.
--   VersionsAreSplittings g history   of the first v entries of the history, for each v that there is:
--     some                            they have a version
--     splitting                       it is a splitting: a direct sum of nonzero parts, which each listed operator keeps, and each matrix
--                                     that commutes with these
--     refines                         each part of the version of one entry more lies in a part of it
--   LegalHistoriesAreVersions         so it is with the history of a legal transcript
use Rattle.std.specs.Prelude.{ℕ, ◌+◌, ◌<◌, ◌≤◌, List, length, take}
use Rattle.field_table.specs.Table.{IsListed}
use Rattle.quotient_coords.specs.Quotient.{Ground}
use Rattle.op_polynomials.specs.declared.entry.SplitEntry.{SplitEntry}
use Rattle.split_state.specs.Decomposition.{Decomposition, IsSplitting}
use Rattle.split_state.specs.Refinement.{Refines}
use Rattle.split_state.specs.Versions.{IsVersion}
use Rattle.script_text.specs.Valid.{ScriptText}
use Rattle.reply_text.specs.declared.transcript.Transcript.{Transcript}
use Rattle.session_core.specs.Transcripts.{IsLegalTranscript, script_ground}

pub record VersionsAreSplittings (g : Ground) (history : List SplitEntry) : Type 0 where
  pub some : (v : ℕ) → v ≤ length history → (s : Decomposition) × IsVersion g (take v history) s
  pub splitting : (v : ℕ) (s : Decomposition) → v ≤ length history → IsVersion g (take v history) s → IsSplitting s
  pub refines : (v : ℕ) (s r : Decomposition) → v < length history → IsVersion g (take v history) s
      → IsVersion g (take (v + 1) history) r → Refines r s

abbrev pub LegalHistoriesAreVersions : Type 0
LegalHistoriesAreVersions = (script : ScriptText) (t : Transcript) → IsListed script.space.characteristic → IsLegalTranscript script t
    → VersionsAreSplittings (script_ground script) t.history
