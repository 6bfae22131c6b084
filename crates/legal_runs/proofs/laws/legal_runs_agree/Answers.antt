use Rattle.legal_runs.proofs.FixedReplies.{fixed_by_versions, others_fixed, one_session_fixed, without_splits_fixed}
use Rattle.legal_runs.proofs.laws.legal_runs_agree.Goals as goal

pub returns : goal.returns
returns c = record { versions = fixed_by_versions; others = others_fixed; one_session = one_session_fixed; unsplit = without_splits_fixed }
