use Rattle.std.proofs.Common.{◌≡◌, ◌==◌, ◌&&◌, ap, ℕ}
use Rattle.std.specs.Bool.{Decides}
use Rattle.std.proofs.lemmas.Bool.Decides.{Decides-and, Decides-eqb}
use Rattle.std.proofs.lemmas.Slice.Eq.{slice_eq-Decides}
use Rattle.sparse_echelon.proofs.repeats.are_same.Goals as goal

pairs : (a b : ℕ × ℕ) → Decides ((a.0 == b.0) && (a.1 == b.1)) (a ≡ b)
pairs a b =
    let both = Decides-and (a.0 == b.0) (a.1 == b.1) (Decides-eqb a.0 b.0) (Decides-eqb a.1 b.1) in
    ((λ t. λ i. ((both.0 t).0 i, (both.0 t).1 i)), λ e. both.1 (ap (λ t. t.0) e, ap (λ t. t.1) e))

pub returns : goal.returns
returns c same = (slice_eq-Decides pairs _ _ _ c.eq.ensures).0 same
