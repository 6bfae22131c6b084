-- A splitting that refines another (Stein, Modular Forms: A Computational Approach, 7.5).
--   LiesIn p b parts    the span of b lies in that of one of the parts
--   Refines r s         each part of r lies in a part of s
use Rattle.std.specs.Prelude.{ℕ, List, ◌∷◌}
use Rattle.linear_algebra.specs.Dense.{dense_rows}
use Rattle.linear_algebra.specs.Span.{Each, InSpan}
use Rattle.linear_algebra.specs.Vector.{Vector}
use Rattle.dense_mat.specs.Subspace.{Subspace}
use Rattle.split_state.specs.Decomposition.{Decomposition}

pub data LiesIn (p : ℕ) (b : Subspace) : List Subspace → Type 0 where
  here : {c : Subspace} {parts : List Subspace} → ((v : Vector p) → InSpan (dense_rows p b.rows) v → InSpan (dense_rows p c.rows) v)
      → LiesIn p b (c ∷ parts)
  later : {c : Subspace} {parts : List Subspace} → LiesIn p b parts → LiesIn p b (c ∷ parts)

abbrev pub Refines : Decomposition → Decomposition → Type 0
Refines r s = Each (λ b. LiesIn s.characteristic b s.parts) r.parts
