use Rattle.dense_mat.specs.Graph.{IsGraph}
use Rattle.dense_mat.proofs.null_space.graph_of.Given as goal

-- the rows before j are there
abbrev pub invariant-loop-j : goal.invariant-loop-j
invariant-loop-j l = IsGraph l.images l.rows l.j l.graph.items
