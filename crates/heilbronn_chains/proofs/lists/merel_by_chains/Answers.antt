use Rattle.std.proofs.Common.{◌≡◌, IfOk, subst, arith}
use Rattle.heilbronn_sets.specs.Sets.{Matrices, set_fault}
use Rattle.heilbronn_chains.proofs.NoFault.{merel_few, merel_no_fault, none_refused}
use Rattle.heilbronn_chains.proofs.lists.merel_by_chains.Goals as goal

pub of-requires : goal.of-requires
of-requires c = let h = c.in_ok-by_chains.ensures in record {
  few = merel_few c.args.n c.in_ok-by_chains.field-0.items (omega arith) (omega arith)
      h.items;
}

pub returns-clause-set : goal.returns-clause-set
returns-clause-set c = let h = c.in_ok-by_chains.ensures in subst (λ xs.
    IfOk c.of.result (λ (s : Matrices). s ≡ record { det = c.args.n; list = xs })) h.items c.of.ensures.set

pub returns-clause-refused : goal.returns-clause-refused
returns-clause-refused c =
    let h = c.in_ok-by_chains.ensures in
    none_refused (set_fault c.args.n c.in_ok-by_chains.field-0.items) _ c.of.result
    (merel_no_fault c.args.n c.in_ok-by_chains.field-0.items (omega arith) (omega arith) h.items) c.of.ensures.refused
