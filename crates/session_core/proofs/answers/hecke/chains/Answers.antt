use Rattle.std.proofs.Common.{◌≡◌, length, ◌∙◌, rules}
use Rattle.heilbronn_sets.specs.Merel.{merel_matrices}
use Rattle.session_core.proofs.ChainCounts.{chain_lengths, chain_number, lengths_fit, number_fits}
use Rattle.session_core.proofs.answers.hecke.chains.Goals as goal

pub overflow_cast-result : goal.overflow_cast-result
overflow_cast-result c =
    let few = number_fits c.args.n c.in-Ok.list.items c.requires.limits.0 c.requires.limits.1 c.in-Ok.ensures.chains in
    let count = c.len.ensures in search rules

pub matrix_count-requires : goal.matrix_count-requires
matrix_count-requires c = record {
  few = rw c.deref.ensures.value (lengths_fit c.args.n c.in-Ok.list.items c.requires.limits.0 c.requires.limits.1 c.in-Ok.ensures.chains);
}

pub returns : goal.returns
returns c g v s =
    let count : c.len.result ≡ length c.in-Ok.list.items = search rules in
    let matrices : c.matrix_count.result ≡ length (merel_matrices c.args.n) =
    c.matrix_count.ensures ∙ rw c.deref.ensures.value (chain_lengths c.args.n c.in-Ok.list.items c.requires.limits.0 c.in-Ok.ensures.chains) in
    rw (count ∙ chain_number c.args.n c.in-Ok.list.items c.in-Ok.ensures.chains) (rw matrices (search rules))
