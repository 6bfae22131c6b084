use Rattle.std.proofs.Common.{get_or, arith, rules}
use Rattle.std.specs.Prelude.{IsTrue}
use Rattle.hecke_ops.proofs.Testing.{all_sent, first_found, sent_from_zeros, sent_more}
use Rattle.hecke_ops.proofs.failing.first_failing.Goals as goal

pub returns-then-not-is_zero-clause-found : goal.returns-then-not-is_zero-clause-found
returns-then-not-is_zero-clause-found c = λ L h. first_found c.args.level.now c.args.field c.requires.prime L c.args.kept.now c.requires.kept
    c.loop-k.k-index c.put_relation_sum.new.sum (omega arith) (c.loop-k.invariant L h) (c.put_relation_sum.ensures L h)
    (λ none. let t : IsTrue c.is_zero.result = c.is_zero.ensures.1 none in absurd cc)

pub loop-k-preserved : goal.loop-k-preserved
loop-k-preserved c = λ L h. sent_more c.args.level.now c.args.field L c.args.kept.now c.loop-k.k-index (c.loop-k.invariant L h)
    (sent_from_zeros c.args.level.now c.args.field c.requires.prime L c.args.kept.now c.requires.kept (get_or c.args.kept.now c.loop-k.k-index 0)
    c.put_relation_sum.new.sum (c.put_relation_sum.ensures L h) (c.is_zero.ensures.0 (search rules)))

pub returns-clause-none : goal.returns-clause-none
returns-clause-none c = λ none L h. all_sent c.args.level.now c.args.field c.requires.prime L c.args.kept.now c.requires.kept
    (λ q l. c.loop-k.invariant L h q (omega arith))
