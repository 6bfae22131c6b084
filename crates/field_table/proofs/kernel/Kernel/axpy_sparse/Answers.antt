use Rattle.std.proofs.Common.{◌<◌, arith, length, refl, subst, sym}
use Rattle.std.proofs.Math.Nat.{mod-lt}
use Rattle.std.proofs.lemmas.List.Elements.{All-get_or, All-set}
use Rattle.field_table.proofs.Lists.{dense_more, dense_start}
use Rattle.field_table.proofs.TableFacts.{listed_above_one}
use Rattle.field_table.proofs.kernel.Kernel.axpy_sparse.Goals as goal

pub loop-term-init : goal.loop-term-init
loop-term-init g c = record { sum = dense_start g.row.P c.of-multiple.result.factor c.args.acc.now c.args.terms.now; residues = c.requires.residues }

pub loop-term-preserved : goal.loop-term-preserved
loop-term-preserved g c =
    let within = All-get_or (λ t. t.0 < length c.args.acc.now) c.args.terms.now c.loop-term.term-index (0, 0) c.loop-term-test.true
    c.requires.places in
    let above = listed_above_one g.row.P c.requires.listed in
    record {
      sum = dense_more g.row.P c.of-multiple.result.factor _ _ c.added.result c.loop-term.acc c.args.acc.now c.args.terms.now c.loop-term.term-index
          c.loop-term-test.true refl refl (omega (arith, within)) c.added.ensures c.loop-term.invariant.sum;
      residues = All-set (λ x. x < g.row.P) c.loop-term.acc _ c.added.result
          (subst (λ n. n < g.row.P) (sym c.added.ensures) (mod-lt _ (omega (arith, above)))) c.loop-term.invariant.residues;
    }
