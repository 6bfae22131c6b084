use Rattle.std.proofs.Common.{rules, ◌≡◌, ◌++◌, ◌∷◌, [], ap, sym, subst, length, take, ◌+◌, ◌∙◌}
use Rattle.std.proofs.lemmas.List.{take_more}
use Rattle.field_table.specs.Table.{IsListed}
use Rattle.field_table.proofs.TableFacts.{listed_prime}
use Rattle.linear_algebra.specs.Dense.{dense_rows}
use Rattle.linear_algebra.specs.Span.{InSpan}
use Rattle.stable_subspaces.specs.Fitting.{generalised_kernel, eventual_image}
use Rattle.stable_subspaces.specs.Operator.{IsStable}
use Rattle.dense_mat.specs.Subspace.{Subspace, IsBasisOf}
use Rattle.split_state.specs.Step.{SplitBy, done, nonzero_of}
use Rattle.split_state.proofs.Keeping.{Each-get_or}
use Rattle.split_state.proofs.Parts.{split_more}
use Rattle.split_state.proofs.refining.split_parts.Goals as goal

pub loop-i-init : goal.loop-i-init
loop-i-init c = subst (SplitBy c.args.field (length c.args.value.now) (dense_rows c.args.field c.args.value.now) []) (sym c.new-news.ensures.items)
    done

pub fit-requires-clause-field : goal.fit-requires-clause-field
fit-requires-clause-field c = (subst (λ (b : Subspace). IsBasisOf c.args.field (length c.args.value.now) (InSpan (dense_rows c.args.field b.rows)) b)
    (sym c.index-parts-i.is) (Each-get_or c.args.parts.now c.loop-i.i c.index-parts-i.result c.loop-i-test.true c.requires.bases)).characteristic

pub fit-requires-clause-size : goal.fit-requires-clause-size
fit-requires-clause-size c = (subst (λ (b : Subspace). IsBasisOf c.args.field (length c.args.value.now) (InSpan (dense_rows c.args.field b.rows)) b)
    (sym c.index-parts-i.is) (Each-get_or c.args.parts.now c.loop-i.i c.index-parts-i.result c.loop-i-test.true c.requires.bases)).width

pub fit-requires-clause-stable : goal.fit-requires-clause-stable
fit-requires-clause-stable c = subst (λ (b : Subspace). IsStable (dense_rows c.args.field c.args.value.now) (dense_rows c.args.field b.rows))
    (sym c.index-parts-i.is) (Each-get_or c.args.parts.now c.loop-i.i c.index-parts-i.result c.loop-i-test.true c.requires.stable)

pub loop-i-preserved : goal.loop-i-preserved
loop-i-preserved c =
    let listed : IsListed c.args.field = search rules in
    let wide : c.index-parts-i.result.width ≡ length c.args.value.now =
    (subst (λ (b : Subspace). IsBasisOf c.args.field (length c.args.value.now) (InSpan (dense_rows c.args.field b.rows)) b)
    (sym c.index-parts-i.is) (Each-get_or c.args.parts.now c.loop-i.i c.index-parts-i.result c.loop-i-test.true c.requires.bases)).width in
    let kernel : IsBasisOf c.args.field (length c.args.value.now) (generalised_kernel (dense_rows c.args.field c.args.value.now)
    (dense_rows c.args.field c.index-parts-i.result.rows)) c.in_ok-pair.pair.kernel = rw wide at c.in_ok-pair.ensures.kernel in
    let image : IsBasisOf c.args.field (length c.args.value.now) (eventual_image (dense_rows c.args.field c.args.value.now)
    (dense_rows c.args.field c.index-parts-i.result.rows)) c.in_ok-pair.pair.image = rw wide at c.in_ok-pair.ensures.image in
    subst (SplitBy c.args.field (length c.args.value.now) (dense_rows c.args.field c.args.value.now) (take (c.loop-i.i + 1) c.args.parts.now))
    (sym (c.in_ok-push_part-2.ensures ∙ ap (λ xs. xs ++ nonzero_of c.in_ok-pair.pair.image) c.in_ok-push_part.ensures))
    (split_more c.args.field (length c.args.value.now) (listed_prime c.args.field listed) (dense_rows c.args.field c.args.value.now) c.args.parts.now
    c.loop-i.news.items c.loop-i.i c.index-parts-i.result c.in_ok-pair.pair.kernel c.in_ok-pair.pair.image c.loop-i-test.true
    (take_more c.args.parts.now c.loop-i.i c.index-parts-i.result c.loop-i-test.true
    ∙ ap (λ b. take c.loop-i.i c.args.parts.now ++ (b ∷ [])) (sym c.index-parts-i.is)) c.loop-i.invariant kernel image)
