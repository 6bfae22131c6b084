use Rattle.std.proofs.Common.{◌≡◌, ◌<◌, length, get_or, refl, sym, ◌∙◌, ap, arith, rules}
use Rattle.std.proofs.lemmas.List.{with_items_is}
use Rattle.heilbronn_sets.specs.Sets.{Matrices}
use Rattle.session_core.proofs.ImageLemmas.{no_pair, image_start, image_more, gives_at, same_ground, added_at}
use Rattle.session_core.proofs.answers.hecke.image_of.Goals as goal

pub loop-term-init : goal.loop-term-init
loop-term-init g c =
    let positive : 0 < c.args.space.now.characteristic = omega
    (arith, c.characteristic-prime.ensures.prime.above_one, c.characteristic-prime.ensures.value, c.field-field.ensures) in
    record {
      field = c.field-field.ensures;
      positive = positive;
      setting = c.requires.setting;
      matrices = refl;
      gives = refl;
      coords = image_start c.args.space.now (g.C.ColumnSource.matrices c.args.columns.now).list c.dim.result c.in_ok-values.values.items positive
          c.dim.ensures.dimension
          (c.in_ok-values.ensures.items_if_clones_equal (λ y h. h));
    }

pub add_column-requires-clause-given : goal.add_column-requires-clause-given
add_column-requires-clause-given g c =
    gives_at c.args.numbers.now c.loop-term.term-index (g.C.ColumnSource.can_give c.args.columns.now)
    (g.C.ColumnSource.can_give c.loop-term.columns) c.loop-term-test.true c.loop-term.invariant.gives c.requires.given

pub add_column-requires-clause-count : goal.add_column-requires-clause-count
add_column-requires-clause-count g c =
    ap length c.deref_mut.ensures.value ∙ c.loop-term.invariant.coords.count ∙ sym
    (same_ground (g.C.ColumnSource.setting c.loop-term.columns) c.args.space.now c.loop-term.invariant.setting)

pub loop-term-preserved : goal.loop-term-preserved
loop-term-preserved g c =
    let adds = c.in_ok-add_column.ensures.added in
    let old : c.deref_mut.result.now ≡ c.loop-term.values.items = c.deref_mut.ensures.value in
    let count : length c.add_column.new.into ≡ c.loop-term.values.len = omega (arith, adds.count, ap length old, c.loop-term.values.ok.0) in
    let new = with_items_is c.loop-term.values c.add_column.new.into count in
    record {
      field = c.field-field.ensures;
      positive = c.loop-term.invariant.positive;
      setting = c.add_column.ensures.setting ∙ c.loop-term.invariant.setting;
      matrices = c.add_column.ensures.matrices ∙ c.loop-term.invariant.matrices;
      gives = c.add_column.ensures.can_give ∙ c.loop-term.invariant.gives;
      coords = image_more c.args.space.now (g.C.ColumnSource.matrices c.args.columns.now).list c.loop-term.term-index c.residue.result
          c.args.numbers.now
          (get_or c.args.numbers.now c.loop-term.term-index no_pair) c.loop-term.values.items _ c.loop-term.invariant.positive
          c.loop-term-test.true refl
          (search rules) c.loop-term.invariant.coords
          (let column = added_at (g.C.ColumnSource.setting c.loop-term.columns) c.args.space.now
          (g.C.ColumnSource.matrices c.loop-term.columns).list (g.C.ColumnSource.matrices c.args.columns.now).list
          (get_or c.args.numbers.now c.loop-term.term-index no_pair).0 c.residue.result c.deref_mut.result.now c.add_column.new.into
          c.loop-term.invariant.setting (ap (λ (s : Matrices). s.list) c.loop-term.invariant.matrices) adds in search rules);
    }
