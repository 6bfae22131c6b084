use Rattle.std.proofs.Common.{◌≡◌, length, sym, ◌∙◌, ap, rules}
use Rattle.quotient_coords.specs.Quotient.{dimension}
use Rattle.column_cases.proofs.columns.is_added.Goals as goal

pub add_column-requires-clause-count : goal.add_column-requires-clause-count
add_column-requires-clause-count c =
    let e : length c.args.values.now ≡ dimension c.args.space.now.level c.args.space.now.characteristic = search rules in
    e ∙ ap (λ s. dimension s.level s.characteristic) (sym c.new-source.ensures.setting)
