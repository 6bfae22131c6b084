use Rattle.std.proofs.Common.{◌<◌, ◌-◌, ◌^◌, length, sym, ap, subst, arith}
use Rattle.field_table.specs.Table.{IsListed}
use Rattle.linear_algebra.specs.Prime.{IsPrime}
use Rattle.linear_algebra.specs.Span.{Each}
use Rattle.linear_algebra.specs.Vector.{EndsBefore}
use Rattle.field_table.proofs.TableFacts.{listed_prime}
use Rattle.sparse_echelon.specs.System.{vectors}
use Rattle.manin_relations.specs.Relations.{AreRelations}
use Rattle.quotient_coords.specs.Tables.{AreSymbolRows, IsSpace}
use Rattle.quotient_coords.proofs.Spaces.{length-rows, rows_width, opened}
use Rattle.quotient_coords.proofs.space.Space.open.Goals as goal

pub eliminate-requires-clause-count : goal.eliminate-requires-clause-count
eliminate-requires-clause-count c = subst (λ rows. length rows < 2 ^ 32 - 1) (sym c.rows.ensures)
    (omega (
      arith,
      length-rows c.args.level c.args.field c.in_ok-relations.relations c.in_ok-relations.ensures,
      c.count.ensures.count,
      c.count.ensures.limited,
    ))

pub places_without_pivot-requires-clause-prime : goal.places_without_pivot-requires-clause-prime
places_without_pivot-requires-clause-prime c =
    let listed : IsListed c.args.field = c.well_formed.1.1.0.1.0.1 in
    subst (λ s. IsPrime s.characteristic) (sym c.in_ok-echelon.ensures) (listed_prime c.args.field listed)

pub places_without_pivot-requires-clause-width : goal.places_without_pivot-requires-clause-width
places_without_pivot-requires-clause-width c = subst (λ s. Each (EndsBefore c.count-2.result) (vectors s)) (sym c.in_ok-echelon.ensures)
    (rows_width c.args.level c.args.field c.rows.result.now c.count-2.result c.count-2.ensures.count
    (subst (AreRelations c.args.level c.args.field) (sym c.rows.ensures) c.in_ok-relations.ensures))

pub symbol_rows-requires-clause-prime : goal.symbol_rows-requires-clause-prime
symbol_rows-requires-clause-prime c =
    let listed : IsListed c.args.field = c.well_formed.1.1.0.1.0.1 in
    subst (λ s. IsPrime s.characteristic) (sym c.in_ok-echelon.ensures) (listed_prime c.args.field listed)

pub invariant_of-result : goal.invariant_of-result
invariant_of-result c =
    let listed : IsListed c.args.field = c.well_formed.1.1.0.1.0.1 in
    let space : IsSpace c.args.level c.args.field c.in_ok-echelon.echelon c.in_ok-free.free.places =
    opened c.args.level c.args.field c.rows.result.now c.count.result c.count-2.result c.in_ok-echelon.echelon c.in_ok-free.free.places listed
    c.count.ensures.count c.count-2.ensures.count
    (subst (AreRelations c.args.level c.args.field) (sym c.rows.ensures) c.in_ok-relations.ensures) c.in_ok-echelon.ensures
    (ap (λ l. l.places) c.in_ok-free.ensures) in (
      space,
      subst (λ n. AreSymbolRows c.args.level c.args.field n c.in_ok-rows.rows.items) c.count-3.ensures.count
          (c.in_ok-rows.ensures c.args.level c.args.field space),
    )

pub symbol_rows-requires-clause-rows : goal.symbol_rows-requires-clause-rows
symbol_rows-requires-clause-rows c = subst (λ s. Each (EndsBefore s.width) (vectors s)) (sym c.in_ok-echelon.ensures)
    (rows_width c.args.level c.args.field c.rows.result.now c.count.result c.count.ensures.count
    (subst (AreRelations c.args.level c.args.field) (sym c.rows.ensures) c.in_ok-relations.ensures))
