use Rattle.std.proofs.Common.{◌≡◌, ◌<◌, sym, ◌∙◌, subst, arith, rules}
use Rattle.std.specs.List.Sorted.{IsStrictlyIncreasing}
use Rattle.linear_algebra.proofs.BoundPlaces.{free_places_rising}
use Rattle.sparse_echelon.specs.System.{vectors}
use Rattle.quotient_coords.specs.Tables.{IsSymbolRow}
use Rattle.quotient_coords.proofs.Spaces.{space_characteristic}
use Rattle.quotient_coords.proofs.SymbolRows.{pivot_unless_free, symbol_row_bound, symbol_row_free}
use Rattle.quotient_coords.proofs.symbol_table.symbol_row.Goals as goal
use Rattle.quotient_coords.proofs.symbol_table.symbol_row.Goals.{in-Some+in_ok-row-in-Some, in-None+in_ok-row-in-None}

pub row-requires : goal.row-requires
row-requires c = pivot_unless_free (omega (arith, c.requires.prime.above_one)) c.args.echelon.now.width
    (vectors c.args.echelon.now) c.requires.rows c.args.free.now.places c.requires.free c.args.symbol c.requires.place c.in-None.ensures.number

pub negated-requires-clause-free : goal.negated-requires-clause-free
negated-requires-clause-free c = subst IsStrictlyIncreasing (sym c.requires.free)
    (free_places_rising c.args.echelon.now.width (vectors c.args.echelon.now))

pub returns : goal.returns
returns c N p space = elim c.match-number_of.branch [
  | in-Some+in_ok-row-in-Some w ↦
      let row : c.of.result ≡ w.in_ok-row-in-Some.row.items = rw w.row-is at c.of.ensures in
      subst (IsSymbolRow N p c.args.symbol) (sym (row ∙ w.in_ok-row-in-Some.ensures.items_if_clones_equal (search rules)))
      (symbol_row_free N p c.args.echelon.now c.args.free.now.places c.args.symbol _ space
      (subst (λ q. 1 < q) (space_characteristic N p c.args.echelon.now c.args.free.now.places space) c.requires.prime.above_one)
      w.in-Some.ensures.number.0 w.in-Some.ensures.number.1)
  | in-None+in_ok-row-in-None w ↦
      let row : c.of.result ≡ w.in_ok-row-in-None.row.items = rw w.row-is at c.of.ensures in
      subst (IsSymbolRow N p c.args.symbol) (sym row)
      (symbol_row_bound N p c.args.field c.args.echelon.now c.args.free.now.places c.args.symbol w.row.result.now _ space c.requires.field
      c.requires.place w.in-None.ensures.number w.row.ensures.row w.row.ensures.places
      w.in_ok-row-in-None.ensures.places w.in_ok-row-in-None.ensures.residues (rw w.terms.ensures.terms at w.in_ok-row-in-None.ensures.entries))
]
