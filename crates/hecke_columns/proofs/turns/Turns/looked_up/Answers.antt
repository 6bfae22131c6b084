use Rattle.std.proofs.Common.{◌<◌, ◌≤◌, ◌+◌, ◌*◌, length, get_or, sym, ◌∙◌, ap, subst, arith}
use Rattle.std.specs.Prelude.{pos}
use Rattle.p1_normal.specs.declared.matrix.TheConstants.{MAX_DET}
use Rattle.p1_normal.specs.Points.{symbols}
use Rattle.p1_normal.specs.Actions.{image_number}
use Rattle.heilbronn_chains.specs.Turns.{turn}
use Rattle.std.proofs.lemmas.List.FromFn.{length-map-range_with_len}
use Rattle.hecke_columns.specs.Turns.{turned}
use Rattle.hecke_columns.proofs.TurnTables.{times_few, place_within, turned_at, turned_below}
use Rattle.hecke_columns.proofs.turns.Turns.looked_up.Goals as goal

pub overflow_mul-q : goal.overflow_mul-q
overflow_mul-q c =
    let i = c.self.invariant in
    let q : c.args.q ≤ MAX_DET = omega (arith, c.requires.limit, ap (λ v. v.limit) c.self.view_is, i.0) in
    omega (arith, times_few c.args.q MAX_DET c.self.inside.count q, i.2)

pub overflow_add-q : goal.overflow_add-q
overflow_add-q c =
    let i = c.self.invariant in
    let q : c.args.q ≤ MAX_DET = omega (arith, c.requires.limit, ap (λ v. v.limit) c.self.view_is, i.0) in
    let k : c.args.k < c.self.inside.count = omega (arith, c.requires.place, ap (λ v. length (symbols v.level)) c.self.view_is, i.1) in
    omega (arith, times_few c.args.q MAX_DET c.self.inside.count q, i.2, k)

pub index-requires : goal.index-requires
index-requires c =
    let i = c.self.invariant in
    let N = c.self.inside.modulus in
    let L = c.self.inside.limit in
    let q : c.args.q ≤ L = omega (arith, c.requires.limit, ap (λ v. v.limit) c.self.view_is) in
    let k : c.args.k < length (symbols N) = omega (arith, c.requires.place, ap (λ v. length (symbols v.level)) c.self.view_is) in
    omega (
      arith,
      place_within c.args.q L (length (symbols N)) c.args.k q k,
      ap (λ x. c.args.q * x) i.1,
      ap (λ xs. length xs) i.3,
      length-map-range_with_len (turned N) 0 ((L + 1) * length (symbols N)),
    )

pub returns-clause-number : goal.returns-clause-number
returns-clause-number c =
    let i = c.self.invariant in
    let N = c.self.inside.modulus in
    let L = c.self.inside.limit in
    let q : c.args.q ≤ L = omega (arith, c.requires.limit, ap (λ v. v.limit) c.self.view_is) in
    let k : c.args.k < length (symbols N) = omega (arith, c.requires.place, ap (λ v. length (symbols v.level)) c.self.view_is) in
    c.index.ensures ∙ ap (λ x. get_or c.self.inside.numbers.items (c.args.q * x + c.args.k) c.index.result.now) i.1
    ∙ turned_at N L c.args.q c.args.k c.index.result.now c.self.inside.numbers.items q k i.3
    ∙ ap (λ v. image_number v.level c.args.k (turn (pos c.args.q))) c.self.view_is

pub returns-clause-below : goal.returns-clause-below
returns-clause-below c = subst (λ x. x < length (symbols c.args.self.now.level)) (sym (returns-clause-number c))
    (turned_below c.args.self.now.level c.args.k c.args.q c.requires.place)
