use Rattle.std.proofs.Common.{rules, ◌≡◌, ◌≢◌, ◌<◌, ◌+◌, ◌^◌, ℕ, length, subst, sym}
use Rattle.field_table.specs.Places.{PlaceList, nth_place}
use Rattle.field_table.proofs.Placing.{FindsPlaces-push}
use Rattle.field_table.proofs.place_table.PlaceTable.push.Goals as goal

pub invariant_of-self-2 : goal.invariant_of-self-2
invariant_of-self-2 c =
    let count : c.len-number.result ≡ length c.self.inside.places.items = search rules in
    let within : c.args.place < length c.self.inside.numbers.items = subst (λ (l : PlaceList). c.args.place < l.width) (sym c.self.view_is)
    c.requires.within in
    let small : length c.self.inside.places.items + 1 < 2 ^ 32 = subst (λ (l : PlaceList). length l.places + 1 < 2 ^ 32) (sym c.self.view_is)
    c.requires.count in
    let other : (j : ℕ) → j < length c.self.inside.places.items → nth_place
    (record { width = length c.self.inside.numbers.items; places = c.self.inside.places.items }) j ≢ c.args.place =
    subst (λ (l : PlaceList). (j : ℕ) → j < length l.places → nth_place l j ≢ c.args.place) (sym c.self.view_is) c.requires.other in
    rw (c.in_ok-push.ensures.items, count) (FindsPlaces-push c.self.inside.numbers.items
    (record { width = length c.self.inside.numbers.items; places = c.self.inside.places.items }) c.args.place _ c.self.invariant within small
    other)
