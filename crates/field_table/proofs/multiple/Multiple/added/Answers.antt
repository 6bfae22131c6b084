use Rattle.std.proofs.Common.{◌+◌, ◌*◌, ◌%◌, ◌∙◌, ap}
use Rattle.std.proofs.Math.Nat.{add-mod-mod}
use Rattle.field_table.proofs.multiple.Multiple.added.Goals as goal

pub returns : goal.returns
returns g c = c.reduced_once.ensures ∙ ap (λ n. (c.args.a + n) % g.row.P) c.times.ensures
    ∙ add-mod-mod c.args.a (c.args.self.now.factor * c.args.b) g.row.P
