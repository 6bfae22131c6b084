use Rattle.std.proofs.Common.{rules, ◌≡◌, ◌∙◌, ◌++◌, ap}
use Rattle.field_table.specs.Table.{IsListed}
use Rattle.field_table.proofs.TableFacts.{listed_prime}
use Rattle.linear_algebra.specs.Vector.{EndsBefore}
use Rattle.split_state.specs.Step.{nonzero_of}
use Rattle.split_state.proofs.Parts.{nonzero_part}
use Rattle.split_state.proofs.Wholes.{whole_splits, is_whole}
use Rattle.split_state.proofs.splitting.Splitting.whole.Goals as goal

pub splitting_of-requires : goal.splitting_of-requires
splitting_of-requires c =
    let listed : IsListed c.args.field = search rules in
    let parts : c.push_part.new.parts.items ≡ nonzero_of c.in_ok-space.space = c.in_ok-push_part.ensures
    ∙ ap (λ xs. xs ++ nonzero_of c.in_ok-space.space) c.new-parts.ensures.items in
    rw (parts, c.new.ensures.items, c.new-2.ensures.items) (whole_splits c.args.field c.args.d listed (nonzero_of c.in_ok-space.space)
    (nonzero_part c.args.field c.args.d (listed_prime c.args.field listed) (EndsBefore c.args.d) c.in_ok-space.space c.in_ok-space.ensures))

pub returns : goal.returns
returns c =
    let listed : IsListed c.args.field = search rules in
    let parts : c.push_part.new.parts.items ≡ nonzero_of c.in_ok-space.space = c.in_ok-push_part.ensures
    ∙ ap (λ xs. xs ++ nonzero_of c.in_ok-space.space) c.new-parts.ensures.items in
    is_whole c.args.field c.args.d (nonzero_of c.in_ok-space.space) c.push_part.new.parts.items c.new.result.items c.new-2.result.items
    c.splitting_of.result (nonzero_part c.args.field c.args.d (listed_prime c.args.field listed) (EndsBefore c.args.d) c.in_ok-space.space
    c.in_ok-space.ensures) parts c.new.ensures.items c.new-2.ensures.items c.splitting_of.ensures
