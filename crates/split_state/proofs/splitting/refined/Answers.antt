use Rattle.std.proofs.Common.{◌∙◌, sym, subst, length}
use Rattle.split_state.specs.Decomposition.{decomposition}
use Rattle.split_state.specs.Step.{IsStep, Listing}
use Rattle.split_state.proofs.Keeping.{step_refines}
use Rattle.split_state.proofs.Parts.{stepped, keeps_value, bases_of}
use Rattle.split_state.proofs.splitting.refined.Goals as goal

pub split_parts-requires-clause-bases : goal.split_parts-requires-clause-bases
split_parts-requires-clause-bases c = bases_of c.args.field c.args.dim (length c.in_ok-value.value) c.args.parts.now
    (c.in_ok-value.ensures.size ∙ c.requires.size) c.requires.splitting.bases

pub split_parts-requires-clause-stable : goal.split_parts-requires-clause-stable
split_parts-requires-clause-stable c =
    keeps_value (decomposition c.args.field c.args.dim c.args.parts.now c.args.names.now c.args.matrices.now) c.requires.splitting c.args.mat.now
    (record { matrix = c.requires.matrix; size = c.requires.size }) c.in_ok-commuting.ensures.agree c.args.poly.now c.in_ok-value.value
    c.in_ok-value.ensures.size c.in_ok-value.ensures.value

pub splitting_of-requires : goal.splitting_of-requires
splitting_of-requires c =
    let listing : Listing c.args.names.now c.args.matrices.now c.args.op c.args.mat.now c.list_operator.new.names.items
    c.list_operator.new.matrices.items = rw (c.in_ok-listed.ensures.items, c.in_ok-columns.ensures) at c.in_ok-list_operator.ensures in
    (stepped (decomposition c.args.field c.args.dim c.args.parts.now c.args.names.now c.args.matrices.now) c.requires.splitting c.args.mat.now
    (record { matrix = c.requires.matrix; size = c.requires.size }) c.in_ok-commuting.ensures.agree c.args.poly.now c.in_ok-value.value
    c.in_ok-value.ensures.size c.in_ok-value.ensures.value
    c.in_ok-news.news.items c.in_ok-news.ensures c.args.op c.list_operator.new.names.items c.list_operator.new.matrices.items c.requires.listed
    listing).0

pub returns-clause-step : goal.returns-clause-step
returns-clause-step c =
    let listing : Listing c.args.names.now c.args.matrices.now c.args.op c.args.mat.now c.list_operator.new.names.items
    c.list_operator.new.matrices.items = rw (c.in_ok-listed.ensures.items, c.in_ok-columns.ensures) at c.in_ok-list_operator.ensures in
    subst (IsStep (decomposition c.args.field c.args.dim c.args.parts.now c.args.names.now c.args.matrices.now) c.args.op c.args.mat.now
    c.args.poly.now) (sym c.splitting_of.ensures)
    (stepped (decomposition c.args.field c.args.dim c.args.parts.now c.args.names.now c.args.matrices.now) c.requires.splitting c.args.mat.now
    (record { matrix = c.requires.matrix; size = c.requires.size }) c.in_ok-commuting.ensures.agree c.args.poly.now c.in_ok-value.value
    c.in_ok-value.ensures.size c.in_ok-value.ensures.value
    c.in_ok-news.news.items c.in_ok-news.ensures c.args.op c.list_operator.new.names.items c.list_operator.new.matrices.items c.requires.listed
    listing).1

pub returns-clause-refines : goal.returns-clause-refines
returns-clause-refines c = step_refines (decomposition c.args.field c.args.dim c.args.parts.now c.args.names.now c.args.matrices.now)
    c.splitting_of.result c.args.op c.args.mat.now c.args.poly.now (returns-clause-step c)
