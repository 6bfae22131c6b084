use Rattle.std.proofs.Common.{length, ap, subst, ◌∙◌}
use Rattle.session_core.specs.Demands.{Gathers, line_demand}
use Rattle.session_core.specs.Hosts.{HostState, EntersLine}
use Rattle.session_core.proofs.host.Host.step.Goals as goal

pub invariant_of-self : goal.invariant_of-self
invariant_of-self c =
    let enters : EntersLine c.self.inside.space c.args.session c.args.number c.args.line.now c.entry_count-version.result c.self.inside.history.items
    c.enter-reply.result c.enter-reply.new.history.items c.enter-reply.new.splitting =
    c.enter-reply.ensures.enters c.self.inside.space c.args.line.now c.self.invariant.2 c.line_finish-finish.ensures.finishes in
    (c.line_finish-finish.ensures.ground, enters.few, enters.version, c.line_finish-finish.ensures.cusps)

pub returns-clause-few : goal.returns-clause-few
returns-clause-few c =
    let enters : EntersLine c.self.inside.space c.args.session c.args.number c.args.line.now c.entry_count-version.result c.self.inside.history.items
    c.enter-reply.result c.enter-reply.new.history.items c.enter-reply.new.splitting =
    c.enter-reply.ensures.enters c.self.inside.space c.args.line.now c.self.invariant.2 c.line_finish-finish.ensures.finishes in
    enters.few

pub returns-clause-columns : goal.returns-clause-columns
returns-clause-columns c =
    subst (λ (h : HostState). Gathers (line_demand h.ground (length h.history) c.args.line.now.text) c.enter-reply.result h.pairs
    c.line_finish-finish.new.columns.pairs) c.self.view_is
    (subst (λ n. Gathers (line_demand c.self.inside.space n c.args.line.now.text) c.enter-reply.result c.self.inside.columns.pairs
    c.line_finish-finish.new.columns.pairs) (c.entry_count-version.ensures ∙ ap length c.deref.ensures.value)
    (c.enter-reply.ensures.columns _ _ _ c.line_finish-finish.ensures.columns))
