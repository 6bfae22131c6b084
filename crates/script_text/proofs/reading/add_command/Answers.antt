use Rattle.std.proofs.Common.{◌≡◌, ◌-◌, ◌<◌, length, vec_len, arith, rules}
use Rattle.script_text.proofs.SessionLemmas.{with_line-set}
use Rattle.script_text.proofs.reading.add_command.Goals as goal

pub returns-in_ok-push : goal.returns-in_ok-push
returns-in_ok-push c =
    let len : vec_len c.args.sessions.now ≡ length c.args.sessions.now.items = search rules in
    let some : 0 < vec_len c.args.sessions.now = search rules in
    with_line-set c.args.sessions.now.items c.args.line c.in-Some.session.now c.push.new.self (vec_len c.args.sessions.now - 1) (omega arith)
    c.in-Some.ensures.value c.in_ok-push.ensures
