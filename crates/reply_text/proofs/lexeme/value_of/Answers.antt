use Rattle.std.proofs.Common.{◌^◌, ◌<◌, rules}
use Rattle.reply_text.proofs.TwoParts.{value_some, value_none}
use Rattle.reply_text.proofs.lexeme.value_of.Goals as goal

pub returns-in-Some : goal.returns-in-Some
returns-in-Some c =
    let lt : c.in-Some.value < 2 ^ 64 = search rules in
    value_some c.args.token.now c.in-Some.value lt c.in-Some.ensures.number

pub returns-in-None : goal.returns-in-None
returns-in-None c = value_none c.args.token.now c.in-None.ensures.number
