use Rattle.std.proofs.Common.{◌∙◌, rules, tests}
use Rattle.std.proofs.lemmas.Iterator.{YieldsList-from_slice}
use Rattle.std.proofs.lemmas.Iterator.Consumers.{YieldsList-from_filter, count_from_yields_List}
use Rattle.std.proofs.lemmas.List.Sums.{length-filter}
use Rattle.reply_text.specs.declared.transcript.ReplyLine.{ReplyLine}
use Rattle.reply_text.specs.Summaries.{is_memory}
use Rattle.reply_text.proofs.summary.session_memories.Goals as goal

pub returns : goal.returns
returns c =
    count_from_yields_List c.filter.result _ c.count.ensures.ran
    (YieldsList-from_filter _ (λ (r : ReplyLine). is_memory r.reply) (YieldsList-from_slice c.args.told.now cc) c.filter.ensures.closure
    (λ x b q k. search (rules, tests)))
    ∙ length-filter (λ (r : ReplyLine). is_memory r.reply) c.args.told.now
