use Rattle.std.proofs.Common.{◌∙◌}
use Rattle.text_lines.proofs.TokenLemmas.{token-next, no_tokens}
use Rattle.text_lines.proofs.token.next_token.Goals as goal

pub returns-then-is_empty-clause-token : goal.returns-then-is_empty-clause-token
returns-then-is_empty-clause-token c = c.unindented-rest.ensures.same ∙ no_tokens c.unindented-rest.result.now (c.if-is_empty.ensures {u = tt})

pub returns-clause-token : goal.returns-clause-token
returns-clause-token c =
    c.unindented-rest.ensures.same ∙ rw (c.split_at.ensures.front, c.split_at.ensures.back)
    (token-next c.unindented-rest.result.now c.word.result
    (c.if-is_empty.ensures {u = tt}) c.unindented-rest.ensures.begins c.word.ensures.within c.word.ensures.taken c.word.ensures.stops)
