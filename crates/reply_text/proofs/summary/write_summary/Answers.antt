use Rattle.reply_text.proofs.SummaryTexts.{summary_text-pieces}
use Rattle.reply_text.proofs.summary.write_summary.Goals as goal

pub returns-clause-whole : goal.returns-clause-whole
returns-clause-whole g c =
    rw (summary_text-pieces c.args.number c.args.t.now)
    (simp (
      c.from.ensures,
      c.from-2.ensures,
      c.from-3.ensures,
      c.as_bytes.ensures.value,
      c.format.ensures.text,
      c.reply_count.ensures,
      c.as_bytes-2.ensures.value,
      c.format-2.ensures.text,
      c.ok_count.ensures,
      c.as_bytes-3.ensures.value,
      c.format-3.ensures.text,
      c.memory_count.ensures,
      c.as_bytes-4.ensures.value,
      c.format-4.ensures.text,
      c.image_sum.ensures,
      c.as_slice-sessions.ensures,
      c.as_slice.ensures,
    )
    at c.write_parts.ensures.whole)

pub returns-clause-part : goal.returns-clause-part
returns-clause-part g c =
    rw (summary_text-pieces c.args.number c.args.t.now)
    (simp (
      c.from.ensures,
      c.from-2.ensures,
      c.from-3.ensures,
      c.as_bytes.ensures.value,
      c.format.ensures.text,
      c.reply_count.ensures,
      c.as_bytes-2.ensures.value,
      c.format-2.ensures.text,
      c.ok_count.ensures,
      c.as_bytes-3.ensures.value,
      c.format-3.ensures.text,
      c.memory_count.ensures,
      c.as_bytes-4.ensures.value,
      c.format-4.ensures.text,
      c.image_sum.ensures,
      c.as_slice-sessions.ensures,
      c.as_slice.ensures,
    )
    at c.write_parts.ensures.part)
