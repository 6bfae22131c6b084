-- The sections that a transcript is put in.
--   section_text s   the text of a section
use Rattle.std.specs.Prelude.{ℕ, List, ◌++◌, codes, decimal}
use Rattle.text_lines.specs.Lines.{ended}
use Rattle.reply_text.specs.declared.put_transcript.Section.{Section}
use Rattle.reply_text.specs.declared.put_transcript.Section.TheVariants as sections
use Rattle.reply_text.specs.Transcripts.{session_lines, entry_lines, space_line}

abbrev pub section_text : Section → List ℕ
section_text (sections.Heading t) = codes "transcript 1\n" ++ space_line t.now ++ codes "\n"
section_text (sections.Sessions given) = ended (session_lines 1 given.now)
section_text (sections.Count count) = codes "history " ++ decimal count ++ codes "\n"
section_text (sections.Entries entries) = ended (entry_lines 1 entries.now)
section_text (sections.Closing columns) = codes "columns " ++ decimal columns ++ codes "\nend\n"
