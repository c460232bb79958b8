use Rattle.std.proofs.Common.{sym, ◌∙◌}
use Rattle.json_objects.proofs.ValueLemmas.{words_same}
use Rattle.journal_lines.proofs.writing.values.words_value.Goals as goal

pub returns : goal.returns
returns c = c.in_ok-list.ensures ∙ sym (words_same c.args.words.now)
