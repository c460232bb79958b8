use Rattle.std.proofs.Common.{◌≡◌, take}
use Rattle.engine_client.specs.Printing.{lines_text}
use Rattle.engine_client.proofs.printing.text_of.Given as goal

abbrev pub invariant-lines : goal.invariant-lines
invariant-lines l = l.text.items ≡ lines_text (take l.line-index l.lines)
