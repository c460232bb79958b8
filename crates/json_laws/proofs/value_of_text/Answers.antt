use Rattle.std.proofs.Common.{◌∙◌, sym}
use Rattle.json_laws.proofs.Text.{data_of-utf8, data_of-none}
use Rattle.json_laws.proofs.value_of_text.Goals as goal

pub returns-in-Ok : goal.returns-in-Ok
returns-in-Ok c = sym (data_of-utf8 c.args.text.now c.in-Ok.ensures.ok.0 ∙ c.in-Ok.ensures.ok.1)

pub returns-else-is_memory : goal.returns-else-is_memory
returns-else-is_memory c = sym (data_of-none c.args.text.now (λ u. c.in-Err.ensures.err (λ m. cc (sym c.if-is_memory.false ∙ c.is_memory.ensures.1 m)) u))
