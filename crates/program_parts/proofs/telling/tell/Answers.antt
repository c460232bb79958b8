use Rattle.program_parts.proofs.telling.tell.Goals as goal

pub returns : goal.returns
returns g c = (c.write.result, c.write.ensures)
