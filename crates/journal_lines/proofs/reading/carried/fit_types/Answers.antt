use Rattle.journal_lines.proofs.FieldLemmas.{each_fits}
use Rattle.journal_lines.proofs.reading.carried.fit_types.Goals as goal

pub returns : goal.returns
returns c = each_fits c.args.fields.now c.each_fits.ensures
