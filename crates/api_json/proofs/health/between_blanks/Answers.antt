use Rattle.std.proofs.Common.{◌++◌, ap}
use Rattle.api_json.specs.Health.{between_blanks}
use Rattle.api_json.proofs.HealthLemmas.{all_cut, more_cut}
use Rattle.api_json.proofs.health.between_blanks.Goals as goal

pub parts-init : goal.parts-init
parts-init c = (c.utf8.text, ap (λ words. words ++ between_blanks c.args.text.now) c.new-words.ensures)

pub split_blank-requires-text-text : goal.split_blank-requires-text-text
split_blank-requires-text-text c κs = c.parts.invariant.0

pub parts-preserved : goal.parts-preserved
parts-preserved c = (
  c.in-Some.ensures.texts.1,
  more_cut c.parts.words _ c.parts.left.now c.in-Some.word.now c.in-Some.rest.now c.args.text.now c.in_ok-add_word.ensures c.in-Some.ensures.parts c.parts.invariant.1,
)

pub with_last-requires : goal.with_last-requires
with_last-requires c = tt

pub returns : goal.returns
returns c = all_cut c.parts.words _ c.parts.left.now c.args.text.now c.in_ok-all.ensures c.in_default.ensures.parts c.parts.invariant.1
