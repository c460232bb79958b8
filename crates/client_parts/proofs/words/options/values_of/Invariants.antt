use Rattle.std.proofs.Common.{◌≡◌, take}
use Rattle.client_model.specs.Words.{values_of}
use Rattle.client_parts.proofs.words.options.values_of.Given as goal

abbrev pub invariant-given : goal.invariant-given
invariant-given l = l.values ≡ values_of l.name (take l.pair-index l.given)
