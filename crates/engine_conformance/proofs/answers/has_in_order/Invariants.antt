use denote.Shadow.{shadow}
use denote.Text.{Utf8}
use Rattle.engine_conformance.proofs.answers.has_in_order.Given as goal

abbrev pub invariant-loop-text : goal.invariant-loop-text
invariant-loop-text l = shadow (Utf8 l.rest)
