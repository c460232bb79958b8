use Rattle.std.proofs.Common.{◌∙◌, ap}
use Rattle.session_poll.specs.declared.state.State.{State}
use Rattle.session_poll.proofs.PlaceLemmas.{first_same}
use Rattle.session_poll.proofs.streaming.stream.Goals as goal

pub returns : goal.returns
returns c = (
  c.stream_head-out.result,
  ap (λ n. State.Streams c.args.reply c.args.terms n c.stream_head-out.result) (c.first_of-place.ensures ∙ first_same c.args.reply),
  c.stream_head-out.ensures,
)
