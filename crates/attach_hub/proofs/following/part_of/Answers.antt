use Rattle.std.proofs.Common.{ap}
use Rattle.attach_hub.specs.Streams.{reply_of}
use Rattle.attach_hub.proofs.PartLemmas.{of_stream}
use Rattle.attach_hub.proofs.following.part_of.Goals as goal

pub returns-in-Log : goal.returns-in-Log
returns-in-Log g c = of_stream _ _ _ _ _ _ _ _ (ap reply_of c.in-Log.is) c.log_part.ensures

pub returns-in-Events : goal.returns-in-Events
returns-in-Events g c = of_stream _ _ _ _ _ _ _ _ (ap reply_of c.in-Events.is) (c.event_part.ensures c.in-Events.first)

pub returns-in-Journal : goal.returns-in-Journal
returns-in-Journal g c = of_stream _ _ _ _ _ _ _ _ (ap reply_of c.in-Journal.is) c.line_from.ensures
