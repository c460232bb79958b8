use Rattle.std.proofs.Common.{refl}
use Rattle.engine_serve.proofs.SendLemmas.{as_awaited}
use Rattle.session_model.specs.declared.turned.Awaited.{Awaited}
use Rattle.engine_serve.proofs.answer.send_awaited.Goals as goal

pub returns-in-Replied : goal.returns-in-Replied
returns-in-Replied g c = as_awaited c.args.terms c.args.awaited.now _ _ _ _ c.in-Replied.is c.send_reply.ensures

pub returns-in-Stopped : goal.returns-in-Stopped
returns-in-Stopped g c = as_awaited c.args.terms c.args.awaited.now Awaited.Stopped _ _ _ c.in-Stopped.is c.send_stopping.ensures

pub returns-in-NoMemory : goal.returns-in-NoMemory
returns-in-NoMemory g c = as_awaited c.args.terms c.args.awaited.now Awaited.NoMemory _ _ _ c.in-NoMemory.is c.send_out_of_memory.ensures

pub returns-in-WriteFault : goal.returns-in-WriteFault
returns-in-WriteFault g c = as_awaited c.args.terms c.args.awaited.now Awaited.WriteFault _ _ _ c.in-WriteFault.is (refl, refl)
