-- What one poll after another leaves of a context.
use Rattle.futures.specs.Task.{IsArmed, Keeps, Lasting}
use Rattle.futures.specs.declared.task.context.Context.{Context}

pub keeps_on : (a b c : Context) → Keeps a b → Keeps b c → Keeps a c
keeps_on a b c f g fact h = g fact (f fact h)

pub armed_on : (a b : Context) → Keeps a b → IsArmed a → IsArmed b
armed_on a b f h = f Lasting.armed h
