-- What a run of a line comes to, by how its daemon begins and by the answer of a reboot.
use Rattle.std.proofs.Common.{ℕ, ◌≡◌, List, subst, sym}
use Rattle.engine_ports.specs.Clock.{ClockView}
use Rattle.engine_ports.specs.Door.{Outside}
use Rattle.engine_ports.specs.Sink.{SinkView}
use Rattle.engine_line.specs.declared.line.Beginning.{Beginning}
use Rattle.engine_line.specs.declared.line.OneLine.{OneLine}
use Rattle.engine_reboot.specs.declared.rebooting.Rebooted.{Rebooted}
use Rattle.polled_ports.specs.PollDoor.{PollDoorView}
use Rattle.one_program.specs.Program.{BeginsBy}
use Rattle.one_program.specs.Rebooting.{ComesTo, Continues, Remakes}

-- the answer was this one, and this came of it
pub continues_by : (text addr : List ℕ) (line : OneLine) (status : ℕ) (u u' : SinkView) (t opened t' : ClockView) (d d' : PollDoorView) (n n' : ℕ) (r r' : Rebooted)
    → Remakes line text r t opened → r ≡ r' → ComesTo r' addr line status u u' opened t' d d' n n' → Continues text addr line status u u' t t' d d' n n'
continues_by text addr line status u u' t opened t' d d' n n' r r' remakes is comes = record {
  rebooted = r;
  opened = opened;
  remakes = remakes;
  comes = subst (λ x. ComesTo x addr line status u u' opened t' d d' n n') (sym is) comes;
}

-- the daemon begins so
pub begins_by : (b b' : Beginning) (addr : List ℕ) (line : OneLine) (status : ℕ) (o o' : Outside) (d d' : PollDoorView) (n n' : ℕ) → b ≡ b'
    → BeginsBy b' addr line status o o' d d' n n' → BeginsBy b addr line status o o' d d' n n'
begins_by b b' addr line status o o' d d' n n' is begins = subst (λ x. BeginsBy x addr line status o o' d d' n n') (sym is) begins
