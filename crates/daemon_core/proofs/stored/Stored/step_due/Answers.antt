use Rattle.std.proofs.Common.{◌≡◌, ◌∙◌, ◌+◌, [], ◌∷◌, ◌++◌, refl, ap, length, arith}
use Rattle.engine_text.specs.declared.step.Step.{Step}
use Rattle.journal_lines.specs.KeptJournal.{KeptJournal}
use Rattle.machine_model.specs.State.{State}
use Rattle.machine_model.specs.Due.{least_due}
use Rattle.machine_model.specs.History.{after_step, latest}
use Rattle.daemon_core.specs.Keeping.{history_of}
use Rattle.daemon_core.specs.declared.stored.Stored.{Stored}
use Rattle.daemon_core.proofs.CountLemmas.{due_counted}
use Rattle.daemon_core.proofs.DueLemmas.{due_later}
use Rattle.daemon_core.proofs.KeepLemmas.{entries_due_more, history_due}
use Rattle.daemon_core.proofs.TellLemmas.{few_told, told_more}
use Rattle.daemon_core.proofs.TicketLemmas.{due_placed, few_due}
use Rattle.daemon_core.proofs.stored.Stored.step_due.Goals as goal

pub due-requires : goal.due-requires
due-requires c =
    let d = c.args.self.now in
    few_told d c.commit_due.new.self.journal c.requires.told c.commit_due.ensures.journal (few_due d.machine.memory.state c.requires.lawful)

pub returns-clause-made : goal.returns-clause-made
returns-clause-made c =
    let s : State = c.args.self.now.machine.memory.state in
    let n = c.commit_due.new.self in
    let is : n.machine.memory.state ≡ after_step s Step.Due = c.in_ok-commit_due.ensures.made.state in
    record {
      state = is;
      steps_are = history_due n.journal c.due.new.self c.due.ensures.entries c.due.ensures.since ∙ ap (λ j. history_of j ++ Step.Due ∷ []) c.commit_due.ensures.journal;
      later = due_later s n.machine.memory.state c.kept.ensures.state c.requires.lawful is;
      count = ap (λ (y : State). y.step_count) is ∙ due_counted s (latest s) (least_due s) c.requires.lawful.1;
    }

-- the ends of the tickets have their places
pub returns-clause-ends : goal.returns-clause-ends
returns-clause-ends c =
    let d = c.args.self.now in
    let s : State = d.machine.memory.state in
    let placed = due_placed s (length d.journal.entries) d.journal.room c.requires.ends in
    let tickets = ap (λ (y : State). length y.tickets) c.in_ok-commit_due.ensures.made.state in
    let entries = ap length (c.due.ensures.entries ∙ ap (λ (j : KeptJournal). j.entries) c.commit_due.ensures.journal) in
    let room = c.due.ensures.room ∙ ap (λ (j : KeptJournal). j.room) c.commit_due.ensures.journal in
    omega (arith, placed, tickets, entries, room)

pub returns-clause-told : goal.returns-clause-told
returns-clause-told c =
    let d = c.args.self.now in
    let n = c.commit_due.new.self in
    let s : State = d.machine.memory.state in
    let j' = c.due.new.self in
    let last : Stored = record { machine = n.machine; journal = j'; ring = n.ring } in
    let entries = c.due.ensures.entries ∙ ap (λ (j : KeptJournal). j.entries) c.commit_due.ensures.journal in
    let since = c.due.ensures.since ∙ ap (λ (j : KeptJournal). j.since + 1) c.commit_due.ensures.journal in
    told_more d n last Step.Due c.in_ok-commit_due.ensures.made refl refl (history_due d.journal j' entries since)
    (λ ch told. entries_due_more ch d.journal j' entries since told.entries)
    (due_counted s (latest s) (least_due s) c.requires.lawful.1)
