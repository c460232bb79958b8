use Rattle.std.proofs.Common.{◌≡◌, ◌∙◌, ◌+◌, ◌<◌, ◌≤◌, ◌^◌, [], ◌∷◌, ◌++◌, refl, ap, subst, sym, length, length-append, arith}
use Rattle.engine_text.specs.declared.entry.Entry.{Entry}
use Rattle.engine_text.specs.declared.step.Step.{Step}
use Rattle.journal_lines.specs.KeptJournal.{KeptJournal, ends_behind, ends_of}
use Rattle.machine_model.specs.State.{State}
use Rattle.machine_model.specs.History.{IsLawful, after_step, reply_of}
use Rattle.call_plans.specs.Parts.{MachineParts}
use Rattle.daemon_core.specs.Keeping.{history_of}
use Rattle.daemon_core.specs.Telling.{IsLike}
use Rattle.daemon_core.specs.declared.stored.Stored.{Stored}
use Rattle.daemon_core.proofs.CountLemmas.{call_counted}
use Rattle.daemon_core.proofs.KeepLemmas.{entries_call_more, history_call, history_same}
use Rattle.daemon_core.proofs.TellLemmas.{ends_like, few_told, like_on, like_same, told_by, told_more, told_on, told_same, told_still}
use Rattle.daemon_core.proofs.TicketLemmas.{call_placed, few_before, told_replies}
use Rattle.daemon_core.proofs.WrittenLemmas.{on_err}
use Rattle.daemon_core.proofs.stored.Stored.make.Goals as goal

pub commit_call-requires-clause-lawful : goal.commit_call-requires-clause-lawful
commit_call-requires-clause-lawful c =
    subst (λ (m : MachineParts). IsLawful m.memory.state (Step.Call c.args.conn c.args.moment c.args.call)) (sym c.make_place.ensures.machine)
    c.requires.lawful

pub commit_call-requires-clause-told : goal.commit_call-requires-clause-told
commit_call-requires-clause-told c =
    let d = c.args.self.now in
    let d1 = c.make_place.new.self in
    told_by d d1 (told_still d d1 c.make_place.ensures.machine c.make_place.ensures.journal c.make_place.ensures.ring) c.requires.told

pub add-requires-clause-dues : goal.add-requires-clause-dues
add-requires-clause-dues c = c.dues-since.ensures

pub add-requires-clause-steps : goal.add-requires-clause-steps
add-requires-clause-steps c =
    let d = c.args.self.now in
    let d1 = c.make_place.new.self in
    let told = told_by d d1 (told_still d d1 c.make_place.ensures.machine c.make_place.ensures.journal c.make_place.ensures.ring) c.requires.told in
    let few = subst (λ (m : MachineParts). m.memory.state.step_count < 2 ^ 57) (sym c.make_place.ensures.machine)
    (few_before d.machine.memory.state c.args.conn c.args.moment c.args.call c.requires.lawful c.kept.ensures.state) in
    few_told d1 c.commit_call.new.self.journal told c.commit_call.ensures.journal few

-- the entry has its place, and so have the ends of the tickets
pub add-requires-clause-place : goal.add-requires-clause-place
add-requires-clause-place c =
    let d = c.args.self.now in
    let d1 = c.make_place.new.self in
    let s : State = d.machine.memory.state in
    let k = c.args.conn in
    let t = c.args.moment in
    let call = c.args.call in
    let reserved : d1.machine.memory.state ≡ s = ap (λ (m : MachineParts). m.memory.state) c.make_place.ensures.machine in
    let e : Entry = record { dues = c.dues-since.result; conn = k; moment = t; call = call; reply = c.in_ok-made.made.0 } in
    let placed = call_placed s k t c.dues-since.result call c.in_ok-made.made.0 d1 (told_replies d c.requires.told) c.requires.lawful c.kept.ensures.state
    (c.in_ok-made.ensures.kept ∙ ap (λ (y : State). reply_of y k t call) reserved) reserved c.places.ensures
    (ends_like d d1 c.make_place.ensures.journal reserved c.requires.ends) c.in_ok-make_place.ensures.room in
    subst (λ (j : KeptJournal). length j.entries + 1 + ends_behind (ends_of j.entries) e ≤ j.room) (sym c.commit_call.ensures.journal) placed.0

pub returns-clause-made : goal.returns-clause-made
returns-clause-made c =
    let d = c.args.self.now in
    let d1 = c.make_place.new.self in
    let d2 = c.commit_call.new.self in
    let s : State = d.machine.memory.state in
    let k = c.args.conn in
    let t = c.args.moment in
    let call = c.args.call in
    let reserved : d1.machine.memory.state ≡ s = ap (λ (m : MachineParts). m.memory.state) c.make_place.ensures.machine in
    let e : Entry = record { dues = c.dues-since.result; conn = k; moment = t; call = call; reply = c.in_ok-made.made.0 } in
    let like : IsLike d.journal d2.journal = like_on d.journal d1.journal d2.journal c.make_place.ensures.journal c.commit_call.ensures.journal in
    record {
      state = c.in_ok-made.ensures.made.state ∙ ap (λ (y : State). after_step y (Step.Call k t call)) reserved;
      steps_are = history_call d2.journal c.add.new.self e c.add.ensures.entries c.add.ensures.since c.dues-since.ensures
          ∙ ap (λ h. h ++ Step.Call k t call ∷ []) (history_same d.journal d2.journal like);
      reply = c.in_ok-made.ensures.reply ∙ ap (λ (y : State). reply_of y k t call) reserved;
    }

pub returns-clause-ends : goal.returns-clause-ends
returns-clause-ends c =
    let d = c.args.self.now in
    let d1 = c.make_place.new.self in
    let d2 = c.commit_call.new.self in
    let s : State = d.machine.memory.state in
    let k = c.args.conn in
    let t = c.args.moment in
    let call = c.args.call in
    let reserved : d1.machine.memory.state ≡ s = ap (λ (m : MachineParts). m.memory.state) c.make_place.ensures.machine in
    let e : Entry = record { dues = c.dues-since.result; conn = k; moment = t; call = call; reply = c.in_ok-made.made.0 } in
    let placed = call_placed s k t c.dues-since.result call c.in_ok-made.made.0 d1 (told_replies d c.requires.told) c.requires.lawful c.kept.ensures.state
    (c.in_ok-made.ensures.kept ∙ ap (λ (y : State). reply_of y k t call) reserved) reserved c.places.ensures
    (ends_like d d1 c.make_place.ensures.journal reserved c.requires.ends) c.in_ok-make_place.ensures.room in
    let is : d2.machine.memory.state ≡ after_step s (Step.Call k t call) =
    c.in_ok-made.ensures.made.state ∙ ap (λ (y : State). after_step y (Step.Call k t call)) reserved in
    let tickets = ap (λ (y : State). length y.tickets) is in
    let entries = ap length c.add.ensures.entries ∙ length-append d2.journal.entries (e ∷ []) in
    let as_many = ap (λ (j : KeptJournal). length j.entries) c.commit_call.ensures.journal in
    let room = c.add.ensures.room ∙ ap (λ (j : KeptJournal). j.room) c.commit_call.ensures.journal in
    omega (arith, placed.1, tickets, entries, as_many, room)

pub returns-clause-told : goal.returns-clause-told
returns-clause-told c =
    let d = c.args.self.now in
    let d1 = c.make_place.new.self in
    let d2 = c.commit_call.new.self in
    let k = c.args.conn in
    let t = c.args.moment in
    let call = c.args.call in
    let x : Step = Step.Call k t call in
    let j' = c.add.new.self in
    let e : Entry = record { dues = c.dues-since.result; conn = k; moment = t; call = call; reply = c.in_ok-made.made.0 } in
    let last : Stored = record { machine = d2.machine; journal = j'; ring = d2.ring } in
    let same = c.commit_call.ensures.journal in
    let dues = c.dues-since.ensures ∙ ap (λ (j : KeptJournal). j.since) same in
    told_on d d1 last (told_still d d1 c.make_place.ensures.machine c.make_place.ensures.journal c.make_place.ensures.ring)
    (told_more d1 d2 last x c.in_ok-made.ensures.made refl refl
    (history_call d2.journal j' e c.add.ensures.entries c.add.ensures.since c.dues-since.ensures ∙ ap (λ j. history_of j ++ x ∷ []) same)
    (λ ch told. entries_call_more ch d1.journal j' e (c.add.ensures.entries ∙ ap (λ (j : KeptJournal). j.entries ++ e ∷ []) same) c.add.ensures.since dues
    (c.in_ok-made.ensures.kept ∙ ap (λ (y : State). reply_of y k t call) told.state) told.entries)
    (call_counted d1.machine.memory.state k t call))

-- ---- without memory

pub returns-in_err-make_place-clause-ends : goal.returns-in_err-make_place-clause-ends
returns-in_err-make_place-clause-ends c =
    let d = c.args.self.now in
    let d1 = c.make_place.new.self in
    ends_like d d1 c.make_place.ensures.journal (ap (λ (m : MachineParts). m.memory.state) c.make_place.ensures.machine) c.requires.ends

pub returns-in_err-make_place-clause-told : goal.returns-in_err-make_place-clause-told
returns-in_err-make_place-clause-told c =
    told_still c.args.self.now c.make_place.new.self c.make_place.ensures.machine c.make_place.ensures.journal c.make_place.ensures.ring

pub returns-in_err-made-clause-ends : goal.returns-in_err-made-clause-ends
returns-in_err-made-clause-ends c =
    let d = c.args.self.now in
    let d1 = c.make_place.new.self in
    let d2 = c.commit_call.new.self in
    ends_like d d2 (like_on d.journal d1.journal d2.journal c.make_place.ensures.journal c.commit_call.ensures.journal)
    (c.in_err-made.ensures.state ∙ ap (λ (m : MachineParts). m.memory.state) c.make_place.ensures.machine) c.requires.ends

pub returns-in_err-made-clause-told : goal.returns-in_err-made-clause-told
returns-in_err-made-clause-told c =
    let d = c.args.self.now in
    let d1 = c.make_place.new.self in
    let d2 = c.commit_call.new.self in
    told_on d d1 d2 (told_still d d1 c.make_place.ensures.machine c.make_place.ensures.journal c.make_place.ensures.ring)
    (told_same d1 d2 c.in_err-made.ensures.state (like_same d1.journal d2.journal c.commit_call.ensures.journal) c.in_err-made.ensures.ring)

pub returns-in_err-make_place-clause-steps : goal.returns-in_err-make_place-clause-steps
returns-in_err-make_place-clause-steps c =
    on_err _ (history_same c.args.self.now.journal c.make_place.new.self.journal c.make_place.ensures.journal)

pub returns-in_err-made-clause-steps : goal.returns-in_err-made-clause-steps
returns-in_err-made-clause-steps c =
    let d = c.args.self.now in
    let d1 = c.make_place.new.self in
    let d2 = c.commit_call.new.self in
    on_err _
    (history_same d.journal d2.journal (like_on d.journal d1.journal d2.journal c.make_place.ensures.journal c.commit_call.ensures.journal))
