-- That a ring holds the last events of a history, and a journal its entries.
use Rattle.std.proofs.Common.{◌≡◌, ◌∙◌, ap}
use Rattle.event_ring.specs.Ring.{ring_of}
use Rattle.machine_model.specs.History.{Charter, events_of}
use Rattle.daemon_core.specs.Keeping.{history_of, told_entries}
use Rattle.daemon_core.specs.Telling.{last_events}
use Rattle.daemon_core.specs.declared.stored.Stored.{Stored}

-- what is told of it
abbrev pub as_told : Charter → Stored → Stored
as_told ch d = record d {
  ring = last_events ch (history_of d.journal);
  journal = record d.journal { entries = told_entries ch (history_of d.journal) };
}

pub holds_last : (ch : Charter) (d : Stored) → d.ring ≡ ring_of (events_of ch (history_of d.journal))
    → d.journal.entries ≡ told_entries ch (history_of d.journal) → d ≡ as_told ch d
unfolding last_events
holds_last ch d ring entries =
    ap (λ y. record d { ring = y }) ring
    ∙ ap (λ y. record d { ring = last_events ch (history_of d.journal); journal = record d.journal { entries = y } }) entries

pub ring_held : (ch : Charter) (d : Stored) → d ≡ as_told ch d → d.ring ≡ ring_of (events_of ch (history_of d.journal))
unfolding last_events
ring_held ch d e = ap (λ (x : Stored). x.ring) e

pub entries_held : (ch : Charter) (d : Stored) → d ≡ as_told ch d → d.journal.entries ≡ told_entries ch (history_of d.journal)
entries_held ch d e = ap (λ (x : Stored). x.journal.entries) e
