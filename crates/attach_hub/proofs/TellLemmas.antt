-- What was told of a stream, by the reply that gives it.
use Rattle.std.proofs.Common.{◌≡◌, ◌≤◌, ◌<◌, ℕ, Bool, List, [], ◌++◌, true, false, if◌then◌else◌, Option, Some, None, arith, refl}
use Rattle.std.specs.List.{last_or}
use Rattle.engine_text.specs.declared.filter.FilterRow.{FilterRow}
use Rattle.engine_text.specs.declared.reply.Reply.{Reply}
use Rattle.engine_text.specs.declared.reply.Reply.TheVariants as reply
use Rattle.engine_text.specs.declared.step.Step.{Step}
use Rattle.machine_model.specs.History.{Charter, Extends, IsLegal}
use Rattle.session_model.specs.declared.followed.Followed.TheVariants as F
use Rattle.session_model.specs.declared.turned.Part.{Part}
use Rattle.session_model.specs.declared.turned.Part.TheVariants as P
use Rattle.session_model.specs.Exchange.{EndsSo, IsBody, IsCaughtUp}
use Rattle.session_model.specs.Moments.{ComesTo}
use Rattle.attach_hub.specs.Following.{CanFollow}
use Rattle.attach_hub.specs.Streams.{PartSays, StandsIn, first_of}
use Rattle.attach_hub.proofs.LogTellLemmas.{TellsLog, log_first, log_later, log_more, log_broken, log_told, log_gone, log_whole}
use Rattle.attach_hub.proofs.EventTellLemmas.{TellsEvents, events_first, events_later, events_more, events_broken, events_gone, events_whole, events_came, events_told, events_wait}
use Rattle.journal_lines.proofs.LineLemmas.{lines_count}
use Rattle.attach_hub.proofs.JournalTellLemmas.{JournalSaid, TellsJournal, journal_broken, journal_either, journal_first, journal_later, journal_more, journal_whole}

-- between two histories a body is what the stream had to that place
abbrev pub Told : Reply → Charter → List Step → List Step → List ℕ → ℕ → Type 0
Told (reply.LogStream spec) ch a b body place = TellsLog ch spec a b body place
Told (reply.EventStream first until filters) ch a b body place = TellsEvents ch first until filters b body place
Told (reply.JournalStream count) ch a b body place = TellsJournal ch count b body place
Told r ch a b body place = ⊥

-- what a part of a log or of events says, at the last of these moments
pub record SaidAt (r : Reply) (place : ℕ) (part : Part) (old new ms : List ℕ) (ch : Charter) (b : List Step) : Type 0 where
  pub handed : ℕ
  pub says : PartSays r handed place part old new ch b
  pub last : last_or None ms ≡ Some handed
  pub legal : IsLegal ch b

-- what a part says
abbrev pub Said : Reply → ℕ → Part → List ℕ → List ℕ → List ℕ → Charter → List Step → Type 0
Said (reply.JournalStream count) place part old new ms ch b = JournalSaid ch count b place part old new
Said r place part old new ms ch b = SaidAt r place part old new ms ch b

-- a part that is up to date was looked for behind all that is due
abbrev pub IsDone : Part → List ℕ → Charter → List Step → List Step → Type 0
IsDone P.UpToDate ms ch a b = IsCaughtUp ch ms a b
IsDone part ms ch a b = Unit {0}

-- but for the journal, which asks for no moment
abbrev pub IsLooked : Reply → Part → List ℕ → Charter → List Step → List Step → Type 0
IsLooked (reply.JournalStream count) part ms ch a b = Unit {0}
IsLooked r part ms ch a b = IsDone part ms ch a b

-- ---- it goes on

pub told_first : (r : Reply) (ch : Charter) (a : List Step) → CanFollow ch a r → Told r ch a a [] (first_of r)
told_first (reply.LogStream spec) ch a may = log_first ch spec a may
told_first (reply.EventStream first until filters) ch a may = events_first ch first until filters a may
told_first (reply.JournalStream count) ch a may = journal_first ch count a may
told_first r ch a may = absurd may

pub told_later : (r : Reply) (ch : Charter) (a b c : List Step) (body : List ℕ) (place : ℕ) → Extends b c → Told r ch a b body place
    → Told r ch a c body place
told_later (reply.LogStream spec) ch a b c body place on t = log_later ch spec a b c body place on t
told_later (reply.EventStream first until filters) ch a b c body place on t = events_later ch first until filters b c body place on t
told_later (reply.JournalStream count) ch a b c body place on t = journal_later ch count b c body place on t
told_later r ch a b c body place on t = absurd t

pub told_more : (r : Reply) (ch : Charter) (a b : List Step) (body old new ms : List ℕ) (place next : ℕ) → Extends a b
    → Told r ch a b body place → Said r place (P.More next) old new ms ch b → old ≡ [] → Told r ch a b (body ++ new) next
told_more (reply.LogStream spec) ch a b body old new ms place next on t said empty =
    log_more ch spec a b body old new place next on said.legal t said.says empty
told_more (reply.EventStream first until filters) ch a b body old new ms place next on t said empty =
    events_more ch first until filters b said.handed body old new place next t said.says empty
told_more (reply.JournalStream count) ch a b body old new ms place next on t said empty =
    journal_more ch count b body old new place next t said empty
told_more r ch a b body old new ms place next on t said empty = absurd t

-- a part may be asked from there
pub told_stands : (r : Reply) (ch : Charter) (a b : List Step) (body : List ℕ) (place : ℕ) → Told r ch a b body place → StandsIn ch b r place
told_stands (reply.EventStream first until filters) ch a b body place t = t.counted
told_stands (reply.LogStream spec) ch a b body place t = tt
told_stands (reply.JournalStream count) ch a b body place t = tt
told_stands r ch a b body place t = absurd t

-- ---- at which moments

-- whatever they are, but for the journal
pub events_any : (first : ℕ) (until : Option ℕ) (filters : List FilterRow) (ms : List ℕ) → ComesTo (reply.EventStream first until filters) F.WriteFault ms
events_any first None filters ms = tt
events_any first (Some u) filters ms = tt

-- ---- it ends

-- a journal that isn't whole lacks a line
abbrev pub IsShort : Reply → ℕ → Type 0
IsShort (reply.JournalStream count) place = place ≤ count
IsShort r place = Unit {0}

abbrev NotWhole : Part → Type 0
NotWhole P.Whole = ⊥
NotWhole part = Unit {0}

pub said_short : (r : Reply) (ch : Charter) (b : List Step) (part : Part) (old new ms : List ℕ) (place : ℕ) → NotWhole part
    → Said r place part old new ms ch b → IsShort r place
said_short (reply.JournalStream count) ch b P.Whole old new ms place other said = absurd other
said_short (reply.JournalStream count) ch b part old new ms place other said = said.0
said_short r ch b part old new ms place other said = tt

pub told_broken : (r : Reply) (ch : Charter) (a b : List Step) (body : List ℕ) (place : ℕ) → IsShort r place → Told r ch a b body place
    → IsBody ch r false a b body
told_broken (reply.LogStream spec) ch a b body place lacks t = log_broken ch spec a b body place t
told_broken (reply.EventStream first until filters) ch a b body place lacks t = events_broken ch first until filters a b body place t
told_broken (reply.JournalStream count) ch a b body place lacks t = journal_broken ch count a b body place lacks t
told_broken r ch a b body place lacks t = absurd t

pub told_gone : (r : Reply) (ch : Charter) (a b : List Step) (body old new ms : List ℕ) (place next oldest : ℕ) → Extends a b
    → Told r ch a b body place → Said r place (P.Gone next oldest) old new ms ch b → EndsSo ch r (F.Lagged next oldest) body ms a b
told_gone (reply.LogStream spec) ch a b body old new ms place next oldest on t said =
    log_gone ch spec a b body old new ms place next oldest on t said.says
told_gone (reply.EventStream first until filters) ch a b body old new ms place next oldest on t said =
    events_gone ch first until filters a b said.handed body old new ms place next oldest on t said.says
told_gone (reply.JournalStream count) ch a b body old new ms place next oldest on t said = absurd said.1
told_gone r ch a b body old new ms place next oldest on t said = absurd t

pub told_whole : (r : Reply) (ch : Charter) (a b : List Step) (body old new ms : List ℕ) (place : ℕ) → CanFollow ch a r → Extends a b
    → Told r ch a b body place → Said r place P.Whole old new ms ch b → IsBody ch r true a b body
told_whole (reply.LogStream spec) ch a b body old new ms place may on t said =
    log_whole ch spec a b body old new place on said.legal t said.says
told_whole (reply.EventStream first until filters) ch a b body old new ms place may on t said =
    events_whole ch first until filters a b said.handed body old new place t said.says
told_whole (reply.JournalStream count) ch a b body old new ms place may on t le = journal_whole ch count a b body place le t
told_whole r ch a b body old new ms place may on t said = absurd t

-- the clock had come to the end
pub whole_comes : (r : Reply) (ch : Charter) (b : List Step) (old new ms : List ℕ) (place : ℕ) → ComesTo r F.WriteFault ms
    → Said r place P.Whole old new ms ch b → ComesTo r F.Whole ms
whole_comes (reply.EventStream first until filters) ch b old new ms place comes said =
    events_came ch first until filters b said.handed old new ms place said.says said.last
whole_comes (reply.JournalStream count) ch b old new ms place comes said = comes
whole_comes r ch b old new ms place comes said = tt

-- or not yet, where it was stopped
pub stopped_comes : (r : Reply) (ch : Charter) (b : List Step) (old new ms : List ℕ) (place : ℕ) → ComesTo r F.WriteFault ms
    → Said r place P.UpToDate old new ms ch b → ComesTo r F.Stopped ms
stopped_comes (reply.EventStream first until filters) ch b old new ms place comes said =
    events_wait ch first until filters b said.handed old new ms place said.says said.last
stopped_comes (reply.JournalStream count) ch b old new ms place comes said = comes
stopped_comes r ch b old new ms place comes said = tt

-- which nothing asks of a stream that ended otherwise
pub lapsed_comes : (r : Reply) (next first : ℕ) (ms : List ℕ) → ComesTo r F.WriteFault ms → ComesTo r (F.Lagged next first) ms
lapsed_comes (reply.EventStream from None filters) next first ms comes = tt
lapsed_comes (reply.EventStream from (Some u) filters) next first ms comes = tt
lapsed_comes (reply.JournalStream count) next first ms comes = comes
lapsed_comes r next first ms comes = tt

pub short_comes : (r : Reply) (ms : List ℕ) → ComesTo r F.WriteFault ms → ComesTo r F.NoMemory ms
short_comes (reply.EventStream from None filters) ms comes = tt
short_comes (reply.EventStream from (Some u) filters) ms comes = tt
short_comes (reply.JournalStream count) ms comes = comes
short_comes r ms comes = tt

-- behind a write that failed it may be told whole
pub record Either (r : Reply) (ch : Charter) (a b : List Step) (body : List ℕ) : Type 0 where
  pub whole : Bool
  pub tells : IsBody ch r whole a b body
  pub comes : (ms : List ℕ) → ComesTo r F.WriteFault ms → ComesTo r (if whole then F.Whole else F.WriteFault) ms

pub told_either : (r : Reply) (ch : Charter) (a b : List Step) (body : List ℕ) (place : ℕ) → Told r ch a b body place → Either r ch a b body
told_either (reply.LogStream spec) ch a b body place t =
    record { whole = false; tells = log_broken ch spec a b body place t; comes = λ ms h. tt }
told_either (reply.EventStream first until filters) ch a b body place t = record {
  whole = false;
  tells = events_broken ch first until filters a b body place t;
  comes = λ ms any. any;
}
told_either (reply.JournalStream count) ch a b body place t =
    let e = journal_either ch count a b body place t in
    record { whole = e.0; tells = e.1; comes = λ ms none. none }
told_either r ch a b body place t = absurd t

-- who didn't fall behind lacks nothing
pub ends_whole : (r : Reply) (ch : Charter) (body ms : List ℕ) (a b : List Step) → EndsSo ch r F.Whole body ms a b
ends_whole (reply.LogStream spec) ch body ms a b = tt
ends_whole r ch body ms a b = tt

-- who was up to date when it was stopped was told all; a journal never is up to date
pub ends_stopped : (r : Reply) (ch : Charter) (a b : List Step) (body old new ms : List ℕ) (place : ℕ)
    → Told r ch a b body place → Said r place P.UpToDate old new ms ch b → IsLooked r P.UpToDate ms ch a b → EndsSo ch r F.Stopped body ms a b
ends_stopped (reply.LogStream spec) ch a b body old new ms place t said caught =
    log_told ch spec a b body old new ms place said.legal t said.says caught
ends_stopped (reply.EventStream first until filters) ch a b body old new ms place t said caught =
    events_told ch first until filters a b said.handed body old new ms place t said.says caught
ends_stopped (reply.JournalStream count) ch a b body old new ms place t (below, (none, same)) caught =
    let counted = t.counted in
    let many = lines_count ch b in
    absurd (omega (arith, below, none, counted, many))
ends_stopped r ch a b body old new ms place t said caught = absurd t

pub ends_failed : (r : Reply) (ch : Charter) (body ms : List ℕ) (a b : List Step) → EndsSo ch r F.WriteFault body ms a b
ends_failed (reply.LogStream spec) ch body ms a b = tt
ends_failed r ch body ms a b = tt

pub ends_short : (r : Reply) (ch : Charter) (body ms : List ℕ) (a b : List Step) → EndsSo ch r F.NoMemory body ms a b
ends_short (reply.LogStream spec) ch body ms a b = tt
ends_short r ch body ms a b = tt
