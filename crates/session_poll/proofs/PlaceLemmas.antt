-- How far a stream is told, in the words of who asks for its parts.
use Rattle.std.proofs.Common.{◌≡◌, ◌≤◌, ◌<◌, ℕ, List, [], ◌∷◌, ◌++◌, arith, refl, sym, ◌∙◌, subst, append-nil, None}
use Rattle.std.specs.Prelude.{IsFalse, IsSomeAnd}
use Rattle.engine_text.specs.declared.reply.Reply.{Reply}
use Rattle.engine_text.specs.declared.reply.Reply.TheVariants as reply
use Rattle.engine_text.specs.declared.step.Step.{Step}
use Rattle.machine_model.specs.History.{Charter, Extends, IsLegal, acts_by, moment_used, state_after}
use Rattle.session_model.specs.declared.followed.Followed.TheVariants as F
use Rattle.session_model.specs.declared.turned.Part.{Part}
use Rattle.session_model.specs.declared.turned.Part.TheVariants as P
use Rattle.session_model.specs.Exchange.{AtSome, IsCaughtUp}
use Rattle.session_model.specs.Moments.{ComesTo}
use Rattle.session_model.proofs.HistoryLemmas.{extends_on}
use Rattle.session_model.proofs.MomentLemmas.{last_on}
use Rattle.attach_hub.specs.Following.{CanFollow}
use Rattle.attach_hub.specs.Streams.{StandsIn, first_of}
use Rattle.attach_hub.proofs.TellLemmas.{IsLooked, IsShort, Said, Told, events_any, told_first, told_later, told_stands}
use Rattle.polled_model.specs.Places.{TellsUpTo, first_place}
use Rattle.polled_steps.specs.Telling.{IsAskedLate, PartTells, moments_of}

-- ---- a body up to a place

pub as_told : (r : Reply) (ch : Charter) (a b : List Step) (place : ℕ) (body : List ℕ) → TellsUpTo ch r a b place body → Told r ch a b body place
as_told (reply.LogStream spec) ch a b place body (at, from, to, (tells, reached)) = record {
  begins = tells.1;
  at = at;
  from = from;
  to = to;
  kept = tells.0;
  logged = tells.2;
  reached = reached;
  tells = tells.3;
}
as_told (reply.EventStream first until filters) ch a b place body (begins, counted, tells) =
    record { begins = begins; counted = counted; tells = tells }
as_told (reply.JournalStream count) ch a b place body (short, counted, tells) =
    record { within = omega (arith, short); counted = counted; tells = tells }
as_told r ch a b place body tells = absurd tells

pub up_to : (r : Reply) (ch : Charter) (a b : List Step) (place : ℕ) (body : List ℕ) → IsShort r place → Told r ch a b body place → TellsUpTo ch r a b place body
up_to (reply.LogStream spec) ch a b place body short t = (t.at, t.from, t.to, ((t.kept, t.begins, t.logged, t.tells), t.reached))
up_to (reply.EventStream first until filters) ch a b place body short t = (t.begins, t.counted, t.tells)
up_to (reply.JournalStream count) ch a b place body short t = (short, t.counted, t.tells)
up_to r ch a b place body short t = absurd t

-- a journal that is told so lacks a line
pub short_of : (r : Reply) (ch : Charter) (a b : List Step) (place : ℕ) (body : List ℕ) → TellsUpTo ch r a b place body → IsShort r place
short_of (reply.JournalStream count) ch a b place body tells = tells.0
short_of r ch a b place body tells = tt

-- it isn't before its first place
pub from_first : (r : Reply) (ch : Charter) (a b : List Step) (place : ℕ) (body : List ℕ) → TellsUpTo ch r a b place body → first_place r ≤ place
from_first (reply.LogStream spec) ch a b place body (at, from, to, (tells, reached)) = tells.1
from_first (reply.EventStream first until filters) ch a b place body tells = tells.0
from_first r ch a b place body tells = omega arith

pub first_same : (r : Reply) → first_of r ≡ first_place r
first_same (reply.LogStream spec) = refl
first_same (reply.EventStream first until filters) = refl
first_same r = refl

-- nothing yet
pub up_to_first : (r : Reply) (ch : Charter) (a : List Step) → CanFollow ch a r → TellsUpTo ch r a a (first_place r) []
up_to_first r ch a may =
    up_to r ch a a (first_place r) [] (short_first r) (subst (Told r ch a a []) (first_same r) (told_first r ch a may))
  where
    short_first : (r : Reply) → IsShort r (first_place r)
    short_first (reply.JournalStream count) = omega arith
    short_first r = tt

-- a part may be asked for, also in a longer history
pub stands_later : (r : Reply) (ch : Charter) (a b c : List Step) (place : ℕ) (body : List ℕ) → Extends b c → TellsUpTo ch r a b place body → StandsIn ch c r place
stands_later r ch a b c place body more tells = told_stands r ch a c body place (told_later r ch a b c body place more (as_told r ch a b place body tells))

-- ---- what a part says

-- behind moments before
pub said_so : (r : Reply) (ch : Charter) (b : List Step) (place handed : ℕ) (part : Part) (new ms : List ℕ) → IsLegal ch b → IsShort r place
    → PartTells r handed place part [] new ch b → Said r place part [] new (ms ++ moments_of r handed) ch b
said_so (reply.JournalStream count) ch b place handed P.Whole new ms legal short says = absurd says
said_so (reply.JournalStream count) ch b place handed part new ms legal short says = (short, says)
said_so (reply.LogStream spec) ch b place handed part new ms legal short says =
    record { handed = handed; says = says; last = last_on None ms handed; legal = legal }
said_so (reply.EventStream first until filters) ch b place handed part new ms legal short says =
    record { handed = handed; says = says; last = last_on None ms handed; legal = legal }
said_so r ch b place handed part new ms legal short says = absurd says

-- more is told up to a later place
pub further_on : (r : Reply) (ch : Charter) (b : List Step) (place next handed : ℕ) (new : List ℕ) → PartTells r handed place (P.More next) [] new ch b → place < next
further_on (reply.JournalStream count) ch b place next handed new says = let is = says.0 in omega (arith, is)
further_on (reply.LogStream spec) ch b place next handed new says = says.2
further_on (reply.EventStream first until filters) ch b place next handed new says = says.1
further_on r ch b place next handed new says = absurd says

-- the moments so far bound nothing but the journal's, which has none
pub comes_on : (r : Reply) (ms : List ℕ) (handed : ℕ) → ComesTo r F.WriteFault ms → ComesTo r F.WriteFault (ms ++ moments_of r handed)
comes_on (reply.JournalStream count) ms handed none = append-nil ms ∙ none
comes_on (reply.EventStream first until filters) ms handed any = events_any first until filters (ms ++ handed ∷ [])
comes_on r ms handed any = tt

-- one that is up to date was asked behind all that is due
caught_since : (ch : Charter) (a b c : List Step) (ms : List ℕ) (handed : ℕ) → Extends a b → IsCaughtUp ch (handed ∷ []) b c → IsCaughtUp ch (ms ++ handed ∷ []) a c
caught_since ch a b c ms handed before (at, from, to, none) =
    subst (λ o. IsSomeAnd o (λ m. AtSome a c (λ place. IsFalse (acts_by (state_after ch c) (moment_used (state_after ch place) m))))) (sym (last_on None ms handed))
    (at, extends_on a b at before from, to, none)

pub looked_so : (r : Reply) (ch : Charter) (a b c : List Step) (ms : List ℕ) (handed : ℕ) → Extends a b → IsAskedLate r P.UpToDate handed ch b c
    → IsLooked r P.UpToDate (ms ++ moments_of r handed) ch a c
looked_so (reply.JournalStream count) ch a b c ms handed before late = tt
looked_so r ch a b c ms handed before late = caught_since ch a b c ms handed before late
