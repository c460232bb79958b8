-- Pumping goes on piece by piece, and ends.
use Rattle.std.proofs.Common.{◌≡◌, ◌<◌, ◌≤◌, ℕ, Bool, arith, inl, inr, length, List, [], ◌∷◌, ◌++◌, refl, sym, ◌∙◌, ap, subst, append_assoc, append-nil, true, false, Some, Result, Ok, Err}
use Rattle.std.specs.Prelude.{IsTrue, nat_le, ◌&&◌}
use Rattle.std.specs.List.{concat}
use Rattle.std.proofs.lemmas.Bool.Decides.{nat_tests}
use Rattle.engine_text.specs.Soundness.{IsSound, is_full}
use Rattle.engine_ports.specs.Rose.{Rose}
use Rattle.engine_ports.specs.Source.{SourceEnded, SourceGave, SourceView}
use Rattle.engine_ports.specs.Sink.{IsFront, SinkView}
use Rattle.engine_ports.specs.Clock.{ClockView}
use Rattle.engine_ports.specs.Door.{outside}
use Rattle.engine_ports.proofs.PortLemmas.{rose_since, source_none, source_on}
use Rattle.engine_text.specs.declared.call.Call.TheVariants.{Feed, FeedEnd}
use Rattle.engine_text.specs.declared.owner.Owner.{Owner}
use Rattle.engine_text.specs.declared.reply.LogSpec.{LogSpec}
use Rattle.engine_text.specs.declared.reply.Reply.TheVariants.{Fed}
use Rattle.engine_text.specs.declared.step.Step.{Step}
use Rattle.machine_model.specs.History.{Charter, input_of}
use Rattle.machine_model.proofs.Fold.RowLemmas.{same_some}
use Rattle.http_edge.specs.Reading.{Reached}
use Rattle.session_model.specs.declared.followed.PumpEnd.{PumpEnd}
use Rattle.session_model.specs.declared.followed.PumpEnd.TheVariants as P
use Rattle.session_model.specs.Pass.{PassView}
use Rattle.session_model.specs.Exchange.{Feeds, IsMade, Pumps, PumpsOut}
use Rattle.session_model.specs.Progress.{Moves}
use Rattle.session_model.specs.Session.{PumpCause}
use Rattle.session_model.proofs.HistoryLemmas.{quiet_same}
use Rattle.session_model.proofs.TurnLemmas.{moves_on, moves_same}
use Rattle.attach_hub.specs.Following.{IsStill}
use Rattle.attach_hub.specs.Pumping.{EndsInput, FeedsPiece, HeardCause, HeardSays, Hears, PumpsInput, end_by}
use Rattle.attach_hub.proofs.StillLemmas.{still_between}

-- ---- what may be asked

full : (piece : List ℕ) → 0 < length piece → is_full piece ≡ true
full [] some = absurd (omega (arith, some))
full (x ∷ piece) some = refl

all_three : (a b c : Bool) → a ≡ true → b ≡ true → c ≡ true → IsTrue (a && b && c)
all_three a b c f g h = rw (f, g, h) refl

pub feed_sound : (owner : Owner) (run : ℕ) (piece : List ℕ) → 1 ≤ run → 0 < length piece → length piece ≤ 32768 → IsSound (Feed owner run piece)
feed_sound owner run piece first some few =
    all_three (nat_le 1 run) (is_full piece) (nat_le (length piece) 32768) (grind (arith, nat_tests, first)) (full piece some) (grind (arith, nat_tests, few))

pub end_sound : (owner : Owner) (run : ℕ) → 1 ≤ run → IsSound (FeedEnd owner run)
end_sound owner run first = grind (arith, nat_tests, first)

-- ---- feeds one after another

pub feeds_on : (ch : Charter) (k : ℕ) (owner : Owner) (run : ℕ) (xs ys : List (List ℕ)) (a b c : List Step)
    → Feeds ch k owner run xs a b → Feeds ch k owner run ys b c → Feeds ch k owner run (xs ++ ys) a c
feeds_on ch k owner run [] ys a b c f g = subst (λ x. Feeds ch k owner run ys x c) (sym f) g
feeds_on ch k owner run (x ∷ xs) ys a b c (mid, made, f) g = (mid, made, feeds_on ch k owner run xs ys mid b c f g)

concat_on : (xs ys : List (List ℕ)) → concat (xs ++ ys) ≡ concat xs ++ concat ys
concat_on [] ys = refl
concat_on (x ∷ xs) ys = ap (λ l. x ++ l) (concat_on xs ys) ∙ sym (append_assoc x (concat xs) (concat ys))

concat_one : (x : List ℕ) → concat (x ∷ []) ≡ x
concat_one x = append-nil x

-- ---- causes

cause_since : (end : PumpEnd) (s s1 s2 : SourceView) (u u' : SinkView) (v v1 v2 : ClockView) → s.faults ≤ s1.faults → s.ends ≤ s1.ends → v.stops ≤ v1.stops
    → PumpCause (Some end) (outside s1 u v1) (outside s2 u' v2) → PumpCause (Some end) (outside s u v) (outside s2 u' v2)
cause_since P.Ended s s1 s2 u u' v v1 v2 faults ends stops cause = record { rose = rose_since s.ends s1.ends s2.ends ends cause.rose; spent = cause.spent }
cause_since P.Gone s s1 s2 u u' v v1 v2 faults ends stops cause = tt
cause_since P.Stopped s s1 s2 u u' v v1 v2 faults ends stops cause = rose_since v.stops v1.stops v2.stops stops cause
cause_since P.JournalFull s s1 s2 u u' v v1 v2 faults ends stops cause = tt
cause_since P.ReadFault s s1 s2 u u' v v1 v2 faults ends stops cause = rose_since s.faults s1.faults s2.faults faults cause
cause_since P.NoMemory s s1 s2 u u' v v1 v2 faults ends stops cause = tt

-- ---- where pumping stands

-- these pieces were fed, and taken
pub record Pumping (k : ℕ) (spec : LogSpec) (run : ℕ) (p q : PassView) (ahead ahead' : List ℕ) (s s' : SourceView) (v v' : ClockView) : Type 0 where
  pub moves : Moves (input_of k) p q v v'
  pub read : List ℕ
  pub source : SourceGave s read s'
  pub pieces : List (List ℕ)
  pub bytes : ahead ++ read ≡ concat pieces ++ ahead'
  pub says : IsStill k p.seen q.seen → Feeds p.charter k spec.owner run pieces p.seen q.seen

pub pumps_first : (k : ℕ) (spec : LogSpec) (run : ℕ) (p : PassView) (ahead : List ℕ) (s : SourceView) (v : ClockView) → Pumping k spec run p p ahead ahead s s v v
pumps_first k spec run p ahead s v = record {
  moves = moves_same (input_of k) p v;
  read = [];
  source = source_none s;
  pieces = [];
  bytes = append-nil ahead;
  says = λ still. refl;
}

-- one piece more
pub pumps_more : (k : ℕ) (spec : LogSpec) (run : ℕ) (p q r : PassView) (a b c : List ℕ) (s s1 s2 : SourceView) (v v1 v2 : ClockView)
    → Pumping k spec run p q a b s s1 v v1 → FeedsPiece k spec run q r b c s1 s2 v1 v2 → Pumping k spec run p r a c s s2 v v2
pumps_more k spec run p q r a b c s s1 s2 v v1 v2 f g = record {
  moves = moves_on (input_of k) p q r v v1 v2 f.moves g.heard.moves;
  read = f.read ++ g.read;
  source = source_on s s1 s2 f.read g.read f.source g.source;
  pieces = f.pieces ++ g.piece ∷ [];
  bytes = sym (append_assoc a f.read g.read) ∙ ap (λ x. x ++ g.read) f.bytes ∙ append_assoc (concat f.pieces) b g.read
      ∙ ap (λ x. concat f.pieces ++ x) g.bytes ∙ sym (append_assoc (concat f.pieces) g.piece c)
      ∙ ap (λ x. x ++ c) (ap (λ x. concat f.pieces ++ x) (sym (concat_one g.piece)) ∙ sym (concat_on f.pieces (g.piece ∷ [])));
  says = λ still.
      let parts = still_between k p.seen q.seen r.seen f.moves.extends g.heard.moves.extends still in
      feeds_on p.charter k spec.owner run f.pieces (g.piece ∷ []) p.seen q.seen r.seen (f.says parts.0)
      (r.seen, subst (λ ch. IsMade ch k (input_of k) (Feed spec.owner run g.piece) q.seen r.seen (Fed true)) f.moves.stays.charter (g.heard.says parts.1), refl);
}

-- ---- how it ends

pumps_by : (ch : Charter) (k : ℕ) (spec : LogSpec) (run : ℕ) (end : PumpEnd) (pieces : List (List ℕ)) (first front rest : List ℕ) (a b c : List Step)
    → spec.feed ≡ Some run → first ≡ concat pieces ++ front → Feeds ch k spec.owner run pieces a b
    → Pumps ch k spec (front ++ rest) (Some end) b c → Pumps ch k spec (first ++ rest) (Some end) a c
pumps_by ch k spec run end pieces first front rest a b c feed is fed (n, named, (more, left, mid, bytes, feeds, out)) =
    let same : run ≡ n = same_some run n (sym feed ∙ named) in (
      n,
      named,
      (
        pieces ++ more,
        left,
        mid,
        ap (λ x. x ++ rest) is ∙ append_assoc (concat pieces) front rest ∙ ap (λ x. concat pieces ++ x) bytes
            ∙ sym (append_assoc (concat pieces) (concat more) left) ∙ ap (λ x. x ++ left) (sym (concat_on pieces more)),
        feeds_on ch k spec.owner n pieces more a b mid (subst (λ m. Feeds ch k spec.owner m pieces a b) same fed) feeds,
        out,
      ),
    )

-- behind the pieces so far
pub pumps_end : (k : ℕ) (spec : LogSpec) (run : ℕ) (end : PumpEnd) (p q r : PassView) (a b : List ℕ) (s s1 s2 : SourceView) (v v1 v2 : ClockView)
    → spec.feed ≡ Some run → Pumping k spec run p q a b s s1 v v1 → PumpsInput k spec end q r b s1 s2 v1 v2
    → PumpsInput k spec end p r a s s2 v v2
pumps_end k spec run end p q r a b s s1 s2 v v1 v2 feed f g = record {
  moves = moves_on (input_of k) p q r v v1 v2 f.moves g.moves;
  read = f.read ++ g.read;
  source = source_on s s1 s2 f.read g.read f.source g.source;
  says = λ still.
      let parts = still_between k p.seen q.seen r.seen f.moves.extends g.moves.extends still in
      subst (λ x. Pumps p.charter k spec x (Some end) p.seen r.seen) (append_assoc a f.read g.read)
      (pumps_by p.charter k spec run end f.pieces (a ++ f.read) b g.read p.seen q.seen r.seen feed f.bytes (f.says parts.0)
      (subst (λ ch. Pumps ch k spec (b ++ g.read) (Some end) q.seen r.seen) f.moves.stays.charter (g.says parts.1)));
  cause = λ u u'. cause_since end s s1 s2 u u' v v1 v2 f.source.faults f.source.ends f.moves.clock.stops (g.cause u u');
}

-- with no piece fed before
at_once : (ch : Charter) (k : ℕ) (spec : LogSpec) (run : ℕ) (end : PumpEnd) (left : List ℕ) (a b : List Step) → spec.feed ≡ Some run
    → PumpsOut ch k spec.owner run left end a b → Pumps ch k spec left (Some end) a b
at_once ch k spec run end left a b feed out = (run, feed, ([], left, a, refl, refl, out))

-- a piece was read, and not taken
pub piece_gone : (k : ℕ) (spec : LogSpec) (run : ℕ) (p q : PassView) (piece a b : List ℕ) (s s' : SourceView) (v v' : ClockView) → spec.feed ≡ Some run
    → Reached a s s' (λ bytes. bytes ≡ piece ++ b) → Hears k (Feed spec.owner run piece) (Ok false) p q v v' → PumpsInput k spec P.Gone p q a s s' v v'
piece_gone k spec run p q piece a b s s' v v' feed reached h = record {
  moves = h.moves;
  read = reached.read;
  source = reached.gave;
  says = λ still. at_once p.charter k spec run P.Gone (a ++ reached.read) p.seen q.seen feed (piece, (b, sym reached.holds), h.says still);
  cause = λ u u'. tt;
}

-- a call that wasn't made ends the pump
unmade_out : (ch : Charter) (k : ℕ) (owner : Owner) (run : ℕ) (piece left : List ℕ) (end : PumpEnd) (a b : List Step) (v v' : ClockView)
    → IsFront piece left → HeardCause (Err end) v v' → HeardSays ch k (Feed owner run piece) (Err end) a b → PumpsOut ch k owner run left end a b
unmade_out ch k owner run piece left P.Ended a b v v' front cause says = absurd cause
unmade_out ch k owner run piece left P.Gone a b v v' front cause says = absurd cause
unmade_out ch k owner run piece left P.Stopped a b v v' front cause (quiet, held) =
    (quiet, (Feed owner run piece, inl (piece, front, refl), held))
unmade_out ch k owner run piece left P.JournalFull a b v v' front cause says = says
unmade_out ch k owner run piece left P.ReadFault a b v v' front cause says = absurd cause
unmade_out ch k owner run piece left P.NoMemory a b v v' front cause says = says

unmade_end : (ch : Charter) (k : ℕ) (owner : Owner) (run : ℕ) (end : PumpEnd) (a b : List Step) (v v' : ClockView)
    → HeardCause (Err end) v v' → HeardSays ch k (FeedEnd owner run) (Err end) a b → PumpsOut ch k owner run [] end a b
unmade_end ch k owner run P.Ended a b v v' cause says = absurd cause
unmade_end ch k owner run P.Gone a b v v' cause says = absurd cause
unmade_end ch k owner run P.Stopped a b v v' cause (quiet, held) = (quiet, (FeedEnd owner run, inr (refl, refl), held))
unmade_end ch k owner run P.JournalFull a b v v' cause says = says
unmade_end ch k owner run P.ReadFault a b v v' cause says = absurd cause
unmade_end ch k owner run P.NoMemory a b v v' cause says = says

unmade_cause : (end : PumpEnd) (s s' : SourceView) (u u' : SinkView) (v v' : ClockView) → HeardCause (Err end) v v'
    → PumpCause (Some end) (outside s u v) (outside s' u' v')
unmade_cause P.Ended s s' u u' v v' cause = absurd cause
unmade_cause P.Gone s s' u u' v v' cause = absurd cause
unmade_cause P.Stopped s s' u u' v v' cause = cause
unmade_cause P.JournalFull s s' u u' v v' cause = tt
unmade_cause P.ReadFault s s' u u' v v' cause = absurd cause
unmade_cause P.NoMemory s s' u u' v v' cause = tt

-- or its feed wasn't made
pub piece_unfed : (k : ℕ) (spec : LogSpec) (run : ℕ) (end : PumpEnd) (p q : PassView) (piece a b : List ℕ) (s s' : SourceView) (v v' : ClockView) → spec.feed ≡ Some run
    → Reached a s s' (λ bytes. bytes ≡ piece ++ b) → Hears k (Feed spec.owner run piece) (Err end) p q v v' → PumpsInput k spec end p q a s s' v v'
piece_unfed k spec run end p q piece a b s s' v v' feed reached h = record {
  moves = h.moves;
  read = reached.read;
  source = reached.gave;
  says = λ still. at_once p.charter k spec run end (a ++ reached.read) p.seen q.seen feed
      (unmade_out p.charter k spec.owner run piece (a ++ reached.read) end p.seen q.seen v v' (b, sym reached.holds) h.cause (h.says still));
  cause = λ u u'. unmade_cause end s s' u u' v v' h.cause;
}

-- or it was taken
pub piece_fed : (k : ℕ) (spec : LogSpec) (run : ℕ) (p q : PassView) (piece a b : List ℕ) (s s' : SourceView) (v v' : ClockView)
    → Reached a s s' (λ bytes. bytes ≡ piece ++ b) → Hears k (Feed spec.owner run piece) (Ok true) p q v v' → FeedsPiece k spec run p q a b s s' v v'
piece_fed k spec run p q piece a b s s' v v' reached h =
    record { read = reached.read; source = reached.gave; piece = piece; bytes = reached.holds; heard = h }

-- the input ended, and that was told, or it wasn't
told_by : (k : ℕ) (spec : LogSpec) (run : ℕ) (heard : Result Bool PumpEnd) (p q : PassView) (s s' : SourceView) (v v' : ClockView) → spec.feed ≡ Some run
    → SourceGave s [] s' → SourceEnded s s' → Hears k (FeedEnd spec.owner run) heard p q v v' → PumpsInput k spec (end_by heard) p q [] s s' v v'
told_by k spec run (Ok taken) p q s s' v v' feed gave ended h = record {
  moves = h.moves;
  read = [];
  source = gave;
  says = λ still. at_once p.charter k spec run P.Ended [] p.seen q.seen feed (refl, (taken, h.says still));
  cause = λ u u'. ended;
}
told_by k spec run (Err end) p q s s' v v' feed gave ended h = record {
  moves = h.moves;
  read = [];
  source = gave;
  says = λ still. at_once p.charter k spec run end [] p.seen q.seen feed
      (unmade_end p.charter k spec.owner run end p.seen q.seen v v' h.cause (h.says still));
  cause = λ u u'. unmade_cause end s s' u u' v v' h.cause;
}

pub input_ended : (k : ℕ) (spec : LogSpec) (run : ℕ) (end : PumpEnd) (p q : PassView) (a : List ℕ) (s s' : SourceView) (v v' : ClockView) → spec.feed ≡ Some run
    → a ≡ [] → SourceGave s [] s' → SourceEnded s s' → EndsInput k spec.owner run end p q v v' → PumpsInput k spec end p q a s s' v v'
input_ended k spec run end p q a s s' v v' feed none gave ended (heard, h, is) =
    subst (λ x. PumpsInput k spec x p q a s s' v v') (sym is)
    (subst (λ x. PumpsInput k spec (end_by heard) p q x s s' v v') (sym none) (told_by k spec run heard p q s s' v v' feed gave ended h))

-- a read failed
pub read_failed : (k : ℕ) (spec : LogSpec) (run : ℕ) (p : PassView) (a : List ℕ) (s s' : SourceView) (v : ClockView) → spec.feed ≡ Some run
    → a ≡ [] → SourceGave s [] s' → Rose s.faults s'.faults → PumpsInput k spec P.ReadFault p p a s s' v v
read_failed k spec run p a s s' v feed none gave rose = record {
  moves = moves_same (input_of k) p v;
  read = [];
  source = gave;
  says = λ still. at_once p.charter k spec run P.ReadFault (a ++ []) p.seen p.seen feed (append-nil a ∙ none, quiet_same k p.seen);
  cause = λ u u'. rose;
}

-- no memory for a place
pub no_place : (k : ℕ) (spec : LogSpec) (run : ℕ) (p : PassView) (a : List ℕ) (s : SourceView) (v : ClockView) → spec.feed ≡ Some run
    → PumpsInput k spec P.NoMemory p p a s s v v
no_place k spec run p a s v feed = record {
  moves = moves_same (input_of k) p v;
  read = [];
  source = source_none s;
  says = λ still. at_once p.charter k spec run P.NoMemory (a ++ []) p.seen p.seen feed (quiet_same k p.seen);
  cause = λ u u'. tt;
}
