-- Both sides of a takeover, one after the other and side by side.
use Rattle.std.proofs.Common.{◌≡◌, ◌+◌, ℕ, Bool, List, [], ◌∷◌, ◌++◌, inl, refl, sym, ◌∙◌, ap, subst, append-nil, arith, false, if◌then◌else◌, Some, None, max}
use Rattle.std.specs.Prelude.{IsTrue}
use Rattle.std.proofs.lemmas.Bool.{false≢true}
use Rattle.engine_ports.specs.Rose.{Rose}
use Rattle.engine_ports.specs.Source.{SourceView}
use Rattle.engine_ports.specs.Sink.{SinkTook, SinkView}
use Rattle.engine_ports.specs.Clock.{ClockHanded, ClockView, rejoined, twin_of}
use Rattle.engine_ports.specs.Door.{outside}
use Rattle.engine_ports.proofs.PortLemmas.{rose_since, rose_until, sink_on}
use Rattle.engine_text.specs.declared.reply.LogSpec.{LogSpec}
use Rattle.engine_text.specs.declared.reply.Reply.TheVariants.{LogStream}
use Rattle.engine_text.specs.declared.step.Step.{Step}
use Rattle.machine_model.specs.History.{Charter, Extends, calls_of, input_of, state_after}
use Rattle.session_model.specs.declared.followed.Followed.{Followed}
use Rattle.session_model.specs.declared.followed.Followed.TheVariants as F
use Rattle.session_model.specs.declared.followed.PumpEnd.{PumpEnd}
use Rattle.session_model.specs.declared.followed.PumpEnd.TheVariants as P
use Rattle.session_model.specs.Pass.{Every, HasItsCalls, Only, PassView, Stays}
use Rattle.session_model.specs.Exchange.{AtSome, EndsSo, Feeds, IsBody, IsQuiet, Leaves, Pumps, PumpsOut}
use Rattle.session_model.specs.Moments.{ComesTo}
use Rattle.session_model.specs.Session.{Cause, PumpCause}
use Rattle.session_model.proofs.AddsLemmas.{input_owns, owns, owns_on}
use Rattle.session_model.proofs.HistoryLemmas.{extends_on, extends_same, made_before, made_behind, quiet_on, quiet_same}
use Rattle.daemon_core.specs.Pairing.{IsOther, IsUndivided, Parted, Rejoined}
use Rattle.attach_hub.specs.Following.{CanFollow, FollowsFrom, FollowsSince, HasCause, IsStill, IsTaken, MayFollow}
use Rattle.attach_hub.specs.Pumping.{PumpsInput}
use Rattle.attach_hub.specs.Sides.{RunsOver}
use Rattle.attach_hub.proofs.OverLemmas.{cause_of, told_so}
use Rattle.attach_hub.proofs.StillLemmas.{quiet_both, still_alone, still_between}
use Rattle.attach_hub.specs.Connection.{view_of}

-- ---- what was said between two histories stands between longer ones

at_some : (a b c : List Step) (P : List Step → Type 0) → Extends b c → AtSome a b P → AtSome a c P
at_some a b c P behind (at, from, to, holds) = (at, from, extends_on at b c to behind, holds)

at_later : (a b c : List Step) (P : List Step → Type 0) → Extends a b → AtSome b c P → AtSome a c P
at_later a b c P before (at, from, to, holds) = (at, extends_on a b at before from, to, holds)

body_before : (ch : Charter) (spec : LogSpec) (whole : Bool) (a b c : List Step) (body : List ℕ) → Extends b c
    → IsBody ch (LogStream spec) whole a b body → IsBody ch (LogStream spec) whole a c body
body_before ch spec whole a b c body behind says = at_some a b c _ behind says

-- the end of a pump, behind steps of others and before them
out_before : (ch : Charter) (k : ℕ) (spec : LogSpec) (n : ℕ) (left : List ℕ) (end : PumpEnd) (a b c : List Step) → IsQuiet k b c → Extends b c
    → PumpsOut ch k spec.owner n left end a b → PumpsOut ch k spec.owner n left end a c
out_before ch k spec n left P.Ended a b c quiet e (none, (taken, made)) = (none, (taken, made_before ch k (input_of k) _ a b c _ made quiet))
out_before ch k spec n left P.Gone a b c quiet e (piece, front, made) = (piece, front, made_before ch k (input_of k) _ a b c _ made quiet)
out_before ch k spec n left P.JournalFull a b c quiet e (q, at) = (quiet_on k a b c q quiet, (at.0, at.1, extends_on at.0 b c at.2 e, at.3))
out_before ch k spec n left P.Stopped a b c quiet e (q, (x, asked, held)) =
    (quiet_on k a b c q quiet, (x, asked, (held.0, at_some a b c _ e held.1)))
out_before ch k spec n left P.ReadFault a b c quiet e (none, q) = (none, quiet_on k a b c q quiet)
out_before ch k spec n left P.NoMemory a b c quiet e q = quiet_on k a b c q quiet

out_behind : (ch : Charter) (k : ℕ) (spec : LogSpec) (n : ℕ) (left : List ℕ) (end : PumpEnd) (a b c : List Step) → IsQuiet k a b → Extends a b
    → PumpsOut ch k spec.owner n left end b c → PumpsOut ch k spec.owner n left end a c
out_behind ch k spec n left P.Ended a b c quiet e (none, (taken, made)) = (none, (taken, made_behind ch k (input_of k) _ a b c _ quiet made))
out_behind ch k spec n left P.Gone a b c quiet e (piece, front, made) = (piece, front, made_behind ch k (input_of k) _ a b c _ quiet made)
out_behind ch k spec n left P.JournalFull a b c quiet e (q, at) = (quiet_on k a b c quiet q, (at.0, extends_on a b at.0 e at.1, at.2, at.3))
out_behind ch k spec n left P.Stopped a b c quiet e (q, (x, asked, held)) =
    (quiet_on k a b c quiet q, (x, asked, (held.0, at_later a b c _ e held.1)))
out_behind ch k spec n left P.ReadFault a b c quiet e (none, q) = (none, quiet_on k a b c quiet q)
out_behind ch k spec n left P.NoMemory a b c quiet e q = quiet_on k a b c quiet q

pumps_behind : (ch : Charter) (k : ℕ) (spec : LogSpec) (n : ℕ) (end : PumpEnd) (pieces : List (List ℕ)) (left : List ℕ) (a b mid c : List Step)
    → IsQuiet k a b → Extends a b → Feeds ch k spec.owner n pieces b mid → PumpsOut ch k spec.owner n left end mid c
    → (mid' : List Step) × Feeds ch k spec.owner n pieces a mid' × PumpsOut ch k spec.owner n left end mid' c
pumps_behind ch k spec n end [] left a b mid c quiet e feeds out =
    (a, refl, out_behind ch k spec n left end a b c quiet e (subst (λ x. PumpsOut ch k spec.owner n left end x c) (sym feeds) out))
pumps_behind ch k spec n end (x ∷ xs) left a b mid c quiet e (next, made, feeds) out =
    (mid, (next, made_behind ch k (input_of k) _ a b next _ quiet made, feeds), out)

-- an input that was pumped between two histories was so between longer ones, in which its connection does nothing else
pub pumps_between : (ch : Charter) (k : ℕ) (spec : LogSpec) (end : PumpEnd) (behind : List ℕ) (a' a b b' : List Step)
    → IsQuiet k a' a → IsQuiet k b b' → Extends a' a → Extends b b' → Pumps ch k spec behind (Some end) a b → Pumps ch k spec behind (Some end) a' b'
pumps_between ch k spec end behind a' a b b' quiet quiet' e e' (n, named, (pieces, left, mid, bytes, feeds, out)) =
    let more = pumps_behind ch k spec n end pieces left a' a mid b' quiet e feeds (out_before ch k spec n left end mid b b' quiet' e' out) in
    (n, named, (pieces, left, more.0, bytes, more.1, more.2))

-- ---- the clock, and its twin

handed_both : (v mine twin : ClockView) (ms : List ℕ) → ClockHanded v ms mine → ClockHanded v ms (rejoined mine twin)
handed_both v mine twin ms f = record { handed = f.handed; stops = let le = f.stops in omega (arith, le) }

pump_cause : (end : PumpEnd) (s s' : SourceView) (u u' : SinkView) (v mine twin : ClockView) → PumpCause (Some end) (outside s u (twin_of v)) (outside s' u' twin)
    → PumpCause (Some end) (outside s u v) (outside s' u' (rejoined mine twin))
pump_cause P.Ended s s' u u' v mine twin cause = cause
pump_cause P.Gone s s' u u' v mine twin cause = tt
pump_cause P.Stopped s s' u u' v mine twin cause = rose_until v.stops twin.stops (max mine.stops twin.stops) cause (omega arith)
pump_cause P.JournalFull s s' u u' v mine twin cause = tt
pump_cause P.ReadFault s s' u u' v mine twin cause = cause
pump_cause P.NoMemory s s' u u' v mine twin cause = tt

follow_cause : (f : Followed) (u u' : SinkView) (v mine twin : ClockView) → HasCause f u u' v mine → HasCause f u u' v (rejoined mine twin)
follow_cause F.Whole u u' v mine twin cause = tt
follow_cause F.Stopped u u' v mine twin cause = rose_until v.stops mine.stops (max mine.stops twin.stops) cause (omega arith)
follow_cause (F.Lagged next first) u u' v mine twin cause = tt
follow_cause F.WriteFault u u' v mine twin cause = cause
follow_cause F.NoMemory u u' v mine twin cause = tt

-- what rose in both, by the clock that the twin was taken in by
causes : (end : PumpEnd) (f : Followed) (s s' : SourceView) (u u' : SinkView) (v t mine twin w : ClockView) → t ≡ twin_of v → w ≡ rejoined mine twin
    → PumpCause (Some end) (outside s u t) (outside s' u' twin) → HasCause f u u' v mine → Cause (Leaves f (Some end)) (outside s u v) (outside s' u' w)
causes end f s s' u u' v t mine twin w at is pump follow = (
  cause_of f s s' u u' v w (subst (HasCause f u u' v) (sym is) (follow_cause f u u' v mine twin follow)),
  subst (λ x. PumpCause (Some end) (outside s u v) (outside s' u' x)) (sym is)
      (pump_cause end s s' u u' v mine twin (subst (λ x. PumpCause (Some end) (outside s u x) (outside s' u' twin)) at pump)),
)

-- ---- of who takes all turns, the pump and then the follower

some_pumped : (end : PumpEnd) → Some end ≡ None → ⊥
some_pumped end h = cc

only_some : (k : ℕ) → Only k ≡ Every → ⊥
only_some k h = cc

not_input : (k : ℕ) → k ≡ input_of k → ⊥
not_input k is = omega (arith, is)

pub one_by_one : {n m : ℕ} {l l1 l2 l3 : ℕ × ℕ × ℕ} (k : ℕ) (spec : LogSpec) (end : PumpEnd) (f : Followed) (p0 p q r : PassView) (ahead : List ℕ) (s s' : SourceView) (u u' : SinkView)
    (v t mine twin w : ClockView) → IsTrue p0.pair → MayFollow (state_after p0.charter p0.seen) spec → IsUndivided p0 p → HasItsCalls p → HasItsCalls q
    → t ≡ twin_of v → w ≡ rejoined mine twin
    → PumpsInput k spec end p q ahead s s' t twin → FollowsSince (LogStream spec) false f (view_of k l2 q u v) (view_of m l3 r u' mine) → RunsOver spec f (Some end) (view_of k l p0 u v) (view_of n l1 r u' w) ahead s s'
one_by_one {n = n} {l = l} {l1 = l1} k spec end f p0 p q r ahead s s' u u' v t mine twin w pair may alone its its' at is pumped since =
    subst (λ x. RunsOver spec f (Some end) (view_of k l x u v) (view_of n l1 r u' w) ahead s s') alone.same (
    let pair' : IsTrue p.pair = subst (λ (x : PassView). IsTrue x.pair) (sym alone.same) pair in
    let every : p.number ≡ Every = ap (λ (x : PassView). x.number) alone.same ∙ alone.every in
    let stays = pumped.moves.stays in
    let still = still_alone k (input_of k) p q (not_input k) every (stays.number ∙ every) its its' pumped.moves.adds in
    let may' : CanFollow p.charter p.seen (LogStream spec) = subst (λ (x : PassView). CanFollow x.charter x.seen (LogStream spec)) (sym alone.same) may in
    let followed = since.since p.seen pumped.moves.extends (subst (λ ch. CanFollow ch p.seen (LogStream spec)) (sym stays.charter) may') in
    let quiet = followed.quiet (stays.pair ∙ pair') in
    let behind = followed.moves.extends in
    record {
      body = followed.body;
      part = followed.part;
      pumps = record {
        read = pumped.read;
        gave = pumped.source;
        holds = pumps_between p.charter k spec end (ahead ++ pumped.read) p.seen p.seen q.seen r.seen (quiet_same k p.seen) quiet (extends_same p.seen) behind (pumped.says still);
      };
      unread = λ e. absurd (some_pumped end e);
      tells = told_so f followed.whole p.charter spec p.seen r.seen followed.body followed.by_end
          (subst (λ ch. IsBody ch (LogStream spec) followed.whole p.seen r.seen followed.body) stays.charter followed.tells);
      ends = (
        r.seen,
        extends_on p.seen q.seen r.seen pumped.moves.extends behind,
        extends_same r.seen,
        subst (λ ch. EndsSo ch (LogStream spec) f followed.body followed.moves.handed p.seen r.seen) stays.charter followed.ends,
      );
      taken = subst (IsTaken f followed.part) followed.pieces followed.taken;
      sink = followed.sink;
      cause = causes end f s s' u u' v t mine twin w at is (pumped.cause u u') followed.cause;
      goes = record {
        handed = followed.moves.handed;
        clock = subst (ClockHanded v followed.moves.handed) (sym is) (handed_both v mine twin followed.moves.handed followed.moves.clock);
        extends = extends_on p.seen q.seen r.seen pumped.moves.extends behind;
        same = record {
          joined_calls = refl;
          number = followed.moves.stays.number ∙ stays.number;
          pair = refl;
          charter = followed.moves.stays.charter ∙ stays.charter;
          alone = followed.moves.stays.alone ∙ stays.alone;
          home = followed.moves.stays.home ∙ stays.home;
        };
        adds = λ h. owns_on k p q r (input_owns k p q pumped.moves.adds) (owns k q r followed.moves.adds);
        stays = λ b. absurd (false≢true (sym b));
        input = λ others. inl (followed.moves.stays.pair ∙ stays.pair ∙ pair');
        within = λ h b. absurd (false≢true (sym b));
      };
    }
    )

-- ---- of a pass that parts another off, both side by side

-- the other may be taken in again
still_other : (k : ℕ) (p q q2 o o2 : PassView) → Parted k p q o → Stays o o2 → Stays q q2 → IsOther k q2 o2
still_other k p q q2 o o2 parted theirs mine = record {
  connection = parted.connection;
  number = mine.number ∙ parted.same.number ∙ parted.number;
  own = theirs.number ∙ parted.own;
  home = theirs.home ∙ parted.home ∙ sym mine.home;
  none_joined = theirs.joined_calls ∙ parted.none_joined;
}

pub is_other : {m : ℕ} {l2 l3 : ℕ × ℕ × ℕ} (k : ℕ) (spec : LogSpec) (end : PumpEnd) (f : Followed) (p q q2 o o2 : PassView) (ahead : List ℕ) (s s' : SourceView) (u u' : SinkView)
    (v t mine twin : ClockView) → MayFollow (state_after p.charter p.seen) spec → Parted k p q o → PumpsInput k spec end o o2 ahead s s' t twin
    → FollowsSince (LogStream spec) false f (view_of k l2 q u v) (view_of m l3 q2 u' mine) → IsOther k q2 o2
is_other k spec end f p q q2 o o2 ahead s s' u u' v t mine twin may parted pumped since =
    let followed = since.since p.seen parted.behind (subst (λ ch. CanFollow ch p.seen (LogStream spec)) (sym parted.same.charter) may) in
    still_other k p q q2 o o2 parted pumped.moves.stays followed.moves.stays

pub side_by_side : {n m : ℕ} {l l1 l2 l3 : ℕ × ℕ × ℕ} (k : ℕ) (spec : LogSpec) (end : PumpEnd) (f : Followed) (p q o q2 o2 r : PassView) (ahead : List ℕ) (s s' : SourceView) (u u' : SinkView)
    (v t mine twin w : ClockView) → MayFollow (state_after p.charter p.seen) spec → Parted k p q o → Rejoined k q2 o2 r → t ≡ twin_of v → w ≡ rejoined mine twin
    → PumpsInput k spec end o o2 ahead s s' t twin → FollowsSince (LogStream spec) false f (view_of k l2 q u v) (view_of m l3 q2 u' mine) → RunsOver spec f (Some end) (view_of k l p u v) (view_of n l1 r u' w) ahead s s'
side_by_side k spec end f p q o q2 o2 r ahead s s' u u' v t mine twin w may parted joined at is pumped since =
    let charter : q.charter ≡ p.charter = parted.same.charter in
    let followed = since.since p.seen parted.behind (subst (λ ch. CanFollow ch p.seen (LogStream spec)) (sym charter) may) in
    let charter' : o.charter ≡ p.charter = parted.charter in
    let begun : Extends p.seen o.seen = subst (Extends p.seen) (sym parted.seen) parted.behind in
    let o_on = pumped.moves.extends in
    let q_on = followed.moves.extends in
    let still_begun : IsStill k p.seen o.seen = ap (calls_of k) parted.seen ∙ parted.quiet in
    let still : IsStill k p.seen r.seen = joined.own_calls ∙ followed.still ∙ parted.quiet in
    let o_ends : Extends p.seen o2.seen = extends_on p.seen o.seen o2.seen begun o_on in
    let last = still_between k p.seen o2.seen r.seen o_ends joined.theirs still in
    let middle = still_between k p.seen o.seen o2.seen begun o_on last.0 in
    let fresh : IsStill (input_of k) p.seen o.seen = parted.fresh ∙ sym parted.before in
    record {
      body = followed.body;
      part = followed.part;
      pumps = record {
        read = pumped.read;
        gave = pumped.source;
        holds = pumps_between p.charter k spec end (ahead ++ pumped.read) p.seen o.seen o2.seen r.seen
            (quiet_both k p.seen o.seen begun still_begun fresh) (quiet_both k o2.seen r.seen joined.theirs last.1 joined.input_calls) begun joined.theirs
            (subst (λ ch. Pumps ch k spec (ahead ++ pumped.read) (Some end) o.seen o2.seen) charter' (pumped.says middle.1));
      };
      unread = λ e. absurd (some_pumped end e);
      tells = told_so f followed.whole p.charter spec p.seen r.seen followed.body followed.by_end
          (body_before p.charter spec followed.whole p.seen q2.seen r.seen followed.body joined.mine
          (subst (λ ch. IsBody ch (LogStream spec) followed.whole p.seen q2.seen followed.body) charter followed.tells));
      ends = (
        q2.seen,
        extends_on p.seen q.seen q2.seen parted.behind q_on,
        joined.mine,
        subst (λ ch. EndsSo ch (LogStream spec) f followed.body followed.moves.handed p.seen q2.seen) charter followed.ends,
      );
      taken = subst (IsTaken f followed.part) followed.pieces followed.taken;
      sink = followed.sink;
      cause = causes end f s s' u u' v t mine twin w at is (pumped.cause u u') followed.cause;
      goes = record {
        handed = followed.moves.handed;
        clock = subst (ClockHanded v followed.moves.handed) (sym is) (handed_both v mine twin followed.moves.handed followed.moves.clock);
        extends = extends_on p.seen q.seen r.seen parted.behind (extends_on q.seen q2.seen r.seen q_on joined.mine);
        same = record {
          joined_calls = refl;
          number = joined.same.number ∙ followed.moves.stays.number ∙ parted.same.number;
          pair = refl;
          charter = joined.same.charter ∙ followed.moves.stays.charter ∙ charter;
          alone = joined.same.alone ∙ followed.moves.stays.alone ∙ parted.same.alone;
          home = joined.same.home ∙ followed.moves.stays.home ∙ parted.same.home;
        };
        adds = λ every. absurd (only_some k (sym parted.number ∙ every));
        stays = λ b. absurd (false≢true (sym b));
        input = λ others. joined.keeps;
        within = λ h b. absurd (false≢true (sym b));
      };
    }

-- ---- the end of writing

-- a stream that was whole, whose end couldn't be told
-- of a log the clock is asked for no end
log_comes : (spec : LogSpec) (f : Followed) (ms : List ℕ) → ComesTo (LogStream spec) f ms
log_comes spec f ms = tt

unfinished : {n m : ℕ} {l l' l1 : ℕ × ℕ × ℕ} (base : List Step) (k : ℕ) (spec : LogSpec) (p q : PassView) (u u' u2 : SinkView) (v v' : ClockView)
    → FollowsFrom base (LogStream spec) false F.Whole (view_of k l p u v) (view_of n l' q u' v') → SinkTook u' [] u2 → Rose u'.faults u2.faults
    → FollowsFrom base (LogStream spec) false F.WriteFault (view_of k l p u v) (view_of m l1 q u2 v')
unfinished base k spec p q u u' u2 v v' f took rose = record {
  moves = f.moves;
  still = f.still;
  quiet = f.quiet;
  whole = f.whole;
  by_end = tt;
  comes = log_comes spec (if f.whole then F.Whole else F.WriteFault) f.moves.handed;
  body = f.body;
  sent = f.sent;
  part = f.part;
  tells = f.tells;
  ends = tt;
  pieces = f.pieces;
  taken = ([], append-nil f.part ∙ f.taken);
  sink = subst (λ x. SinkTook u x u2) (append-nil f.part) (sink_on u u' u2 f.part [] f.sink took);
  cause = rose_since u.faults u'.faults u2.faults f.sink.faults rose;
}

finished : {n m : ℕ} {l l' l1 : ℕ × ℕ × ℕ} (base : List Step) (k : ℕ) (spec : LogSpec) (p q : PassView) (u u' u2 : SinkView) (v v' : ClockView)
    → FollowsFrom base (LogStream spec) false F.Whole (view_of k l p u v) (view_of n l' q u' v') → SinkTook u' [] u2
    → FollowsFrom base (LogStream spec) false F.Whole (view_of k l p u v) (view_of m l1 q u2 v')
finished base k spec p q u u' u2 v v' f took = record {
  moves = f.moves;
  still = f.still;
  quiet = f.quiet;
  whole = f.whole;
  by_end = f.by_end;
  comes = f.comes;
  body = f.body;
  sent = f.sent;
  part = f.part;
  tells = f.tells;
  ends = f.ends;
  pieces = f.pieces;
  taken = f.taken;
  sink = subst (λ x. SinkTook u x u2) (append-nil f.part) (sink_on u u' u2 f.part [] f.sink took);
  cause = tt;
}

pub ends_unfinished : {n m : ℕ} {l l' l1 : ℕ × ℕ × ℕ} (k : ℕ) (spec : LogSpec) (p q : PassView) (u u' u2 : SinkView) (v v' : ClockView) → FollowsSince (LogStream spec) false F.Whole (view_of k l p u v) (view_of n l' q u' v')
    → SinkTook u' [] u2 → Rose u'.faults u2.faults → FollowsSince (LogStream spec) false F.WriteFault (view_of k l p u v) (view_of m l1 q u2 v')
ends_unfinished k spec p q u u' u2 v v' f took rose = record { since = λ base e may. unfinished base k spec p q u u' u2 v v' (f.since base e may) took rose }

pub ends_finished : {n m : ℕ} {l l' l1 : ℕ × ℕ × ℕ} (k : ℕ) (spec : LogSpec) (p q : PassView) (u u' u2 : SinkView) (v v' : ClockView) → FollowsSince (LogStream spec) false F.Whole (view_of k l p u v) (view_of n l' q u' v')
    → SinkTook u' [] u2 → FollowsSince (LogStream spec) false F.Whole (view_of k l p u v) (view_of m l1 q u2 v')
ends_finished k spec p q u u' u2 v v' f took = record { since = λ base e may. finished base k spec p q u u' u2 v v' (f.since base e may) took }
