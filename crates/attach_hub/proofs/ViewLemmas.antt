-- Both sides of a takeover, by what its connection stands on.
use Rattle.std.proofs.Common.{◌≡◌, ℕ, List, [], sym, ◌∙◌, ap, subst, false, Some}
use Rattle.std.specs.Prelude.{IsTrue}
use Rattle.engine_ports.specs.Rose.{Rose}
use Rattle.engine_ports.specs.Source.{SourceView}
use Rattle.engine_ports.specs.Sink.{SinkTook, SinkView}
use Rattle.engine_ports.specs.Clock.{ClockView, rejoined, twin_of}
use Rattle.engine_text.specs.declared.reply.LogSpec.{LogSpec}
use Rattle.engine_text.specs.declared.reply.Reply.TheVariants.{LogStream}
use Rattle.machine_model.specs.History.{state_after}
use Rattle.session_model.specs.declared.followed.Followed.{Followed}
use Rattle.session_model.specs.declared.followed.Followed.TheVariants as F
use Rattle.session_model.specs.declared.followed.PumpEnd.{PumpEnd}
use Rattle.session_model.specs.Pass.{HasItsCalls, PassView}
use Rattle.daemon_core.specs.Pairing.{IsOther, IsUndivided, Parted, Rejoined}
use Rattle.attach_hub.specs.Connection.{ConnectionView, view_of}
use Rattle.attach_hub.specs.Following.{FollowsLent, FollowsSince, MayFollow}
use Rattle.attach_hub.specs.Pumping.{PumpsInput}
use Rattle.attach_hub.specs.Sides.{RunsOver}
use Rattle.attach_hub.proofs.SideLemmas.{ends_finished, ends_unfinished, is_other, one_by_one, side_by_side}

-- ---- the end of writing

-- it was told
pub finished : (spec : LogSpec) (x y z : ConnectionView) → FollowsSince (LogStream spec) false F.Whole x y → z ≡ record y { sink = z.sink }
    → SinkTook y.sink [] z.sink → FollowsSince (LogStream spec) false F.Whole x z
finished spec x y z follows same took =
    subst (FollowsSince (LogStream spec) false F.Whole x) (sym same)
    (ends_finished x.who.number spec x.pass y.pass x.sink y.sink z.sink x.clock y.clock follows took)

-- or it couldn't be
pub unfinished : (spec : LogSpec) (x y z : ConnectionView) → FollowsSince (LogStream spec) false F.Whole x y → z ≡ record y { sink = z.sink }
    → SinkTook y.sink [] z.sink → Rose y.sink.faults z.sink.faults → FollowsSince (LogStream spec) false F.WriteFault x z
unfinished spec x y z follows same took rose =
    subst (FollowsSince (LogStream spec) false F.WriteFault x) (sym same)
    (ends_unfinished x.who.number spec x.pass y.pass x.sink y.sink z.sink x.clock y.clock follows took rose)

-- ---- both sides

-- under whatever names, since none is told
pub unnamed : {n : ℕ} {l l1 : ℕ × ℕ × ℕ} (k : ℕ) (spec : LogSpec) (f : Followed) (p q : PassView) (u u' : SinkView) (v v' : ClockView)
    → FollowsSince (LogStream spec) false f (view_of k l p u v) (view_of n l1 q u' v') → FollowsLent k spec f p q u u' v v'
unnamed k spec f p q u u' v v' follows = record {
  since = λ lent. record {
    since = λ base extends can.
        let it = follows.since base extends can in
        record {
          moves = it.moves;
          still = it.still;
          quiet = it.quiet;
          whole = it.whole;
          by_end = it.by_end;
          body = it.body;
          sent = it.sent;
          part = it.part;
          tells = it.tells;
          ends = it.ends;
          comes = it.comes;
          pieces = it.pieces;
          taken = it.taken;
          sink = it.sink;
          cause = it.cause;
        };
  };
}

-- under the names that the connection has
pub by_names : (k : ℕ) (lent : ℕ × ℕ × ℕ) (spec : LogSpec) (f : Followed) (p q : PassView) (u u' : SinkView) (v v' : ClockView)
    → FollowsLent k spec f p q u u' v v' → FollowsSince (LogStream spec) false f (view_of k lent p u v) (view_of k lent q u' v')
by_names k lent spec f p q u u' v v' follows = follows.since lent

-- x is the connection, as it is seen from inside, y behind its stream, and z this seen from inside again

may_at : (spec : LogSpec) (x x' : ConnectionView) → x ≡ x' → MayFollow (state_after x'.pass.charter x'.pass.seen) spec
    → MayFollow (state_after x.pass.charter x.pass.seen) spec
may_at spec x x' is may = subst (λ (v : ConnectionView). MayFollow (state_after v.pass.charter v.pass.seen) spec) (sym is) may

pub one_by_one_at : (spec : LogSpec) (end : PumpEnd) (f : Followed) (x x' y z : ConnectionView) (p q : PassView) (ahead : List ℕ) (s s' : SourceView)
    (t twin w : ClockView) → x ≡ x' → IsTrue x'.pass.pair → MayFollow (state_after x'.pass.charter x'.pass.seen) spec
    → IsUndivided x.pass p → HasItsCalls p → HasItsCalls q → t ≡ twin_of x.clock → PumpsInput x.who.number spec end p q ahead s s' t twin
    → FollowsSince (LogStream spec) false f (record x { pass = q }) y → z ≡ y → w ≡ rejoined z.clock twin
    → RunsOver spec f (Some end) x' (record z { clock = w }) ahead s s'
one_by_one_at spec end f x x' y z p q ahead s s' t twin w is pair may alone its its' at pumped follows same joined =
    subst (λ v. RunsOver spec f (Some end) v (record z { clock = w }) ahead s s') is
    (one_by_one x.who.number spec end f x.pass p q z.pass ahead s s' x.sink z.sink x.clock t z.clock twin w
    (subst (λ (v : ConnectionView). IsTrue v.pass.pair) (sym is) pair) (may_at spec x x' is may) alone its its' at joined pumped
    (subst (FollowsSince (LogStream spec) false f (record x { pass = q })) (sym same) follows))

-- the number stays
number_at : (x y z : ConnectionView) → y.who ≡ x.who → z ≡ y → z.who.number ≡ x.who.number
number_at x y z who same = ap (λ (v : ConnectionView). v.who.number) same ∙ ap (λ w. w.number) who

pub is_other_at : (spec : LogSpec) (end : PumpEnd) (f : Followed) (x x' y z : ConnectionView) (q o o2 : PassView) (ahead : List ℕ) (s s' : SourceView)
    (t twin : ClockView) → x ≡ x' → MayFollow (state_after x'.pass.charter x'.pass.seen) spec → Parted x.who.number x.pass q o
    → PumpsInput x.who.number spec end o o2 ahead s s' t twin → FollowsSince (LogStream spec) false f (record x { pass = q }) y → y.who ≡ x.who
    → z ≡ y → IsOther z.who.number z.pass o2
is_other_at spec end f x x' y z q o o2 ahead s s' t twin is may parted pumped follows who same =
    subst (λ k. IsOther k z.pass o2) (sym (number_at x y z who same))
    (is_other x.who.number spec end f x.pass q z.pass o o2 ahead s s' x.sink z.sink x.clock t z.clock twin (may_at spec x x' is may) parted pumped
    (subst (FollowsSince (LogStream spec) false f (record x { pass = q })) (sym same) follows))

pub side_by_side_at : (spec : LogSpec) (end : PumpEnd) (f : Followed) (x x' y z : ConnectionView) (q o o2 r : PassView) (ahead : List ℕ) (s s' : SourceView)
    (t twin w : ClockView) → x ≡ x' → MayFollow (state_after x'.pass.charter x'.pass.seen) spec → Parted x.who.number x.pass q o
    → t ≡ twin_of x.clock → PumpsInput x.who.number spec end o o2 ahead s s' t twin
    → FollowsSince (LogStream spec) false f (record x { pass = q }) y → y.who ≡ x.who → z ≡ y → Rejoined z.who.number z.pass o2 r
    → w ≡ rejoined z.clock twin → RunsOver spec f (Some end) x' (record z { pass = r; clock = w }) ahead s s'
side_by_side_at spec end f x x' y z q o o2 r ahead s s' t twin w is may parted at pumped follows who same joined clock =
    subst (λ v. RunsOver spec f (Some end) v (record z { pass = r; clock = w }) ahead s s') is
    (side_by_side x.who.number spec end f x.pass q o z.pass o2 r ahead s s' x.sink z.sink x.clock t z.clock twin w (may_at spec x x' is may) parted
    (subst (λ k. Rejoined k z.pass o2 r) (number_at x y z who same) joined) at clock pumped
    (subst (FollowsSince (LogStream spec) false f (record x { pass = q })) (sym same) follows))
