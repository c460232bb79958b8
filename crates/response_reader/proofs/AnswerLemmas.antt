-- What the reader answers.
use Rattle.std.proofs.Common.{rules, arith, ◌≡◌, ◌<◌, ◌≤◌, inl, inr, ℕ, List, [], length, ◌++◌, take, drop, min, sym, ap, subst, refl, ◌∙◌, append-nil, take-append-drop, Result, Ok, Err}
use Rattle.std.specs.Result.{IsErrAnd, IsErr}
use Rattle.std.specs.Prelude.{IfOk}
use Rattle.std.proofs.lemmas.List.{length-take-le}
use Rattle.engine_ports.specs.Rose.{Rose, greatest_count}
use Rattle.engine_ports.specs.Source.{SourceView, SourceEnded}
use Rattle.http_edge.specs.Reading.{Fills, Reached}
use Rattle.http_edge.specs.Response.{head_text}
use Rattle.http_edge.specs.declared.head.Head.{Head}
use Rattle.response_reader.specs.Fronts.{NeverHas, IsPartOf}
use Rattle.response_reader.specs.Heads.{IsTextOf, IsHead}
use Rattle.response_reader.specs.Bodies.{Lacks, MayGoOn}
use Rattle.response_reader.specs.Held.{Reading}
use Rattle.response_reader.specs.Reader.{Follows, IsAtHead, IsInBody, IsOpen, HeadSays, BodySays}
use Rattle.response_reader.specs.Steps.{IsRunning, IsPastPiece, IsGiving, missing_in, head_answer, body_answer, end_of, BeginSays, WhySays, GoSays}
use Rattle.response_reader.specs.declared.framing.Left.{Left}
use Rattle.response_reader.specs.declared.framing.Left.TheVariants as left
use Rattle.response_reader.specs.declared.got.Stage.{Stage}
use Rattle.response_reader.specs.declared.got.Stage.TheVariants as stage
use Rattle.response_reader.specs.declared.got.Stopped.{Stopped}
use Rattle.response_reader.specs.declared.got.Stopped.TheVariants as stop
use Rattle.response_reader.specs.declared.got.Answered.{Answered as HeadGot}
use Rattle.response_reader.specs.declared.got.BodyGot.{BodyGot}
use Rattle.response_reader.specs.declared.got.BodyGot.TheVariants as body
use Rattle.response_reader.proofs.StepLemmas.{stands, may_more, taken_ended}

-- ---- the end of the input

pub input_ended : (l : Left) (r : Result BodyGot Stopped) (V old new : Reading) (into : List ℕ) (s t : SourceView) → r ≡ end_of l → V ≡ old → V.stage ≡ stage.Body l → 0 < missing_in l
    → new.stage ≡ V.stage → new.taken ≡ V.taken → new.from ≡ V.from → new.ahead ≡ [] → Fills V.ahead new.ahead s t → SourceEnded s t → GoSays r into old new s t
input_ended l r V old new into s t is same on some stage_is taken_is from_is none f e =
    subst (λ o. GoSays r into o new s t) same (subst (λ x. GoSays x into V new s t) (sym is) (by l on some))
  where
    short : (l : Left) → V.stage ≡ stage.Body l → Reached V.ahead s t (Lacks l) → WhySays stop.CutShort V s t
    short l on lacks = (stands V l on s t Lacks lacks, e)

    may : (l : Left) → 0 < missing_in l → Reached V.ahead s t (MayGoOn l)
    may l some = may_more V l new.ahead s t some none f

    by : (l : Left) → V.stage ≡ stage.Body l → 0 < missing_in l → GoSays (end_of l) into V new s t
    by (left.Sized m) on some = short (left.Sized m) on (may (left.Sized m) some)
    by left.Chunk on some = short left.Chunk on (may left.Chunk some)
    by (left.Piece m) on some = short (left.Piece m) on (may (left.Piece m) some)
    by left.Over on some = short left.Over on (may left.Over some)
    by left.UntilEnd on some = taken_ended V new s t on stage_is taken_is from_is none f e

-- ---- one that has stopped

pub stopped_body : (why : Stopped) (r : BodyGot) (old new : Reading) (into : List ℕ) (s : SourceView) → r ≡ body_answer why → old.stage ≡ stage.Stopped why → IsInBody old.stage → new ≡ old
    → BodySays r into old new s s
stopped_body why r old new into s is on may same = subst (λ x. BodySays x into old new s s) (sym is) (by why on (subst IsInBody on may))
  where
    now : (why : Stopped) → old.stage ≡ stage.Stopped why → new.stage ≡ stage.Stopped why
    now why on = ap (λ r. r.stage) same ∙ on

    by : (why : Stopped) → old.stage ≡ stage.Stopped why → IsInBody (stage.Stopped why) → BodySays (body_answer why) into old new s s
    by (stop.BadHead at) on may = absurd may
    by (stop.BadChunk at) on may = (now (stop.BadChunk at) on, inl (on, same, refl))
    by stop.CutShort on may = (now stop.CutShort on, inl (on, same, refl))
    by stop.ReadFault on may = (now stop.ReadFault on, inl (on, same, refl))

pub stopped_head : (why : Stopped) (r : HeadGot) (old new : Reading) (s : SourceView) → r ≡ head_answer why → old.stage ≡ stage.Stopped why → IsAtHead old.stage → new ≡ old
    → HeadSays r old new s s
stopped_head why r old new s is on may same = subst (λ x. HeadSays x old new s s) (sym is) (by why on (subst IsAtHead on may))
  where
    now : (why : Stopped) → old.stage ≡ stage.Stopped why → new.stage ≡ stage.Stopped why
    now why on = ap (λ r. r.stage) same ∙ on

    by : (why : Stopped) → old.stage ≡ stage.Stopped why → IsAtHead (stage.Stopped why) → HeadSays (head_answer why) old new s s
    by (stop.BadHead at) on may = (now (stop.BadHead at) on, inl (on, same, refl))
    by (stop.BadChunk at) on may = absurd may
    by stop.CutShort on may = (now stop.CutShort on, inl (on, same, refl))
    by stop.ReadFault on may = (now stop.ReadFault on, inl (on, same, refl))

-- ---- one that stops

-- it hadn't before
pub open_by : (st : Stage) → ((why : Stopped) → st ≡ stage.Stopped why → ⊥) → IsOpen st
open_by stage.Head none = tt
open_by (stage.Body l) none = tt
open_by (stage.Stopped why) none = absurd (none why refl)

-- why it stops before a body
abbrev pub StopsHead : Stopped → Reading → SourceView → SourceView → Type 0
StopsHead (stop.BadHead at) V s t = (at ≡ 0) × Reached V.ahead s t (NeverHas IsHead)
StopsHead (stop.BadChunk at) V s t = ⊥
StopsHead stop.CutShort V s t = Reached V.ahead s t (IsPartOf IsHead) × SourceEnded s t
StopsHead stop.ReadFault V s t = Reached V.ahead s t (IsPartOf IsHead) × Rose s.faults t.faults

pub stops_body : (why : Stopped) (r : BodyGot) (old new : Reading) (into : List ℕ) (s t : SourceView) → r ≡ body_answer why → new.stage ≡ stage.Stopped why → IsOpen old.stage → WhySays why old s t
    → BodySays r into old new s t
stops_body why r old new into s t is now may x = subst (λ y. BodySays y into old new s t) (sym is) (by why now x)
  where
    by : (why : Stopped) → new.stage ≡ stage.Stopped why → WhySays why old s t → BodySays (body_answer why) into old new s t
    by (stop.BadHead at) now x = absurd x
    by (stop.BadChunk at) now x = (now, inr (may, x))
    by stop.CutShort now x = (now, inr (may, x))
    by stop.ReadFault now x = (now, inr (may, x))

pub stops_head : (why : Stopped) (r : HeadGot) (V old new : Reading) (s t : SourceView) → V ≡ old → r ≡ head_answer why → new.stage ≡ stage.Stopped why → IsOpen V.stage
    → StopsHead why V s t → HeadSays r old new s t
stops_head why r V old new s t same is now may x = subst (λ o. HeadSays r o new s t) same (subst (λ y. HeadSays y V new s t) (sym is) (by why now x))
  where
    by : (why : Stopped) → new.stage ≡ stage.Stopped why → StopsHead why V s t → HeadSays (head_answer why) V new s t
    by (stop.BadHead at) on x = (on, inr (may, x))
    by (stop.BadChunk at) on x = absurd x
    by stop.CutShort on x = (on, inr (may, x))
    by stop.ReadFault on x = (on, inr (may, x))

-- a step that stopped is passed on
pub passed_on : (r : Result BodyGot Stopped) (why : Stopped) (old new : Reading) (into : List ℕ) (s t : SourceView) → IsErrAnd r (λ e. e ≡ why) → WhySays why old s t → GoSays r into old new s t
passed_on (Ok got) why old new into s t is x = absurd is
passed_on (Err e) why old new into s t is x = subst (λ w. WhySays w old s t) (sym is) x

-- ---- what can be asked for next

pub follows_by : (why : Stopped) (r : HeadGot) (st now : Stage) → r ≡ head_answer why → now ≡ st → IsAtHead st → Follows r now
follows_by why r st now is same at_head = subst (λ n. Follows r n) (sym same) (subst (λ x. Follows x st) (sym is) (by why at_head))
  where
    by : (why : Stopped) → IsAtHead st → Follows (head_answer why) st
    by (stop.BadHead at) may = may
    by (stop.BadChunk at) may = may
    by stop.CutShort may = may
    by stop.ReadFault may = may

pub follows_head : (h : Head) (len : ℕ) (r : HeadGot) (mid new : Reading) → BeginSays h len r mid new → Follows r new.stage
follows_head h len r mid new b = subst (λ x. Follows x new.stage) (sym b.got_is) (subst IsInBody (sym b.stage_is) tt)

-- one in a body hasn't stopped
pub open_running : (st : Stage) → IsRunning st → IsOpen st
open_running stage.Head runs = absurd runs
open_running (stage.Body l) runs = tt
open_running (stage.Stopped why) runs = absurd runs

pub open_past : (st : Stage) → IsPastPiece st → IsOpen st
open_past stage.Head past = absurd past
open_past (stage.Body l) past = tt
open_past (stage.Stopped why) past = absurd past

pub open_giving : (st : Stage) → IsGiving st → IsOpen st
open_giving stage.Head gives = absurd gives
open_giving (stage.Body l) gives = tt
open_giving (stage.Stopped why) gives = absurd gives

pub running_in : (st : Stage) → IsRunning st → IsInBody st
running_in stage.Head runs = absurd runs
running_in (stage.Body l) runs = tt
running_in (stage.Stopped why) runs = absurd runs

pub why_in : (why : Stopped) (old : Reading) (s t : SourceView) → WhySays why old s t → IsInBody (stage.Stopped why)
why_in (stop.BadHead at) old s t x = x
why_in (stop.BadChunk at) old s t x = tt
why_in stop.CutShort old s t x = tt
why_in stop.ReadFault old s t x = tt

pub if_passed : (r : Result BodyGot Stopped) (P : BodyGot → Type 0) → IsErr r → IfOk r P
if_passed (Ok got) P is = absurd (search (rules, is))
if_passed (Err e) P is = tt

-- what the steps told of pieces and the end is what the reader tells
pub goes_body : (got : BodyGot) (old new : Reading) (into : List ℕ) (s t : SourceView) → GoSays (Ok got) into old new s t → BodySays got into old new s t
goes_body (body.Bytes n) old new into s t x = x
goes_body body.End old new into s t x = x
goes_body (body.BadChunk at) old new into s t x = absurd x
goes_body body.CutShort old new into s t x = absurd x
goes_body body.ReadFault old new into s t x = absurd x

-- ---- a head

pub head_taken : (h : Head) (len : ℕ) (r : HeadGot) (V old mid new : Reading) (s t : SourceView) → V ≡ old → IsOpen V.stage → BeginSays h len r mid new → len ≤ length mid.ahead → IsTextOf h (take len mid.ahead)
    → Fills V.ahead mid.ahead s t → HeadSays r old new s t
head_taken h len r V old mid new s t same opens b within is f = subst (λ o. HeadSays r o new s t) same (subst (λ x. HeadSays x V new s t) (sym b.got_is) (
  opens,
  (
    h,
    refl,
    refl,
    record {
      left = b.left;
      stage_is = b.stage_is;
      tells = record { chunks = []; coded = []; fits = is.0; bytes_are = sym (append-nil (head_text h)); carries = b.carries };
      taken_is = b.taken_is ∙ place;
      from_is = b.from_is ∙ place ∙ ap (λ l. min (length l) greatest_count) (sym (append-nil (head_text h)));
    },
    record {
      read = f.read;
      gave = f.gave;
      holds = sym f.grows ∙ sym (take-append-drop len mid.ahead) ∙ ap (λ l. l ++ drop len mid.ahead) is.1 ∙ ap (λ l. head_text h ++ l) (sym b.ahead_is);
    },
  ),
))
  where
    place : len ≡ min (length (head_text h)) greatest_count
    place = omega (arith, length-take-le len mid.ahead within, ap length is.1, b.fits)
