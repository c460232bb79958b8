-- A call, by how its command came out.
use Rattle.std.proofs.Common.{◌≡◌, ◌⊎◌, inl, inr, ℕ, List, [], refl, sym, ap, ◌∙◌, subst, Some, None, Result, Ok, Err, Bool, true, false}
use Rattle.std.specs.List.{list_any}
use Rattle.engine_ports.specs.Rose.{Rose}
use Rattle.engine_ports.specs.Source.{SourceView, SourceGave, SourceEnded}
use Rattle.engine_ports.specs.Sink.{SinkView}
use Rattle.engine_ports.specs.Link.{LinkView}
use Rattle.engine_ports.proofs.PortLemmas.{sink_none, sink_on, source_none}
use Rattle.machine_model.specs.History.{Charter}
use Rattle.client_model.specs.Judgement.{Judgement}
use Rattle.client_model.specs.Plans.{Plan, Ends, Asks, Judges, Asked, Done, Fails, nothing}
use Rattle.client_model.specs.Client.{said, said_by, plan_for, IsJudged}
use Rattle.client_model.specs.Lines.{address_in}
use Rattle.client_model.specs.Runs.{Outside, HaveCome, AreLeft, asks_input, InputStands, AreWhole, IsEnded, LacksJudgement, BreaksBehind, missed_by, IsBrokenOff, Runs}
use Rattle.client_model.specs.declared.fault.Fault.{Fault}
use Rattle.client_model.specs.declared.fault.Fault.TheVariants as F
use Rattle.client_exchange.specs.Outputs.{outputs, BothTook}
use Rattle.client_exchange.proofs.OutputLemmas.{both_none, fronts_none}
use Rattle.client_exchange.specs.Exchanges.{Reach}
use Rattle.client_exchange.specs.Walks.{IsAsking, Walked, Walks, Finishes, StopsBefore, Comes, Does}
use Rattle.client_exchange.specs.Feeding.{Feeds, StopsFeeding, DoesBehind, FedDoes, InputFails}
use Rattle.client_exchange.proofs.WalkLemmas.{came_none, left_none}
use Rattle.client_exchange.proofs.FeedLemmas.{with_input}
use Rattle.engine_client.specs.Writing.{PrintsOrLacks}
use Rattle.engine_client.specs.Replaying as replay
use Rattle.engine_client.specs.Running.{outside_of, reach_of, Ran, Tells}
use Rattle.engine_client.proofs.CauseLemmas.{alone_cause}
use Rattle.engine_client.proofs.RunLemmas.{ended, course, broken_off, asks_one, stopped_before, stopped_in, quiet_stop}

-- ---- standard input of a plan

none_read : (v v' : SourceView) → v' ≡ v → SourceGave v [] v'
none_read v v' same = subst (SourceGave v []) (sym same) (source_none v)

quiet_read : (asked : List Asked) (now : Bool) (given : List ℕ) (v v' : SourceView) → list_any (λ a. a.input) asked ≡ false → now ≡ false → v' ≡ v
    → InputStands (list_any (λ a. a.input) asked) now given [] v v'
quiet_read asked now given v v' quiet silent same =
    subst (λ t. InputStands t now given [] v v') (sym quiet) (subst (λ t. InputStands false t given [] v v') (sym silent) (refl, same))

loud_read : (asked : List Asked) (now : Bool) (given input : List ℕ) (v v' : SourceView) → list_any (λ a. a.input) asked ≡ true → SourceEnded v v'
    → InputStands (list_any (λ a. a.input) asked) now given input v v'
loud_read asked now given input v v' loud end = subst (λ t. InputStands t now given input v v') (sym loud) end

part_read : (asked : List Asked) (now : Bool) (given input : List ℕ) (v v' : SourceView) → list_any (λ a. a.input) asked ≡ false → now ≡ true
    → SourceEnded v v' ⊎ (given ≡ []) → InputStands (list_any (λ a. a.input) asked) now given input v v'
part_read asked now given input v v' quiet loud fed =
    subst (λ t. InputStands t now given input v v') (sym quiet) (subst (λ t. InputStands false t given input v v') (sym loud) fed)

-- ---- the command came to its end

module _ (words : List (List ℕ)) (o m : Outside) (asking : IsAsking (plan_for words)) where
  done_so : (status : ℕ) (input : List ℕ) (next : Plan) (p : Reach) (way : Walked (plan_for words) input (reach_of (address_in words) o) next p) → Finishes next (Done status) p (reach_of (address_in words) m)
      → SourceGave o.input input m.input → InputStands (list_any (λ a. a.input) way.asked) false [] input o.input m.input → IsEnded words status o m
  done_so status input next p way f gave reads =
      ended words input next f.written (Done status) status o m p m.err [] asking way f.is f.took f.link gave reads (sink_none m.err) (inl refl) refl

  fails_so : (fault : Fault) (status : ℕ) (e : SinkView) (input : List ℕ) (next : Plan) (p : Reach) (way : Walked (plan_for words) input (reach_of (address_in words) o) next p)
      → Finishes next (Fails fault) p (reach_of (address_in words) m) → SourceGave o.input input m.input
      → InputStands (list_any (λ a. a.input) way.asked) false [] input o.input m.input → Tells words fault status m.err e
      → IsEnded words status o (outside_of m.link m.input m.out e)
  fails_so fault status e input next p way f gave reads tells =
      ended words input next f.written (Fails fault) status o (outside_of m.link m.input m.out e) p m.err tells.part asking way f.is f.took f.link gave reads tells.took tells.line tells.status_is

  -- ---- without input

  does_ok : (status : ℕ) → Does (plan_for words) (Ok status) (reach_of (address_in words) o) (reach_of (address_in words) m) → m.input ≡ o.input → IsEnded words status o m
  does_ok status d same =
      done_so status [] d.next d.between d.walks.way d.comes (none_read o.input m.input same)
      (quiet_read d.walks.way.asked false [] o.input m.input d.walks.quiet refl same)

  comes_err : (fault : Fault) (status : ℕ) (e : SinkView) (next : Plan) (p : Reach) (walks : Walks (plan_for words) (reach_of (address_in words) o) next p) → m.input ≡ o.input
      → Comes next (Err fault) p (reach_of (address_in words) m) → Tells words fault status m.err e → Runs words status o (outside_of m.link m.input m.out e)
  comes_err fault status e next p walks same (inl f) tells =
      inl (fails_so fault status e [] next p walks.way f (none_read o.input m.input same) (quiet_read walks.way.asked false [] o.input m.input walks.quiet refl same) tells)
  comes_err fault status e next p walks same (inr (inl b)) tells =
      inr (stopped_before words [] next fault status o m p e asking walks.way b (none_read o.input m.input same)
      (quiet_read walks.way.asked false [] o.input m.input walks.quiet refl same) tells)
  comes_err fault status e next p walks same (inr (inr b)) tells =
      inr (stopped_in words [] next ⊥ fault status o m p e asking walks.way b.stops (λ never. absurd never) (none_read o.input m.input same)
      (quiet_read walks.way.asked b.stops.asks.asked.input b.stops.exchange.given o.input m.input walks.quiet b.quiet same) tells)

  -- ---- with input

  behind_ok : (status : ℕ) → DoesBehind (plan_for words) (Ok status) o.input m.input (reach_of (address_in words) o) (reach_of (address_in words) m) → IsEnded words status o m
  behind_ok status d =
      done_so status d.feeds.input d.next d.between d.feeds.way d.comes d.feeds.gave
      (loud_read d.feeds.way.asked false [] d.feeds.input o.input m.input d.feeds.loud d.feeds.ended)

  behind_err : (fault : Fault) (status : ℕ) (e : SinkView) (next : Plan) (p : Reach) (feeds : Feeds (plan_for words) o.input m.input (reach_of (address_in words) o) next p)
      → Comes next (Err fault) p (reach_of (address_in words) m) → Tells words fault status m.err e → Runs words status o (outside_of m.link m.input m.out e)
  behind_err fault status e next p feeds (inl f) tells =
      inl (fails_so fault status e feeds.input next p feeds.way f feeds.gave
      (loud_read feeds.way.asked false [] feeds.input o.input m.input feeds.loud feeds.ended) tells)
  behind_err fault status e next p feeds (inr (inl b)) tells =
      inr (stopped_before words feeds.input next fault status o m p e asking feeds.way b feeds.gave
      (loud_read feeds.way.asked false [] feeds.input o.input m.input feeds.loud feeds.ended) tells)
  behind_err fault status e next p feeds (inr (inr b)) tells =
      inr (stopped_in words feeds.input next ⊥ fault status o m p e asking feeds.way (quiet_stop next feeds.input fault p (reach_of (address_in words) m) b) (λ never. absurd never) feeds.gave
      (loud_read feeds.way.asked _ _ feeds.input o.input m.input feeds.loud feeds.ended) tells)

  feeding_err : (fault : Fault) (status : ℕ) (e : SinkView) → StopsFeeding (plan_for words) fault o.input m.input (reach_of (address_in words) o) (reach_of (address_in words) m) → Tells words fault status m.err e
      → Runs words status o (outside_of m.link m.input m.out e)
  unfolding with_input
  feeding_err fault status e s tells =
      inr (stopped_in words s.input s.next (InputFails o.input m.input) fault status o m s.between e asking
      (with_input (plan_for words) s.next s.input (reach_of (address_in words) o) s.between s.walks) s.stops (λ rose. (s.loud, rose)) s.gave
      (part_read s.walks.way.asked s.stops.asks.asked.input s.stops.exchange.given s.input o.input m.input s.walks.quiet s.loud s.fed) tells)

-- ---- with a judgement

module _ (words : List (List ℕ)) (o m : Outside) where
  judged_ok : (status : ℕ) (charter : Charter) (next : Judgement → Plan) → plan_for words ≡ Judges charter next
      → (j : replay.HasJudgement charter next (Ok status) o.input m.input (reach_of (address_in words) o) (reach_of (address_in words) m)) → Finishes (next j.told.judgement) (Done status) (reach_of (address_in words) o) (reach_of (address_in words) m)
      → IsEnded words status o m
  judged_ok status charter next is j f = record {
    xs = [];
    answers = [];
    input = j.input;
    judgement = Some j.told.judgement;
    said = said [] f.written (Some (Done status));
    ending = Done status;
    part = [];
    meets = record {
      came = subst (λ (l : LinkView). HaveCome o.link.coming [] l.coming) (sym f.link) (came_none o.link.coming);
      left = subst (λ (l : LinkView). AreLeft o.link.past [] l.past) (sym f.link) (left_none o.link.past);
      others = ap (λ (l : LinkView). l.addresses) f.link;
      input_gave = j.gave;
    };
    missed = ap (λ (l : LinkView). l.faults) f.link;
    whole = record { judged = subst (λ p. IsJudged p j.input (Some j.told.judgement)) (sym is) j.told.is; answered = tt; sent = refl };
    says = sym (ap (λ p. said_by p (Some j.told.judgement) []) is ∙ ap (λ n. said_by n None []) f.is);
    ended = refl;
    input_read = all_read charter next is j.input j.ended;
    out = f.took.out;
    err = sink_on o.err m.err m.err f.written.err [] f.took.err (sink_none m.err);
    line = inl refl;
    status_is = refl;
  }
    where
      all_read : (charter : Charter) (next : Judgement → Plan) → plan_for words ≡ Judges charter next → (input : List ℕ) → SourceEnded o.input m.input
          → InputStands (asks_input (plan_for words) []) false [] input o.input m.input
      all_read charter next is input end = subst (λ p. InputStands (asks_input p []) false [] input o.input m.input) (sym is) end

  judged_stops : (fault : Fault) (status : ℕ) (e : SinkView) (charter : Charter) (next : Judgement → Plan) → plan_for words ≡ Judges charter next
      → (j : replay.HasJudgement charter next (Err fault) o.input m.input (reach_of (address_in words) o) (reach_of (address_in words) m)) → StopsBefore (next j.told.judgement) fault (reach_of (address_in words) o) (reach_of (address_in words) m)
      → Tells words fault status m.err e → IsBrokenOff words status o (outside_of m.link m.input m.out e)
  judged_stops fault status e charter next is j b tells =
      broken_off words (course [] j.input (Some j.told.judgement) (said_by (next j.told.judgement) None []) b.began.part) fault status o m e
      (subst (HaveCome o.link.coming []) (sym b.missed.coming) (came_none o.link.coming))
      (subst (AreLeft o.link.past []) (sym b.missed.past) (left_none o.link.past))
      b.missed.others
      j.gave (inr (inl behind)) b.began.fronts b.began.took b.missed.faults tells
    where
      behind : BreaksBehind (plan_for words) fault (course [] j.input (Some j.told.judgement) (said_by (next j.told.judgement) None []) b.began.part) o m
      behind = record {
        answers = [];
        done = [];
        more = (said_by (next j.told.judgement) None []).asked;
        whole = record { judged = subst (λ p. IsJudged p j.input (Some j.told.judgement)) (sym is) j.told.is; answered = tt; sent = refl };
        says = sym (ap (λ p. said_by p (Some j.told.judgement) []) is);
        asked = refl;
        input_read = subst (λ p. InputStands (asks_input p []) false [] j.input o.input m.input) (sym is) j.ended;
        wrote = fronts_none b.began.part;
        unfailed = b.unfailed;
        cause =
            alone_cause (next j.told.judgement) fault (course [] j.input (Some j.told.judgement) (said_by (next j.told.judgement) None []) b.began.part) nothing nothing o m (reach_of (address_in words) o) (reach_of (address_in words) m) refl (fronts_none nothing)
            (both_none (outputs o.out o.err)) refl (asks_one (next j.told.judgement) nothing b.began.part b.began.fronts) b.cause;
      }

  -- no judgement came
  unjudged : (fault : Fault) (status : ℕ) (e : SinkView) (charter : Charter) (next : Judgement → Plan) (input : List ℕ) → plan_for words ≡ Judges charter next
      → SourceGave o.input input m.input → reach_of (address_in words) m ≡ reach_of (address_in words) o
      → (fault ≡ F.NoMemory) ⊎ ((fault ≡ F.Input) × Rose o.input.faults m.input.faults) → Tells words fault status m.err e
      → IsBrokenOff words status o (outside_of m.link m.input m.out e)
  unjudged fault status e charter next input is gave same cause tells =
      broken_off words (record { xs = []; input = input; judgement = None; said = said [] nothing None; wrote = nothing }) fault status o m e
      (subst (λ (r : Reach). HaveCome o.link.coming [] r.link.coming) (sym same) (came_none o.link.coming))
      (subst (λ (r : Reach). AreLeft o.link.past [] r.link.past) (sym same) (left_none o.link.past))
      (ap (λ (r : Reach). r.link.addresses) same)
      gave
      (inl (record { judging = ap (λ p. asks_input p []) is; none = refl; unasked = refl; says = sym (ap (λ p. said_by p None []) is); cause = cause }))
      (fronts_none nothing)
      (subst (λ (r : Reach). BothTook (outputs o.out o.err) nothing r.shown) (sym same) (both_none (outputs o.out o.err)))
      (faults_by cause) tells
    where
      faults_by : (fault ≡ F.NoMemory) ⊎ ((fault ≡ F.Input) × Rose o.input.faults m.input.faults) → m.link.faults ≡ missed_by fault o.link.faults
      faults_by (inl lack) = subst (λ f. m.link.faults ≡ missed_by f o.link.faults) (sym lack) (ap (λ (r : Reach). r.link.faults) same)
      faults_by (inr (failed, rose)) = subst (λ f. m.link.faults ≡ missed_by f o.link.faults) (sym failed) (ap (λ (r : Reach). r.link.faults) same)

  unread_cause : (fault : Fault) → replay.ReadingFails fault o.input m.input → (fault ≡ F.NoMemory) ⊎ ((fault ≡ F.Input) × Rose o.input.faults m.input.faults)
  unread_cause F.Input r = inr (refl, r)
  unread_cause F.NoMemory r = inl refl
  unread_cause F.Output r = absurd r
  unread_cause F.Errors r = absurd r
  unread_cause F.Words r = absurd r
  unread_cause F.Answer r = absurd r
  unread_cause F.NoCode r = absurd r
  unread_cause (F.AnswerTo request status) r = absurd r
  unread_cause F.NoCheck r = absurd r
  unread_cause F.EventsGone r = absurd r
  unread_cause F.TooLong r = absurd r
  unread_cause (F.Refused message) r = absurd r
  unread_cause F.Link r = absurd r
  unread_cause F.Connection r = absurd r

  ok_err : (r : Result ℕ Fault) (status : ℕ) (fault : Fault) → r ≡ Ok status → r ≡ Err fault → ⊥
  ok_err r status fault ok err = cc

  same_err : (r : Result ℕ Fault) (a b : Fault) → r ≡ Err a → r ≡ Err b → b ≡ a
  same_err r a b is also = cc

  by_plan_ok : (status : ℕ) (plan : Plan) → plan_for words ≡ plan → replay.Judged plan (Ok status) o.input m.input (reach_of (address_in words) o) (reach_of (address_in words) m) → IsEnded words status o m
  by_plan_ok status (Judges charter next) is (inl j) = by_print j.told.prints
    where
      by_print : PrintsOrLacks (next j.told.judgement) (Ok status) (reach_of (address_in words) o) (reach_of (address_in words) m) → IsEnded words status o m
      by_print (inl f) = judged_ok status charter next is j f
      by_print (inr (never, same)) = absurd (ok_err (Ok status) status F.NoMemory refl never)
  by_plan_ok status (Judges charter next) is (inr u) = absurd (ok_err (Ok status) status u.fault refl u.is)
  by_plan_ok status (Ends w ending) is j = absurd j
  by_plan_ok status (Asks w asked next) is j = absurd j

  by_plan_err : (fault : Fault) (status : ℕ) (e : SinkView) (plan : Plan) → plan_for words ≡ plan
      → replay.Judged plan (Err fault) o.input m.input (reach_of (address_in words) o) (reach_of (address_in words) m) → Tells words fault status m.err e → IsBrokenOff words status o (outside_of m.link m.input m.out e)
  by_plan_err fault status e (Judges charter next) is (inl j) tells = by_print j.told.prints
    where
      by_print : PrintsOrLacks (next j.told.judgement) (Err fault) (reach_of (address_in words) o) (reach_of (address_in words) m)
          → IsBrokenOff words status o (outside_of m.link m.input m.out e)
      by_print (inl b) = judged_stops fault status e charter next is j b.1 tells
      by_print (inr (lack, same)) = unjudged fault status e charter next j.input is j.gave same (inl (same_err (Err F.NoMemory) F.NoMemory fault refl (sym lack))) tells
  by_plan_err fault status e (Judges charter next) is (inr u) tells =
      unjudged fault status e charter next u.unread.0 is u.unread.1 u.unshown
      (unread_cause fault (subst (λ f. replay.ReadingFails f o.input m.input) (same_err (Err fault) fault u.fault refl u.is) u.unread.2)) tells
  by_plan_err fault status e (Ends w ending) is j tells = absurd j
  by_plan_err fault status e (Asks w asked next) is j tells = absurd j

-- ---- a whole call

pub ran_ok : (words : List (List ℕ)) (status : ℕ) (o o' : Outside) → Ran (address_in words) (plan_for words) (Ok status) o o' → Runs words status o o'
ran_ok words status o o' (inl (asking, inl (d, same))) = inl (does_ok words o o' asking status d same)
ran_ok words status o o' (inl (asking, inr (inl d))) = inl (behind_ok words o o' asking status d)
ran_ok words status o o' (inl (asking, inr (inr (fault, is, s)))) = absurd (ok_err words o o' (Ok status) status fault refl is)
ran_ok words status o o' (inr j) = inl (by_plan_ok words o o' status (plan_for words) refl j)

pub ran_err : (words : List (List ℕ)) (fault : Fault) (status : ℕ) (o m : Outside) (e : SinkView) → Ran (address_in words) (plan_for words) (Err fault) o m → Tells words fault status m.err e
    → Runs words status o (outside_of m.link m.input m.out e)
ran_err words fault status o m e (inl (asking, inl (d, same))) tells = comes_err words o m asking fault status e d.next d.between d.walks same d.comes tells
ran_err words fault status o m e (inl (asking, inr (inl d))) tells = behind_err words o m asking fault status e d.next d.between d.feeds d.comes tells
ran_err words fault status o m e (inl (asking, inr (inr (other, is, s)))) tells =
    feeding_err words o m asking fault status e (subst (λ f. StopsFeeding (plan_for words) f o.input m.input (reach_of (address_in words) o) (reach_of (address_in words) m)) (same_err words o m (Err fault) fault other refl is) s) tells
ran_err words fault status o m e (inr j) tells = inr (by_plan_err words o m fault status e (plan_for words) refl j tells)
