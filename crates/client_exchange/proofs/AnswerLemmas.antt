-- An answer, by its head.
use Rattle.std.proofs.Common.{◌≡◌, ◌<◌, ◌≤◌, inl, inr, ℕ, List, [], ◌++◌, refl, sym, ap, ◌∙◌, subst, Option, Some, None, Ok, Err, Bool, true, false, arith}
use Rattle.std.proofs.lemmas.Bool.Decides.{nat_tests}
use Rattle.std.specs.Prelude.{nat_lt, if◌then◌else◌}
use Rattle.engine_ports.specs.Source.{SourceView, SourceGave}
use Rattle.engine_ports.proofs.PortLemmas.{source_none}
use Rattle.http_edge.specs.Response.{head_text}
use Rattle.http_edge.specs.Reading.{Reached}
use Rattle.http_edge.specs.declared.head.Head.{Head}
use Rattle.response_reader.specs.Answers.{NoHead, Answered}
use Rattle.response_reader.specs.Fronts.{NeverHas, IsPartOf}
use Rattle.response_reader.specs.Heads.{IsHead, first_in}
use Rattle.response_reader.specs.Held.{Reading}
use Rattle.response_reader.specs.Reader.{IsOpen, Stops, HeadSays}
use Rattle.response_reader.specs.declared.got.Stage.{Stage}
use Rattle.response_reader.specs.declared.got.Stage.TheVariants as stage
use Rattle.response_reader.specs.declared.got.Stopped.{Stopped}
use Rattle.response_reader.specs.declared.got.Stopped.TheVariants as stop
use Rattle.response_reader.specs.declared.got.Answered.TheVariants as head
use Rattle.client_model.specs.Plans.{Written, nothing, refuses, fails}
use Rattle.client_model.specs.Runs.{AreFronts, shows_unfit}
use Rattle.client_model.specs.Streams.{shows, is_unfit}
use Rattle.client_model.specs.declared.fault.Fault.{Fault}
use Rattle.client_model.specs.declared.fault.Fault.TheVariants as F
use Rattle.client_exchange.specs.Outputs.{Outputs, BothBegan}
use Rattle.client_exchange.specs.Taking.{Taken, taken}
use Rattle.client_exchange.specs.Telling.{Stands, Told, ToldSoFar, ReadFails, HadToWrite, FollowSays, Refuses, answer_shows, unread_answer, FaultSays, Goes, IsRefused, BreaksOff, RefusalSays, AnswerSays}
use Rattle.client_model.specs.declared.showing.Showing.{Showing}
use Rattle.client_model.specs.declared.showing.Showing.TheVariants.{Kept}
use Rattle.client_exchange.proofs.OutputLemmas.{both_none, fronts_none}
use Rattle.client_exchange.proofs.FollowLemmas.{has_ended}

-- ---- statuses

pub below : (status n : ℕ) → status ≡ n → status < 400 → nat_lt n 400 ≡ true
below status n is less = ap (λ m. nat_lt m 400) (sym is) ∙ so
  where
    so : nat_lt status 400 ≡ true
    so = grind (arith, nat_tests)

pub above : (status n : ℕ) → status ≡ n → 400 ≤ status → nat_lt n 400 ≡ false
above status n is more = ap (λ m. nat_lt m 400) (sym is) ∙ so
  where
    so : nat_lt status 400 ≡ false
    so = grind (arith, nat_tests)

-- ---- a head

-- behind a head, no byte of its body was read
pub head_stands : (old new : Reading) (s s' : SourceView) (h : Head) → old ≡ unread_answer
    → (r : Reached old.ahead s s' (λ bytes. bytes ≡ head_text h ++ new.ahead)) → Rattle.response_reader.specs.Reader.HasTaken (head_text h) h [] new
    → Stands s h [] new s'
head_stands old new s s' h is r taken = record {
  bytes = head_text h;
  taken = taken;
  gave = subst (λ l. SourceGave s l s') (ap (λ (o : Reading). o.ahead ++ r.read) (sym is) ∙ r.holds) r.gave;
}

not_stopped : (old : Reading) (why : Stopped) → old ≡ unread_answer → old.stage ≡ stage.Stopped why → ⊥
not_stopped old why is e = subst (λ (x : Stage). IsOpen x) (ap (λ (o : Reading). o.stage) (sym is) ∙ e) tt

stops_now : (old new : Reading) (why : Stopped) (s s' : SourceView) (fact : Type 0) → old ≡ unread_answer → Stops old new why s s' fact → fact
stops_now old new why s s' fact is (at, inl before) = absurd (not_stopped old why is before.0)
stops_now old new why s s' fact is (at, inr now) = now.1

-- the bytes that came
given : (P : List ℕ → Type 0) (old : Reading) (s s' : SourceView) → old ≡ unread_answer → (r : Reached old.ahead s s' P) → P r.read
given P old s s' is r = subst P (ap (λ (o : Reading). o.ahead ++ r.read) is) r.holds

no_head : (showing : Showing) (s s' : SourceView) (o : Outputs) → Told false s s' NoHead → IsRefused F.Answer None showing s s' o o
no_head showing s s' o told = record { answer = NoHead; has = refl; told = told; refuses = λ next. refl; took = both_none o }

pub bad_head : (showing : Showing) (at : ℕ) (old new : Reading) (s s' : SourceView) (o : Outputs) → old ≡ unread_answer → HeadSays (head.BadHead at) old new s s' → IsRefused F.Answer None showing s s' o o
bad_head showing at old new s s' o is says =
    let now = stops_now old new (stop.BadHead at) s s' _ is says in
    no_head showing s s' o (record { bytes = now.1.read; gave = now.1.gave; is = inl (given (NeverHas IsHead) old s s' is now.1) })

pub cut_head : (showing : Showing) (old new : Reading) (s s' : SourceView) (o : Outputs) → s.ends ≡ 0 → old ≡ unread_answer → HeadSays head.CutShort old new s s' → IsRefused F.Answer None showing s s' o o
cut_head showing old new s s' o fresh is says =
    let now = stops_now old new stop.CutShort s s' _ is says in
    no_head showing s s' o (record {
      bytes = now.0.read;
      gave = now.0.gave;
      is = inr (given (IsPartOf IsHead) old s s' is now.0, has_ended s s s' [] fresh (source_none s) now.1);
    })

pub head_failed : (showing : Showing) (old new : Reading) (s s' : SourceView) (o : Outputs) → old ≡ unread_answer → HeadSays head.ReadFault old new s s' → BreaksOff F.Connection showing s s' o o
head_failed showing old new s s' o is says =
    let now = stops_now old new stop.ReadFault s s' _ is says in record {
      answer = NoHead;
      told = record { bytes = now.0.read; gave = now.0.gave; is = given (IsPartOf IsHead) old s s' is now.0 };
      began = record { part = nothing; fronts = fronts_none nothing; took = both_none o };
      cause = now.1;
      had = tt;
      all = λ connection. (given (IsPartOf IsHead) old s s' is now.0, refl, refl);
    }

-- ---- a body

shown_below : (showing : Showing) (h : Head) (body : List ℕ) (whole : Bool) → nat_lt h.status 400 ≡ true → shows showing body ≡ answer_shows showing (Answered h body whole)
shown_below showing h body whole less = ap (λ t. if t then shows showing body else nothing) (sym less)

shown_above : (showing : Showing) (h : Head) (body : List ℕ) (whole : Bool) → nat_lt h.status 400 ≡ false → nothing ≡ answer_shows showing (Answered h body whole)
shown_above showing h body whole more = ap (λ t. if t then shows showing body else nothing) (sym more)

unfit_below : (showing : Showing) (h : Head) (body : List ℕ) (whole : Bool) → nat_lt h.status 400 ≡ true → is_unfit showing body ≡ shows_unfit showing (Answered h body whole)
unfit_below showing h body whole less = ap (λ t. is_unfit (if t then showing else Kept) body) (sym less)

unfit_above : (showing : Showing) (h : Head) (body : List ℕ) (whole : Bool) → nat_lt h.status 400 ≡ false → is_unfit Kept body ≡ shows_unfit showing (Answered h body whole)
unfit_above showing h body whole more = ap (λ t. is_unfit (if t then showing else Kept) body) (sym more)

-- the same part of it was written
abbrev began_as : (o o' : Outputs) (w v : Written) → w ≡ v → BothBegan o w o' → BothBegan o v o'
began_as o o' w v is b = record { part = b.part; fronts = subst (AreFronts b.part) is b.fronts; took = b.took }

memory_connection : F.NoMemory ≡ F.Connection → ⊥
memory_connection e = cc

pub goes : (h : Head) (status : ℕ) (first : Option ℕ) (whole : Bool) (showing : Showing) (t : Taken) (came s : SourceView) (o o' : Outputs)
    → nat_lt h.status 400 ≡ true → status ≡ h.status → first ≡ first_in h.form → FollowSays (Ok whole) came h showing t s o o'
    → Goes (record { status = status; first = first; whole = whole }) showing t came s o o'
goes h status first whole showing t came s o o' less has is (body, kept, told, took) = record {
  head = h;
  body = body;
  below = less;
  status = has;
  first = is;
  kept = kept;
  told = subst (λ u. Told u came s (Answered h body whole)) (unfit_below showing h body whole less) told;
  took = took;
}

pub breaks_off : (h : Head) (fault : Fault) (showing : Showing) (t : Taken) (came s : SourceView) (o o' : Outputs)
    → nat_lt h.status 400 ≡ true → FollowSays (Err fault) came h showing t s o o' → BreaksOff fault showing came s o o'
breaks_off h fault showing t came s o o' less (body, told, began, cause, had, all) = record {
  answer = Answered h body false;
  told = told;
  began = began_as o o' (shows showing body) (answer_shows showing (Answered h body false)) (shown_below showing h body false less) began;
  cause = cause;
  had = subst (HadToWrite fault) (shown_below showing h body false less) had;
  all = λ connection. let counted = all connection in (counted.0, sym (unfit_below showing h body false less) ∙ counted.1, counted.2 ∙ shown_below showing h body false less);
}

-- by an answer that refuses, every command fails so
refuses_so : (h : Head) (body : List ℕ) (whole : Bool) (fault : Fault) → nat_lt h.status 400 ≡ false → refuses body whole ≡ fails fault → Refuses (Answered h body whole) fault
refuses_so h body whole fault more is = λ next. ap (λ t. if t then next h body whole else refuses body whole) more ∙ is

told_less : (unfit : Bool) (came s : SourceView) (h : Head) (body : List ℕ) (whole : Bool) → Told unfit came s (Answered h body whole) → ToldSoFar came s (Answered h body false)
told_less false came s h body whole t =
    record { bytes = t.bytes; gave = t.gave; is = (t.is.0, t.is.1, t.is.2, t.is.3, t.is.4) }
told_less true came s h body false t = record { bytes = t.bytes; gave = t.gave; is = t.is }
told_less true came s h body true t = absurd t.is

refused_so : (h : Head) (whole : Bool) (fault : Fault) (t : Taken) (kept : List ℕ) (came s : SourceView) (o o' : Outputs) → nat_lt h.status 400 ≡ false
    → FollowSays (Ok whole) came h Kept t s o o' → kept ≡ t.kept → FaultSays fault whole kept → RefusalSays fault (Some h.status) came s o o'
refused_so h whole fault t kept came s o o' more (body, is, told, took) same (inl memory) = λ showing.
    inr (record {
      answer = Answered h body false;
      told = told_less (is_unfit Kept body) came s h body whole told;
      began = record { part = nothing; fronts = fronts_none (answer_shows showing (Answered h body false)); took = took };
      cause = subst (λ f. ReadFails f came s o o') (sym memory) tt;
      had = subst (λ f. HadToWrite f (answer_shows showing (Answered h body false))) (sym memory) (sym (shown_above showing h body false more));
      all = λ connection. absurd (memory_connection (sym memory ∙ connection));
    })
refused_so h whole fault t kept came s o o' more (body, is, told, took) same (inr tells) = λ showing.
    let bytes : kept ≡ body = same ∙ ap (λ (k : Taken). k.kept) is in
    inl (record {
      answer = Answered h body whole;
      has = refl;
      told = subst (λ u. Told u came s (Answered h body whole)) (unfit_above showing h body whole more) told;
      refuses = refuses_so h body whole fault more (ap (λ l. refuses l whole) (sym bytes) ∙ tells);
      took = took;
    })

pub refused : (h : Head) (whole : Bool) (fault : Fault) (showing : Showing) (t : Taken) (kept : List ℕ) (came s : SourceView) (o o' : Outputs) → showing ≡ Kept
    → nat_lt h.status 400 ≡ false → FollowSays (Ok whole) came h showing t s o o' → kept ≡ t.kept → FaultSays fault whole kept → RefusalSays fault (Some h.status) came s o o'
refused h whole fault showing t kept came s o o' is more says =
    refused_so h whole fault t kept came s o o' more (subst (λ k. FollowSays (Ok whole) came h k t s o o') is says)

failed_so : (h : Head) (fault : Fault) (t : Taken) (came s : SourceView) (o o' : Outputs) → nat_lt h.status 400 ≡ false
    → FollowSays (Err fault) came h Kept t s o o' → RefusalSays fault (Some h.status) came s o o'
failed_so h fault t came s o o' more (body, told, began, cause, had, all) = λ showing.
    inr (record {
      answer = Answered h body false;
      told = told;
      began = began_as o o' nothing (answer_shows showing (Answered h body false)) (shown_above showing h body false more) began;
      cause = cause;
      had = subst (HadToWrite fault) (shown_above showing h body false more) had;
      all = λ connection.
          let counted = all connection in
          (counted.0, sym (unfit_above showing h body false more) ∙ counted.1, counted.2 ∙ shown_above showing h body false more);
    })

pub refused_failed : (h : Head) (fault : Fault) (showing : Showing) (t : Taken) (came s : SourceView) (o o' : Outputs) → showing ≡ Kept
    → nat_lt h.status 400 ≡ false → FollowSays (Err fault) came h showing t s o o' → RefusalSays fault (Some h.status) came s o o'
refused_failed h fault showing t came s o o' is more says =
    failed_so h fault t came s o o' more (subst (λ k. FollowSays (Err fault) came h k t s o o') is says)

-- what a refusal says of any showing
pub refusal_says : (fault : Fault) (status n : ℕ) (showing : Showing) (t : Taken) (came s : SourceView) (o o' : Outputs) → status ≡ n
    → RefusalSays fault (Some n) came s o o' → AnswerSays (Err (record { fault = fault; status = Some status })) showing t came s o o'
refusal_says fault status n showing t came s o o' is says =
    subst (λ m. AnswerSays (Err (record { fault = fault; status = Some m })) showing t came s o o') (sym is) (says showing)
