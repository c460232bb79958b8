-- A body that is read piece by piece.
use Rattle.std.proofs.Common.{◌≡◌, ◌<◌, ◌≤◌, inl, inr, ℕ, List, [], ◌++◌, length, take, refl, sym, ap, ◌∙◌, subst, append_assoc, append-nil, Result, Ok, Err, Bool, true, false, arith}
use Rattle.std.specs.Prelude.{nat_lt}
use Rattle.std.proofs.lemmas.Bool.Decides.{nat_tests}
use Rattle.std.proofs.lemmas.List.{length-take-le}
use Rattle.engine_ports.specs.Rose.{Rose}
use Rattle.engine_ports.specs.Source.{SourceView, SourceGave, SourceEnded}
use Rattle.engine_ports.specs.Sink.{IsFront}
use Rattle.engine_ports.proofs.PortLemmas.{source_on, rose_since}
use Rattle.http_edge.specs.declared.head.Head.{Head}
use Rattle.response_reader.specs.Answers.{Answered, IsAnswer, TellsAll}
use Rattle.response_reader.specs.Bodies.{IsWhole}
use Rattle.response_reader.specs.Held.{Reading}
use Rattle.response_reader.specs.Reader.{Gives, OfAll, IsBroken, IsCut, IsUnended, IsAtEnd, Stops, IsOpen, BodySays}
use Rattle.response_reader.specs.declared.framing.Left.{Left}
use Rattle.response_reader.specs.declared.framing.Left.TheVariants as left
use Rattle.response_reader.specs.declared.got.Stage.{Stage}
use Rattle.response_reader.specs.declared.got.Stage.TheVariants as stage
use Rattle.response_reader.specs.declared.got.Stopped.{Stopped}
use Rattle.response_reader.specs.declared.got.Stopped.TheVariants as stop
use Rattle.response_reader.specs.declared.got.BodyGot.TheVariants as body
use Rattle.client_model.specs.Plans.{Written, nothing}
use Rattle.client_model.specs.Runs.{AreFronts}
use Rattle.client_model.specs.declared.fault.Fault.{Fault}
use Rattle.client_model.specs.declared.fault.Fault.TheVariants as F
use Rattle.client_exchange.specs.Outputs.{Outputs, BothTook, OutputsFail, WritesBoth, WasToWrite}
use Rattle.client_model.specs.Streams.{shows, is_unfit}
use Rattle.client_exchange.specs.Taking.{Taken, taken, adds, IfUntaken, after, unfit_by}
use Rattle.client_exchange.specs.Telling.{Stands, Told, ToldSoFar, ReadFails, HadToWrite, FollowSays}
use Rattle.client_model.specs.declared.showing.Showing.{Showing}
use Rattle.client_model.specs.declared.showing.Showing.TheVariants.{Kept, Copied, Demuxed}
use Rattle.client_exchange.proofs.OutputLemmas.{both_none, goes_on, breaks_on, was_behind}
use Rattle.client_exchange.proofs.TakingLemmas.{nothing_shown, taken_on, shown_on, unfit_so, fit_first}

-- ---- what a reader says, of all the bytes of a connection

pub gives_more : (came : SourceView) (h : Head) (b piece : List ℕ) (old new : Reading) (s s' : SourceView)
    → Stands came h b old s → Gives piece old new s s' → Stands came h (b ++ piece) new s'
gives_more came h b piece old new s s' st g = record {
  bytes = st.bytes ++ g.0;
  taken = g.2 st.bytes h b st.taken;
  gave =
      subst (λ l. SourceGave came l s')
      (append_assoc st.bytes old.ahead g.1.read ∙ ap (λ l. st.bytes ++ l) g.1.holds ∙ sym (append_assoc st.bytes g.0 new.ahead))
      (source_on came s s' (st.bytes ++ old.ahead) g.1.read st.gave g.1.gave);
}

-- all bytes, where more came
all_given : (came s s' : SourceView) (bytes ahead read : List ℕ) → SourceGave came (bytes ++ ahead) s → SourceGave s read s' → SourceGave came (bytes ++ (ahead ++ read)) s'
all_given came s s' bytes ahead read a b =
    subst (λ l. SourceGave came l s') (append_assoc bytes ahead read) (source_on came s s' (bytes ++ ahead) read a b)

whole_anyway : (lft : Left) (behind : List ℕ) (ended : Bool) → IsWhole lft behind false → IsWhole lft behind ended
whole_anyway (left.Sized n) behind ended w = w
whole_anyway left.Over behind ended w = w
whole_anyway left.UntilEnd behind ended w = let e = w.1 in absurd (cc)
whole_anyway left.Chunk behind ended w = absurd w
whole_anyway (left.Piece n) behind ended w = absurd w

answered_anyway : (bytes : List ℕ) (ended : Bool) (h : Head) (b : List ℕ) → IsAnswer bytes false (Answered h b true) → IsAnswer bytes ended (Answered h b true)
answered_anyway bytes ended h b (front, behind, lft, is, tells, w) = (front, behind, lft, is, tells, whole_anyway lft behind ended w)

-- an end came in this call
pub has_ended : (came s s' : SourceView) (bytes : List ℕ) → came.ends ≡ 0 → SourceGave came bytes s → SourceEnded s s' → nat_lt came.ends s'.ends ≡ true
has_ended came s s' bytes fresh gave ended = ends ended.rose
  where
    ends : Rose s.ends s'.ends → nat_lt came.ends s'.ends ≡ true
    ends (inl less) = let more : came.ends < s'.ends = omega (arith, fresh) in grind (arith, nat_tests)
    ends (inr top) = let more : came.ends < s'.ends = omega (arith, fresh, top) in grind (arith, nat_tests)

pub end_told : (came : SourceView) (h : Head) (b : List ℕ) (old : Reading) (s s' : SourceView) → came.ends ≡ 0
    → Stands came h b old s → IsAtEnd old s s' → Told false came s' (Answered h b true)
end_told came h b old s s' fresh st (inl all) = record {
  bytes = st.bytes ++ (old.ahead ++ all.read);
  gave = all_given came s s' st.bytes old.ahead all.read st.gave all.gave;
  is = answered_anyway _ (nat_lt came.ends s'.ends) h b (all.holds st.bytes h b st.taken);
}
end_told came h b old s s' fresh st (inr (all, ended)) = record {
  bytes = st.bytes ++ (old.ahead ++ all.read);
  gave = all_given came s s' st.bytes old.ahead all.read st.gave all.gave;
  is = subst (λ t. IsAnswer (st.bytes ++ (old.ahead ++ all.read)) t (Answered h b true)) (sym (has_ended came s s' _ fresh st.gave ended)) (all.holds st.bytes h b st.taken);
}

-- ---- why a reader stops

not_stopped : (lft : Left) (why : Stopped) → stage.Body lft ≡ stage.Stopped why → ⊥
not_stopped lft why e = subst (λ (x : Stage). IsOpen x) e tt

-- it stops in this call
pub stops_now : (came : SourceView) (h : Head) (b : List ℕ) (old new : Reading) (why : Stopped) (s s' : SourceView) (fact : Type 0)
    → Stands came h b old s → Stops old new why s s' fact → fact
stops_now came h b old new why s s' fact st (at, inl before) = absurd (not_stopped st.taken.left why (sym st.taken.stage_is ∙ before.0))
stops_now came h b old new why s s' fact st (at, inr now) = now.1

pub broken_told : (came : SourceView) (h : Head) (b : List ℕ) (at : ℕ) (old : Reading) (s s' : SourceView)
    → Stands came h b old s → OfAll (IsBroken at) old s s' → Told false came s' (Answered h b false)
broken_told came h b at old s s' st all = go (all.holds st.bytes h b st.taken)
  where
    go : IsBroken at h b (st.bytes ++ (old.ahead ++ all.read)) → Told false came s' (Answered h b false)
    go (front, behind, lft, is, tells, breaks, place) = record {
      bytes = st.bytes ++ (old.ahead ++ all.read);
      gave = all_given came s s' st.bytes old.ahead all.read st.gave all.gave;
      is = (front, behind, lft, is, tells, inl breaks);
    }

pub cut_told : (came : SourceView) (h : Head) (b : List ℕ) (old : Reading) (s s' : SourceView) → came.ends ≡ 0
    → Stands came h b old s → OfAll IsCut old s s' → SourceEnded s s' → Told false came s' (Answered h b false)
cut_told came h b old s s' fresh st all ended = go (all.holds st.bytes h b st.taken)
  where
    go : IsCut h b (st.bytes ++ (old.ahead ++ all.read)) → Told false came s' (Answered h b false)
    go (front, behind, lft, is, tells, lacks) = record {
      bytes = st.bytes ++ (old.ahead ++ all.read);
      gave = all_given came s s' st.bytes old.ahead all.read st.gave all.gave;
      is = (front, behind, lft, is, tells, inr (lacks, has_ended came s s' _ fresh st.gave ended));
    }

pub so_far : (came : SourceView) (h : Head) (b : List ℕ) (r : Reading) (s : SourceView) → Stands came h b r s → ToldSoFar came s (Answered h b false)
so_far came h b r s st = record {
  bytes = st.bytes ++ r.ahead;
  gave = st.gave;
  is = (st.bytes, r.ahead, st.taken.left, refl, st.taken.tells);
}

-- and no more
unended_told : (came : SourceView) (h : Head) (b : List ℕ) (old : Reading) (s s' : SourceView)
    → Stands came h b old s → OfAll IsUnended old s s' → (told : ToldSoFar came s' (Answered h b false)) × TellsAll told.bytes (Answered h b false)
unended_told came h b old s s' st all = go (all.holds st.bytes h b st.taken)
  where
    go : IsUnended h b (st.bytes ++ (old.ahead ++ all.read)) → (told : ToldSoFar came s' (Answered h b false)) × TellsAll told.bytes (Answered h b false)
    go (front, behind, lft, is, tells, may) = (
      record {
        bytes = st.bytes ++ (old.ahead ++ all.read);
        gave = all_given came s s' st.bytes old.ahead all.read st.gave all.gave;
        is = (front, behind, lft, is, tells);
      },
      (front, behind, lft, is, tells, may),
    )

-- ---- the loop

-- nothing shows yet that the body can't be taken
fit_so : (showing : Showing) (body : List ℕ) (t : Taken) (unfit : Bool) → t ≡ taken showing body → unfit_by t ≡ unfit → unfit ≡ is_unfit showing body
fit_so showing body t unfit is so = sym so ∙ ap unfit_by is ∙ unfit_so showing body

pub fit_at_first : (t : Taken) → t ≡ taken t.showing [] → unfit_by t ≡ false
fit_at_first t fresh = ap unfit_by fresh ∙ unfit_so t.showing [] ∙ fit_first t.showing

told_fit : (showing : Showing) (unfit : Bool) (came s : SourceView) (h : Head) (body : List ℕ) (whole : Bool) (t : Taken) → t ≡ taken showing body → unfit_by t ≡ unfit
    → Told unfit came s (Answered h body whole) → Told (is_unfit showing body) came s (Answered h body whole)
told_fit showing unfit came s h body whole t is so told =
    subst (λ u. Told u came s (Answered h body whole)) (fit_so showing body t unfit is so) told

pub some_taken : (n : ℕ) (into : List ℕ) → 0 < n → n ≤ length into → 0 < length (take n into)
some_taken n into some within = omega (arith, some, length-take-le n into within)

-- so much of the body was shown
pub record Shown (came : SourceView) (h : Head) (showing : Showing) (r : Reading) (t : Taken) (s : SourceView) (o o' : Outputs) : Type 0 where
  pub so : List ℕ
  pub stands : Stands came h so r s
  pub taken_is : t ≡ taken showing so
  pub took : BothTook o (shows showing so) o'

-- of each connection that stands so at entry
pub Showed : Reading → SourceView → Showing → Reading → Taken → SourceView → Outputs → Outputs → Type 0
Showed r0 s0 showing r t s o o' =
    (came : SourceView) (h : Head) → came.ends ≡ 0 → Stands came h [] r0 s0 → Shown came h showing r t s o o'

pub shown_first : (r : Reading) (s : SourceView) (t : Taken) (o : Outputs) → t ≡ taken t.showing [] → Showed r s t.showing r t s o o
unfolding Showed
shown_first r s t o fresh = λ came h new st. record {
  so = [];
  stands = st;
  taken_is = fresh;
  took = subst (λ w. BothTook o w o) (nothing_shown t.showing) (both_none o);
}

pub shown_more : (r0 : Reading) (s0 : SourceView) (showing : Showing) (r r' : Reading) (t t' : Taken) (s s' : SourceView) (o o' o'' : Outputs) (piece : List ℕ) (x : Unit {0})
    → Showed r0 s0 showing r t s o o' → Gives piece r r' s s' → WritesBoth (Ok x) (adds t piece) o' o'' → t' ≡ after t piece
    → Showed r0 s0 showing r' t' s' o o''
unfolding Showed
shown_more r0 s0 showing r r' t t' s s' o o' o'' piece x before gives writes is = λ came h new st.
    let sh = before came h new st in record {
      so = sh.so ++ piece;
      stands = gives_more came h sh.so piece r r' s s' sh.stands gives;
      taken_is = is ∙ ap (λ (k : Taken). after k piece) sh.taken_is ∙ taken_on showing sh.so piece;
      took =
          subst (λ w. BothTook o w o'') (shown_on showing sh.so piece)
          (goes_on o o' o'' (shows showing sh.so) (adds (taken showing sh.so) piece) x sh.took (subst (λ (k : Taken). WritesBoth (Ok x) (adds k piece) o' o'') sh.taken_is writes));
    }

pub ends_whole : (r0 : Reading) (s0 : SourceView) (showing : Showing) (r r' : Reading) (t : Taken) (s s' : SourceView) (o o' : Outputs) (into : List ℕ)
    → Showed r0 s0 showing r t s o o' → unfit_by t ≡ false → BodySays body.End into r r' s s'
    → (came : SourceView) (h : Head) → came.ends ≡ 0 → Stands came h [] r0 s0 → FollowSays (Ok true) came h showing t s' o o'
unfolding Showed
ends_whole r0 s0 showing r r' t s s' o o' into before fit says came h new st =
    let sh = before came h new st in
    (sh.so, sh.taken_is, told_fit showing false came s' h sh.so true t sh.taken_is fit (end_told came h sh.so r s s' new sh.stands says.2), sh.took)

pub ends_broken : (r0 : Reading) (s0 : SourceView) (showing : Showing) (r r' : Reading) (t : Taken) (s s' : SourceView) (o o' : Outputs) (into : List ℕ) (at : ℕ)
    → Showed r0 s0 showing r t s o o' → unfit_by t ≡ false → BodySays (body.BadChunk at) into r r' s s'
    → (came : SourceView) (h : Head) → came.ends ≡ 0 → Stands came h [] r0 s0 → FollowSays (Ok false) came h showing t s' o o'
unfolding Showed
ends_broken r0 s0 showing r r' t s s' o o' into at before fit says came h new st =
    let sh = before came h new st in
    (sh.so, sh.taken_is, told_fit showing false came s' h sh.so false t sh.taken_is fit (broken_told came h sh.so at r s s' sh.stands (stops_now came h sh.so r r' (stop.BadChunk at) s s' _ sh.stands says)), sh.took)

pub ends_cut : (r0 : Reading) (s0 : SourceView) (showing : Showing) (r r' : Reading) (t : Taken) (s s' : SourceView) (o o' : Outputs) (into : List ℕ)
    → Showed r0 s0 showing r t s o o' → unfit_by t ≡ false → BodySays body.CutShort into r r' s s'
    → (came : SourceView) (h : Head) → came.ends ≡ 0 → Stands came h [] r0 s0 → FollowSays (Ok false) came h showing t s' o o'
unfolding Showed
ends_cut r0 s0 showing r r' t s s' o o' into before fit says came h new st =
    let sh = before came h new st in
    let cut = stops_now came h sh.so r r' stop.CutShort s s' _ sh.stands says in
    (sh.so, sh.taken_is, told_fit showing false came s' h sh.so false t sh.taken_is fit (cut_told came h sh.so r s s' new sh.stands cut.0 cut.1), sh.took)

pub ends_unfit : (r0 : Reading) (s0 : SourceView) (showing : Showing) (r : Reading) (t : Taken) (s : SourceView) (o o' : Outputs)
    → Showed r0 s0 showing r t s o o' → unfit_by t ≡ true
    → (came : SourceView) (h : Head) → came.ends ≡ 0 → Stands came h [] r0 s0 → FollowSays (Ok false) came h showing t s o o'
unfolding Showed
ends_unfit r0 s0 showing r t s o o' before unfit came h new st =
    let sh = before came h new st in
    (sh.so, sh.taken_is, told_fit showing true came s h sh.so false t sh.taken_is unfit (told_so came h sh.so r s sh.stands), sh.took)
  where
    told_so : (came : SourceView) (h : Head) (b : List ℕ) (r : Reading) (s : SourceView) → Stands came h b r s → Told true came s (Answered h b false)
    told_so came h b r s st = let far = so_far came h b r s st in record { bytes = far.bytes; gave = far.gave; is = far.is }

front_whole : (bytes : List ℕ) → IsFront bytes bytes
front_whole bytes = ([], append-nil bytes)

pub ends_failed : (r0 : Reading) (s0 : SourceView) (showing : Showing) (r r' : Reading) (t : Taken) (s s' : SourceView) (o o' : Outputs) (into : List ℕ)
    → Showed r0 s0 showing r t s o o' → unfit_by t ≡ false → BodySays body.ReadFault into r r' s s'
    → (came : SourceView) (h : Head) → came.ends ≡ 0 → Stands came h [] r0 s0 → FollowSays (Err F.Connection) came h showing t s' o o'
unfolding Showed
ends_failed r0 s0 showing r r' t s s' o o' into before fit says came h new st =
    let sh = before came h new st in
    let cut = stops_now came h sh.so r r' stop.ReadFault s s' _ sh.stands says in
    let told = unended_told came h sh.so r s s' sh.stands cut.0 in (
      sh.so,
      told.0,
      record {
        part = shows showing sh.so;
        fronts = record { out = front_whole (shows showing sh.so).out; err = front_whole (shows showing sh.so).err };
        took = sh.took;
      },
      rose_since came.faults s.faults s'.faults sh.stands.gave.faults cut.1,
      tt,
      λ connection. (told.1, sym (fit_so showing sh.so t false sh.taken_is fit), refl),
    )

outputs_fail : (fault : Fault) (came s : SourceView) (o o' : Outputs) → OutputsFail fault o o' → ReadFails fault came s o o'
outputs_fail F.Output came s o o' r = r
outputs_fail F.Errors came s o o' r = r
outputs_fail F.NoMemory came s o o' r = r
outputs_fail F.Words came s o o' r = absurd r
outputs_fail F.Input came s o o' r = absurd r
outputs_fail F.Answer came s o o' r = absurd r
outputs_fail F.NoCode came s o o' r = absurd r
outputs_fail (F.AnswerTo request status) came s o o' r = absurd r
outputs_fail F.NoCheck came s o o' r = absurd r
outputs_fail F.EventsGone came s o o' r = absurd r
outputs_fail F.TooLong came s o o' r = absurd r
outputs_fail (F.Refused message) came s o o' r = absurd r
outputs_fail F.Link came s o o' r = absurd r
outputs_fail F.Connection came s o o' r = absurd r

-- what was to be written of a body that wasn't taken
had_more : (showing : Showing) (body piece : List ℕ) (fault : Fault) → IfUntaken (Err fault) (taken showing body).showing (adds (taken showing body) piece)
    → HadToWrite fault (shows showing (body ++ piece))
had_more showing body piece fault (inl (kept, lack)) = by showing kept
  where
    memory : fault ≡ F.NoMemory
    memory = same_err (Err fault) fault F.NoMemory refl lack
      where
        same_err : (r : Result (Unit {0}) Fault) (a b : Fault) → r ≡ Err a → r ≡ Err b → a ≡ b
        same_err r a b is also = cc

    by : (showing : Showing) → (taken showing body).showing ≡ Kept → HadToWrite fault (shows showing (body ++ piece))
    by Kept kept = subst (λ f. HadToWrite f nothing) (sym memory) refl
    by Copied kept = absurd (other kept)
      where
        other : Copied ≡ Kept → ⊥
        other e = cc
    by Demuxed kept = absurd (other kept)
      where
        other : Demuxed ≡ Kept → ⊥
        other e = cc
had_more showing body piece fault (inr was) =
    had_by fault (shows showing (body ++ piece)) (subst (WasToWrite fault) (shown_on showing body piece) (was_behind fault (shows showing body) (adds (taken showing body) piece) was))
  where
    had_by : (fault : Fault) (w : Written) → WasToWrite fault w → HadToWrite fault w
    had_by F.Output w was = was
    had_by F.Errors w was = was
    had_by F.NoMemory w was = absurd was
    had_by F.Words w was = absurd was
    had_by F.Input w was = absurd was
    had_by F.Answer w was = absurd was
    had_by F.NoCode w was = absurd was
    had_by (F.AnswerTo request status) w was = absurd was
    had_by F.NoCheck w was = absurd was
    had_by F.EventsGone w was = absurd was
    had_by F.TooLong w was = absurd was
    had_by (F.Refused message) w was = absurd was
    had_by F.Link w was = absurd was
    had_by F.Connection w was = absurd was

pub ends_unwritten : (r0 : Reading) (s0 : SourceView) (showing : Showing) (r r' : Reading) (t t' : Taken) (s s' : SourceView) (o o' o'' : Outputs) (piece : List ℕ) (fault : Fault)
    → Showed r0 s0 showing r t s o o' → Gives piece r r' s s' → WritesBoth (Err fault) (adds t piece) o' o'' → IfUntaken (Err fault) t.showing (adds t piece)
    → (came : SourceView) (h : Head) → came.ends ≡ 0 → Stands came h [] r0 s0 → FollowSays (Err fault) came h showing t' s' o o''
unfolding Showed
ends_unwritten r0 s0 showing r r' t t' s s' o o' o'' piece fault before gives writes untaken came h new st =
    let sh = before came h new st in
    let broke = breaks_on o o' o'' (shows showing sh.so) (adds (taken showing sh.so) piece) fault sh.took (subst (λ (k : Taken). WritesBoth (Err fault) (adds k piece) o' o'') sh.taken_is writes) in (
      sh.so ++ piece,
      so_far came h (sh.so ++ piece) r' s' (gives_more came h sh.so piece r r' s s' sh.stands gives),
      record { part = broke.0.part; fronts = subst (AreFronts broke.0.part) (shown_on showing sh.so piece) broke.0.fronts; took = broke.0.took },
      outputs_fail fault came s' o o'' broke.1,
      had_more showing sh.so piece fault (subst (λ (k : Taken). IfUntaken (Err fault) k.showing (adds k piece)) sh.taken_is untaken),
      λ connection. absurd (subst (λ f. OutputsFail f o o'') connection broke.1),
    )
