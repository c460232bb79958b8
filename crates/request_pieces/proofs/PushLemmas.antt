-- What a push tells.
use Rattle.std.proofs.Common.{arith, ◌≡◌, inl, inr, ℕ, List, [], length, ◌+◌, ◌-◌, ◌++◌, take, sym, ap, subst, refl, ◌∙◌, length-append, length-take}
use Rattle.std.specs.Prelude.{Bool, true, false, min, None, Some, IsSome}
use Rattle.httparse.specs.declared.spans.RequestSpans.{RequestSpans}
use Rattle.http_edge.specs.Refusal.{AwaitsMore, IsUnfinished}
use Rattle.http_edge.specs.Spelling.{Begins}
use Rattle.http_edge.specs.Shown.{IsShown}
use Rattle.request_pieces.specs.Standing.{HasTaken}
use Rattle.request_pieces.specs.Reading.{IsSound, CanShow, ShowsNone}
use Rattle.request_pieces.specs.declared.taking.Intake.{Intake}
use Rattle.request_pieces.specs.declared.reader.PieceReader.TheInside.{Inside}
use Rattle.request_pieces.specs.Taking.{TakenSays, stored_at}
use Rattle.request_pieces.specs.Begun.{Begun}
use Rattle.request_pieces.specs.Pushing.{CanBeTold, PushFrom, PushSays, shown_in, counted_in}
use Rattle.request_pieces.specs.declared.reader.Shown.{Shown}
use Rattle.request_pieces.specs.declared.reader.Pushed.{Pushed}
use Rattle.request_pieces.specs.declared.reader.Pushed.TheVariants.{Request as Tells, More, End, Bad, CutShort}
use Rattle.request_pieces.specs.declared.taking.Taken.TheVariants as taken
use Rattle.request_pieces.proofs.BodyLemmas.{no_bytes}

-- as its caller sees it
abbrev pub seen : Inside → Begun
seen r = record { intake = r.intake; shown = r.shown; taken = r.taken; stopped = r.stopped }

-- a push to a reader that hasn't stopped
module _ (old new : Inside) (now : Begun) (view : seen old ≡ now) (reads : old.stopped ≡ None) (piece : List ℕ) (end : Bool) where
  tells : (told : Pushed) → CanBeTold told new.shown piece → PushFrom None (seen old) (seen new) piece end told → PushSays now (seen new) piece end told
  tells told can from =
      subst (λ o. PushSays o (seen new) piece end told) view
      (can, subst (λ o. PushFrom o (seen old) (seen new) piece end told) (sym reads) from)

  pub push_request : (bytes : List ℕ) (r : RequestSpans) (count used : ℕ) (s : Shown) → HasTaken old.intake bytes → TakenSays (taken.Request r count used) old.intake new.intake piece
      → new.shown ≡ Some s → s.found ≡ r → s.coded ≡ count - r.len → new.taken ≡ min (old.taken + count) 18446744073709551615 → new.stopped ≡ None
      → PushSays now (seen new) piece end (Tells used)
  push_request bytes r count used s held says shown found coded place stopped =
      tells (Tells used) (subst (λ o. IsSome o) (sym shown) refl, (says bytes held).0) (
        stopped,
        λ more h.
            let t = says more h in
            let most = t.0 in
            let counts = t.1 in
            let shows = t.2 in
            let fits = shows.2 in
            let least = shows.3 in
            let len : s.found.len ≡ r.len = ap (λ q. q.len) found in
            let count_is : s.found.len + s.coded ≡ min (0 + (length more + used)) 18446744073709551615 =
            omega (arith, counts, coded, len, least, fits, most, length-append more (take used piece), length-take used piece) in (
              subst (λ o. Begins (more ++ take used piece) (shown_in o new.intake.buffers) []) (sym shown)
                  (subst (λ q. Begins (more ++ take used piece) (stored_at new.intake.buffers q) []) (sym found) shows.1),
              t.3,
              omega (arith, place, counts),
              ap counted_in shown ∙ count_is,
            ),
      )

  pub push_bad : (status at : ℕ) → TakenSays (taken.Refused status) old.intake new.intake piece → new.shown ≡ None → new.stopped ≡ Some (Bad status at) → at ≡ old.taken
      → new.taken ≡ old.taken → PushSays now (seen new) piece end (Bad status at)
  push_bad status at says shown stopped place stays = tells (Bad status at) shown (stopped, λ more h. let t = says more h in (t.0, place, stays))

  -- less than a request was taken
  module _ (says : TakenSays taken.Awaits old.intake new.intake piece) (shown : new.shown ≡ None) (place : new.taken ≡ old.taken) where
    pub push_more : end ≡ false → new.stopped ≡ None → PushSays now (seen new) piece end More
    push_more on stopped = tells More shown (stopped, λ more h. (on, says more h, place))

    pub push_end : end ≡ true → new.intake.count ≡ 0 → new.stopped ≡ None → PushSays now (seen new) piece end End
    push_end last none stopped =
        tells End shown (
          stopped,
          λ more h.
              let t = says more h in
              let counts = t.count in
              let empty : more ++ piece ≡ [] = no_bytes (more ++ piece) (omega (arith, none, counts)) in
              (last, empty, subst (HasTaken new.intake) empty t, place),
        )

    unfinished : (bytes : List ℕ) → (new.intake.count ≡ 0 → ⊥) → HasTaken new.intake bytes → AwaitsMore bytes → IsUnfinished bytes
    unfinished bytes some t (inl none) = let counts = t.count in absurd (some (omega (arith, counts, ap length none)))
    unfinished bytes some t (inr part) = part

    pub push_cut : end ≡ true → (new.intake.count ≡ 0 → ⊥) → new.stopped ≡ Some CutShort → PushSays now (seen new) piece end CutShort
    push_cut last some stopped =
        tells CutShort shown (stopped, λ more h. let t = says more h in (last, unfinished (more ++ piece) some t t.awaits, place))

-- behind a push each request can be shown
module _ (old : Intake) (new : Inside) (piece bytes : List ℕ) (held : HasTaken old bytes) where
  pub sound_request : (r : RequestSpans) (count used : ℕ) (s : Shown) → TakenSays (taken.Request r count used) old new.intake piece → new.shown ≡ Some s → s.found ≡ r
      → new.stopped ≡ None → IsSound new
  sound_request r count used s says shown found stopped =
      let t = says bytes held in
      record {
        bytes = [];
        taken = t.3;
        shows = subst (λ o. CanShow o new.intake.buffers) (sym shown)
            (subst (λ q. IsShown (take q.len new.intake.buffers.head) new.intake.buffers.spans q) (sym found) t.2.0);
        stops = subst (λ o. ShowsNone o new.shown) (sym stopped) tt;
      }

  pub sound_bad : (status at : ℕ) → TakenSays (taken.Refused status) old new.intake piece → new.shown ≡ None → new.stopped ≡ Some (Bad status at) → IsSound new
  sound_bad status at says shown stopped =
      let t = says bytes held in
      record {
        bytes = [];
        taken = t.1;
        shows = subst (λ o. CanShow o new.intake.buffers) (sym shown) tt;
        stops = subst (λ o. ShowsNone o new.shown) (sym stopped) shown;
      }

  sound_on : TakenSays taken.Awaits old new.intake piece → new.shown ≡ None → ShowsNone new.stopped new.shown → IsSound new
  sound_on says shown stops =
      record { bytes = bytes ++ piece; taken = says bytes held; shows = subst (λ o. CanShow o new.intake.buffers) (sym shown) tt; stops = stops }

  pub sound_more : TakenSays taken.Awaits old new.intake piece → new.shown ≡ None → new.stopped ≡ None → IsSound new
  sound_more says shown stopped = sound_on says shown (subst (λ o. ShowsNone o new.shown) (sym stopped) tt)

  pub sound_cut : TakenSays taken.Awaits old new.intake piece → new.shown ≡ None → new.stopped ≡ Some CutShort → IsSound new
  sound_cut says shown stopped = sound_on says shown (subst (λ o. ShowsNone o new.shown) (sym stopped) shown)
