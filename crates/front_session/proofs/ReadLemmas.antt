-- What a front does with its connection.
use Rattle.std.proofs.Common.{arith, ◌≡◌, ◌<◌, ◌≤◌, ◌-◌, ◌⊎◌, inl, inr, ℕ, List, [], ◌∷◌, ◌++◌, length, take, true, false, None, Err, refl, sym, ap, subst, ◌∙◌, append_assoc, append-nil, length-append}
use Rattle.std.proofs.lemmas.List.{take-append-le}
use Rattle.engine_ports.specs.Source.{SourceView, SourceGave, ReadSays}
use Rattle.engine_ports.specs.Sink.{SinkView, SinkTook, WriteSays}
use Rattle.engine_ports.specs.declared.ports.Failed.{Failed}
use Rattle.engine_ports.specs.declared.ports.Got.TheVariants as got
use Rattle.engine_ports.proofs.PortLemmas.{source_none, sink_none}
use Rattle.http_edge.specs.Spelling.{HasNoRequest}
use Rattle.http_edge.specs.Response.{head_text}
use Rattle.http_edge.specs.declared.head.Form.TheVariants.{Json}
use Rattle.lab_front.specs.Texts.{status_of, text_of}
use Rattle.lab_front.specs.declared.table.Row.{Row}
use Rattle.json_answer.specs.declared.asking.Terms.{Terms}
use Rattle.front_session.specs.Fronts.{Deed, handing}
use Rattle.front_session.specs.Front.{Front, front_at, Does, DoesStill, GoesWithin}
use Rattle.front_session.specs.Steps.{AddsNoEnd, MayPass, Steps, row_answer, stage_behind}
use Rattle.front_session.specs.Reads.{Whole, whole, Progress, ReadFailed, AnswerLost, WasLost, HasEnded, FrontReads, GoesSo}
use Rattle.front_session.specs.declared.standing.Stage.{Stage}
use Rattle.front_session.specs.declared.standing.Stage.TheVariants.{Within, Open, Closed, Ended, Lost}
use Rattle.front_session.specs.declared.stepping.Act.TheVariants as act
use Rattle.front_session.proofs.ProgressLemmas.{no_bytes, progress_none}
use Rattle.front_session.proofs.HandLemmas.{within_on, open_on}

-- what the front does by itself
stepped : (s : SourceView) (u : SinkView) (f g : Front) (handed : List ℕ) → Does f (handing handed) g → AddsNoEnd f g
    → Progress (whole s u f) (whole s u g) [] handed
stepped s u f g handed does ends = record {
  read = [];
  gave = source_none s;
  took = sink_none u;
  does = does;
  ended = λ e. inl (ends.0 e);
  lost = ends.1;
}

pub gave_on : (n : ℕ) (into : List ℕ) (s : SourceView) (u : SinkView) (f g : Front) → Steps (act.Gave n) into f g
    → FrontReads (got.Bytes n) into (whole s u f) (whole s u g)
gave_on n into s u f g (some, fits, does, ends) = (some, fits, [], stepped s u f g (take n into) does ends)

pub went_on : (into : List ℕ) (s : SourceView) (u : SinkView) (f g : Front) → Steps act.On into f g
    → GoesSo None into (whole s u f) (whole s u g)
went_on into s u f g (does, stays) =
    (stays.1, [], stepped s u f g [] does (λ e. absurd (stays.0 e), λ e. absurd (stays.1 e)))

pub ended_on : (into : List ℕ) (s : SourceView) (u : SinkView) (f g : Front) → Steps act.Ended into f g
    → FrontReads got.End into (whole s u f) (whole s u g)
ended_on into s u f g (same, is, nothing) =
    (by is, subst (λ h. DoesStill h [] []) (sym same) nothing, [], subst (λ h. Progress (whole s u f) (whole s u h) [] []) (sym same) (progress_none (whole s u f)))
  where
    by : (f.stage ≡ Ended) ⊎ (f.stage ≡ Closed) → HasEnded (whole s u f) (whole s u g)
    by (inl at_end) = inl at_end
    by (inr closed) = inr (inr (ap (λ h. h.stage) same ∙ closed))

pub lost_on : (into : List ℕ) (s : SourceView) (u : SinkView) (f g : Front) → Steps act.Lost into f g
    → FrontReads got.Failed into (whole s u f) (whole s u g)
lost_on into s u f g (same, is) = WasLost is (ap (λ h. whole s u h) same)

-- a request was answered
pub answered_on : (terms : Terms) (row : Row) (into : List ℕ) (s : SourceView) (u v : SinkView) (f g : Front) → Steps (act.Answers terms row) into f g
    → SinkTook u (row_answer terms row) v → GoesSo None into (whole s u f) (whole s v g)
answered_on terms row into s u v f g (does, stays, request, behind, begins, way, is) took = (
  stays.1,
  row_answer terms row ∷ [],
  record {
    read = [];
    gave = source_none s;
    took = subst (λ t. SinkTook u t v) (sym (append-nil (row_answer terms row))) took;
    does = does;
    ended = λ e. absurd (stays.0 e);
    lost = λ e. absurd (stays.1 e);
  },
)

-- its answer couldn't be written whole
pub answer_lost : (terms : Terms) (row : Row) (into : List ℕ) (x : Failed) (s : SourceView) (u v : SinkView) (f g h : Front) → Steps (act.Answers terms row) into f g
    → WriteSays (Err x) (row_answer terms row) u v → h.stage ≡ Lost → FrontReads got.Failed into (whole s u f) (whole s v h)
answer_lost terms row into x s u v f g h (does, stays, request, behind, begins, way, is) broke lost = AnswerLost (record {
  texts = [];
  mid = whole s u f;
  before = progress_none (whole s u f);
  request = request;
  behind = behind;
  begins = begins;
  row = row;
  way = way;
  fault = x;
  broke = subst (λ t. WriteSays (Err x) (row_answer t row) u v) is broke;
  source = refl;
  stage = lost;
})

-- ---- bytes that are handed on as they come

module _ (s t : SourceView) (u : SinkView) (f : Front) (size : ℕ) (no_owed : f.owed ≡ []) (no_ahead : f.ahead ≡ []) (may : MayPass size f.stage) where
  passed_at : (stage : Stage) → MayPass size stage → (n : ℕ) (into : List ℕ) → n ≤ length into → n ≤ size → (more : List ℕ) (later : List Deed)
      → DoesStill (front_at [] [] (stage_behind n stage)) more later → DoesStill (front_at [] [] stage) (take n into ++ more) (handing (take n into) ++ later)
  passed_at (Within left) fits n into le few more later d = (
    handing (take n into) ++ later,
    refl,
    within_on n left into (take n into) [] le (omega (arith, few, fits)) (sym (append-nil (take n into))) more later
        (subst (GoesWithin (left - n) more) (sym d.1) d.2),
  )
  passed_at Open fits n into le few more later d = (
    handing (take n into) ++ later,
    refl,
    open_on n size into (take n into) [] le few (sym (append-nil (take n into))) more later (d.1 ∙ d.2),
  )
  passed_at Closed fits n into le few more later d = absurd fits
  passed_at Ended fits n into le few more later d = absurd fits
  passed_at Lost fits n into le few more later d = absurd fits

  not_ended : (n : ℕ) (stage : Stage) → MayPass size stage → stage_behind n stage ≡ Ended → ⊥
  not_ended n (Within left) fits e = cc
  not_ended n Open fits e = cc
  not_ended n Closed fits e = fits
  not_ended n Ended fits e = fits
  not_ended n Lost fits e = fits

  not_lost : (n : ℕ) (stage : Stage) → MayPass size stage → stage_behind n stage ≡ Lost → ⊥
  not_lost n (Within left) fits e = cc
  not_lost n Open fits e = cc
  not_lost n Closed fits e = fits
  not_lost n Ended fits e = fits
  not_lost n Lost fits e = fits

  front_is : f ≡ front_at [] [] f.stage
  front_is = λ i. front_at (no_owed i) (no_ahead i) f.stage

  pub passed : (n : ℕ) (into : List ℕ) → 0 < n → n ≤ length into → n ≤ size → SourceGave s (take n into) t
      → FrontReads (got.Bytes n) into (whole s u f) (whole t u (record f { stage = stage_behind n f.stage }))
  passed n into some le few gave = (
    some,
    le,
    [],
    record {
      read = take n into;
      gave = gave;
      took = sink_none u;
      does = λ more later d.
          subst (λ g. DoesStill g (take n into ++ more) (handing (take n into) ++ later)) (sym front_is)
          (passed_at f.stage may n into le few more later
          (subst (λ g. DoesStill (record g { stage = stage_behind n f.stage }) more later) front_is d));
      ended = λ e. absurd (not_ended n f.stage may e);
      lost = λ e. absurd (not_lost n f.stage may e);
    },
  )

  -- by what the calls say
  pub passed_place : (n : ℕ) (place rest : List ℕ) (v : SinkView) (g : Front) → ReadSays (got.Bytes n) place s t → length place ≤ size → v ≡ u
      → g ≡ record f { stage = stage_behind n f.stage } → FrontReads (got.Bytes n) (place ++ rest) (whole s u f) (whole t v g)
  passed_place n place rest v g (some, fits, gave) le sink_is front_is =
      subst (λ w. FrontReads (got.Bytes n) (place ++ rest) (whole s u f) (whole t w g)) (sym sink_is)
      (subst (λ h. FrontReads (got.Bytes n) (place ++ rest) (whole s u f) (whole t u h)) (sym front_is)
      (passed n (place ++ rest) some (omega (arith, fits, length-append place rest)) (omega (arith, fits, le))
      (subst (λ l. SourceGave s l t) (sym (take-append-le n place rest fits)) gave)))

-- ---- a read that gave nothing

-- the front is as it was
still : (s t : SourceView) (u : SinkView) (f : Front) → SourceGave s [] t → Progress (whole s u f) (whole t u f) [] []
still s t u f gave = record {
  read = [];
  gave = gave;
  took = sink_none u;
  does = λ more later d. d;
  ended = λ e. inl e;
  lost = λ e. e;
}

pub read_ended : (into place : List ℕ) (s t : SourceView) (u v : SinkView) (f : Front) → ReadSays got.End place s t → v ≡ u
    → DoesStill f [] [] → FrontReads got.End into (whole s u f) (whole t v f)
read_ended into place s t u v f (gave, ended) same nothing =
    subst (λ w. FrontReads got.End into (whole s u f) (whole t w f)) (sym same) (inr (inl ended), nothing, [], still s t u f gave)

-- nothing is left to do, where nothing was kept and bytes were awaited
pub nothing_left : (f : Front) (size : ℕ) → f.owed ≡ [] → f.ahead ≡ [] → MayPass size f.stage → 0 < size → DoesStill f [] []
nothing_left f size no_owed no_ahead may some =
    subst (λ g. DoesStill g [] []) (λ i. front_at (sym no_owed i) (sym no_ahead i) f.stage) (by f.stage may)
  where
    by : (stage : Stage) → MayPass size stage → DoesStill (front_at [] [] stage) [] []
    by (Within left) fits = ([], refl, inr (omega (arith, fits, some), refl))
    by Open fits = ([], refl, refl)
    by Closed fits = absurd fits
    by Ended fits = absurd fits
    by Lost fits = absurd fits

-- or where a request was
pub nothing_between : (f : Front) → f.owed ≡ [] → f.stage ≡ Within 0 → HasNoRequest f.ahead → length f.ahead ≡ 0 → DoesStill f [] []
nothing_between f no_owed between none len =
    let no_ahead = no_bytes f.ahead len in
    subst (λ g. DoesStill g [] []) (λ i. front_at (sym no_owed i) (sym no_ahead i) (sym between i))
    ([], refl, inl ([], [], [], refl, refl, refl, ([], inl (subst HasNoRequest no_ahead none, refl))))

pub read_failed : (into place : List ℕ) (s t : SourceView) (u v : SinkView) (f : Front) → ReadSays got.Failed place s t → v ≡ u
    → FrontReads got.Failed into (whole s u f) (whole t v f)
read_failed into place s t u v f (gave, rose) same =
    subst (λ w. FrontReads got.Failed into (whole s u f) (whole t w f)) (sym same) (ReadFailed [] (still s t u f gave) rose)

-- ---- a request that isn't whole yet

module _ (s t : SourceView) (u : SinkView) (f : Front) (no_owed : f.owed ≡ []) (between : f.stage ≡ Within 0) where
  -- more of it came
  pub came : (into bytes : List ℕ) (v : SinkView) (g : Front) → SourceGave s bytes t → v ≡ u → g ≡ record f { ahead = f.ahead ++ bytes }
      → GoesSo None into (whole s u f) (whole t v g)
  came into bytes v g gave sink_is front_is =
      subst (λ w. GoesSo None into (whole s u f) (whole t w g)) (sym sink_is)
      (subst (λ h. GoesSo None into (whole s u f) (whole t u h)) (sym front_is) (
        (λ e. let other : Within 0 ≡ Lost = sym between ∙ e in cc),
        [],
        record {
          read = bytes;
          gave = gave;
          took = sink_none u;
          does = by f.stage between;
          ended = λ e. inl e;
          lost = λ e. e;
        },
      ))
    where
      by : (stage : Stage) → stage ≡ Within 0 → (more : List ℕ) (later : List Deed)
          → DoesStill (front_at f.owed (f.ahead ++ bytes) stage) more later → DoesStill (front_at f.owed f.ahead stage) (bytes ++ more) later
      by (Within n) is more later d = (d.0, d.1, subst (λ l. GoesWithin n l d.0) (append_assoc f.ahead bytes more) d.2)
      by Open is more later d = (d.0, d.1, d.2 ∙ ap handing (append_assoc f.ahead bytes more))
      by Closed is more later d = absurd (cc)
      by Ended is more later d = absurd (cc)
      by Lost is more later d = absurd (cc)

  -- the source ended in it
  pub cut : (into place : List ℕ) (v : SinkView) (g : Front) → HasNoRequest f.ahead → ReadSays got.End place s t → v ≡ u
      → g ≡ record f { stage = Ended } → GoesSo None into (whole s u f) (whole t v g)
  cut into place v g none (gave, ended) sink_is front_is =
      subst (λ w. GoesSo None into (whole s u f) (whole t w g)) (sym sink_is)
      (subst (λ h. GoesSo None into (whole s u f) (whole t u h)) (sym front_is) (
        (λ e. absurd (cc)),
        [],
        record {
          read = [];
          gave = gave;
          took = sink_none u;
          does = λ more later d.
              let no_more = d.2.0 in
              let all : f.ahead ++ more ≡ f.ahead = ap (λ l. f.ahead ++ l) no_more ∙ append-nil f.ahead in
              subst (λ g. DoesStill g more later) (λ i. front_at f.owed f.ahead (sym between i)) (
                d.0,
                d.1,
                inl (
                  [],
                  f.ahead ++ more,
                  d.0,
                  refl,
                  refl,
                  refl,
                  ([], inl (subst HasNoRequest (sym all) none, d.2.1 ∙ ap handing (sym all))),
                ),
              );
          ended = λ e. inr ended;
          lost = λ e. absurd (cc);
        },
      ))

-- no answer was lost
pub none_lost : (f : Front) (old new : Whole) → (f.stage ≡ Lost → ⊥) → f.stage ≡ Lost → new ≡ old
none_lost f old new stays lost = absurd (stays lost)

-- ---- an answer's text

module _ (terms : Terms) (row : Row) (text head : List ℕ) (status : ℕ) (text_is : text ≡ text_of row) (status_is : status ≡ status_of row)
    (head_is : head ≡ head_text (record { status = status; form = Json (length text); close = terms.close })) where
  pub row_bare : terms.bare ≡ true → head ≡ row_answer terms row
  row_bare bare = rw (head_is, bare, text_is, status_is) refl

  pub row_whole : terms.bare ≡ false → head ++ text ≡ row_answer terms row
  row_whole whole = rw (head_is, whole, text_is, status_is) refl
