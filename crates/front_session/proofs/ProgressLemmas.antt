-- What calls of a front say goes on.
use Rattle.std.proofs.Common.{arith, ◌≡◌, ◌⊎◌, inl, inr, ℕ, List, [], ◌∷◌, ◌++◌, length, refl, sym, ap, subst, ◌∙◌, append_assoc, Option, Some, None}
use Rattle.std.proofs.lemmas.List.{map-append}
use Rattle.std.proofs.lemmas.Grind.{flat_map-append}
use Rattle.engine_ports.specs.Source.{SourceView, SourceGave, SourceEnded, Gave, IsSpent}
use Rattle.engine_ports.specs.Sink.{SinkTook}
use Rattle.engine_ports.specs.declared.ports.Got.{Got}
use Rattle.engine_ports.specs.declared.ports.Got.TheVariants.{Bytes, End, Failed}
use Rattle.engine_ports.proofs.PortLemmas.{source_none, source_on, sink_none, sink_on, rose_since, rose_until}
use Rattle.front_session.specs.Fronts.{Deed, Hands, Writes, handing, writing}
use Rattle.front_session.specs.Front.{DoesStill}
use Rattle.front_session.specs.Reads.{Whole, joined, Progress, Loses, Fails, ReadFailed, AnswerLost, WasLost, HasEnded, FrontReads}
use Rattle.front_session.specs.declared.standing.Stage.TheVariants.{Ended, Lost}

pub no_bytes : (l : List ℕ) → length l ≡ 0 → l ≡ []
no_bytes [] e = refl
no_bytes (x ∷ xs) e = absurd (omega (arith, e))

-- ---- deeds

pub handing_on : (a b : List ℕ) → handing (a ++ b) ≡ handing a ++ handing b
handing_on a b = map-append Hands a b

-- bytes, and then these and what follows them
pub handing_then : (a b : List ℕ) (later : List Deed) → handing a ++ (handing b ++ later) ≡ handing (a ++ b) ++ later
handing_then a b later = sym (append_assoc (handing a) (handing b) later) ∙ ap (λ d. d ++ later) (sym (handing_on a b))

writing_then : (ts us : List (List ℕ)) (later : List Deed) → writing ts ++ (writing us ++ later) ≡ writing (ts ++ us) ++ later
writing_then ts us later =
    sym (append_assoc (writing ts) (writing us) later) ∙ ap (λ d. d ++ later) (sym (map-append Writes ts us))

joined_on : (ts us : List (List ℕ)) → joined (ts ++ us) ≡ joined ts ++ joined us
joined_on ts us = flat_map-append (λ text. text) ts us

-- ---- the end of a source

spent_on : (l m : Option (List ℕ)) (bytes : List ℕ) → IsSpent l → Gave l bytes m → IsSpent m
spent_on None None bytes s g = tt
spent_on None (Some m) bytes s g = absurd g
spent_on (Some l) None bytes s g = absurd g
spent_on (Some l) (Some m) bytes s g = nothing_left bytes m (sym s ∙ g)
  where
    nothing_left : (a b : List ℕ) → [] ≡ a ++ b → b ≡ []
    nothing_left [] b e = sym e
    nothing_left (x ∷ a) b e = cc

-- the source had ended, and gave some more
pub ended_then : (s t u : SourceView) (bytes : List ℕ) → SourceEnded s t → SourceGave t bytes u → SourceEnded s u
ended_then s t u bytes e g = record { rose = rose_until s.ends t.ends u.ends e.rose g.ends; spent = spent_on t.left u.left bytes e.spent g.gave }

-- it gave some bytes, and then ended
pub ended_since : (s t u : SourceView) (bytes : List ℕ) → SourceGave s bytes t → SourceEnded t u → SourceEnded s u
ended_since s t u bytes g e = record { rose = rose_since s.ends t.ends u.ends g.ends e.rose; spent = e.spent }

-- ---- one call after the other

pub progress_none : (f : Whole) → Progress f f [] []
progress_none f = record {
  read = [];
  gave = source_none f.source;
  took = sink_none f.sink;
  does = λ more later d. d;
  ended = λ e. inl e;
  lost = λ e. e;
}

pub progress_on : (a b c : Whole) (ts us : List (List ℕ)) (handed : List ℕ) → Progress a b ts [] → Progress b c us handed → Progress a c (ts ++ us) handed
progress_on a b c ts us handed f g = record {
  read = f.read ++ g.read;
  gave = source_on a.source b.source c.source f.read g.read f.gave g.gave;
  took = subst (λ t. SinkTook a.sink t c.sink) (sym (joined_on ts us)) (sink_on a.sink b.sink c.sink (joined ts) (joined us) f.took g.took);
  does = λ more later d.
      let behind = f.does (g.read ++ more) (writing us ++ (handing handed ++ later)) (g.does more later d) in
      subst (λ m. DoesStill a.front m (writing (ts ++ us) ++ (handing handed ++ later))) (sym (append_assoc f.read g.read more))
      (subst (DoesStill a.front (f.read ++ (g.read ++ more))) (writing_then ts us (handing handed ++ later)) behind);
  ended = λ e. ends (g.ended e);
  lost = λ e. f.lost (g.lost e);
}
  where
    first : (a.front.stage ≡ Ended) ⊎ SourceEnded a.source b.source → (a.front.stage ≡ Ended) ⊎ SourceEnded a.source c.source
    first (inl was) = inl was
    first (inr e) = inr (ended_then a.source b.source c.source g.read e g.gave)

    ends : (b.front.stage ≡ Ended) ⊎ SourceEnded b.source c.source → (a.front.stage ≡ Ended) ⊎ SourceEnded a.source c.source
    ends (inl was) = first (f.ended was)
    ends (inr e) = inr (ended_since a.source b.source c.source f.read f.gave e)

pub loses_on : (a b c : Whole) (ts : List (List ℕ)) → Progress a b ts [] → Loses b c → Loses a c
loses_on a b c ts f l = record {
  texts = ts ++ l.texts;
  mid = l.mid;
  before = progress_on a b l.mid ts l.texts [] f l.before;
  request = l.request;
  behind = l.behind;
  begins = l.begins;
  row = l.row;
  way = l.way;
  fault = l.fault;
  broke = l.broke;
  source = l.source;
  stage = l.stage;
}

pub fails_on : (a b c : Whole) (ts : List (List ℕ)) → Progress a b ts [] → (b.front.stage ≡ Lost → b ≡ a) → Fails b c → Fails a c
fails_on a b c ts f same (ReadFailed us g rose) =
    ReadFailed (ts ++ us) (progress_on a b c ts us [] f g) (rose_since a.source.faults b.source.faults c.source.faults f.gave.faults rose)
fails_on a b c ts f same (AnswerLost l) = AnswerLost (loses_on a b c ts f l)
fails_on a b c ts f same (WasLost lost stays) = WasLost (f.lost lost) (stays ∙ same lost)

-- a call that read behind another one's progress
pub reads_on : (r : Got) (into : List ℕ) (a b c : Whole) (ts : List (List ℕ)) → Progress a b ts [] → (b.front.stage ≡ Lost → b ≡ a) → FrontReads r into b c → FrontReads r into a c
reads_on (Bytes n) into a b c ts f same (some, fits, us, g) = (some, fits, ts ++ us, progress_on a b c ts us _ f g)
reads_on End into a b c ts f same (ended, nothing, us, g) = (ends ended, nothing, ts ++ us, progress_on a b c ts us [] f g)
  where
    first : (a.front.stage ≡ Ended) ⊎ SourceEnded a.source b.source → HasEnded a c
    first (inl was) = inl was
    first (inr e) = inr (inl (ended_then a.source b.source c.source g.read e g.gave))

    ends : HasEnded b c → HasEnded a c
    ends (inl was) = first (f.ended was)
    ends (inr (inl e)) = inr (inl (ended_since a.source b.source c.source f.read f.gave e))
    ends (inr (inr closed)) = inr (inr closed)
reads_on Failed into a b c ts f same fails = fails_on a b c ts f same fails
