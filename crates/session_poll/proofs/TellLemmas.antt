-- A stream that is told on by a part, or ends by what the part is.
use Rattle.std.proofs.Common.{arith, ◌≡◌, ◌≤◌, ◌<◌, ◌+◌, ℕ, List, [], ◌∷◌, ◌++◌, refl, sym, ◌∙◌, ap, subst, append-nil, true, false, None}
use Rattle.std.specs.Prelude.{IsFalse}
use Rattle.std.proofs.lemmas.Bool.{false≢true}
use Rattle.std.proofs.lemmas.Bool.Decides.{nat_tests}
use Rattle.engine_text.specs.declared.reply.Reply.{Reply}
use Rattle.engine_text.specs.declared.reply.Reply.TheVariants as reply
use Rattle.engine_text.specs.declared.step.Step.{Step}
use Rattle.machine_model.specs.History.{Charter, Extends, IsLegal}
use Rattle.http_edge.specs.Chunks.{last_chunk}
use Rattle.http_edge.specs.Message.{Request}
use Rattle.session_model.specs.declared.followed.Followed.TheVariants as F
use Rattle.session_model.specs.declared.turned.Part.{Part}
use Rattle.session_model.specs.declared.turned.Part.TheVariants as P
use Rattle.session_model.specs.Exchange.{EndsSo, IsBody, IsQuiet, Leaves, flow_of}
use Rattle.session_model.specs.Moments.{ComesTo}
use Rattle.session_model.specs.Responses.{terms_of}
use Rattle.session_model.specs.Session.{Span}
use Rattle.session_model.proofs.HistoryLemmas.{quiet_extends, quiet_on}
use Rattle.attach_hub.proofs.JournalTellLemmas.{journal_more, journal_whole}
use Rattle.attach_hub.proofs.LogTellLemmas.{log_whole}
use Rattle.attach_hub.proofs.EventTellLemmas.{events_whole}
use Rattle.attach_hub.proofs.TellLemmas.{IsShort, Said, Told, ends_failed, ends_short, ends_stopped, ends_whole, lapsed_comes, short_comes, stopped_comes, told_broken, told_gone, told_later, told_more, whole_comes}
use Rattle.exchange_laws.specs.Answers.{one_chunk}
use Rattle.exchange_laws.proofs.EarlyLemmas.{is_chunked}
use Rattle.polled_model.specs.Polls.{IsUpToDate}
use Rattle.polled_model.specs.Stages as stage
use Rattle.polled_model.specs.Steps.{come_to}
use Rattle.polled_model.proofs.StreamLemmas.{streaming}
use Rattle.polled_steps.specs.Telling.{EndsWhole, IsAskedLate, PartTells, is_last, moments_of}
use Rattle.session_poll.proofs.PlaceLemmas.{as_told, comes_on, looked_so, said_so, short_of, up_to}

-- the place behind a part that isn't the last
short_next : (r : Reply) (next : ℕ) → IsFalse (is_last r next) → IsShort r next
short_next (reply.JournalStream count) next other = grind (arith, nat_tests, other)
short_next r next other = tt

-- ---- a stream that is whole with a part

-- what was told behind it, and how it came to its end
record Ended (ch : Charter) (r : Reply) (a b : List Step) (body ms : List ℕ) : Type 0 where
  tells : IsBody ch r true a b body
  comes : ComesTo r F.Whole ms

-- where it isn't known by its place, a part says so
whole_part : (r : Reply) (part : Part) → ((next : ℕ) → IsFalse (is_last r next)) → EndsWhole r part → part ≡ P.Whole
whole_part r P.Whole never end = refl
whole_part r (P.More next) never end = absurd (false≢true (sym (never next) ∙ end))
whole_part r P.UpToDate never end = absurd end
whole_part r (P.Gone next first) never end = absurd end
whole_part r P.NoMemory never end = absurd end

module _ (ch : Charter) (a b : List Step) (place handed : ℕ) (body new ms : List ℕ) (on : Extends a b) (legal : IsLegal ch b) where
  ended_journal : (count : ℕ) (part : Part) → place ≤ count → Told (reply.JournalStream count) ch a b body place → ms ≡ []
      → PartTells (reply.JournalStream count) handed place part [] new ch b → EndsWhole (reply.JournalStream count) part
      → Ended ch (reply.JournalStream count) a b (body ++ new) (ms ++ [])
  ended_journal count (P.More next) short t none says end =
      let behind : count < next = grind (arith, nat_tests, end) in
      record {
        tells = journal_whole ch count a b (body ++ new) next behind
            (journal_more ch count b body [] new place next t (short, says) refl);
        comes = append-nil ms ∙ none;
      }
  ended_journal count P.Whole short t none says end = absurd says
  ended_journal count P.UpToDate short t none says end = absurd end
  ended_journal count (P.Gone next first) short t none says end = absurd end
  ended_journal count P.NoMemory short t none says end = absurd end

  ended : (r : Reply) (part : Part) → IsShort r place → Told r ch a b body place → ComesTo r F.WriteFault ms → PartTells r handed place part [] new ch b
      → EndsWhole r part → Ended ch r a b (body ++ new) (ms ++ moments_of r handed)
  ended (reply.JournalStream count) part short t none says end = ended_journal count part short t none says end
  ended (reply.LogStream spec) part short t any says end =
      let whole = subst (λ x. PartTells (reply.LogStream spec) handed place x [] new ch b) (whole_part (reply.LogStream spec) part (λ n. refl) end) says in
      record {
        tells = subst (IsBody ch (reply.LogStream spec) true a b) (sym (append-nil body) ∙ ap (λ l. body ++ l) (sym whole.1))
            (log_whole ch spec a b body [] new place on legal t whole);
        comes = tt;
      }
  ended (reply.EventStream first until filters) part short t any says end =
      let whole = subst (λ x. PartTells (reply.EventStream first until filters) handed place x [] new ch b)
      (whole_part (reply.EventStream first until filters) part (λ n. refl) end) says in
      record {
        tells = subst (IsBody ch (reply.EventStream first until filters) true a b) (sym (append-nil body) ∙ ap (λ l. body ++ l) (sym whole.1))
            (events_whole ch first until filters a b handed body [] new place t whole);
        comes = whole_comes (reply.EventStream first until filters) ch b [] new (ms ++ handed ∷ []) place
            (comes_on (reply.EventStream first until filters) ms handed any)
            (said_so (reply.EventStream first until filters) ch b place handed P.Whole new ms legal short whole);
      }
  ended r part short t any says end = absurd t

-- ---- a stream by a part

-- its call stands in all that was seen
pub stream_extends : (ch : Charter) (k : ℕ) (r : Request) (behind : List ℕ) (given : Reply) (place : ℕ) (body rest : List ℕ) (s : Span)
    → (x : stage.Streams ch k r behind given place body rest s) → Extends x.at s.to
stream_extends ch k r behind given place body rest s x = quiet_extends k x.at s.to (quiet_on k x.at x.now s.to x.since x.quiet)

module _ (ch : Charter) (k handed : ℕ) (r : Request) (behind : List ℕ) (given : Reply) (place : ℕ) (body : List ℕ) (s : Span)
    (x : stage.Streams ch k r behind given place body [] s) (b : List Step) (quiet : IsQuiet k s.to b) (legal : IsLegal ch b) where
  abbrev at_moments : List ℕ
  at_moments = moments_of given handed

  abbrev later : Span
  later = come_to s b at_moments

  on : Extends x.at b
  on = quiet_extends k x.at b (quiet_on k x.at x.now b x.since (quiet_on k x.now s.to b x.quiet quiet))

  pub told : Told given ch x.at b body place
  told = told_later given ch x.at x.now b body place (quiet_extends k x.now b (quiet_on k x.now s.to b x.quiet quiet))
      (as_told given ch x.at x.now place body x.reaches)

  pub short : IsShort given place
  short = short_of given ch x.at x.now place body x.reaches

  pub comes : ComesTo given F.WriteFault (x.late ++ at_moments)
  comes = comes_on given x.late handed x.comes

  said : (part : Part) (new : List ℕ) → PartTells given handed place part [] new ch b → Said given place part [] new (x.late ++ at_moments) ch b
  said part new says = said_so given ch b place handed part new x.late legal short says

  -- more of it is told
  pub goes_on : (next : ℕ) (new : List ℕ) → PartTells given handed place (P.More next) [] new ch b → IsFalse (is_last given next)
      → stage.Streams ch k r behind given next (body ++ new) (one_chunk new) later
  goes_on next new says other =
      let more = told_more given ch x.at b body [] new (x.late ++ at_moments) place next on told (said (P.More next) new says) refl in
      let short' = short_next given next other in
      (streaming ch k r behind given place body [] s).tells next new (one_chunk new) at_moments b x quiet (told_broken given ch x.at b (body ++ new) next short' more)
      (up_to given ch x.at b next (body ++ new) short' more) comes (is_chunked new)

  -- it is whole
  pub ends_all : (part : Part) (new : List ℕ) → PartTells given handed place part [] new ch b → EndsWhole given part
      → stage.Sends ch k (flow_of (terms_of r)) r behind (one_chunk new ++ last_chunk) later
  ends_all part new says end =
      let all = ended ch x.at b place handed body new x.late on legal given part short told x.comes says end in
      (streaming ch k r behind given place body [] s).ends F.Whole new (one_chunk new) at_moments b x quiet all.tells
      (ends_whole given ch (body ++ new) (x.late ++ at_moments) x.at b) all.comes (is_chunked new)

  -- ---- nothing more is told

  pub same : body ≡ body ++ []
  same = sym (append-nil body)

  pub broken : IsBody ch given false x.at b (body ++ [])
  broken = subst (IsBody ch given false x.at b) same (told_broken given ch x.at b body place short told)

  -- since it is up to date
  module _ (new : List ℕ) (says : PartTells given handed place P.UpToDate [] new ch b) (a : List Step) (before : Extends x.at a)
      (late : IsAskedLate given P.UpToDate handed ch a b) where
    stopped : EndsSo ch given F.Stopped (body ++ []) (x.late ++ at_moments) x.at b
    stopped = subst (λ l. EndsSo ch given F.Stopped l (x.late ++ at_moments) x.at b) same
        (ends_stopped given ch x.at b body [] new (x.late ++ at_moments) place told (said P.UpToDate new says)
        (looked_so given ch x.at a b x.late handed before late))

    stopped_then : ComesTo given F.Stopped (x.late ++ at_moments)
    stopped_then = stopped_comes given ch b [] new (x.late ++ at_moments) place comes (said P.UpToDate new says)

    unfoldable pub rests : stage.Streams ch k r behind given place (body ++ []) [] later
    rests = (streaming ch k r behind given place body [] s).tells place [] [] at_moments b x quiet broken
        (up_to given ch x.at b place (body ++ []) short (subst (λ l. Told given ch x.at b l place) same told)) comes (is_chunked [])

    pub rests_told : IsUpToDate ch k later
    unfolding rests streaming
    rests_told = (r, behind, given, place, body ++ [], rests, stopped, stopped_then)

    -- and the daemon stops
    pub ends_stop : stage.Sends ch k (Leaves F.Stopped None) r behind [] later
    ends_stop = (streaming ch k r behind given place body [] s).ends F.Stopped [] [] at_moments b x quiet broken stopped stopped_then (is_chunked [])

  -- or its peer is gone
  pub ends_gone : stage.Sends ch k (Leaves F.WriteFault None) r behind [] later
  ends_gone = (streaming ch k r behind given place body [] s).ends F.WriteFault [] [] at_moments b x quiet broken
      (ends_failed given ch (body ++ []) (x.late ++ at_moments) x.at b) comes (is_chunked [])

  -- since what comes next isn't kept
  pub ends_lagged : (next first : ℕ) (new : List ℕ) → PartTells given handed place (P.Gone next first) [] new ch b
      → stage.Sends ch k (Leaves (F.Lagged next first) None) r behind [] later
  ends_lagged next first new says =
      (streaming ch k r behind given place body [] s).ends (F.Lagged next first) [] [] at_moments b x quiet broken
      (subst (λ l. EndsSo ch given (F.Lagged next first) l (x.late ++ at_moments) x.at b) same
      (told_gone given ch x.at b body [] new (x.late ++ at_moments) place next first on told (said (P.Gone next first) new says)))
      (lapsed_comes given next first (x.late ++ at_moments) comes) (is_chunked [])

  -- for want of memory
  pub ends_out : stage.Sends ch k (Leaves F.NoMemory None) r behind [] later
  ends_out = (streaming ch k r behind given place body [] s).ends F.NoMemory [] [] at_moments b x quiet broken
      (ends_short given ch (body ++ []) (x.late ++ at_moments) x.at b) (short_comes given (x.late ++ at_moments) comes) (is_chunked [])
