-- A session over a drill's requests ends by no refusal.
use Rattle.std.proofs.Common.{arith, ◌≡◌, inl, inr, ◌<◌, ℕ, Bool, true, false, Option, Some, None, List, [], ◌∷◌, ◌++◌, length, map, sym, ap, subst, ◌∙◌, append-nil, length-append, codes}
use Rattle.std.specs.Prelude.{if◌then◌else◌}
use Rattle.std.specs.List.{concat, range_with_len}
use Rattle.engine_ports.specs.Source.{SourceEnded}
use Rattle.httparse.specs.Grammar.{RequestHead, print_blank, print_end, print_section, print_version, print_request, ReadsRequest}
use Rattle.http_edge.specs.Message.{Request}
use Rattle.http_edge.specs.Spelling.{Begins, HasNoRequest, ReadsRequests, ReadsAll}
use Rattle.http_edge.specs.Refusal.{IsRefused, never, too_long, by_framing, IsUnfinished, in_head, in_body}
use Rattle.http_edge.proofs.StreamLemmas.{begins_head, one_reading, reads_more, reads_longer}
use Rattle.http_edge.proofs.EndLemmas.{refused_none, refused_stays, unfinished_none}
use Rattle.http_edge.proofs.ReadingLemmas.{reading_of}
use Rattle.engine_text.specs.declared.step.Step.{Step}
use Rattle.machine_model.specs.History.{Charter}
use Rattle.api_routes.specs.Class.{class_of}
use Rattle.session_model.specs.declared.ending.Ending.{Ending}
use Rattle.session_model.specs.declared.ending.Ending.TheVariants as E
use Rattle.session_model.specs.declared.followed.Followed.{Followed}
use Rattle.session_model.specs.declared.followed.Followed.TheVariants as F
use Rattle.session_model.specs.Exchange.{Flow, IsAnswered, IsSentInChunks, AtOnce, InChunks, TakenOver, HeadIsLost, WaitIsStopped, OfStream, OfWait, OfBrokenWait, BreaksWait, Closes, GoesOn, flow_behind}
use Rattle.session_model.specs.Responses.{terms_of}
use Rattle.session_model.specs.declared.terms.Terms.{Terms}
use Rattle.session_model.specs.Session.{Span, EndsAt, EndsBy, Ends, IsSession, ending_of}
use Rattle.drill_model.specs.Requests.{drill_word, drill_requests, request_by, deed_of, box_of, program_of}
use Rattle.drill_model.specs.declared.deed.Deed.TheVariants.{ListAll}
use Rattle.drill_model.specs.declared.deed.Program.TheVariants.{Deaf}
use Rattle.drill_model.proofs.SpellingLemmas.{lengths}
use Rattle.drill_model.proofs.AskedLemmas.{asked_at, are_read, spelled}
use Rattle.drill_model.proofs.ClassLemmas.{IsNoStream, no_stream}

-- no request was refused or cut short, no journal was full in a takeover, and no stream fell behind
abbrev pub IsUnrefused : Ending → Type 0
IsUnrefused E.CutShort = ⊥
IsUnrefused (E.Refused status) = ⊥
IsUnrefused E.JournalFull = ⊥
IsUnrefused (E.Lagged next first) = ⊥
IsUnrefused e = Unit {0}

-- ---- nothing is no request, and neither refused nor unfinished

some_head : (h : RequestHead) → 0 < length (print_request h)
unfolding print_request
some_head h =
    omega (arith, lengths (print_blank h.blank ++ h.method) h.target (codes " " ++ print_version h.minor) (print_end h.line_end) (print_section h.fields h.last))

no_head : (h : RequestHead) (rest : List ℕ) → ReadsRequest [] h rest → ⊥
no_head h rest reads = omega (arith, ap length reads.1, length-append (print_request h) rest, some_head h)

none_begins : HasNoRequest []
none_begins r behind b = no_head b.1.head (b.1.coded ++ behind) (begins_head [] behind r b)

none_unfinished : IsUnfinished [] → ⊥
none_unfinished (in_head some short lacks may) = omega (arith, some)
none_unfinished (in_body h behind begins cuts) = no_head h behind begins.0

none_refused : (status : ℕ) → IsRefused [] status → ⊥
none_refused status (never is lacks) =
    let one = spelled ListAll 0 Deaf (omega arith) in
    lacks (request_by ListAll 0 Deaf) one.head one.coded (one.valid, one.whole)
none_refused status (too_long is long lacks may) = omega (arith, long)
none_refused status (by_framing h behind begins refuses) = no_head h behind begins.0

-- ---- the requests of a drill

abbrev asked : List ℕ → ℕ → List Request
asked seed count = map (λ i. asked_at (drill_word seed i)) (range_with_len 0 count)

reads_all : (seed : List ℕ) (count : ℕ) → ReadsAll (concat (drill_requests seed count)) (asked seed count) []
reads_all seed count = (are_read (drill_word seed) (range_with_len 0 count), none_begins)

abbrev AreNoStreams : List Request → Type 0
AreNoStreams [] = Unit {0}
AreNoStreams (r ∷ rs) = IsNoStream (class_of r) × AreNoStreams rs

no_streams : (word_at : ℕ → ℕ) (places : List ℕ) → AreNoStreams (map (λ i. asked_at (word_at i)) places)
no_streams word_at [] = tt
no_streams word_at (i ∷ places) =
    let word : ℕ = word_at i in
    (no_stream (deed_of word) (box_of word) (program_of word) (omega arith), no_streams word_at places)

among : (done : List Request) (r : Request) (more : List Request) → AreNoStreams ((done ++ r ∷ []) ++ more) → IsNoStream (class_of r)
among [] r more all = all.0
among (q ∷ done) r more all = among done r more all.1

-- ---- what was read of them

module _ (seed : List ℕ) (count : ℕ) (read left : List ℕ) (done : List Request) (tail : List ℕ)
    (all : concat (drill_requests seed count) ≡ read ++ left) (reads : ReadsRequests read done tail) where
  -- with what is left
  on : ReadsRequests (concat (drill_requests seed count)) done (tail ++ left)
  on = subst (λ l. ReadsRequests l done (tail ++ left)) (sym all) (reads_longer done read tail left reads)

  ends_there : HasNoRequest (tail ++ left) → tail ++ left ≡ []
  ends_there none = (one_reading done (asked seed count) (concat (drill_requests seed count)) (tail ++ left) [] (on, none) (reads_all seed count)).1

  -- its tail isn't refused
  pub unrefused_tail : (status : ℕ) → IsRefused tail status → ⊥
  unrefused_tail status is =
      let stays = refused_stays tail left status is in
      none_refused status (subst (λ l. IsRefused l status) (ends_there (refused_none (tail ++ left) status stays)) stays)

  -- nor cut, where nothing is left
  pub uncut_tail : left ≡ [] → IsUnfinished tail → ⊥
  uncut_tail none is =
      let same : tail ≡ tail ++ left = sym (ap (λ l. tail ++ l) none ∙ append-nil tail) in
      let still : IsUnfinished (tail ++ left) = subst IsUnfinished same is in
      none_unfinished (subst IsUnfinished (ends_there (unfinished_none (tail ++ left) still)) still)

  -- a request at its front is one of them
  pub unstreamed : (r : Request) (behind : List ℕ) → Begins tail r behind → IsNoStream (class_of r)
  unstreamed r behind begins =
      let bytes : List ℕ = concat (drill_requests seed count) in
      let more = reads_more done read tail behind r reads begins in
      let longer : ReadsRequests bytes (done ++ r ∷ []) (behind ++ left) =
      subst (λ l. ReadsRequests l (done ++ r ∷ []) (behind ++ left)) (sym all) (reads_longer (done ++ r ∷ []) read behind left more) in
      let rest = reading_of bytes (behind ++ left) (done ++ r ∷ []) longer in
      let same = (one_reading ((done ++ r ∷ []) ++ rest.0) (asked seed count) bytes rest.1 [] rest.2 (reads_all seed count)).0 in
      among done r rest.0 (subst AreNoStreams (sym same) (no_streams (drill_word seed) (range_with_len 0 count)))

-- ---- how an answer that is no stream ends the session

abbrev EndsUnrefused : Option Ending → Type 0
EndsUnrefused None = Unit {0}
EndsUnrefused (Some e) = IsUnrefused e

by_whole : (closing : Bool) → EndsUnrefused (ending_of (if closing then Closes else GoesOn))
by_whole true = tt
by_whole false = tt

by_break : (terms : Terms) (f : Followed) → BreaksWait f → EndsUnrefused (ending_of (flow_behind terms f))
by_break terms F.Stopped broke = tt
by_break terms F.WriteFault broke = tt
by_break terms F.NoMemory broke = tt
by_break terms F.Whole broke = absurd broke
by_break terms (F.Lagged next first) broke = absurd broke

by_chunks : (ch : Charter) (k : ℕ) (r : Request) (behind : List ℕ) (a b : List Step) (f : Followed) (head body ms : List ℕ)
    → IsSentInChunks ch k r behind a b f head body ms → IsNoStream (class_of r) → EndsUnrefused (ending_of (flow_behind (terms_of r) f))
by_chunks ch k r behind a b f head body ms (OfStream c reply g mid m bytes ns asks made quiet tells ends comes) none = absurd (subst IsNoStream asks none)
by_chunks ch k r behind a b f head body ms (OfWait c bytes ns asks early waited) none = by_whole _
by_chunks ch k r behind a b f head body ms (OfBrokenWait c g ns asks early broke given) none = by_break (terms_of r) g broke

by_row : (ch : Charter) (k : ℕ) (r : Request) (behind : List ℕ) (a b : List Step) (flow : Flow) (w ms : List ℕ)
    → IsAnswered ch k r behind a b flow w ms → IsNoStream (class_of r) → EndsUnrefused (ending_of flow)
by_row ch k r behind a b flow w ms (AtOnce v ns row) none = by_whole _
by_row ch k r behind a b flow w ms (InChunks f head body chunks ns row cut) none = by_chunks ch k r behind a b f head body ns row none
by_row ch k r behind a b flow w ms (TakenOver c t spec f pumped mid m body ns asks over made pumps tells ends) none = absurd (subst IsNoStream asks none)
by_row ch k r behind a b flow w ms (HeadIsLost c t reply m asks made stream) none = absurd (subst IsNoStream asks none)
by_row ch k r behind a b flow w ms (WaitIsStopped c ns asks late given) none = tt

by_answer : (ch : Charter) (k : ℕ) (r : Request) (behind : List ℕ) (e : Ending) (pumps : Bool) (s : Span) → IsNoStream (class_of r)
    → EndsBy ch k r behind e pumps s → IsUnrefused e
by_answer ch k r behind e pumps s none x = elim (x.written) [
  | inl g ↦ subst EndsUnrefused g.0 (by_row ch k r behind s.from s.to x.flow x.whole s.handed x.answered none)
  | inr g ↦ subst IsUnrefused (sym g.0) tt
]

-- ---- how a session over a drill's requests ends

module _ (ch : Charter) (k : ℕ) (seed : List ℕ) (count : ℕ) (left : List ℕ) (e : Ending) (pumps : Bool) (s : Span)
    (all : concat (drill_requests seed count) ≡ s.read ++ left) (spent : SourceEnded s.old.source s.new.source → left ≡ [])
    (x : IsSession ch k e pumps s) where
  abbrev last : Span
  last = record s { from = x.mid; written = x.last; handed = x.late }

  at_end : (f : Ending) → EndsAt f x.tail last → IsUnrefused f
  at_end E.CutShort h = uncut_tail seed count s.read left x.done x.tail all x.requests (spent h.2) h.0
  at_end (E.Refused status) h = unrefused_tail seed count s.read left x.done x.tail all x.requests status h.0
  at_end E.JournalFull h = h
  at_end (E.Lagged next first) h = h
  at_end E.Closed h = tt
  at_end E.Stopped h = tt
  at_end E.ReadFault h = tt
  at_end E.WriteFault h = tt
  at_end E.NoMemory h = tt

  by_end : Ends ch k e x.tail pumps last → IsUnrefused e
  by_end (inl h) = at_end e h.0
  by_end (inr (r, behind, begins, answer)) =
      by_answer ch k r behind e pumps last (unstreamed seed count s.read left x.done x.tail all x.requests r behind begins) answer

  pub ends_unrefused : IsUnrefused e
  ends_unrefused = by_end x.ends
