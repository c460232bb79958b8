-- What a front does with bytes is one thing, and reads are the first of it.
use Rattle.std.proofs.Common.{arith, ◌≡◌, ◌<◌, ◌≤◌, ◌⊎◌, inl, inr, ℕ, zero, suc, List, [], ◌∷◌, ◌++◌, length, take, drop, refl, sym, ap, subst, ◌∙◌, append_assoc, append-nil}
use Rattle.std.proofs.lemmas.Bool.{cases_lt}
use Rattle.std.proofs.lemmas.List.{take-append-drop, length-take-le}
use Rattle.engine_ports.specs.Source.{SourceView, SourceGave}
use Rattle.engine_ports.specs.Sink.{SinkView, SinkTook}
use Rattle.engine_ports.proofs.PortLemmas.{source_none, source_on, sink_none, sink_on}
use Rattle.http_edge.specs.Message.{Request}
use Rattle.http_edge.specs.Spelling.{head_framing, Spells, Begins, HasNoRequest, ReadsRequests}
use Rattle.http_edge.proofs.StreamLemmas.{one_request}
use Rattle.http_edge.proofs.ReadingLemmas.{behind_less}
use Rattle.lab_handed.specs.Changes.{changed, handed}
use Rattle.lab_handed.specs.declared.changing.Change.{Change}
use Rattle.lab_handed.proofs.SpellLemmas.{handed_spells}
use Rattle.front_session.specs.Ways.{way_of}
use Rattle.front_session.specs.Fronts.{Deed, Hands, Writes, answer_by, handing, writing, deeds_by, last_deeds, GoesOn, Lasts, Fronts, IsFronted}
use Rattle.front_session.specs.Front.{new_front, Goes, DoesStill}
use Rattle.front_session.specs.Reads.{Whole, whole, joined}
use Rattle.front_session.specs.Laws.{handed_of, written_of, IsSeenAs, SeenBy, AreSeen, Runs, NoneYet, OneMore}
use Rattle.front_session.specs.declared.choosing.Way.{Way}
use Rattle.front_session.specs.declared.choosing.Way.TheVariants.{Answered, Closes, HandedOn, Changed, Opens}
use Rattle.front_session.specs.declared.standing.Stage.{Stage}
use Rattle.front_session.specs.declared.standing.Stage.TheVariants.{Within, Open, Closed, Ended, Lost}
use Rattle.front_session.proofs.WayLemmas.{way_spelled, changed_framed}
use Rattle.front_session.proofs.BytesLemmas.{begins_told, same_front, within_none}

-- ---- something is done

abbrev IsDone : List ℕ → Type 0
IsDone bytes = (deeds : List Deed) × IsFronted bytes deeds

-- a request that is treated by itself, and what is done behind it
one_by : (bytes behind : List ℕ) (r : Request) → Begins bytes r behind → GoesOn (way_of r) → IsDone behind → IsDone bytes
one_by bytes behind r b goes later =
    (deeds_by (way_of r) r b.0 ++ later.0, (r ∷ later.1.0, (b.0, behind, later.0, b.1, b.2, goes, refl, later.1.1)))

done_step : (bytes : List ℕ) → ((r : Request) × (behind : List ℕ) × Begins bytes r behind) ⊎ HasNoRequest bytes
    → ((behind : List ℕ) → length behind < length bytes → IsDone behind) → IsDone bytes
done_step bytes (inr none) shorter = (handing bytes, ([], inl (none, refl)))
done_step bytes (inl (r, behind, b)) shorter = by (way_of r) refl
  where
    last : (w : Way) → way_of r ≡ w → (GoesOn w → ⊥) → IsDone bytes
    last w is stops = (last_deeds (way_of r) r bytes, ([], inr (r, behind, b, (λ goes. stops (subst GoesOn is goes)), refl)))

    by : (w : Way) → way_of r ≡ w → IsDone bytes
    by Opens is = last Opens is (λ goes. goes)
    by (Closes row) is = last (Closes row) is (λ goes. goes)
    by (Answered row) is = one_by bytes behind r b (subst GoesOn (sym is) tt) (shorter behind (behind_less bytes behind r b))
    by (HandedOn n) is = one_by bytes behind r b (subst GoesOn (sym is) tt) (shorter behind (behind_less bytes behind r b))
    by (Changed change) is = one_by bytes behind r b (subst GoesOn (sym is) tt) (shorter behind (behind_less bytes behind r b))

done_up_to : (n : ℕ) (bytes : List ℕ) → length bytes ≤ n → IsDone bytes
done_up_to zero bytes le = done_step bytes (begins_told bytes) (λ behind less. absurd (omega (arith, less, le)))
done_up_to (suc n) bytes le = done_step bytes (begins_told bytes) (λ behind less. done_up_to n behind (omega (arith, less, le)))

pub some_front : (bytes : List ℕ) → (deeds : List Deed) × IsFronted bytes deeds
some_front bytes = done_up_to (length bytes) bytes (omega arith)

-- ---- and nothing else

-- bytes with a request that is treated by itself don't come last
not_last : (bytes behind : List ℕ) (deeds : List Deed) (q : Request) → Begins bytes q behind → GoesOn (way_of q) → Lasts bytes deeds → ⊥
not_last bytes behind deeds q b goes (inl (none, e)) = none q behind b
not_last bytes behind deeds q b goes (inr (r, other, c, stops, e)) =
    stops (subst (λ x. GoesOn (way_of x)) (one_request bytes behind other q r b c).0 goes)

one_last : (bytes : List ℕ) (deeds others : List Deed) → Lasts bytes deeds → Lasts bytes others → deeds ≡ others
one_last bytes deeds others (inl (none, d)) (inl (nor, e)) = d ∙ sym e
one_last bytes deeds others (inl (none, d)) (inr (q, behind, b, stops, e)) = absurd (none q behind b)
one_last bytes deeds others (inr (r, behind, b, stops, d)) (inl (none, e)) = absurd (none r behind b)
one_last bytes deeds others (inr (r, behind, b, stops, d)) (inr (q, other, c, ends, e)) =
    d ∙ ap (λ x. last_deeds (way_of x) x bytes) (one_request bytes behind other r q b c).0 ∙ sym e

pub one_front : (rs qs : List Request) (bytes : List ℕ) (deeds others : List Deed) → Fronts rs bytes deeds → Fronts qs bytes others → deeds ≡ others
one_front [] [] bytes deeds others a b = one_last bytes deeds others a b
one_front [] (q ∷ qs) bytes deeds others a b = absurd (not_last bytes b.1 deeds q (b.0, b.3, b.4) b.5 a)
one_front (r ∷ rs) [] bytes deeds others a b = absurd (not_last bytes a.1 others r (a.0, a.3, a.4) a.5 b)
one_front (r ∷ rs) (q ∷ qs) bytes deeds others a b =
    let same = one_request bytes a.1 b.1 r q (a.0, a.3, a.4) (b.0, b.3, b.4) in
    let spelled : a.0 ≡ b.0 = same_front a.0 b.0 b.1 (ap (λ l. a.0 ++ l) (sym same.1) ∙ sym a.4 ∙ b.4) in
    let later = one_front rs qs b.1 a.2 b.2 (subst (λ l. Fronts rs l a.2) same.1 a.7) b.7 in
    a.6 ∙ (λ i. deeds_by (way_of (same.0 i)) (same.0 i) (spelled i) ++ later i) ∙ sym b.6

-- ---- what is handed on, and what is written

handed_on : (bytes : List ℕ) (later : List Deed) → handed_of (handing bytes ++ later) ≡ bytes ++ handed_of later
handed_on [] later = refl
handed_on (b ∷ bytes) later = ap (λ l. b ∷ l) (handed_on bytes later)

handed_all : (bytes : List ℕ) → handed_of (handing bytes) ≡ bytes
handed_all [] = refl
handed_all (b ∷ bytes) = ap (λ l. b ∷ l) (handed_all bytes)

written_on : (a b : List Deed) → written_of (a ++ b) ≡ written_of a ++ written_of b
written_on [] b = refl
written_on (Hands byte ∷ a) b = written_on a b
written_on (Writes text ∷ a) b = ap (λ l. text ++ l) (written_on a b) ∙ sym (append_assoc text (written_of a) (written_of b))

written_none : (bytes : List ℕ) → written_of (handing bytes) ≡ []
written_none [] = refl
written_none (b ∷ bytes) = written_none bytes

written_texts : (texts : List (List ℕ)) → written_of (writing texts) ≡ joined texts
written_texts [] = refl
written_texts (text ∷ texts) = ap (λ l. text ++ l) (written_texts texts)

written_by : (texts : List (List ℕ)) (handed : List ℕ) → written_of (writing texts ++ handing handed) ≡ joined texts
written_by texts handed =
    written_on (writing texts) (handing handed) ∙ (λ i. written_texts texts i ++ written_none handed i) ∙ append-nil (joined texts)

-- what is handed on reads so
abbrev Sees : List Request → (List Request → Type 0) → List ℕ → List Deed → Type 0
Sees requests Are bytes deeds =
    (rest : List ℕ) × (left : List ℕ) × (seen : List Request) × ReadsRequests bytes requests rest
    × ReadsRequests (handed_of deeds) seen left × Are seen × ((left ≡ rest) ⊎ (left ≡ []))

-- what comes last
sees_last : (bytes : List ℕ) (deeds : List Deed) → Lasts bytes deeds → Sees [] (AreSeen []) bytes deeds
sees_last bytes deeds (inl (none, e)) = (bytes, bytes, [], refl, ap handed_of e ∙ handed_all bytes, refl, inl refl)
sees_last bytes deeds (inr (r, behind, b, stops, e)) = by (way_of r) refl e
  where
    all : deeds ≡ handing bytes → Sees [] (AreSeen []) bytes deeds
    all e = (bytes, bytes, [], refl, ap handed_of e ∙ handed_all bytes, refl, inl refl)

    by : (w : Way) → way_of r ≡ w → deeds ≡ last_deeds (way_of r) r bytes → Sees [] (AreSeen []) bytes deeds
    by (Closes row) is e =
        let d : deeds ≡ Writes (answer_by r row) ∷ [] = e ∙ ap (λ w. last_deeds w r bytes) is in
        (bytes, [], [], refl, ap handed_of d, refl, inr refl)
    by Opens is e = all (e ∙ ap (λ w. last_deeds w r bytes) is)
    by (Answered row) is e = all (e ∙ ap (λ w. last_deeds w r bytes) is)
    by (HandedOn n) is e = all (e ∙ ap (λ w. last_deeds w r bytes) is)
    by (Changed change) is e = all (e ∙ ap (λ w. last_deeds w r bytes) is)

-- a request that is handed on by these bytes, and what is seen of the others
seen_first : (r q : Request) (rs : List Request) (bytes spelling out behind : List ℕ) (deeds later : List Deed) (Is : Request → Type 0)
    → Spells spelling r → bytes ≡ spelling ++ behind → Spells out q → Is q → deeds ≡ handing out ++ later → Sees rs (AreSeen rs) behind later
    → Sees (r ∷ rs) (λ seen. (first : Request) × (others : List Request) × (seen ≡ first ∷ others) × Is first × AreSeen rs others) bytes deeds
seen_first r q rs bytes spelling out behind deeds later Is s e spells is d (rest, left, seen, reads, sees, are, ends) = (
  rest,
  left,
  q ∷ seen,
  (behind, (spelling, s, e), reads),
  (handed_of later, (out, spells, ap handed_of d ∙ handed_on out later), sees),
  (q, seen, refl, is, are),
  ends,
)

pub sees_others : (rs : List Request) (bytes : List ℕ) (deeds : List Deed) → Fronts rs bytes deeds
    → (rest : List ℕ) × (left : List ℕ) × (seen : List Request) × ReadsRequests bytes rs rest
    × ReadsRequests (handed_of deeds) seen left × AreSeen rs seen × ((left ≡ rest) ⊎ (left ≡ []))
sees_others [] bytes deeds a = sees_last bytes deeds a
sees_others (r ∷ rs) bytes deeds a = by (sees_others rs a.1 a.2 a.7) (way_of r) refl a.5 a.6
  where
    altered : (change : Change) → deeds ≡ handing (handed change a.0) ++ a.2 → Sees rs (AreSeen rs) a.1 a.2
        → Spells (handed change a.0) r ⊎ Spells (handed change a.0) (changed change r) → Sees (r ∷ rs) (SeenBy (Changed change) r (AreSeen rs)) bytes deeds
    altered change d later (inl s) =
        seen_first r r rs bytes a.0 (handed change a.0) a.1 deeds a.2 (IsSeenAs (Changed change) r) a.3 a.4 s (inl refl) d later
    altered change d later (inr s) =
        seen_first r (changed change r) rs bytes a.0 (handed change a.0) a.1 deeds a.2 (IsSeenAs (Changed change) r) a.3 a.4 s (inr refl) d later

    by : Sees rs (AreSeen rs) a.1 a.2 → (w : Way) → way_of r ≡ w → GoesOn (way_of r) → deeds ≡ deeds_by (way_of r) r a.0 ++ a.2
        → Sees (r ∷ rs) (SeenBy (way_of r) r (AreSeen rs)) bytes deeds
    by later Opens is goes e = absurd (subst GoesOn is goes)
    by later (Closes row) is goes e = absurd (subst GoesOn is goes)
    by later (Answered row) is goes e =
        let d : deeds ≡ deeds_by (Answered row) r a.0 ++ a.2 = subst (λ w. deeds ≡ deeds_by w r a.0 ++ a.2) is e in
        subst (λ w. Sees (r ∷ rs) (SeenBy w r (AreSeen rs)) bytes deeds) (sym is) (
          later.0,
          later.1,
          later.2,
          (a.1, (a.0, a.3, a.4), later.3),
          subst (λ l. ReadsRequests l later.2 later.1) (sym (ap handed_of d)) later.4,
          later.5,
          later.6,
        )
    by later (HandedOn n) is goes e =
        let d : deeds ≡ handing a.0 ++ a.2 = subst (λ w. deeds ≡ deeds_by w r a.0 ++ a.2) is e in
        subst (λ w. Sees (r ∷ rs) (SeenBy w r (AreSeen rs)) bytes deeds) (sym is)
        (seen_first r r rs bytes a.0 a.0 a.1 deeds a.2 (IsSeenAs (HandedOn n) r) a.3 a.4 a.3 refl d later)
    by later (Changed change) is goes e =
        let d : deeds ≡ handing (handed change a.0) ++ a.2 = subst (λ w. deeds ≡ deeds_by w r a.0 ++ a.2) is e in
        let are = changed_framed (head_framing a.3.head) r change (sym (way_spelled a.0 r a.3) ∙ is) in
        subst (λ w. Sees (r ∷ rs) (SeenBy w r (AreSeen rs)) bytes deeds) (sym is)
        (altered change d later (handed_spells a.0 r a.3 are.0 change are.1))

-- ---- reads

pub run_does : (a f : Whole) (deeds : List Deed) → Runs a deeds f
    → (read : List ℕ) × SourceGave a.source read f.source × SinkTook a.sink (written_of deeds) f.sink
    × ((more : List ℕ) (later : List Deed) → DoesStill f.front more later → DoesStill a.front (read ++ more) (deeds ++ later))
run_does a f deeds (NoneYet g) = ([], source_none a.source, sink_none a.sink, λ more later d. d)
run_does a f all (OneMore x b c deeds texts handed run p) =
    let before = run_does a b deeds run in (
      before.0 ++ p.read,
      source_on a.source b.source f.source before.0 p.read before.1 p.gave,
      subst (λ t. SinkTook a.sink t f.sink) (sym (written_on deeds (writing texts ++ handing handed) ∙ ap (λ l. written_of deeds ++ l) (written_by texts handed)))
          (sink_on a.sink b.sink f.sink (written_of deeds) (joined texts) before.2 p.took),
      λ more later d.
          subst (λ m. DoesStill a.front m ((deeds ++ (writing texts ++ handing handed)) ++ later)) (sym (append_assoc before.0 p.read more))
          (subst (DoesStill a.front (before.0 ++ (p.read ++ more)))
          (ap (λ l. deeds ++ l) (sym (append_assoc (writing texts) (handing handed) later)) ∙ sym (append_assoc deeds (writing texts ++ handing handed) later))
          (before.3 (p.read ++ more) (writing texts ++ (handing handed ++ later)) (p.does more later d))),
    )

-- what is still done
still_within : (n : ℕ) (bytes : List ℕ) → (length bytes < n) ⊎ (n ≤ length bytes) → (later : List Deed) × Goes (Within n) [] bytes later
still_within n bytes (inl less) = (handing bytes, inr (less, refl))
still_within n bytes (inr enough) =
    let behind = some_front (drop n bytes) in (
      handing (take n bytes) ++ behind.0,
      inl (take n bytes, drop n bytes, behind.0, length-take-le n bytes enough, sym (take-append-drop n bytes), refl, behind.1),
    )

still_at : (stage : Stage) (ahead more : List ℕ) → (stage ≡ Lost → ⊥) → (stage ≡ Ended → more ≡ []) → (later : List Deed) × Goes stage ahead more later
still_at (Within n) ahead more lost ended = still_within n (ahead ++ more) (cases_lt (length (ahead ++ more)) n)
still_at Open ahead more lost ended = (handing (ahead ++ more), refl)
still_at Closed ahead more lost ended = ([], refl)
still_at Ended ahead more lost ended = (handing ahead, (ended refl, refl))
still_at Lost ahead more lost ended = absurd (lost refl)

pub runs_are_fronts : (source : SourceView) (sink : SinkView) (deeds : List Deed) (f : Whole) → Runs (whole source sink new_front) deeds f
    → (f.front.stage ≡ Lost → ⊥) → (more : List ℕ) → (f.front.stage ≡ Ended → more ≡ [])
    → (read : List ℕ) × (later : List Deed) × SourceGave source read f.source × SinkTook sink (written_of deeds) f.sink
    × IsFronted (read ++ more) (deeds ++ later)
runs_are_fronts source sink deeds f run lost more ended =
    let done = run_does (whole source sink new_front) f deeds run in
    let still = still_at f.front.stage f.front.ahead more lost ended in
    let all = done.3 more (handing f.front.owed ++ still.0) (still.0, refl, still.1) in (
      done.0,
      handing f.front.owed ++ still.0,
      done.1,
      done.2,
      subst (IsFronted (done.0 ++ more)) (sym all.1) (within_none (done.0 ++ more) all.0 all.2),
    )
