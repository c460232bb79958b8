-- What the client reads of the answer to each request of a run.
use Rattle.std.proofs.Common.{arith, ◌≡◌, ◌<◌, ◌≤◌, ◌^◌, ◌⊎◌, inl, inr, ℕ, List, [], ◌∷◌, ◌++◌, length, map, Bool, true, false, Some, if◌then◌else◌, refl, sym, ap, subst, ◌∙◌, codes, decimal, length-append, All, Result, Ok, Err}
use Rattle.std.specs.Prelude.{IsFalse, unwrap_or}
use Rattle.std.proofs.lemmas.Bool.{false≢true}
use Rattle.std.proofs.lemmas.Fmt.{length-decimal-le_succ}
use Rattle.std.specs.Str.{is_utf8}
use Rattle.percent_encoding.proofs.PercentLemmas.{IsByte}
use Rattle.engine_text.specs.Id.{id_of}
use Rattle.engine_text.specs.declared.call.Call.{Call}
use Rattle.engine_text.specs.declared.call.CreateSpec.{CreateSpec}
use Rattle.engine_text.specs.declared.call.Until.TheVariants.{NotRunning}
use Rattle.engine_text.specs.declared.log.LogRecord.{LogRecord}
use Rattle.engine_text.specs.declared.reply.LogSpec.{LogSpec}
use Rattle.engine_text.specs.declared.reply.Reply.{Reply}
use Rattle.engine_text.specs.declared.step.Step.{Step}
use Rattle.machine_model.specs.Frames.{framed}
use Rattle.machine_model.specs.History.{Charter, IsLegal, state_after}
use Rattle.machine_model.specs.LogStream.{log_records, part_of}
use Rattle.machine_model.specs.Statuses.{is_status_of, gives_ticket}
use Rattle.http_edge.specs.Message.{Request}
use Rattle.http_edge.specs.Response.{head_by, framed_head}
use Rattle.http_edge.specs.declared.head.Head.{Head}
use Rattle.http_edge.specs.declared.head.Form.{Form}
use Rattle.http_edge.specs.declared.head.Form.TheVariants.{Json, Empty}
use Rattle.response_reader.specs.Answers.{Answered, IsAnswer}
use Rattle.response_reader.specs.Heads.{is_bare}
use Rattle.api_routes.specs.Class.{class_of, or_refusal}
use Rattle.api_json.specs.MountForms.{add_binds}
use Rattle.api_routes.specs.Calls.{of_body}
use Rattle.api_routes.specs.Fault.{and_then, status_of}
use Rattle.api_routes.specs.Keys.{optional_name}
use Rattle.api_routes.specs.RouteClass.{ask}
use Rattle.api_routes.specs.declared.class.Class.{Class}
use Rattle.api_routes.specs.declared.class.Class.TheVariants.{Ask, Stream}
use Rattle.api_routes.specs.declared.class.Takeover.{Takeover}
use Rattle.api_routes.specs.declared.fault.Fault.{Fault}
use Rattle.api_routes.specs.declared.fault.Fault.TheVariants as fault
use Rattle.session_model.specs.declared.terms.Terms.{Terms}
use Rattle.session_model.specs.Exchange.{Flow, is_early, IsMade, IsAnswered}
use Rattle.session_model.specs.Responses.{terms_of, whole_bytes, answer_bytes, takeover_head}
use Rattle.session_model.specs.Session.{ending_of}
use Rattle.client_model.specs.Bodies.{id_in, status_code_in}
use Rattle.client_model.specs.Commands.Attach.{attach_request}
use Rattle.client_model.specs.Commands.Container.{create_request}
use Rattle.client_model.specs.Commands.Remove.{remove_request}
use Rattle.client_model.specs.Commands.Start.{start_request}
use Rattle.client_model.specs.Commands.Wait.{wait_request}
use Rattle.client_model.specs.declared.command.NewContainer.{NewContainer}
use Rattle.client_laws.specs.Classes as class
use Rattle.client_laws.specs.Classes.{Meaning, both_streams, by_name}
use Rattle.client_laws.proofs.ClassLemmas.{start-class, wait-class, remove-class}
use Rattle.client_laws.proofs.StreamClassLemmas.{attach-class}
use Rattle.both_ends.specs.BothEnds.{Visit, Creates, Does, Follows, Takes}
use Rattle.both_ends.proofs.HeadLemmas.{Opens}
use Rattle.both_ends.proofs.ReadLemmas.{status_read, json_read, empty_read, upgraded_read}
use Rattle.both_ends.proofs.KindLemmas.{Refuses, whole_opens, IsRefusal, IsAskOf, IsUpgradeFor, Closes, AnsweredBy, IsFollowed, refused, asked, upgraded}
use Rattle.both_ends.proofs.ReplyLemmas.{has_status, has_ticket, start_small, start_bare, remove_small, remove_bare, create_small, wait_refused, attach_refused, status_in, body_in, TellsId, create_reply}
use Rattle.both_ends.proofs.CodeLemmas.{created_text, id_length, id_read, waited_text, code_read}
use Rattle.both_ends.proofs.WaitLemmas.{IsCode, take_tells}

-- ---- meanings

fault_range : (f : Fault) → (400 ≤ status_of f) × (status_of f < 600)
fault_range fault.PageNotFound = (omega arith, omega arith)
fault_range (fault.VersionTooOld version) = (omega arith, omega arith)
fault_range (fault.VersionTooNew version) = (omega arith, omega arith)
fault_range fault.BadPath = (omega arith, omega arith)
fault_range (fault.InvalidName name) = (omega arith, omega arith)
fault_range (fault.InvalidSignal signal) = (omega arith, omega arith)
fault_range fault.BadSeconds = (omega arith, omega arith)
fault_range fault.BadLimit = (omega arith, omega arith)
fault_range fault.BadTail = (omega arith, omega arith)
fault_range fault.BadCondition = (omega arith, omega arith)
fault_range fault.BadTime = (omega arith, omega arith)
fault_range fault.NoStream = (omega arith, omega arith)
fault_range fault.LinksLeftOut = (omega arith, omega arith)
fault_range (fault.Body f) = (omega arith, omega arith)

-- a request means this, or is refused
abbrev Means : Request → Class → Type 0
Means r x = (class_of r ≡ x) ⊎ IsRefusal (class_of r)

means_by : (r : Request) (m : Meaning) (x : Class) → class_of r ≡ or_refusal m → (m ≡ Ok x) ⊎ ((f : Fault) × (m ≡ Err f)) → Means r x
means_by r m x same (inl is) = inl (same ∙ ap or_refusal is)
means_by r m x same (inr (f, is)) = inr (subst IsRefusal (sym (same ∙ ap or_refusal is)) (fault_range f))

named_by : (b : Bool) (x : Class) → ((if b then Ok x else Err fault.BadPath) ≡ Ok x) ⊎ ((f : Fault) × ((if b then Ok x else Err fault.BadPath) ≡ Err f))
named_by true x = inl refl
named_by false x = inr (fault.BadPath, refl)

named : (name : List ℕ) (x : Class) → (by_name name (Ok x) ≡ Ok x) ⊎ ((f : Fault) × (by_name name (Ok x) ≡ Err f))
named [] x = inr (fault.PageNotFound, refl)
named (b ∷ bs) x = named_by (is_utf8 (b ∷ bs)) x

create_by : {A B C : Type 0} (a : Result A Fault) (b : Result B Fault) (d : Result C Fault) (f : A → B → C → CreateSpec) (m : Meaning)
    → m ≡ ask (and_then a (λ x. and_then b (λ y. and_then d (λ z. Ok (Call.Create (f x y z))))))
    → ((spec : CreateSpec) × (m ≡ Ok (Ask (Call.Create spec)))) ⊎ ((e : Fault) × (m ≡ Err e))
create_by (Err e) b d f m is = inr (e, is)
create_by (Ok x) (Err e) d f m is = inr (e, is)
create_by (Ok x) (Ok y) (Err e) f m is = inr (e, is)
create_by (Ok x) (Ok y) (Ok z) f m is = inl (f x y z, is)

create_means : (c : NewContainer) → ((spec : CreateSpec) × (class.create c ≡ Ok (Ask (Call.Create spec)))) ⊎ ((e : Fault) × (class.create c ≡ Err e))
create_means c =
    create_by (of_body (add_binds [] c.binds)) (of_body (class.policy_in c.restart)) (optional_name (unwrap_or c.name []))
    (λ mounts policy name. class.container_spec c mounts policy name) (class.create c) refl

-- ---- bytes

abbrev pub IsRead : List ℕ → Head → List ℕ → Bool → Type 0
IsRead w h given whole = IsAnswer w true (Answered h given whole)

not_refused : (w : List ℕ) (h : Head) (given : List ℕ) (whole : Bool) → IsRead w h given whole → h.status < 400 → Refuses w → ⊥
not_refused w h given whole x low refuses =
    let same = status_read refuses.0 w h given whole (omega (arith, refuses.2)) refuses.3 x in omega (arith, same, refuses.1, low)

form_opens : (terms : Terms) (status : ℕ) (b : Bool) (body : List ℕ) → Opens status (whole_bytes terms status (if b then Empty else Json (length body)) body)
form_opens terms status true body = whole_opens terms status Empty body refl
form_opens terms status false body = whole_opens terms status (Json (length body)) body refl

answer_opens : (terms : Terms) (status : ℕ) (body : List ℕ) → Opens status (answer_bytes terms status body)
answer_opens terms status body = form_opens terms status (is_bare status) body

-- an answer's status is the one that is read
status_is : (terms : Terms) (status : ℕ) (body w : List ℕ) (h : Head) (given : List ℕ) (whole : Bool) → w ≡ answer_bytes terms status body → status < 2 ^ 64
    → IsRead w h given whole → status ≡ h.status
status_is terms status body w h given whole is small x = status_read status w h given whole small (subst (Opens status) (sym is) (answer_opens terms status body)) x

-- it is refused, where its status is 400 or more
not_answered : (terms : Terms) (status : ℕ) (body w : List ℕ) (h : Head) (given : List ℕ) (whole : Bool) → w ≡ answer_bytes terms status body → (400 ≤ status) × (status < 600)
    → IsRead w h given whole → h.status < 400 → ⊥
not_answered terms status body w h given whole is range x low =
    let same = status_is terms status body w h given whole is (omega (arith, range.1)) x in omega (arith, same, range.0, low)

-- with its body, where the request isn't HEAD
sent_whole : (terms : Terms) (status : ℕ) (form : Form) (body : List ℕ) → terms.bare ≡ false
    → whole_bytes terms status form body ≡ head_by form status terms.close ++ body
sent_whole terms status form body is = ap (λ b. if b then head_by form status terms.close else head_by form status terms.close ++ body) is

bare_read : (terms : Terms) (status : ℕ) (body w : List ℕ) (h : Head) (given : List ℕ) (whole : Bool) → terms.bare ≡ false → status < 2 ^ 64 → 102 ≤ status → is_bare status ≡ true
    → w ≡ answer_bytes terms status body → IsRead w h given whole → (whole ≡ true) × (given ≡ [])
bare_read terms status body w h given whole sends small more bare is x =
    let bytes : w ≡ framed_head status terms.close Empty ++ body =
    is ∙ (ap (λ b. whole_bytes terms status (if b then Empty else Json (length body)) body) bare ∙ sent_whole terms status Empty body sends) in
    empty_read status terms.close body w h given whole small more x bytes

body_read : (terms : Terms) (status : ℕ) (body w : List ℕ) (h : Head) (given : List ℕ) (whole : Bool) → terms.bare ≡ false → status < 2 ^ 64 → 102 ≤ status → is_bare status ≡ false
    → length body < 2 ^ 64 → w ≡ answer_bytes terms status body → IsRead w h given whole → (whole ≡ true) × (given ≡ body)
body_read terms status body w h given whole sends small more full fits is x =
    let bytes : w ≡ framed_head status terms.close (Json (length body)) ++ body =
    is ∙ (ap (λ b. whole_bytes terms status (if b then Empty else Json (length body)) body) full ∙ sent_whole terms status (Json (length body)) body sends) in
    json_read status terms.close body w h given whole small more x fits bytes

-- ---- a session's answer

-- what answered a request in a visit that closed behind it
pub record Answers (ch : Charter) (v : Visit) (r : Request) : Type 0 where
  pub legal : IsLegal ch v.span.to
  pub behind : List ℕ
  pub flow : Flow
  pub moments : List ℕ
  pub answered : IsAnswered ch v.number r behind v.span.from v.span.to flow v.span.written moments
  pub closes : Closes (ending_of flow)

module _ (ch : Charter) (v : Visit) (r : Request) (a : Answers ch v r) (h : Head) (given : List ℕ) (whole : Bool)
    (x : IsRead v.span.written h given whole) (low : h.status < 400) where
  -- no refusal is read
  unrefused : IsRefusal (class_of r) → ⊥
  unrefused is = not_refused v.span.written h given whole x low (refused ch v.number r a.behind v.span.from v.span.to is a.flow v.span.written a.moments a.answered)

  -- the call that was asked
  call_asked : (c : Call) → Means r (Ask c) → IsFalse (is_early r c) → AnsweredBy ch v.number r a.behind v.span.from v.span.to c v.span.written
  call_asked c (inr refusal) late = absurd (unrefused refusal)
  call_asked c (inl is) late = by (asked ch v.number r a.behind v.span.from v.span.to c (subst (IsAskOf c) (sym is) refl) late a.flow v.span.written a.moments a.answered a.closes)
    where
      by : AnsweredBy ch v.number r a.behind v.span.from v.span.to c v.span.written ⊎ Refuses v.span.written → AnsweredBy ch v.number r a.behind v.span.from v.span.to c v.span.written
      by (inl answer) = answer
      by (inr refuses) = absurd (not_refused v.span.written h given whole x low refuses)

  -- what is answered by its call's reply, as none of its tickets is
  made : (c : Call) → gives_ticket c ≡ false → Means r (Ask c) → IsFalse (is_early r c)
      → (status : ℕ) × (body : List ℕ) × (v.span.written ≡ answer_bytes (terms_of r) status body) × IsMade ch v.number v.number c v.span.from v.span.to (Reply.Answer status body)
  made c none means late = by (call_asked c means late)
    where
      by : AnsweredBy ch v.number r a.behind v.span.from v.span.to c v.span.written
          → (status : ℕ) × (body : List ℕ) × (v.span.written ≡ answer_bytes (terms_of r) status body) × IsMade ch v.number v.number c v.span.from v.span.to (Reply.Answer status body)
      by (status, body, is, inl (m, at)) = (status, body, is, at.0)
      by (status, body, is, inr (ms, waits)) =
          let begun : IsMade ch v.number v.number c v.span.from waits.4 (Reply.Begun waits.0) = waits.6.0 in
          absurd (false≢true (sym none ∙ has_ticket ch v.number c v.span.from waits.4 waits.0 begun))

  -- an answer without a body
  done_read : (c : Call) → gives_ticket c ≡ false → Means r (Ask c) → IsFalse (is_early r c) → (terms_of r).bare ≡ false
      → ((status : ℕ) → is_status_of c status ≡ true → status < 2 ^ 64)
      → ((status : ℕ) → is_status_of c status ≡ true → status < 400 → (is_bare status ≡ true) × (102 ≤ status)) → (whole ≡ true) × Does ch v c
  done_read c none means late sends small bare =
      let m = made c none means late in
      let has = has_status ch v.number c v.span.from v.span.to m.0 m.1 m.3 in
      let same = status_is (terms_of r) m.0 m.1 v.span.written h given whole m.2 (small m.0 has) x in
      let range = bare m.0 has (omega (arith, same, low)) in
      ((bare_read (terms_of r) m.0 m.1 v.span.written h given whole sends (small m.0 has) range.1 range.0 m.2 x).0, (m.0, m.1, m.3, omega (arith, same, low)))

  -- a create
  created_fits : (seed : List ℕ) (n : ℕ) → length (created_text (id_of seed n)) < 2 ^ 64
  created_fits seed n =
      omega (
        arith,
        length-append (codes "{\"Id\":\"" ++ id_of seed n) (codes "\",\"Warnings\":[]}"),
        length-append (codes "{\"Id\":\"") (id_of seed n),
        id_length seed n,
      )

  created_read : (spec : CreateSpec) → Means r (Ask (Call.Create spec)) → (terms_of r).bare ≡ false
      → (whole ≡ true) × (id : List ℕ) × (id_in given ≡ Some id) × Creates ch v id
  created_read spec means sends =
      let m = made (Call.Create spec) refl means refl in
      let has = has_status ch v.number (Call.Create spec) v.span.from v.span.to m.0 m.1 m.3 in
      let small = create_small spec m.0 has in
      let same = status_is (terms_of r) m.0 m.1 v.span.written h given whole m.2 small x in
      let t : TellsId m.0 m.1 = create_reply ch v.number spec v.span.from v.span.to m.0 m.1 (omega (arith, same, low)) m.3 in
      let is : v.span.written ≡ answer_bytes (terms_of r) 201 (created_text (id_of t.0 t.1)) =
      m.2 ∙ (ap (λ s. answer_bytes (terms_of r) s m.1) t.2 ∙ ap (answer_bytes (terms_of r) 201) t.3) in
      let read = body_read (terms_of r) 201 (created_text (id_of t.0 t.1)) v.span.written h given whole sends (omega arith) (omega arith) refl (created_fits t.0 t.1) is x in
      let told : id_in m.1 ≡ Some (id_of t.0 t.1) = ap id_in t.3 ∙ id_read t.0 t.1 in (
        read.0,
        id_of t.0 t.1,
        ap id_in read.1 ∙ id_read t.0 t.1,
        (spec, m.1, subst (λ s. IsMade ch v.number v.number (Call.Create spec) v.span.from v.span.to (Reply.Answer s m.1)) t.2 m.3, told),
      )

  -- a wait
  waited_fits : (code : ℕ) → code < 256 → length (waited_text code) < 2 ^ 64
  waited_fits code less =
      omega (
        arith,
        length-append (codes "{\"StatusCode\":" ++ decimal code) (codes "}"),
        length-append (codes "{\"StatusCode\":") (decimal code),
        length-decimal-le_succ code (omega (arith, less)),
        less,
      )

  -- what is told by a wait's ticket
  abbrev WaitTold : List ℕ → Type 0
  WaitTold id = (whole ≡ true) × (code : ℕ) × (status_code_in given ≡ Some code) × Takes ch v (Call.Wait id NotRunning) code

  code_told : (id : List ℕ) (status : ℕ) (body : List ℕ) (n : ℕ) (mid : List Step) → (terms_of r).bare ≡ false → v.span.written ≡ answer_bytes (terms_of r) status body
      → IsMade ch v.number v.number (Call.Wait id NotRunning) v.span.from mid (Reply.Begun n) → IsMade ch v.number v.number (Call.Take n) mid v.span.to (Reply.Answer status body) → WaitTold id
  unfolding status_in body_in
  code_told id status body n mid sends is begun takes =
      let t : IsCode status body = take_tells ch v.number id NotRunning v.span.from v.span.to mid n status body a.legal begun takes in
      let bytes : v.span.written ≡ answer_bytes (terms_of r) 200 (waited_text t.0) =
      is ∙ (ap (λ s. answer_bytes (terms_of r) s body) (ap status_in t.2) ∙ ap (answer_bytes (terms_of r) 200) (ap body_in t.2)) in
      let read = body_read (terms_of r) 200 (waited_text t.0) v.span.written h given whole sends (omega arith) (omega arith) refl (waited_fits t.0 t.1) bytes x in (
        read.0,
        t.0,
        ap status_code_in read.1 ∙ code_read t.0 t.1,
        (n, mid, begun, subst (λ reply. IsMade ch v.number v.number (Call.Take n) mid v.span.to reply) t.2 takes),
      )

  waited_read : (id : List ℕ) → Means r (Ask (Call.Wait id NotRunning)) → IsFalse (is_early r (Call.Wait id NotRunning)) → (terms_of r).bare ≡ false → WaitTold id
  waited_read id means late sends = by (call_asked (Call.Wait id NotRunning) means late)
    where
      by : AnsweredBy ch v.number r a.behind v.span.from v.span.to (Call.Wait id NotRunning) v.span.written → WaitTold id
      by (status, body, is, inl (m, at)) =
          let has = has_status ch v.number (Call.Wait id NotRunning) v.span.from v.span.to status body at.0 in
          absurd (not_answered (terms_of r) status body v.span.written h given whole is (wait_refused id NotRunning status has) x low)
      by (status, body, is, inr (ms, waits)) = code_told id status body waits.0 waits.4 sends is waits.6.0 waits.7.0

  -- an attach
  abbrev Followed : Call → Type 0
  Followed c =
      (whole ≡ true) × (spec : LogSpec) × (records : List LogRecord) × (given ≡ framed (map (part_of spec) records)) × Follows ch v c spec records

  follows_so : (c : Call) → IsFollowed ch v.number r a.behind v.span.from v.span.to c v.span.written → Followed c
  follows_so c f =
      let read = upgraded_read f.body v.span.written h given whole f.bytes_are x in
      let spec : LogSpec = f.spec in
      let records : List LogRecord = log_records (state_after ch f.tells.0) f.spec f.spec.first f.tells.3.1.0 in (
        read.0,
        spec,
        records,
        read.1 ∙ f.tells.3.1.2,
        record {
          mid = f.mid;
          made = f.made.0;
          at = f.tells.0;
          behind = f.tells.1;
          seen = f.tells.2;
          kept = f.tells.3.0;
          end = f.tells.3.1.0;
          end_is = f.tells.3.1.1;
          records_are = refl;
          wrote = f.bytes_are ∙ ap (λ l. takeover_head Takeover.Upgrade ++ l) f.tells.3.1.2;
        },
      )

  attached_read : (id : List ℕ) (input : Bool) → Means r (Stream (Call.Attach id (both_streams input)) Takeover.Upgrade) → Followed (Call.Attach id (both_streams input))
  attached_read id input (inr refusal) = absurd (unrefused refusal)
  attached_read id input (inl is) =
      by (upgraded ch v.number r a.behind v.span.from v.span.to c (subst (IsUpgradeFor c) (sym is) refl) a.flow v.span.written a.moments a.answered a.closes)
    where
      c : Call
      c = Call.Attach id (both_streams input)

      by : IsFollowed ch v.number r a.behind v.span.from v.span.to c v.span.written
          ⊎ (AnsweredBy ch v.number r a.behind v.span.from v.span.to c v.span.written ⊎ Refuses v.span.written) → Followed c
      by (inl f) = follows_so c f
      by (inr (inl (status, body, is, inl (m, at)))) =
          let has = has_status ch v.number c v.span.from v.span.to status body at.0 in
          absurd (not_answered (terms_of r) status body v.span.written h given whole is (attach_refused id (both_streams input) status has) x low)
      by (inr (inl (status, body, is, inr (ms, waits)))) =
          absurd (false≢true (has_ticket ch v.number c v.span.from waits.4 waits.0 waits.6.0))
      by (inr (inr refuses)) = absurd (not_refused v.span.written h given whole x low refuses)

-- ---- the requests of a run

module _ (ch : Charter) (v : Visit) (h : Head) (given : List ℕ) (whole : Bool) (x : IsRead v.span.written h given whole) (low : h.status < 400) where
  pub start_read : (id : List ℕ) → All IsByte id → Answers ch v (start_request id) → (whole ≡ true) × Does ch v (Call.Start id)
  start_read id bytes a =
      done_read ch v (start_request id) a h given whole x low (Call.Start id) refl
      (means_by (start_request id) (class.start id) (Ask (Call.Start id)) (start-class id bytes) (named id (Ask (Call.Start id)))) refl refl (start_small id) (start_bare id)

  pub remove_read : (id : List ℕ) → All IsByte id → Answers ch v (remove_request id false) → (whole ≡ true) × Does ch v (Call.Remove id false)
  remove_read id bytes a =
      done_read ch v (remove_request id false) a h given whole x low (Call.Remove id false) refl
      (means_by (remove_request id false) (class.remove id false) (Ask (Call.Remove id false)) (remove-class id false bytes) (named id (Ask (Call.Remove id false)))) refl refl
      (remove_small id) (remove_bare id)

  pub wait_read : (id : List ℕ) → All IsByte id → Answers ch v (wait_request id)
      → (whole ≡ true) × (code : ℕ) × (status_code_in given ≡ Some code) × Takes ch v (Call.Wait id NotRunning) code
  wait_read id bytes a =
      waited_read ch v (wait_request id) a h given whole x low id
      (means_by (wait_request id) (class.wait id) (Ask (Call.Wait id NotRunning)) (wait-class id bytes) (named id (Ask (Call.Wait id NotRunning)))) refl refl

  pub attach_read : (id : List ℕ) (input : Bool) → All IsByte id → Answers ch v (attach_request id input)
      → (whole ≡ true) × (spec : LogSpec) × (records : List LogRecord) × (given ≡ framed (map (part_of spec) records)) × Follows ch v (Call.Attach id (both_streams input)) spec records
  attach_read id input bytes a =
      attached_read ch v (attach_request id input) a h given whole x low id input
      (means_by (attach_request id input) (class.attach id input) (Stream (Call.Attach id (both_streams input)) Takeover.Upgrade) (attach-class id input bytes)
      (named id (Stream (Call.Attach id (both_streams input)) Takeover.Upgrade)))

  -- of a create whose class is known
  pub create_read : (c : NewContainer) → class_of (create_request c) ≡ or_refusal (class.create c) → Answers ch v (create_request c)
      → (whole ≡ true) × (id : List ℕ) × (id_in given ≡ Some id) × Creates ch v id
  create_read c same a = by (create_means c)
    where
      by : ((spec : CreateSpec) × (class.create c ≡ Ok (Ask (Call.Create spec)))) ⊎ ((f : Fault) × (class.create c ≡ Err f))
          → (whole ≡ true) × (id : List ℕ) × (id_in given ≡ Some id) × Creates ch v id
      by (inl (spec, is)) = created_read ch v (create_request c) a h given whole x low spec (means_by (create_request c) (class.create c) (Ask (Call.Create spec)) same (inl is)) refl
      by (inr (f, is)) = absurd (unrefused ch v (create_request c) a h given whole x low (subst IsRefusal (sym (same ∙ ap or_refusal is)) (fault_range f)))
