-- What an answer is, by the class of its request, where its session closed.
use Rattle.std.proofs.Common.{arith, ◌≡◌, ◌<◌, ◌≤◌, inl, inr, ◌⊎◌, ℕ, List, [], ◌++◌, length, codes, Bool, true, false, Option, Some, IsTrue, if◌then◌else◌, refl, sym, ap, subst, ◌∙◌, append-nil}
use Rattle.std.specs.Prelude.{IsFalse}
use Rattle.std.proofs.lemmas.Bool.{false≢true}
use Rattle.engine_text.specs.declared.call.Call.{Call}
use Rattle.engine_text.specs.declared.reply.LogSpec.{LogSpec}
use Rattle.engine_text.specs.declared.reply.Reply.TheVariants.{Answer, LogStream}
use Rattle.engine_text.specs.declared.step.Step.{Step}
use Rattle.machine_model.specs.History.{Charter}
use Rattle.machine_model.specs.Outcome.{message_text}
use Rattle.machine_model.proofs.Fold.RowLemmas.{same_some}
use Rattle.http_edge.specs.Message.{Request}
use Rattle.http_edge.specs.Response.{head_by}
use Rattle.http_edge.specs.declared.head.Form.{Form}
use Rattle.http_edge.specs.declared.head.Form.TheVariants.{Json, Plain}
use Rattle.response_reader.specs.Matching.{is_framed}
use Rattle.api_routes.specs.Class.{class_of}
use Rattle.api_routes.specs.declared.class.Class.{Class}
use Rattle.api_routes.specs.declared.class.Class.TheVariants.{Direct, Ask, Stream}
use Rattle.api_routes.specs.declared.class.DirectKind.{DirectKind}
use Rattle.api_routes.specs.declared.class.DirectKind.TheVariants as direct
use Rattle.api_routes.specs.declared.class.Takeover.{Takeover}
use Rattle.session_model.specs.declared.ending.Ending.{Ending}
use Rattle.session_model.specs.declared.ending.Ending.TheVariants.{Closed}
use Rattle.session_model.specs.declared.followed.Followed.{Followed}
use Rattle.session_model.specs.declared.followed.Followed.TheVariants as F
use Rattle.session_model.specs.declared.followed.PumpEnd.{PumpEnd}
use Rattle.session_model.specs.declared.terms.Terms.{Terms}
use Rattle.session_model.specs.Exchange.{Flow, Leaves, call_of, is_early, is_whole, IsMadeAt, IsWaited, IsBody, IsAnswered, IsAnsweredWhole, IsSentInChunks, AtOnce, InChunks, TakenOver, HeadIsLost, WaitIsStopped, FromItsBytes, ByItsCall, ByItsTicket, JournalIsFull, OutOfMemory, DroppedForMemory, OfStream, OfWait, OfBrokenWait}
use Rattle.session_model.specs.Responses.{terms_of, whole_bytes, answer_bytes, message_bytes, direct_of_kind, takeover_head}
use Rattle.session_model.specs.Session.{ending_of}
use Rattle.both_ends.proofs.HeadLemmas.{Opens, framed_opens}

-- ---- refusals

-- the bytes begin with a status of 400 or more
abbrev pub Refuses : List ℕ → Type 0
Refuses w = (status : ℕ) × (400 ≤ status) × (status < 600) × Opens status w

opens_by : (bare close : Bool) (status : ℕ) (form : Form) (body : List ℕ) → is_framed form ≡ true
    → Opens status (if bare then head_by form status close else head_by form status close ++ body)
opens_by false close status form body is = framed_opens form status close body is
opens_by true close status form body is =
    let o = framed_opens form status close [] is in (o.0, sym (append-nil (head_by form status close)) ∙ o.1, o.2)

pub whole_opens : (terms : Terms) (status : ℕ) (form : Form) (body : List ℕ) → is_framed form ≡ true → Opens status (whole_bytes terms status form body)
whole_opens terms status form body is = opens_by terms.bare terms.close status form body is

message_refuses : (terms : Terms) (status : ℕ) (text : List ℕ) → 400 ≤ status → status < 600 → Refuses (message_bytes terms status text)
message_refuses terms status text more less = (status, more, less, whole_opens terms status (Json (length (message_text text))) (message_text text) refl)

direct_opens : (terms : Terms) (kind : DirectKind) (status : ℕ) (text : List ℕ) → Opens status (direct_of_kind terms kind status text)
direct_opens terms direct.Message status text = whole_opens terms status (Json (length (message_text text))) (message_text text) refl
direct_opens terms direct.Json status text = whole_opens terms status (Json (length text)) text refl
direct_opens terms direct.Plain status text = whole_opens terms status (Plain (length text)) text refl

-- ---- classes

-- an answer at once, of a status of 400 or more
abbrev pub IsRefusal : Class → Type 0
IsRefusal (Direct answer) = (400 ≤ answer.status) × (answer.status < 600)
IsRefusal other = ⊥

abbrev pub IsAskOf : Call → Class → Type 0
IsAskOf c (Ask d) = d ≡ c
IsAskOf c other = ⊥

-- an upgrade for the stream of this call
abbrev pub IsUpgradeFor : Call → Class → Type 0
IsUpgradeFor c (Stream d Takeover.Upgrade) = d ≡ c
IsUpgradeFor c other = ⊥

ask_call : (c d : Call) (x : Class) → IsAskOf c x → call_of x ≡ Some d → d ≡ c
ask_call c d (Direct answer) is asks = absurd is
ask_call c d (Ask e) is asks = sym (same_some e d asks) ∙ is
ask_call c d (Stream e t) is asks = absurd is

upgrade_call : (c d : Call) (x : Class) → IsUpgradeFor c x → call_of x ≡ Some d → d ≡ c
upgrade_call c d (Direct answer) is asks = absurd is
upgrade_call c d (Ask e) is asks = absurd is
upgrade_call c d (Stream e Takeover.Upgrade) is asks = sym (same_some e d asks) ∙ is
upgrade_call c d (Stream e Takeover.Plain) is asks = absurd is
upgrade_call c d (Stream e Takeover.None) is asks = absurd is

-- a session that closes
abbrev pub Closes : Option Ending → Type 0
Closes (Some Closed) = Unit {0}
Closes other = ⊥

module _ (ch : Charter) (k : ℕ) (r : Request) (behind : List ℕ) (a b : List Step) where
  -- ---- a refusal

  refused_whole : IsRefusal (class_of r) → (w ms : List ℕ) → IsAnsweredWhole ch k r behind a b w ms → Refuses w
  refused_whole h w ms (FromItsBytes answer is quiet) =
      let range = subst IsRefusal is h in (answer.status, range.0, range.1, direct_opens (terms_of r) answer.kind answer.status answer.text)
  refused_whole h w ms (ByItsCall c status m body asks made) = absurd (calls_none (class_of r) h asks)
    where
      calls_none : (x : Class) → IsRefusal x → call_of x ≡ Some c → ⊥
      calls_none (Direct answer) h asks = cc
      calls_none (Ask d) h asks = h
      calls_none (Stream d t) h asks = h
  refused_whole h w ms (ByItsTicket c status body ns is late waited) = absurd (subst IsRefusal is h)
  refused_whole h w ms (JournalIsFull c m asks quiet full) = message_refuses (terms_of r) 503 (codes "journal is full") (omega arith) (omega arith)
  refused_whole h w ms (OutOfMemory ns quiet asked once) = message_refuses (terms_of r) 500 (codes "out of memory") (omega arith) (omega arith)
  refused_whole h w ms (DroppedForMemory c ns is late given) = message_refuses (terms_of r) 500 (codes "out of memory") (omega arith) (omega arith)

  refused_chunks : IsRefusal (class_of r) → (f : Followed) (head body ms : List ℕ) → IsSentInChunks ch k r behind a b f head body ms → ⊥
  refused_chunks h f head body ms (OfStream c reply g mid m bytes ns is made quiet tells ends comes) = subst IsRefusal is h
  refused_chunks h f head body ms (OfWait c bytes ns is early waited) = subst IsRefusal is h
  refused_chunks h f head body ms (OfBrokenWait c g ns is early broke given) = subst IsRefusal is h

  pub refused : IsRefusal (class_of r) → (flow : Flow) (w ms : List ℕ) → IsAnswered ch k r behind a b flow w ms → Refuses w
  refused h flow w ms (AtOnce v ns row) = refused_whole h v ns row
  refused h flow w ms (InChunks f head body chunks ns row cut) = absurd (refused_chunks h f head body ns row)
  refused h flow w ms (TakenOver c t spec f end mid m body ns is over made pumps tells ends) = absurd (subst IsRefusal is h)
  refused h flow w ms (HeadIsLost c t reply m is made stream) = absurd (subst IsRefusal is h)
  refused h flow w ms (WaitIsStopped c ns is late given) = absurd (subst IsRefusal is h)

  -- ---- a call

  -- it was answered by the call's reply, or by that of its ticket
  abbrev pub AnsweredBy : Call → List ℕ → Type 0
  AnsweredBy c w =
      (status : ℕ) × (body : List ℕ) × (w ≡ answer_bytes (terms_of r) status body)
      × (((m : ℕ) × IsMadeAt ch k m c a b (Answer status body)) ⊎ ((ms : List ℕ) × IsWaited ch k c ms a b (Answer status body)))

  asked_whole : (c : Call) → IsAskOf c (class_of r) → (w ms : List ℕ) → IsAnsweredWhole ch k r behind a b w ms → AnsweredBy c w ⊎ Refuses w
  asked_whole c h w ms (FromItsBytes answer is quiet) = absurd (subst (IsAskOf c) is h)
  asked_whole c h w ms (ByItsCall d status m body asks made) =
      inl (status, body, refl, inl (m, subst (λ e. IsMadeAt ch k m e a b (Answer status body)) (ask_call c d (class_of r) h asks) made))
  asked_whole c h w ms (ByItsTicket d status body ns is late waited) =
      inl (status, body, refl, inr (ns, subst (λ e. IsWaited ch k e ns a b (Answer status body)) (subst (IsAskOf c) is h) waited))
  asked_whole c h w ms (JournalIsFull d m asks quiet full) = inr (message_refuses (terms_of r) 503 (codes "journal is full") (omega arith) (omega arith))
  asked_whole c h w ms (OutOfMemory ns quiet asked once) = inr (message_refuses (terms_of r) 500 (codes "out of memory") (omega arith) (omega arith))
  asked_whole c h w ms (DroppedForMemory d ns is late given) = inr (message_refuses (terms_of r) 500 (codes "out of memory") (omega arith) (omega arith))

  not_early : (c d : Call) → d ≡ c → IsFalse (is_early r c) → IsTrue (is_early r d) → ⊥
  not_early c d same late early = false≢true (sym late ∙ (ap (is_early r) (sym same) ∙ early))

  asked_chunks : (c : Call) → IsAskOf c (class_of r) → IsFalse (is_early r c) → (f : Followed) (head body ms : List ℕ)
      → IsSentInChunks ch k r behind a b f head body ms → ⊥
  asked_chunks c h late f head body ms (OfStream d reply g mid m bytes ns is made quiet tells ends comes) = subst (IsAskOf c) is h
  asked_chunks c h late f head body ms (OfWait d bytes ns is early waited) = not_early c d (subst (IsAskOf c) is h) late early
  asked_chunks c h late f head body ms (OfBrokenWait d g ns is early broke given) = not_early c d (subst (IsAskOf c) is h) late early

  pub asked : (c : Call) → IsAskOf c (class_of r) → IsFalse (is_early r c) → (flow : Flow) (w ms : List ℕ) → IsAnswered ch k r behind a b flow w ms
      → Closes (ending_of flow) → AnsweredBy c w ⊎ Refuses w
  asked c h late flow w ms (AtOnce v ns row) closes = asked_whole c h v ns row
  asked c h late flow w ms (InChunks f head body chunks ns row cut) closes = absurd (asked_chunks c h late f head body ns row)
  asked c h late flow w ms (TakenOver d t spec f end mid m body ns is over made pumps tells ends) closes = absurd (subst (IsAskOf c) is h)
  asked c h late flow w ms (HeadIsLost d t reply m is made stream) closes = absurd (subst (IsAskOf c) is h)
  asked c h late flow w ms (WaitIsStopped d ns is waits given) closes = absurd closes

  -- ---- an upgrade

  -- it gave a stream, which was followed to its end
  pub record IsFollowed (c : Call) (w : List ℕ) : Type 0 where
    pub spec : LogSpec
    pub mid : List Step
    pub m : ℕ
    pub body : List ℕ
    pub made : IsMadeAt ch k m c a mid (LogStream spec)
    pub tells : IsBody ch (LogStream spec) true mid b body
    pub bytes_are : w ≡ takeover_head Takeover.Upgrade ++ body

  upgraded_whole : (c : Call) → IsUpgradeFor c (class_of r) → (w ms : List ℕ) → IsAnsweredWhole ch k r behind a b w ms → AnsweredBy c w ⊎ Refuses w
  upgraded_whole c h w ms (FromItsBytes answer is quiet) = absurd (subst (IsUpgradeFor c) is h)
  upgraded_whole c h w ms (ByItsCall d status m body asks made) =
      inl (status, body, refl, inl (m, subst (λ e. IsMadeAt ch k m e a b (Answer status body)) (upgrade_call c d (class_of r) h asks) made))
  upgraded_whole c h w ms (ByItsTicket d status body ns is late waited) = absurd (subst (IsUpgradeFor c) is h)
  upgraded_whole c h w ms (JournalIsFull d m asks quiet full) = inr (message_refuses (terms_of r) 503 (codes "journal is full") (omega arith) (omega arith))
  upgraded_whole c h w ms (OutOfMemory ns quiet asked once) = inr (message_refuses (terms_of r) 500 (codes "out of memory") (omega arith) (omega arith))
  upgraded_whole c h w ms (DroppedForMemory d ns is late given) = absurd (subst (IsUpgradeFor c) is h)

  upgraded_chunks : (c : Call) → IsUpgradeFor c (class_of r) → (f : Followed) (head body ms : List ℕ) → IsSentInChunks ch k r behind a b f head body ms → ⊥
  upgraded_chunks c h f head body ms (OfStream d reply g mid m bytes ns is made quiet tells ends comes) = subst (IsUpgradeFor c) is h
  upgraded_chunks c h f head body ms (OfWait d bytes ns is early waited) = subst (IsUpgradeFor c) is h
  upgraded_chunks c h f head body ms (OfBrokenWait d g ns is early broke given) = subst (IsUpgradeFor c) is h

  -- behind the stream of a call that takes the connection over
  taken_over : (c d : Call) (t : Takeover) (spec : LogSpec) (f : Followed) (end : Option PumpEnd) (mid : List Step) (m : ℕ) (body : List ℕ)
      → IsUpgradeFor c (Stream d t) → IsMadeAt ch k m d a mid (LogStream spec) → IsBody ch (LogStream spec) (is_whole f) mid b body
      → Closes (ending_of (Leaves f end)) → IsFollowed c (takeover_head t ++ body)
  taken_over c d Takeover.Upgrade spec F.Whole end mid m body is made tells closes = record {
    spec = spec;
    mid = mid;
    m = m;
    body = body;
    made = subst (λ e. IsMadeAt ch k m e a mid (LogStream spec)) is made;
    tells = tells;
    bytes_are = refl;
  }
  taken_over c d Takeover.Upgrade spec F.Stopped end mid m body is made tells closes = absurd closes
  taken_over c d Takeover.Upgrade spec (F.Lagged next first) end mid m body is made tells closes = absurd closes
  taken_over c d Takeover.Upgrade spec F.WriteFault end mid m body is made tells closes = absurd closes
  taken_over c d Takeover.Upgrade spec F.NoMemory end mid m body is made tells closes = absurd closes
  taken_over c d Takeover.Plain spec f end mid m body is made tells closes = absurd is
  taken_over c d Takeover.None spec f end mid m body is made tells closes = absurd is

  pub upgraded : (c : Call) → IsUpgradeFor c (class_of r) → (flow : Flow) (w ms : List ℕ) → IsAnswered ch k r behind a b flow w ms
      → Closes (ending_of flow) → IsFollowed c w ⊎ (AnsweredBy c w ⊎ Refuses w)
  upgraded c h flow w ms (AtOnce v ns row) closes = inr (upgraded_whole c h v ns row)
  upgraded c h flow w ms (InChunks f head body chunks ns row cut) closes = absurd (upgraded_chunks c h f head body ns row)
  upgraded c h flow w ms (TakenOver d t spec f end mid m body ns is over made pumps tells ends) closes =
      inl (taken_over c d t spec f end mid m body (subst (IsUpgradeFor c) is h) made tells closes)
  upgraded c h flow w ms (HeadIsLost d t reply m is made stream) closes = absurd closes
  upgraded c h flow w ms (WaitIsStopped d ns is late given) closes = absurd closes
