-- A run goes on by its answers, step by step, to its end.
use Rattle.std.proofs.Common.{arith, ◌≡◌, ◌<◌, ◌&&◌, inl, inr, ℕ, List, [], ◌∷◌, ◌++◌, map, Bool, true, false, Option, Some, None, if◌then◌else◌, refl, sym, ap, subst, ◌∙◌, append-nil, All}
use Rattle.std.specs.Prelude.{nat_lt, option_map}
use Rattle.std.specs.Option.{option_map_or}
use Rattle.std.specs.List.{AllZip}
use Rattle.std.proofs.lemmas.Bool.Decides.{nat_tests}
use Rattle.percent_encoding.proofs.PercentLemmas.{IsByte}
use Rattle.engine_text.specs.Words.{AreUtf8}
use Rattle.engine_text.specs.declared.call.Call.{Call}
use Rattle.engine_text.specs.declared.call.Until.TheVariants.{NotRunning}
use Rattle.engine_text.specs.declared.log.LogRecord.{LogRecord}
use Rattle.engine_text.specs.declared.reply.LogSpec.{LogSpec}
use Rattle.machine_model.specs.History.{Charter}
use Rattle.machine_model.specs.LogStream.{part_of}
use Rattle.machine_model.proofs.Fold.RowLemmas.{same_some}
use Rattle.http_edge.specs.Message.{Request}
use Rattle.http_edge.specs.declared.head.Head.{Head}
use Rattle.response_reader.specs.Answers.{Answer, NoHead, Answered}
use Rattle.api_routes.specs.Class.{class_of, or_refusal}
use Rattle.api_routes.specs.declared.class.Class.{Class}
use Rattle.session_model.specs.declared.ending.Ending.TheVariants.{Closed}
use Rattle.session_model.specs.Exchange.{Flow, IsAnswered}
use Rattle.session_model.specs.Session.{IsWritten, ending_of}
use Rattle.engine_ports.specs.Sink.{SinkView}
use Rattle.client_model.specs.Bodies.{id_in, status_code_in}
use Rattle.client_model.specs.Client.{said_by, result_at, plan_for, plan_of}
use Rattle.client_model.specs.Plans.{Plan, Asks, Written, Done, nothing, joined, writes, ends, fails, goes_on, reads, refuses, kept, line_to, named, by_answer_to, asks}
use Rattle.client_model.specs.Streams.{payloads_of, ends_frames, follows}
use Rattle.client_model.specs.Commands.Attach.{attach_request}
use Rattle.client_model.specs.Commands.Container.{create_request}
use Rattle.client_model.specs.Commands.Remove.{remove_request}
use Rattle.client_model.specs.Commands.Run.{removes, run_plan}
use Rattle.client_model.specs.Commands.Start.{start_request}
use Rattle.client_model.specs.Commands.Wait.{wait_request}
use Rattle.client_model.specs.declared.command.NewContainer.{NewContainer}
use Rattle.client_model.specs.declared.fault.Fault.TheVariants as F
use Rattle.client_laws.specs.Asked.{entries_of}
use Rattle.client_laws.specs.Classes as class
use Rattle.client_laws.specs.Classes.{both_streams}
use Rattle.client_laws.specs.Table.{Entry, calls_of}
use Rattle.client_laws.proofs.IdLemmas.{id-bytes}
use Rattle.client_laws.proofs.LineLemmas.{asks-calls}
use Rattle.both_ends.specs.BothEnds.{Visit, Served, Reads, IsRun, Creates, Does, Removes, Follows, Takes, BothEnds}
use Rattle.both_ends.proofs.FrameLemmas.{carried, framed_shown, framed_end}
use Rattle.both_ends.proofs.KindLemmas.{Closes}
use Rattle.both_ends.proofs.AnswerLemmas.{Answers, create_read, start_read, attach_read, wait_read, remove_read}

-- ---- a visit's session, by its one answer

closed_by : (flow : Flow) (whole w : List ℕ) (u u' : SinkView) → IsWritten Closed flow whole w u u' → Closes (ending_of flow) × (w ≡ whole)
closed_by flow whole w u u' (inl h) = (subst Closes (sym h.0) tt, h.1)
closed_by flow whole w u u' (inr h) = absurd (subst (λ e. Closes (Some e)) h.0 tt)

answers_of : (ch : Charter) (v : Visit) (r : Request) → Served ch v r → Answers ch v r
answers_of ch v r s =
    let closed = closed_by s.answers.flow s.answers.whole v.span.written v.span.old.sink v.span.new.sink s.answers.written in
    record {
      legal = s.legal;
      behind = s.behind;
      flow = s.answers.flow;
      moments = v.span.handed;
      answered = subst (λ w. IsAnswered ch v.number r s.behind v.span.from v.span.to s.answers.flow w v.span.handed) (sym closed.1) s.answers.answered;
      closes = closed.0;
    }

-- ---- plans

-- the visits served what the plan asks, by these answers
abbrev Goes : Charter → Plan → List Visit → List Answer → Type 0
Goes ch plan visits answers = AllZip (λ v asked. Served ch v asked.request) visits (said_by plan None answers).asked × AllZip Reads visits answers

-- the plan comes to its end by these answers: it writes this, and ends with this status
record Says (plan : Plan) (answers : List Answer) (w : Written) (code : ℕ) : Type 0 where
  pub out : (said_by plan None answers).written.out ≡ w.out
  pub err : (said_by plan None answers).written.err ≡ w.err
  pub end : (said_by plan None answers).end ≡ Some (Done code)

low_test : (status : ℕ) → status < 400 → nat_lt status 400 ≡ true
low_test status low = grind (arith, nat_tests, low)

-- a body that is read, behind which the plan doesn't fail
read_goes : {A : Type 0} (request : Request) (read : List ℕ → Option A) (next : A → Plan) (h : Head) (body : List ℕ) (whole : Bool) (x : A) → h.status < 400 → whole ≡ true → read body ≡ Some x
    → named (line_to request) (Some h.status) (next x) ≡ next x
    → by_answer_to request (λ h body whole. reads read next body whole) (Answered h body whole) ≡ next x
read_goes request read next h body whole x low all is stays =
    ap (named (line_to request) (Some h.status))
    (ap (λ b. if b then reads read next body whole else refuses body whole) (low_test h.status low)
    ∙ (ap (reads read next body) all ∙ ap (goes_on next) is))
    ∙ stays

-- a stream that came whole, and ends where it may
stream_goes : (request : Request) (next : Plan) (h : Head) (body : List ℕ) (whole : Bool) → h.status < 400 → whole ≡ true → ends_frames body ≡ true
    → named (line_to request) (Some h.status) (writes (payloads_of body) next) ≡ writes (payloads_of body) next
    → by_answer_to request (λ h body whole. writes (payloads_of body) (if whole && ends_frames body then next else fails F.Answer)) (Answered h body whole) ≡ writes (payloads_of body) next
stream_goes request next h body whole low all is stays =
    ap (named (line_to request) (Some h.status))
    (ap (λ b. if b then writes (payloads_of body) (if whole && ends_frames body then next else fails F.Answer) else refuses body whole) (low_test h.status low)
    ∙ (ap (λ b. writes (payloads_of body) (if b && ends_frames body then next else fails F.Answer)) all
    ∙ ap (λ b. writes (payloads_of body) (if b then next else fails F.Answer)) is))
    ∙ stays

removes_stays : (line : List ℕ) (status : Option ℕ) (remove : Bool) (id : List ℕ) (code : ℕ) → named line status (removes remove id (ends code)) ≡ removes remove id (ends code)
removes_stays line status true id code = refl
removes_stays line status false id code = refl

module _ (ch : Charter) where
  -- ---- the end, and the removal before it

  ended : (code : ℕ) (vs : List Visit) (got : List Answer) → Goes ch (ends code) vs got → Says (ends code) got nothing code
  ended code vs got goes = record { out = refl; err = refl; end = refl }

  none_left : (code : ℕ) (vs : List Visit) (got : List Answer) → Goes ch (ends code) vs got → vs ≡ []
  none_left code [] got goes = refl
  none_left code (v ∷ vs) got goes = absurd goes.0

  abbrev removed_by : List ℕ → ℕ → Answer → Plan
  removed_by id code = by_answer_to (remove_request id false) (λ h body whole. reads Some (λ body. ends code) body whole)

  removed : (id : List ℕ) (code : ℕ) → All IsByte id → (vs : List Visit) (got : List Answer) → Goes ch (asks (remove_request id false) Some (λ body. ends code)) vs got
      → Says (asks (remove_request id false) Some (λ body. ends code)) got nothing code × Removes ch true id vs
  removed id code bytes [] [] goes = absurd goes.0
  removed id code bytes [] (a ∷ got) goes = absurd goes.0
  removed id code bytes (v ∷ vs) [] goes = absurd goes.1
  removed id code bytes (v ∷ vs) (NoHead ∷ got) goes = absurd goes.1.0
  removed id code bytes (v ∷ vs) (Answered h body whole ∷ got) goes =
      let a : Answers ch v (remove_request id false) = answers_of ch v (remove_request id false) goes.0.0 in
      let r = remove_read ch v h body whole goes.1.0.0 goes.1.0.1 id bytes a in
      let on : removed_by id code (Answered h body whole) ≡ ends code = read_goes (remove_request id false) Some (λ body. ends code) h body whole body goes.1.0.1 r.0 refl refl in
      let none : vs ≡ [] = none_left code vs got (subst (λ p. Goes ch p vs got) on (goes.0.1, goes.1.1)) in
      let says : Says (removed_by id code (Answered h body whole)) got nothing code = subst (λ p. Says p got nothing code) (sym on) (record { out = refl; err = refl; end = refl }) in
      (record { out = says.out; err = says.err; end = says.end }, subst (λ l. Removes ch true id (v ∷ l)) (sym none) r.1)

  last : (remove : Bool) (id : List ℕ) (code : ℕ) → All IsByte id → (vs : List Visit) (got : List Answer) → Goes ch (removes remove id (ends code)) vs got
      → Says (removes remove id (ends code)) got nothing code × Removes ch remove id vs
  last true id code bytes vs got goes = removed id code bytes vs got goes
  last false id code bytes vs got goes = (ended code vs got goes, subst (Removes ch false id) (sym (none_left code vs got goes)) tt)

  -- ---- the wait

  record Waits (plan : Plan) (w : Written) (remove : Bool) (id : List ℕ) (vs : List Visit) (got : List Answer) : Type 0 where
    pub wait : Visit
    pub more : List Visit
    pub visits_are : vs ≡ wait ∷ more
    pub code : ℕ
    pub takes : Takes ch wait (Call.Wait id NotRunning) code
    pub removes : Removes ch remove id more
    pub says : Says plan got w code

  -- the plan from the wait on, behind what was written
  abbrev waited_by : Bool → List ℕ → Answer → Plan
  waited_by remove id = by_answer_to (wait_request id) (λ h body whole. reads status_code_in (λ code. removes remove id (ends code)) body whole)

  abbrev wait_plan : Written → Bool → List ℕ → Plan
  wait_plan w remove id = Asks w (kept (wait_request id)) (waited_by remove id)

  waits : (w : Written) (remove : Bool) (id : List ℕ) → All IsByte id → (vs : List Visit) (got : List Answer) → Goes ch (wait_plan w remove id) vs got
      → Waits (wait_plan w remove id) w remove id vs got
  waits w remove id bytes [] [] goes = absurd goes.0
  waits w remove id bytes [] (a ∷ got) goes = absurd goes.0
  waits w remove id bytes (v ∷ vs) [] goes = absurd goes.1
  waits w remove id bytes (v ∷ vs) (NoHead ∷ got) goes = absurd goes.1.0
  waits w remove id bytes (v ∷ vs) (Answered h body whole ∷ got) goes =
      let a : Answers ch v (wait_request id) = answers_of ch v (wait_request id) goes.0.0 in
      let r = wait_read ch v h body whole goes.1.0.0 goes.1.0.1 id bytes a in
      let on : waited_by remove id (Answered h body whole) ≡ removes remove id (ends r.1) =
      read_goes (wait_request id) status_code_in (λ code. removes remove id (ends code)) h body whole r.1 goes.1.0.1 r.0 r.2
      (removes_stays (line_to (wait_request id)) (Some h.status) remove id r.1) in
      let rest : Goes ch (removes remove id (ends r.1)) vs got = subst (λ p. Goes ch p vs got) on (goes.0.1, goes.1.1) in
      let end = last remove id r.1 bytes vs got rest in
      let says : Says (waited_by remove id (Answered h body whole)) got nothing r.1 = subst (λ p. Says p got nothing r.1) (sym on) end.0 in
      record {
        wait = v;
        more = vs;
        visits_are = refl;
        code = r.1;
        takes = r.3;
        removes = end.1;
        says = record {
          out = ap (λ l. w.out ++ l) says.out ∙ append-nil w.out;
          err = ap (λ l. w.err ++ l) says.err ∙ append-nil w.err;
          end = says.end;
        };
      }

  -- ---- the attach

  record Attaches (plan : Plan) (remove : Bool) (id : List ℕ) (input : Bool) (vs : List Visit) (got : List Answer) : Type 0 where
    pub attach : Visit
    pub wait : Visit
    pub more : List Visit
    pub visits_are : vs ≡ attach ∷ wait ∷ more
    pub spec : LogSpec
    pub records : List LogRecord
    pub code : ℕ
    pub follows : Follows ch attach (Call.Attach id (both_streams input)) spec records
    pub takes : Takes ch wait (Call.Wait id NotRunning) code
    pub removes : Removes ch remove id more
    pub says : Says plan got (carried (map (part_of spec) records)) code

  abbrev wait_asked : Bool → List ℕ → Plan
  wait_asked remove id = asks (wait_request id) status_code_in (λ code. removes remove id (ends code))

  abbrev attached_by : Bool → List ℕ → Bool → Answer → Plan
  attached_by remove id input =
      by_answer_to (attach_request id input) (λ h body whole. writes (payloads_of body) (if whole && ends_frames body then wait_asked remove id else fails F.Answer))

  abbrev attach_asked : Bool → List ℕ → Bool → Plan
  attach_asked remove id input = follows (attach_request id input) input (wait_asked remove id)

  attaches : (remove : Bool) (id : List ℕ) (input : Bool) → All IsByte id → (vs : List Visit) (got : List Answer) → Goes ch (attach_asked remove id input) vs got
      → Attaches (attach_asked remove id input) remove id input vs got
  attaches remove id input bytes [] [] goes = absurd goes.0
  attaches remove id input bytes [] (a ∷ got) goes = absurd goes.0
  attaches remove id input bytes (v ∷ vs) [] goes = absurd goes.1
  attaches remove id input bytes (v ∷ vs) (NoHead ∷ got) goes = absurd goes.1.0
  attaches remove id input bytes (v ∷ vs) (Answered h body whole ∷ got) goes =
      let a : Answers ch v (attach_request id input) = answers_of ch v (attach_request id input) goes.0.0 in
      let r = attach_read ch v h body whole goes.1.0.0 goes.1.0.1 id input bytes a in
      let stops : ends_frames body ≡ true = ap ends_frames r.3 ∙ framed_end (map (part_of r.1) r.2) in
      let shown : payloads_of body ≡ carried (map (part_of r.1) r.2) = ap payloads_of r.3 ∙ framed_shown (map (part_of r.1) r.2) in
      let on : attached_by remove id input (Answered h body whole) ≡ wait_plan (joined (payloads_of body) nothing) remove id =
      stream_goes (attach_request id input) (wait_asked remove id) h body whole goes.1.0.1 r.0 stops refl in
      let rest : Goes ch (wait_plan (joined (payloads_of body) nothing) remove id) vs got = subst (λ p. Goes ch p vs got) on (goes.0.1, goes.1.1) in
      let w = waits (joined (payloads_of body) nothing) remove id bytes vs got rest in
      let says : Says (attached_by remove id input (Answered h body whole)) got (joined (payloads_of body) nothing) w.code =
      subst (λ p. Says p got (joined (payloads_of body) nothing) w.code) (sym on) w.says in
      record {
        attach = v;
        wait = w.wait;
        more = w.more;
        visits_are = ap (λ l. v ∷ l) w.visits_are;
        spec = r.1;
        records = r.2;
        code = w.code;
        follows = r.4;
        takes = w.takes;
        removes = w.removes;
        says = record {
          out = says.out ∙ (append-nil (payloads_of body).out ∙ ap (λ (w : Written). w.out) shown);
          err = says.err ∙ (append-nil (payloads_of body).err ∙ ap (λ (w : Written). w.err) shown);
          end = says.end;
        };
      }

  -- ---- the start

  record Starts (plan : Plan) (remove : Bool) (id : List ℕ) (input : Bool) (vs : List Visit) (got : List Answer) : Type 0 where
    pub start : Visit
    pub behind : List Visit
    pub visits_are : vs ≡ start ∷ behind
    pub does : Does ch start (Call.Start id)
    pub left : List Answer
    pub next : Plan
    pub attaches : Attaches next remove id input behind left
    pub says : Says plan got (carried (map (part_of attaches.spec) attaches.records)) attaches.code

  abbrev start_asked : Bool → List ℕ → Bool → Plan
  start_asked remove id input = asks (start_request id) Some (λ body. attach_asked remove id input)

  abbrev started_by : Bool → List ℕ → Bool → Answer → Plan
  started_by remove id input = by_answer_to (start_request id) (λ h body whole. reads Some (λ body. attach_asked remove id input) body whole)

  starts : (remove : Bool) (id : List ℕ) (input : Bool) → All IsByte id → (vs : List Visit) (got : List Answer) → Goes ch (start_asked remove id input) vs got
      → Starts (start_asked remove id input) remove id input vs got
  starts remove id input bytes [] [] goes = absurd goes.0
  starts remove id input bytes [] (a ∷ got) goes = absurd goes.0
  starts remove id input bytes (v ∷ vs) [] goes = absurd goes.1
  starts remove id input bytes (v ∷ vs) (NoHead ∷ got) goes = absurd goes.1.0
  starts remove id input bytes (v ∷ vs) (Answered h body whole ∷ got) goes =
      let a : Answers ch v (start_request id) = answers_of ch v (start_request id) goes.0.0 in
      let r = start_read ch v h body whole goes.1.0.0 goes.1.0.1 id bytes a in
      let on : started_by remove id input (Answered h body whole) ≡ attach_asked remove id input =
      read_goes (start_request id) Some (λ body. attach_asked remove id input) h body whole body goes.1.0.1 r.0 refl refl in
      let rest : Goes ch (attach_asked remove id input) vs got = subst (λ p. Goes ch p vs got) on (goes.0.1, goes.1.1) in
      let t = attaches remove id input bytes vs got rest in
      let says : Says (started_by remove id input (Answered h body whole)) got (carried (map (part_of t.spec) t.records)) t.code =
      subst (λ p. Says p got (carried (map (part_of t.spec) t.records)) t.code) (sym on) t.says in
      record {
        start = v;
        behind = vs;
        visits_are = refl;
        does = r.1;
        left = got;
        next = attach_asked remove id input;
        attaches = t;
        says = record { out = says.out; err = says.err; end = says.end };
      }

  -- ---- the create

  record Runs (plan : Plan) (remove : Bool) (input : Bool) (vs : List Visit) (got : List Answer) : Type 0 where
    pub create : Visit
    pub behind : List Visit
    pub visits_are : vs ≡ create ∷ behind
    pub id : List ℕ
    pub creates : Creates ch create id
    pub left : List Answer
    pub next : Plan
    pub starts : Starts next remove id input behind left
    pub says : Says plan got (carried (map (part_of starts.attaches.spec) starts.attaches.records)) starts.attaches.code

  abbrev created_by : NewContainer → Bool → Answer → Plan
  created_by c remove = by_answer_to (create_request c) (λ h body whole. reads id_in (λ id. start_asked remove id c.input) body whole)

  runs : (c : NewContainer) (remove : Bool) → class_of (create_request c) ≡ or_refusal (class.create c) → (vs : List Visit) (got : List Answer) → Goes ch (run_plan c remove) vs got
      → Runs (run_plan c remove) remove c.input vs got
  runs c remove same [] [] goes = absurd goes.0
  runs c remove same [] (a ∷ got) goes = absurd goes.0
  runs c remove same (v ∷ vs) [] goes = absurd goes.1
  runs c remove same (v ∷ vs) (NoHead ∷ got) goes = absurd goes.1.0
  runs c remove same (v ∷ vs) (Answered h body whole ∷ got) goes =
      let a : Answers ch v (create_request c) = answers_of ch v (create_request c) goes.0.0 in
      let r = create_read ch v h body whole goes.1.0.0 goes.1.0.1 c same a in
      let on : created_by c remove (Answered h body whole) ≡ start_asked remove r.1 c.input =
      read_goes (create_request c) id_in (λ id. start_asked remove id c.input) h body whole r.1 goes.1.0.1 r.0 r.2 refl in
      let rest : Goes ch (start_asked remove r.1 c.input) vs got = subst (λ p. Goes ch p vs got) on (goes.0.1, goes.1.1) in
      let t = starts remove r.1 c.input (id-bytes body r.1 r.2) vs got rest in
      let says : Says (created_by c remove (Answered h body whole)) got (carried (map (part_of t.attaches.spec) t.attaches.records)) t.attaches.code =
      subst (λ p. Says p got (carried (map (part_of t.attaches.spec) t.attaches.records)) t.attaches.code) (sym on) t.says in
      record {
        create = v;
        behind = vs;
        visits_are = refl;
        id = r.1;
        creates = r.3;
        left = got;
        next = start_asked remove r.1 c.input;
        starts = t;
        says = record { out = says.out; err = says.err; end = says.end };
      }

-- ---- the line

-- the class of the first request
abbrev first_class : List Entry → Option Class
first_class [] = None
first_class (entry ∷ entries) = Some entry.class

module _ (words : List (List ℕ)) (c : NewContainer) (remove : Bool) (utf8 : AreUtf8 words) (is : IsRun words c remove) where
  plan_is : plan_for words ≡ run_plan c remove
  plan_is = ap (λ o. option_map_or (λ line. plan_of line.command) o (fails F.Words)) is.1 ∙ ap plan_of is.2

  create_class : class_of (create_request c) ≡ or_refusal (class.create c)
  create_class =
      same_some (class_of (create_request c)) (or_refusal (class.create c))
      (ap first_class
      (ap (λ p. entries_of (said_by p None []).asked) (sym plan_is)
      ∙ (asks-calls words utf8 None []
      ∙ (ap (λ o. option_map_or (λ line. calls_of line.command []) o []) is.1 ∙ ap (λ k. calls_of k []) is.2))))

result_of : (words : List (List ℕ)) (plan : Plan) (answers : List Answer) (w : Written) (code : ℕ) → Says plan answers w code
    → option_map (result_at words (said_by plan None answers).written) (said_by plan None answers).end ≡ Some (record { out = w.out; err = w.err; status = code })
result_of words plan answers w code says =
    ap (option_map (result_at words (said_by plan None answers).written)) says.end
    ∙ (ap (λ (o : List ℕ). Some (record { out = o; err = (said_by plan None answers).written.err ++ []; status = code })) says.out
    ∙ ap (λ (e : List ℕ). Some (record { out = w.out; err = e; status = code })) (append-nil (said_by plan None answers).written.err ∙ says.err))

pub both_ends : BothEnds
both_ends ch words c remove visits answers utf8 is served =
    let plan : plan_for words ≡ run_plan c remove = plan_is words c remove utf8 is in
    let goes : Goes ch (run_plan c remove) visits answers = subst (λ p. Goes ch p visits answers) plan (served.served, served.read) in
    let r = runs ch c remove (create_class words c remove utf8 is) visits answers goes in
    let says : Says (plan_for words) answers (carried (map (part_of r.starts.attaches.spec) r.starts.attaches.records)) r.starts.attaches.code =
    subst (λ p. Says p answers (carried (map (part_of r.starts.attaches.spec) r.starts.attaches.records)) r.starts.attaches.code) (sym plan) r.says in
    record {
      create = r.create;
      start = r.starts.start;
      attach = r.starts.attaches.attach;
      wait = r.starts.attaches.wait;
      more = r.starts.attaches.more;
      visits_are = r.visits_are ∙ (ap (λ l. r.create ∷ l) r.starts.visits_are ∙ ap (λ l. r.create ∷ r.starts.start ∷ l) r.starts.attaches.visits_are);
      id = r.id;
      spec = r.starts.attaches.spec;
      records = r.starts.attaches.records;
      code = r.starts.attaches.code;
      creates = r.creates;
      starts = r.starts.does;
      follows = r.starts.attaches.follows;
      takes = r.starts.attaches.takes;
      removes = r.starts.attaches.removes;
      result = result_of words (plan_for words) answers (carried (map (part_of r.starts.attaches.spec) r.starts.attaches.records)) r.starts.attaches.code says;
    }
