-- What a `run` of the client shows of the sessions that answered it (own: the client and the daemon, end to end).
use Rattle.std.specs.Prelude.{ℕ, ◌≡◌, ◌<◌, List, [], ◌∷◌, ◌++◌, Bool, true, false, Some, None, IsTrue, map, ◌⊎◌, ⊤}
use Rattle.std.specs.List.{AllZip}
use Rattle.engine_text.specs.Words.{AreUtf8}
use Rattle.engine_text.specs.declared.call.Call.{Call}
use Rattle.engine_text.specs.declared.call.CreateSpec.{CreateSpec}
use Rattle.engine_text.specs.declared.call.Until.TheVariants.{NotRunning}
use Rattle.engine_text.specs.declared.log.LogRecord.{LogRecord}
use Rattle.engine_text.specs.declared.reply.LogSpec.{LogSpec}
use Rattle.engine_text.specs.declared.reply.Reply.TheVariants.{Answer as Replied, Begun, LogStream}
use Rattle.engine_text.specs.declared.script.Stream.TheVariants.{Stdout, Stderr}
use Rattle.engine_text.specs.declared.step.Step.{Step}
use Rattle.stream_frame.specs.Frames.{payload_of}
use Rattle.machine_model.specs.Frames.{framed}
use Rattle.machine_model.specs.History.{Charter, IsLegal, Extends, state_after}
use Rattle.machine_model.specs.LogStream.{is_kept, log_end, log_records, part_of}
use Rattle.machine_model.specs.Effects.Destroy.{waited}
use Rattle.http_edge.specs.Message.{Request}
use Rattle.http_edge.specs.Spelling.{Begins}
use Rattle.response_reader.specs.Answers.{Answer, NoHead, Answered, IsAnswer}
use Rattle.api_routes.specs.declared.class.Takeover.{Takeover}
use Rattle.session_model.specs.declared.ending.Ending.TheVariants.{Closed}
use Rattle.session_model.specs.Exchange.{IsMade}
use Rattle.session_model.specs.Responses.{takeover_head}
use Rattle.session_model.specs.Session.{Span, EndsBy, IsSession}
use Rattle.client_model.specs.Bodies.{id_in}
use Rattle.client_model.specs.Client.{plan_for, said_by, client_result}
use Rattle.client_model.specs.Lines.{line_of}
use Rattle.client_model.specs.declared.command.Command.TheVariants as command
use Rattle.client_model.specs.declared.command.Line.{Line}
use Rattle.client_model.specs.declared.command.NewContainer.{NewContainer}
use Rattle.client_laws.specs.Classes.{both_streams}

-- ---- the sessions of a run

-- a connection that was served: under this number, with input pumped or not, and what its session spans
pub record Visit : Type 0 where
  pub number : ℕ
  pub pumps : Bool
  pub span : Span

-- its session, which saw a legal history, read this request first, answered it alone, and closed behind the answer
pub record Served (ch : Charter) (v : Visit) (r : Request) : Type 0 where
  pub legal : IsLegal ch v.span.to
  pub behind : List ℕ
  pub begins : Begins v.span.read r behind
  pub answers : EndsBy ch v.number r behind Closed v.pumps v.span

-- the client read what it wrote, to the connection's end, as this answer, whose status is below 400
abbrev pub Reads : Visit → Answer → Type 0
Reads v NoHead = ⊥
Reads v (Answered h body whole) = IsAnswer v.span.written true (Answered h body whole) × (h.status < 400)

-- each request that these words ask, by these answers, was served by one visit, in order, and read as one answer
pub record AreServed (ch : Charter) (words : List (List ℕ)) (visits : List Visit) (answers : List Answer) : Type 0 where
  pub served : AllZip (λ v asked. Served ch v asked.request) visits (said_by (plan_for words) None answers).asked
  pub read : AllZip Reads visits answers

-- the words are a `run`
abbrev pub IsRun : List (List ℕ) → NewContainer → Bool → Type 0
IsRun words c remove = (line : Line) × (line_of words ≡ Some line) × (line.command ≡ command.Run c remove)

-- ---- what they did

-- in it a container was created, 201, and this id is told of it
abbrev pub Creates : Charter → Visit → List ℕ → Type 0
Creates ch v id =
    (spec : CreateSpec) × (body : List ℕ)
    × IsMade ch v.number v.number (Call.Create spec) v.span.from v.span.to (Replied 201 body) × (id_in body ≡ Some id)

-- in it this call was made, and answered with a status below 400
abbrev pub Does : Charter → Visit → Call → Type 0
Does ch v call =
    (status : ℕ) × (body : List ℕ)
    × IsMade ch v.number v.number call v.span.from v.span.to (Replied status body) × (status < 400)

-- in them the container was removed, where that was asked for
abbrev pub Removes : Charter → Bool → List ℕ → List Visit → Type 0
Removes ch false id [] = ⊤
Removes ch true id (v ∷ []) = Does ch v (Call.Remove id false)
Removes ch remove id visits = ⊥

-- in it an attach gave this stream, which was followed to its end: at some history that it saw, these are the stream's
-- records, all of them, and their frames are what was written behind the head
pub record Follows (ch : Charter) (v : Visit) (call : Call) (spec : LogSpec) (records : List LogRecord) : Type 0 where
  pub mid : List Step
  pub made : IsMade ch v.number v.number call v.span.from mid (LogStream spec)
  pub at : List Step
  pub behind : Extends mid at
  pub seen : Extends at v.span.to
  pub kept : IsTrue (is_kept (state_after ch at) spec.owner)
  pub end : ℕ
  pub end_is : log_end (state_after ch at) spec ≡ Some end
  pub records_are : records ≡ log_records (state_after ch at) spec spec.first end
  pub wrote : v.span.written ≡ takeover_head Takeover.Upgrade ++ framed (map (part_of spec) records)

-- in it a wait gave a ticket, and its take told this code
abbrev pub Takes : Charter → Visit → Call → ℕ → Type 0
Takes ch v call code =
    (n : ℕ) × (mid : List Step) × IsMade ch v.number v.number call v.span.from mid (Begun n)
    × IsMade ch v.number v.number (Call.Take n) mid v.span.to (waited code)

-- ---- both ends

-- Four visits, and with `--rm` one more: a container is created, started, attached to and waited for, by the id that the first
-- one tells. What the client writes to its outputs is what the container wrote, each stream to its own, and its status is the
-- code that the wait told.
pub record Shows (ch : Charter) (words : List (List ℕ)) (c : NewContainer) (remove : Bool) (visits : List Visit) (answers : List Answer) : Type 0 where
  pub create : Visit
  pub start : Visit
  pub attach : Visit
  pub wait : Visit
  pub more : List Visit
  pub visits_are : visits ≡ create ∷ start ∷ attach ∷ wait ∷ more
  pub id : List ℕ
  pub spec : LogSpec
  pub records : List LogRecord
  pub code : ℕ
  pub creates : Creates ch create id
  pub starts : Does ch start (Call.Start id)
  pub follows : Follows ch attach (Call.Attach id (both_streams c.input)) spec records
  pub takes : Takes ch wait (Call.Wait id NotRunning) code
  pub removes : Removes ch remove id more
  pub result : client_result words None answers ≡ Some (record {
    out = payload_of Stdout (map (part_of spec) records);
    err = payload_of Stderr (map (part_of spec) records);
    status = code;
  })

-- so of every `run` whose requests were served, whatever the histories are
abbrev pub BothEnds : Type 0
BothEnds =
    (ch : Charter) (words : List (List ℕ)) (c : NewContainer) (remove : Bool) (visits : List Visit) (answers : List Answer)
    → AreUtf8 words → IsRun words c remove → AreServed ch words visits answers → Shows ch words c remove visits answers

-- such is each closed session that answered but one request: of the requests that it read it answered one alone, or none and wrote
-- nothing
abbrev pub OnesAreServed : Type 0
OnesAreServed =
    (ch : Charter) (v : Visit) (s : IsSession ch v.number Closed v.pumps v.span) → IsLegal ch v.span.to → s.done ≡ []
    → ((r : Request) × Served ch v r) ⊎ (v.span.written ≡ [])
