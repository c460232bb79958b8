-- Standard input, sent piece by piece.
use Rattle.std.proofs.Common.{◌≤◌, ℕ, List, [], ◌++◌, sym, ap, ◌∙◌, subst, append_assoc, append-nil, Result, Ok, Err}
use Rattle.engine_ports.specs.Rose.{Rose}
use Rattle.engine_ports.specs.Source.{SourceView, SourceGave, SourceEnded}
use Rattle.engine_ports.specs.Sink.{SinkView, SinkTook, WriteSays, FinishSays}
use Rattle.engine_ports.specs.declared.ports.Failed.{Failed}
use Rattle.engine_ports.proofs.PortLemmas.{source_none, source_on, sink_none, sink_on, rose_since}
use Rattle.client_model.specs.declared.fault.Fault.{Fault}
use Rattle.client_model.specs.declared.fault.Fault.TheVariants as F
use Rattle.client_exchange.specs.Exchanges.{SendFails}
use Rattle.client_exchange.specs.Feeding.{InputFails, HasSent, HasSentSoFar, SendSays}

-- all that the input gave was sent
pub record SoFar (v v' : SourceView) (u u' : SinkView) : Type 0 where
  pub input : List ℕ
  pub gave : SourceGave v input v'
  pub took : SinkTook u input u'

pub so_far_none : (v : SourceView) (u : SinkView) → SoFar v v u u
so_far_none v u = record { input = []; gave = source_none v; took = sink_none u }

pub so_far_more : (piece : List ℕ) (x : Unit {0}) (v v' v'' : SourceView) (u u' u'' : SinkView)
    → SoFar v v' u u' → SourceGave v' piece v'' → WriteSays (Ok x) piece u' u'' → SoFar v v'' u u''
so_far_more piece x v v' v'' u u' u'' so gave took = record {
  input = so.input ++ piece;
  gave = source_on v v' v'' so.input piece so.gave gave;
  took = sink_on u u' u'' so.input piece so.took took;
}

-- a piece wasn't sent
pub unsent_piece : (piece : List ℕ) (x : Failed) (v v' v'' : SourceView) (u u' u'' : SinkView)
    → SoFar v v' u u' → SourceGave v' piece v'' → WriteSays (Err x) piece u' u'' → HasSentSoFar [] F.Connection v v'' u u''
unsent_piece piece x v v' v'' u u' u'' so gave (part, front, took, rose) = record {
  input = so.input ++ piece;
  gave = source_on v v' v'' so.input piece so.gave gave;
  part = so.input ++ part;
  front = (front.0, append_assoc so.input part front.0 ∙ ap (λ l. so.input ++ l) front.1);
  took = sink_on u u' u'' so.input part so.took took;
  cause = rose_since u.faults u'.faults u''.faults so.took.faults rose;
}

-- nothing more came, and that was told
nothing_more : (v v' v'' : SourceView) (input : List ℕ) → SourceGave v input v' → SourceGave v' [] v'' → SourceGave v input v''
nothing_more v v' v'' input a b = subst (λ l. SourceGave v l v'') (append-nil input) (source_on v v' v'' input [] a b)

nothing_sent : (u u' u'' : SinkView) (input : List ℕ) → SinkTook u input u' → SinkTook u' [] u'' → SinkTook u input u''
nothing_sent u u' u'' input a b = subst (λ l. SinkTook u l u'') (append-nil input) (sink_on u u' u'' input [] a b)

ended_since : (v v' v'' : SourceView) → v.ends ≤ v'.ends → SourceEnded v' v'' → SourceEnded v v''
ended_since v v' v'' le e = record { rose = rose_since v.ends v'.ends v''.ends le e.rose; spent = e.spent }

pub all_sent : (x : Unit {0}) (v v' v'' : SourceView) (u u' u'' : SinkView)
    → SoFar v v' u u' → SourceGave v' [] v'' × SourceEnded v' v'' → FinishSays (Ok x) u' u'' → HasSent [] v v'' u u''
all_sent x v v' v'' u u' u'' so (gave, ended) took = record {
  input = so.input;
  gave = nothing_more v v' v'' so.input so.gave gave;
  ended = ended_since v v' v'' so.gave.ends ended;
  took = nothing_sent u u' u'' so.input so.took took;
}

-- it wasn't told
pub untold : (x : Failed) (v v' v'' : SourceView) (u u' u'' : SinkView)
    → SoFar v v' u u' → SourceGave v' [] v'' × SourceEnded v' v'' → FinishSays (Err x) u' u'' → HasSentSoFar [] F.Connection v v'' u u''
untold x v v' v'' u u' u'' so (gave, ended) (took, rose) = record {
  input = so.input;
  gave = nothing_more v v' v'' so.input so.gave gave;
  part = so.input;
  front = ([], append-nil so.input);
  took = nothing_sent u u' u'' so.input so.took took;
  cause = rose_since u.faults u'.faults u''.faults so.took.faults rose;
}

-- the input failed
pub starved : (v v' v'' : SourceView) (u u' : SinkView) → SoFar v v' u u' → SourceGave v' [] v'' × Rose v'.faults v''.faults → HasSentSoFar [] F.Input v v'' u u'
starved v v' v'' u u' so (gave, rose) = record {
  input = so.input;
  gave = nothing_more v v' v'' so.input so.gave gave;
  part = so.input;
  front = ([], append-nil so.input);
  took = so.took;
  cause = rose_since v.faults v'.faults v''.faults so.gave.faults rose;
}

-- ---- behind a request

pub sent_behind : (bytes : List ℕ) (x : Unit {0}) (v v' : SourceView) (u u' u'' : SinkView) → WriteSays (Ok x) bytes u u' → (result : Result (Unit {0}) Fault)
    → SendSays [] result v v' u' u'' → SendSays bytes result v v' u u''
sent_behind bytes x v v' u u' u'' took (Ok y) s =
    record { input = s.input; gave = s.gave; ended = s.ended; took = sink_on u u' u'' bytes s.input took s.took }
sent_behind bytes x v v' u u' u'' took (Err fault) s = record {
  input = s.input;
  gave = s.gave;
  part = bytes ++ s.part;
  front = (s.front.0, append_assoc bytes s.part s.front.0 ∙ ap (λ l. bytes ++ l) s.front.1);
  took = sink_on u u' u'' bytes s.part took s.took;
  cause = since fault s.cause;
}
  where
    since : (fault : Fault) → SendFails (InputFails v v') fault u' u'' → SendFails (InputFails v v') fault u u''
    since F.Connection r = rose_since u.faults u'.faults u''.faults took.faults r
    since F.Input r = r
    since F.Output r = absurd r
    since F.Errors r = absurd r
    since F.NoMemory r = absurd r
    since F.Words r = absurd r
    since F.Answer r = absurd r
    since F.NoCode r = absurd r
    since (F.AnswerTo request status) r = absurd r
    since F.NoCheck r = absurd r
    since F.EventsGone r = absurd r
    since F.TooLong r = absurd r
    since (F.Refused message) r = absurd r
    since F.Link r = absurd r

pub unsent_request : (bytes : List ℕ) (x : Failed) (v : SourceView) (u u' : SinkView) → WriteSays (Err x) bytes u u' → SendSays bytes (Err F.Connection) v v u u'
unsent_request bytes x v u u' (part, front, took, rose) =
    record { input = []; gave = source_none v; part = part; front = (front.0, front.1 ∙ sym (append-nil bytes)); took = took; cause = rose }
