-- What the outputs took goes on.
use Rattle.std.proofs.Common.{arith, ◌≡◌, ◌<◌, ℕ, List, [], ◌∷◌, ◌++◌, length, refl, sym, ap, ◌∙◌, append_assoc, Ok, Err}
use Rattle.engine_ports.specs.Sink.{SinkView, SinkTook, IsFront, WriteSays}
use Rattle.engine_ports.specs.declared.ports.Failed.{Failed}
use Rattle.engine_ports.proofs.PortLemmas.{sink_none, sink_on, rose_since}
use Rattle.client_model.specs.Plans.{Written, nothing, to_out, joined}
use Rattle.client_model.specs.declared.fault.Fault.{Fault}
use Rattle.client_model.specs.declared.fault.Fault.TheVariants as F
use Rattle.client_model.specs.Runs.{AreFronts}
use Rattle.client_exchange.specs.Outputs.{Outputs, outputs, BothTook, BothBegan, OutputsFail, WritesBoth, WasToWrite}

pub both_none : (o : Outputs) → BothTook o nothing o
both_none o = record { out = sink_none o.out; err = sink_none o.err }

pub both_on : (o p q : Outputs) (w v : Written) → BothTook o w p → BothTook p v q → BothTook o (joined w v) q
both_on o p q w v a b = record {
  out = sink_on o.out p.out q.out w.out v.out a.out b.out;
  err = sink_on o.err p.err q.err w.err v.err a.err b.err;
}

-- ---- fronts

front_none : (bytes : List ℕ) → IsFront [] bytes
front_none bytes = (bytes, refl)

front_all : (bytes more : List ℕ) → IsFront bytes (bytes ++ more)
front_all bytes more = (more, refl)

front_behind : (bytes part more : List ℕ) → IsFront part more → IsFront (bytes ++ part) (bytes ++ more)
front_behind bytes part more f = (f.0, append_assoc bytes part f.0 ∙ ap (λ l. bytes ++ l) f.1)

front_longer : (part bytes more : List ℕ) → IsFront part bytes → IsFront part (bytes ++ more)
front_longer part bytes more f = (f.0 ++ more, sym (append_assoc part f.0 more) ∙ ap (λ l. l ++ more) f.1)

pub fronts_none : (w : Written) → AreFronts nothing w
fronts_none w = record { out = front_none w.out; err = front_none w.err }

pub fronts_all : (w v : Written) → AreFronts w (joined w v)
fronts_all w v = record { out = front_all w.out v.out; err = front_all w.err v.err }

pub fronts_behind : (w part v : Written) → AreFronts part v → AreFronts (joined w part) (joined w v)
fronts_behind w part v f = record { out = front_behind w.out part.out v.out f.out; err = front_behind w.err part.err v.err f.err }

pub fronts_longer : (part w v : Written) → AreFronts part w → AreFronts part (joined w v)
fronts_longer part w v f = record { out = front_longer part.out w.out v.out f.out; err = front_longer part.err w.err v.err f.err }

-- nothing was written
pub began_none : (o : Outputs) (w : Written) → BothBegan o w o
began_none o w = record { part = nothing; fronts = fronts_none w; took = both_none o }

-- all of the first part was written
pub began_of : (o p : Outputs) (w v : Written) → BothTook o w p → BothBegan o (joined w v) p
began_of o p w v a = record { part = w; fronts = fronts_all w v; took = a }

pub began_behind : (o p q : Outputs) (w v : Written) → BothTook o w p → BothBegan p v q → BothBegan o (joined w v) q
began_behind o p q w v a b = record {
  part = joined w b.part;
  fronts = fronts_behind w b.part v b.fronts;
  took = both_on o p q w b.part a b.took;
}

pub fails_since : (fault : Fault) (o p q : Outputs) (w : Written) → BothTook o w p → OutputsFail fault p q → OutputsFail fault o q
fails_since F.Output o p q w a r = rose_since o.out.faults p.out.faults q.out.faults a.out.faults r
fails_since F.Errors o p q w a r = rose_since o.err.faults p.err.faults q.err.faults a.err.faults r
fails_since F.NoMemory o p q w a r = tt
fails_since F.Words o p q w a r = absurd r
fails_since F.Input o p q w a r = absurd r
fails_since F.Answer o p q w a r = absurd r
fails_since F.NoCode o p q w a r = absurd r
fails_since (F.AnswerTo request status) o p q w a r = absurd r
fails_since F.NoCheck o p q w a r = absurd r
fails_since F.EventsGone o p q w a r = absurd r
fails_since F.TooLong o p q w a r = absurd r
fails_since (F.Refused message) o p q w a r = absurd r
fails_since F.Link o p q w a r = absurd r
fails_since F.Connection o p q w a r = absurd r

-- a piece was written behind others
pub goes_on : (o p q : Outputs) (w v : Written) (x : Unit {0}) → BothTook o w p → WritesBoth (Ok x) v p q → BothTook o (joined w v) q
goes_on o p q w v x a b = both_on o p q w v a b

pub breaks_on : (o p q : Outputs) (w v : Written) (fault : Fault) → BothTook o w p → WritesBoth (Err fault) v p q → WritesBoth (Err fault) (joined w v) o q
breaks_on o p q w v fault a b = (began_behind o p q w v a b.0, fails_since fault o p q w a b.1)

-- what else would have been written
pub breaks_before : (o q : Outputs) (w v : Written) (fault : Fault) → WritesBoth (Err fault) w o q → WritesBoth (Err fault) (joined w v) o q
breaks_before o q w v fault b = (record { part = b.0.part; fronts = fronts_longer b.0.part w v b.0.fronts; took = b.0.took }, b.1)

-- ---- one output

pub out_took : (bytes : List ℕ) (u u' e : SinkView) → SinkTook u bytes u' → BothTook (outputs u e) (to_out bytes) (outputs u' e)
out_took bytes u u' e a = record { out = a; err = sink_none e }

pub err_took : (bytes : List ℕ) (u e e' : SinkView) → SinkTook e bytes e' → BothTook (outputs u e) (record { out = []; err = bytes }) (outputs u e')
err_took bytes u e e' a = record { out = sink_none u; err = a }

pub out_failed : (x : Failed) (bytes : List ℕ) (u u' e : SinkView) → WriteSays (Err x) bytes u u' → WritesBoth (Err F.Output) (to_out bytes) (outputs u e) (outputs u' e)
out_failed x bytes u u' e (part, front, took, rose) =
    (record { part = to_out part; fronts = record { out = front; err = front_none [] }; took = out_took part u u' e took }, rose)

pub err_failed : (x : Failed) (bytes : List ℕ) (u e e' : SinkView) → WriteSays (Err x) bytes e e'
    → WritesBoth (Err F.Errors) (record { out = []; err = bytes }) (outputs u e) (outputs u e')
err_failed x bytes u e e' (part, front, took, rose) =
    (record { part = record { out = []; err = part }; fronts = record { out = front_none []; err = front }; took = err_took part u e e' took }, rose)

-- ---- what was to be written

pub some_bytes : (bytes : List ℕ) → 0 < length bytes → bytes ≡ [] → ⊥
some_bytes bytes some none = omega (arith, some, ap length none)

cons_none : (b : ℕ) (bytes : List ℕ) → b ∷ bytes ≡ [] → ⊥
cons_none b bytes e = cc

pub none_first : (bytes more : List ℕ) → bytes ++ more ≡ [] → bytes ≡ []
none_first [] more e = refl
none_first (b ∷ bytes) more e = absurd (cons_none b (bytes ++ more) e)

none_last : (bytes more : List ℕ) → bytes ++ more ≡ [] → more ≡ []
none_last [] more e = e
none_last (b ∷ bytes) more e = absurd (cons_none b (bytes ++ more) e)

-- behind others, and before others
pub was_behind : (fault : Fault) (w v : Written) → WasToWrite fault v → WasToWrite fault (joined w v)
was_behind F.Output w v some = λ e. some (none_last w.out v.out e)
was_behind F.Errors w v some = λ e. some (none_last w.err v.err e)
was_behind F.NoMemory w v some = absurd some
was_behind F.Words w v some = absurd some
was_behind F.Input w v some = absurd some
was_behind F.Answer w v some = absurd some
was_behind F.NoCode w v some = absurd some
was_behind (F.AnswerTo request status) w v some = absurd some
was_behind F.NoCheck w v some = absurd some
was_behind F.EventsGone w v some = absurd some
was_behind F.TooLong w v some = absurd some
was_behind (F.Refused message) w v some = absurd some
was_behind F.Link w v some = absurd some
was_behind F.Connection w v some = absurd some

pub was_before : (fault : Fault) (w v : Written) → WasToWrite fault w → WasToWrite fault (joined w v)
was_before F.Output w v some = λ e. some (none_first w.out v.out e)
was_before F.Errors w v some = λ e. some (none_first w.err v.err e)
was_before F.NoMemory w v some = absurd some
was_before F.Words w v some = absurd some
was_before F.Input w v some = absurd some
was_before F.Answer w v some = absurd some
was_before F.NoCode w v some = absurd some
was_before (F.AnswerTo request status) w v some = absurd some
was_before F.NoCheck w v some = absurd some
was_before F.EventsGone w v some = absurd some
was_before F.TooLong w v some = absurd some
was_before (F.Refused message) w v some = absurd some
was_before F.Link w v some = absurd some
was_before F.Connection w v some = absurd some
