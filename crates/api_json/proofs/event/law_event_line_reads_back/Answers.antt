use Rattle.std.proofs.Common.{◌≡◌, ℕ, List, IfOk, IfErr, Result, Ok, Err, refl, sym, ◌∙◌}
use Rattle.engine_text.specs.declared.event.Event.{Event}
use Rattle.api_json.specs.Event.{IsLine, IsLineRefusal, event_line_text}
use Rattle.api_json.specs.declared.fault.Refused.{Refused}
use Rattle.api_json.specs.declared.fault.Refused.TheVariants.{BadBody, NoMemory}
use Rattle.api_json.proofs.EventLemmas.{event_line_text-injective}
use Rattle.api_json.proofs.event.law_event_line_reads_back.Goals as goal

back : (e : Event) (line : List ℕ) (r : Result Event Refused) → IsLine e → event_line_text e ≡ line
    → IfOk r (λ x. IsLine x × (event_line_text x ≡ line)) → IfOk r (λ x. x ≡ e)
back e line (Ok x) h is taken = event_line_text-injective x e taken.0 h (taken.1 ∙ sym is)
back e line (Err refused) h is taken = tt

only_memory : (e : Event) (line : List ℕ) (r : Result Event Refused) → IsLine e → event_line_text e ≡ line
    → IfErr r (λ refused. IsLineRefusal line refused) → IfErr r (λ refused. refused ≡ NoMemory)
only_memory e line (Ok x) h is refused = tt
only_memory e line (Err (BadBody fault)) h is refused = absurd (refused.1 e h is)
only_memory e line (Err NoMemory) h is refused = refl

pub returns-clause-same : goal.returns-clause-same
returns-clause-same c =
    back c.args.event.now c.as_slice.result.now c.read_event_line.result
    (c.requires.moment, c.requires.attributes, c.utf8-2.ensures, c.utf8-2-2.ensures)
    (sym c.in_ok-line.ensures ∙ sym c.as_slice.ensures) c.read_event_line.ensures.taken

pub returns-clause-refused : goal.returns-clause-refused
returns-clause-refused c =
    only_memory c.args.event.now c.as_slice.result.now c.read_event_line.result
    (c.requires.moment, c.requires.attributes, c.utf8-2.ensures, c.utf8-2-2.ensures)
    (sym c.in_ok-line.ensures ∙ sym c.as_slice.ensures) c.read_event_line.ensures.refused
