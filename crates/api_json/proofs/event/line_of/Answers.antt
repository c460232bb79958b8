use Rattle.std.proofs.Common.{◌≡◌, ℕ, List, [], ◌∷◌, ◌++◌, IfOk, refl, subst}
use Rattle.json_laws.specs.Sound.{line_text}
use Rattle.api_json.specs.Event.{event_data}
use Rattle.api_json.proofs.WrittenLemmas.{compact}
use Rattle.api_json.proofs.event.line_of.Goals as goal

pub returns : goal.returns
unfolding line_text
returns c =
    let text = compact (event_data c.args.event.now) c.new-out.ensures.tokens c.in_ok-write_event.ensures refl in
    subst (λ (t : List ℕ). IfOk c.written_line.result (λ line. line.items ≡ t ++ 10 ∷ [])) text c.written_line.ensures
