use Rattle.std.proofs.Common.{◌≡◌, ◌≢◌, ◌<◌, ℕ, List, [], ◌∷◌, ◌++◌, length, Option, Some, None, IfNone, IfSome, option_map, arith, ◌∙◌, subst}
use Rattle.std.proofs.lemmas.Result.{IfOk-weaker}
use Rattle.serde_json.specs.Data.{Data}
use Rattle.serde_json.specs.View.{view}
use Rattle.serde_json.specs.declared.value.Value.{Value}
use Rattle.json_laws.specs.Sound.{IsCarried, line_text}
use Rattle.json_laws.specs.Text.{data_of}
use Rattle.json_laws.proofs.RoundTrip.{some_same}
use Rattle.json_laws.proofs.Lines.{line_some, line_end, line_read}
use Rattle.json_laws.proofs.value_of_line.Goals as goal

found : (line rest : List ℕ) (last : ℕ) (o : Option Value) → line ≡ rest ++ last ∷ [] → option_map view o ≡ data_of rest
    → IfSome o (λ v. (d : Data) → IsCarried d → line_text d ≡ line → view v ≡ d)
found line rest last None ends is = tt
found line rest last (Some v) ends is = λ d carried e. some_same (is ∙ line_read d rest last carried (e ∙ ends))

missed : (line rest : List ℕ) (last : ℕ) (o : Option Value) → line ≡ rest ++ last ∷ [] → option_map view o ≡ data_of rest
    → IfNone o ((d : Data) → IsCarried d → line_text d ≢ line)
missed line rest last None ends is = λ d carried e. cc (is ∙ line_read d rest last carried (e ∙ ends))
missed line rest last (Some v) ends is = tt

pub returns-in_default-clause-none : goal.returns-in_default-clause-none
returns-in_default-clause-none c = λ d h e.
    let none : length c.args.line.now ≡ 0 = c.in_default.ensures.cases in
    let some : 0 < length c.args.line.now = subst (λ (l : List ℕ). 0 < length l) e (line_some d) in
    omega arith

pub returns-then-last-ne10-clause-none : goal.returns-then-last-ne10-clause-none
returns-then-last-ne10-clause-none c = λ d h e.
    c.if-last-ne10.true (line_end d c.in-Some.rest.now c.in-Some.last.now (e ∙ c.in-Some.ensures.cases.0))

pub returns-clause-some : goal.returns-clause-some
returns-clause-some c =
    let ends = c.in-Some.ensures.cases.0 in
    IfOk-weaker c.value_of_text.result _ (λ o. IfSome o (λ v. (d : Data) → IsCarried d → line_text d ≡ c.args.line.now → view v ≡ d))
    (λ o is. found c.args.line.now c.in-Some.rest.now c.in-Some.last.now o ends is)
    c.value_of_text.ensures

pub returns-clause-none : goal.returns-clause-none
returns-clause-none c =
    let ends = c.in-Some.ensures.cases.0 in
    IfOk-weaker c.value_of_text.result _ (λ o. IfNone o ((d : Data) → IsCarried d → line_text d ≢ c.args.line.now))
    (λ o is. missed c.args.line.now c.in-Some.rest.now c.in-Some.last.now o ends is)
    c.value_of_text.ensures
