use Rattle.std.proofs.Common.{ℕ, ℤ, List, [], ◌∷◌, codes, Some, true, nat_le, subst, rules}
use Rattle.std.specs.Int.{w32}
use Rattle.std.proofs.lemmas.Int.{to_z-of_z}
use Rattle.api_json.specs.Container.{policy_word}
use Rattle.engine_text.specs.declared.call.CreateSpec.{CreateSpec}
use Rattle.journal_lines.specs.CallFields.{op_field, name_field, signal_field}
use Rattle.journal_lines.specs.Fields.{KeyedField, Word, TextOrNone, NumberOrNone, SecondsOrNone, Flag, TextList, LabelPairs, MountList, FlagIfSet, CheckIfGiven}
use Rattle.journal_lines.proofs.fields.calls.create_fields.Goals as goal

-- the fields of a create with these seconds, this greatest number of restarts and this name of its policy
abbrev fields_with : CreateSpec → ℤ → ℕ → List ℕ → List KeyedField
fields_with spec after most word =
    (codes "after", SecondsOrNone (Some after))
    ∷ (codes "auto", FlagIfSet spec.auto_remove)
    ∷ (codes "health", CheckIfGiven spec.health)
    ∷ (codes "image", TextOrNone (λ t. true) (Some spec.image))
    ∷ (codes "labels", LabelPairs spec.labels)
    ∷ (codes "maximum", NumberOrNone (λ n. nat_le n 2147483647) (Some most))
    ∷ (codes "mounts", MountList spec.mounts)
    ∷ (codes "name", name_field spec.name)
    ∷ (codes "once", Flag spec.stdin_once)
    ∷ op_field (codes "create")
    ∷ (codes "policy", Word word)
    ∷ (codes "signal", signal_field (Some spec.stop_signal))
    ∷ (codes "stdin", Flag spec.open_stdin)
    ∷ (codes "words", TextList (λ ws. true) spec.words) ∷ []

pub returns : goal.returns
returns g c =
    let spec = c.args.create.now in
    let most : ℕ = c.most_retries.result in
    let word : List ℕ = c.policy_word-policy.result.now in
    let gives = λ (fields : List KeyedField). g.U.FieldsUse.gives c.args.how.now fields c.of.result in
    let told = subst (λ (after : ℤ). gives (fields_with spec after most word)) (to_z-of_z w32 spec.stop_after (search rules)) c.of.ensures in
    subst (λ (most : ℕ). gives (fields_with spec spec.stop_after most (policy_word spec.policy))) c.most_retries.ensures
    (subst (λ (word : List ℕ). gives (fields_with spec spec.stop_after most word)) c.policy_word-policy.ensures told)
