use Rattle.std.proofs.Common.{◌≡◌, ◌≢◌, List, [], ◌∷◌, String, length, Err, refl, sym, ◌∙◌}
use Rattle.std.specs.declared.alloc.Global.{Global}
use Rattle.serde_json.specs.View.{members_view}
use Rattle.serde_json.specs.declared.value.Value.{Value}
use Rattle.api_json.specs.Create.{no_members_or_fault}
use Rattle.api_json.specs.declared.fault.BodyFault.TheVariants.{AnonymousVolumes}
use Rattle.api_json.proofs.create.check_no_members.Goals as goal

some_members : (es : List (String Global × Value)) → length es ≢ 0 → Err AnonymousVolumes ≡ no_members_or_fault (members_view es)
some_members [] h = absurd (h refl)
some_members (e ∷ es) h = refl

pub returns-else-is_empty : goal.returns-else-is_empty
returns-else-is_empty c = some_members c.args.map.now.entries (λ none. cc (sym c.if-is_empty.false ∙ c.is_empty.ensures.1 none))
