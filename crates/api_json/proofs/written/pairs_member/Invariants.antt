use Rattle.std.proofs.Common.{◌≡◌, ◌++◌}
use Rattle.json.specs.Tree.{members_tokens}
use Rattle.serde_json.specs.Written.{members_outline}
use Rattle.json_laws.specs.Pairs.{pairs_members}
use Rattle.api_json.specs.Values.{pairs_object}
use Rattle.api_json.specs.Written.{member_tokens, lent_texts}
use Rattle.api_json.proofs.written.pairs_member.Given as goal

abbrev pub invariant-members : goal.invariant-members
invariant-members l =
    (goal.iterator-members).can_next l.name-iterator ×
    (goal.iterator-members).is_finite l.name-iterator ×
    (l.out.before ≡ l.fn.out.before) ×
    (l.out.tokens ++ members_tokens (members_outline (pairs_members (lent_texts l.name-iterator))) ≡ l.fn.out.tokens ++ member_tokens l.key (pairs_object l.fn.pairs))
