use Rattle.api_json.proofs.container.health_member.Goals as goal

pub returns-in-Some : goal.returns-in-Some
returns-in-Some c = rw c.in-Some.is c.check_member.ensures
