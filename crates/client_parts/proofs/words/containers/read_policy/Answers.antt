use Rattle.std.proofs.Common.{◌≡◌, ◌==◌, ap, sym, Some, false, lit<}
use Rattle.std.specs.List.{list_any}
use Rattle.std.proofs.lemmas.Str.Pattern.{split_once_first}
use Rattle.client_model.specs.Commands.Container.{restart_of}
use Rattle.client_parts.proofs.WordLemmas.{none_passes}
use Rattle.client_parts.proofs.words.containers.read_policy.Goals as goal

pub returns-in_ok-of-in-None : goal.returns-in_ok-of-in-None
returns-in_ok-of-in-None c =
    let word = c.args.word.now in
    let first = split_once_first 58 word c.split_once.result c.split_once.ensures.cases (lit< tt) in
    let none : list_any (λ b. b == 58) word ≡ false = none_passes (λ b. b == 58) word (rw c.in-None.is at first) in
    rw none (ap (λ policy. Some (restart_of policy 0)) (sym c.in_ok-of-in-None.ensures))
