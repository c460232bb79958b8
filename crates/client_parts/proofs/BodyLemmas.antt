-- Bodies have no float.
use Rattle.std.proofs.Common.{◌≡◌, ℕ, List, [], ◌∷◌, refl, false, Bool}
use Rattle.serde_json.specs.Written.{has_float, items_have_float}
use Rattle.json_laws.specs.Pairs.{words_items}
use Rattle.client_model.specs.Commands.Container.{container_data}
use Rattle.client_model.specs.Commands.Exec.{exec_data}
use Rattle.client_model.specs.Commands.Update.{update_data}
use Rattle.client_model.specs.declared.command.NewContainer.{NewContainer}
use Rattle.client_model.specs.declared.command.Restart.{Restart}

words_items_no_float : (words : List (List ℕ)) → items_have_float (words_items words) ≡ false
words_items_no_float [] = refl
words_items_no_float (word ∷ words) = words_items_no_float words

pub container_no_float : (c : NewContainer) → has_float (container_data c) ≡ false
container_no_float c = rw (words_items_no_float c.words, words_items_no_float c.binds) refl

pub update_no_float : (restart : Restart) → has_float (update_data restart) ≡ false
update_no_float restart = refl

pub exec_no_float : (words : List (List ℕ)) (input : Bool) → has_float (exec_data words input) ≡ false
exec_no_float words input = rw (words_items_no_float words) refl
