-- Worked examples of what requests to networks do, and which these are.
use Rattle.std.proofs.Common.{◌≡◌, [], ◌∷◌, ◌++◌, Some, None, codes, refl}
use Rattle.lab_front.specs.Queries.{decoded}
use Rattle.hex.specs.Hex.{encode_with}
use Rattle.lab_networks.specs.Asking.{kind_by, called_in}
use Rattle.lab_networks.specs.Known.{id_of}
use Rattle.lab_networks.specs.Shown.{listed, made_text}
use Rattle.lab_networks.specs.Steps.{answer, stays, made_named, removed_by, joined, pruned}
use Rattle.lab_networks.specs.declared.asking.Kind.TheVariants as kind

-- ---- which requests

create_makes : kind_by (codes "POST") (codes "networks/create") ≡ Some kind.Makes
create_makes = refl

connect_joins : kind_by (codes "POST") (codes "networks/app/connect") ≡ Some kind.Joins
connect_joins = refl

its_name : called_in (Some (codes "networks/app/connect")) ≡ codes "app"
its_name = refl

longer_paths_are_others : kind_by (codes "GET") (codes "networks/app/more") ≡ None
longer_paths_are_others = refl

a_list_is_not_removed : kind_by (codes "DELETE") (codes "networks") ≡ None
a_list_is_not_removed = refl

-- ---- what they do

first_made :
    made_named [] (Some (codes "app"))
    ≡ (codes "app" ∷ [], answer 201 (codes "{\"Id\":\"617070" ++ codes "0000000000000000000000000000000000000000000000000000000000\",\"Warning\":\"\"}"))
unfolding id_of encode_with
first_made = refl

made_again : made_named (codes "app" ∷ []) (Some (codes "app"))
    ≡ (codes "app" ∷ [], answer 409 (codes "{\"message\":\"network with name app already exists\"}"))
made_again = refl

one_of_the_three : made_named [] (Some (codes "host"))
    ≡ ([], answer 403 (codes "{\"message\":\"operation is not permitted on predefined host network\"}"))
one_of_the_three = refl

removed_by_its_name : removed_by (codes "b2") (codes "a1" ∷ codes "b2" ∷ codes "c3" ∷ []) None ≡ (codes "a1" ∷ codes "c3" ∷ [], answer 204 [])
unfolding id_of encode_with
removed_by_its_name = refl

joined_to_one_of_the_three : joined (codes "bridge") [] ≡ stays [] 200 []
joined_to_one_of_the_three = refl

all_pruned : pruned (codes "a1" ∷ codes "b2" ∷ []) ≡ ([], answer 200 (codes "{\"NetworksDeleted\":[\"a1\",\"b2\"]}"))
all_pruned = refl

-- ---- the list

by_a_name : listed (Some (codes "%7B%22name%22%3A%7B%22app%22%3Atrue%7D%7D")) (codes "other" ∷ codes "app" ∷ []) ≡ made_text (codes "app") ∷ []
unfolding decoded
by_a_name = refl
