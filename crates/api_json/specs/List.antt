-- The text of a list of containers (Docker Engine API v1.43, ContainerList, definition ContainerSummary).
use Rattle.std.specs.Prelude.{ℕ, ◌/◌, List, [], ◌∷◌, ◌++◌, codes}
use Rattle.std.specs.List.{join_by}
use Rattle.serde_json.specs.Data.{Data, object, no_members, member}
use Rattle.serde_json.specs.Written.{compact_text}
use Rattle.json_laws.specs.Pairs.{words_data}
use Rattle.engine_text.specs.declared.listed.Listed.{Listed}
use Rattle.api_json.specs.Values.{text, natural, list_of, empty_list, pairs_object, image_name}
use Rattle.api_json.specs.Mount.{mount_data}
use Rattle.api_json.specs.Status.{status_word, status_text}

-- the words joined by blanks; `Created` in seconds
abbrev pub listed_data : Listed → Data
listed_data c = object (
    member (codes "Command") (text (join_by (λ w. w) (codes " ") c.words)) (
    member (codes "Created") (natural (c.created / 1000)) (
    member (codes "Id") (text c.id) (
    member (codes "Image") (text image_name) (
    member (codes "Labels") (pairs_object c.labels) (
    member (codes "Mounts") (list_of mount_data c.mounts) (
    member (codes "Names") (words_data ((codes "/" ++ c.name) ∷ [])) (
    member (codes "Ports") empty_list (
    member (codes "State") (text (status_word c.status)) (
    member (codes "Status") (text (status_text c.status c.code)) no_members))))))))))

-- the body of ContainerList
abbrev pub list_text : List Listed → List ℕ
list_text cs = compact_text (list_of listed_data cs)
