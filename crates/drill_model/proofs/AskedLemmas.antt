-- What a drill asks: each of its words is a request, and all of them are read, with nothing behind.
use Rattle.std.proofs.Common.{arith, ◌≡◌, ◌<◌, ℕ, true, List, [], ◌∷◌, ◌++◌, length, map, refl, codes, lit<}
use Rattle.std.specs.Prelude.{decimal}
use Rattle.std.specs.List.{concat, list_all, range_with_len}
use Rattle.std.specs.Fmt.{digits}
use Rattle.httparse.specs.Grammar.{Field, is_token, is_token_byte}
use Rattle.http_edge.specs.Message.{Request}
use Rattle.http_edge.specs.Spelling.{Spells, ReadsRequests}
use Rattle.drill_model.specs.Requests.{create_body, bare_end, sized_end, request_by, next_box, deed_of, box_of, program_of, request_of}
use Rattle.drill_model.specs.declared.deed.Deed.{Deed}
use Rattle.drill_model.specs.declared.deed.Deed.TheVariants.{Create, Start, Stop, Kill, Pause, Unpause, Restart, Rename, Remove, RemoveByForce, ListAll, Inspect}
use Rattle.drill_model.specs.declared.deed.Program.{Program}
use Rattle.drill_model.proofs.SpellingLemmas.{IsEnd, asked_of, host, sized, bare, sized_by, is_target, target_of, each, spells}

-- ---- one request

-- the target of what is done to a box
abbrev box_target : ℕ → List ℕ → List ℕ
box_target k operation = codes "/v1.43/containers/box-" ++ decimal k ++ operation

abbrev pub target_by : Deed → ℕ → List ℕ
target_by Create k = codes "/v1.43/containers/create?name=box-" ++ decimal k
target_by Start k = box_target k (codes "/start")
target_by Stop k = box_target k (codes "/stop?t=1")
target_by Kill k = box_target k (codes "/kill")
target_by Pause k = box_target k (codes "/pause")
target_by Unpause k = box_target k (codes "/unpause")
target_by Restart k = box_target k (codes "/restart?t=1")
target_by Rename k = box_target k (codes "/rename?name=box-" ++ decimal (next_box k))
target_by Remove k = box_target k []
target_by RemoveByForce k = box_target k (codes "?force=1")
target_by ListAll k = codes "/v1.43/containers/json?all=1"
target_by Inspect k = box_target k (codes "/json")

abbrev pub method_by : Deed → List ℕ
method_by Remove = codes "DELETE"
method_by RemoveByForce = codes "DELETE"
method_by ListAll = codes "GET"
method_by Inspect = codes "GET"
method_by deed = codes "POST"

-- as it is read
abbrev pub asked_by : Deed → ℕ → Program → Request
asked_by Create k program = asked_of (codes "POST") (target_by Create k) (sized (create_body program)) (create_body program)
asked_by deed k program = asked_of (method_by deed) (target_by deed k) host []

-- of the first 32 boxes
are_targets : (deed : Deed) → list_all (λ k. is_target (target_by deed k)) (range_with_len 0 32) ≡ true
unfolding digits
are_targets Create = refl
are_targets Start = refl
are_targets Stop = refl
are_targets Kill = refl
are_targets Pause = refl
are_targets Unpause = refl
are_targets Restart = refl
are_targets Rename = refl
are_targets Remove = refl
are_targets RemoveByForce = refl
are_targets ListAll = refl
are_targets Inspect = refl

by_target : (method : List ℕ) (deed : Deed) (fields : List Field) (body end : List ℕ) (k : ℕ) → k < 32 → is_token method ≡ true → length method < 8
    → IsEnd fields body end → Spells (method ++ codes " " ++ target_by deed k ++ end) (asked_of method (target_by deed k) fields body)
by_target method deed fields body end k fits token short behind =
    spells method (target_by deed k) fields body end token short (target_of (target_by deed k) (each (λ n. is_target (target_by deed n)) (are_targets deed) k fits)) behind

pub spelled : (deed : Deed) (k : ℕ) (program : Program) → k < 32 → Spells (request_by deed k program) (asked_by deed k program)
unfolding is_token_byte
spelled Create k program fits = by_target (codes "POST") Create (sized (create_body program)) (create_body program) (sized_end (create_body program)) k fits refl (lit< tt) (sized_by program)
spelled Start k program fits = by_target (codes "POST") Start host [] bare_end k fits refl (lit< tt) bare
spelled Stop k program fits = by_target (codes "POST") Stop host [] bare_end k fits refl (lit< tt) bare
spelled Kill k program fits = by_target (codes "POST") Kill host [] bare_end k fits refl (lit< tt) bare
spelled Pause k program fits = by_target (codes "POST") Pause host [] bare_end k fits refl (lit< tt) bare
spelled Unpause k program fits = by_target (codes "POST") Unpause host [] bare_end k fits refl (lit< tt) bare
spelled Restart k program fits = by_target (codes "POST") Restart host [] bare_end k fits refl (lit< tt) bare
spelled Rename k program fits = by_target (codes "POST") Rename host [] bare_end k fits refl (lit< tt) bare
spelled Remove k program fits = by_target (codes "DELETE") Remove host [] bare_end k fits refl (lit< tt) bare
spelled RemoveByForce k program fits = by_target (codes "DELETE") RemoveByForce host [] bare_end k fits refl (lit< tt) bare
spelled ListAll k program fits = by_target (codes "GET") ListAll host [] bare_end k fits refl (lit< tt) bare
spelled Inspect k program fits = by_target (codes "GET") Inspect host [] bare_end k fits refl (lit< tt) bare

-- ---- all requests

abbrev pub asked_at : ℕ → Request
asked_at word = asked_by (deed_of word) (box_of word) (program_of word)

spelled_at : (word : ℕ) → Spells (request_of word) (asked_at word)
unfolding request_of
spelled_at word = spelled (deed_of word) (box_of word) (program_of word) (omega arith)

-- those of some words are read, with nothing behind
pub are_read : (word_at : ℕ → ℕ) (places : List ℕ)
    → ReadsRequests (concat (map (λ i. request_of (word_at i)) places)) (map (λ i. asked_at (word_at i)) places) []
are_read word_at [] = refl
are_read word_at (i ∷ places) =
    (concat (map (λ n. request_of (word_at n)) places), (request_of (word_at i), spelled_at (word_at i), refl), are_read word_at places)
