-- The requests of a drill (own; Docker Engine API v1.43; RFC 8439, section 2.4 for its words).
use Rattle.std.specs.Prelude.{ℕ, ◌+◌, ◌-◌, ◌/◌, ◌%◌, ◌^◌, List, [], ◌∷◌, ◌++◌, get_or, length, map, codes, decimal}
use Rattle.std.specs.List.{range_with_len}
use Rattle.rand_chacha.specs.ChaCha.{word_at, key_of}
use Rattle.drill_model.specs.declared.deed.Deed.{Deed}
use Rattle.drill_model.specs.declared.deed.Deed.TheVariants.{Create, Start, Stop, Kill, Pause, Unpause, Restart, Rename, Remove, RemoveByForce, ListAll, Inspect}
use Rattle.drill_model.specs.declared.deed.Program.{Program}
use Rattle.drill_model.specs.declared.deed.Program.TheVariants.{Deaf, Exit, Tick, Flaky}

-- ---- words

-- the stream of a seed's words that a drill reads: the last, which no id has
abbrev pub drill_stream : ℕ
drill_stream = 2 ^ 64 - 1

-- word i of the drill under a seed
abbrev pub drill_word : List ℕ → ℕ → ℕ
drill_word seed i = word_at 10 (key_of seed) drill_stream i

-- ---- what a word asks for

-- sixteen deeds, by a word's lowest digit to base 16
abbrev pub deeds : List Deed
deeds =
    Create ∷ Create ∷ Create ∷ Start ∷ Start ∷ Start ∷ Stop ∷ Kill ∷ Pause ∷ Unpause ∷ Restart ∷ Rename
    ∷ Remove ∷ RemoveByForce ∷ ListAll ∷ Inspect ∷ []

abbrev pub deed_of : ℕ → Deed
deed_of word = get_or deeds (word % 16) Create

-- of 32 boxes, the one that it speaks of
abbrev pub box_of : ℕ → ℕ
box_of word = word / 16 % 32

-- the box behind it, and behind the last the first
abbrev pub next_box : ℕ → ℕ
next_box k = (k + 1) % 32

-- four programs, of which a create's is one
abbrev pub programs : List Program
programs = Deaf ∷ Exit ∷ Tick ∷ Flaky ∷ []

abbrev pub program_of : ℕ → Program
program_of word = get_or programs (word / 512 % 4) Deaf

-- ---- requests

-- the body of a create
abbrev pub create_body : Program → List ℕ
create_body Deaf = codes "{\"Cmd\":[\"deaf\"],\"Image\":\"engine/tools\"}"
create_body Exit = codes "{\"Cmd\":[\"exit\",\"3\"],\"Image\":\"engine/tools\"}"
create_body Tick = codes "{\"Cmd\":[\"tick\",\"5\",\"20\"],\"Image\":\"engine/tools\"}"
create_body Flaky = codes "{\"Cmd\":[\"flaky\",\"2\"],\"HostConfig\":{\"RestartPolicy\":{\"MaximumRetryCount\":5,\"Name\":\"on-failure\"}},\"Image\":\"engine/tools\"}"

-- the end of a head that has no body, and of one that has this body
abbrev pub bare_end : List ℕ
bare_end = codes " HTTP/1.1\r\nHost: x\r\n\r\n"

abbrev pub sized_end : List ℕ → List ℕ
sized_end body = codes " HTTP/1.1\r\nHost: x\r\nContent-Length: " ++ decimal (length body) ++ codes "\r\n\r\n" ++ body

-- a create of box k, with a body
abbrev pub post_create : ℕ → List ℕ → List ℕ
post_create k body = codes "POST /v1.43/containers/create?name=box-" ++ decimal k ++ sized_end body

-- a POST to box k's operation
abbrev pub post_box : ℕ → List ℕ → List ℕ
post_box k operation = codes "POST /v1.43/containers/box-" ++ decimal k ++ operation ++ bare_end

-- a rename of box k to the name of another
abbrev pub post_rename : ℕ → ℕ → List ℕ
post_rename k next = post_box k (codes "/rename?name=box-" ++ decimal next)

-- a DELETE of box k, with a query
abbrev pub delete_box : ℕ → List ℕ → List ℕ
delete_box k query = codes "DELETE /v1.43/containers/box-" ++ decimal k ++ query ++ bare_end

-- the request of a deed on box k, with a program
abbrev pub request_by : Deed → ℕ → Program → List ℕ
request_by Create k program = post_create k (create_body program)
request_by Start k program = post_box k (codes "/start")
request_by Stop k program = post_box k (codes "/stop?t=1")
request_by Kill k program = post_box k (codes "/kill")
request_by Pause k program = post_box k (codes "/pause")
request_by Unpause k program = post_box k (codes "/unpause")
request_by Restart k program = post_box k (codes "/restart?t=1")
request_by Rename k program = post_rename k (next_box k)
request_by Remove k program = delete_box k []
request_by RemoveByForce k program = delete_box k (codes "?force=1")
request_by ListAll k program = codes "GET /v1.43/containers/json?all=1" ++ bare_end
request_by Inspect k program = codes "GET /v1.43/containers/box-" ++ decimal k ++ codes "/json" ++ bare_end

-- the request that a word asks for
unfoldable pub request_of : ℕ → List ℕ
request_of word = request_by (deed_of word) (box_of word) (program_of word)

-- the requests of a drill of so many under a seed, in order
abbrev pub drill_requests : List ℕ → ℕ → List (List ℕ)
drill_requests seed count = map (λ i. request_of (drill_word seed i)) (range_with_len 0 count)
