-- Facts of a wait whose head comes early: which requests have one, and its bytes, worked out by hand.
use Rattle.std.proofs.Common.{◌≡◌, ℕ, List, [], ◌∷◌, ◌++◌, Bool, true, false, Option, None, refl}
use Rattle.std.specs.Prelude.{ℤ, IsTrue, codes}
use Rattle.std.proofs.lemmas.Bool.{false≢true}
use Rattle.engine_text.specs.declared.call.Call.{Call}
use Rattle.engine_text.specs.declared.call.Call.TheVariants as call
use Rattle.engine_text.specs.declared.call.Until.{Until}
use Rattle.engine_text.specs.declared.signal.Signal.{Signal}
use Rattle.engine_text.specs.declared.step.Step.{Step}
use Rattle.machine_model.specs.History.{Charter}
use Rattle.http_edge.specs.Asks.{asks_early}
use Rattle.http_edge.specs.Chunks.{chunk_text, last_chunk}
use Rattle.http_edge.specs.Message.{Header, Request}
use Rattle.http_edge.specs.Response.{first_lines, form_lines}
use Rattle.http_edge.specs.declared.head.Form.TheVariants.{ChunkedJson}
use Rattle.session_model.specs.declared.followed.Followed.{Followed}
use Rattle.session_model.specs.Exchange.{IsSentInChunks, OfStream, OfWait, OfBrokenWait, is_early}
use Rattle.session_model.specs.Responses.{early_head}

-- ---- which requests have one

abbrev with_fields : List Header → Request
with_fields fields = record { method = codes "POST"; target = codes "/containers/a/wait"; fields = fields; body = [] }

-- a wait with the field, its name and value in any case
asked : (until : Until) → is_early (with_fields ((codes "x-ENGINE-early", codes "WAIT") ∷ [])) (call.Wait (codes "a") until) ≡ true
asked until = refl

-- not with another value, and not without the field
other_value : (until : Until) → is_early (with_fields ((codes "X-Engine-Early", codes "wait, now") ∷ [])) (call.Wait (codes "a") until) ≡ false
other_value until = refl

without_field : (until : Until) → is_early (with_fields ((codes "Host", codes "a") ∷ [])) (call.Wait (codes "a") until) ≡ false
without_field until = refl

-- a wait of Docker's own client, or of one on Go's, whose names begin so in any case
by_docker : (until : Until) → is_early (with_fields ((codes "User-Agent", codes "Docker-Client/20.10.24 (linux)") ∷ [])) (call.Wait (codes "a") until) ≡ true
by_docker until = refl

by_go : (until : Until) → is_early (with_fields ((codes "user-agent", codes "go-HTTP-client/1.1") ∷ [])) (call.Wait (codes "a") until) ≡ true
by_go until = refl

-- not where they stand behind others, or without the slash
behind_others : (until : Until) → is_early (with_fields ((codes "User-Agent", codes "curl/8.5.0 Docker-Client/1") ∷ [])) (call.Wait (codes "a") until) ≡ false
behind_others until = refl

without_slash : (until : Until) → is_early (with_fields ((codes "User-Agent", codes "Docker-Client") ∷ [])) (call.Wait (codes "a") until) ≡ false
without_slash until = refl

-- and never with a no, whatever else is there
with_no : (until : Until) → is_early (with_fields ((codes "User-Agent", codes "Docker-Client/20.10.24 (linux)") ∷ (codes "X-Engine-Early", codes "NO") ∷ [])) (call.Wait (codes "a") until) ≡ false
with_no until = refl

with_both : (until : Until) → is_early (with_fields ((codes "X-Engine-Early", codes "wait") ∷ (codes "X-Engine-Early", codes "no") ∷ [])) (call.Wait (codes "a") until) ≡ false
with_both until = refl

-- nor any other call that is waited for
no_stop : (r : Request) (target : List ℕ) (seconds : Option ℤ) (signal : Option Signal) → is_early r (call.Stop target seconds signal) ≡ false
no_stop r target seconds signal = refl

no_removal : (r : Request) (target : List ℕ) (force : Bool) → is_early r (call.Remove target force) ≡ false
no_removal r target force = refl

-- ---- its rows

-- whether it has an early head
abbrev HasEarlyHead : (ch : Charter) (k : ℕ) (r : Request) (behind : List ℕ) (a b : List Step) (f : Followed) (head body ms : List ℕ)
    → IsSentInChunks ch k r behind a b f head body ms → Bool
HasEarlyHead ch k r behind a b f head body ms (OfStream c reply g mid m bytes ns asks made quiet tells ends comes) = false
HasEarlyHead ch k r behind a b f head body ms row = true

asks_of : (r : Request) (c : Call) → IsTrue (is_early r c) → IsTrue (asks_early r)
asks_of r (call.Wait target until) early = early
asks_of r c early = absurd (false≢true early)

-- it has one only where the request asks for it
pub early_is_asked : (ch : Charter) (k : ℕ) (r : Request) (behind : List ℕ) (a b : List Step) (f : Followed) (head body ms : List ℕ)
    (x : IsSentInChunks ch k r behind a b f head body ms) → IsTrue (HasEarlyHead ch k r behind a b f head body ms x) → IsTrue (asks_early r)
early_is_asked ch k r behind a b f head body ms (OfWait c bytes ns asks early waited) has = asks_of r c early
early_is_asked ch k r behind a b f head body ms (OfBrokenWait c g ns asks early broke given) has = asks_of r c early
early_is_asked ch k r behind a b f head body ms (OfStream c reply g mid m bytes ns asks made quiet tells ends comes) has = absurd (false≢true has)

-- ---- its bytes

-- a head of status 200 with these lines
head : (close : Bool) → early_head (record { close = close; bare = false }) ≡ first_lines 200 close ++ form_lines (ChunkedJson None) ++ codes "\r\n"
head close = refl

lines : form_lines (ChunkedJson None) ≡ codes "Content-Type: application/json\r\nServer: engined\r\nTransfer-Encoding: chunked\r\n"
lines = refl

-- behind it, of a container that ended with 3
tail : chunk_text (codes "{\"StatusCode\":3}") ++ last_chunk ≡ codes "10\r\n{\"StatusCode\":3}\r\n0\r\n\r\n"
tail = refl
