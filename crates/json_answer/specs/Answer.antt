-- A JSON text as the answer to a request (RFC 9112, section 4).
use Rattle.std.specs.Prelude.{ℕ, List, ◌++◌, length, if◌then◌else◌}
use Rattle.http_edge.specs.Message.{Request}
use Rattle.http_edge.specs.Asks.{closes, is_head}
use Rattle.http_edge.specs.Response.{head_text}
use Rattle.http_edge.specs.declared.head.Form.TheVariants.{Json}
use Rattle.json_answer.specs.declared.asking.Terms.{Terms}

-- that the connection closes behind it, and that its body isn't sent
abbrev pub terms_of : Request → Terms
terms_of request = record { close = closes request; bare = is_head request }

-- its head, and its body but to HEAD
abbrev pub json_answer : Terms → ℕ → List ℕ → List ℕ
json_answer terms status body =
    let head : List ℕ = head_text (record { status = status; form = Json (length body); close = terms.close }) in
    if terms.bare then head else head ++ body
