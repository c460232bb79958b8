-- A request with a key more in front of its query (RFC 9112, section 3.2; URL Standard, section 5.1; own: of a target of ASCII alone).
use Rattle.std.specs.Prelude.{ℕ, List, ◌∷◌, ◌++◌, Bool, ◌==◌, not, nat_lt, Option, Some, None, false, length}
use Rattle.std.specs.List.{list_all, before_first, after_first}
use Rattle.httparse.specs.Grammar.{RequestHead}
use Rattle.http_edge.specs.Message.{Request}

-- a key stands there with a value
abbrev pub is_given : Option (List ℕ) → Bool
is_given None = false
is_given (Some value) = not (length value == 0)

abbrev pub are_ascii : List ℕ → Bool
are_ascii bytes = list_all (λ b. nat_lt b 128) bytes

-- a target with the key in front of its query
abbrev pub with_key : List ℕ → List ℕ → List ℕ
with_key key target = before_first (λ b. b == 63) target ++ 63 ∷ (key ++ after_first (λ b. b == 63) target)

abbrev pub key_request : List ℕ → Request → Request
key_request key request = record request { target = with_key key request.target }

abbrev pub key_head : List ℕ → RequestHead → RequestHead
key_head key head = record head { target = with_key key head.target }
