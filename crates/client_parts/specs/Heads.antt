-- Pieces of a request's head (RFC 9112, section 3).
use Rattle.std.specs.Prelude.{ℕ, List, ◌∷◌, ◌++◌, flat_map, codes}
use Rattle.client_model.specs.Requests.{escaped_byte, manner_fields, field_line}
use Rattle.client_model.specs.declared.manner.Manner.{Manner}

-- a segment, with its slash
abbrev pub segment_text : List ℕ → List ℕ
segment_text segment = codes "/" ++ flat_map escaped_byte segment

-- the version behind a target, and the fields that every request has
abbrev pub behind_target : Manner → List ℕ
behind_target manner =
    codes " HTTP/1.1\r\n" ++ flat_map field_line ((codes "Host", codes "engine") ∷ manner_fields manner)
