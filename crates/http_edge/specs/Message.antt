-- A request as its reader sees it (RFC 9112, section 3, and RFC 9110, section 5).
use Rattle.std.specs.Prelude.{ℕ, Bool, List, map, filter}
use Rattle.std.specs.Str.{str_eq_ignore_ascii_case}

-- a field's name and value
abbrev pub Header : Type 0
Header = List ℕ × List ℕ

-- a request, without how it is spelled
pub record Request : Type 0 where
  pub method : List ℕ
  pub target : List ℕ
  pub fields : List Header
  pub body : List ℕ

-- the same text, in any case of its ASCII letters
abbrev pub is_same_text : List ℕ → List ℕ → Bool
is_same_text = str_eq_ignore_ascii_case

-- the field has this name
abbrev pub is_named : List ℕ → Header → Bool
is_named name field = is_same_text field.0 name

-- the values of the fields of this name, in order
abbrev pub values_named : List ℕ → List Header → List (List ℕ)
values_named name fields = map (λ f. f.1) (filter (is_named name) fields)
