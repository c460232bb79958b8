-- The text of an exec (Docker Engine API v1.43, ExecInspect).
use Rattle.std.specs.Prelude.{ℕ, List, [], Bool, false, Option, Some, None, codes, drop}
use Rattle.serde_json.specs.Data.{Data, null, boolean, object, no_members, member}
use Rattle.serde_json.specs.Written.{compact_text}
use Rattle.json_laws.specs.Pairs.{words_data}
use Rattle.api_json.specs.Values.{text, natural, first_word}

-- What the text of an exec tells; `container` is the container's id, `live` whether its process lives.
pub record ExecParts : Type 0 where
  pub id : List ℕ
  pub container : List ℕ
  pub words : List (List ℕ)
  pub stdin : Bool
  pub out : Bool
  pub err : Bool
  pub live : Bool
  pub pid : ℕ
  pub code : Option ℕ

-- null until it has ended
abbrev pub code_data : Option ℕ → Data
code_data None = null
code_data (Some code) = natural code

-- `ProcessConfig`: the first word is `entrypoint`, the others are `arguments`; there is no terminal and no privilege
abbrev pub process_data : List (List ℕ) → Data
process_data words = object (
    member (codes "arguments") (words_data (drop 1 words)) (
    member (codes "entrypoint") (text (first_word words)) (
    member (codes "privileged") (boolean false) (
    member (codes "tty") (boolean false) no_members))))

-- an exec as ExecInspect tells it; it can't be removed, and no keys detach from it
abbrev pub exec_data : ExecParts → Data
exec_data x = object (
    member (codes "CanRemove") (boolean false) (
    member (codes "ContainerID") (text x.container) (
    member (codes "DetachKeys") (text []) (
    member (codes "ExitCode") (code_data x.code) (
    member (codes "ID") (text x.id) (
    member (codes "OpenStderr") (boolean x.err) (
    member (codes "OpenStdin") (boolean x.stdin) (
    member (codes "OpenStdout") (boolean x.out) (
    member (codes "Pid") (natural x.pid) (
    member (codes "ProcessConfig") (process_data x.words) (
    member (codes "Running") (boolean x.live) no_members)))))))))))

-- the body of ExecInspect
abbrev pub exec_text : ExecParts → List ℕ
exec_text x = compact_text (exec_data x)
