-- Lists of mounts (Docker Engine API v1.43, definition MountPoint).
use Rattle.std.specs.Prelude.{ℕ, ◌==◌, List, [], ◌∷◌, Bool, false, IsUtf8, ⊤}
use Rattle.engine_text.specs.declared.mounts.Mount.{Mount}

-- every volume's name and every target is UTF-8
abbrev pub AreMountsUtf8 : List Mount → Type 0
AreMountsUtf8 [] = ⊤
AreMountsUtf8 (m ∷ ms) = IsUtf8 m.volume × IsUtf8 m.target × AreMountsUtf8 ms

-- a path begins with `/`
abbrev pub is_path : List ℕ → Bool
is_path [] = false
is_path (c ∷ cs) = c == 47
