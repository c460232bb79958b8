-- The address that a line's port is of (own).
use Rattle.std.specs.Prelude.{ℕ, List, ◌++◌, codes, decimal}

-- the ADDR of a port of this machine alone
abbrev pub addr_of : ℕ → List ℕ
addr_of port = codes "127.0.0.1:" ++ decimal port
