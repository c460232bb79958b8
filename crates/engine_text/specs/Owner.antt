-- When two owners of processes are one (own).
use Rattle.std.specs.Prelude.{◌==◌, Bool, false}
use Rattle.engine_text.specs.declared.owner.Owner.{Owner}
use Rattle.engine_text.specs.declared.owner.Owner.TheVariants.{Container, Exec}

-- containers and execs are told apart, and each by its number
abbrev pub same_owner : Owner → Owner → Bool
same_owner (Container m) (Container n) = m == n
same_owner (Exec m) (Exec n) = m == n
same_owner (Container m) (Exec n) = false
same_owner (Exec m) (Container n) = false
