-- What taking connections in leaves of a door.
use Rattle.std.proofs.Common.{arith, ℕ, ◌≡◌, ◌≤◌, ◌⊎◌, inl, inr, true, false, refl, sym, subst, ◌∙◌}
use Rattle.engine_ports.specs.Rose.{Rose}
use Rattle.engine_ports.specs.Door.{Outside, DoorView, SameDoor, TakesIn, IsEmpty}
use Rattle.lab_program.specs.Serving.{TakesFrom, TookIn}

pub takes_none : (e : DoorView) → TakesFrom e e
takes_none e = record { past = refl; faults = omega arith; bound = refl }

pub takes_one : (o : Outside) (e v v' : DoorView) → TakesFrom e v → TakesIn o v v' → TakesFrom e v'
takes_one o e v v' before one = record {
  past = one.past ∙ before.past;
  faults = omega (arith, before.faults, one.faults);
  bound = one.bound ∙ before.bound;
}

same_takes : (e v v' : DoorView) → TakesFrom e v → SameDoor v v' → TakesFrom e v'
same_takes e v v' before same = record {
  past = same.past ∙ before.past;
  faults = omega (arith, before.faults, same.faults);
  bound = same.bound ∙ before.bound;
}

rises : (a b c : ℕ) → a ≤ b → Rose b c → Rose a c
rises a b c le (inl less) = inl (omega (arith, le, less))
rises a b c le (inr full) = inr full

pub took_all : (e v v' : DoorView) → TakesFrom e v → SameDoor v v' × IsEmpty v.coming → TookIn false e v'
took_all e v v' before none = (same_takes e v v' before none.0, subst IsEmpty (sym none.0.coming) none.1)

pub took_some : (e v v' : DoorView) → TakesFrom e v → SameDoor v v' × Rose v.faults v'.faults → TookIn true e v'
took_some e v v' before failed =
    (same_takes e v v' before failed.0, rises e.faults v.faults v'.faults before.faults failed.1)
