-- What a sink of bytes tells. own: the daemon's view of wherever bytes go.
use Rattle.std.specs.Prelude.{ℕ, ◌≡◌, ◌≤◌, List, [], ◌++◌, Option, Some, None, Result, Ok, Err}
use Rattle.engine_ports.specs.Rose.{Rose}
use Rattle.engine_ports.specs.declared.ports.Failed.{Failed}

-- all bytes taken so far, where they are told, and how often a call failed
pub record SinkView : Type 0 where
  pub wrote : Option (List ℕ)
  pub faults : ℕ

-- a sink that tells no bytes, before its first write
abbrev pub untold_sink : SinkView
untold_sink = record { wrote = None; faults = 0 }

-- the bytes begin with this part
abbrev pub IsFront : List ℕ → List ℕ → Type 0
IsFront part bytes = (cut : List ℕ) × (part ++ cut ≡ bytes)

-- a sink that tells its bytes took exactly these
abbrev pub Took : Option (List ℕ) → List ℕ → Option (List ℕ) → Type 0
Took (Some before) bytes (Some now) = now ≡ before ++ bytes
Took None bytes None = Unit {0}
Took (Some before) bytes None = ⊥
Took None bytes (Some now) = ⊥

-- the sink took these bytes, and its count did not fall
pub record SinkTook (v : SinkView) (bytes : List ℕ) (v' : SinkView) : Type 0 where
  pub took : Took v.wrote bytes v'.wrote
  pub faults : v.faults ≤ v'.faults

-- what a write says: the whole piece, or a front of it and a fault
abbrev pub WriteSays : Result (Unit {0}) Failed → List ℕ → SinkView → SinkView → Type 0
WriteSays (Ok x) piece v v' = SinkTook v piece v'
WriteSays (Err x) piece v v' =
    (part : List ℕ) × IsFront part piece × SinkTook v part v' × Rose v.faults v'.faults

-- what a probe says: all is as it was, or the peer is gone, and that is a fault
abbrev pub ProbeSays : Result (Unit {0}) Failed → SinkView → SinkView → Type 0
ProbeSays (Ok x) v v' = v' ≡ v
ProbeSays (Err x) v v' = SinkTook v [] v' × Rose v.faults v'.faults

-- what the end of writing says: no byte more, or a fault
abbrev pub FinishSays : Result (Unit {0}) Failed → SinkView → SinkView → Type 0
FinishSays (Ok x) v v' = SinkTook v [] v'
FinishSays (Err x) v v' = SinkTook v [] v' × Rose v.faults v'.faults
