-- What a link tells of its connections. own: a client's view of where its connections lead.
use Rattle.std.specs.Prelude.{ℕ, ◌≡◌, ◌≤◌, ◌+◌, ◌⊎◌, not, List, filter, bytes_eq, Option, option_map, Result, Ok, Err}
use Rattle.engine_ports.specs.Rose.{Rose, raised}
use Rattle.engine_ports.specs.Source.{SourceView}
use Rattle.engine_ports.specs.Sink.{SinkView}
use Rattle.engine_ports.specs.Door.{Came, ToldLast, IsFresh}
use Rattle.engine_ports.specs.declared.ports.Failed.{Failed}

-- what the two parts of a connection tell
pub record Wire : Type 0 where
  pub source : SourceView
  pub sink : SinkView

abbrev pub wire : SourceView → SinkView → Wire
wire s u = record { source = s; sink = u }

-- the connections to come, those that ended and the addresses that were asked for, where they are told, how many were
-- made and haven't been left (a link that keeps no such count tells the greatest one), and how often a call failed
pub record LinkView : Type 0 where
  pub coming : Option (List Wire)
  pub past : Option (List Wire)
  pub addresses : Option (List (List ℕ))
  pub owed : ℕ
  pub faults : ℕ

-- a connection begins with no count and with nothing written
pub record IsNewWire (w : Wire) : Type 0 where
  pub faults : w.source.faults ≡ 0
  pub ends : w.source.ends ≡ 0
  pub sink_faults : w.sink.faults ≡ 0
  pub fresh : IsFresh w.sink.wrote

-- a connection to the address was made: the first of those to come, new
pub record Connects (address : List ℕ) (w : Wire) (v v' : LinkView) : Type 0 where
  pub came : Came v.coming w v'.coming
  pub new : IsNewWire w
  pub past : v'.past ≡ v.past
  pub addresses : ToldLast v.addresses address v'.addresses
  pub owed : Rose v.owed v'.owed
  pub faults : v'.faults ≡ v.faults

-- the address was asked for, which may go untold, no connection was made, and the fault is counted
pub record Misses (address : List ℕ) (v v' : LinkView) : Type 0 where
  pub coming : v'.coming ≡ v.coming
  pub past : v'.past ≡ v.past
  pub addresses : ToldLast v.addresses address v'.addresses ⊎ (v'.addresses ≡ v.addresses)
  pub owed : v'.owed ≡ v.owed
  pub faults : v'.faults ≡ raised v.faults

-- what connecting to an address says
abbrev pub ConnectSays : {S K : Type 0} → List ℕ → (S → K → Wire) → Result (S × K) Failed → LinkView → LinkView → Type 0
ConnectSays address tells (Ok parts) v v' = Connects address (tells parts.0 parts.1) v v'
ConnectSays address tells (Err x) v v' = Misses address v v'

-- what leaving says: the connection is the last of the past
pub record Leaves (w : Wire) (v v' : LinkView) : Type 0 where
  pub past : ToldLast v.past w v'.past
  pub coming : v'.coming ≡ v.coming
  pub addresses : v'.addresses ≡ v.addresses
  pub owed : v.owed ≤ v'.owed + 1
  pub faults : v'.faults ≡ v.faults

-- of addresses that are told, those other than this
abbrev pub others : List ℕ → Option (List (List ℕ)) → Option (List (List ℕ))
others address = option_map (filter (λ other. not (bytes_eq other address)))

-- a link but for this address: of the addresses that were asked for, the others
abbrev pub but_for : List ℕ → LinkView → LinkView
but_for address v = record v { addresses = others address v.addresses }
