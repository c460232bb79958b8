-- What a source, a sink and a clock in memory are, and what each call of them does. own: they fail
-- where they are told to, so that a test can show each cause.
use Rattle.std.specs.Prelude.{ℕ, ◌≡◌, ◌≤◌, ◌<◌, ◌⊎◌, ◌+◌, ◌++◌, min, Bool, true, false, List, [], ◌∷◌, map, take, drop, length, Contains, Option, None, Some, Result, Ok, Err, String, string_bytes}
use Rattle.std.specs.declared.alloc.Global.{Global}
use Rattle.engine_ports.specs.Rose.{raised, greatest_count}
use Rattle.engine_ports.specs.Source.{SourceView}
use Rattle.engine_ports.specs.Sink.{SinkView}
use Rattle.engine_ports.specs.Clock.{ClockView}
use Rattle.engine_ports.specs.declared.ports.Got.{Got}
use Rattle.engine_ports.specs.declared.ports.Got.TheVariants as got
use Rattle.engine_ports.specs.declared.ports.Pause.{Pause}
use Rattle.engine_ports.specs.declared.ports.Pause.TheVariants as pause
use Rattle.engine_ports.specs.declared.ports.Failed.{Failed}

-- a source: the bytes left, the most for one read, the numbers of the reads that fail, and how many
-- reads, faults and ends there were
pub record Supply : Type 0 where
  pub left : List ℕ
  pub cut : ℕ
  pub failing : List ℕ
  pub reads : ℕ
  pub faults : ℕ
  pub ends : ℕ

-- a sink: the bytes taken, the numbers of the writes that fail, and how many writes and faults there
-- were, and how many of the faults were for want of memory
pub record Store : Type 0 where
  pub wrote : List ℕ
  pub failing : List ℕ
  pub writes : ℕ
  pub faults : ℕ
  pub short : ℕ

-- a clock: the moment held, what each reading adds, the number of the first pause that is stopped,
-- and how many pauses and stops there were
pub record Steps : Type 0 where
  pub moment : ℕ
  pub step : ℕ
  pub stop_at : Option ℕ
  pub pauses : ℕ
  pub stops : ℕ

-- a clock that tells its moments: those to come, until they have run out, the one that it handed last,
-- the number of the first pause that is stopped, and how many pauses and stops there were
pub record Moments : Type 0 where
  pub coming : Option (List ℕ)
  pub last : ℕ
  pub stop_at : Option ℕ
  pub pauses : ℕ
  pub stops : ℕ

-- a read into a place: it fails exactly where its number says so, and else gives as much as it may
abbrev pub IsRead : Supply → List ℕ → Got → Supply → Type 0
IsRead s into (got.Bytes n) s' =
    ¬ (Contains s.failing s.reads) × (0 < n) × (n ≡ min (min (length s.left) s.cut) (length into))
    × (take n into ≡ take n s.left) × (s' ≡ record s { left = drop n s.left; reads = raised s.reads })
IsRead s into got.End s' =
    ¬ (Contains s.failing s.reads) × (s.left ≡ []) × (s' ≡ record s { reads = raised s.reads; ends = raised s.ends })
IsRead s into got.Failed s' =
    Contains s.failing s.reads × (s' ≡ record s { reads = raised s.reads; faults = raised s.faults })

-- a write of a piece: it fails where its number says so, and else for want of memory alone
abbrev pub IsWrite : Store → List ℕ → Result (Unit {0}) Failed → Store → Type 0
IsWrite s piece (Ok x) s' =
    ¬ (Contains s.failing s.writes) × (s' ≡ record s { wrote = s.wrote ++ piece; writes = raised s.writes })
IsWrite s piece (Err x) s' =
    (Contains s.failing s.writes × (s' ≡ record s { writes = raised s.writes; faults = raised s.faults }))
    ⊎ (¬ (Contains s.failing s.writes)
    × (s' ≡ record s { writes = raised s.writes; faults = raised s.faults; short = raised s.short }))

-- a probe fails exactly where the number of the next write says so
abbrev pub IsProbe : Store → Result (Unit {0}) Failed → Store → Type 0
IsProbe s (Ok x) s' = ¬ (Contains s.failing s.writes) × (s' ≡ s)
IsProbe s (Err x) s' = Contains s.failing s.writes × (s' ≡ record s { faults = raised s.faults })

-- the sum, or the greatest u64
abbrev pub sum_at_most : ℕ → ℕ → ℕ
sum_at_most a b = min (a + b) greatest_count

-- the pause of this number is stopped
abbrev pub IsStopped : Option ℕ → ℕ → Type 0
IsStopped None n = ⊥
IsStopped (Some first) n = first ≤ n

-- the count of stops after a pause
abbrev pub stops_after : Pause → ℕ → ℕ
stops_after pause.Go stops = stops
stops_after pause.Stop stops = raised stops

-- a reading hands the first of the moments to come; behind them the last one again, and tells none then
abbrev pub IsMoment : Option (List ℕ) → ℕ → Moments → Moments → Type 0
IsMoment (Some (first ∷ rest)) m s s' = (m ≡ first) × (s' ≡ record s { coming = Some rest; last = first })
IsMoment (Some []) m s s' = (m ≡ s.last) × (s' ≡ record s { coming = None })
IsMoment None m s s' = (m ≡ s.last) × (s' ≡ s)

-- what they tell; the clock that goes on by itself tells no moments
abbrev pub source_of : Supply → SourceView
source_of s = record { left = Some s.left; faults = s.faults; ends = s.ends }

abbrev pub sink_of : Store → SinkView
sink_of s = record { wrote = Some s.wrote; faults = s.faults }

abbrev pub clock_of : Steps → ClockView
clock_of s = record { moments = None; stops = s.stops }

abbrev pub told_by : Moments → ClockView
told_by s = record { moments = s.coming; stops = s.stops }

-- calls of which those numbered fail: the numbers, how many calls and how many faults there were
pub record Misses : Type 0 where
  pub failing : List ℕ
  pub calls : ℕ
  pub faults : ℕ

-- a call fails exactly where its number says so
abbrev pub IsCall : Misses → Bool → Misses → Type 0
IsCall s true s' = Contains s.failing s.calls × (s' ≡ record s { calls = raised s.calls; faults = raised s.faults })
IsCall s false s' = ¬ (Contains s.failing s.calls) × (s' ≡ record s { calls = raised s.calls })

-- the addresses that these strings are
abbrev pub addresses_in : List (String Global) → List (List ℕ)
addresses_in = map string_bytes
