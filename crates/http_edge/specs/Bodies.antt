-- What reading the body behind a head came to (RFC 9112, section 6).
use Rattle.std.specs.Prelude.{ℕ, ◌≡◌, List, ◌++◌, length}
use Rattle.engine_ports.specs.Rose.{Rose}
use Rattle.engine_ports.specs.Source.{SourceView, SourceEnded}
use Rattle.http_edge.specs.Spelling.{SpellsBody}
use Rattle.http_edge.specs.Refusal.{RefusesBody, CutsBody}
use Rattle.http_edge.specs.Reading.{Reached}
use Rattle.http_edge.specs.declared.framing.Framing.{Framing}
use Rattle.http_edge.specs.declared.body.BodyRead.{BodyRead}
use Rattle.http_edge.specs.declared.body.BodyRead.TheVariants.{Whole, Refused, CutShort, Failed}

-- so many bytes spell the body, and behind them stand these
abbrev pub BodyBy : Framing → List ℕ → ℕ → List ℕ → List ℕ → Type 0
BodyBy framing body count behind bytes =
    (coded : List ℕ) × SpellsBody framing coded body × (length coded ≡ count) × (bytes ≡ coded ++ behind)

-- what it says, of the bytes behind the head that stood ahead and those that the source gave
abbrev pub BodySays : Framing → BodyRead → List ℕ → List ℕ → List ℕ → SourceView → SourceView → Type 0
BodySays framing (Whole count) before ahead body s s' = Reached before s s' (BodyBy framing body count ahead)
BodySays framing (Refused status) before ahead body s s' =
    Reached before s s' (λ bytes. RefusesBody framing bytes status)
BodySays framing CutShort before ahead body s s' = Reached before s s' (CutsBody framing) × SourceEnded s s'
BodySays framing Failed before ahead body s s' = Reached before s s' (CutsBody framing) × Rose s.faults s'.faults
