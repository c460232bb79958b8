-- What the reader is once the request that it lent is let go.
use Rattle.std.specs.Io.BufRead.{Rests}
use Rattle.std.specs.Borrow.{MutBor, Fml}
use Rattle.engine_ports.specs.Source.{SourceView}
use Rattle.http_edge.specs.declared.reader.RequestReader.{RequestReader}
use Rattle.http_edge.specs.declared.reader.Next.{Next}
use Rattle.http_edge.specs.contracts.reader.RequestReader.{the_row}
use Rattle.http_edge.specs.Reader.{NextSays}

-- the fact holds of the reader before the call, and of the reader after the request was let go
abbrev pub RestsAfter : MutBor RequestReader → Next → SourceView → SourceView → Fml
RestsAfter reader next s s' = Rests the_row reader (λ last. NextSays reader.now last next s s')
