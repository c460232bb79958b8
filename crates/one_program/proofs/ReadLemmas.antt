-- A source, read piece by piece.
use Rattle.std.proofs.Common.{◌≡◌, ◌≤◌, ◌<◌, ℕ, List, [], ◌++◌, length, arith, sym, subst, append-nil, Err}
use Rattle.engine_ports.specs.Rose.{Rose}
use Rattle.engine_ports.specs.Source.{SourceView, SourceGave, SourceEnded}
use Rattle.engine_ports.proofs.PortLemmas.{source_none, source_on, rose_since}
use Rattle.one_program.specs.Reading.{Adds, GivesText, IsUnread, StopsAt, most_bytes}
use Rattle.one_program.specs.declared.reading.Unread.{Unread}
use Rattle.one_program.specs.declared.reading.Unread.TheVariants.{TooLong, Failed, NoMemory}

nothing_more : (v v' v'' : SourceView) (text : List ℕ) → SourceGave v text v' → SourceGave v' [] v'' → SourceGave v text v''
nothing_more v v' v'' text a b = subst (λ l. SourceGave v l v'') (append-nil text) (source_on v v' v'' text [] a b)

-- a piece more was added
pub read_more : (text text' piece : List ℕ) (v v' v'' : SourceView) → SourceGave v text v' → SourceGave v' piece v'' → text' ≡ text ++ piece → SourceGave v text' v''
read_more text text' piece v v' v'' so gave is = subst (λ l. SourceGave v l v'') (sym is) (source_on v v' v'' text piece so gave)

-- the source ended
pub read_whole : (text : List ℕ) (v v' v'' : SourceView) → SourceGave v text v' → length text ≤ most_bytes → SourceGave v' [] v'' × SourceEnded v' v'' → GivesText text v v''
read_whole text v v' v'' so fits (gave, ended) = record {
  gave = nothing_more v v' v'' text so gave;
  ended = record { rose = rose_since v.ends v'.ends v''.ends so.ends ended.rose; spent = ended.spent };
  fits = fits;
}

-- a read failed
pub read_failed : (text : List ℕ) (v v' v'' : SourceView) → SourceGave v text v' → length text ≤ most_bytes → SourceGave v' [] v'' × Rose v'.faults v''.faults → IsUnread Failed v v''
read_failed text v v' v'' so fits (gave, rose) =
    (text, nothing_more v v' v'' text so gave, (fits, rose_since v.faults v'.faults v''.faults so.faults rose))

-- a piece wasn't added
stops_by : (why : Unread) (text piece text' : List ℕ) (v v' : SourceView) → Adds (Err why) text piece text' → StopsAt why (length (text ++ piece)) v v'
stops_by TooLong text piece text' v v' adds = adds
stops_by NoMemory text piece text' v v' adds = adds
stops_by Failed text piece text' v v' adds = absurd adds

pub read_less : (why : Unread) (text piece text' : List ℕ) (v v' v'' : SourceView) → SourceGave v text v' → SourceGave v' piece v'' → Adds (Err why) text piece text'
    → IsUnread why v v''
read_less why text piece text' v v' v'' so gave adds = (text ++ piece, source_on v v' v'' text piece so gave, stops_by why text piece text' v v'' adds)

-- none was read
pub unread_lacks : (v : SourceView) → IsUnread NoMemory v v
unread_lacks v = ([], source_none v, omega arith)
