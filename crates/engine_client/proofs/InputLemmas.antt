-- Standard input, read piece by piece.
use Rattle.std.proofs.Common.{◌≡◌, ℕ, List, [], ◌++◌, sym, ap, ◌∙◌, subst, append_assoc, append-nil, Ok}
use Rattle.engine_ports.specs.Rose.{Rose}
use Rattle.engine_ports.specs.Source.{SourceView, SourceGave, SourceEnded}
use Rattle.engine_ports.proofs.PortLemmas.{source_none, source_on, rose_since}
use Rattle.client_model.specs.declared.fault.Fault.TheVariants as F
use Rattle.engine_client.specs.Replaying.{IsUnread, ReadsAll}

-- what the input gave stands behind the text
pub record ReadSoFar (text text' : List ℕ) (v v' : SourceView) : Type 0 where
  pub input : List ℕ
  pub is : text' ≡ text ++ input
  pub gave : SourceGave v input v'

pub read_none : (text : List ℕ) (v : SourceView) → ReadSoFar text text v v
read_none text v = record { input = []; is = sym (append-nil text); gave = source_none v }

pub read_more : (text text' text'' piece : List ℕ) (v v' v'' : SourceView) → ReadSoFar text text' v v' → SourceGave v' piece v'' → text'' ≡ text' ++ piece
    → ReadSoFar text text'' v v''
read_more text text' text'' piece v v' v'' so gave is = record {
  input = so.input ++ piece;
  is = is ∙ ap (λ l. l ++ piece) so.is ∙ append_assoc text so.input piece;
  gave = source_on v v' v'' so.input piece so.gave gave;
}

nothing_more : (v v' v'' : SourceView) (input : List ℕ) → SourceGave v input v' → SourceGave v' [] v'' → SourceGave v input v''
nothing_more v v' v'' input a b = subst (λ l. SourceGave v l v'') (append-nil input) (source_on v v' v'' input [] a b)

pub read_all_of : (x : Unit {0}) (text text' : List ℕ) (v v' v'' : SourceView) → ReadSoFar text text' v v' → SourceGave v' [] v'' × SourceEnded v' v''
    → ReadsAll (Ok x) text text' v v''
read_all_of x text text' v v' v'' so (gave, ended) =
    (so.input, so.is, nothing_more v v' v'' so.input so.gave gave, record { rose = rose_since v.ends v'.ends v''.ends so.gave.ends ended.rose; spent = ended.spent })

pub read_failed : (text text' : List ℕ) (v v' v'' : SourceView) → ReadSoFar text text' v v' → SourceGave v' [] v'' × Rose v'.faults v''.faults
    → IsUnread F.Input v v''
read_failed text text' v v' v'' so (gave, rose) =
    (so.input, nothing_more v v' v'' so.input so.gave gave, rose_since v.faults v'.faults v''.faults so.gave.faults rose)

-- memory for a piece was refused
pub read_lacks : (text text' piece : List ℕ) (v v' v'' : SourceView) → ReadSoFar text text' v v' → SourceGave v' piece v'' → IsUnread F.NoMemory v v''
read_lacks text text' piece v v' v'' so gave = (so.input ++ piece, source_on v v' v'' so.input piece so.gave gave, tt)

-- before any was read
pub unread_lacks : (v : SourceView) → IsUnread F.NoMemory v v
unread_lacks v = ([], source_none v, tt)
