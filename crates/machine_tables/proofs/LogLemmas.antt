-- The log of an owner among the outputs, and among the logs that are kept.
use Rattle.std.specs.Prelude.{option_map}
use Rattle.std.proofs.Common.{◌≡◌, ℕ, ◌+◌, ◌<◌, ◌≤◌, List, ◌∷◌, ◌++◌, Option, Some, None, drop, find, get_or, length, refl, ap, sym, ◌∙◌}
use Rattle.std.specs.List.{flat_map}
use Rattle.std.specs.Option.{option_or}
use Rattle.std.proofs.lemmas.List.{at_drop_more, at_drop_all}
use Rattle.std.proofs.lemmas.List.Folds.{find-append}
use Rattle.engine_text.specs.Owner.{same_owner}
use Rattle.engine_text.specs.declared.log.LogRecord.{LogRecord}
use Rattle.engine_text.specs.declared.log.KeptLogs.{KeptLogs}
use Rattle.engine_text.specs.declared.log.OwnedLog.{OwnedLog}
use Rattle.engine_text.specs.declared.owner.Owner.{Owner}
use Rattle.machine_model.specs.LogStream.{log_among}

in_either : (a b : Option OwnedLog) → option_map (λ (l : OwnedLog). l.log) (option_or a b) ≡ option_or (option_map (λ (l : OwnedLog). l.log) a) (option_map (λ (l : OwnedLog). l.log) b)
in_either None b = refl
in_either (Some l) b = refl

-- among the first, or else among the others
pub among_append : (owner : Owner) (a b : List OwnedLog) → log_among owner (a ++ b) ≡ option_or (log_among owner a) (log_among owner b)
among_append owner a b =
    ap (option_map (λ (l : OwnedLog). l.log)) (find-append (λ l. same_owner l.owner owner) a b) ∙ in_either (find (λ l. same_owner l.owner owner) a) (find (λ l. same_owner l.owner owner) b)

-- ---- the logs that are kept

pub kept_behind : (owner : Owner) (k : KeptLogs) (more : List KeptLogs) → log_among owner k.logs ≡ None
    → log_among owner (flat_map (λ x. x.logs) (k ∷ more)) ≡ log_among owner (flat_map (λ x. x.logs) more)
kept_behind owner k more e =
    let rest : List OwnedLog = flat_map (λ x. x.logs) more in
    among_append owner k.logs rest ∙ ap (λ o. option_or o (log_among owner rest)) e

pub kept_first : (owner : Owner) (k : KeptLogs) (more : List KeptLogs) (log : List LogRecord) → log_among owner k.logs ≡ Some log
    → log_among owner (flat_map (λ x. x.logs) (k ∷ more)) ≡ Some log
kept_first owner k more log e =
    let rest : List OwnedLog = flat_map (λ x. x.logs) more in
    among_append owner k.logs rest ∙ ap (λ o. option_or o (log_among owner rest)) e

-- those from a place on are the one there and those behind it
pub kept_at : (owner : Owner) (kept : List KeptLogs) (i : ℕ) (k : KeptLogs) → i < length kept → k ≡ get_or kept i k
    → log_among owner (flat_map (λ x. x.logs) (drop i kept)) ≡ log_among owner (flat_map (λ x. x.logs) (k ∷ drop (i + 1) kept))
kept_at owner kept i k low is =
    at_drop_more (λ l. log_among owner (flat_map (λ x. x.logs) l)) kept i k low
    ∙ ap (λ (y : KeptLogs). log_among owner (flat_map (λ x. x.logs) (y ∷ drop (i + 1) kept))) (sym is)

pub kept_end : (owner : Owner) (kept : List KeptLogs) (i : ℕ) → length kept ≤ i → log_among owner (flat_map (λ x. x.logs) (drop i kept)) ≡ None
kept_end owner kept i high = at_drop_all (λ l. log_among owner (flat_map (λ x. x.logs) l)) kept i high
