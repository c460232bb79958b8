-- What was told of a history's journal, as it goes on, and where it ends.
use Rattle.std.proofs.Common.{◌≡◌, ◌≤◌, ◌<◌, ◌+◌, ℕ, zero, suc, List, [], ◌∷◌, ◌++◌, refl, sym, ◌∙◌, ap, arith, Bool, true, false, map, length, take, drop, take-append-drop, length-append}
use Rattle.std.specs.Prelude.{nat_lt}
use Rattle.std.specs.List.{AllByRecursion}
use Rattle.std.proofs.lemmas.Bool.Decides.{nat_tests}
use Rattle.std.proofs.lemmas.Grind.{flat_map-append}
use Rattle.std.proofs.lemmas.List.{take-append-le, take-take}
use Rattle.engine_text.specs.declared.entry.Entry.{Entry}
use Rattle.engine_text.specs.declared.reply.Reply.TheVariants.{JournalStream}
use Rattle.engine_text.specs.declared.step.Step.{Step}
use Rattle.json_laws.proofs.Lines.{line_some}
use Rattle.machine_model.specs.History.{Charter, Extends}
use Rattle.journal_lines.specs.Entries.{history_entries}
use Rattle.journal_lines.specs.JournalLines.{entry_value, header_line, header_value, journal_line, journal_lines, lines_of}
use Rattle.journal_lines.specs.declared.format.Format.TheVariants.{Second}
use Rattle.journal_lines.proofs.LineLemmas.{first_lines, joined, lines_count, more_lines}
use Rattle.session_model.specs.declared.turned.Part.{Part}
use Rattle.session_model.specs.declared.turned.Part.TheVariants as P
use Rattle.session_model.specs.Exchange.{IsBody}
use Rattle.daemon_core.specs.JournalTurns.{JournalSays, told_lines}
use Rattle.daemon_core.proofs.KeepLemmas.{entries_append}

-- a body is the first lines of a history's journal, up to that place: the header, and so many entries' but one
pub record TellsJournal (ch : Charter) (count : ℕ) (b : List Step) (body : List ℕ) (place : ℕ) : Type 0 where
  pub within : place ≤ count + 1
  pub counted : count ≤ length (history_entries ch b)
  pub tells : body ≡ joined (take place (lines_of ch b))

-- what a part of it says
abbrev pub JournalSaid : Charter → ℕ → List Step → ℕ → Part → List ℕ → List ℕ → Type 0
JournalSaid ch count b place P.Whole old new = count < place
JournalSaid ch count b place part old new = (place ≤ count) × JournalSays ch b place part old new

-- ---- it goes on

pub journal_first : (ch : Charter) (count : ℕ) (a : List Step) → count ≤ length (history_entries ch a) → TellsJournal ch count a [] 0
journal_first ch count a le = record { within = omega arith; counted = le; tells = refl }

-- a longer history has these lines, and more behind them
longer : (ch : Charter) (b : List Step) (es : List Entry) (place : ℕ) → place ≤ length (lines_of ch b)
    → take place (header_line ch.seed ch.opening ∷ map (journal_line Second) (history_entries ch b ++ es)) ≡ take place (lines_of ch b)
longer ch b es place le =
    ap (λ (l : List (List ℕ)). take place (header_line ch.seed ch.opening ∷ l)) (more_lines (history_entries ch b) es)
    ∙ take-append-le place (lines_of ch b) (map (journal_line Second) es) le

pub journal_later : (ch : Charter) (count : ℕ) (b c : List Step) (body : List ℕ) (place : ℕ) → Extends b c
    → TellsJournal ch count b body place → TellsJournal ch count c body place
journal_later ch count b c body place (more, is) t =
    let behind = entries_append ch b more in
    let all : history_entries ch c ≡ history_entries ch b ++ behind.0 = ap (history_entries ch) is ∙ behind.1 in
    let sum = ap length all ∙ length-append (history_entries ch b) behind.0 in
    let within = t.within in
    let counted = t.counted in
    let many = lines_count ch b in
    let same : take place (lines_of ch c) ≡ take place (lines_of ch b) =
    ap (λ (es : List Entry). take place (header_line ch.seed ch.opening ∷ map (journal_line Second) es)) all
    ∙ longer ch b behind.0 place (omega (arith, within, counted, many)) in
    record { within = within; counted = omega (arith, counted, sum); tells = t.tells ∙ ap joined (sym same) }

-- the lines up to a place, and those up to a later one
lines_on : (ls : List (List ℕ)) (a b : ℕ) → a ≤ b → joined (take b ls) ≡ joined (take a ls) ++ joined (drop a (take b ls))
lines_on ls a b le =
    ap joined (sym (take-append-drop a (take b ls)))
    ∙ flat_map-append (λ (l : List ℕ). l) (take a (take b ls)) (drop a (take b ls))
    ∙ ap (λ x. joined x ++ joined (drop a (take b ls))) (take-take a b ls le)

-- one more line was told
pub journal_more : (ch : Charter) (count : ℕ) (b : List Step) (body old new : List ℕ) (place next : ℕ) → TellsJournal ch count b body place
    → JournalSaid ch count b place (P.More next) old new → old ≡ [] → TellsJournal ch count b (body ++ new) next
journal_more ch count b body old new place next t (below, says) empty =
    let one = says.0 in
    record {
      within = omega (arith, below, one);
      counted = t.counted;
      tells = ap (λ y. body ++ y) (says.2 ∙ ap (λ y. y ++ told_lines ch b place next) empty)
          ∙ ap (λ y. y ++ told_lines ch b place next) t.tells
          ∙ sym (lines_on (lines_of ch b) place next (omega (arith, one)));
    }

-- ---- a stream that isn't whole

-- no line is empty
abbrev AreSome : List (List ℕ) → Type 0
AreSome ls = AllByRecursion (λ (l : List ℕ). 0 < length l) ls

entries_some : (es : List Entry) → AreSome (map (journal_line Second) es)
entries_some [] = tt
entries_some (e ∷ es) = (line_some (entry_value Second e), entries_some es)

some_between : (ls : List (List ℕ)) → AreSome ls → (a b : ℕ) → a < b → b ≤ length ls → 0 < length (joined (drop a (take b ls)))
some_between [] some a b below le = absurd (omega (arith, below, le))
some_between (l ∷ ls) some a zero below le = absurd (omega (arith, below))
some_between (l ∷ ls) some zero (suc b) below le =
    let sum = length-append l (joined (take b ls)) in
    let one = some.0 in
    omega (arith, sum, one)
some_between (l ∷ ls) some (suc a) (suc b) below le = some_between ls some.1 a b (omega (arith, below)) (omega (arith, le))

pub journal_broken : (ch : Charter) (count : ℕ) (a b : List Step) (body : List ℕ) (place : ℕ) → place ≤ count → TellsJournal ch count b body place
    → IsBody ch (JournalStream count) false a b body
journal_broken ch count a b body place below t =
    let ls : List (List ℕ) = lines_of ch b in
    let rest : List ℕ = joined (drop place (take (count + 1) ls)) in
    let many = lines_count ch b in
    let counted = t.counted in
    let all : journal_lines ch b count ≡ body ++ rest =
    sym (first_lines ch b count) ∙ lines_on ls place (count + 1) (omega (arith, below)) ∙ ap (λ y. y ++ rest) (sym t.tells) in
    let some = some_between ls (line_some (header_value ch.seed ch.opening), entries_some (history_entries ch b)) place (count + 1) (omega (arith, below)) (omega (arith, counted, many)) in
    let sum = ap length all ∙ length-append body rest in
    ((rest, sym all), omega (arith, some, sum))

-- ---- a stream that is whole

pub journal_whole : (ch : Charter) (count : ℕ) (a b : List Step) (body : List ℕ) (place : ℕ) → count < place → TellsJournal ch count b body place
    → IsBody ch (JournalStream count) true a b body
journal_whole ch count a b body place le t =
    let within = t.within in
    let at : place ≡ count + 1 = omega (arith, le, within) in
    t.tells ∙ ap (λ (n : ℕ). joined (take n (lines_of ch b))) at ∙ first_lines ch b count

-- as it is told where a write of it failed
pub journal_either : (ch : Charter) (count : ℕ) (a b : List Step) (body : List ℕ) (place : ℕ) → TellsJournal ch count b body place
    → (whole : Bool) × IsBody ch (JournalStream count) whole a b body
journal_either ch count a b body place t = by (nat_lt count place) refl
  where
    by : (behind : Bool) → nat_lt count place ≡ behind → (whole : Bool) × IsBody ch (JournalStream count) whole a b body
    by true is = (true, journal_whole ch count a b body place (grind (arith, nat_tests, is)) t)
    by false is = (false, journal_broken ch count a b body place (grind (arith, nat_tests, is)) t)
