-- A line, by how its words were read.
use Rattle.std.proofs.Common.{◌≡◌, inl, inr, ℕ, List, [], ◌∷◌, refl, sym, ap, ◌∙◌, subst, Option, Some, None, Result, Err}
use Rattle.std.specs.Prelude.{option_and_then, option_map}
use Rattle.std.specs.Option.{option_map_or}
use Rattle.client_model.specs.Plans.{Plan, Ends, Asks, Judges, fails}
use Rattle.engine_line.specs.Lines.{port_in}
use Rattle.client_model.specs.Lines.{read_by, commands, address_in, line_with, line_of}
use Rattle.client_model.specs.Client.{plan_of, plan_for, said_by}
use Rattle.client_model.specs.Runs.{Outside}
use Rattle.client_model.specs.declared.command.Command.{Command}
use Rattle.client_model.specs.declared.command.Line.{Line}
use Rattle.client_model.specs.declared.fault.Fault.{Fault}
use Rattle.client_model.specs.declared.fault.Fault.TheVariants as F
use Rattle.client_exchange.proofs.OutputLemmas.{began_none}
use Rattle.client_exchange.specs.Walks.{IsAsking}
use Rattle.client_exchange.proofs.WalkLemmas.{walk_none}
use Rattle.client_exchange.proofs.AskLemmas.{does_fail}
use Rattle.client_parts.specs.Reading.{Reads}
use Rattle.client_parts.specs.declared.unread.Unread.{Unread}
use Rattle.client_parts.specs.declared.unread.Unread.TheVariants.{NoForm}
use Rattle.engine_client.specs.Places.{Begins}
use Rattle.engine_client.specs.Running.{reach_of, Ran}
use Rattle.engine_client.proofs.InputLemmas.{unread_lacks}

-- its address is the first word
with_address : (address : List ℕ) (port : Option ℕ) (command : Option Command) (line : Line) → option_and_then (λ p. option_map (line_with address) command) port ≡ Some line
    → line.address ≡ address
with_address address (Some port) (Some command) line is = let same : line_with address command ≡ line = cc in ap (λ (l : Line). l.address) (sym same)
with_address address (Some port) None line is = absurd (none_some line is)
  where
    none_some : (line : Line) → None ≡ Some line → ⊥
    none_some line e = cc
with_address address None command line is = absurd (none_some line is)
  where
    none_some : (line : Line) → None ≡ Some line → ⊥
    none_some line e = cc

line_leads : (words : List (List ℕ)) (line : Line) → line_of words ≡ Some line → line.address ≡ address_in words
line_leads [] line is = absurd (none_some line is)
  where
    none_some : (line : Line) → None ≡ Some line → ⊥
    none_some line e = cc
line_leads (address ∷ words) line is = with_address address (port_in address) (read_by commands words) line is

-- its command was run
pub line_ran : (words : List (List ℕ)) (line : Line) (address : List ℕ) (result : Result ℕ Fault) (o o' : Outside) → line_of words ≡ Some line → address ≡ line.address
    → Ran address (plan_of line.command) result o o' → Ran (address_in words) (plan_for words) result o o'
line_ran words line address result o o' is same ran =
    subst (λ a. Ran a (plan_for words) result o o') (same ∙ line_leads words line is)
    (subst (λ n. Ran address (option_map_or (λ (m : Line). plan_of m.command) n (fails F.Words)) result o o') (sym is) ran)

-- the words are none
pub no_line : (words : List (List ℕ)) (why : Unread) (o : Outside) → why ≡ NoForm → Reads (Err why) (line_of words)
    → Ran (address_in words) (plan_for words) (Err F.Words) o o
no_line words why o form reads =
    subst (λ l. Ran (address_in words) (option_map_or (λ (m : Line). plan_of m.command) l (fails F.Words)) (Err F.Words) o o)
    (sym (subst (λ u. Reads (Err u) (line_of words)) form reads))
    (inl (tt, inl (does_fail (fails F.Words) F.Words (reach_of (address_in words) o) (reach_of (address_in words) o) (walk_none (fails F.Words) (reach_of (address_in words) o)), refl)))

-- memory was refused
asking_lacks : (address : List ℕ) (plan : Plan) (o : Outside) → IsAsking plan → Ran address plan (Err F.NoMemory) o o
asking_lacks address plan o asking = inl (
  asking,
  inl (
    record {
      next = plan;
      between = reach_of address o;
      walks = walk_none plan (reach_of address o);
      comes = inr (inl (record { missed = record { coming = refl; past = refl; others = refl; faults = refl }; began = began_none (reach_of address o).shown (said_by plan None []).written; cause = tt; unfailed = inl refl }));
    },
    refl,
  ),
)

pub line_lacks : (address : List ℕ) (plan : Plan) (o : Outside) → Ran address plan (Err F.NoMemory) o o
line_lacks address (Ends w ending) o = asking_lacks address (Ends w ending) o tt
line_lacks address (Asks w asked next) o = asking_lacks address (Asks w asked next) o tt
line_lacks address (Judges charter next) o = inr (inr (record { fault = F.NoMemory; is = refl; unread = unread_lacks o.input; unshown = refl }))

-- the first step wasn't had
pub not_begun : (address : List ℕ) (plan : Plan) (fault : Fault) (o : Outside) → Begins (Err fault) plan → Ran address plan (Err fault) o o
not_begun address plan fault o (inl lack) = subst (λ f. Ran address plan (Err f) o o) (sym lack) (line_lacks address plan o)
not_begun address plan fault o (inr is) =
    subst (λ p. Ran address p (Err fault) o o) (sym is)
    (inl (tt, inl (does_fail (fails fault) fault (reach_of address o) (reach_of address o) (walk_none (fails fault) (reach_of address o)), refl)))
