-- A plan is made container by container, and ticket by ticket.
use Rattle.std.proofs.Common.{◌≡◌, ◌++◌, ℕ, List, [], ◌∷◌, Bool, refl, sym, ap, ◌∙◌, append_assoc, append-nil}
use Rattle.std.specs.Prelude.{filter, map}
use Rattle.std.proofs.lemmas.List.{map-append}
use Rattle.std.proofs.lemmas.List.Elements.{filter-append}
use Rattle.engine_text.specs.declared.container.Container.{Container}
use Rattle.engine_text.specs.declared.ticket.Ticket.{Ticket}
use Rattle.container_machine.specs.Listing.{ticket_pair}
use Rattle.engine_reboot.specs.Planning.{drops, is_up, kills, starts, starts_again}
use Rattle.engine_reboot.specs.declared.planning.Planned.{Planned}
use Rattle.engine_reboot.specs.declared.planning.Planned.TheVariants.{Drop, Kill, Start}

-- ---- one of them and the others

of_some : (test : Container → Bool) (f : Container → Planned) (a b : List Container) → map f (filter test (a ++ b)) ≡ map f (filter test a) ++ map f (filter test b)
of_some test f a b = ap (map f) (filter-append test a b) ∙ map-append f (filter test a) (filter test b)

pub kills_first : (c : Container) (cs : List Container) → kills (c ∷ cs) ≡ kills (c ∷ []) ++ kills cs
kills_first c cs = of_some (λ c. is_up c.life.status) (λ c. Kill c.id) (c ∷ []) cs

pub starts_first : (c : Container) (cs : List Container) → starts (c ∷ cs) ≡ starts (c ∷ []) ++ starts cs
starts_first c cs = of_some starts_again (λ c. Start c.id) (c ∷ []) cs

-- the drop of a ticket with its connection
abbrev pub drop_pair : ℕ × ℕ → Planned
drop_pair p = Drop p.0 p.1

pub drops_pairs : (ts : List Ticket) → drops ts ≡ map drop_pair (map ticket_pair ts)
drops_pairs [] = refl
drops_pairs (t ∷ ts) = ap (λ (l : List Planned). Drop t.number t.connection ∷ l) (drops_pairs ts)

-- ---- a walk

-- what is planned, and what is to be planned of those that are left, are all
pub begins : {A : Type 0} (f : List A → List Planned) (plan : List Planned) (left all : List A) → left ≡ all → plan ++ f all ≡ plan ++ f left
begins f plan left all is = ap (λ l. plan ++ f l) (sym is)

pub goes_on : {A : Type 0} (f : List A → List Planned) → ((x : A) (xs : List A) → f (x ∷ xs) ≡ f (x ∷ []) ++ f xs)
    → (all plan next : List Planned) (x : A) (left rest : List A) → all ≡ plan ++ f left → left ≡ x ∷ rest → next ≡ plan ++ f (x ∷ [])
    → all ≡ next ++ f rest
goes_on f first all plan next x left rest is at made =
    is ∙ ap (λ l. plan ++ f l) at ∙ ap (λ l. plan ++ l) (first x rest) ∙ sym (append_assoc plan (f (x ∷ [])) (f rest))
    ∙ ap (λ l. l ++ f rest) (sym made)

pub ends : {A : Type 0} (f : List A → List Planned) → f [] ≡ [] → (all plan : List Planned) (left : List A) → all ≡ plan ++ f left → left ≡ []
    → plan ≡ all
ends f none all plan left is at = sym (is ∙ ap (λ l. plan ++ f l) at ∙ ap (λ l. plan ++ l) none ∙ append-nil plan)
