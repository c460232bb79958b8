-- What is due of processes, where one of them makes a step, comes or goes.
use Rattle.std.proofs.Common.{◌≡◌, ℕ, ◌<◌, ◌≤◌, suc, Bool, true, false, List, [], ◌∷◌, ◌++◌, Option, Some, None, refl, ap, sym, ◌∙◌, arith, length, get_or, if◌then◌else◌}
use Rattle.std.specs.Prelude.{slice_get}
use Rattle.std.specs.List.{cons_option}
use Rattle.std.proofs.lemmas.Bool.{eqb-true}
use Rattle.std.proofs.lemmas.List.Elements.{filter_map-append}
use Rattle.std.proofs.lemmas.Option.{slice_get-get_or}
use Rattle.container_table.specs.Dues.{with_due, without_due}
use Rattle.container_table.specs.Order.{in_order}
use Rattle.container_table.specs.Timers.{is_before, least}
use Rattle.container_table.proofs.DueLemmas.{without_with, with_swap, least_in_order}
use Rattle.container_table.proofs.PlacedLemmas.{length-in_order}
use Rattle.engine_text.specs.Owner.{same_owner}
use Rattle.engine_text.specs.declared.owner.Owner.{Owner}
use Rattle.engine_text.specs.declared.step.DueAction.{DueAction}
use Rattle.proc_kernel.specs.Processes.{Process, next_due}
use Rattle.proc_kernel.specs.Tables.{Entry, change, due_at, due_in, process_of, without}
use Rattle.machine_model.specs.State.{owner_number}
use Rattle.machine_model.specs.Due.{action_at}
use Rattle.machine_tables.specs.LeastDue.{action_of, actions_of, with_due_at}

-- what is due of these, in order
abbrev pub dues_of : List Entry → List DueAction
dues_of ps = in_order is_before (actions_of ps)

-- ---- one process apart

one_number : (a b : Owner) → same_owner a b ≡ true → owner_number a ≡ owner_number b
one_number (Owner.Container m) (Owner.Container n) e = eqb-true m n e
one_number (Owner.Exec m) (Owner.Exec n) e = eqb-true m n e
one_number (Owner.Container m) (Owner.Exec n) e = absurd (cc)
one_number (Owner.Exec m) (Owner.Container n) e = absurd (cc)

first_due : (e : Entry) (es : List Entry) → dues_of (e ∷ es) ≡ with_due_at e.owner (next_due e.process) (dues_of es)
first_due e es = go (next_due e.process)
  where
    go : (due : Option ℕ) → in_order is_before (cons_option (action_at (owner_number e.owner) due) (actions_of es)) ≡ with_due_at e.owner due (dues_of es)
    go None = refl
    go (Some moment) = refl

at_number : (a b : Owner) (due : Option ℕ) (ds : List DueAction) → owner_number a ≡ owner_number b → with_due_at a due ds ≡ with_due_at b due ds
at_number a b None ds e = refl
at_number a b (Some moment) ds e = ap (λ n. with_due (record { moment = moment; rank = 0; number = n }) ds) e

at_swap : (a b : Owner) (m n : Option ℕ) (ds : List DueAction) → with_due_at a m (with_due_at b n ds) ≡ with_due_at b n (with_due_at a m ds)
at_swap a b None n ds = refl
at_swap a b (Some m) None ds = refl
at_swap a b (Some m) (Some n) ds = with_swap (record { moment = m; rank = 0; number = owner_number a }) (record { moment = n; rank = 0; number = owner_number b }) ds

-- what is due is what is due of the others, with that owner's
pub dues_with : (o : Owner) (ps : List Entry) → dues_of ps ≡ with_due_at o (due_at (process_of o ps)) (dues_of (without o ps))
dues_with o [] = refl
dues_with o (e ∷ es) = go (same_owner e.owner o) refl (dues_with o es)
  where
    go : (b : Bool) → same_owner e.owner o ≡ b → dues_of es ≡ with_due_at o (due_at (process_of o es)) (dues_of (without o es))
        → dues_of (e ∷ es) ≡ with_due_at o (due_at (if b then Some e.process else process_of o es)) (dues_of (if b then es else e ∷ without o es))
    go true f more = first_due e es ∙ at_number e.owner o (next_due e.process) (dues_of es) (one_number e.owner o f)
    go false f more =
        first_due e es ∙ ap (with_due_at e.owner (next_due e.process)) more
        ∙ at_swap e.owner o (next_due e.process) (due_at (process_of o es)) (dues_of (without o es))
        ∙ ap (with_due_at o (due_at (process_of o es))) (sym (first_due e (without o es)))

-- it is taken out
pub left_by : (o : Owner) (ps : List Entry) (moment : ℕ) (ds es : List DueAction) → due_at (process_of o ps) ≡ Some moment → ds ≡ dues_of ps
    → es ≡ without_due (record { moment = moment; rank = 0; number = owner_number o }) ds → es ≡ dues_of (without o ps)
left_by o ps moment ds es due is gone =
    let t : DueAction = record { moment = moment; rank = 0; number = owner_number o } in
    gone ∙ ap (without_due t) (is ∙ dues_with o ps ∙ ap (λ d. with_due_at o d (dues_of (without o ps))) due) ∙ without_with t (dues_of (without o ps))

pub left_alone : (o : Owner) (ps : List Entry) (ds : List DueAction) → due_at (process_of o ps) ≡ None → ds ≡ dues_of ps → ds ≡ dues_of (without o ps)
left_alone o ps ds due is = is ∙ dues_with o ps ∙ ap (λ d. with_due_at o d (dues_of (without o ps))) due

-- and put in
pub entered_by : (o : Owner) (ps : List Entry) (moment : ℕ) (ds es : List DueAction) → due_at (process_of o ps) ≡ Some moment → ds ≡ dues_of (without o ps)
    → es ≡ with_due (record { moment = moment; rank = 0; number = owner_number o }) ds → es ≡ dues_of ps
entered_by o ps moment ds es due is more =
    let t : DueAction = record { moment = moment; rank = 0; number = owner_number o } in
    more ∙ ap (with_due t) is ∙ sym (dues_with o ps ∙ ap (λ d. with_due_at o d (dues_of (without o ps))) due)

pub entered_none : (o : Owner) (ps : List Entry) (ds : List DueAction) → due_at (process_of o ps) ≡ None → ds ≡ dues_of (without o ps) → ds ≡ dues_of ps
entered_none o ps ds due is = is ∙ sym (dues_with o ps ∙ ap (λ d. with_due_at o d (dues_of (without o ps))) due)

-- ---- counts

few_either : (o : Option DueAction) (ds : List DueAction) (n : ℕ) → length ds ≤ n → length (cons_option o ds) ≤ suc n
few_either None ds n e = omega (arith, e)
few_either (Some d) ds n e = omega (arith, e)

few_actions : (ps : List Entry) → length (actions_of ps) ≤ length ps
few_actions [] = omega arith
few_actions (e ∷ es) = few_either (action_of e) (actions_of es) (length es) (few_actions es)

pub few_dues : (ps : List Entry) → length (dues_of ps) ≤ length ps
few_dues ps = let few = few_actions ps in let same = length-in_order is_before (actions_of ps) in omega (arith, few, same)

pub one_less : (o : Owner) (ps : List Entry) (moment : ℕ) → due_at (process_of o ps) ≡ Some moment → length (without o ps) < length ps
one_less o [] moment e = absurd (cc)
one_less o (x ∷ xs) moment e = go (same_owner x.owner o) e (one_less o xs moment)
  where
    go : (b : Bool) → due_at (if b then Some x.process else process_of o xs) ≡ Some moment → (due_at (process_of o xs) ≡ Some moment → length (without o xs) < length xs)
        → length (if b then xs else x ∷ without o xs) < suc (length xs)
    go true e more = omega arith
    go false e more = omega (arith, more e)

-- there is a place for what is put in
pub has_place : (o : Owner) (ps : List Entry) (moment places : ℕ) (ds : List DueAction) → due_at (process_of o ps) ≡ Some moment → ds ≡ dues_of (without o ps) → length ps ≤ places → length ds < places
has_place o ps moment places ds due is room =
    let many : length ds ≡ length (dues_of (without o ps)) = ap length is in
    let few = few_dues (without o ps) in
    let less = one_less o ps moment due in
    omega (arith, many, few, less, room)

pub fewer_without : (o : Owner) (ps : List Entry) → length (without o ps) ≤ length ps
fewer_without o [] = omega arith
fewer_without o (x ∷ xs) = go (same_owner x.owner o) (fewer_without o xs)
  where
    go : (b : Bool) → length (without o xs) ≤ length xs → length (if b then xs else x ∷ without o xs) ≤ suc (length xs)
    go true e = omega arith
    go false e = omega (arith, e)

-- ---- a step of a process

pub without_changed : (o : Owner) (f : Process → Process) (ps : List Entry) → without o (change o f ps) ≡ without o ps
without_changed o f [] = refl
without_changed o f (e ∷ es) = go (same_owner e.owner o) refl (without_changed o f es)
  where
    go : (b : Bool) → same_owner e.owner o ≡ b → without o (change o f es) ≡ without o es
        → without o (if b then (record e { process = f e.process }) ∷ es else e ∷ change o f es) ≡ (if b then es else e ∷ without o es)
    go true q more = rw q refl
    go false q more = rw q (ap (λ l. e ∷ l) more)

pub length_changed : (o : Owner) (f : Process → Process) (ps : List Entry) → length (change o f ps) ≡ length ps
length_changed o f [] = refl
length_changed o f (e ∷ es) = go (same_owner e.owner o) (length_changed o f es)
  where
    go : (b : Bool) → length (change o f es) ≡ length es → length (if b then (record e { process = f e.process }) ∷ es else e ∷ change o f es) ≡ suc (length es)
    go true more = refl
    go false more = ap suc more

-- the others are due as before
pub others_due : (o : Owner) (f : Process → Process) (ps qs : List Entry) (ds : List DueAction) → qs ≡ change o f ps → ds ≡ dues_of (without o ps) → ds ≡ dues_of (without o qs)
others_due o f ps qs ds step is = is ∙ ap dues_of (sym (without_changed o f ps)) ∙ ap (λ l. dues_of (without o l)) (sym step)

pub as_many : (o : Owner) (f : Process → Process) (ps qs : List Entry) → qs ≡ change o f ps → length qs ≡ length ps
as_many o f ps qs step = ap length step ∙ length_changed o f ps

-- ---- one more process

in_order_more : (ds : List DueAction) (d : DueAction) → in_order is_before (ds ++ d ∷ []) ≡ with_due d (in_order is_before ds)
in_order_more [] d = refl
in_order_more (x ∷ xs) d = ap (with_due x) (in_order_more xs d) ∙ with_swap x d (in_order is_before xs)

nothing_more : (ds : List DueAction) → ds ++ [] ≡ ds
nothing_more [] = refl
nothing_more (d ∷ ds) = ap (λ l. d ∷ l) (nothing_more ds)

pub dues_more : (ps : List Entry) (e : Entry) → dues_of (ps ++ e ∷ []) ≡ with_due_at e.owner (next_due e.process) (dues_of ps)
dues_more ps e = ap (in_order is_before) (filter_map-append action_of ps (e ∷ [])) ∙ go (next_due e.process)
  where
    go : (due : Option ℕ) → in_order is_before (actions_of ps ++ cons_option (action_at (owner_number e.owner) due) []) ≡ with_due_at e.owner due (dues_of ps)
    go None = ap (in_order is_before) (nothing_more (actions_of ps))
    go (Some moment) = in_order_more (actions_of ps) (record { moment = moment; rank = 0; number = owner_number e.owner })

-- the last of them
pub length_more : (ps : List Entry) (e : Entry) → length (ps ++ e ∷ []) ≡ suc (length ps)
length_more [] e = refl
length_more (p ∷ ps) e = ap suc (length_more ps e)

last_at : (ps : List Entry) (e : Entry) → get_or (ps ++ e ∷ []) (length ps) e ≡ e
last_at [] e = refl
last_at (p ∷ ps) e = last_at ps e

pub last_in : (ps : List Entry) (e : Entry) → due_in (slice_get (ps ++ e ∷ []) (length ps)) ≡ next_due e.process
last_in ps e =
    ap due_in (slice_get-get_or (ps ++ e ∷ []) (length ps) e (omega (arith, length_more ps e))) ∙ ap (λ (x : Entry). next_due x.process) (last_at ps e)

-- ---- the least

pub least_due_of : (ps : List Entry) (ds : List DueAction) → ds ≡ dues_of ps → least ds ≡ least (actions_of ps)
least_due_of ps ds e = ap least e ∙ least_in_order (actions_of ps)
