-- What a journal stores as it grows: its history, and the entries of this.
use Rattle.std.proofs.Common.{◌≡◌, ℕ, ◌+◌, zero, suc, List, [], ◌∷◌, ◌++◌, length, refl, sym, ◌∙◌, ap, append_assoc, append-nil, arith}
use Rattle.std.specs.List.{flat_map}
use Rattle.std.proofs.lemmas.Grind.{flat_map-append}
use Rattle.engine_text.specs.declared.call.Call.{Call}
use Rattle.engine_text.specs.declared.entry.Entry.{Entry}
use Rattle.engine_text.specs.declared.step.Step.{Step}
use Rattle.journal_lines.specs.KeptJournal.{KeptJournal, steps_in}
use Rattle.journal_lines.specs.Stored.{due_steps, entry_steps, stored_history}
use Rattle.machine_model.specs.State.{State}
use Rattle.machine_model.specs.History.{Charter, after_step, opening_state, reply_of, state_after, state_from}
use Rattle.journal_lines.specs.Entries.{entries_from, history_entries}
use Rattle.daemon_core.specs.Keeping.{history_of, told_entries}
use Rattle.daemon_core.specs.Telling.{IsLike}

-- ---- the history of a journal

-- of the same entries and due steps
stored_same : (es fs : List Entry) (n m : ℕ) → fs ≡ es → m ≡ n → stored_history fs m ≡ stored_history es n
stored_same es fs n m same times = ap (λ x. stored_history x m) same ∙ ap (stored_history es) times

pub history_same : (j j' : KeptJournal) → IsLike j j' → history_of j' ≡ history_of j
unfolding history_of
history_same j j' like = stored_same j.entries j'.entries j.since j'.since like.entries like.since

pub history_counted : (j : KeptJournal) → length (history_of j) ≡ steps_in j
unfolding history_of
history_counted j = refl

pub history_new : (j : KeptJournal) → j.entries ≡ [] → j.since ≡ 0 → history_of j ≡ []
unfolding history_of
history_new j none idle = stored_same [] j.entries 0 j.since none idle

due_suc : (n : ℕ) → due_steps (suc n) ≡ due_steps n ++ Step.Due ∷ []
due_suc zero = refl
due_suc (suc n) = ap (λ (x : List Step). Step.Due ∷ x) (due_suc n)

due_last : (n : ℕ) → due_steps (n + 1) ≡ due_steps n ++ Step.Due ∷ []
due_last n = let next : n + 1 ≡ suc n = omega arith in ap due_steps next ∙ due_suc n

stored_due : (es : List Entry) (n : ℕ) → stored_history es (n + 1) ≡ stored_history es n ++ Step.Due ∷ []
stored_due es n =
    ap (λ x. flat_map entry_steps es ++ x) (due_last n) ∙ sym (append_assoc (flat_map entry_steps es) (due_steps n) (Step.Due ∷ []))

-- one more due step
pub history_due : (j j' : KeptJournal) → j'.entries ≡ j.entries → j'.since ≡ j.since + 1 → history_of j' ≡ history_of j ++ Step.Due ∷ []
unfolding history_of
history_due j j' same more = stored_same j.entries j'.entries (j.since + 1) j'.since same more ∙ stored_due j.entries j.since

stored_call : (es : List Entry) (e : Entry)
    → stored_history (es ++ e ∷ []) 0 ≡ stored_history es e.dues ++ Step.Call e.conn e.moment e.call ∷ []
stored_call es e =
    let front : List Step = flat_map entry_steps es in
    append-nil (flat_map entry_steps (es ++ e ∷ []))
    ∙ flat_map-append entry_steps es (e ∷ [])
    ∙ ap (λ x. front ++ x) (append-nil (entry_steps e))
    ∙ sym (append_assoc front (due_steps e.dues) (Step.Call e.conn e.moment e.call ∷ []))

-- one more entry, which has the due steps before it
pub history_call : (j j' : KeptJournal) (e : Entry) → j'.entries ≡ j.entries ++ e ∷ [] → j'.since ≡ 0 → e.dues ≡ j.since
    → history_of j' ≡ history_of j ++ Step.Call e.conn e.moment e.call ∷ []
unfolding history_of
history_call j j' e more idle dues =
    stored_same (j.entries ++ e ∷ []) j'.entries 0 j'.since more idle
    ∙ stored_call j.entries e
    ∙ ap (λ n. stored_history j.entries n ++ Step.Call e.conn e.moment e.call ∷ []) dues

-- ---- the entries of a history

entries_due : (s : State) (d : ℕ) (xs : List Step) → entries_from s d (xs ++ Step.Due ∷ []) ≡ entries_from s d xs
entries_due s d [] = refl
entries_due s d (Step.Due ∷ xs) = entries_due (after_step s Step.Due) (d + 1) xs
entries_due s d (Step.Call k t c ∷ xs) = ap (λ es. record { dues = d; conn = k; moment = t; call = c; reply = reply_of s k t c } ∷ es) (entries_due (after_step s (Step.Call k t c)) 0 xs)

pub told_none : (ch : Charter) → told_entries ch [] ≡ []
unfolding told_entries
told_none ch = refl

-- a due step has none
pub told_due : (ch : Charter) (h : List Step) → told_entries ch (h ++ Step.Due ∷ []) ≡ told_entries ch h
unfolding told_entries
told_due ch h = entries_due (opening_state ch) 0 h

entries_more : (s : State) (d : ℕ) (xs ys : List Step) → (rest : List Entry) × (entries_from s d (xs ++ ys) ≡ entries_from s d xs ++ rest)
entries_more s d [] ys = (entries_from s d ys, refl)
entries_more s d (Step.Due ∷ xs) ys = entries_more (after_step s Step.Due) (d + 1) xs ys
entries_more s d (Step.Call k t c ∷ xs) ys =
    let more = entries_more (after_step s (Step.Call k t c)) 0 xs ys in
    (more.0, ap (λ es. record { dues = d; conn = k; moment = t; call = c; reply = reply_of s k t c } ∷ es) more.1)

-- a longer history has these, and more behind them
pub entries_append : (ch : Charter) (a more : List Step) → (rest : List Entry) × (history_entries ch (a ++ more) ≡ history_entries ch a ++ rest)
entries_append ch a more = entries_more (opening_state ch) 0 a more

-- the due steps behind the last call of these, of which so many stood before
abbrev dues_behind : ℕ → List Step → ℕ
dues_behind d [] = d
dues_behind d (Step.Due ∷ xs) = dues_behind (d + 1) xs
dues_behind d (Step.Call k t c ∷ xs) = dues_behind 0 xs

behind_both : (d : ℕ) (xs ys : List Step) → dues_behind d (xs ++ ys) ≡ dues_behind (dues_behind d xs) ys
behind_both d [] ys = refl
behind_both d (Step.Due ∷ xs) ys = behind_both (d + 1) xs ys
behind_both d (Step.Call k t c ∷ xs) ys = behind_both 0 xs ys

behind_dues : (d n : ℕ) → dues_behind d (due_steps n) ≡ d + n
behind_dues d zero = omega arith
behind_dues d (suc n) = let e = behind_dues (d + 1) n in omega (arith, e)

behind_entry : (d : ℕ) (e : Entry) (xs : List Step) → dues_behind d (entry_steps e ++ xs) ≡ dues_behind 0 xs
behind_entry d e xs =
    behind_both d (entry_steps e) xs
    ∙ ap (λ n. dues_behind n xs) (behind_both d (due_steps e.dues) (Step.Call e.conn e.moment e.call ∷ []))

behind_entries : (es : List Entry) → dues_behind 0 (flat_map entry_steps es) ≡ 0
behind_entries [] = refl
behind_entries (e ∷ es) = behind_entry 0 e (flat_map entry_steps es) ∙ behind_entries es

behind_stored : (es : List Entry) (n : ℕ) → dues_behind 0 (stored_history es n) ≡ n
behind_stored es n =
    let all = behind_both 0 (flat_map entry_steps es) (due_steps n)
    ∙ ap (λ (d : ℕ). dues_behind d (due_steps n)) (behind_entries es)
    ∙ behind_dues 0 n in
    omega (arith, all)

abbrev entry_at : State → ℕ → ℕ → ℕ → Call → Entry
entry_at s dues k t c = record { dues = dues; conn = k; moment = t; call = c; reply = reply_of s k t c }

entries_call : (s : State) (d : ℕ) (xs : List Step) (k t : ℕ) (c : Call)
    → entries_from s d (xs ++ Step.Call k t c ∷ []) ≡ entries_from s d xs ++ entry_at (state_from s xs) (dues_behind d xs) k t c ∷ []
entries_call s d [] k t c = refl
entries_call s d (Step.Due ∷ xs) k t c = entries_call (after_step s Step.Due) (d + 1) xs k t c
entries_call s d (Step.Call j u b ∷ xs) k t c =
    ap (λ es. entry_at s d j u b ∷ es) (entries_call (after_step s (Step.Call j u b)) 0 xs k t c)

-- a call has one, with its reply
pub told_call : (ch : Charter) (j : KeptJournal) (k t : ℕ) (c : Call)
    → told_entries ch (history_of j ++ Step.Call k t c ∷ []) ≡ told_entries ch (history_of j) ++ entry_at (state_after ch (history_of j)) j.since k t c ∷ []
unfolding told_entries history_of
told_call ch j k t c =
    let h : List Step = stored_history j.entries j.since in
    entries_call (opening_state ch) 0 h k t c
    ∙ ap (λ n. history_entries ch h ++ entry_at (state_after ch h) n k t c ∷ []) (behind_stored j.entries j.since)

-- ---- a journal that grows by a step

-- the entries of the history that the journal stores
abbrev pub HasEntries : Charter → KeptJournal → Type 0
HasEntries ch j = j.entries ≡ told_entries ch (history_of j)

pub entries_same : (ch : Charter) (j j' : KeptJournal) → IsLike j j' → HasEntries ch j → HasEntries ch j'
entries_same ch j j' like has = like.entries ∙ has ∙ ap (told_entries ch) (sym (history_same j j' like))

pub entries_due_more : (ch : Charter) (j j' : KeptJournal) → j'.entries ≡ j.entries → j'.since ≡ j.since + 1 → HasEntries ch j → HasEntries ch j'
entries_due_more ch j j' same more has =
    same ∙ has ∙ sym (told_due ch (history_of j)) ∙ ap (told_entries ch) (sym (history_due j j' same more))

pub entries_call_more : (ch : Charter) (j j' : KeptJournal) (e : Entry) → j'.entries ≡ j.entries ++ e ∷ [] → j'.since ≡ 0 → e.dues ≡ j.since
    → e.reply ≡ reply_of (state_after ch (history_of j)) e.conn e.moment e.call → HasEntries ch j → HasEntries ch j'
entries_call_more ch j j' e more idle dues reply has =
    let this : e ≡ entry_at (state_after ch (history_of j)) j.since e.conn e.moment e.call =
    ap (λ n. record e { dues = n }) dues ∙ ap (λ x. record e { dues = j.since; reply = x }) reply in
    more ∙ ap (λ es. es ++ e ∷ []) has
    ∙ ap (λ x. told_entries ch (history_of j) ++ x ∷ []) this
    ∙ sym (told_call ch j e.conn e.moment e.call)
    ∙ ap (told_entries ch) (sym (history_call j j' e more idle dues))
