-- What passed the first three tries of an entry is lawful, and what is behind it.
use Rattle.std.proofs.Common.{◌≡◌, ℕ, Bool, true, false, not, List, [], ◌∷◌, refl, sym, ap, subst, ◌∙◌}
use Rattle.std.specs.Prelude.{IfOk, Result, Ok, Err, codes, decimal}
use Rattle.serde_json.specs.Written.{compact_text}
use Rattle.engine_text.specs.declared.call.Call.{Call}
use Rattle.engine_text.specs.declared.entry.Entry.{Entry}
use Rattle.engine_text.specs.declared.step.Step.{Step}
use Rattle.machine_model.specs.State.{State}
use Rattle.machine_model.specs.History.{IsLawful, IsLawfulCall, has_ticket, reply_of}
use Rattle.journal_lines.specs.JournalLines.{reply_value}
use Rattle.machine_model.specs.Ready.{is_ready}
use Rattle.journal_lines.specs.Stored.{due_steps, entry_steps}
use Rattle.journal_lines.specs.Due.{IsMomentFor, IsDueCount, behind_dues}
use Rattle.journal_lines.specs.Entry.{IsWrong, OtherDues, NotReady, OtherReply, IsRight, lacks_ticket, can_answer, kept_reply, found_reply}
use Rattle.journal_lines.specs.Line.{HasLine}
use Rattle.history_replay.specs.Checking.{IsRun, IsSaid}
use Rattle.history_replay.specs.declared.dues.Dues.{Dues}
use Rattle.history_replay.specs.declared.dues.Dues.TheVariants as dues
use Rattle.history_replay.specs.declared.entry.Said.{Said}
use Rattle.history_replay.specs.declared.entry.Said.TheVariants as said
use Rattle.history_replay.specs.Standing.{Standing, behind}
use Rattle.history_replay.proofs.RunLemmas.{held_behind}
use Rattle.history_replay.proofs.StandingLemmas.{behind_append}

stands : (b : Bool) → not b ≡ false → b ≡ true
stands true h = refl
stands false h = let never : ⊥ = cc in absurd never

lawful_call : (s : State) (n k t : ℕ) (c : Call) → lacks_ticket s k c ≡ false → IsMomentFor (behind_dues s n) t c → is_ready (behind_dues s n) c ≡ true
    → IsLawfulCall (behind_dues s n) k t c
lawful_call s n k t (Call.Drop ticket) holds timed ready = (timed, held_behind s k ticket n (stands (has_ticket s k ticket) holds))
lawful_call s n k t (Call.Take ticket) holds timed ready = (timed, held_behind s k ticket n (stands (has_ticket s k ticket) holds), ready)
lawful_call s n k t c holds timed ready = (timed.0, timed.1, ready)

-- a call whose ticket is there, at its moment, that can be answered
pub lawful_behind : (s : State) (e : Entry) → HasLine e → lacks_ticket s e.conn e.call ≡ false → IsDueCount s e e.dues → can_answer s e ≡ true
    → IsLawful (behind_dues s e.dues) (Step.Call e.conn e.moment e.call)
lawful_behind s e has holds count ready = (has.sound, lawful_call s e.dues e.conn e.moment e.call holds count.1 ready)

-- behind an entry a machine stands behind its due steps and then its call
pub behind_call : (s now after : Standing) (e : Entry) → now ≡ behind s (due_steps e.dues)
    → after ≡ behind now (Step.Call e.conn e.moment e.call ∷ []) → after ≡ behind s (entry_steps e)
behind_call s now after e is made =
    made ∙ ap (λ (y : Standing). behind y (Step.Call e.conn e.moment e.call ∷ [])) is
    ∙ behind_append s (due_steps e.dues) (Step.Call e.conn e.moment e.call ∷ [])

-- ---- what is said of an entry

-- the due steps, as they are told
pub ran : (s : Standing) (e : Entry) (now : Standing) (d : Dues) → IsRun s e now d → d ≡ dues.Made
    → IsDueCount s.state e e.dues × (now ≡ behind s (due_steps e.dues))
ran s e now d run is = subst (IsRun s e now) is run

-- so is the state
state_at : (s : Standing) (e : Entry) (now : Standing) → now ≡ behind s (due_steps e.dues) → now.state ≡ behind_dues s.state e.dues
state_at s e now at = ap (λ (y : Standing). y.state) at

-- where they serve, and the rest is as it should be, the call is lawful
pub lawful_now : (s : Standing) (e : Entry) (now : Standing) (d : Dues) → HasLine e → lacks_ticket s.state e.conn e.call ≡ false → IsRun s e now d → d ≡ dues.Made
    → is_ready now.state e.call ≡ true → IsLawful now.state (Step.Call e.conn e.moment e.call)
lawful_now s e now d has holds run is ready =
    let (count, at) = ran s e now d run is in
    let here = state_at s e now at in
    let can : can_answer s.state e ≡ true = ap (λ (y : State). is_ready y e.call) (sym here) ∙ ready in
    subst (λ (y : State). IsLawful y (Step.Call e.conn e.moment e.call)) (sym here) (lawful_behind s.state e has holds count can)

-- a wrong entry, whatever the machine is behind it
pub said_wrong : {E : Type 0} (s : Standing) (e : Entry) (after : Standing) (r : Result Said E) (kept found : List ℕ)
    → IfOk r (λ x. x ≡ said.Wrong kept found) → IsWrong s.state e kept found → IfOk r (λ x. IsSaid s e after x)
said_wrong s e after (Ok x) kept found is wrong = subst (IsSaid s e after) (sym is) wrong
said_wrong s e after (Err x) kept found is wrong = tt

pub other_dues : (s : Standing) (e : Entry) (now : Standing) (d : Dues) (kept found : List ℕ) → lacks_ticket s.state e.conn e.call ≡ false → IsRun s e now d
    → d ≡ dues.Other found → kept ≡ decimal e.dues → IsWrong s.state e kept found
other_dues s e now d kept found holds run is digits =
    let both : IsRun s e now (dues.Other found) = subst (IsRun s e now) is run in
    subst (λ k. IsWrong s.state e k found) (sym digits) (OtherDues found holds both.0 both.1)

pub not_ready : (s : Standing) (e : Entry) (now : Standing) (d : Dues) → lacks_ticket s.state e.conn e.call ≡ false → IsRun s e now d → d ≡ dues.Made
    → is_ready now.state e.call ≡ false → IsWrong s.state e (kept_reply e) (codes "not ready")
not_ready s e now d holds run is never =
    let (count, at) = ran s e now d run is in
    NotReady holds count (ap (λ (y : State). is_ready y e.call) (sym (state_at s e now at)) ∙ never)

-- the text of the machine's reply
abbrev text_at : State → Entry → List ℕ
text_at now e = compact_text (reply_value e.call (reply_of now e.conn e.moment e.call))

pub right_entry : (s : Standing) (e : Entry) (now after : Standing) (d : Dues) (kept found : List ℕ) → lacks_ticket s.state e.conn e.call ≡ false
    → IsRun s e now d → d ≡ dues.Made → is_ready now.state e.call ≡ true → kept ≡ kept_reply e → found ≡ text_at now.state e → kept ≡ found
    → after ≡ behind now (Step.Call e.conn e.moment e.call ∷ []) → IsRight s.state e × (after ≡ behind s (entry_steps e))
right_entry s e now after d kept found holds run is ready old new same made =
    let (count, at) = ran s e now d run is in
    let here = state_at s e now at in
    let reply : found_reply s.state e ≡ kept_reply e = ap (λ (y : State). text_at y e) (sym here) ∙ sym new ∙ sym same ∙ old in
    (record { ticket = holds; dues = count; ready = ap (λ (y : State). is_ready y e.call) (sym here) ∙ ready; reply = reply }, behind_call s now after e at made)

pub other_reply : (s : Standing) (e : Entry) (now : Standing) (d : Dues) (kept found : List ℕ) → lacks_ticket s.state e.conn e.call ≡ false → IsRun s e now d
    → d ≡ dues.Made → is_ready now.state e.call ≡ true → kept ≡ kept_reply e → found ≡ text_at now.state e → (kept ≡ found → ⊥) → IsWrong s.state e kept found
other_reply s e now d kept found holds run is ready old new differs =
    let (count, at) = ran s e now d run is in
    let here = state_at s e now at in
    let text : found ≡ found_reply s.state e = new ∙ ap (λ (y : State). text_at y e) here in
    let wrong : IsWrong s.state e (kept_reply e) (found_reply s.state e) =
    OtherReply holds count (ap (λ (y : State). is_ready y e.call) (sym here) ∙ ready) (λ same. differs (old ∙ sym same ∙ sym text)) in
    subst (λ k. IsWrong s.state e k found) (sym old) (subst (IsWrong s.state e (kept_reply e)) (sym text) wrong)
