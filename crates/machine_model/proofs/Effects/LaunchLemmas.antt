-- What a launch tells.
use Rattle.std.proofs.Common.{◌≡◌, ℕ, ◌+◌, ◌==◌, ◌≤◌, Bool, true, false, not, Option, Some, None, refl, ap, sym, ◌∙◌, subst, arith}
use Rattle.std.proofs.lemmas.Bool.Decides.{nat_tests}
use Rattle.api_json.specs.Status.{is_paused}
use Rattle.proc_kernel.specs.Catalogue.{program_of}
use Rattle.proc_kernel.specs.Processes.{spawn as spawned}
use Rattle.engine_text.specs.Scripts.{Program}
use Rattle.machine_model.specs.Chain.{change, tell_of, renew}
use Rattle.machine_model.specs.EventTexts.{plain_event}
use Rattle.machine_model.specs.Effects.Launch.{spawn, launched, launch_program, launch, launch_by_call, afresh, container_room}
use Rattle.machine_model.specs.Summary.{summary_row}
use Rattle.machine_model.specs.Ranges.{HaveCodes}
use Rattle.machine_model.proofs.Processes.ProgramCodeLemmas.{OfProgram, program_coded}
use Rattle.machine_model.proofs.Processes.CodeLemmas.{coded_spawn, all_begun}
use Rattle.machine_model.proofs.Fold.RowLemmas.{Is}
use Rattle.machine_model.proofs.Fold.TellLemmas.{Tells, tells_then, tells_from, tells_still, tells_with, tells_row, tells_mounts, tells_renew, tells_apart, row_is}
use Rattle.engine_text.specs.declared.owner.Owner.{Owner}
use Rattle.engine_text.specs.declared.owner.Owner.TheVariants.{Container as OfContainer}
use Rattle.engine_text.specs.declared.container.Container.{Container}
use Rattle.engine_text.specs.declared.event.FoldRow.{FoldRow}
use Rattle.engine_text.specs.declared.event.Action.TheVariants.{Start, Mount}

-- a row that is the summary of a container that isn't paused
abbrev pub Awake : FoldRow → Container → Type 0
Awake r c = (r ≡ summary_row c) × (is_paused c.life.status ≡ false)

pub awake_same : (r : FoldRow) (c : Container) → r.id ≡ c.id → Awake r c → r ≡ summary_row c
awake_same r c id h = h.0

-- before its start is told
abbrev Begun : FoldRow → Container → Type 0
Begun r c = (r.name ≡ c.name) × (r.paused ≡ false) × (not (c.life.pid == 0) ≡ true) × (c.life.code ≡ 0) × (is_paused c.life.status ≡ false)

pub tells_spawn : {n : ℕ} {P : FoldRow → Container → Type 0} (owner : Owner) (program : Program) (stdin : Bool) (room : ℕ) → HaveCodes program.ops
    → Tells n P (change (spawn owner program stdin room)) P
tells_spawn owner program stdin room codes =
    tells_apart (spawn owner program stdin room) (λ s. refl)
    (λ s fit. (fit.0, fit.1, omega arith, all_begun owner (spawned program s.clock stdin room) s.processes fit.3 (coded_spawn program s.clock stdin room codes), fit.4, fit.5))

pid_lives : (n : ℕ) → 1 ≤ n → not (n == 0) ≡ true
pid_lives n h = grind (arith, nat_tests, h)

started : (r : FoldRow) (c : Container) → r.id ≡ c.id → Begun r c → ((record r { live = true; code = 0 }).id ≡ c.id) × Awake (record r { live = true; code = 0 }) c
started r c id h = (id, (row_is (record r { live = true; code = 0 }) c id h.0 (sym h.2) (h.1 ∙ sym h.4) (sym h.3), h.4))

by_program : (o : Option Program) (c : Container) → OfProgram o → Tells c.number Awake (launch_program o c) Awake
by_program None c codes = tells_still
by_program (Some program) c codes =
    let begin : Tells c.number Awake (λ s. renew c.number (launched s) s) Begun =
    tells_renew launched (λ s l h. (omega arith, h.1, h.2))
    (λ s fit r d id h. (ap (λ (x : FoldRow). x.name) h.0, ap (λ (x : FoldRow). x.paused) h.0 ∙ h.1, pid_lives s.next_pid fit.2, refl, refl)) in
    let tells : Tells c.number Begun (tell_of (plain_event Start) c.number) Awake =
    tells_row (plain_event Start) (λ c t r. record r { live = true; code = 0 }) (λ c t rs. refl) (λ r c t id h. started r c id h) in
    tells_then begin
    (tells_then (tells_spawn (OfContainer c.number) program c.life.open_stdin (container_room c) codes)
    (tells_then (tells_mounts c.number Mount) tells))

pub tells_launch : (n : ℕ) → Tells n Awake (launch n) Awake
tells_launch n =
    tells_with (λ (c : Container). launch_program (program_of c.life.words (c.life.starts + 1)) c)
    (λ c is. subst (λ m. Tells m (Is c Awake) (launch_program (program_of c.life.words (c.life.starts + 1)) c) Awake) is
    (tells_from (λ r d id h. h.1) (by_program (program_of c.life.words (c.life.starts + 1)) c (program_coded c.life.words (c.life.starts + 1)))))

pub tells_launch_by_call : (n : ℕ) → Tells n Awake (launch_by_call n) Awake
tells_launch_by_call n =
    let fresh : Tells n Awake (renew n afresh) Awake = tells_renew (λ s. afresh) (λ s l h. h) (λ s fit r c id h. (h.0, h.1)) in
    tells_then fresh (tells_launch n)
