-- Sessions that run, and those that ended, one by one (own: the threads of the shared daemon).
use Rattle.std.specs.Prelude.{ℕ, suc, ◌≡◌, ◌+◌, ◌<◌, ◌≤◌, ◌⊎◌, List, [], ◌∷◌, ◌++◌, length, map, Contains, Option}
use Rattle.atomic_table.specs.Seated.{TableId}
use Rattle.engine_text.specs.declared.step.Step.{Step}
use Rattle.engine_ports.specs.Door.{Outside, DoorView, LeaveSays}
use Rattle.machine_model.specs.History.{Extends}
use Rattle.session_model.specs.declared.ending.Ending.{Ending}
use Rattle.session_model.specs.declared.ending.Worst.{Worst}
use Rattle.session_model.specs.declared.ending.Worst.TheVariants as worst
use Rattle.turnstile.specs.Claims.{Claim}
use Rattle.turnstile.specs.Views.{claims, joined}
use Rattle.turnstile.specs.Plays.{Learned}
use Rattle.turnstile.specs.declared.view.View.{View}
use Rattle.daemon_shared.specs.Sharing.{author_of, IsKept}
use Rattle.door_model.specs.Connections.{most_connections, ComeIn, GoOut}
use Rattle.door_model.specs.Worsts.{called_by, worse_of, IsWorst}
use Rattle.daemon_shared.specs.Running.{Halts}
use Rattle.daemon_shared.specs.Sessions.{SharedSeat, IsRoot, IsReady, Served, start_of, end_of}
use Rattle.daemon_shared.specs.declared.one_daemon.Opening.{Opening}
use Rattle.daemon_shared.specs.declared.admission.Begun.{Begun}
use Rattle.daemon_shared.specs.declared.admission.Ended.{Ended}
use Rattle.daemon_shared.specs.declared.running.Running.{Running}
use Rattle.daemon_shared.specs.declared.running.Stage.{Stage}
use Rattle.daemon_shared.specs.declared.running.Stage.TheVariants.{Runs, Joins, Over}

-- the two lists are as long, and go together item by item
abbrev pub AllPairs : {A B : Type 0} → (A → B → Type 0) → List A → List B → Type 0
AllPairs R [] [] = Unit {0}
AllPairs R (a ∷ as') (b ∷ bs) = R a b × AllPairs R as' bs
AllPairs R [] (b ∷ bs) = ⊥
AllPairs R (a ∷ as') [] = ⊥

module _ {Q S K C P : Type 0} where
  -- what a session took
  abbrev pub begun_of : Running Q S K C P → Begun Q S K C
  begun_of x = x.began.value

module _ {Q S K C P : Type 0} (seat : Q → SharedSeat) (told : S → K → C → Outside)
    (tells : P → Outside) (steps : Option (ℕ × ℕ)) where
  -- ---- sessions that run

  -- a session that took this keeps its clause: its thread promised it, or what the session left meets it
  abbrev pub Keeps : Begun Q S K C → Stage Q S K C P → Type 0
  Keeps b (Runs h) = (h.promise.began.value ≡ b) × (h.promise.steps ≡ steps)
  Keeps b Joins = ⊥
  Keeps b (Over r) = Served seat told tells steps b r

  -- each of these keeps its clause
  abbrev pub AllKeep : List (Running Q S K C P) → Type 0
  AllKeep [] = Unit {0}
  AllKeep (x ∷ xs) = Keeps (begun_of x) x.stage × AllKeep xs

  -- some of the first were joined, which makes the second: they are the same sessions, and each keeps its clause
  pub record JoinsSome (xs ys : List (Running Q S K C P)) : Type 0 where
    pub begun : map begun_of ys ≡ map begun_of xs
    pub keep : AllKeep ys

  -- these connections came, numbered from n on
  abbrev pub AllReady : TableId → Option Opening → ℕ → List (Begun Q S K C) → Type 0
  AllReady table o n [] = Unit {0}
  AllReady table o n (b ∷ bs) = IsReady seat told table o n b × AllReady table o (suc n) bs

  -- ---- sessions that ended

  -- a session has ended, and the root has taken its pass in
  pub record IsTaken (v : View Step Opening) (b : Begun Q S K C) (r : Ended Q P) : Type 0 where
    pub served : Served seat told tells steps b r
    pub seen : Extends (seat r.pass).me.0.seen v.seen
    pub before : List (Claim Step)
    pub behind : List (Claim Step)
    pub joined_calls : v.joined_calls ≡ before ++ claims (seat r.pass).me.0 ++ behind

  -- the history is empty, or what one of these had seen at its end
  abbrev pub SawAtEnd : List Step → List (Ended Q P) → Type 0
  SawAtEnd seen rs = Contains ([] ∷ map (λ r. (seat r.pass).me.0.seen) rs) seen

  -- one more has ended: the root takes its pass in, and it is left to the door
  pub record ClosesOne (table : TableId) (b : Begun Q S K C) (e : Ending)
      (root root' : SharedSeat) (d d' : DoorView) : Type 0 where
    pub r : Ended Q P
    pub ending : e ≡ r.ending
    pub served : Served seat told tells steps b r
    pub is_root : IsRoot table root.me.0.charter root.me.0.next root'
    pub joins : root'.me.0 ≡ joined root.me.0 (seat r.pass).me.0
    pub learned : Learned author_of IsKept root'.me.0
    pub left : LeaveSays r.number (tells r.past) d d'

  -- ---- all of them

  -- of the n that came the first have ended and are left to the door, the next are being served, and
  -- the last wait to be; the root has seen nothing, what one of the first had seen at its end, or
  -- what one of the others had seen at its beginning
  pub record Serving (table : TableId) (o : Option Opening) (most n : ℕ) (root : SharedSeat)
      (xs : List (Running Q S K C P)) (waiting : List (Begun Q S K C)) (ends : Worst)
      (d d' : DoorView) : Type 0 where
    pub all : List (Begun Q S K C)
    pub done : List (Begun Q S K C)
    pub split : all ≡ (done ++ map begun_of xs) ++ waiting
    pub count : length all ≡ n
    pub few : n ≤ most
    pub ready : AllReady table o 0 all
    pub keep : AllKeep xs
    pub is_root : IsRoot table o n root
    pub came : ComeIn d.coming (map (start_of told) all) d'.coming
    pub rs : List (Ended Q P)
    pub taken : AllPairs (IsTaken root.me.0) done rs
    pub saw : SawAtEnd root.me.0.seen rs
        ⊎ Contains (map (λ b. (seat b.pass).me.0.seen) (map begun_of xs ++ waiting)) root.me.0.seen
    pub left : GoOut d.past (map (end_of tells) rs) d'.past
    pub owed : length xs + length waiting ≤ d'.owed
    pub faults : d.faults ≤ d'.faults
    pub bound : d'.bound ≡ d.bound
    pub worst_is : IsWorst ends (worst.Closed ∷ map (λ r. called_by r.ending) rs)

  -- no more are taken in, for this reason
  pub record Stops (table : TableId) (o : Option Opening) (most n : ℕ) (root : SharedSeat)
      (xs : List (Running Q S K C P)) (ends why : Worst) (d d' : DoorView) : Type 0 where
    pub serving : Serving table o most n root xs [] ends d d'
    pub halts : Halts why most n d d'

  -- these are being served, whichever came before them or wait
  pub record IsServing (table : TableId) (root : SharedSeat) (xs : List (Running Q S K C P))
      (ends : Worst) (d : DoorView) : Type 0 where
    pub o : Option Opening
    pub most : ℕ
    pub n : ℕ
    pub waiting : List (Begun Q S K C)
    pub before : DoorView
    pub few : most ≤ most_connections
    pub serving : Serving table o most n root xs waiting ends before d

  -- some more of them have ended and are left to the door, whichever came before them or wait
  pub record LeavesSome (table : TableId) (root root' : SharedSeat)
      (xs xs' : List (Running Q S K C P)) (ends ends' : Worst) (d d' : DoorView) : Type 0 where
    pub serving : (o : Option Opening) (most n : ℕ) (waiting : List (Begun Q S K C))
        (before : DoorView) → Serving table o most n root xs waiting ends before d
        → Serving table o most n root' xs' waiting ends' before d'
    pub coming : d'.coming ≡ d.coming
    pub faults : d'.faults ≡ d.faults

  -- all that came, n of them, are served, and one more may come
  pub record AwaitsNext (table : TableId) (n : ℕ) (root : SharedSeat)
      (xs : List (Running Q S K C P)) (ends : Worst) (d : DoorView) : Type 0 where
    pub o : Option Opening
    pub most : ℕ
    pub before : DoorView
    pub less : n < most
    pub few : most ≤ most_connections
    pub serving : Serving table o most n root xs [] ends before d

  -- a connection of this number came and waits to be served; some of those before it have ended and
  -- are left to the door
  abbrev pub TakesNext : TableId → ℕ → SharedSeat → SharedSeat → List (Running Q S K C P)
      → List (Running Q S K C P) → Worst → Worst → DoorView → DoorView → Begun Q S K C → Type 0
  TakesNext table n root root' xs xs' ends ends' d d' b =
      (o : Option Opening) (most : ℕ) (before : DoorView) → n < most → most ≤ most_connections
      → Serving table o most n root xs [] ends before d
      → Serving table o most (n + 1) root' xs' (b ∷ []) ends' before d'

  -- none came, for this reason
  abbrev pub TakesNone : TableId → ℕ → SharedSeat → SharedSeat → List (Running Q S K C P)
      → List (Running Q S K C P) → Worst → Worst → DoorView → DoorView → Worst → Type 0
  TakesNone table n root root' xs xs' ends ends' d d' why =
      (o : Option Opening) (most : ℕ) (before : DoorView)
      → Serving table o most n root xs [] ends before d
      → Stops table o most n root' xs' ends' why before d'

  -- all that came were served, and their sessions ended
  pub record ServesAll (table : TableId) (o : Option Opening) (most : ℕ) (root : SharedSeat)
      (worst : Worst) (d d' : DoorView) : Type 0 where
    pub n : ℕ
    pub ends : Worst
    pub why : Worst
    pub stops : Stops table o most n root [] ends why d d'
    pub worst_is : worst ≡ worse_of why ends

  -- no more are taken in, and all sessions have ended since
  abbrev pub EndsAll : TableId → SharedSeat → SharedSeat → List (Running Q S K C P) → Worst → Worst
      → Worst → DoorView → DoorView → Type 0
  EndsAll table root root' xs ends why worst d d' =
      (o : Option Opening) (most n : ℕ) (before : DoorView)
      → Stops table o most n root xs ends why before d → ServesAll table o most root' worst before d'
