-- What a line keeps to: START of its clock is at most the greatest moment.
use Rattle.std.proofs.Common.{◌≡◌, ◌≤◌, ◌==◌, ℕ, List, [], ◌∷◌, Bool, true, false, ◌&&◌, if◌then◌else◌, nat_le, codes, option_and_then, Option, Some, None, IfSome, refl, subst, arith}
use Rattle.std.proofs.lemmas.Bool.Decides.{nat_tests}
use Rattle.std.specs.List.{before_first, after_first}
use Rattle.std.specs.Option.{option_map}
use Rattle.clap.specs.Kinds.{Kinds}
use Rattle.clap.specs.Walk.{Row}
use Rattle.api_routes.specs.Numeral.{number_of}
use Rattle.engine_line.specs.Options.{fault_in, rows_in, value_in}
use Rattle.engine_line.specs.Lines.{if_between, moment_in, port_in, stepping_of, stepping_in, work_of, seed_of, clock_of, connections_of, entries_of, is_stdio, line_in, line_by, line_of}
use Rattle.engine_line.specs.declared.line.Stepping.{Stepping}
use Rattle.engine_line.specs.OneLine.{beginning_of, flag_next, line_with, one_line_of, option_next}
use Rattle.engine_line.specs.declared.line.Line.{Line}
use Rattle.engine_line.specs.declared.line.OneLine.{OneLine}

-- ---- steps of reading that go on where the one before gave a value

-- the next step, of which this is true where that is true of what the first gave
goes_on : {A B : Type 0} (P : A → Type 0) (Q : B → Type 0) (o : Option A) (next : A → Option B)
    → IfSome o P → ((x : A) → P x → IfSome (next x) Q) → IfSome (option_and_then next o) Q
goes_on P Q (Some x) next h step = step x h
goes_on P Q None next h step = tt

-- the next step, whatever the first gave
goes_by : {A B : Type 0} (Q : B → Type 0) (o : Option A) (next : A → Option B)
    → ((x : A) → IfSome (next x) Q) → IfSome (option_and_then next o) Q
goes_by Q (Some x) next step = step x
goes_by Q None next step = tt

-- ---- moments

by_test : (n most : ℕ) → nat_le n most ≡ true → n ≤ most
by_test n most e = grind (arith, nat_tests, e)

abbrev IsMoment : ℕ → Type 0
IsMoment n = n ≤ 9_000_000_000_000

between : (o : Option ℕ) → IfSome (if_between 0 9_000_000_000_000 o) IsMoment
between None = tt
between (Some n) = by (nat_le 0 n) (nat_le n 9_000_000_000_000) refl
  where
    by : (s t : Bool) → nat_le n 9_000_000_000_000 ≡ t → IfSome (if s && t then Some n else None) IsMoment
    by true true e = by_test n 9_000_000_000_000 e
    by true false e = tt
    by false true e = tt
    by false false e = tt

moment_within : (word : List ℕ) → IfSome (moment_in word) IsMoment
moment_within word = between (number_of 13 word)

-- ---- START:STEP

abbrev Begins : Stepping → Type 0
Begins s = IsMoment s.start

begins_by : (start step : Option ℕ) → IfSome start IsMoment → IfSome (stepping_of start step) Begins
begins_by (Some start) (Some step) h = h
begins_by (Some start) None h = tt
begins_by None (Some step) h = tt
begins_by None None h = tt

stepping_within : (word : List ℕ) → IfSome (stepping_in word) Begins
stepping_within word =
    begins_by (moment_in (before_first (λ b. b == 58) word)) (moment_in (after_first (λ b. b == 58) word))
    (moment_within (before_first (λ b. b == 58) word))

-- ---- the clock, where one is set

abbrev Within : Option Stepping → Type 0
Within clock = IfSome clock Begins

set_within : (o : Option Stepping) → IfSome o Begins → IfSome (option_map Some o) Within
set_within None h = tt
set_within (Some s) h = h

clock_within : (o : Option (List ℕ)) → IfSome (clock_of o) Within
clock_within None = tt
clock_within (Some word) = set_within (stepping_in word) (stepping_within word)

-- ---- the line

abbrev StartsWithin : Line → Type 0
StartsWithin line = Within line.clock

line_within : (rows : List Row) → IfSome (line_in rows) StartsWithin
line_within rows =
    goes_by StartsWithin (work_of (is_stdio (value_in rows (codes "stdio"))) (value_in rows (codes "listen")) (value_in rows (codes "drill"))) _ (λ work.
    goes_by StartsWithin (seed_of (value_in rows (codes "seed"))) _ (λ seed.
    goes_on Within StartsWithin (clock_of (value_in rows (codes "clock"))) _ (clock_within (value_in rows (codes "clock"))) (λ clock within.
    goes_by StartsWithin (connections_of (value_in rows (codes "connections"))) _ (λ connections.
    goes_by StartsWithin (entries_of (value_in rows (codes "journal"))) _ (λ entries. within)))))

by_faults : (ks : Kinds) (rows : List Row) → IfSome (line_by ks rows) StartsWithin
by_faults [] rows = line_within rows
by_faults (k ∷ ks) rows = tt

-- a line of words that sets a clock sets it to begin at a moment
pub start_within : (words : List (List ℕ)) (line : Line) (s : Stepping) → line_of words ≡ Some line → line.clock ≡ Some s
    → s.start ≤ 9_000_000_000_000
start_within words line s is clock =
    let within : Within line.clock =
    subst (λ (o : Option Line). IfSome o StartsWithin) is (by_faults (fault_in words) (rows_in words)) in
    subst Within clock within

-- ---- the line of one thread

abbrev OneStartsWithin : OneLine → Type 0
OneStartsWithin line = Within line.clock

with_within : (addr : List ℕ) (seed clock connections journal : Option (List ℕ)) (reboot : Bool) (rest : List (List ℕ))
    → IfSome (line_with addr seed clock connections journal reboot rest) OneStartsWithin
with_within addr seed clock connections journal reboot [] =
    goes_by OneStartsWithin (port_in addr) _ (λ port.
    goes_by OneStartsWithin (beginning_of seed reboot) _ (λ beginning.
    goes_on Within OneStartsWithin (clock_of clock) _ (clock_within clock) (λ clock within.
    goes_by OneStartsWithin (connections_of connections) _ (λ connections.
    goes_by OneStartsWithin (entries_of journal) _ (λ entries. within)))))
with_within addr seed clock connections journal reboot (word ∷ words) = tt

one_within : (words : List (List ℕ)) → IfSome (one_line_of words) OneStartsWithin
one_within [] = tt
one_within (addr ∷ words) =
    let seed = option_next (codes "--seed") words in
    let clock = option_next (codes "--clock") seed.1 in
    let connections = option_next (codes "--connections") clock.1 in
    let journal = option_next (codes "--journal") connections.1 in
    let reboot = flag_next (codes "--reboot") journal.1 in
    with_within addr seed.0 clock.0 connections.0 journal.0 reboot.0 reboot.1

-- so does a line of `engineone`
pub one_start_within : (words : List (List ℕ)) (line : OneLine) (s : Stepping) → one_line_of words ≡ Some line → line.clock ≡ Some s
    → s.start ≤ 9_000_000_000_000
one_start_within words line s is clock =
    let within : Within line.clock = subst (λ (o : Option OneLine). IfSome o OneStartsWithin) is (one_within words) in
    subst Within clock within
