-- The programs of the catalogue have few ops, and none begins again in no time.
use Rattle.std.proofs.Common.{arith, ◌≡◌, ℕ, zero, suc, ◌*◌, ◌≤◌, ◌==◌, ◌&&◌, ◌/◌, ◌%◌, nat_le, Bool, true, false, List, [], ◌∷◌, ◌++◌, length, Option, Some, None, if◌then◌else◌, replicate, codes, refl}
use Rattle.std.proofs.Math.ListN.{length-append, length-replicate}
use Rattle.std.proofs.lemmas.Bool.Decides.{nat_tests}
use Rattle.std.specs.Prelude.{⊤}
use Rattle.std.specs.List.{repeat, AllByRecursion}
use Rattle.engine_text.specs.declared.script.Op.{Op}
use Rattle.engine_text.specs.declared.script.Op.TheVariants.{Write, Again, Exit}
use Rattle.engine_text.specs.declared.script.Stream.TheVariants.{Stderr}
use Rattle.engine_text.specs.Scripts.{Program}
use Rattle.proc_kernel.specs.declared.catalogue.Name.{Name}
use Rattle.proc_kernel.specs.declared.catalogue.Name.TheVariants.{Hello, Echo, Cat, Sleep, Tick, Exit as ExitName, Trap, Deaf, Flaky, Noise, Stuck}
use Rattle.proc_kernel.specs.Catalogue.{number_of, within, number_in, only_number, of_number, of_numbers, counted, ticking, alone, plain, print, letters, tick_ops, flaky_program, rest_block, noise_program, sleep_program, exit_program, stuck_program, name_of, by_name, named, program_of}
use Rattle.health_watch.proofs.BoundLemmas.{IsSlow, IsSlowProgram}

-- what is so of a program, if there is one
abbrev pub IsSlowIfAny : Option Program → Type 0
IsSlowIfAny None = ⊤
IsSlowIfAny (Some program) = IsSlowProgram program

-- ---- lists of ops

abbrev AreSlow : Bool → List Op → Type 0
AreSlow copies ops = AllByRecursion (IsSlow copies) ops

append_slow : (copies : Bool) (xs ys : List Op) → AreSlow copies xs → AreSlow copies ys → AreSlow copies (xs ++ ys)
append_slow copies [] ys h k = k
append_slow copies (x ∷ xs) ys h k = (h.0, append_slow copies xs ys h.1 k)

ticks_slow : (copies : Bool) (n time : ℕ) → AreSlow copies (repeat n (tick_ops time))
ticks_slow copies zero time = tt
ticks_slow copies (suc n) time = append_slow copies (tick_ops time) (repeat n (tick_ops time)) (tt, (tt, tt)) (ticks_slow copies n time)

ticks_length : (n time : ℕ) → length (repeat n (tick_ops time)) ≡ 2 * n
ticks_length zero time = refl
ticks_length (suc n) time = omega (arith, length-append (tick_ops time) (repeat n (tick_ops time)), ticks_length n time)

blocks_slow : (copies : Bool) (n : ℕ) (bytes : List ℕ) → AreSlow copies (replicate n (print bytes))
blocks_slow copies zero bytes = tt
blocks_slow copies (suc n) bytes = (tt, blocks_slow copies n bytes)

-- ---- numbers

abbrev IsFrom : ℕ → ℕ → Option ℕ → Type 0
IsFrom low high None = ⊤
IsFrom low high (Some n) = (low ≤ n) × (n ≤ high)

within_from : (low high : ℕ) (r : Option ℕ) → IsFrom low high (within low high r)
within_from low high None = tt
within_from low high (Some n) = by (nat_le low n) (nat_le n high) refl refl
  where
    by : (a b : Bool) → nat_le low n ≡ a → nat_le n high ≡ b → IsFrom low high (if a && b then Some n else None)
    by true true e f = (grind (arith, nat_tests, e), grind (arith, nat_tests, f))
    by true false e f = tt
    by false b e f = tt

only_from : (low high : ℕ) (ws : List (List ℕ)) → IsFrom low high (only_number low high ws)
only_from low high [] = tt
only_from low high (w ∷ []) = within_from low high (number_of w)
only_from low high (w ∷ v ∷ ws) = tt

counted_slow : (low high : ℕ) (ws : List (List ℕ)) (p : ℕ → Program) → ((n : ℕ) → n ≤ high → IsSlowProgram (p n)) → IsSlowIfAny (counted low high ws p)
counted_slow low high ws p each = by (only_number low high ws) (only_from low high ws)
  where
    by : (r : Option ℕ) → IsFrom low high r → IsSlowIfAny (of_number r p)
    by None h = tt
    by (Some n) h = each n h.1

-- ---- programs

alone_slow : (ws : List (List ℕ)) (p : Program) → IsSlowProgram p → IsSlowIfAny (alone ws p)
alone_slow [] p h = h
alone_slow (w ∷ ws) p h = tt

tick_slow : (n time : ℕ) → n ≤ 1000 → 10 ≤ time → (b : Bool)
    → IsSlowProgram (if b then plain (print (codes "tick\n") ∷ Again time ∷ []) else plain (repeat n (tick_ops time) ++ Exit 0 ∷ []))
tick_slow n time few long true = record { slow = (tt, ((refl, omega (arith, long)), tt)); few = omega arith }
tick_slow n time few long false = record {
  slow = append_slow _ (repeat n (tick_ops time)) (Exit 0 ∷ []) (ticks_slow _ n time) (tt, tt);
  few = omega (arith, length-append (repeat n (tick_ops time)) (Exit 0 ∷ []), ticks_length n time, few);
}

ticking_slow : (ws : List (List ℕ)) → IsSlowIfAny (ticking ws)
ticking_slow [] = tt
ticking_slow (w ∷ []) = tt
ticking_slow (w ∷ v ∷ []) = by (number_in 0 1000 w) (number_in 10 604800000 v) (within_from 0 1000 (number_of w)) (within_from 10 604800000 (number_of v))
  where
    by : (r s : Option ℕ) → IsFrom 0 1000 r → IsFrom 10 604800000 s → IsSlowIfAny (of_numbers r s)
    by None s h k = tt
    by (Some n) None h k = tt
    by (Some n) (Some time) h k = tick_slow n time h.1 k.0 (n == 0)
ticking_slow (w ∷ v ∷ u ∷ ws) = tt

flaky_slow : (xs ys : List ℕ) (b : Bool) → IsSlowProgram (if b then plain (Write Stderr xs ∷ Exit 1 ∷ []) else plain (print ys ∷ Exit 0 ∷ []))
flaky_slow xs ys true = record { slow = (tt, (tt, tt)); few = omega arith }
flaky_slow xs ys false = record { slow = (tt, (tt, tt)); few = omega arith }

noise_slow : (n : ℕ) → n ≤ 16777216 → IsSlowProgram (noise_program n)
noise_slow n few = record {
  slow = append_slow _ (blocks ++ rest) (Exit 0 ∷ []) (append_slow _ blocks rest (blocks_slow _ (n / 32768) (letters 32768)) (rest_slow _ (n % 32768 == 0))) (tt, tt);
  few = omega (arith, length-append (blocks ++ rest) (Exit 0 ∷ []), length-append blocks rest, length-replicate (n / 32768) (print (letters 32768)), rest_length (n % 32768 == 0), few);
}
  where
    blocks : List Op
    blocks = replicate (n / 32768) (print (letters 32768))

    rest : List Op
    rest = rest_block (n % 32768)

    rest_slow : (copies b : Bool) → AreSlow copies (if b then [] else print (letters (n % 32768)) ∷ [])
    rest_slow copies true = tt
    rest_slow copies false = (tt, tt)

    rest_length : (b : Bool) → length (if b then [] else print (letters (n % 32768)) ∷ []) ≤ 1
    rest_length true = omega arith
    rest_length false = omega arith

name_slow : (name : Name) (ws : List (List ℕ)) (starts : ℕ) → IsSlowIfAny (by_name name ws starts)
name_slow Hello ws starts = alone_slow ws _ (record { slow = (tt, (tt, tt)); few = omega arith })
name_slow Echo ws starts = record { slow = (tt, (tt, tt)); few = omega arith }
name_slow Cat ws starts = alone_slow ws _ (record { slow = (tt, (tt, tt)); few = omega arith })
name_slow Sleep ws starts = counted_slow 10 604800000 ws sleep_program (λ n h. record { slow = (tt, (tt, tt)); few = omega arith })
name_slow Tick ws starts = ticking_slow ws
name_slow ExitName ws starts = counted_slow 0 255 ws exit_program (λ n h. record { slow = (tt, tt); few = omega arith })
name_slow Trap ws starts = alone_slow ws _ (record { slow = (tt, tt); few = omega arith })
name_slow Deaf ws starts = alone_slow ws _ (record { slow = (tt, tt); few = omega arith })
name_slow Flaky ws starts = counted_slow 0 1000 ws (λ n. flaky_program n starts) (λ n h. flaky_slow _ _ (nat_le starts n))
name_slow Noise ws starts = counted_slow 1 16777216 ws noise_program noise_slow
name_slow Stuck ws starts = counted_slow 10 604800000 ws stuck_program (λ n h. record { slow = (tt, (tt, tt)); few = omega arith })

named_slow : (name : Option Name) (ws : List (List ℕ)) (starts : ℕ) → IsSlowIfAny (named name ws starts)
named_slow None ws starts = tt
named_slow (Some name) ws starts = name_slow name ws starts

pub program_slow : (words : List (List ℕ)) (starts : ℕ) → IsSlowIfAny (program_of words starts)
program_slow [] starts = tt
program_slow (w ∷ ws) starts = named_slow (name_of w) ws starts
