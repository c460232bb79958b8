-- Every program of the catalogue exits with a code of one byte.
use Rattle.std.proofs.Common.{◌≡◌, ℕ, ◌<◌, ◌==◌, ◌&&◌, ◌/◌, ◌%◌, nat_le, zero, suc, Bool, true, false, List, [], ◌∷◌, ◌++◌, Option, Some, None, if◌then◌else◌, replicate, codes, refl, arith}
use Rattle.std.proofs.lemmas.Bool.Decides.{nat_tests}
use Rattle.std.specs.List.{repeat}
use Rattle.engine_text.specs.Scripts.{Program}
use Rattle.proc_kernel.specs.Catalogue.{number_of, within, number_in, only_number, of_number, of_numbers, ticking, alone, plain, print, letters, tick_ops, flaky_program, rest_block, noise_program, sleep_program, exit_program, stuck_program, name_of, by_name, named, program_of}
use Rattle.machine_model.specs.Ranges.{HaveCodes}
use Rattle.engine_text.specs.declared.script.Op.{Op}
use Rattle.engine_text.specs.declared.script.Op.TheVariants.{Write, Again, Exit}
use Rattle.engine_text.specs.declared.script.Stream.TheVariants.{Stderr}
use Rattle.proc_kernel.specs.declared.catalogue.Name.{Name}
use Rattle.proc_kernel.specs.declared.catalogue.Name.TheVariants as names

-- the ops of the program, if there is one
abbrev pub OfProgram : Option Program → Type 0
OfProgram None = Unit {0}
OfProgram (Some p) = HaveCodes p.ops

-- ---- lists of ops

append_coded : (xs ys : List Op) → HaveCodes xs → HaveCodes ys → HaveCodes (xs ++ ys)
append_coded [] ys h k = k
append_coded (x ∷ xs) ys h k = (h.0, append_coded xs ys h.1 k)

repeat_coded : (n : ℕ) (xs : List Op) → HaveCodes xs → HaveCodes (repeat n xs)
repeat_coded zero xs h = tt
repeat_coded (suc n) xs h = append_coded xs (repeat n xs) h (repeat_coded n xs h)

blocks_coded : (n : ℕ) (bytes : List ℕ) → HaveCodes (replicate n (print bytes))
blocks_coded zero bytes = tt
blocks_coded (suc n) bytes = (tt, blocks_coded n bytes)

rest_by : (b : Bool) (bytes : List ℕ) → HaveCodes (if b then [] else print bytes ∷ [])
rest_by true bytes = tt
rest_by false bytes = (tt, tt)

ends_well : HaveCodes (Exit 0 ∷ [])
ends_well = (omega arith, tt)

noise_coded : (n : ℕ) → HaveCodes (noise_program n).ops
noise_coded n = append_coded _ (Exit 0 ∷ []) (append_coded _ (rest_block (n % 32768)) (blocks_coded (n / 32768) (letters 32768)) (rest_by (n % 32768 == 0) (letters (n % 32768)))) ends_well

tick_by : (b : Bool) (n time : ℕ) → HaveCodes (if b then plain (print (codes "tick\n") ∷ Again time ∷ []) else plain (repeat n (tick_ops time) ++ Exit 0 ∷ [])).ops
tick_by true n time = (tt, (tt, tt))
tick_by false n time = append_coded (repeat n (tick_ops time)) (Exit 0 ∷ []) (repeat_coded n (tick_ops time) (tt, (tt, tt))) ends_well

flaky_by : (b : Bool) (xs ys : List ℕ) → HaveCodes (if b then plain (Write Stderr xs ∷ Exit 1 ∷ []) else plain (print ys ∷ Exit 0 ∷ [])).ops
flaky_by true xs ys = (tt, (omega arith, tt))
flaky_by false xs ys = (tt, ends_well)

-- ---- the number that exit takes

within_by : (a b : Bool) (n : ℕ) → (b ≡ true → n < 256) → OfProgram (of_number (if a && b then Some n else None) exit_program)
within_by true true n h = (h refl, tt)
within_by true false n h = tt
within_by false b n h = tt

exit_within : (r : Option ℕ) → OfProgram (of_number (within 0 255 r) exit_program)
exit_within None = tt
exit_within (Some n) = within_by (nat_le 0 n) (nat_le n 255) n (λ e. grind (arith, nat_tests, e))

exit_coded : (ws : List (List ℕ)) → OfProgram (of_number (only_number 0 255 ws) exit_program)
exit_coded [] = tt
exit_coded (w ∷ []) = exit_within (number_of w)
exit_coded (w ∷ v ∷ ws) = tt

-- ---- programs

number_coded : (r : Option ℕ) (p : ℕ → Program) → ((n : ℕ) → HaveCodes (p n).ops) → OfProgram (of_number r p)
number_coded None p h = tt
number_coded (Some n) p h = h n

ticks_coded : (r s : Option ℕ) → OfProgram (of_numbers r s)
ticks_coded None s = tt
ticks_coded (Some n) None = tt
ticks_coded (Some n) (Some time) = tick_by (n == 0) n time

ticking_coded : (ws : List (List ℕ)) → OfProgram (ticking ws)
ticking_coded [] = tt
ticking_coded (w ∷ []) = tt
ticking_coded (w ∷ v ∷ []) = ticks_coded (number_in 0 1000 w) (number_in 10 604800000 v)
ticking_coded (w ∷ v ∷ u ∷ ws) = tt

alone_coded : (ws : List (List ℕ)) (p : Program) → HaveCodes p.ops → OfProgram (alone ws p)
alone_coded [] p h = h
alone_coded (w ∷ ws) p h = tt

name_coded : (name : Name) (ws : List (List ℕ)) (starts : ℕ) → OfProgram (by_name name ws starts)
name_coded names.Hello ws starts = alone_coded ws _ (tt, ends_well)
name_coded names.Echo ws starts = (tt, ends_well)
name_coded names.Cat ws starts = alone_coded ws _ (tt, ends_well)
name_coded names.Sleep ws starts = number_coded (only_number 10 604800000 ws) sleep_program (λ n. (tt, ends_well))
name_coded names.Tick ws starts = ticking_coded ws
name_coded names.Exit ws starts = exit_coded ws
name_coded names.Trap ws starts = alone_coded ws _ (tt, tt)
name_coded names.Deaf ws starts = alone_coded ws _ (tt, tt)
name_coded names.Flaky ws starts = number_coded (only_number 0 1000 ws) (λ n. flaky_program n starts) (λ n. flaky_by (nat_le starts n) _ _)
name_coded names.Noise ws starts = number_coded (only_number 1 16777216 ws) noise_program noise_coded
name_coded names.Stuck ws starts = number_coded (only_number 10 604800000 ws) stuck_program (λ n. (tt, ends_well))

named_coded : (name : Option Name) (ws : List (List ℕ)) (starts : ℕ) → OfProgram (named name ws starts)
named_coded None ws starts = tt
named_coded (Some name) ws starts = name_coded name ws starts

pub program_coded : (words : List (List ℕ)) (starts : ℕ) → OfProgram (program_of words starts)
program_coded [] starts = tt
program_coded (w ∷ ws) starts = named_coded (name_of w) ws starts
