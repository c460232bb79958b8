-- What the rank of a due action tells of its number.
use Rattle.std.proofs.Common.{◌≡◌, ◌≢◌, ℕ, ◌==◌, Bool, true, false, refl, ap, sym, ◌∙◌, if◌then◌else◌}
use Rattle.std.proofs.lemmas.Bool.{eqb-true, false≢true}
use Rattle.container_table.specs.Ranks.{rank_numbered}
use Rattle.container_table.specs.declared.rank.Rank.{Rank}

abbrev ranked : Bool → Bool → Bool → Rank
ranked a b c = if a then Rank.Op else (if b then Rank.StopDeadline else (if c then Rank.RemovalDeadline else Rank.RestartTimer))

op : (a b c : Bool) → ranked a b c ≡ Rank.Op → a ≡ true
op true b c e = refl
op false true c e = absurd (cc)
op false false true e = absurd (cc)
op false false false e = absurd (cc)

stop : (a b c : Bool) → ranked a b c ≡ Rank.StopDeadline → b ≡ true
stop true b c e = absurd (cc)
stop false true c e = refl
stop false false true e = absurd (cc)
stop false false false e = absurd (cc)

removal : (a b c : Bool) → ranked a b c ≡ Rank.RemovalDeadline → c ≡ true
removal true b c e = absurd (cc)
removal false true c e = absurd (cc)
removal false false true e = refl
removal false false false e = absurd (cc)

restart : (a b c : Bool) → ranked a b c ≡ Rank.RestartTimer → (a ≡ false) × (b ≡ false) × (c ≡ false)
restart true b c e = absurd (cc)
restart false true c e = absurd (cc)
restart false false true e = absurd (cc)
restart false false false e = (refl, refl, refl)

pub op_rank : (n : ℕ) → rank_numbered n ≡ Rank.Op → n ≡ 0
op_rank n e = eqb-true n 0 (op (n == 0) (n == 1) (n == 2) e)

pub stop_rank : (n : ℕ) → rank_numbered n ≡ Rank.StopDeadline → n ≡ 1
stop_rank n e = eqb-true n 1 (stop (n == 0) (n == 1) (n == 2) e)

pub removal_rank : (n : ℕ) → rank_numbered n ≡ Rank.RemovalDeadline → n ≡ 2
removal_rank n e = eqb-true n 2 (removal (n == 0) (n == 1) (n == 2) e)

apart : (n m : ℕ) → (m == m) ≡ true → (n == m) ≡ false → n ≢ m
apart n m own other same = false≢true (sym other ∙ (ap (λ k. k == m) same ∙ own))

pub restart_rank : (n : ℕ) → rank_numbered n ≡ Rank.RestartTimer → (n ≢ 0) × (n ≢ 1) × (n ≢ 2)
restart_rank n e =
    let others = restart (n == 0) (n == 1) (n == 2) e in
    (apart n 0 refl others.0, apart n 1 refl others.1, apart n 2 refl others.2)
