-- What a pass knows, and how each step changes it (own: passes of one history).
use Rattle.std.specs.Prelude.{◌≡◌, ◌≢◌, ◌⊎◌, ℕ, ◌+◌, ◌-◌, ◌<◌, ◌≤◌, ◌==◌, List, [], ◌∷◌, ◌++◌, Bool, true, false, Option, Some, None, if◌then◌else◌}
use Rattle.turnstile.specs.Claims.{Claim, Fresh, bit, pair_claim, times, passed, longer}
use Rattle.turnstile.specs.Steps.{steps_by}
use Rattle.turnstile.specs.declared.view.View.{View}

module _ {S C : Type 0} where
  -- what a pass claims: its own calls, none of its input, and the calls of passes joined in
  abbrev pub claims : View S C → List (Claim S)
  claims v = (v.number, v.own_calls) ∷ (pair_claim v.pair v.number ++ v.joined_calls)

  -- how often a pass claims the number
  abbrev pub weight : ℕ → View S C → ℕ
  weight n v = if v.spent then 0 else times n (claims v)

  -- each other number is fresh, or the pass claims it
  abbrev pub ClaimsAll : View S C → Type 0
  ClaimsAll v = (n : ℕ) → n ≢ v.number → Fresh v.next n ⊎ (1 ≤ times n (claims v))

  -- 1 where the pass holds the turn
  abbrev pub turns : View S C → ℕ
  turns v = bit v.holds_turn

  -- the sum over all passes
  abbrev pub total : (View S C → ℕ) → List (View S C) → ℕ
  total f [] = 0
  total f (v ∷ vs) = f v + total f vs

  -- the first pass of a value with this history: it has the greatest number, and admits all others
  abbrev pub root : List S → C → View S C
  root h c = record {
    spent = false;
    holds_turn = false;
    number = 4294967295;
    pair = false;
    next = 0;
    seen = h;
    own_calls = [];
    joined_calls = [];
    ends = [];
    looks = 0;
    found_busy = 0;
    charter = Some c;
  }

  -- it took the turn, and has seen the history
  abbrev pub entered : View S C → List S → View S C
  entered v h = record v { holds_turn = true; seen = h; ends = [] }

  -- it has found the door held so many times
  abbrev pub waited : View S C → ℕ → View S C
  waited v found = record v { found_busy = found }

  -- it found the door held once more
  abbrev pub refused : View S C → View S C
  refused v = waited v (v.found_busy + 1)

  -- it made the history h, and looked once more
  abbrev pub raised : (S → Option ℕ) → View S C → List S → View S C
  raised author v h = record v {
    seen = h;
    own_calls = steps_by author v.number h;
    ends = [];
    looks = v.looks + 1;
  }

  -- it gave the turn up
  abbrev pub left : View S C → View S C
  left v = record v { holds_turn = false }

  -- a new pass of this number, which has seen as much and has made no call
  abbrev pub newcomer : View S C → ℕ → Bool → View S C
  newcomer v n pair = record {
    spent = false;
    holds_turn = false;
    number = n;
    pair = pair;
    next = 0;
    seen = v.seen;
    own_calls = [];
    joined_calls = [];
    ends = [];
    looks = 0;
    found_busy = 0;
    charter = v.charter;
  }

  -- the root admitted the number n: those that it passed over never get a call
  abbrev pub admitted : View S C → ℕ → View S C
  admitted v n = record v {
    next = n + 1;
    joined_calls = v.joined_calls ++ passed v.next (n - v.next);
  }

  -- the pass of its input was admitted
  abbrev pub parted : View S C → View S C
  parted v = record v { pair = false }

  -- what the one that admits the number n is left with
  abbrev pub admits : ℕ → View S C → View S C
  admits n v = if v.number == 4294967295 then admitted v n else parted v

  -- what it admits: a pair is on for those that the root admits
  abbrev pub admittee : ℕ → View S C → View S C
  admittee n v = newcomer v n (v.number == 4294967295)

  -- another was joined in: the longer history, and the calls of both
  abbrev pub joined_at : List S → View S C → View S C → View S C
  joined_at seen v w = record v {
    seen = seen;
    joined_calls = v.joined_calls ++ claims w;
    ends = v.seen ∷ w.seen ∷ [];
  }

  abbrev pub joined : View S C → View S C → View S C
  joined v w = joined_at (longer v.seen w.seen) v w

  -- what is left of a pass that was joined into another
  abbrev pub spent : View S C
  spent = record {
    spent = true;
    holds_turn = false;
    number = 0;
    pair = false;
    next = 0;
    seen = [];
    own_calls = [];
    joined_calls = [];
    ends = [];
    looks = 0;
    found_busy = 0;
    charter = None;
  }

  -- who may admit a number: the root one from its next on; another pass the one of its input
  abbrev pub MayAdmit : ℕ → View S C → Type 0
  MayAdmit n v = ((v.number ≡ 4294967295) × (v.next ≤ n) × (n < 2147483646))
      ⊎ ((v.pair ≡ true) × (n ≡ v.number + 2147483648))
