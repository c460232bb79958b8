-- A connection's second pass, for its standard input (own: takeovers of this project).
use Rattle.std.specs.Prelude.{ℕ, ◌≡◌, [], IsFalse}
use Rattle.engine_ports.specs.Rose.{Rose}
use Rattle.machine_model.specs.History.{IsLegal, Extends, calls_of, input_of}
use Rattle.session_model.specs.Pass.{PassView, Every, Only, IsConnection, KeepsInput}

-- it stands for the same number, of the same daemon
pub record SamePass (p q : PassView) : Type 0 where
  pub number : q.number ≡ p.number
  pub charter : q.charter ≡ p.charter
  pub alone : q.alone ≡ p.alone
  pub home : q.home ≡ p.home

-- who takes all turns is parted from nobody
pub record IsUndivided (p q : PassView) : Type 0 where
  pub same : q ≡ p
  pub every : p.number ≡ Every

-- after a look the number of connection k's input was given to another pass: that has seen as much,
-- and nobody has made a call of that number yet
pub record Parted (k : ℕ) (p q o : PassView) : Type 0 where
  pub connection : IsConnection k
  pub number : p.number ≡ Only k
  pub own : o.number ≡ Only (input_of k)
  pub home : o.home ≡ q.home
  pub charter : o.charter ≡ p.charter
  pub none_joined : o.joined_calls ≡ []
  pub behind : Extends p.seen q.seen
  pub seen : o.seen ≡ q.seen
  pub quiet : calls_of k q.seen ≡ calls_of k p.seen
  pub before : calls_of (input_of k) p.seen ≡ []
  pub fresh : calls_of (input_of k) o.seen ≡ []
  pub given : IsFalse q.pair
  pub looked : Rose p.looks q.looks
  pub same : SamePass p q

-- it is the pass of the connection's input, to the same daemon
pub record IsOther (k : ℕ) (p o : PassView) : Type 0 where
  pub connection : IsConnection k
  pub number : p.number ≡ Only k
  pub own : o.number ≡ Only (input_of k)
  pub home : o.home ≡ p.home
  pub none_joined : o.joined_calls ≡ []

-- it was taken in: all that both had seen is seen, each had seen all calls of its number in it, and
-- those of the input are kept
pub record Rejoined (k : ℕ) (p o q : PassView) : Type 0 where
  pub mine : Extends p.seen q.seen
  pub theirs : Extends o.seen q.seen
  pub own_calls : calls_of k q.seen ≡ calls_of k p.seen
  pub input_calls : calls_of (input_of k) q.seen ≡ calls_of (input_of k) o.seen
  pub keeps : KeepsInput k q
  pub legal : IsLegal q.charter q.seen
  pub looks : q.looks ≡ p.looks
  pub same : SamePass p q
