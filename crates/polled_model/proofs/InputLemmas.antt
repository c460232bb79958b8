-- What is told of a stream and fed to an input between two histories, between longer ones.
use Rattle.std.proofs.Common.{◌≡◌, ℕ, List, [], ◌∷◌, ◌++◌, Option, None, Some, Bool, true, false, refl, sym, ◌∙◌, ap, subst, append_assoc, append-nil}
use Rattle.std.specs.List.{concat}
use Rattle.engine_text.specs.declared.call.Call.TheVariants.{Feed, FeedEnd}
use Rattle.engine_text.specs.declared.owner.Owner.{Owner}
use Rattle.engine_text.specs.declared.reply.LogSpec.{LogSpec}
use Rattle.engine_text.specs.declared.reply.Reply.TheVariants.{LogStream, Fed}
use Rattle.engine_text.specs.declared.step.Step.{Step}
use Rattle.machine_model.specs.History.{Charter, Extends, input_of}
use Rattle.session_model.specs.declared.followed.PumpEnd.{PumpEnd}
use Rattle.session_model.specs.declared.followed.PumpEnd.TheVariants as P
use Rattle.session_model.specs.Exchange.{AtSome, AtLast, Feeds, IsBody, IsMade, IsQuiet, Pumps, PumpsOut}
use Rattle.session_model.proofs.HistoryLemmas.{extends_on, extends_same, made_before, made_behind, made_extends, quiet_on, quiet_extends}
use Rattle.polled_model.specs.Takeovers.{Input, NoInput, Open, Over, end_of, InputSays}

pub concat_on : (xs : List (List ℕ)) (x : List ℕ) → concat (xs ++ x ∷ []) ≡ concat xs ++ x
concat_on [] x = append-nil x
concat_on (y ∷ xs) x = ap (λ l. y ++ l) (concat_on xs x) ∙ sym (append_assoc y (concat xs) x)

-- ---- what was so between two histories is so between longer ones

pub some_on : (a b c : List Step) (P : List Step → Type 0) → Extends b c → AtSome a b P → AtSome a c P
some_on a b c P behind (at, from, to, holds) = (at, from, extends_on at b c to behind, holds)

pub body_on : (ch : Charter) (spec : LogSpec) (whole : Bool) (a b c : List Step) (body : List ℕ) → Extends b c
    → IsBody ch (LogStream spec) whole a b body → IsBody ch (LogStream spec) whole a c body
body_on ch spec whole a b c body behind says = some_on a b c _ behind says

module _ (ch : Charter) (k : ℕ) where
  pub out_before : (owner : Owner) (n : ℕ) (left : List ℕ) (end : PumpEnd) (a b c : List Step) → IsQuiet k b c
      → PumpsOut ch k owner n left end a b → PumpsOut ch k owner n left end a c
  out_before owner n left P.Ended a b c quiet (none, (taken, made)) = (none, (taken, made_before ch k (input_of k) (FeedEnd owner n) a b c (Fed taken) made quiet))
  out_before owner n left P.Gone a b c quiet (piece, front, made) = (piece, front, made_before ch k (input_of k) (Feed owner n piece) a b c (Fed false) made quiet)
  out_before owner n left P.JournalFull a b c quiet (q, at) = (quiet_on k a b c q quiet, some_on a b c _ (quiet_extends k b c quiet) at)
  out_before owner n left P.Stopped a b c quiet (q, (x, asked, held)) =
      (quiet_on k a b c q quiet, (x, asked, (held.0, some_on a b c _ (quiet_extends k b c quiet) held.1)))
  out_before owner n left P.ReadFault a b c quiet (none, q) = (none, quiet_on k a b c q quiet)
  out_before owner n left P.NoMemory a b c quiet q = quiet_on k a b c q quiet

  pub out_behind : (owner : Owner) (n : ℕ) (left : List ℕ) (end : PumpEnd) (a b c : List Step) → IsQuiet k a b
      → PumpsOut ch k owner n left end b c → PumpsOut ch k owner n left end a c
  out_behind owner n left P.Ended a b c quiet (none, (taken, made)) = (none, (taken, made_behind ch k (input_of k) (FeedEnd owner n) a b c (Fed taken) quiet made))
  out_behind owner n left P.Gone a b c quiet (piece, front, made) = (piece, front, made_behind ch k (input_of k) (Feed owner n piece) a b c (Fed false) quiet made)
  out_behind owner n left P.JournalFull a b c quiet (q, (at, from, to, none)) = (quiet_on k a b c quiet q, (at, extends_on a b at (quiet_extends k a b quiet) from, to, none))
  out_behind owner n left P.Stopped a b c quiet (q, (x, asked, (sound, (at, from, to, refused)))) =
      (quiet_on k a b c quiet q, (x, asked, (sound, (at, extends_on a b at (quiet_extends k a b quiet) from, to, refused))))
  out_behind owner n left P.ReadFault a b c quiet (none, q) = (none, quiet_on k a b c quiet q)
  out_behind owner n left P.NoMemory a b c quiet q = quiet_on k a b c quiet q

  pub out_extends : (owner : Owner) (n : ℕ) (left : List ℕ) (end : PumpEnd) (a b : List Step) → PumpsOut ch k owner n left end a b → Extends a b
  out_extends owner n left P.Ended a b (none, (taken, made)) = made_extends ch k (input_of k) (FeedEnd owner n) a b (Fed taken) made
  out_extends owner n left P.Gone a b (piece, front, made) = made_extends ch k (input_of k) (Feed owner n piece) a b (Fed false) made
  out_extends owner n left P.JournalFull a b (q, at) = quiet_extends k a b q
  out_extends owner n left P.Stopped a b (q, held) = quiet_extends k a b q
  out_extends owner n left P.ReadFault a b (none, q) = quiet_extends k a b q
  out_extends owner n left P.NoMemory a b q = quiet_extends k a b q

  -- one piece more is fed
  pub feeds_on : (owner : Owner) (n : ℕ) (pieces : List (List ℕ)) (piece : List ℕ) (a b c : List Step) → Feeds ch k owner n pieces a b
      → IsMade ch k (input_of k) (Feed owner n piece) b c (Fed true) → Feeds ch k owner n (pieces ++ piece ∷ []) a c
  feeds_on owner n [] piece a b c same made = (c, subst (λ x. IsMade ch k (input_of k) (Feed owner n piece) x c (Fed true)) (sym same) made, refl)
  feeds_on owner n (p ∷ ps) piece a b c (mid, first, later) made = (mid, first, feeds_on owner n ps piece mid b c later made)

  -- ---- inputs beside steps of others

  pub input_on : (spec : LogSpec) (input : Input) (behind : List ℕ) (a b c : List Step) → IsQuiet k b c → InputSays ch k spec input behind a b → InputSays ch k spec input behind a c
  input_on spec NoInput behind a b c quiet (none, q) = (none, quiet_on k a b c q quiet)
  input_on spec (Open left) behind a b c quiet (n, feed, (pieces, fed, is, feeds, q)) = (n, feed, (pieces, fed, is, feeds, quiet_on k fed b c q quiet))
  input_on spec (Over end) behind a b c quiet (n, feed, (pieces, left, mid, is, feeds, out)) =
      (n, feed, (pieces, left, mid, is, feeds, out_before spec.owner n left end mid b c quiet out))

  -- what a pump is that ends now
  pub input_ends : (spec : LogSpec) (input : Input) (behind : List ℕ) (a b : List Step) → InputSays ch k spec input behind a b → Pumps ch k spec behind (end_of input) a b
  input_ends spec NoInput behind a b says = says
  input_ends spec (Open left) behind a b (n, feed, (pieces, fed, is, feeds, q)) = (n, feed, (pieces, left, fed, is, feeds, q))
  input_ends spec (Over end) behind a b says = says

  pub last_at : (end : Option PumpEnd) (a b : List Step) (P : List Step → Type 0) → Extends a b → P b → AtLast end a b P
  last_at None a b P from holds = holds
  last_at (Some end) a b P from holds = (b, from, extends_same b, holds)
