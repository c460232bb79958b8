-- A session goes on within a poll: by a turn, a drop, a read, a write, or none of them, and by one behind the other.
use Rattle.std.proofs.Common.{arith, ◌≡◌, ◌≤◌, ◌+◌, ◌-◌, inl, inr, ℕ, List, [], ◌∷◌, ◌++◌, length, length-append, refl, sym, ◌∙◌, ap, subst, append_assoc, append-nil}
use Rattle.std.specs.Prelude.{◌<◌, ◌⊎◌, All, IsFalse, leb, true, false}
use Rattle.std.proofs.lemmas.Bool.Decides.{leb_tells}
use Rattle.std.proofs.lemmas.List.Elements.{All-append, All-cons, All-nil, filter-append}
use Rattle.engine_ports.specs.Clock.{untold_clock}
use Rattle.engine_ports.specs.Rose.{Rose, raised}
use Rattle.engine_ports.specs.Sink.{SinkTook}
use Rattle.engine_ports.specs.Source.{SourceGave}
use Rattle.engine_ports.proofs.PortLemmas.{source_none, source_on, sink_none, sink_on}
use Rattle.engine_text.specs.declared.call.Call.{Call}
use Rattle.engine_text.specs.declared.reply.Reply.{Reply}
use Rattle.engine_text.specs.declared.reply.Reply.TheVariants as reply
use Rattle.engine_text.specs.declared.step.Step.{Step}
use Rattle.machine_model.specs.Statuses.{is_feed}
use Rattle.machine_model.specs.History.{bears, calls_of}
use Rattle.session_model.specs.declared.turned.Part.{Part}
use Rattle.session_model.specs.declared.turned.Turned.{Turned}
use Rattle.session_model.specs.Moments.{StaysWithin}
use Rattle.session_model.specs.Pass.{PassView}
use Rattle.session_model.specs.Session.{Span}
use Rattle.session_model.proofs.AddsLemmas.{adds_none, owns, owns_on}
use Rattle.session_model.proofs.TurnLemmas.{stays_on, stays_same}
use Rattle.exchange_laws.specs.Turns.{TurnComes}
use Rattle.polled_steps.specs.Telling.{AsksPart, moments_of}
use Rattle.polled_steps.specs.Turning.{DropsSo}
use Rattle.polled_model.specs.Polls.{AllStandAt, Ports, RoseBy, StandsAtPorts, gone_on, outside_of}
use Rattle.polled_model.specs.Steps.{come_to}
use Rattle.session_poll.specs.Going.{Goes, Spends}
use Rattle.session_poll.specs.declared.budget.Budget.{Budget}
use Rattle.session_poll.proofs.StepLemmas.{drop_added, fed_on, quiet_added, stand_on, stand_since, turn_added}

-- ---- a span, by one name and by another

-- what is read and written no more
pub same_read : (s : Span) (written moments : List ℕ) (to : List Step) (v : Ports)
    → gone_on s [] written moments to v ≡ record (gone_on s [] written moments to v) { read = s.read }
same_read s written moments to v = ap (λ l. record (gone_on s [] written moments to v) { read = l }) (append-nil s.read)

pub same_written : (s : Span) (read moments : List ℕ) (to : List Step) (v : Ports)
    → gone_on s read [] moments to v ≡ record (gone_on s read [] moments to v) { written = s.written }
same_written s read moments to v = ap (λ l. record (gone_on s read [] moments to v) { written = l }) (append-nil s.written)

-- a turn was taken
pub as_turn : (s : Span) (moments : List ℕ) (to : List Step) (v : Ports) → StandsAtPorts s v → gone_on s [] [] moments to v ≡ come_to s to moments
as_turn s moments to v ports =
    same_read s [] moments to v
    ∙ ap (λ l. record s { written = l; handed = s.handed ++ moments; to = to; new = outside_of v s.new.clock.stops }) (append-nil s.written)
    ∙ ap (λ n. record s { handed = s.handed ++ moments; to = to; new = n }) (sym ports)

-- at no moment
pub as_drop : (s : Span) (to : List Step) (v : Ports) → StandsAtPorts s v → gone_on s [] [] [] to v ≡ record s { to = to }
as_drop s to v ports = as_turn s [] to v ports ∙ ap (λ l. record s { to = to; handed = l }) (append-nil s.handed)

-- bytes were read, or written, or neither, and the ports are others
pub as_read : (s : Span) (read : List ℕ) (to : List Step) (v : Ports) → s.to ≡ to
    → gone_on s read [] [] to v ≡ record s { read = s.read ++ read; new = outside_of v s.new.clock.stops }
as_read s read to v is =
    same_written s read [] to v
    ∙ ap (λ l. record s { read = s.read ++ read; handed = l; to = to; new = outside_of v s.new.clock.stops }) (append-nil s.handed)
    ∙ ap (λ h. record s { read = s.read ++ read; to = h; new = outside_of v s.new.clock.stops }) (sym is)

pub as_written : (s : Span) (written : List ℕ) (to : List Step) (v : Ports) → s.to ≡ to
    → gone_on s [] written [] to v ≡ record s { written = s.written ++ written; new = outside_of v s.new.clock.stops }
as_written s written to v is =
    same_read s written [] to v
    ∙ ap (λ l. record s { written = s.written ++ written; handed = l; to = to; new = outside_of v s.new.clock.stops }) (append-nil s.handed)
    ∙ ap (λ h. record s { written = s.written ++ written; to = h; new = outside_of v s.new.clock.stops }) (sym is)

pub as_still : (s : Span) (to : List Step) (v : Ports) → s.to ≡ to
    → gone_on s [] [] [] to v ≡ record s { new = outside_of v s.new.clock.stops }
as_still s to v is =
    as_read s [] to v is ∙ ap (λ l. record s { read = l; new = outside_of v s.new.clock.stops }) (append-nil s.read)

-- one behind the other
pub twice : (s : Span) (r w m r' w' m' : List ℕ) (to to' : List Step) (v v' : Ports)
    → gone_on (gone_on s r w m to v) r' w' m' to' v' ≡ gone_on s (r ++ r') (w ++ w') (m ++ m') to' v'
twice s r w m r' w' m' to to' v v' =
    ap (λ l. record (gone_on (gone_on s r w m to v) r' w' m' to' v') { read = l }) (append_assoc s.read r r')
    ∙ ap (λ l. record (gone_on (gone_on s r w m to v) r' w' m' to' v') { read = s.read ++ (r ++ r'); written = l }) (append_assoc s.written w w')
    ∙ ap (λ l. record (gone_on s (r ++ r') (w ++ w') (m ++ m') to' v') { handed = l }) (append_assoc s.handed m m')

module _ (k handed : ℕ) where
  abbrev IsHanded : ℕ → Type 0
  IsHanded m = m ≡ handed

  -- ---- a step

  -- of a part of a stream
  pub handed_by : (given : Reply) → All IsHanded (moments_of given handed)
  handed_by (reply.JournalStream count) = All-nil IsHanded
  handed_by given = All-cons IsHanded handed [] refl (All-nil IsHanded)

  pub within_by : (given : Reply) (p q : PassView) → StaysWithin p.charter p.seen q.seen (moments_of given handed) → StaysWithin p.charter p.seen q.seen (handed ∷ [])
  within_by (reply.JournalStream count) p q none = omega (arith, none)
  within_by given p q some = some

  -- a turn came to that
  unfoldable pub goes_turn : (c : Call) (result : Turned) (before after : Span → Type 0) (p q : PassView) (v : Ports) → IsFalse (is_feed c)
      → TurnComes k handed c result p q untold_clock untold_clock
      → ((s : Span) → s.to ≡ p.seen → StandsAtPorts s v → before s → after (come_to s q.seen (handed ∷ []))) → Goes k handed before after p q v v
  goes_turn c result before after p q v kind f comes =
      let added = turn_added p.charter k handed c result p.seen q.seen kind f.came in
      record {
        read = [];
        written = [];
        moments = handed ∷ [];
        own = added.own;
        source = source_none v.source.source;
        sink = sink_none v.sink.sink;
        seen = added.seen;
        stays = f.moves.stays;
        adds = λ every. owns k p q f.moves.adds;
        at_moment = All-cons IsHanded handed [] refl (All-nil IsHanded);
        stand = added.stand;
        fed = added.fed;
        within = λ alone. subst (StaysWithin p.charter p.seen q.seen) f.one (f.moves.within alone);
        comes = λ s is ports so. subst after (sym (as_turn s (handed ∷ []) q.seen v ports)) (comes s is ports so);
      }

  -- a ticket was dropped
  unfoldable pub goes_drop : (n : ℕ) (before after : Span → Type 0) (p q : PassView) (v : Ports) → DropsSo k n p q
      → ((s : Span) → s.to ≡ p.seen → StandsAtPorts s v → before s → after (record s { to = q.seen })) → Goes k handed before after p q v v
  goes_drop n before after p q v d comes =
      let added = drop_added p.charter k handed n p.seen q.seen d.made.0 d.made.1 in
      record {
        read = [];
        written = [];
        moments = [];
        own = added.own;
        source = source_none v.source.source;
        sink = sink_none v.sink.sink;
        seen = added.seen;
        stays = d.moves.stays;
        adds = λ every. owns k p q d.moves.adds;
        at_moment = All-nil IsHanded;
        stand = added.stand;
        fed = added.fed;
        within = λ alone. let none = subst (StaysWithin p.charter p.seen q.seen) d.none (d.moves.within alone) in omega (arith, none);
        comes = λ s is ports so. subst after (sym (as_drop s q.seen v ports)) (comes s is ports so);
      }

  -- a part of a stream was asked for
  unfoldable pub goes_part : (given : Reply) (place : ℕ) (part : Part) (old new : List ℕ) (before after : Span → Type 0) (p q : PassView) (v : Ports)
      → AsksPart k handed given place part old new p q
      → ((s : Span) → s.to ≡ p.seen → StandsAtPorts s v → before s → after (come_to s q.seen (moments_of given handed))) → Goes k handed before after p q v v
  goes_part given place part old new before after p q v asks comes =
      let added = quiet_added p.charter k handed p.seen q.seen asks.quiet in
      record {
        read = [];
        written = [];
        moments = moments_of given handed;
        own = added.own;
        source = source_none v.source.source;
        sink = sink_none v.sink.sink;
        seen = added.seen;
        stays = asks.moves.stays;
        adds = λ every. owns k p q asks.moves.adds;
        at_moment = handed_by given;
        stand = added.stand;
        fed = added.fed;
        within = λ alone. within_by given p q (subst (StaysWithin p.charter p.seen q.seen) asks.moments (asks.moves.within alone));
        comes = λ s is ports so. subst after (sym (as_turn s (moments_of given handed) q.seen v ports)) (comes s is ports so);
      }

  -- bytes were read, some or none
  unfoldable pub goes_read : (read : List ℕ) (before after : Span → Type 0) (p : PassView) (v v' : Ports) → SourceGave v.source.source read v'.source.source
      → v'.sink.sink ≡ v.sink.sink
      → ((s : Span) → s.to ≡ p.seen → StandsAtPorts s v → before s → after (record s { read = s.read ++ read; new = outside_of v' s.new.clock.stops }))
      → Goes k handed before after p p v v'
  goes_read read before after p v v' source same comes = record {
    read = read;
    written = [];
    moments = [];
    own = [];
    source = source;
    sink = subst (SinkTook v.sink.sink []) (sym same) (sink_none v.sink.sink);
    seen = sym (append-nil p.seen);
    stays = stays_same p;
    adds = λ every. owns k p p (adds_none k p);
    at_moment = All-nil IsHanded;
    stand = tt;
    fed = refl;
    within = λ alone. omega arith;
    comes = λ s is ports so. subst after (sym (as_read s read p.seen v' is)) (comes s is ports so);
  }

  -- bytes were written, some or none
  unfoldable pub goes_written : (written : List ℕ) (before after : Span → Type 0) (p : PassView) (v v' : Ports) → SinkTook v.sink.sink written v'.sink.sink
      → v'.source.source ≡ v.source.source
      → ((s : Span) → s.to ≡ p.seen → StandsAtPorts s v → before s → after (record s { written = s.written ++ written; new = outside_of v' s.new.clock.stops }))
      → Goes k handed before after p p v v'
  goes_written written before after p v v' sink same comes = record {
    read = [];
    written = written;
    moments = [];
    own = [];
    source = subst (SourceGave v.source.source []) (sym same) (source_none v.source.source);
    sink = sink;
    seen = sym (append-nil p.seen);
    stays = stays_same p;
    adds = λ every. owns k p p (adds_none k p);
    at_moment = All-nil IsHanded;
    stand = tt;
    fed = refl;
    within = λ alone. omega arith;
    comes = λ s is ports so. subst after (sym (as_written s written p.seen v' is)) (comes s is ports so);
  }

  -- neither, and no port was asked
  unfoldable pub goes_none : (before after : Span → Type 0) (p : PassView) (v : Ports) → ((s : Span) → s.to ≡ p.seen → StandsAtPorts s v → before s → after s)
      → Goes k handed before after p p v v
  goes_none before after p v comes =
      goes_read [] before after p v v (source_none v.source.source) refl
      (λ s is ports so. subst after (ap (λ l. record s { read = l }) (sym (append-nil s.read)) ∙ ap (λ n. record s { read = s.read ++ []; new = n }) ports) (comes s is ports so))

  -- ---- one behind the other

  unfoldable pub goes_on : (before mid after : Span → Type 0) (p q r : PassView) (u v w : Ports) → Goes k handed before mid p q u v → Goes k handed mid after q r v w
      → Goes k handed before after p r u w
  goes_on before mid after p q r u v w f g = record {
    read = f.read ++ g.read;
    written = f.written ++ g.written;
    moments = f.moments ++ g.moments;
    own = f.own ++ g.own;
    source = source_on u.source.source v.source.source w.source.source f.read g.read f.source g.source;
    sink = sink_on u.sink.sink v.sink.sink w.sink.sink f.written g.written f.sink g.sink;
    seen = g.seen ∙ ap (λ x. x ++ g.own) f.seen ∙ append_assoc p.seen f.own g.own;
    stays = stays_on p q r f.stays g.stays;
    adds = λ every. owns_on k p q r (f.adds every) (g.adds (f.stays.number ∙ every));
    at_moment = All-append IsHanded f.moments g.moments f.at_moment g.at_moment;
    stand = stand_on p.charter k handed p.seen p.seen f.own g.own f.stand
        (subst (λ h. AllStandAt p.charter k handed p.seen h g.own) f.seen
        (stand_since p.charter k handed p.seen q.seen q.seen g.own (f.own, f.seen)
        (subst (λ ch. AllStandAt ch k handed q.seen q.seen g.own) f.stays.charter g.stand)));
    fed = fed_on k f.own g.own f.fed g.fed;
    within = λ alone.
        let first = f.within alone in
        let later = subst (λ ch. StaysWithin ch q.seen r.seen (handed ∷ [])) f.stays.charter (g.within (f.stays.alone ∙ alone)) in
        omega (arith, first, later);
    comes = λ s is ports so.
        subst after (twice s f.read f.written f.moments g.read g.written g.moments q.seen r.seen v w)
        (g.comes (gone_on s f.read f.written f.moments q.seen v) refl refl (f.comes s is ports so));
  }

  -- what is known behind it, by another name
  unfoldable pub goes_as : (before after after' : Span → Type 0) (p q : PassView) (v v' : Ports) → ((s : Span) → after s → after' s)
      → Goes k handed before after p q v v' → Goes k handed before after' p q v v'
  goes_as before after after' p q v v' more f = record {
    read = f.read;
    written = f.written;
    moments = f.moments;
    own = f.own;
    source = f.source;
    sink = f.sink;
    seen = f.seen;
    stays = f.stays;
    adds = f.adds;
    at_moment = f.at_moment;
    stand = f.stand;
    fed = f.fed;
    within = f.within;
    comes = λ s is ports so. more (gone_on s f.read f.written f.moments q.seen v') (f.comes s is ports so);
  }

-- ---- what is spent

pub rose_on : (m n l x y z : ℕ) → l ≤ m + n → RoseBy m x y → RoseBy n y z → RoseBy l x z
rose_on m n l x y z fits (inl a) (inl b) = inl (omega (arith, fits, a, b))
rose_on m n l x y z fits (inr a) (inl b) = inr (omega (arith, a, b))
rose_on m n l x y z fits a (inr b) = inr b

-- a count that didn't fall, and then rose
pub rose_kept : (x y z : ℕ) → RoseBy 0 x y → Rose y z → Rose x z
rose_kept x y z (inl a) (inl b) = inl (omega (arith, a, b))
rose_kept x y z (inr a) (inl b) = inr (omega (arith, a, b))
rose_kept x y z a (inr b) = inr b

-- and one that rose didn't fall
pub kept_by : (x y : ℕ) → Rose x y → RoseBy 0 x y
kept_by x y (inl a) = inl (omega (arith, a))
kept_by x y (inr a) = inr a

-- one more move
pub once_more : (m x y : ℕ) → 1 ≤ m → y ≡ raised x → RoseBy (m - (m - 1)) x y
once_more m x y some is = more (leb_tells y x)
  where
    more : ((leb y x ≡ true) × (y ≤ x)) ⊎ ((leb y x ≡ false) × (x < y)) → RoseBy (m - (m - 1)) x y
    more (inl (told, le)) = inr (omega (arith, is, le))
    more (inr (told, lt)) = inl (omega (arith, some, lt))

pub spends_on : (k : ℕ) (xs ys : List Step) (u v w : Ports) (a b c : Budget) → Spends k xs u v a b → Spends k ys v w b c → Spends k (xs ++ ys) u w a c
spends_on k xs ys u v w a b c f g = record {
  turns =
      let calls = ap length (filter-append (bears k) xs ys) ∙ length-append (calls_of k xs) (calls_of k ys) in
      omega (arith, calls, f.turns, g.turns);
  reads = rose_on (a.reads - b.reads) (b.reads - c.reads) (a.reads - c.reads) u.source.gave v.source.gave w.source.gave (omega arith) f.reads g.reads;
  writes = rose_on (a.writes - b.writes) (b.writes - c.writes) (a.writes - c.writes) u.sink.took v.sink.took w.sink.took (omega arith) f.writes g.writes;
  source_waits = rose_on 0 0 0 u.source.registered v.source.registered w.source.registered (omega arith) f.source_waits g.source_waits;
  sink_waits = rose_on 0 0 0 u.sink.registered v.sink.registered w.sink.registered (omega arith) f.sink_waits g.sink_waits;
}
