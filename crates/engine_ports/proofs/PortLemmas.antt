-- What the outside tells goes on: views compose.
use Rattle.std.proofs.Common.{◌≡◌, ◌≤◌, ◌∷◌, inl, inr, ℕ, List, [], ◌++◌, refl, sym, subst, ◌∙◌, ap, append_assoc, append-nil, Option, Some, None, Result, Ok, Err, arith}
use Rattle.engine_ports.specs.Rose.{Rose}
use Rattle.engine_ports.specs.Source.{Gave, SourceView, SourceGave}
use Rattle.engine_ports.specs.Sink.{Took, SinkView, SinkTook, WriteSays}
use Rattle.engine_ports.specs.Clock.{Handed, ClockView, ClockHanded, ClockStood}
use Rattle.engine_ports.specs.Memory.{Moments, IsMoment, told_by}
use Rattle.engine_ports.specs.declared.ports.Failed.{Failed}

pub gave_none : (l : Option (List ℕ)) → Gave l [] l
gave_none None = tt
gave_none (Some xs) = refl

pub gave_on : (l m n : Option (List ℕ)) (x y : List ℕ) → Gave l x m → Gave m y n → Gave l (x ++ y) n
gave_on (Some l) (Some m) (Some n) x y f g = f ∙ ap (λ v. x ++ v) g ∙ sym (append_assoc x y n)
gave_on None None None x y f g = tt
gave_on (Some l) None n x y f g = absurd f
gave_on None (Some m) n x y f g = absurd f
gave_on (Some l) (Some m) None x y f g = absurd g
gave_on None None (Some n) x y f g = absurd g

pub handed_none : (l : Option (List ℕ)) → Handed l [] l
handed_none None = tt
handed_none (Some xs) = refl

pub handed_on : (l m n : Option (List ℕ)) (x y : List ℕ) → Handed l x m → Handed m y n → Handed l (x ++ y) n
handed_on (Some l) (Some m) (Some n) x y f g = f ∙ ap (λ v. x ++ v) g ∙ sym (append_assoc x y n)
handed_on (Some l) (Some m) None x y f g =
    (g.0, ap (λ v. x ++ v) g.1 ∙ sym (append_assoc x m g.0) ∙ ap (λ v. v ++ g.0) (sym f))
handed_on (Some l) None None x y f g = (f.0 ++ y, ap (λ v. v ++ y) f.1 ∙ append_assoc l f.0 y)
handed_on None m None x y f g = tt
handed_on (Some l) None (Some n) x y f g = absurd g
handed_on None None (Some n) x y f g = absurd g
handed_on None (Some m) (Some n) x y f g = absurd f

pub took_none : (l : Option (List ℕ)) → Took l [] l
took_none None = tt
took_none (Some xs) = sym (append-nil xs)

pub took_on : (l m n : Option (List ℕ)) (x y : List ℕ) → Took l x m → Took m y n → Took l (x ++ y) n
took_on (Some l) (Some m) (Some n) x y f g = g ∙ ap (λ v. v ++ y) f ∙ append_assoc l x y
took_on None None None x y f g = tt
took_on (Some l) None n x y f g = absurd f
took_on None (Some m) n x y f g = absurd f
took_on (Some l) (Some m) None x y f g = absurd g
took_on None None (Some n) x y f g = absurd g

pub rose_since : (f g h : ℕ) → f ≤ g → Rose g h → Rose f h
rose_since f g h le (inl lt) = inl (omega arith)
rose_since f g h le (inr top) = inr top

pub rose_until : (f g h : ℕ) → Rose f g → g ≤ h → Rose f h
rose_until f g h (inl lt) le = inl (omega arith)
rose_until f g h (inr top) le = inr (omega arith)

pub source_none : (v : SourceView) → SourceGave v [] v
source_none v = record { gave = gave_none v.left; faults = omega arith; ends = omega arith }

pub source_on : (u v w : SourceView) (x y : List ℕ) → SourceGave u x v → SourceGave v y w → SourceGave u (x ++ y) w
source_on u v w x y f g = record {
  gave = gave_on u.left v.left w.left x y f.gave g.gave;
  faults = omega (arith, f.faults, g.faults);
  ends = omega (arith, f.ends, g.ends);
}

pub sink_none : (v : SinkView) → SinkTook v [] v
sink_none v = record { took = took_none v.wrote; faults = omega arith }

pub sink_on : (u v w : SinkView) (x y : List ℕ) → SinkTook u x v → SinkTook v y w → SinkTook u (x ++ y) w
sink_on u v w x y f g = record {
  took = took_on u.wrote v.wrote w.wrote x y f.took g.took;
  faults = omega (arith, f.faults, g.faults);
}

pub clock_none : (v : ClockView) → ClockHanded v [] v
clock_none v = record { handed = handed_none v.moments; stops = omega arith }

-- where the moments stand, none was handed
pub clock_stood : (v v' : ClockView) → ClockStood v v' → ClockHanded v [] v'
clock_stood v v' f = record { handed = subst (Handed v.moments []) (sym f.moments) (handed_none v.moments); stops = f.stops }

pub clock_on : (u v w : ClockView) (x y : List ℕ) → ClockHanded u x v → ClockHanded v y w → ClockHanded u (x ++ y) w
clock_on u v w x y f g = record {
  handed = handed_on u.moments v.moments w.moments x y f.handed g.handed;
  stops = omega (arith, f.stops, g.stops);
}

-- a write that failed in the first of two pieces failed in both
pub failed_first : (x : Failed) (head body : List ℕ) (u u' : SinkView) → WriteSays (Err x) head u u' → WriteSays (Err x) (head ++ body) u u'
failed_first x head body u u' (part, (cut, is), took, rose) =
    (part, (cut ++ body, sym (append_assoc part cut body) ∙ ap (λ v. v ++ body) is), took, rose)

-- the first of two pieces was written, and then the second
pub written_on : (x : Unit {0}) (r : Result (Unit {0}) Failed) (head body : List ℕ) (u v w : SinkView)
    → WriteSays (Ok x) head u v → WriteSays r body v w → WriteSays r (head ++ body) u w
written_on x (Ok y) head body u v w h g = sink_on u v w head body h g
written_on x (Err y) head body u v w h (part, (cut, is), took, rose) =
    (head ++ part, (cut, append_assoc head part cut ∙ ap (λ z. head ++ z) is), sink_on u v w head part h took, rose_since u.faults v.faults w.faults h.faults rose)

-- a reading of a clock that tells its moments hands the first of them
pub moment_handed : (o : Option (List ℕ)) (m : ℕ) (s s' : Moments) → s.coming ≡ o → IsMoment o m s s'
    → ClockHanded (told_by s) (m ∷ []) (told_by s')
moment_handed (Some (x ∷ xs)) m s s' is (at, so) = record {
  handed = let e = ap (λ (w : Moments). w.coming) so in rw (is, e, at) refl;
  stops = omega (arith, ap (λ (w : Moments). w.stops) so);
}
moment_handed (Some []) m s s' is (at, so) = record {
  handed = let e = ap (λ (w : Moments). w.coming) so in rw (is, e) (m ∷ [], refl);
  stops = omega (arith, ap (λ (w : Moments). w.stops) so);
}
moment_handed None m s s' is (at, so) = record {
  handed = rw (so, is) tt;
  stops = omega (arith, ap (λ (w : Moments). w.stops) so);
}
