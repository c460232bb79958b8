-- Exchanges one after another.
use Rattle.std.proofs.Common.{arith, ◌≡◌, ◌⊎◌, inl, inr, ℕ, List, [], ◌∷◌, ◌++◌, length, take, map, refl, sym, ap, ap₂, ◌∙◌, subst, append_assoc, append-nil, length-append, Option, Some, None, Result}
use Rattle.std.proofs.lemmas.List.{map-append}
use Rattle.std.proofs.lemmas.List.Folds.{list_any-append}
use Rattle.engine_ports.specs.Link.{Wire}
use Rattle.response_reader.specs.Answers.{Answer}
use Rattle.client_model.specs.Plans.{Plan, Ends, Asks, Judges, Asked, Written, nothing, joined, writes}
use Rattle.client_model.specs.Client.{Said, said, said_first, said_by}
use Rattle.client_model.specs.Runs.{Exchange, AreAnswered, HaveCome, AreLeft, sent_by, AreFronts}
use Rattle.client_model.specs.declared.fault.Fault.{Fault}
use Rattle.client_exchange.specs.Outputs.{BothTook}
use Rattle.client_exchange.specs.Exchanges.{Reach, IsAnswered}
use Rattle.client_exchange.specs.Walks.{IsAsking, AreQuiet, said_behind, WroteBefore, Walked, Walks, Does}
use Rattle.client_exchange.proofs.OutputLemmas.{both_none, both_on, fronts_none, fronts_longer, fronts_behind}

-- ---- lists of connections

pub came_none : (o : Option (List Wire)) → HaveCome o [] o
came_none (Some ws) = refl
came_none None = tt

pub came_on : (o p q : Option (List Wire)) (xs ys : List Exchange)
    → HaveCome o (map (λ x. x.came) xs) p → HaveCome p (map (λ x. x.came) ys) q → HaveCome o (map (λ x. x.came) (xs ++ ys)) q
came_on (Some o) (Some p) (Some q) xs ys a b =
    a ∙ ap (λ l. map (λ (x : Exchange). x.came) xs ++ l) b
    ∙ sym (append_assoc (map (λ (x : Exchange). x.came) xs) (map (λ (x : Exchange). x.came) ys) q)
    ∙ ap (λ l. l ++ q) (sym (map-append (λ (x : Exchange). x.came) xs ys))
came_on None None None xs ys a b = tt
came_on (Some o) None q xs ys a b = absurd a
came_on None (Some p) q xs ys a b = absurd a
came_on (Some o) (Some p) None xs ys a b = absurd b
came_on None None (Some q) xs ys a b = absurd b

pub left_none : (o : Option (List Wire)) → AreLeft o [] o
left_none (Some ws) = sym (append-nil ws)
left_none None = tt

pub left_on : (o p q : Option (List Wire)) (xs ys : List Exchange)
    → AreLeft o (map (λ x. x.left) xs) p → AreLeft p (map (λ x. x.left) ys) q → AreLeft o (map (λ x. x.left) (xs ++ ys)) q
left_on (Some o) (Some p) (Some q) xs ys a b =
    b ∙ ap (λ l. l ++ map (λ (x : Exchange). x.left) ys) a
    ∙ append_assoc o (map (λ (x : Exchange). x.left) xs) (map (λ (x : Exchange). x.left) ys)
    ∙ ap (λ l. o ++ l) (sym (map-append (λ (x : Exchange). x.left) xs ys))
left_on None None None xs ys a b = tt
left_on (Some o) None q xs ys a b = absurd a
left_on None (Some p) q xs ys a b = absurd a
left_on (Some o) (Some p) None xs ys a b = absurd b
left_on None None (Some q) xs ys a b = absurd b

pub answered_on : (xs ys : List Exchange) (ks ls : List Asked) (ms ns : List Answer) → AreAnswered xs ks ms → AreAnswered ys ls ns
    → AreAnswered (xs ++ ys) (ks ++ ls) (ms ++ ns)
answered_on [] ys [] ls [] ns a b = b
answered_on (x ∷ xs) ys (k ∷ ks) ls (answer ∷ ms) ns a b = (a.0, answered_on xs ys ks ls ms ns a.1 b)
answered_on [] ys [] ls (answer ∷ ms) ns a b = absurd a
answered_on [] ys (k ∷ ks) ls ms ns a b = absurd a
answered_on (x ∷ xs) ys [] ls ms ns a b = absurd a
answered_on (x ∷ xs) ys (k ∷ ks) ls [] ns a b = absurd a

quiet_on : (ms ns : List Asked) → AreQuiet ms → AreQuiet ns → AreQuiet (ms ++ ns)
quiet_on ms ns a b = rw (list_any-append (λ (x : Asked). x.input) ms ns, a, b) refl

-- ---- what is said

joined_assoc : (w v u : Written) → joined (joined w v) u ≡ joined w (joined v u)
joined_assoc w v u = λ i. record { out = append_assoc w.out v.out u.out i; err = append_assoc w.err v.err u.err i }

pub behind_on : (ms ns : List Asked) (w v : Written) (s : Said) → said_behind ms w (said_behind ns v s) ≡ said_behind (ms ++ ns) (joined w v) s
behind_on ms ns w v s = λ i. said (sym (append_assoc ms ns s.asked) i) (sym (joined_assoc w v s.written) i) s.end

-- ---- what was written by then

-- lists of one more than each of two
one_more_same : (xs ys : List Answer) (x y : Answer) → xs ++ x ∷ [] ≡ ys ++ y ∷ [] → xs ≡ ys
one_more_same xs ys x y e =
    sym (take_first xs x) ∙ ap₂ take (same_length xs ys x y e) e ∙ take_first ys y
  where
    take_first : (l : List Answer) (z : Answer) → take (length l) (l ++ z ∷ []) ≡ l
    take_first [] z = refl
    take_first (w ∷ l) z = ap (λ m. w ∷ m) (take_first l z)

    same_length : (xs ys : List Answer) (x y : Answer) → xs ++ x ∷ [] ≡ ys ++ y ∷ [] → length xs ≡ length ys
    same_length xs ys x y e = omega (arith, ap length e, length-append xs (x ∷ []), length-append ys (y ∷ []))

pub none_is_more : (xs : List Answer) (x : Answer) → [] ≡ xs ++ x ∷ [] → ⊥
none_is_more xs x e = omega (arith, ap length e, length-append xs (x ∷ []))

-- a list is empty, or has a last
last_of : (xs : List Answer) → (xs ≡ []) ⊎ ((before : List Answer) × (last : Answer) × (xs ≡ before ++ last ∷ []))
last_of [] = inl refl
last_of (x ∷ xs) = by (last_of xs)
  where
    by : (xs ≡ []) ⊎ ((before : List Answer) × (last : Answer) × (xs ≡ before ++ last ∷ []))
        → (x ∷ xs ≡ []) ⊎ ((before : List Answer) × (last : Answer) × (x ∷ xs ≡ before ++ last ∷ []))
    by (inl none) = inr ([], x, ap (λ l. x ∷ l) none)
    by (inr (before, last, is)) = inr (x ∷ before, last, ap (λ l. x ∷ l) is)

pub wrote_none : (plan : Plan) (w : Written) → WroteBefore plan [] w
wrote_none plan w before last e = absurd (none_is_more before last e)

-- what is asked first writes nothing before
pub wrote_one : (asked : Asked) (cont : Answer → Plan) (answer : Answer) (w : Written) → WroteBefore (Asks nothing asked cont) (answer ∷ []) w
wrote_one asked cont answer w before last e =
    subst (λ l. AreFronts (said_by (Asks nothing asked cont) None l).written w) (one_more_same [] before answer last e) (fronts_none w)

pub wrote_on : (plan next : Plan) (ms ns : List Answer) (asked : List Asked) (w v : Written)
    → ((more : List Answer) → said_by plan None (ms ++ more) ≡ said_behind asked w (said_by next None more))
    → WroteBefore plan ms w → WroteBefore next ns v → WroteBefore plan (ms ++ ns) (joined w v)
wrote_on plan next ms ns asked w v says a b before last e = by (last_of ns)
  where
    by : (ns ≡ []) ⊎ ((front : List Answer) × (end : Answer) × (ns ≡ front ++ end ∷ [])) → AreFronts (said_by plan None before).written (joined w v)
    by (inl none) =
        fronts_longer (said_by plan None before).written w v
        (a before last (sym (append-nil ms) ∙ ap (λ l. ms ++ l) (sym none) ∙ e))
    by (inr (front, end, is)) =
        subst (λ (l : List Answer). AreFronts (said_by plan None l).written (joined w v))
        (one_more_same (ms ++ front) before end last (append_assoc ms front (end ∷ []) ∙ ap (λ l. ms ++ l) (sym is) ∙ e))
        (subst (λ (s : Said). AreFronts s.written (joined w v)) (sym (says front))
        (fronts_behind w (said_by next None front).written v (b front end is)))

-- ---- walks

unfoldable pub way_none : (plan : Plan) (input : List ℕ) (o : Reach) → Walked plan input o plan o
way_none plan input o = record {
  xs = [];
  answers = [];
  asked = [];
  written = nothing;
  answered = tt;
  came = came_none o.link.coming;
  left = left_none o.link.past;
  others = refl;
  faults = refl;
  sent = refl;
  took = both_none o.shown;
  wrote = wrote_none plan nothing;
  says = λ more. refl;
}

unfoldable pub way_on : (plan next last : Plan) (input : List ℕ) (o p q : Reach) → Walked plan input o next p → Walked next input p last q → Walked plan input o last q
way_on plan next last input o p q a b = record {
  xs = a.xs ++ b.xs;
  answers = a.answers ++ b.answers;
  asked = a.asked ++ b.asked;
  written = joined a.written b.written;
  answered = answered_on a.xs b.xs a.asked b.asked a.answers b.answers a.answered b.answered;
  came = came_on o.link.coming p.link.coming q.link.coming a.xs b.xs a.came b.came;
  left = left_on o.link.past p.link.past q.link.past a.xs b.xs a.left b.left;
  others = b.others ∙ a.others;
  faults = b.faults ∙ a.faults;
  sent =
      map-append (λ (x : Exchange). x.sent) a.xs b.xs ∙ ap₂ (λ l m. l ++ m) a.sent b.sent ∙ sym (map-append (sent_by input) a.asked b.asked);
  took = both_on o.shown p.shown q.shown a.written b.written a.took b.took;
  wrote = wrote_on plan next a.answers b.answers a.asked a.written b.written a.says a.wrote b.wrote;
  says = λ more.
      ap (said_by plan None) (append_assoc a.answers b.answers more) ∙ a.says (b.answers ++ more)
      ∙ ap (said_behind a.asked a.written) (b.says more) ∙ behind_on a.asked b.asked a.written b.written (said_by last None more);
}

pub walk_none : (plan : Plan) (o : Reach) → Walks plan o plan o
unfolding way_none
walk_none plan o = record { way = way_none plan [] o; quiet = refl }

pub walk_on : (plan next last : Plan) (o p q : Reach) → Walks plan o next p → Walks next p last q → Walks plan o last q
unfolding way_on
walk_on plan next last o p q a b =
    record { way = way_on plan next last [] o p q a.way b.way; quiet = quiet_on a.way.asked b.way.asked a.quiet b.quiet }

pub does_on : (plan next : Plan) (result : Result ℕ Fault) (o p q : Reach) → Walks plan o next p → Does next result p q → Does plan result o q
does_on plan next result o p q a d =
    record { next = d.next; between = d.between; walks = walk_on plan next d.next o p d.between a d.walks; comes = d.comes }

-- ---- one exchange

-- what a plan says that writes this first
pub writes_says : (w : Written) (plan : Plan) (more : List Answer) → IsAsking plan → said_by (writes w plan) None more ≡ said_behind [] w (said_by plan None more)
writes_says w (Ends v ending) more is = refl
writes_says w (Asks v asked next) [] is = refl
writes_says w (Asks v asked next) (answer ∷ more) is =
    λ i. said (asked ∷ (said_by (next answer) None more).asked) (joined_assoc w v (said_by (next answer) None more).written i) (said_by (next answer) None more).end
writes_says w (Judges charter next) more is = absurd is

-- it was answered, and what the answer shows was written: the next plan is reached
unfoldable pub way_one : (asked : Asked) (input : List ℕ) (cont : Answer → Plan) (answer : Answer) (w : Written) (next : Plan) (o o' : Reach)
    → IsAnswered (sent_by input asked) asked.showing answer o.link o'.link → BothTook o.shown w o'.shown → cont answer ≡ writes w next → IsAsking next
    → Walked (Asks nothing asked cont) input o next o'
way_one asked input cont answer w next o o' is took goes asking = record {
  xs = is.exchange ∷ [];
  answers = answer ∷ [];
  asked = asked ∷ [];
  written = w;
  answered = (is.is, tt);
  came = is.meets.came;
  left = is.meets.left;
  others = is.meets.others;
  faults = is.meets.faults;
  sent = ap (λ l. l ∷ []) is.sent;
  took = took;
  wrote = wrote_one asked cont answer w;
  says = λ more.
      ap (λ (p : Plan). said_first nothing asked (said_by p None more)) goes
      ∙ ap (said_first nothing asked) (writes_says w next more asking);
}
