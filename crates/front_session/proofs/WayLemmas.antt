-- How a request is treated, and what that tells of its framing.
use Rattle.std.proofs.Common.{arith, ◌≡◌, ◌≤◌, ℕ, zero, suc, List, map, Bool, true, false, ◌==◌, if◌then◌else◌, Option, Some, None, refl, ap, ◌∙◌}
use Rattle.std.proofs.lemmas.Bool.Decides.{nat_tests}
use Rattle.httparse.specs.Spans.{name_and_value}
use Rattle.http_edge.specs.Message.{Header, Request}
use Rattle.http_edge.specs.Asks.{closes}
use Rattle.http_edge.specs.Framing.{framing_of}
use Rattle.http_edge.specs.Spelling.{head_framing, SpellsBody, Spells}
use Rattle.http_edge.specs.declared.framing.Framing.{Framing}
use Rattle.http_edge.specs.declared.framing.Framing.TheVariants.{Length, Chunked, Refused}
use Rattle.lab_front.specs.Rows.{row_of}
use Rattle.lab_front.specs.declared.table.Row.{Row}
use Rattle.lab_handed.specs.Changes.{change_of}
use Rattle.lab_handed.specs.declared.changing.Change.{Change}
use Rattle.front_session.specs.Ways.{may_take_over, answer_way, handed_way, way_by, way_framed, way_of}
use Rattle.front_session.specs.declared.choosing.Way.{Way}
use Rattle.front_session.specs.declared.choosing.Way.TheVariants.{Answered, Closes, HandedOn, Changed, Opens}

-- ---- how a request is treated

-- whatever its body is
pub same_way : (f : Framing) (r q : Request) → r.method ≡ q.method → r.target ≡ q.target → r.fields ≡ q.fields → way_framed f r ≡ way_framed f q
same_way f r q m t h =
    ap (λ (x : Request). way_framed f x) (λ i. record { method = m i; target = t i; fields = h i; body = r.body })
    ∙ bodies f q.method q.target q.fields r.body q.body
  where
    bodies : (f : Framing) (method target : List ℕ) (fields : List Header) (body other : List ℕ)
        → way_framed f (record { method = method; target = target; fields = fields; body = body })
        ≡ way_framed f (record { method = method; target = target; fields = fields; body = other })
    bodies (Length n) method target fields body other = refl
    bodies Chunked method target fields body other = refl
    bodies (Refused s) method target fields body other = refl

-- a head that spells a body is one of HTTP/1.1
minor_is_one : (minor : ℕ) (fields : List Header) (coded body : List ℕ) → minor ≤ 1 → SpellsBody (framing_of minor fields) coded body
    → framing_of 1 fields ≡ framing_of minor fields
minor_is_one zero fields coded body le spells = absurd spells
minor_is_one (suc zero) fields coded body le spells = refl
minor_is_one (suc (suc n)) fields coded body le spells = absurd (omega (arith, le))

-- what is spelled is treated by the framing of its head
pub way_spelled : (spelling : List ℕ) (r : Request) (s : Spells spelling r) → way_of r ≡ way_framed (head_framing s.head) r
way_spelled spelling r s =
    ap (λ f. way_framed f r) (ap (framing_of 1) s.fields ∙ minor_is_one s.head.minor (map name_and_value s.head.fields) s.coded r.body s.valid.minor s.body)

-- ---- what a treatment tells of the framing

answer_hands : (closing : Bool) (row : Row) (n : ℕ) → answer_way closing row ≡ HandedOn n → ⊥
answer_hands true row n e = cc
answer_hands false row n e = cc

plainly_hands : (count n : ℕ) (o : Option Change) → handed_way count o ≡ HandedOn n → count ≡ n
plainly_hands count n None e = cc
plainly_hands count n (Some change) e = by (count == 0) e
  where
    by : (t : Bool) → (if t then Changed change else HandedOn count) ≡ HandedOn n → count ≡ n
    by true e = absurd (cc)
    by false e = cc

sized_hands : (count n : ℕ) (closing : Bool) (takes : Option Change) (o : Option Row) → way_by count closing takes o ≡ HandedOn n → count ≡ n
sized_hands count n closing takes None e = plainly_hands count n takes e
sized_hands count n closing takes (Some row) e = by (count == 0) e
  where
    by : (t : Bool) → (if t then answer_way closing row else HandedOn count) ≡ HandedOn n → count ≡ n
    by true e = absurd (answer_hands closing row n e)
    by false e = cc

pub hands_framed : (f : Framing) (r : Request) (n : ℕ) → way_framed f r ≡ HandedOn n → f ≡ Length n
hands_framed (Length count) r n e = ap Length (by (may_take_over r) e)
  where
    by : (t : Bool) → (if t then Opens else way_by count (closes r) (change_of r) (row_of r)) ≡ HandedOn n → count ≡ n
    by true e = absurd (cc)
    by false e = sized_hands count n (closes r) (change_of r) (row_of r) e
hands_framed Chunked r n e = absurd (cc)
hands_framed (Refused s) r n e = absurd (cc)

is_zero : (n : ℕ) → (n == 0) ≡ true → n ≡ 0
is_zero n e = grind (arith, nat_tests)

-- the front answers it
abbrev pub IsAnswer : Way → Type 0
IsAnswer (Answered row) = Unit {0}
IsAnswer (Closes row) = Unit {0}
IsAnswer way = ⊥

handed_answers : (count : ℕ) (o : Option Change) → IsAnswer (handed_way count o) → ⊥
handed_answers count None e = e
handed_answers count (Some change) e = by (count == 0) e
  where
    by : (t : Bool) → IsAnswer (if t then Changed change else HandedOn count) → ⊥
    by true e = e
    by false e = e

sized_answers : (count : ℕ) (closing : Bool) (takes : Option Change) (o : Option Row) → IsAnswer (way_by count closing takes o) → count ≡ 0
sized_answers count closing takes None e = absurd (handed_answers count takes e)
sized_answers count closing takes (Some row) e = by (count == 0) refl e
  where
    by : (t : Bool) → (count == 0) ≡ t → IsAnswer (if t then answer_way closing row else HandedOn count) → count ≡ 0
    by true is e = is_zero count is
    by false is e = absurd e

pub answers_framed : (f : Framing) (r : Request) → IsAnswer (way_framed f r) → f ≡ Length 0
answers_framed (Length count) r e = ap Length (by (may_take_over r) e)
  where
    by : (t : Bool) → IsAnswer (if t then Opens else way_by count (closes r) (change_of r) (row_of r)) → count ≡ 0
    by true e = absurd e
    by false e = sized_answers count (closes r) (change_of r) (row_of r) e
answers_framed Chunked r e = absurd e
answers_framed (Refused s) r e = absurd e

-- it is changed
answer_changes : (closing : Bool) (row : Row) (change : Change) → answer_way closing row ≡ Changed change → ⊥
answer_changes true row change e = cc
answer_changes false row change e = cc

sized_changes : (count : ℕ) (closing : Bool) (o : Option Change) (p : Option Row) (change : Change) → way_by count closing o p ≡ Changed change
    → (count ≡ 0) × (o ≡ Some change)
sized_changes count closing None None change e = absurd (cc)
sized_changes count closing (Some other) None change e = by (count == 0) refl e
  where
    by : (t : Bool) → (count == 0) ≡ t → (if t then Changed other else HandedOn count) ≡ Changed change → (count ≡ 0) × (Some other ≡ Some change)
    by true is e = (is_zero count is, cc)
    by false is e = absurd (cc)
sized_changes count closing o (Some row) change e = by (count == 0) e
  where
    by : (t : Bool) → (if t then answer_way closing row else HandedOn count) ≡ Changed change → (count ≡ 0) × (o ≡ Some change)
    by true e = absurd (answer_changes closing row change e)
    by false e = absurd (cc)

pub changed_framed : (f : Framing) (r : Request) (change : Change) → way_framed f r ≡ Changed change → (f ≡ Length 0) × (change_of r ≡ Some change)
changed_framed (Length count) r change e = by (may_take_over r) e
  where
    by : (t : Bool) → (if t then Opens else way_by count (closes r) (change_of r) (row_of r)) ≡ Changed change
        → (Length count ≡ Length 0) × (change_of r ≡ Some change)
    by true e = absurd (cc)
    by false e = let are = sized_changes count (closes r) (change_of r) (row_of r) change e in (ap Length are.0, are.1)
changed_framed Chunked r change e = absurd (cc)
changed_framed (Refused s) r change e = absurd (cc)
