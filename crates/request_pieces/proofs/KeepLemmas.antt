-- A head that is kept, and what follows it.
use Rattle.std.proofs.Common.{arith, ◌≡◌, ◌≤◌, ℕ, List, [], length, ◌++◌, take, drop, map, sym, ap, subst, refl, ◌∙◌, append_assoc, append-nil, length-take}
use Rattle.std.proofs.lemmas.List.{drop_at}
use Rattle.httparse.specs.Grammar.{print_request}
use Rattle.httparse.specs.Spans.{header_bytes}
use Rattle.httparse.specs.declared.spans.RequestSpans.{RequestSpans}
use Rattle.engine_ports.specs.Source.{SourceView}
use Rattle.engine_ports.proofs.PortLemmas.{source_on}
use Rattle.http_edge.specs.Bodies.{BodyBy}
use Rattle.http_edge.specs.Framing.{framing_of}
use Rattle.http_edge.specs.Reading.{Reached}
use Rattle.http_edge.specs.Refusal.{BeginsWithHead, RefusesBody, CutsBody, IsRefused, by_framing, IsUnfinished, in_body}
use Rattle.http_edge.specs.Shown.{IsShown}
use Rattle.http_edge.specs.Spelling.{SpellsBody}
use Rattle.http_edge.specs.Stored.{Stored}
use Rattle.http_edge.specs.declared.framing.Framing.{Framing}
use Rattle.http_edge.proofs.RequestLemmas.{shown, framing_at, shows}
use Rattle.request_pieces.specs.Standing.{KeepsHead}
use Rattle.request_pieces.specs.Taking.{Shows}

-- one read, and then what others reached
pub then_reached : (bytes : List ℕ) (s t u : SourceView) (P Q : List ℕ → Type 0) → Reached bytes s t P → ((all : List ℕ) → P all → Reached all t u Q) → Reached bytes s u Q
then_reached bytes s t u P Q x on =
    let y = on (bytes ++ x.read) x.holds in
    record { read = x.read ++ y.read; gave = source_on s t u x.read y.read x.gave y.gave; holds = subst Q (append_assoc bytes x.read y.read) y.holds }

-- the head stays where head and places do
pub keeps_on : (b c : Stored) (r : RequestSpans) (f : Framing) → c.head ≡ b.head → c.spans ≡ b.spans → KeepsHead b r f → KeepsHead c r f
keeps_on b c r f heads spans k = record {
  head = k.head;
  within = rw (heads, spans) k.within;
  at = rw (heads, spans) k.at;
  whole = heads ∙ k.whole;
  small = rw heads k.small;
  framed = k.framed;
}

module _ (b : Stored) (r : RequestSpans) (f : Framing) (k : KeepsHead b r f) where
  -- nothing is kept behind it
  pub none_behind : drop r.len b.head ≡ []
  none_behind = ap (λ l. drop r.len l) (k.whole ∙ sym (append-nil (print_request k.head))) ∙ drop_at (print_request k.head) [] r.len (sym k.at.len)

  pub keeps_shown : IsShown (take r.len b.head) b.spans r
  keeps_shown = shown b.head b.spans r k.head k.small k.within k.at

  pub keeps_begins : (behind : List ℕ) → BeginsWithHead (b.head ++ behind) k.head behind
  keeps_begins behind = ((k.at.reads.0, ap (λ l. l ++ behind) k.whole), let small = k.small in omega (arith, small, ap length k.whole))

  pub keeps_refused : (behind : List ℕ) (status : ℕ) → RefusesBody f behind status → IsRefused (b.head ++ behind) status
  keeps_refused behind status x = by_framing k.head behind (keeps_begins behind) (subst (λ g. RefusesBody g behind status) k.framed x)

  pub keeps_cut : (behind : List ℕ) → CutsBody f behind → IsUnfinished (b.head ++ behind)
  keeps_cut behind x = in_body k.head behind (keeps_begins behind) (subst (λ g. CutsBody g behind) k.framed x)

  -- the head and a body behind it are the request
  pub keeps_shows : (coded ahead : List ℕ) → SpellsBody f coded b.body → Shows b r ahead (b.head ++ (coded ++ ahead))
  keeps_shows coded ahead spells =
      let is : f ≡ framing_of r.version (map (header_bytes b.head) (take r.headers b.spans)) =
      k.framed ∙ sym (framing_at b.head b.spans r k.head k.small k.within k.at) in
      let by : BodyBy f b.body (length coded) ahead (drop r.len b.head ++ (coded ++ ahead)) =
      (coded, spells, refl, ap (λ l. l ++ (coded ++ ahead)) none_behind) in
      let all = shows b.head b.spans r k.head k.small k.within k.at f is b.body ahead (coded ++ ahead) (length coded) by in
      let small = k.small in
      (keeps_shown, all.0, omega (arith, k.at.len, small, ap length k.whole), omega (arith, all.1))

-- what is shown stands in the head
pub shown_fits : (b : Stored) (r : RequestSpans) → IsShown (take r.len b.head) b.spans r → r.len ≤ length b.head
shown_fits b r s = let w = s.within in omega (arith, w.section.len_fits, length-take r.len b.head)
