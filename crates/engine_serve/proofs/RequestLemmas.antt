-- A session goes on and ends, by what its connection stands on: x before the session, y before a request, and z behind it.
use Rattle.std.proofs.Common.{◌≡◌, ℕ, List, [], refl, sym, ◌∙◌, subst, Bool, None, Option, Err, Result}
use Rattle.std.specs.Prelude.{IsTrue}
use Rattle.engine_ports.specs.Source.{SourceView}
use Rattle.engine_ports.specs.Sink.{SinkView, SinkTook, WriteSays}
use Rattle.engine_ports.specs.Door.{outside}
use Rattle.engine_ports.specs.declared.ports.Failed.{Failed}
use Rattle.engine_text.specs.declared.reply.LogSpec.{LogSpec}
use Rattle.machine_model.specs.History.{IsLegal}
use Rattle.http_edge.specs.Held.{Reading}
use Rattle.http_edge.specs.Message.{Request}
use Rattle.http_edge.specs.Reader.{NextSays, request_of}
use Rattle.http_edge.specs.Response.{refusal_bytes}
use Rattle.http_edge.specs.declared.reader.Next.{Next}
use Rattle.http_edge.specs.declared.reader.Next.TheVariants as next
use Rattle.http_edge.specs.declared.view.RequestView.{RequestView}
use Rattle.api_routes.specs.RouteClass.{takeover}
use Rattle.session_model.specs.declared.ending.Ending.{Ending}
use Rattle.session_model.specs.declared.ending.Ending.TheVariants as E
use Rattle.session_model.specs.declared.followed.Followed.{Followed}
use Rattle.session_model.specs.declared.followed.PumpEnd.{PumpEnd}
use Rattle.session_model.specs.Guarantee.{Serves}
use Rattle.session_model.specs.Pass.{IsConnection, IsNumber}
use Rattle.session_model.specs.Responses.{takeover_head}
use Rattle.session_model.specs.Session.{ending_of_ends}
use Rattle.attach_hub.specs.Connection.{ConnectionView, HasNumbers, Who}
use Rattle.attach_hub.specs.Sides.{RunsOver}
use Rattle.engine_serve.specs.declared.went.Went.{Went}
use Rattle.engine_serve.specs.declared.went.Went.TheVariants as W
use Rattle.engine_serve.specs.Overtaking.{OpensOver, Overtakes}
use Rattle.engine_serve.specs.Serving.{Tries}
use Rattle.engine_serve.proofs.NextLemmas.{Stands, goes_on, ends_bad, ends_by, ends_closed, ends_cut, ends_fault}
use Rattle.engine_serve.proofs.OverLemmas.{ends_over, head_lost, taken_over}
use Rattle.engine_serve.proofs.ServeLemmas.{begin, ended_unread, ending_of_refusal}

-- where the session stands between two requests
pub record StandsAt (x y : ConnectionView) (s s' : SourceView) (reader : Reading) : Type 0 where
  pub who : y.who ≡ x.who
  pub numbers : HasNumbers y
  pub stands : Stands x.who.number x.pass y.pass s s' x.sink y.sink x.clock y.clock reader

-- the connection of the session
known : (w : Who) (r : Request) (went said : Went) (y z : ConnectionView) → y.who ≡ w → went ≡ said → Tries r went y z
    → Tries r said (record y { who = w }) z
known w r went said y z who is tries = subst (λ v. Tries r said (record y { who = v }) z) who (subst (λ o. Tries r o y z) is tries)

-- what a session says of a connection
abbrev pub ServesAt : Ending → ConnectionView → ConnectionView → SourceView → SourceView → Type 0
ServesAt e x y s s' = Serves x.who.number e x.pass y.pass (outside s x.sink x.clock) (outside s' y.sink y.clock)

-- ---- it goes on

-- x' is x as it is seen from inside, where a reader was made
pub begins : (x x' : ConnectionView) (s : SourceView) (reader : Reading) → x' ≡ x → HasNumbers x → reader.stopped ≡ None → reader.ahead ≡ [] → StandsAt x x' s s reader
begins x x' s reader is has stopped none =
    subst (λ v. StandsAt x v s s reader) (sym is) (record {
      who = refl;
      numbers = has;
      stands = record { reads_on = stopped; so_far = begin x.who.number x.pass s x.sink x.clock reader.ahead none has.pair };
    })

-- the numbers stay
tried_numbers : (r : Request) (went : Went) (y z : ConnectionView) → HasNumbers y → z.who ≡ y.who → Tries r went y z → HasNumbers z
tried_numbers r went y z has who tries = record {
  number = subst (λ (w : Who). IsNumber z.pass.number w.number) (sym who) (subst (λ n. IsNumber n y.who.number) (sym tries.moves.stays.number) has.number);
  pair = subst IsTrue (sym tries.moves.stays.pair) has.pair;
}

pub goes : (view : RequestView) (n : Next) (went : Went) (x y z : ConnectionView) (s s1 s2 : SourceView) (old new : Reading) → StandsAt x y s s1 old
    → n ≡ next.Request view → NextSays old new n s1 s2 → z.who ≡ y.who → went ≡ W.On → Tries (request_of view) went y z → StandsAt x z s s2 new
goes view n went x y z s s1 s2 old new st at says who is tries = record {
  who = who ∙ st.who;
  numbers = tried_numbers (request_of view) went y z st.numbers who tries;
  stands = goes_on x.who.number view x.pass y.pass z.pass s s1 s2 x.sink y.sink z.sink x.clock y.clock z.clock old new st.stands
      (subst (λ o. NextSays old new o s1 s2) at says) (known x.who (request_of view) went W.On y z st.who is tries);
}

-- what a takeover asks
pub over_connection : (x y z : ConnectionView) → y.who ≡ x.who → z.who ≡ y.who → IsConnection x.who.number → IsConnection z.who.number
over_connection x y z who same is = subst (λ (w : Who). IsConnection w.number) (sym (same ∙ who)) is

pub over_numbers : (r : Request) (upgrade : Bool) (spec : LogSpec) (y z : ConnectionView) → HasNumbers y → z.who ≡ y.who → OpensOver r upgrade spec y z
    → HasNumbers z
over_numbers r upgrade spec y z has who opens = record {
  number = subst (λ (w : Who). IsNumber z.pass.number w.number) (sym who) (subst (λ n. IsNumber n y.who.number) (sym opens.moves.stays.number) has.number);
  pair = subst IsTrue (sym opens.moves.stays.pair) has.pair;
}

-- ---- it ends

pub ends_at : (view : RequestView) (n : Next) (went : Went) (e e' : Ending) (x y z : ConnectionView) (s s1 s2 : SourceView) (old new : Reading)
    → StandsAt x y s s1 old → n ≡ next.Request view → NextSays old new n s1 s2 → went ≡ W.Ends e → e' ≡ e → Tries (request_of view) went y z
    → IsLegal z.pass.charter z.pass.seen → ServesAt e' x z s s2
ends_at view n went e e' x y z s s1 s2 old new st at says is same tries legal =
    subst (λ o. ServesAt o x z s s2) (sym same)
    (ends_by x.who.number view e x.pass y.pass z.pass s s1 s2 x.sink y.sink z.sink x.clock y.clock z.clock old new st.stands
    (subst (λ o. NextSays old new o s1 s2) at says) (known x.who (request_of view) went (W.Ends e) y z st.who is tries) legal)

-- by a takeover, from z to z2
pub ends_over_at : (view : RequestView) (n : Next) (upgrade : Bool) (spec : LogSpec) (e : Ending) (x y z z2 : ConnectionView) (s s1 s2 s3 : SourceView)
    (old new : Reading) → StandsAt x y s s1 old → n ≡ next.Request view → NextSays old new n s1 s2 → OpensOver (request_of view) upgrade spec y z
    → z.sink ≡ y.sink → z.who ≡ y.who → Overtakes upgrade spec e z z2 new.ahead s2 s3 → IsLegal z2.pass.charter z2.pass.seen → ServesAt e x z2 s s3
ends_over_at view n upgrade spec e x y z z2 s s1 s2 s3 old new st at says opens sink who over legal =
    ends_over x.who.number view upgrade spec e x.pass y.pass z.pass z2.pass s s1 s2 s3 x.sink y.sink z.sink z2.sink x.clock y.clock z.clock z2.clock old new
    st.stands (subst (λ o. NextSays old new o s1 s2) at says)
    (subst (λ w. OpensOver (request_of view) upgrade spec (record y { who = w }) z) st.who opens) sink
    (subst (λ w. Overtakes upgrade spec e (record z { who = w }) z2 new.ahead s2 s3) (who ∙ st.who) over) legal

pub closes_at : (n : Next) (x y : ConnectionView) (s s1 s2 : SourceView) (old new : Reading) → StandsAt x y s s1 old → n ≡ next.End
    → NextSays old new n s1 s2 → IsLegal y.pass.charter y.pass.seen → ServesAt E.Closed x y s s2
closes_at n x y s s1 s2 old new st at says legal =
    ends_closed x.who.number x.pass y.pass s s1 s2 x.sink y.sink x.clock y.clock old new st.stands (subst (λ o. NextSays old new o s1 s2) at says) legal

pub cut_at : (n : Next) (x y : ConnectionView) (s s1 s2 : SourceView) (old new : Reading) → StandsAt x y s s1 old → n ≡ next.CutShort
    → NextSays old new n s1 s2 → IsLegal y.pass.charter y.pass.seen → ServesAt E.CutShort x y s s2
cut_at n x y s s1 s2 old new st at says legal =
    ends_cut x.who.number x.pass y.pass s s1 s2 x.sink y.sink x.clock y.clock old new st.stands (subst (λ o. NextSays old new o s1 s2) at says) legal

pub fault_at : (n : Next) (x y : ConnectionView) (s s1 s2 : SourceView) (old new : Reading) → StandsAt x y s s1 old → n ≡ next.ReadFault
    → NextSays old new n s1 s2 → IsLegal y.pass.charter y.pass.seen → ServesAt E.ReadFault x y s s2
fault_at n x y s s1 s2 old new st at says legal =
    ends_fault x.who.number x.pass y.pass s s1 s2 x.sink y.sink x.clock y.clock old new st.stands (subst (λ o. NextSays old new o s1 s2) at says) legal

-- z is y as it is seen from inside
pub bad_at : (w : Result (Unit {0}) Failed) (n : Next) (status at : ℕ) (x y z : ConnectionView) (s s1 s2 : SourceView) (u : SinkView) (old new : Reading)
    → StandsAt x y s s1 old → n ≡ next.Bad status at → NextSays old new n s1 s2 → z ≡ y → WriteSays w (refusal_bytes status) z.sink u
    → IsLegal z.pass.charter z.pass.seen → ServesAt (ending_of_refusal w status) x (record z { sink = u }) s s2
bad_at w n status at x y z s s1 s2 u old new st is says same wrote legal =
    let st' : StandsAt x z s s1 old = subst (λ v. StandsAt x v s s1 old) (sym same) st in
    ends_bad w x.who.number status at x.pass z.pass s s1 s2 x.sink z.sink u x.clock z.clock old new st'.stands
    (subst (λ o. NextSays old new o s1 s2) is says) wrote legal

-- memory was refused before anything was read
pub unread_at : (x x' : ConnectionView) (s : SourceView) → x' ≡ x → HasNumbers x → IsLegal x'.pass.charter x'.pass.seen → ServesAt E.NoMemory x x' s s
unread_at x x' s is has legal =
    subst (λ v. IsLegal v.pass.charter v.pass.seen → ServesAt E.NoMemory x v s s) (sym is)
    (λ l. ended_unread x.who.number x.pass s x.sink x.clock has.pair l) legal

-- ---- a takeover: x' is x as it is seen from inside

pub head_lost_at : (upgrade : Bool) (spec : LogSpec) (f : Failed) (x x' : ConnectionView) (u : SinkView) (ahead : List ℕ) (s : SourceView) → x' ≡ x
    → HasNumbers x → WriteSays (Err f) (takeover_head (takeover upgrade)) x'.sink u
    → Overtakes upgrade spec E.WriteFault x (record x' { sink = u }) ahead s s
head_lost_at upgrade spec f x x' u ahead s is has says =
    subst (λ v. Overtakes upgrade spec E.WriteFault v (record x' { sink = u }) ahead s s) is
    (head_lost x'.who.number upgrade spec f x'.pass ahead s x'.sink u x'.clock (subst (λ (v : ConnectionView). IsTrue v.pass.pair) (sym is) has.pair) says)

pub taken_over_at : (upgrade : Bool) (spec : LogSpec) (f : Followed) (end : Option PumpEnd) (e : Ending) (x x' y : ConnectionView) (u : SinkView)
    (ahead : List ℕ) (s s' : SourceView) → x' ≡ x → SinkTook x'.sink (takeover_head (takeover upgrade)) u
    → RunsOver spec f end (record x' { sink = u }) y ahead s s' → e ≡ ending_of_ends f end → Overtakes upgrade spec e x y ahead s s'
taken_over_at upgrade spec f end e x x' y u ahead s s' is took runs ending =
    subst (λ v. Overtakes upgrade spec e v y ahead s s') is
    (taken_over x'.who.number upgrade spec f end e x'.pass y.pass ahead s s' x'.sink u y.sink x'.clock y.clock took runs ending)
