-- What a turn came to with a call that gives a stream.
use Rattle.std.proofs.Common.{◌≡◌, ℕ, refl, sym, subst, Option, Some, None}
use Rattle.std.specs.Prelude.{IsSome, IsTrue}
use Rattle.std.proofs.lemmas.Bool.{false≢true}
use Rattle.engine_text.specs.declared.call.Call.{Call}
use Rattle.engine_text.specs.declared.reply.Reply.{Reply}
use Rattle.http_edge.specs.declared.head.Form.{Form}
use Rattle.session_model.specs.declared.turned.Turned.TheVariants as T
use Rattle.session_model.specs.Pass.{PassView}
use Rattle.session_model.specs.Responses.{chunked_form}
use Rattle.session_model.specs.Turning.{Turn}
use Rattle.attach_hub.specs.Following.{CanFollow}
use Rattle.exchange_laws.specs.Kinds.{IsStreamed}
use Rattle.exchange_laws.proofs.ReplyLemmas.{opened, stream_answers, streams_end_none}
use Rattle.polled_steps.specs.Opening.{IsOpenedBy, OpensOnce}
use Rattle.polled_steps.specs.declared.opening.Opened.{Opened}
use Rattle.polled_steps.proofs.TurnLemmas.{came}

some_form : (o : Option Form) → IsSome o → (form : Form) × (o ≡ Some form)
some_form (Some form) some = (form, refl)
some_form None some = absurd (false≢true some)

-- its reply gives a stream, or is a whole answer
pub opens_reply : (k handed : ℕ) (c : Call) (reply : Reply) (o : Opened) (p q : PassView) → IsTrue p.pair → IsStreamed c → IsOpenedBy reply o
    → Turn k handed (Some c) (T.Replied reply) p q → OpensOnce k handed c o p q
opens_reply k handed c reply (Opened.Streams given) p q pair streams (same, some) turn =
    let t : Turn k handed (Some c) (T.Replied given) p q = subst (λ y. Turn k handed (Some c) (T.Replied y) p q) (sym same) turn in
    let form = some_form (chunked_form given) some in
    record {
      comes = came k handed c (T.Replied given) p q pair (streams_end_none c streams) t;
      so = (some, subst (λ ch. CanFollow ch q.seen given) t.turns.stays.charter (opened k handed c given form.0 p q streams form.1 t));
    }
opens_reply k handed c reply (Opened.Replied given) p q pair streams (same, none) turn =
    let t : Turn k handed (Some c) (T.Replied given) p q = subst (λ y. Turn k handed (Some c) (T.Replied y) p q) (sym same) turn in
    record {
      comes = came k handed c (T.Replied given) p q pair (streams_end_none c streams) t;
      so = stream_answers k handed c given p q streams t none;
    }
opens_reply k handed c reply Opened.JournalFull p q pair streams by turn = absurd by
opens_reply k handed c reply Opened.NoMemory p q pair streams by turn = absurd by

-- there was no room for it
pub opens_full : (k handed : ℕ) (c : Call) (p q : PassView) → IsTrue p.pair → IsStreamed c → Turn k handed (Some c) T.JournalFull p q
    → OpensOnce k handed c Opened.JournalFull p q
opens_full k handed c p q pair streams turn =
    record { comes = came k handed c T.JournalFull p q pair (streams_end_none c streams) turn; so = tt }

-- or no memory
pub opens_short : (k handed : ℕ) (c : Call) (p q : PassView) → IsTrue p.pair → IsStreamed c → Turn k handed (Some c) T.NoMemory p q
    → OpensOnce k handed c Opened.NoMemory p q
opens_short k handed c p q pair streams turn =
    record { comes = came k handed c T.NoMemory p q pair (streams_end_none c streams) turn; so = tt }
