-- Answers, as they are put on their way.
use Rattle.std.proofs.Common.{arith, ◌≡◌, ◌<◌, ℕ, List, [], ◌∷◌, ◌++◌, length, inl, refl, sym, ◌∙◌, ap, subst, append_assoc, append-nil, if◌then◌else◌}
use Rattle.std.specs.Prelude.{IsTrue, IsFalse, codes}
use Rattle.http_edge.specs.Chunks.{hex_text, last_chunk}
use Rattle.http_edge.specs.Response.{head_text}
use Rattle.http_edge.specs.declared.head.Form.{Form}
use Rattle.api_routes.specs.declared.class.DirectAnswer.{DirectAnswer}
use Rattle.api_routes.specs.declared.class.DirectKind.{DirectKind}
use Rattle.session_model.specs.declared.terms.Terms.{Terms}
use Rattle.session_model.specs.Exchange.{flow_of}
use Rattle.session_model.specs.Responses.{direct_of_kind, whole_bytes}
use Rattle.exchange_laws.specs.Answers.{one_chunk}
use Rattle.engine_text.specs.declared.reply.Reply.{Reply}
use Rattle.engine_text.specs.declared.reply.Reply.TheVariants as reply
use Rattle.daemon_core.specs.Whole.{IsAnswer as IsWhole}
use Rattle.polled_steps.specs.Answers.{AnswersChunk, AnswersDirect, GoesBehind, IsAnswer}
use Rattle.polled_steps.specs.Bytes.{reply_bytes, rest_of}
use Rattle.polled_steps.specs.declared.answers.Answer.{Answer as Outgoing}

-- ---- by whether the body is sent

pub whole_bare : (terms : Terms) (status : ℕ) (form : Form) (body front rest : List ℕ) → IsTrue terms.bare
    → front ≡ head_text (record { status = status; form = form; close = terms.close }) → rest ≡ front ++ [] ++ [] → rest ≡ whole_bytes terms status form body
whole_bare terms status form body front rest bare is all =
    let head : List ℕ = head_text (record { status = status; form = form; close = terms.close }) in
    all ∙ append-nil (front ++ []) ∙ append-nil front ∙ is ∙ sym (ap (λ b. if b then head else head ++ body) bare)

pub whole_full : (terms : Terms) (status : ℕ) (form : Form) (body front rest : List ℕ) → IsFalse terms.bare
    → front ≡ head_text (record { status = status; form = form; close = terms.close }) → rest ≡ front ++ body ++ [] → rest ≡ whole_bytes terms status form body
whole_full terms status form body front rest bare is all =
    let head : List ℕ = head_text (record { status = status; form = form; close = terms.close }) in
    all ∙ append-nil (front ++ body) ∙ ap (λ l. l ++ body) is ∙ sym (ap (λ b. if b then head else head ++ body) bare)

-- ---- by the kind of a direct answer

pub direct_by : (terms : Terms) (answer : DirectAnswer) (kind : DirectKind) (a : Outgoing) → answer.kind ≡ kind
    → IsAnswer a (flow_of terms) (direct_of_kind terms kind answer.status answer.text) → AnswersDirect terms answer a
direct_by terms answer kind a is gives =
    inl (subst (λ k. IsAnswer a (flow_of terms) (direct_of_kind terms k answer.status answer.text)) (sym is) gives)

-- ---- a body by chunks

pub no_chunk : (body rest : List ℕ) → length body ≡ 0 → rest ≡ codes "0\r\n\r\n" ++ [] ++ [] → rest ≡ one_chunk body ++ last_chunk
no_chunk [] rest none all = all
no_chunk (b ∷ body) rest none all = absurd (omega (arith, none))

pub whole_chunk : (body front rest : List ℕ) → 0 < length body → front ≡ hex_text (length body) ++ codes "\r\n"
    → rest ≡ front ++ body ++ (codes "\r\n" ++ last_chunk) → rest ≡ one_chunk body ++ last_chunk
whole_chunk [] front rest some is all = absurd (omega (arith, some))
whole_chunk (b ∷ body) front rest some is all =
    all ∙ ap (λ l. l ++ (b ∷ body) ++ (codes "\r\n" ++ last_chunk)) is
    ∙ sym (append_assoc (hex_text (length (b ∷ body)) ++ codes "\r\n" ++ (b ∷ body)) (codes "\r\n") last_chunk)

-- of a reply that is an answer
pub gives_chunk : (terms : Terms) (given : Reply) (a : Outgoing) (front body : List ℕ) → IsWhole given → 0 < length (reply_bytes given) → body ≡ reply_bytes given
    → front ≡ hex_text (length body) ++ codes "\r\n" → rest_of a.out ≡ front ++ reply_bytes given ++ (codes "\r\n" ++ last_chunk)
    → GoesBehind a.next (flow_of terms) → AnswersChunk terms given a
gives_chunk terms (reply.Answer status bytes) a front body whole some is line all behind = (
  status,
  bytes,
  refl,
  record { bytes_are = whole_chunk bytes front (rest_of a.out) some (line ∙ ap (λ l. hex_text (length l) ++ codes "\r\n") is) all; behind = behind },
)
gives_chunk terms given a front body whole some is line all behind = absurd whole

-- ---- a part of a stream as a chunk, behind which more come

pub no_part : (body : List ℕ) → length body ≡ 0 → one_chunk body ≡ []
no_part [] none = refl
no_part (b ∷ body) none = absurd (omega (arith, none))

pub part_chunk : (body : List ℕ) (len : ℕ) (front rest : List ℕ) → 0 < len → len ≡ length body → front ≡ hex_text len ++ codes "\r\n"
    → rest ≡ front ++ body ++ codes "\r\n" → rest ≡ one_chunk body
part_chunk [] len front rest some is line all = absurd (omega (arith, some, is))
part_chunk (b ∷ body) len front rest some is line all =
    all ∙ ap (λ l. l ++ (b ∷ body) ++ codes "\r\n") (line ∙ ap (λ n. hex_text n ++ codes "\r\n") is)

-- ---- and as the last one

pub last_alone : (body front rest : List ℕ) → length body ≡ 0 → front ≡ codes "0\r\n\r\n" → rest ≡ front ++ [] ++ [] → rest ≡ one_chunk body ++ last_chunk
last_alone body front rest none line all = no_chunk body rest none (all ∙ ap (λ l. l ++ [] ++ []) line)

pub last_part : (body : List ℕ) (len : ℕ) (front rest : List ℕ) → 0 < len → len ≡ length body → front ≡ hex_text len ++ codes "\r\n"
    → rest ≡ front ++ body ++ (codes "\r\n" ++ last_chunk) → rest ≡ one_chunk body ++ last_chunk
last_part body len front rest some is line all =
    whole_chunk body front rest (omega (arith, some, is)) (line ∙ ap (λ n. hex_text n ++ codes "\r\n") is) all
