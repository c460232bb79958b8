-- Bytes of an answer that are on their way out (own: they are held by what owns them).
use Rattle.std.specs.Prelude.{ℕ, List, [], ◌∷◌, ◌++◌, codes, drop}
use Rattle.engine_text.specs.declared.reply.Reply.{Reply}
use Rattle.engine_text.specs.declared.reply.Reply.TheVariants.{Answer}
use Rattle.http_edge.specs.Chunks.{last_chunk}
use Rattle.machine_model.specs.Outcome.{message_text}
use Rattle.exchange_laws.specs.Fixed.{fixed_text}
use Rattle.polled_steps.specs.declared.outgoing.Body.{Body}
use Rattle.polled_steps.specs.declared.outgoing.Outgoing.{Outgoing}
use Rattle.polled_steps.specs.declared.outgoing.Tail.{Tail}

-- the body of a reply that is an answer; of another one none
abbrev pub reply_bytes : Reply → List ℕ
reply_bytes (Answer status body) = body
reply_bytes reply = []

abbrev pub body_bytes : Body → List ℕ
body_bytes Body.None = []
body_bytes (Body.Reply reply) = reply_bytes reply
body_bytes (Body.Text text) = text
body_bytes (Body.Fixed fixed) = message_text (fixed_text fixed)
body_bytes (Body.Part bytes) = bytes.items

-- the end of a chunk that a body is; and the last chunk behind that
abbrev pub tail_bytes : Tail → List ℕ
tail_bytes Tail.None = []
tail_bytes Tail.Line = codes "\r\n"
tail_bytes Tail.Chunk = codes "\r\n" ++ last_chunk

-- what is still to be written of each part
abbrev pub front_left : Outgoing → List ℕ
front_left out = drop out.front_sent out.front

abbrev pub body_left : Outgoing → List ℕ
body_left out = drop out.body_sent (body_bytes out.body)

abbrev pub tail_left : Outgoing → List ℕ
tail_left out = drop out.tail_sent (tail_bytes out.tail)

-- and of all of it
abbrev pub rest_of : Outgoing → List ℕ
rest_of out = front_left out ++ body_left out ++ tail_left out

-- the first of these that has some byte
abbrev pub first_some : List ℕ → List ℕ → List ℕ → List ℕ
first_some (x ∷ a) b c = x ∷ a
first_some [] (y ∷ b) c = y ∷ b
first_some [] [] c = c

-- what is written next
abbrev pub next_of : Outgoing → List ℕ
next_of out = first_some (front_left out) (body_left out) (tail_left out)
