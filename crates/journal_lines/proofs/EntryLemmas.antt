-- The entry that an entry's line says is that entry.
use Rattle.std.proofs.Common.{◌≡◌, ◌<◌, ◌^◌, ℕ, List, codes, Bool, true, false, if◌then◌else◌, Option, Some, None, option_map, Result, Ok, Err, IfOk, IfErr, refl, sym, ap, ◌∙◌, subst, arith}
use Rattle.std.specs.Prelude.{IfSome, IsTrue}
use Rattle.serde_json.specs.Data.{Data}
use Rattle.serde_json.specs.Find.{get}
use Rattle.json_laws.specs.Sound.{IsCarried}
use Rattle.json_laws.proofs.RoundTrip.{some_same}
use Rattle.json_laws.proofs.Lines.{line_text-injective}
use Rattle.json_laws.proofs.Sound.{object-sound, unsigned-sound}
use Rattle.engine_text.specs.Soundness.{IsSound}
use Rattle.machine_model.specs.History.{is_drop}
use Rattle.journal_lines.specs.JournalLines.{entry_value, reply_value, journal_line}
use Rattle.engine_text.specs.declared.call.Call.{Call}
use Rattle.engine_text.specs.declared.entry.Entry.{Entry}
use Rattle.engine_text.specs.declared.reply.Reply.{Reply}
use Rattle.engine_text.specs.declared.reply.Reply.TheVariants.{Answer, Begun, LogStream, EventStream, JournalStream, Fed, Dropped}
use Rattle.journal_lines.specs.Line.{HasLine, IsLineFault, told_reply, told_entry}
use Rattle.journal_lines.specs.declared.format.Format.{Format}
use Rattle.journal_lines.specs.declared.fault.LineFault.{LineFault}
use Rattle.journal_lines.specs.declared.fault.LineFault.TheVariants.{BadLine, NoMemory}
use Rattle.journal_lines.specs.Reading.Parts.{IsRefusal, and_then, text_at, flag_at, natural_at, count_at, status_at}
use Rattle.journal_lines.specs.Reading.Entries.{has_key, answer_in, dropped_in, reply_in, call_at, reply_at, entry_in}
use Rattle.journal_lines.specs.FitsTypes.{EntryFitsTypes, ReplyFitsTypes}
use Rattle.journal_lines.proofs.MemberLemmas.{members}
use Rattle.journal_lines.proofs.PartLemmas.{at_most-is, count_back}
use Rattle.journal_lines.proofs.CallLemmas.{call_back}
use Rattle.journal_lines.proofs.CarriedLemmas.{call_sound, reply_sound}

-- its line tells the whole reply, and only a drop is answered by its ticket's end
abbrev pub IsTellable : Call → Reply → Type 0
IsTellable c r = (told_reply r ≡ r) × (r ≡ Dropped → IsTrue (is_drop c))

reply_back : (c : Call) (r : Reply) → ReplyFitsTypes r → IsTellable c r → reply_in c (reply_value c r) ≡ Some r
reply_back c (Answer status body) fits told = rw (at_most-is 65535 status (omega (arith, fits.0))) refl
reply_back c (Begun ticket) fits told = refl
reply_back c (LogStream spec) fits told = absurd (cc told.0)
reply_back c (EventStream first until filter) fits told = absurd (cc told.0)
reply_back c (JournalStream count) fits told = refl
reply_back c (Fed taken) fits told = refl
reply_back c Dropped fits told = rw (told.1 refl) refl

pub entry_back : (format : Format) (e : Entry) → HasLine e → entry_in (entry_value format e) ≡ Some e
entry_back format e h =
    rw (call_back format e.call h.sound h.types.call, count_back e.conn h.types.conn, reply_back e.call e.reply h.types.reply (h.told, h.dropped)) refl

-- an entry that has a line is carried by it
pub is_carried : (format : Format) (e : Entry) → HasLine e → IsCarried (entry_value format e)
is_carried format e h = object-sound 126 (members (entry_value format e)) refl (
  call_sound format e.call h.sound h.types.call,
  (
    unsigned-sound 126 e.conn (let low : e.conn < 2 ^ 32 = h.types.conn in omega (arith, low)),
    (
      unsigned-sound 126 e.dues h.types.dues,
      (unsigned-sound 126 e.moment h.types.moment, (reply_sound e.call e.reply h.types.call h.types.reply, tt)),
    ),
  ),
)

-- two entries with one line are the same
pub one_line : (format : Format) (e f : Entry) → HasLine e → HasLine f → journal_line format e ≡ journal_line format f → e ≡ f
one_line format e f h k same =
    some_same
    (sym (entry_back format e h)
    ∙ ap entry_in (line_text-injective (entry_value format e) (entry_value format f) (is_carried format e h) (is_carried format f k) same)
    ∙ entry_back format f k)

-- the entry that was read is that of the line
pub entry_same : (format : Format) (d : Data) (x e : Entry) → entry_in d ≡ Some x → d ≡ entry_value format e → HasLine e → x ≡ e
entry_same format d x e read same h = some_same (sym read ∙ ap entry_in same ∙ entry_back format e h)

-- where nothing is read there is no line
pub not_read : (format : Format) (line : List ℕ) (d : Data) (fault : LineFault) → ((e : Entry) → HasLine e → journal_line format e ≡ line → d ≡ entry_value format e)
    → IsRefusal (entry_in d) fault → IsLineFault format line fault
not_read format line d BadLine is none = λ w.
    let read = sym none ∙ ap entry_in (is w.0 w.1 w.2) ∙ entry_back format w.0 w.1 in
    cc read
not_read format line d NoMemory is none = tt

-- ---- what is read is told by a line

then_so : {A B : Type 0} (P : B → Type 0) (o : Option A) (next : A → Option B) → ((a : A) → IfSome (next a) P) → IfSome (and_then o next) P
then_so P None next so = tt
then_so P (Some a) next so = so a

then_with : {A B : Type 0} (Q : A → Type 0) (P : B → Type 0) (o : Option A) (next : A → Option B) → IfSome o Q
    → ((a : A) → Q a → IfSome (next a) P) → IfSome (and_then o next) P
then_with Q P None next q so = tt
then_with Q P (Some a) next q so = so a q

map_so : {A B : Type 0} (P : B → Type 0) (f : A → B) (o : Option A) → ((a : A) → P (f a)) → IfSome (option_map f o) P
map_so P f None so = tt
map_so P f (Some a) so = so a

if_so : {B : Type 0} (P : B → Type 0) (b : Bool) (o p : Option B) → IfSome o P → IfSome p P → IfSome (if b then o else p) P
if_so P true o p x y = x
if_so P false o p x y = y

answer_told : (c : Call) (d : Data) → IfSome (answer_in d) (IsTellable c)
answer_told c d =
    then_so (IsTellable c) (status_at (codes "status") d) _ (λ status.
    then_so (IsTellable c) (text_at (codes "body") d) _ (λ body. (refl, λ e. absurd (cc e))))

dropped_told : (c : Call) (d : Data) → IfSome (dropped_in (is_drop c) d) (IsTellable c)
dropped_told c d = go (is_drop c) refl
  where
    go : (b : Bool) → is_drop c ≡ b → IfSome (dropped_in b d) (IsTellable c)
    go true e = map_so (IsTellable c) (λ (ticket : Data). Dropped) (get (codes "dropped") d) (λ ticket. (refl, λ is. e))
    go false e = tt

reply_told : (c : Call) (d : Data) → IfSome (reply_in c d) (IsTellable c)
reply_told c d =
    if_so (IsTellable c) (has_key (codes "body") d) _ _ (answer_told c d)
    (if_so (IsTellable c) (has_key (codes "ticket") d) _ _ (map_so (IsTellable c) Begun (natural_at (codes "ticket") d) (λ n. (refl, λ e. absurd (cc e))))
    (if_so (IsTellable c) (has_key (codes "from") d) _ _ (map_so (IsTellable c) JournalStream (natural_at (codes "from") d) (λ n. (refl, λ e. absurd (cc e))))
    (if_so (IsTellable c) (has_key (codes "fed") d) _ _ (map_so (IsTellable c) Fed (flag_at (codes "fed") d) (λ b. (refl, λ e. absurd (cc e))))
    (dropped_told c d))))

abbrev IsEntryTold : Entry → Type 0
IsEntryTold e = IsTellable e.call e.reply

if_told : (d : Data) → IfSome (entry_in d) IsEntryTold
if_told d =
    then_so IsEntryTold (count_at (codes "conn") d) _ (λ conn.
    then_so IsEntryTold (natural_at (codes "dues") d) _ (λ dues.
    then_so IsEntryTold (natural_at (codes "moment") d) _ (λ moment.
    then_so IsEntryTold (call_at d) _ (λ call.
    then_with (IsTellable call) IsEntryTold (reply_at call d) _ (then_so (IsTellable call) (get (codes "reply") d) (reply_in call) (reply_told call))
    (λ reply told. told)))))

-- an entry that was read is told by its line, and has one where a request can make its call
pub entry_told : (d : Data) (e : Entry) → entry_in d ≡ Some e → IsTellable e.call e.reply
entry_told d e read = subst (λ (o : Option Entry). IfSome o IsEntryTold) read (if_told d)

pub has_line : (e : Entry) → IsSound e.call → IsTellable e.call e.reply → EntryFitsTypes e → HasLine e
has_line e sound told types = record { sound = sound; types = types; told = told.0; dropped = told.1 }

-- ---- what is read of a line

pub told_value : (c : Call) (r : Reply) → reply_value c (told_reply r) ≡ reply_value c r
told_value c (Answer status body) = refl
told_value c (Begun ticket) = refl
told_value c (LogStream spec) = refl
told_value c (EventStream first until filter) = refl
told_value c (JournalStream count) = refl
told_value c (Fed taken) = refl
told_value c Dropped = refl

pub told_line : (format : Format) (e : Entry) → journal_line format (told_entry e) ≡ journal_line format e
told_line format e = rw (told_value e.call e.reply) refl

-- whatever is read of an entry's line is that entry, and a refusal of it is want of memory
pub reads_back : (format : Format) (e : Entry) (line : List ℕ) (r : Result Entry LineFault) → HasLine (told_entry e) → line ≡ journal_line format e
    → IfOk r (λ x. HasLine x × (journal_line format x ≡ line)) → IfErr r (λ fault. IsLineFault format line fault)
    → IfOk r (λ x. x ≡ told_entry e) × IfErr r (λ fault. fault ≡ NoMemory)
reads_back format e line (Ok x) h is taken refused =
    let same : journal_line format x ≡ journal_line format (told_entry e) = taken.1 ∙ is ∙ sym (told_line format e) in
    (one_line format x (told_entry e) taken.0 h same, tt)
reads_back format e line (Err BadLine) h is taken refused = absurd (refused (told_entry e, h, told_line format e ∙ sym is))
reads_back format e line (Err NoMemory) h is taken refused = (tt, refl)
