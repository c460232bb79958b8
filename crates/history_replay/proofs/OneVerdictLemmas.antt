-- A text has one verdict: it begins with one line at most, which is right or is wrong in one way.
use Rattle.std.proofs.Common.{◌≡◌, ◌+◌, ℕ, List, [], ◌++◌, refl, sym, ap, subst, ◌∙◌, arith, inl, inr}
use Rattle.std.specs.Prelude.{decimal}
use Rattle.std.proofs.lemmas.Bool.{false≢true, cases_lt}
use Rattle.std.proofs.lemmas.List.{append_cancel_left}
use Rattle.machine_model.specs.State.{State}
use Rattle.machine_model.specs.History.{Charter, opening_state}
use Rattle.journal_lines.specs.JournalLines.{journal_line, header_line, IsHeader}
use Rattle.journal_lines.specs.Due.{TellsDueCount, IsLeastDueCount}
use Rattle.journal_lines.specs.Entry.{IsWrong, NoTicket, OtherDues, NotReady, OtherReply, IsRight, behind_entry}
use Rattle.journal_lines.specs.Line.{HasLine}
use Rattle.journal_lines.specs.Verdict.{IsVerdictFrom, AtEnd, AtNoLine, AtWrongLine, AfterRightLine, Reading, behind_header, without_header, IsReadAs, BehindHeader, WithoutHeader}
use Rattle.journal_lines.specs.declared.format.Format.{Format}
use Rattle.journal_lines.specs.declared.header.Header.{Header}
use Rattle.journal_lines.specs.declared.verdict.Verdict.{Verdict}
use Rattle.journal_lines.specs.declared.verdict.Verdict.TheVariants.{Illegal}
use Rattle.journal_lines.proofs.EntryLemmas.{one_line}
use Rattle.journal_lines.proofs.HeaderLemmas.{header, one_header}
use Rattle.engine_text.specs.declared.entry.Entry.{Entry}
use Rattle.history_replay.specs.Legal.{OneVerdictLaw}
use Rattle.history_replay.proofs.LineEndLemmas.{line_is_first, header_is_first, same_line}
use Rattle.history_replay.proofs.VerdictLemmas.{some, first_some}

-- ---- the first line

-- two lines that a text begins with are one entry's, and as much is left
pub same_entry : (format : Format) (e f : Entry) (a b : List ℕ) → HasLine e → HasLine f → journal_line format e ++ a ≡ journal_line format f ++ b → (e ≡ f) × (a ≡ b)
same_entry format e f a b has also is =
    let line : journal_line format e ≡ journal_line format f =
    same_line (journal_line format e) (journal_line format f) a b (line_is_first format e has) (line_is_first format f also) is in
    let rest : journal_line format e ++ a ≡ journal_line format e ++ b = is ∙ ap (λ l. l ++ b) (sym line) in
    (one_line format e f has also line, append_cancel_left (journal_line format e) a b rest)

-- and so are two headers
pub same_head : (s t : List ℕ) (m n : ℕ) (a b : List ℕ) → IsHeader s m → IsHeader t n → header_line s m ++ a ≡ header_line t n ++ b
    → (header s m ≡ header t n) × (a ≡ b)
same_head s t m n a b h k is =
    let line : header_line s m ≡ header_line t n = same_line (header_line s m) (header_line t n) a b (header_is_first s m h) (header_is_first t n k) is in
    let rest : header_line s m ++ a ≡ header_line s m ++ b = is ∙ ap (λ l. l ++ b) (sym line) in
    (one_header s t m n h k line, append_cancel_left (header_line s m) a b rest)

-- no line is empty
pub full : (format : Format) (e : Entry) (rest : List ℕ) → HasLine e → journal_line format e ++ rest ≡ [] → ⊥
full format e rest has = some (journal_line format e) rest (first_some (journal_line format e) (line_is_first format e has))

-- ---- an entry

one_least : (s : State) (e : Entry) (n m : ℕ) → IsLeastDueCount s e n → IsLeastDueCount s e m → n ≡ m
one_least s e n m a b = elim (cases_lt n m) [
  | inl less ↦ absurd (b.1 n less a.0)
  | inr least ↦ elim (cases_lt m n) [
    | inl less ↦ absurd (a.1 m less b.0)
    | inr most ↦ omega (arith, least, most)
  ]
]

one_count : (s : State) (e : Entry) (x y : List ℕ) → TellsDueCount s e x → TellsDueCount s e y → x ≡ y
one_count s e x y (inl (n, least, is)) (inl (m, also, at)) = is ∙ ap decimal (one_least s e n m least also) ∙ sym at
one_count s e x y (inl (n, least, is)) (inr (never, at)) = absurd (never n least.0)
one_count s e x y (inr (never, is)) (inl (m, also, at)) = absurd (never m also.0)
one_count s e x y (inr (never, is)) (inr (none, at)) = is ∙ sym at

one_wrong : (s : State) (e : Entry) (kept found old new : List ℕ) → IsWrong s e kept found → IsWrong s e old new → (kept ≡ old) × (found ≡ new)
one_wrong s e _ _ _ _ (NoTicket lacks) (NoTicket also) = (refl, refl)
one_wrong s e _ _ _ _ (NoTicket lacks) (OtherDues found holds other tells) = absurd (false≢true (sym holds ∙ lacks))
one_wrong s e _ _ _ _ (NoTicket lacks) (NotReady holds dues never) = absurd (false≢true (sym holds ∙ lacks))
one_wrong s e _ _ _ _ (NoTicket lacks) (OtherReply holds dues can differs) = absurd (false≢true (sym holds ∙ lacks))
one_wrong s e _ _ _ _ (OtherDues found holds other tells) (NoTicket lacks) = absurd (false≢true (sym holds ∙ lacks))
one_wrong s e _ _ _ _ (OtherDues found holds other tells) (OtherDues new also otherwise told) = (refl, one_count s e found new tells told)
one_wrong s e _ _ _ _ (OtherDues found holds other tells) (NotReady also dues never) = absurd (other dues)
one_wrong s e _ _ _ _ (OtherDues found holds other tells) (OtherReply also dues can differs) = absurd (other dues)
one_wrong s e _ _ _ _ (NotReady holds dues never) (NoTicket lacks) = absurd (false≢true (sym holds ∙ lacks))
one_wrong s e _ _ _ _ (NotReady holds dues never) (OtherDues found also other tells) = absurd (other dues)
one_wrong s e _ _ _ _ (NotReady holds dues never) (NotReady also counts neither) = (refl, refl)
one_wrong s e _ _ _ _ (NotReady holds dues never) (OtherReply also counts can differs) = absurd (false≢true (sym never ∙ can))
one_wrong s e _ _ _ _ (OtherReply holds dues can differs) (NoTicket lacks) = absurd (false≢true (sym holds ∙ lacks))
one_wrong s e _ _ _ _ (OtherReply holds dues can differs) (OtherDues found also other tells) = absurd (other dues)
one_wrong s e _ _ _ _ (OtherReply holds dues can differs) (NotReady also counts never) = absurd (false≢true (sym never ∙ can))
one_wrong s e _ _ _ _ (OtherReply holds dues can differs) (OtherReply also counts may unlike) = (refl, refl)

not_both : (s : State) (e : Entry) (kept found : List ℕ) → IsRight s e → IsWrong s e kept found → ⊥
not_both s e _ _ right (NoTicket lacks) = false≢true (sym right.ticket ∙ lacks)
not_both s e _ _ right (OtherDues found holds other tells) = other right.dues
not_both s e _ _ right (NotReady holds dues never) = false≢true (sym never ∙ right.ready)
not_both s e _ _ right (OtherReply holds dues can differs) = differs right.reply

-- ---- a text

wrong_again : (s : State) (n : ℕ) (e f : Entry) (kept found old new : List ℕ) → e ≡ f → IsWrong s e kept found → IsWrong s f old new
    → Illegal n kept found ≡ Illegal n old new
wrong_again s n e f kept found old new same wrong also =
    let both = one_wrong s f kept found old new (subst (λ x. IsWrong s x kept found) same wrong) also in
    ap (λ k. Illegal n k found) both.0 ∙ ap (Illegal n old) both.1

one_from : (format : Format) (s : State) (n : ℕ) (t u : List ℕ) (v w : Verdict) → IsVerdictFrom format s n t v → IsVerdictFrom format s n u w → t ≡ u → v ≡ w
one_from format _ _ _ _ _ _ (AtEnd s n) (AtEnd _ _) is = refl
one_from format _ _ _ _ _ _ (AtEnd s n) (AtNoLine _ _ text some none) is = absurd (some (sym is))
one_from format _ _ _ _ _ _ (AtEnd s n) (AtWrongLine _ _ e rest kept found has wrong) is = absurd (full format e rest has (sym is))
one_from format _ _ _ _ _ _ (AtEnd s n) (AfterRightLine _ _ e rest w has right more) is = absurd (full format e rest has (sym is))
one_from format _ _ _ _ _ _ (AtNoLine s n text some none) (AtEnd _ _) is = absurd (some is)
one_from format _ _ _ _ _ _ (AtNoLine s n text some none) (AtNoLine _ _ other also never) is = refl
one_from format _ _ _ _ _ _ (AtNoLine s n text some none) (AtWrongLine _ _ e rest kept found has wrong) is =
    absurd (none (journal_line format e, rest, (e, has, refl), sym is))
one_from format _ _ _ _ _ _ (AtNoLine s n text some none) (AfterRightLine _ _ e rest w has right more) is =
    absurd (none (journal_line format e, rest, (e, has, refl), sym is))
one_from format _ _ _ _ _ _ (AtWrongLine s n e rest kept found has wrong) (AtEnd _ _) is = absurd (full format e rest has is)
one_from format _ _ _ _ _ _ (AtWrongLine s n e rest kept found has wrong) (AtNoLine _ _ text some none) is =
    absurd (none (journal_line format e, rest, (e, has, refl), is))
one_from format _ _ _ _ _ _ (AtWrongLine s n e rest kept found has wrong) (AtWrongLine _ _ f more old new also other) is =
    wrong_again s n e f kept found old new (same_entry format e f rest more has also is).0 wrong other
one_from format _ _ _ _ _ _ (AtWrongLine s n e rest kept found has wrong) (AfterRightLine _ _ f more w also right on) is =
    absurd (not_both s f kept found right (subst (λ x. IsWrong s x kept found) (same_entry format e f rest more has also is).0 wrong))
one_from format _ _ _ _ _ _ (AfterRightLine s n e rest v has right on) (AtEnd _ _) is = absurd (full format e rest has is)
one_from format _ _ _ _ _ _ (AfterRightLine s n e rest v has right on) (AtNoLine _ _ text some none) is =
    absurd (none (journal_line format e, rest, (e, has, refl), is))
one_from format _ _ _ _ _ _ (AfterRightLine s n e rest v has right on) (AtWrongLine _ _ f more old new also wrong) is =
    absurd (not_both s f old new (subst (IsRight s) (same_entry format e f rest more has also is).0 right) wrong)
one_from format _ _ _ _ _ _ (AfterRightLine s n e rest v has right on) (AfterRightLine _ _ f more w also good next) is =
    let same = same_entry format e f rest more has also is in
    one_from format (behind_entry s f) (n + 1) rest more v w (subst (λ x. IsVerdictFrom format (behind_entry s x) (n + 1) rest v) same.0 on) next same.1

-- ---- how a text is read

-- a text is read in one way
one_reading : (given : Charter) (t u : List ℕ) (r q : Reading) → IsReadAs given t r → IsReadAs given u q → t ≡ u → r ≡ q
one_reading given _ _ _ _ (BehindHeader s m a h) (BehindHeader x n b k) is =
    let (head, rest) = same_head s x m n a b h k is in
    ap (λ (l : Header). behind_header given l.seed l.opening a) head ∙ ap (behind_header given x n) rest
one_reading given _ _ _ _ (BehindHeader s m a h) (WithoutHeader text none) is = absurd (none (s, m, a, h, is))
one_reading given _ _ _ _ (WithoutHeader text none) (BehindHeader s m a h) is = absurd (none (s, m, a, h, sym is))
one_reading given _ _ _ _ (WithoutHeader text none) (WithoutHeader more also) is = ap (without_header given) is

pub one_verdict_law : OneVerdictLaw
one_verdict_law given text v w (r, read, a) (q, again, b) =
    let same = one_reading given text text r q read again refl in
    let other = subst (λ (x : Reading). IsVerdictFrom x.format (opening_state x.charter) x.first x.lines w) (sym same) b in
    one_from r.format (opening_state r.charter) r.first r.lines r.lines v w a other refl
