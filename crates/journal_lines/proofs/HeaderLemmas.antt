-- The header that a header's line says is that header.
use Rattle.std.proofs.Common.{◌≡◌, ℕ, List, ◌++◌, get_or, Some, false, refl, sym, ap, ◌∙◌, arith}
use Rattle.hex.proofs.HexLemmas.{decode_sized-encode_lower}
use Rattle.serde_json.specs.Data.{Data}
use Rattle.serde_json.specs.Written.{has_float}
use Rattle.json.specs.Print.{escape_byte}
use Rattle.json_laws.specs.Sound.{IsCarried, line_text}
use Rattle.json_laws.proofs.RoundTrip.{some_same}
use Rattle.json_laws.proofs.Lines.{line_text-injective}
use Rattle.json_laws.proofs.Sound.{object-sound, unsigned-sound}
use Rattle.journal_lines.specs.JournalLines.{header_value, header_line, journal_line, IsHeader}
use Rattle.journal_lines.specs.Line.{IsHeaderFault}
use Rattle.journal_lines.specs.Reading.Parts.{IsRefusal}
use Rattle.journal_lines.specs.Reading.Headers.{header_in}
use Rattle.journal_lines.specs.declared.fault.LineFault.{LineFault}
use Rattle.journal_lines.specs.declared.fault.LineFault.TheVariants.{BadLine, NoMemory}
use Rattle.journal_lines.specs.declared.format.Format.{Format}
use Rattle.journal_lines.specs.declared.header.Header.{Header}
use Rattle.engine_text.specs.declared.entry.Entry.{Entry}
use Rattle.journal_lines.proofs.MemberLemmas.{members}
use Rattle.journal_lines.proofs.CarriedLemmas.{bytes_sound}

-- that header
abbrev pub header : List ℕ → ℕ → Header
header seed opening = record { seed = seed; opening = opening }

pub header_back : (seed : List ℕ) (opening : ℕ) → IsHeader seed opening → header_in (header_value seed opening) ≡ Some (header seed opening)
header_back seed opening h = rw (decode_sized-encode_lower seed 32 h.long h.bytes) refl

-- a header's line carries it
pub is_carried : (seed : List ℕ) (opening : ℕ) → IsHeader seed opening → IsCarried (header_value seed opening)
is_carried seed opening h = object-sound 126 (members (header_value seed opening)) refl (
  unsigned-sound 126 2 (omega arith),
  (unsigned-sound 126 opening (omega (arith, h.low)), (bytes_sound 126 seed, tt)),
)

pub no_float : (seed : List ℕ) (opening : ℕ) → has_float (header_value seed opening) ≡ false
no_float seed opening = refl

-- two headers with one line are the same
pub one_header : (s t : List ℕ) (m n : ℕ) → IsHeader s m → IsHeader t n → header_line s m ≡ header_line t n → header s m ≡ header t n
one_header s t m n h k same =
    some_same
    (sym (header_back s m h)
    ∙ ap header_in (line_text-injective (header_value s m) (header_value t n) (is_carried s m h) (is_carried t n k) same)
    ∙ header_back t n k)

-- the header that was read is that of the line
pub header_same : (d : Data) (x : Header) (seed : List ℕ) (opening : ℕ) → header_in d ≡ Some x → d ≡ header_value seed opening → IsHeader seed opening
    → x ≡ header seed opening
header_same d x seed opening read same h = some_same (sym read ∙ ap header_in same ∙ header_back seed opening h)

-- where nothing is read there is no header
pub not_read : (line : List ℕ) (d : Data) (fault : LineFault)
    → ((seed : List ℕ) (opening : ℕ) → IsHeader seed opening → header_line seed opening ≡ line → d ≡ header_value seed opening)
    → IsRefusal (header_in d) fault → IsHeaderFault line fault
not_read line d BadLine is none = λ seed opening h same.
    let read = sym none ∙ ap header_in (is seed opening h same) ∙ header_back seed opening h in
    cc read
not_read line d NoMemory is none = tt

-- ---- which text is of which format

-- a header's third byte is the f of its first key, a line's the c of its own
pub header_letter : (seed : List ℕ) (opening : ℕ) (rest : List ℕ) → get_or (header_line seed opening ++ rest) 2 0 ≡ 102
unfolding line_text escape_byte
header_letter seed opening rest = refl

pub line_letter : (format : Format) (e : Entry) (rest : List ℕ) → get_or (journal_line format e ++ rest) 2 0 ≡ 99
unfolding line_text escape_byte
line_letter format e rest = refl
