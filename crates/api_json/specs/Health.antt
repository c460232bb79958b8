-- The health check of a create (Docker Engine API v1.43, definition HealthConfig; own: the bounds, and the words of a shell's text).
use Rattle.std.specs.Prelude.{ℕ, ◌==◌, ℤ, pos, negsuc, ◌/◌, List, [], ◌∷◌, filter, length, ◌&&◌, nat_le, nat_lt, if◌then◌else◌, Option, Some, None, Result, Ok, codes, unwrap_or}
use Rattle.std.specs.List.{slice_split, position_or_len, before_first, after_first}
use Rattle.serde_json.specs.Data.{Data}
use Rattle.engine_text.specs.Query.{is_blank}
use Rattle.engine_text.specs.Soundness.{is_full}
use Rattle.engine_text.specs.Texts.{same_bytes}
use Rattle.engine_text.specs.declared.health.HealthSpec.{HealthSpec}
use Rattle.api_json.specs.Fault.{and_then, or_fault}
use Rattle.api_json.specs.Fields.{object_field, whole_field}
use Rattle.api_json.specs.Lists.{texts_field}
use Rattle.api_json.specs.declared.fault.BodyKey.{BodyKey}
use Rattle.api_json.specs.declared.fault.BodyKey.TheVariants as Key
use Rattle.api_json.specs.declared.fault.BodyFault.{BodyFault}
use Rattle.api_json.specs.declared.fault.BodyFault.TheVariants.{BadField}

-- ---- the words

-- the parts of a text between runs of spaces and tabs
abbrev pub between_blanks : List ℕ → List (List ℕ)
between_blanks text = filter is_full (slice_split is_blank text)

-- the parts round the first space or tab
abbrev pub split_blank : List ℕ → Option (List ℕ × List ℕ)
split_blank text =
    if nat_lt (position_or_len is_blank text) (length text)
    then Some (before_first is_blank text, after_first is_blank text) else None

-- a word, unless it is empty
abbrev pub if_word : List ℕ → List (List ℕ)
if_word [] = []
if_word (byte ∷ bytes) = (byte ∷ bytes) ∷ []

-- words, of which there is at least one
abbrev pub if_full : List (List ℕ) → Option (List (List ℕ))
if_full [] = None
if_full (word ∷ words) = Some (word ∷ words)

-- behind `CMD-SHELL` stands one text, whose words are those between blanks
abbrev pub shell_words : List (List ℕ) → Option (List (List ℕ))
shell_words (text ∷ []) = if_full (between_blanks text)
shell_words _ = None

-- behind `NONE` stands nothing
abbrev pub no_words : List (List ℕ) → Option (List (List ℕ))
no_words [] = Some []
no_words (word ∷ words) = None

-- the words of a `Test`: those behind `CMD`, or those of a shell's text; none where it is empty, or `NONE`
abbrev pub test_words : List (List ℕ) → Option (List (List ℕ))
test_words [] = Some []
test_words (first ∷ rest) =
    if same_bytes first (codes "CMD") then if_full rest
    else (if same_bytes first (codes "CMD-SHELL") then shell_words rest
    else (if same_bytes first (codes "NONE") then no_words rest else None))

-- the words of the field
abbrev pub test_of : Data → Result (List (List ℕ)) BodyFault
test_of d = and_then (texts_field Key.Test d) (λ texts. or_fault (BadField Key.Test) (test_words texts))

-- ---- the numbers

-- nanoseconds from 1,000,000 to 3,600,000,000,000 are counted down to milliseconds; 0 stands for so many
abbrev pub span_in : ℕ → ℤ → Option ℕ
span_in default (pos n) =
    if n == 0 then Some default
    else (if nat_le 1000000 n && nat_le n 3600000000000 then Some (n / 1000000) else None)
span_in default (negsuc n) = None

-- the milliseconds of a field; an absent one is as 0
abbrev pub span_of : ℕ → BodyKey → Data → Result ℕ BodyFault
span_of default key d = and_then (whole_field key d) (λ found. or_fault (BadField key) (span_in default (unwrap_or found (pos 0))))

-- from 1 to 1,000; 0 stands for 3
abbrev pub retries_in : ℤ → Option ℕ
retries_in (pos n) = if n == 0 then Some 3 else (if nat_le n 1000 then Some n else None)
retries_in (negsuc n) = None

-- the retries of a check; an absent field is as 0
abbrev pub retries_of : Data → Result ℕ BodyFault
retries_of d = and_then (whole_field Key.Retries d) (λ found. or_fault (BadField Key.Retries) (retries_in (unwrap_or found (pos 0))))

-- ---- the check

-- a check of these words; none where there are none
abbrev pub checked : ℕ → ℕ → ℕ → ℕ → List (List ℕ) → Option HealthSpec
checked interval timeout start_period retries [] = None
checked interval timeout start_period retries (word ∷ words) = Some (record {
  words = word ∷ words;
  interval = interval;
  timeout = timeout;
  retries = retries;
  start_period = start_period;
})

-- the five fields that are read, in their order
abbrev pub health_in : Data → Result (Option HealthSpec) BodyFault
health_in d =
    and_then (test_of d) (λ words.
    and_then (span_of 30000 Key.Interval d) (λ interval.
    and_then (span_of 30000 Key.Timeout d) (λ timeout.
    and_then (span_of 0 Key.StartPeriod d) (λ start_period.
    and_then (retries_of d) (λ retries.
    Ok (checked interval timeout start_period retries words))))))

-- a create without one has no check
abbrev pub health_if_present : Option Data → Result (Option HealthSpec) BodyFault
health_if_present None = Ok None
health_if_present (Some d) = health_in d

-- the health check of a create
abbrev pub health_of : Data → Result (Option HealthSpec) BodyFault
health_of d = and_then (object_field Key.Healthcheck d) health_if_present
