-- Fields of a body, each of one kind; an absent field and null are the same (own, after Moby's decoding of JSON).
use Rattle.std.specs.Prelude.{◌^◌, ℤ, pos, ℕ, nat_lt, List, Bool, false, Option, Some, None, Result, Ok, Err, is_some, if◌then◌else◌, option_and_then, option_map}
use Rattle.serde_json.specs.Data.{Num, unsigned, negative, float, Data}
use Rattle.serde_json.specs.Find.{get, as_null, as_bool, as_number, as_str, as_object}
use Rattle.json_laws.specs.Text.{data_of}
use Rattle.api_json.specs.Fault.{key_text, and_then, or_fault}
use Rattle.api_json.specs.declared.fault.BodyKey.{BodyKey}
use Rattle.api_json.specs.declared.fault.BodyFault.{BodyFault}
use Rattle.api_json.specs.declared.fault.BodyFault.TheVariants.{BadJson, BadField}

-- the object that a body is
abbrev pub object_or_bad : Option Data → Result Data BodyFault
object_or_bad None = Err BadJson
object_or_bad (Some d) = if is_some (as_object d) then Ok d else Err BadJson

-- the object that the text of a body is; any other text is bad JSON
unfoldable pub body_of : List ℕ → Result Data BodyFault
body_of body = object_or_bad (data_of body)

-- null is no value
abbrev pub unless_null : Data → Option Data
unless_null d = if is_some (as_null d) then None else Some d

-- the field of a key, unless it is null
abbrev pub field : BodyKey → Data → Option Data
field key d = option_and_then unless_null (get (key_text key) d)

-- what a field's kind gives, or that it is of another
abbrev pub read_if_present : {A : Type 0} → (Data → Option A) → BodyKey → Option Data → Result (Option A) BodyFault
read_if_present kind key None = Ok None
read_if_present kind key (Some v) = and_then (or_fault (BadField key) (kind v)) (λ a. Ok (Some a))

-- a text, or none where absent
abbrev pub text_field : BodyKey → Data → Result (Option (List ℕ)) BodyFault
text_field key d = read_if_present as_str key (field key d)

-- a text that must be there
abbrev pub needed_text : BodyKey → Data → Result (List ℕ) BodyFault
needed_text key d = and_then (text_field key d) (or_fault (BadField key))

-- a whole number; one past 2 ^ 63 - 1, which is past every limit of a field, counts as that
abbrev pub whole_in : Num → Option ℤ
whole_in (unsigned n) = Some (pos (if nat_lt n (2 ^ 63) then n else 9223372036854775807))
whole_in (negative z) = Some z
whole_in (float x) = None

-- a JSON number that is whole
abbrev pub whole_number : Data → Option ℤ
whole_number d = option_and_then whole_in (as_number d)

-- a whole number, or none where absent
abbrev pub whole_field : BodyKey → Data → Result (Option ℤ) BodyFault
whole_field key d = read_if_present whole_number key (field key d)

-- a value that is true or false, and false where there is none
abbrev pub flag_or_false : BodyKey → Option Data → Result Bool BodyFault
flag_or_false key None = Ok false
flag_or_false key (Some v) = or_fault (BadField key) (as_bool v)

-- the truth value of a field, false where it is absent
abbrev pub flag : BodyKey → Data → Result Bool BodyFault
flag key d = flag_or_false key (field key d)

-- a flag that must not be set
abbrev pub unset_or : BodyFault → Bool → Result Bool BodyFault
unset_or fault on = if on then Err fault else Ok on

-- a field that may be absent or false; where it is true, this is the fault
abbrev pub unset_flag : BodyFault → BodyKey → Data → Result Bool BodyFault
unset_flag fault key d = and_then (flag key d) (unset_or fault)

-- the value, if it is an object
abbrev pub is_object : Data → Option Data
is_object d = option_map (λ ms. d) (as_object d)

-- an object, or none where absent
abbrev pub object_field : BodyKey → Data → Result (Option Data) BodyFault
object_field key d = read_if_present is_object key (field key d)
