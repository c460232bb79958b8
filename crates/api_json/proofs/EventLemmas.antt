-- The line of an event, read back.
use Rattle.std.proofs.Common.{◌≡◌, ◌*◌, ◌/◌, ℕ, List, [], ◌∷◌, map, codes, Bool, true, Some, None, Option, option_map, refl, sym, ap, ap₂, ◌∙◌, arith}
use Rattle.std.proofs.lemmas.Bool.{and_parts}
use Rattle.json.proofs.Printed.Utf8.{are_ascii}
use Rattle.serde_json.specs.Data.{Data, no_members}
use Rattle.json_laws.specs.Pairs.{Texts, DoKeysRise, put_pairs}
use Rattle.json_laws.specs.Pairs as laws
use Rattle.json_laws.specs.Sound.{IsCarried}
use Rattle.json_laws.proofs.RoundTrip.{some_same}
use Rattle.json_laws.proofs.Lines.{line_text-injective}
use Rattle.json_laws.proofs.Pairs.{texts_of-put_pairs}
use Rattle.json_laws.proofs.Sound.{object-sound, string-sound, ascii-sound, unsigned-sound, pairs-sound, do_keys_rise, DoKeysRise-keys}
use Rattle.engine_text.specs.Pairs.{ArePairsUtf8}
use Rattle.engine_text.specs.declared.pairs.Pair.{Pair}
use Rattle.engine_text.specs.declared.event.Event.{Event}
use Rattle.engine_text.specs.declared.event.EventKind.{EventKind}
use Rattle.engine_text.specs.declared.event.EventKind.TheVariants as Kind
use Rattle.engine_text.specs.declared.event.Action.{Action}
use Rattle.engine_text.specs.declared.event.Action.TheVariants.{Create, Start, Kill, Die, Stop, Restart, Pause, Unpause, Rename, Destroy, Attach, ExecCreate, ExecStart, ExecDie, Mount, Unmount, Update}
use Rattle.api_json.specs.Values.{pairs_of}
use Rattle.api_json.specs.Lists.{pairs_from, pairs_of_members}
use Rattle.api_json.specs.EventRules.{kind_word, kind_of, action_word, action_of, attribute_keys, has_keys, keys_fit}
use Rattle.api_json.specs.Event.{IsLine, actor_members, event_members, event_data, event_of, event_line_text}
use Rattle.api_json.proofs.DecimalLemmas.{same_is}

kind_back : (k : EventKind) → (kind_of (kind_word k) ≡ Some k) × (are_ascii (kind_word k) ≡ true)
kind_back Kind.Container = (refl, refl)
kind_back Kind.Volume = (refl, refl)

action_back : (a : Action) → (action_of (action_word a) ≡ Some a) × (are_ascii (action_word a) ≡ true)
action_back Create = (refl, refl)
action_back Start = (refl, refl)
action_back Kill = (refl, refl)
action_back Die = (refl, refl)
action_back Stop = (refl, refl)
action_back Restart = (refl, refl)
action_back Pause = (refl, refl)
action_back Unpause = (refl, refl)
action_back Rename = (refl, refl)
action_back Destroy = (refl, refl)
action_back Attach = (refl, refl)
action_back ExecCreate = (refl, refl)
action_back ExecStart = (refl, refl)
action_back ExecDie = (refl, refl)
action_back Mount = (refl, refl)
action_back Unmount = (refl, refl)
action_back Update = (refl, refl)

-- the keys are those that the rule names
keys_are : (ks : List (List ℕ)) (ps : List Pair) → has_keys ks ps ≡ true → map (λ p. p.0) (pairs_of ps) ≡ ks
keys_are [] [] e = refl
keys_are [] (p ∷ ps) e = cc e
keys_are (k ∷ ks) [] e = cc e
keys_are (k ∷ ks) (p ∷ ps) e =
    let q = and_parts _ _ e in
    ap₂ (λ (a : List ℕ) (b : List (List ℕ)). a ∷ b) (same_is p.key k q.0) (keys_are ks ps q.1)

-- keys that an event may have
abbrev do_rise : Option (List (List ℕ)) → Bool
do_rise None = true
do_rise (Some ks) = do_keys_rise ks

rise : (keys : Option (List (List ℕ))) (ps : List Pair) → do_rise keys ≡ true → keys_fit keys ps ≡ true → DoKeysRise (pairs_of ps)
rise None ps r e = cc e
rise (Some ks) ps r e = DoKeysRise-keys (pairs_of ps) (ap do_keys_rise (keys_are ks ps e) ∙ r)

-- each row of the table of keys rises
table_rises : (k : EventKind) (a : Action) → do_rise (attribute_keys k a) ≡ true
table_rises Kind.Container Create = refl
table_rises Kind.Container Start = refl
table_rises Kind.Container Kill = refl
table_rises Kind.Container Die = refl
table_rises Kind.Container Stop = refl
table_rises Kind.Container Restart = refl
table_rises Kind.Container Pause = refl
table_rises Kind.Container Unpause = refl
table_rises Kind.Container Rename = refl
table_rises Kind.Container Destroy = refl
table_rises Kind.Container Attach = refl
table_rises Kind.Container ExecCreate = refl
table_rises Kind.Container ExecStart = refl
table_rises Kind.Container ExecDie = refl
table_rises Kind.Container Mount = refl
table_rises Kind.Container Unmount = refl
table_rises Kind.Container Update = refl
table_rises Kind.Volume Create = refl
table_rises Kind.Volume Start = refl
table_rises Kind.Volume Kill = refl
table_rises Kind.Volume Die = refl
table_rises Kind.Volume Stop = refl
table_rises Kind.Volume Restart = refl
table_rises Kind.Volume Pause = refl
table_rises Kind.Volume Unpause = refl
table_rises Kind.Volume Rename = refl
table_rises Kind.Volume Destroy = refl
table_rises Kind.Volume Attach = refl
table_rises Kind.Volume ExecCreate = refl
table_rises Kind.Volume ExecStart = refl
table_rises Kind.Volume ExecDie = refl
table_rises Kind.Volume Mount = refl
table_rises Kind.Volume Unmount = refl
table_rises Kind.Volume Update = refl

-- the keys of an event's attributes rise
attributes_rise : (e : Event) → IsLine e → DoKeysRise (pairs_of e.attributes)
attributes_rise e h = rise (attribute_keys e.kind e.action) e.attributes (table_rises e.kind e.action) (and_parts _ _ h.1).0

utf8_of : (ps : List Pair) → ArePairsUtf8 ps → laws.ArePairsUtf8 (pairs_of ps)
utf8_of [] h = tt
utf8_of (p ∷ ps) h = (h.0, h.1, utf8_of ps h.2)

-- a line carries the value of an event
pub sound : (e : Event) → IsLine e → IsCarried (event_data e)
sound e h =
    let rising = attributes_rise e h in
    object-sound 126 (event_members e) refl (
      ascii-sound 126 (action_word e.action) (action_back e.action).1,
      (
        object-sound 125 (actor_members e) refl (
          pairs-sound 124 (pairs_of e.attributes) rising (utf8_of e.attributes h.3),
          (string-sound 125 e.id h.2, tt),
        ),
        (
          ascii-sound 126 (kind_word e.kind) (kind_back e.kind).1,
          (
            ascii-sound 126 (codes "local") refl,
            (
              unsigned-sound 126 (e.moment / 1_000) (omega (arith, h.0)),
              (unsigned-sound 126 (e.moment * 1_000_000) (omega (arith, h.0)), tt),
            ),
          ),
        ),
      ),
    )

pairs_back : (ps : List Pair) → pairs_from (pairs_of ps) ≡ ps
pairs_back [] = refl
pairs_back (p ∷ ps) = ap (λ (rest : List Pair). p ∷ rest) (pairs_back ps)

-- pairs whose keys rise are found again
pairs_found : (ps : List Pair) → DoKeysRise (pairs_of ps) → pairs_of_members (put_pairs (pairs_of ps) no_members) ≡ Some ps
pairs_found ps rising = ap (option_map pairs_from) (texts_of-put_pairs (pairs_of ps) rising) ∙ ap Some (pairs_back ps)

pub event_back : (e : Event) → IsLine e → event_of (event_data e) ≡ Some e
event_back e h =
    let nanos : e.moment * 1_000_000 / 1_000_000 ≡ e.moment = omega arith in
    rw ((action_back e.action).0, pairs_found e.attributes (attributes_rise e h), (kind_back e.kind).0, nanos) refl

-- the event that was read is that of the line
pub event_at : (x : Event) (d : Data) (e : Event) → Some x ≡ event_of d → d ≡ event_data e → IsLine e → x ≡ e
event_at x d e is same line = some_same (is ∙ ap event_of same ∙ event_back e line)

-- two events with one line are the same
pub event_line_text-injective : (e f : Event) → IsLine e → IsLine f → event_line_text e ≡ event_line_text f → e ≡ f
event_line_text-injective e f h k same =
    some_same (sym (event_back e h) ∙ ap event_of (line_text-injective (event_data e) (event_data f) (sound e h) (sound f k) same) ∙ event_back f k)
