-- The id of a container that an inspect shows is 64 digits, which are a text.
use Rattle.std.proofs.Common.{◌≡◌, ◌<◌, ◌≤◌, ℕ, List, length, Bool, true, false, cond, codes, IsUtf8, Option, Some, None, refl, sym, ap, ◌∙◌, arith}
use Rattle.std.specs.Prelude.{IfSome, option_map, ⊤, ◌&&◌, ◌==◌, nat_lt}
use Rattle.std.specs.Char.{is_digit, digit_value}
use Rattle.std.specs.List.{list_all}
use Rattle.std.proofs.lemmas.Bool.{and_parts, false≢true}
use Rattle.std.proofs.lemmas.Bool.Decides.{nat_tests}
use Rattle.std.proofs.lemmas.List.Elements.{All-weaker}
use Rattle.std.proofs.lemmas.List.Sums.{AllPass-from_list_all}
use Rattle.std.proofs.lemmas.Str.{IsUtf8-from_ascii}
use Rattle.std.proofs.lemmas.Str.Ascii.{IsAscii-from_all}
use Rattle.serde_json.specs.Data.{Data}
use Rattle.serde_json.specs.Find.{get}
use Rattle.json_laws.specs.Text.{data_of}
use Rattle.engine_text.specs.declared.health.HealthSpec.{HealthSpec}
use Rattle.api_json.specs.Event.{if_there, text_at}
use Rattle.client_model.specs.Commands.Health.{check_of, if_container_id, checked_as, checked_by, checked_in}
use Rattle.client_model.specs.declared.checked.Checked.{Checked}
use Rattle.client_laws.proofs.JsonByteLemmas.{then-good, map-good}

-- at most 64 hexadecimal digits
pub record IsHexId (id : List ℕ) : Type 0 where
  pub short : length id ≤ 64
  pub digits : list_all (λ b. is_digit b 16) id ≡ true

abbrev pub HasId : Checked → Type 0
HasId c = IsHexId c.id

-- ---- digits are letters of ASCII

not_below : (b k : ℕ) → 128 ≤ b → k ≤ 128 → nat_lt b k ≡ false
not_below b k high low = grind (arith, nat_tests)

no_digit : (b : ℕ) → 128 ≤ b → digit_value b ≡ 36
no_digit b high =
    rw (not_below b 48 high (omega arith), not_below b 58 high (omega arith), not_below b 65 high (omega arith), not_below b 91 high (omega arith), not_below b 97 high (omega arith), not_below b 123 high (omega arith)) refl

digit_ascii : (b : ℕ) → is_digit b 16 ≡ true → b < 128
digit_ascii b is = by (nat_lt b 128) refl
  where
    by : (t : Bool) → nat_lt b 128 ≡ t → b < 128
    by true e = grind (arith, nat_tests)
    by false e = absurd (false≢true (sym (ap (λ n. nat_lt n 16) (no_digit b (grind (arith, nat_tests)))) ∙ is))

pub hex-text : (id : List ℕ) → IsHexId id → IsUtf8 id
hex-text id is =
    IsUtf8-from_ascii id (IsAscii-from_all id (All-weaker (λ b. is_digit b 16 ≡ true) (λ b. b < 128) digit_ascii id (AllPass-from_list_all (λ b. is_digit b 16) id is.digits)))

-- ---- what is read of an inspect

any : {A : Type 0} (o : Option A) → IfSome o (λ x. ⊤)
any None = tt
any (Some x) = tt

id-good : (id : List ℕ) → IfSome (if_container_id id) IsHexId
id-good id = by ((length id == 64) && list_all (λ b. is_digit b 16) id) refl
  where
    by : (t : Bool) → ((length id == 64) && list_all (λ b. is_digit b 16) id) ≡ t → IfSome (cond t (Some id) None) IsHexId
    by true e =
        let both = and_parts (length id == 64) (list_all (λ b. is_digit b 16) id) e in
        record { short = grind (arith, nat_tests, both.0); digits = both.1 }
    by false e = tt

as-good : (d check : Data) → IfSome (checked_as d check) HasId
as-good d check =
    then-good IsHexId HasId (if_there (text_at (codes "Id") d) if_container_id) (λ id. option_map (λ spec. record { id = id; spec = spec }) (check_of check))
    (then-good (λ (text : List ℕ). ⊤) IsHexId (text_at (codes "Id") d) if_container_id (any (text_at (codes "Id") d)) (λ id t. id-good id))
    (λ id h. map-good (λ (spec : HealthSpec). ⊤) HasId (check_of check) (λ spec. record { id = id; spec = spec }) (any (check_of check)) (λ spec t. h))

abbrev HaveId : Option Checked → Type 0
HaveId o = IfSome o HasId

by-good : (d : Data) (check : Option Data) → IfSome (checked_by d check) HaveId
by-good d None = tt
by-good d (Some check) = map-good HasId HaveId (checked_as d check) Some (as-good d check) (λ c h. h)

pub checked-good : (body : List ℕ) → IfSome (checked_in body) (λ o. IfSome o HasId)
checked-good body =
    then-good (λ (d : Data). ⊤) HaveId (data_of body) (λ d. if_there (get (codes "Config") d) (λ config. checked_by d (get (codes "Healthcheck") config))) (any (data_of body))
    (λ d t. then-good (λ (config : Data). ⊤) HaveId (get (codes "Config") d) (λ config. checked_by d (get (codes "Healthcheck") config)) (any (get (codes "Config") d))
    (λ config u. by-good d (get (codes "Healthcheck") config)))
