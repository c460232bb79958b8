-- A look at the next request.
use Rattle.std.proofs.Common.{arith, ◌≡◌, ◌<◌, ◌≤◌, ◌+◌, inl, ℕ, List, [], ◌∷◌, ◌++◌, length, refl, sym, ap, subst, ◌∙◌, append_assoc, append-nil, length-append, inr}
use Rattle.std.proofs.lemmas.List.{take_all}
use Rattle.httparse.specs.Grammar.{HasNoRequest as HasNoHead, NeverHasRequest, MayBecomeRequest}
use Rattle.engine_ports.specs.Rose.{Rose}
use Rattle.http_edge.specs.Spelling.{HasNoRequest}
use Rattle.http_edge.specs.Refusal.{IsRefused, never, too_long}
use Rattle.http_edge.specs.Reading.{Fills}
use Rattle.http_edge.proofs.ReadingLemmas.{behind_less}
use Rattle.http_edge.proofs.EndLemmas.{refused_none, refused_stays}
use Rattle.front_session.specs.Front.{front_at}
use Rattle.front_session.specs.Steps.{StepsBy}
use Rattle.front_session.specs.Views.{given}
use Rattle.front_session.specs.declared.standing.Stage.TheVariants.{Within, Open}
use Rattle.front_session.specs.declared.stepping.Act.TheVariants as act

-- ---- bytes that stand somewhere, as a source

front_none : (a b : List ℕ) → [] ≡ a ++ b → a ≡ []
front_none [] b e = refl
front_none (x ∷ a) b e = absurd (cc)

-- of none nothing was read
pub none_read : (before after left : List ℕ) → Fills before after (given []) (given left) → after ≡ before
none_read before after left f = f.grows ∙ ap (λ l. before ++ l) (front_none f.read left f.gave.gave) ∙ append-nil before

pub not_failed : (a b : List ℕ) → Rose (given a).faults (given b).faults → ⊥
not_failed a b rose = by rose
  where
    by : Rose 0 0 → ⊥
    by (inl less) = omega (arith, less)
    by (inr top) = omega (arith, top)

-- ---- what is ahead

-- no request can come of it: all is handed on
pub opens : (got : List ℕ) (size : ℕ) → ((more : List ℕ) → HasNoRequest (got ++ more))
    → StepsBy act.On size (front_at [] got (Within 0)) (front_at [] got Open)
opens got size none into len = (
  λ more later d. (later, refl, inl ([], got ++ more, later, refl, refl, refl, ([], inl (none more, d.1 ∙ d.2)))),
  (λ e. absurd (cc), λ e. absurd (cc)),
)

pub never_begins : (got : List ℕ) (size : ℕ) → length got ≤ 16384 → NeverHasRequest got
    → StepsBy act.On size (front_at [] got (Within 0)) (front_at [] got Open)
never_begins got size le lacks = opens got size (λ more.
    let is : IsRefused got 400 = never refl (subst NeverHasRequest (sym (take_all 16384 got le)) lacks) in
    refused_none (got ++ more) 400 (refused_stays got more 400 is))

pub begins_too_long : (got : List ℕ) (size : ℕ) → length got ≡ 16384 → HasNoHead got → MayBecomeRequest got
    → StepsBy act.On size (front_at [] got (Within 0)) (front_at [] got Open)
begins_too_long got size len lacks may = opens got size (λ more.
    let w = sym (take_all 16384 got (omega (arith, len))) in
    let is : IsRefused got 431 = too_long refl (omega (arith, len)) (subst HasNoHead w lacks) (subst MayBecomeRequest w may) in
    refused_none (got ++ more) 431 (refused_stays got more 431 is))

-- more bytes are wanted
pub wants : (got : List ℕ) (place size : ℕ) → HasNoRequest got → 0 < size → size ≤ place → length got + size ≤ 16384
    → StepsBy (act.Wants size) place (front_at [] got (Within 0)) (front_at [] got (Within 0))
wants got place size none some fits room into len = (refl, some, omega (arith, fits, len), room, refl, refl, none)

pub nothing_begins : (got : List ℕ) → length got ≡ 0 → HasNoRequest got
nothing_begins got len r behind b =
    omega (arith, len, behind_less got behind r b)

-- ---- bytes that are put behind those ahead

-- some were read
pub fed_on : (before after left rest start : List ℕ) → Fills before after (given left) (given rest) → before ++ left ≡ start → after ++ rest ≡ start
fed_on before after left rest start f is =
    ap (λ l. l ++ rest) f.grows ∙ append_assoc before f.read rest ∙ ap (λ l. before ++ l) (sym f.gave.gave) ∙ is

pub fed_less : (before after left rest : List ℕ) → length before < length after → Fills before after (given left) (given rest) → length rest < length left
fed_less before after left rest more f =
    omega (arith, more, ap length f.grows, length-append before f.read, ap length f.gave.gave, length-append f.read rest)

-- not at their end
pub fed_ended : (before after left rest : List ℕ) → after ≡ before → Fills before after (given left) (given rest) → rest ≡ [] → length left ≡ 0
fed_ended before after left rest same f none =
    omega (arith, ap length same, ap length f.grows, length-append before f.read, ap length f.gave.gave, length-append f.read rest, ap length none)
