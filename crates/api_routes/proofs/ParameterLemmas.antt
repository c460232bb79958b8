-- The parameter of a path: where a route has one, it fits a segment that isn't empty, and so does its text.
use Rattle.std.proofs.Common.{◌≡◌, ◌≢◌, ℕ, ◌+◌, ◌*◌, List, [], ◌∷◌, Bool, true, false, true≢false, cond, ◌&&◌, Option, Some, None, Ok, Err, refl, sym, ap, ◌∙◌}
use Rattle.std.specs.Str.{is_utf8}
use Rattle.percent_encoding.specs.Percent.{percent_decode, is_escape}
use Rattle.std.specs.Char.{digit_value}
use Rattle.route_laws.specs.Segments.{Segment, fits, fits_one, row_for}
use Rattle.route_laws.specs.Segments.Segment.{text, parameter}
use Rattle.api_routes.specs.declared.fault.Fault.TheVariants.{BadPath}
use Rattle.api_routes.specs.declared.method.Method.{Method}
use Rattle.api_routes.specs.declared.method.Method.TheVariants.{Get, Head, Post, Delete}
use Rattle.api_routes.specs.declared.route.Route.{Route}
use Rattle.api_routes.specs.declared.route.Route.TheVariants as to
use Rattle.api_routes.specs.Routes.{Table, table_of, route_for}
use Rattle.api_routes.specs.Path.{escapes_well, segment_text, second, parameter_in, parameter_of}

-- ---- a text of a segment

-- what isn't empty decodes to what isn't
decodes : (s : List ℕ) → s ≢ [] → percent_decode s ≢ []
unfolding percent_decode
decodes [] full e = full refl
decodes (b ∷ []) full e = cc
decodes (b ∷ c ∷ []) full e = cc
decodes (b ∷ high ∷ low ∷ rest) full e = by (is_escape b high low) e
  where
    by : (v : Bool) → cond v ((16 * digit_value high + digit_value low) ∷ percent_decode rest) (b ∷ percent_decode (high ∷ low ∷ rest)) ≡ [] → ⊥
    by true e = cc
    by false e = cc

-- the text of a segment that isn't empty isn't
text-full : (s name : List ℕ) → s ≢ [] → segment_text s ≡ Ok name → name ≢ []
unfolding segment_text
text-full s name full h = by (escapes_well s && is_utf8 (percent_decode s)) h
  where
    by : (v : Bool) → cond v (Ok (percent_decode s)) (Err BadPath) ≡ Ok name → name ≢ []
    by true e = let same : percent_decode s ≡ name = cc in λ none. decodes s full (same ∙ none)
    by false e = let no : ⊥ = cc in absurd no

-- ---- rows with a parameter

-- the routes whose path names something
abbrev pub has_name : Route → Bool
has_name to.Ping = false
has_name to.PingHead = false
has_name to.Version = false
has_name to.Create = false
has_name to.List = false
has_name to.VolumeList = false
has_name to.VolumeCreate = false
has_name to.Events = false
has_name to.Journal = false
has_name route = true

-- the second segment is a parameter
abbrev is_second : List Segment → Bool
is_second (r ∷ parameter ∷ rs) = true
is_second rs = false

abbrev is_named : Bool → List Segment → Bool
is_named true row = is_second row
is_named false row = true

-- each row of such a route has it
abbrev are_named : Table → Bool
are_named [] = true
are_named (x ∷ rest) = is_named (has_name x.1) x.0 && are_named rest

all-named : (m : Method) → are_named (table_of m) ≡ true
all-named Get = refl
all-named Head = refl
all-named Post = refl
all-named Delete = refl

both : (a b : Bool) → (a && b) ≡ true → (a ≡ true) × (b ≡ true)
both true b h = (refl, h)
both false b h = absurd (true≢false (sym h))

-- a segment that isn't empty stands second
abbrev SecondFull : List (List ℕ) → Type 0
SecondFull ss = (s : List ℕ) × (second ss ≡ Some s) × (s ≢ [])

fits-full : (s : List ℕ) → fits_one parameter s ≡ true → s ≢ []
fits-full [] h none = true≢false (sym h)
fits-full (b ∷ s) h none = cc

second-fits : (row : List Segment) (ss : List (List ℕ)) → is_second row ≡ true → fits row ss ≡ true → SecondFull ss
second-fits [] ss p h = absurd (true≢false (sym p))
second-fits (r ∷ []) ss p h = absurd (true≢false (sym p))
second-fits (r ∷ text w ∷ rs) ss p h = absurd (true≢false (sym p))
second-fits (r ∷ parameter ∷ rs) [] p h = absurd (true≢false (sym h))
second-fits (r ∷ parameter ∷ rs) (s ∷ []) p h = absurd (true≢false (sym (both (fits_one r s) false h).1))
second-fits (r ∷ parameter ∷ rs) (s ∷ t ∷ ss) p h =
    let rest = (both (fits_one r s) (fits_one parameter t && fits rs ss) h).1 in
    (t, refl, fits-full t (both (fits_one parameter t) (fits rs ss) rest).0)

row-second : (table : Table) (ss : List (List ℕ)) (route : Route) → are_named table ≡ true → has_name route ≡ true
    → row_for table ss ≡ Some route → SecondFull ss
row-second [] ss route named name h = let no : ⊥ = cc in absurd no
row-second (x ∷ rest) ss route named name h = by (fits x.0 ss) refl (row-second rest ss route ands.1 name) h
  where
    ands : (is_named (has_name x.1) x.0 ≡ true) × (are_named rest ≡ true)
    ands = both (is_named (has_name x.1) x.0) (are_named rest) named

    by : (v : Bool) → fits x.0 ss ≡ v → (row_for rest ss ≡ Some route → SecondFull ss)
        → cond v (Some x.1) (row_for rest ss) ≡ Some route → SecondFull ss
    by true e later h =
        let same : x.1 ≡ route = cc in
        let is : has_name x.1 ≡ true = ap has_name same ∙ name in
        second-fits x.0 ss (ap (λ b. is_named b x.0) (sym is) ∙ ands.0) e
    by false e later h = later h

route-second : (m : Option Method) (ss : List (List ℕ)) (route : Route) → has_name route ≡ true → route_for m ss ≡ Some route
    → SecondFull ss
route-second None ss route name h = let no : ⊥ = cc in absurd no
route-second (Some m) ss route name h = row-second (table_of m) ss route (all-named m) name h

-- the name that such a route's path gives isn't empty
pub name-given : (m : Option Method) (ss : List (List ℕ)) (route : Route) (name : List ℕ) → has_name route ≡ true
    → route_for m ss ≡ Some route → parameter_of ss ≡ Ok name → name ≢ []
name-given m ss route name has h read =
    let s = route-second m ss route has h in
    text-full s.0 name s.2 (ap parameter_in (sym s.1) ∙ read)
