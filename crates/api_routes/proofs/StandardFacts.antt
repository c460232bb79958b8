-- Sentences of the API's versioning and of this project's rules, as facts about the definitions.
use Rattle.std.proofs.Common.{◌≡◌, [], ◌∷◌, Some, None, Ok, Err, codes, pos, negsuc, refl}
use Rattle.route_laws.specs.Segments.{segments, row_for}
use Rattle.api_routes.specs.Routes.{method_of, route_for, get_table, delete_table}
use Rattle.api_routes.specs.Version.{version_of, behind_version}
use Rattle.api_routes.specs.Keys.{read_time, read_limit, read_seconds, read_tail}
use Rattle.api_routes.specs.declared.fault.Fault.TheVariants.{VersionTooOld, VersionTooNew}
use Rattle.api_routes.specs.declared.route.Route.TheVariants as to

-- `v1.43` is a version, `v1.43.1` isn't.
a-version : version_of (codes "v1.43") ≡ Some (record { text = codes "1.43"; major = 1; minor = 43 })
a-version = refl

no-version : version_of (codes "v1.43.1") ≡ None
no-version = refl

-- 1.23 is too old, 1.24 and 1.43 are served, 1.44 and 2.0 are too new.
too-old : behind_version (segments (codes "/v1.23/_ping")) ≡ Err (VersionTooOld (codes "1.23"))
too-old = refl

lowest : behind_version (segments (codes "/v1.24/_ping")) ≡ Ok (codes "_ping" ∷ [])
lowest = refl

highest : behind_version (segments (codes "/v1.43/_ping")) ≡ Ok (codes "_ping" ∷ [])
highest = refl

too-new : behind_version (segments (codes "/v1.44/_ping")) ≡ Err (VersionTooNew (codes "1.44"))
too-new = refl

far-too-new : behind_version (segments (codes "/v2.0/_ping")) ≡ Err (VersionTooNew (codes "2.0"))
far-too-new = refl

-- Without a version the current one is meant.
unversioned : behind_version (segments (codes "/_ping")) ≡ Ok (codes "_ping" ∷ [])
unversioned = refl

-- `DELETE /containers/create` speaks of a container named `create`.
named-create : row_for delete_table (segments (codes "/containers/create")) ≡ Some to.Remove
named-create = refl

-- A container named `json` is inspected, and the word `json` alone lists.
named-json : row_for get_table (segments (codes "/containers/json/json")) ≡ Some to.Inspect
named-json = refl

listed : row_for get_table (segments (codes "/containers/json")) ≡ Some to.List
listed = refl

-- An empty segment fits no parameter, and a path without a leading slash fits no row.
empty-segment : row_for get_table (segments (codes "/volumes/")) ≡ None
empty-segment = refl

no-slash : row_for get_table (segments (codes "volumes")) ≡ None
no-slash = refl

-- Only `_ping` has a row of HEAD, and other methods have none.
head-version : route_for (method_of (codes "HEAD")) (segments (codes "/version")) ≡ None
head-version = refl

put-ping : route_for (method_of (codes "PUT")) (segments (codes "/_ping")) ≡ None
put-ping = refl

-- Times are counted down to milliseconds; one may end in a dot, and has at most nine decimals.
time-with-dot : read_time (codes "5.") ≡ Some 5000
time-with-dot = refl

time-down : read_time (codes "1.0019999") ≡ Some 1001
time-down = refl

time-too-long : read_time (codes "1.1234567890") ≡ None
time-too-long = refl

-- `t` may be -1, and is at most 2,147,483.
seconds-least : read_seconds (codes "-1") ≡ Some (negsuc 0)
seconds-least = refl

seconds-greatest : read_seconds (codes "2147483") ≡ Some (pos 2147483)
seconds-greatest = refl

seconds-past : read_seconds (codes "2147484") ≡ None
seconds-past = refl

-- A limit of 0 or -1 means none.
limit-zero : read_limit (codes "0") ≡ Some None
limit-zero = refl

limit-minus : read_limit (codes "-1") ≡ Some None
limit-minus = refl

-- `all` means all, and so does an empty tail.
tail-all : read_tail (codes "all") ≡ Some None
tail-all = refl

tail-empty : read_tail [] ≡ Some None
tail-empty = refl
