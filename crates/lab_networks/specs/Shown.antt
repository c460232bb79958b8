-- The texts in which networks are told (Docker Engine API v1.43, NetworkList, NetworkInspect; own: that nothing but its name is kept of one).
use Rattle.std.specs.Prelude.{ℕ, List, [], ◌∷◌, ◌++◌, Bool, true, ◌||◌, if◌then◌else◌, Option, Some, None, codes}
use Rattle.std.specs.List.{flat_map, join_by}
use Rattle.lab_front.specs.Queries.{spells, query_of, value_of}
use Rattle.lab_networks.specs.Known.{id_of, fixed_name, fixed_driver, fixed_id}
use Rattle.lab_networks.specs.declared.known.Fixed.{Fixed}
use Rattle.lab_networks.specs.declared.known.Fixed.TheVariants as fixed

-- a network of this name, driver and id
abbrev pub network_text : List ℕ → List ℕ → List ℕ → List ℕ
network_text name driver id =
    codes "{\"Attachable\":false,\"ConfigFrom\":{\"Network\":\"\"},\"ConfigOnly\":false,\"Containers\":{},\"Created\":\"1970-01-01T00:00:00Z\",\"Driver\":\""
    ++ driver
    ++ codes "\",\"EnableIPv6\":false,\"IPAM\":{\"Config\":[],\"Driver\":\"default\",\"Options\":null},\"Id\":\"" ++ id
    ++ codes "\",\"Ingress\":false,\"Internal\":false,\"Labels\":{},\"Name\":\"" ++ name
    ++ codes "\",\"Options\":{},\"Scope\":\"local\"}"

abbrev pub fixed_text : Fixed → List ℕ
fixed_text which = network_text (fixed_name which) (fixed_driver which) (fixed_id which)

abbrev pub made_text : List ℕ → List ℕ
made_text name = network_text name (codes "bridge") (id_of name)

-- ---- the list

-- the filter of a name, as tools write it
abbrev pub names_it : List ℕ → List ℕ → Bool
names_it value name =
    spells value (codes "{\"name\":[\"" ++ name ++ codes "\"]}") || spells value (codes "{\"name\": [\"" ++ name ++ codes "\"]}")
    || spells value (codes "{\"name\":{\"" ++ name ++ codes "\":true}}")

-- filters that ask for nothing
abbrev pub is_plain : List ℕ → Bool
is_plain value = spells value [] || spells value (codes "{}")

-- a network of this name is listed: where no filters ask for more, or they ask for it alone
abbrev pub is_listed : Option (List ℕ) → List ℕ → Bool
is_listed None name = true
is_listed (Some value) name = is_plain value || names_it value name

abbrev pub if_listed : Option (List ℕ) → List ℕ → List ℕ → List (List ℕ)
if_listed filters name text = if is_listed filters name then text ∷ [] else []

abbrev pub if_made : Option (List ℕ) → List ℕ → List (List ℕ)
if_made filters name = if_listed filters name (made_text name)

-- the three, and those that were made, in order
abbrev pub listed : Option (List ℕ) → List (List ℕ) → List (List ℕ)
listed filters names =
    if_listed filters (fixed_name fixed.Bridge) (fixed_text fixed.Bridge) ++ if_listed filters (fixed_name fixed.Host) (fixed_text fixed.Host)
    ++ if_listed filters (fixed_name fixed.None) (fixed_text fixed.None)
    ++ flat_map (if_made filters) names

-- by the filters of a target's query
abbrev pub list_text : List ℕ → List (List ℕ) → List ℕ
list_text target names =
    codes "[" ++ join_by (λ text. text) (codes ",") (listed (value_of (codes "filters") (query_of target)) names) ++ codes "]"
