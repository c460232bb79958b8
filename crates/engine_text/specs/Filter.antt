-- Rows of filters (Docker Engine API v1.43, ContainerList, SystemEvents, VolumeList).
use Rattle.std.specs.Prelude.{ℕ, List, [], ◌∷◌, codes, ⊤}
use Rattle.engine_text.specs.declared.filter.FilterKey.{FilterKey}
use Rattle.engine_text.specs.declared.filter.FilterKey.TheVariants as Key
use Rattle.engine_text.specs.declared.filter.FilterRow.{FilterRow}
use Rattle.engine_text.specs.Words.{AreUtf8}

-- every value of every row is UTF-8
abbrev pub AreRowsUtf8 : List FilterRow → Type 0
AreRowsUtf8 [] = ⊤
AreRowsUtf8 (r ∷ rs) = AreUtf8 r.values × AreRowsUtf8 rs

-- the name of a key
abbrev pub filter_word : FilterKey → List ℕ
filter_word Key.Kind = codes "type"
filter_word Key.Action = codes "event"
filter_word Key.Container = codes "container"
filter_word Key.Image = codes "image"
filter_word Key.Volume = codes "volume"
filter_word Key.Id = codes "id"
filter_word Key.Name = codes "name"
filter_word Key.State = codes "status"
filter_word Key.Exited = codes "exited"
filter_word Key.Ancestor = codes "ancestor"
filter_word Key.Label = codes "label"
