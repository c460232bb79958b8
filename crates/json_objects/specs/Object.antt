-- An object that is being built (RFC 8259, section 4).
use Rattle.serde_json.specs.Data.{Members}
use Rattle.serde_json.specs.View.{members_view}
use Rattle.json_objects.specs.declared.object.Object.{Object}

-- Its members.
abbrev pub members_in : Object → Members
members_in o = members_view o.map.entries
