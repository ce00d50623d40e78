-- The calls that lines make, as they are written.
use Rattle.script_lang.specs.declared.line.NamedCall.{NamedCall}
use Rattle.script_lang.specs.declared.line.NamedCall.TheVariants as named
use Rattle.script_lang.specs.declared.table.CallName.{CallName}
use Rattle.script_lang.specs.declared.table.CallName.TheVariants as name

-- the name of a call
abbrev pub name_of : NamedCall → CallName
name_of (named.Plain call) = name.Plain call
name_of (named.Number call one) = name.Number call
name_of (named.TwoNumbers call first second) = name.TwoNumbers call
name_of (named.ThreeNumbers call first second third) = name.ThreeNumbers call
name_of (named.BlockMove from start to offset count) = name.BlockMove
name_of (named.Bytes call block offset bytes) = name.Bytes call
name_of (named.Resource call kind id) = name.Resource call
name_of (named.GetIndResource kind index) = name.GetIndResource
name_of (named.Kind call kind) = name.Kind call
name_of (named.AddResource handle kind id resource) = name.AddResource
name_of (named.File call file) = name.File call
