use Rattle.std.proofs.Common.{◌≡◌, map, take}
use Rattle.serde_json.specs.View.{view}
use Rattle.fork_folder.specs.Json.{resource_data}
use Rattle.fork_folder.proofs.json.resource_values.Given as goal

-- those so far are written
abbrev pub invariant-loop-resource : goal.invariant-loop-resource
invariant-loop-resource l = map view l.list.items ≡ map resource_data (take l.resource-index l.resources)
