use Rattle.std.proofs.Common.{map, take}
use Rattle.serde_json.specs.View.{view}
use Rattle.fork_folder.specs.Json.{AreResourcesIn}
use Rattle.fork_folder.proofs.json.resources_in.Given as goal

-- the values so far say this of resources
abbrev pub invariant-loop-value : goal.invariant-loop-value
invariant-loop-value l = AreResourcesIn (map view (take l.value-index l.list)) l.resources.items
