use Rattle.std.proofs.Common.{map}
use Rattle.std.specs.List.{AllByRecursion}
use Rattle.fork_folder.specs.Manifest.{AllSay}
use Rattle.fork_folder.specs.Packed.{listed}
use Rattle.fork_folder.specs.Paths.{IsInFolder}
use Rattle.fork_folder.proofs.manifest.packing_of.Given as goal

-- the files of the entries so far are in folders of the folder, and the manifest says of these what is listed
abbrev pub invariant-loop-resource : goal.invariant-loop-resource
invariant-loop-resource l = (goal.iterator-loop-resource).can_next l.resource-iterator × (goal.iterator-loop-resource).is_finite l.resource-iterator
    × AllByRecursion IsInFolder l.entries.items × AllSay l.yielded (map listed l.entries.items)
