use Rattle.std.proofs.Common.{◌≡◌, ◌-◌, ◌*◌, ◌+◌, ◌++◌, length, None, map}
use Rattle.std.specs.Prelude.{find, not}
use Rattle.mac_files.specs.declared.fault.Entry.{Entry}
use Rattle.mac_files.specs.Parts.{lies_within}
use Rattle.mac_files.specs.Apple.{entries_from, entries_of, entry_count}
use Rattle.mac_write.specs.Apple.{changed, list_text}
use Rattle.mac_write.proofs.apple.push_listed.Given as goal

-- what is added with those that are left is the whole, and none of these has bytes outside the file
abbrev pub invariant-loop-index : goal.invariant-loop-index
invariant-loop-index l = let file = l.plan.file.now in let left = entries_from file (26 + 12 * l.index) (entry_count file - l.index) in record {
  added : l.new.items ++ list_text (map (changed file l.plan.count) left)
      ≡ l.initial.new.items ++ list_text (map (changed file l.plan.count) (entries_of file));
  within : find (λ (e : Entry). not (lies_within (length file) e.part)) left ≡ None;
}
