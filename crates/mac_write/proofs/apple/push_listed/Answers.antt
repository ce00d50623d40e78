use Rattle.std.proofs.Common.{◌-◌, ◌*◌, ◌+◌, length, ap, ◌∙◌, ◌++◌, arith}
use Rattle.std.specs.Prelude.{not}
use Rattle.mac_files.specs.declared.fault.Entry.{Entry}
use Rattle.mac_files.proofs.Steps.{entries_step}
use Rattle.mac_files.specs.Apple.{entries_from, entry_at, entry_count}
use Rattle.mac_files.specs.Parts.{lies_within}
use Rattle.mac_write.specs.Apple.{changed, entry_text}
use Rattle.mac_write.proofs.Entries.{entry_added, none_of}
use Rattle.mac_write.proofs.apple.push_listed.Goals as goal

pub loop-index-preserved : goal.loop-index-preserved
loop-index-preserved c =
    let file = c.args.plan.now.file.now in let i = c.loop-index.index in let count = entry_count file in
    let left = entries_from file (26 + 12 * i) (count - i) in let rest = entries_from file (26 + 12 * (i + 1)) (count - (i + 1)) in
    let e = entry_at file (26 + 12 * i) in
    let step = entries_step file count i (omega arith) in
    record {
      added = entry_added (changed file c.args.plan.now.count) left rest e _ _ _ step c.loop-index.invariant.added
          (c.in_ok-push_entry.ensures ∙ ap (λ (x : Entry). c.loop-index.new.items ++ entry_text x) (c.changed.ensures.entry ∙ ap (changed file c.args.plan.now.count) c.entry_at-entry.ensures.entry));
      within = (none_of (λ (e : Entry). not (lies_within (length file) e.part)) left rest e step c.loop-index.invariant.within).1;
    }
