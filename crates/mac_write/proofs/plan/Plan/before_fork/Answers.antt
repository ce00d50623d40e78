use Rattle.std.proofs.Common.{ap, arith}
use Rattle.mac_files.specs.declared.part.Part.{Part}
use Rattle.mac_write.proofs.Entries.{order}
use Rattle.mac_write.proofs.plan.Plan.before_fork.Goals as goal

pub slice_bounds-result-count : goal.slice_bounds-result-count
slice_bounds-result-count c =
    let before = order c.args.self.now.file.now c.requires c.args.self.now.list in
    let first = c.args.self.now.end_is in
    let last = ap (λ (p : Part). p.offset) c.args.self.now.place_is in omega arith

pub slice_bounds-result-start : goal.slice_bounds-result-start
slice_bounds-result-start c =
    let before = order c.args.self.now.file.now c.requires c.args.self.now.list in
    let first = c.args.self.now.end_is in
    let last = ap (λ (p : Part). p.offset) c.args.self.now.place_is in omega arith
