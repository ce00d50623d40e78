use Rattle.std.proofs.Common.{sym}
use Rattle.volume_names.proofs.Listed.{a_thing, no_thing}
use Rattle.volume_names.proofs.things.list_things.Goals as goal
use Rattle.volume_names.proofs.things.list_things.Goals.{then-branch+in_ok-push, else-branch}

pub loop-entry-preserved : goal.loop-entry-preserved
loop-entry-preserved c =
    let entries = c.args.entries.now in
    let says = c.in_ok-is_thing.ensures entries c.in_ok-folders.ensures in
    elim c.if-branch.branch [
      | then-branch+in_ok-push w ↦ rw (w.things-is, w.in_ok-push.ensures.items)
          (a_thing entries c.loop-entry.things.items c.loop-entry.entry-index _ c.loop-entry-test.true c.loop-entry.invariant c.in_ok-is_thing.field-0 says w.if-branch.true)
      | else-branch w ↦ rw w.things-is
          (no_thing entries c.loop-entry.things.items c.loop-entry.entry-index _ c.loop-entry-test.true c.loop-entry.invariant c.in_ok-is_thing.field-0 says w.if-branch.false)
    ]
