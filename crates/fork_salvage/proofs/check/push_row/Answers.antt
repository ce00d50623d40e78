use Rattle.std.proofs.Common.{ℕ, List, ◌≤◌, ◌+◌, length, subst}
use Rattle.fork_salvage.proofs.Checked.{two_more, not_below}
use Rattle.fork_salvage.proofs.check.push_row.Goals as goal

pub returns : goal.returns
returns c =
    let at = c.args.reference.now.place in
    let P : List ℕ → Type 0 = λ m. at + 12 ≤ length m in
    let inside = subst P c.of.ensures c.if-of-reference.false in
    rw (c.in_ok-push_fault-2.ensures, c.in_ok-push_fault.ensures)
    (two_more c.args.faults.now.items _ _ _ _ _ c.name_fault.ensures c.bytes_fault.ensures (not_below _ _ inside))
