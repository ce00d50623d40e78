use Rattle.std.proofs.Common.{◌≡◌, ◌++◌, map, take}
use Rattle.fork_edit.specs.declared.convert.Loss.TheVariants.{Extra}
use Rattle.fork_edit.proofs.convert.push_extras.Given as goal

-- those so far are listed
abbrev pub invariant-loop-extra : goal.invariant-loop-extra
invariant-loop-extra l = l.lost.items ≡ l.fn.lost.items ++ map Extra (take l.extra-index l.extras)
