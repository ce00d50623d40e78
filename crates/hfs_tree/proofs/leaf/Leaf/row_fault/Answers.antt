use Rattle.std.proofs.Common.{arith}
use Rattle.hfs_tree.proofs.Good.{row_within}
use Rattle.hfs_tree.proofs.leaf.Leaf.row_fault.Goals as goal

pub fault-requires-clause-at : goal.fault-requires-clause-at
fault-requires-clause-at c = let within = row_within c.args.self.now c.args.row c.requires.sound c.requires.there in omega (arith, within.0, within.1, c.offset-at.ensures.value)
