use Rattle.std.proofs.Common.{arith}
use Rattle.hfs_tree.proofs.Good.{row_within}
use Rattle.hfs_tree.proofs.leaf.Leaf.row.Goals as goal

pub part_of-requires-clause-order : goal.part_of-requires-clause-order
part_of-requires-clause-order c =
    let within = row_within c.args.self.now c.args.row c.requires.sound c.requires.there in
    omega (arith, within.0, c.offset-start.ensures.value, c.offset-end.ensures.value)

pub part_of-requires-clause-inside : goal.part_of-requires-clause-inside
part_of-requires-clause-inside c =
    let within = row_within c.args.self.now c.args.row c.requires.sound c.requires.there in
    omega (arith, within.1, c.offset-end.ensures.value)

pub returns-clause-some : goal.returns-clause-some
returns-clause-some c =
    let within = row_within c.args.self.now c.args.row c.requires.sound c.requires.there in
    omega (arith, within.0, c.offset-start.ensures.value, c.offset-end.ensures.value, c.part_of.ensures.long)
