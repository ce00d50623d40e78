use Rattle.std.proofs.Common.{◌+◌, ◌∙◌, ap, arith}
use Rattle.linked_zone.proofs.Standing.{stands-now}
use Rattle.linked_zone.proofs.EndsSwapped.{room-can, head-is, room-begins}
use Rattle.linked_zone.proofs.EndsGiven.{fix-ends}
use Rattle.linked_zone.proofs.zone.LinkedZone.fix.Goals as goal

pub overflow_add-contents : goal.overflow_add-contents
overflow_add-contents c = let below = room-begins _ _ (stands-now c.self.invariant c.self.view_is) c.args.at c.args.length c.requires c.spec.result c.heads.result c.head_size.result c.spec.ensures c.heads.ensures c.head_size.ensures in omega arith

pub place_pointer-requires : goal.place_pointer-requires
place_pointer-requires c = room-can _ _ (stands-now c.self.invariant c.self.view_is) c.args.at c.args.length c.requires

pub invariant_of-self : goal.invariant_of-self
invariant_of-self c = (fix-ends _ _ (stands-now c.self.invariant c.self.view_is) c.args.length c.args.at c.requires c.place_pointer.new.self c.place_pointer.ensures).inside

pub returns-clause-pointer : goal.returns-clause-pointer
returns-clause-pointer c = c.new.ensures ∙ ap (λ n. c.args.at + n) (head-is _ _ (stands-now c.self.invariant c.self.view_is) c.spec.result c.heads.result c.head_size.result c.spec.ensures c.heads.ensures c.head_size.ensures)

pub returns-clause-zone : goal.returns-clause-zone
returns-clause-zone c room = (fix-ends _ _ (stands-now c.self.invariant c.self.view_is) c.args.length c.args.at room c.place_pointer.new.self c.place_pointer.ensures).same
