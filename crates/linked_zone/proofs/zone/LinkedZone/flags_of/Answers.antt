use Rattle.std.proofs.Common.{◌∙◌, ap, subst, sym}
use Rattle.mac_base.specs.BlockReport.{block_flags}
use Rattle.mac_base.specs.HandleTable.{flags_of}
use Rattle.linked_zone.specs.Owned.{header_flags}
use Rattle.linked_zone.specs.Places.{HasOwner}
use Rattle.linked_zone.proofs.EndsSwapped.{kind-is}
use Rattle.linked_zone.proofs.Standing.{stands-now}
use Rattle.linked_zone.proofs.zone.LinkedZone.flags_of.Goals as goal

pub flags-requires : goal.flags-requires
flags-requires c = subst (HasOwner c.args.self.now) c.in-Rel.is c.requires.owner

pub returns-in-Bits24 : goal.returns-in-Bits24
returns-in-Bits24 c = c.flags.ensures ∙ ap (block_flags c.args.self.now.heap.table) (sym c.in-Rel.is)

pub returns-in-Bits32 : goal.returns-in-Bits32
returns-in-Bits32 c =
    let t = c.args.self.now.heap.table in
    c.requires.header c.in-Rel.handle c.in-Rel.is
    ∙ ap (λ k. header_flags k (flags_of t c.in-Rel.handle)) (kind-is _ _ (stands-now c.self.invariant c.self.view_is) c.spec.result c.heads.result c.spec.ensures c.heads.ensures ∙ c.in-Bits32.is)
    ∙ ap (block_flags t) (sym c.in-Rel.is)
