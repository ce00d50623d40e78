use Rattle.std.proofs.Common.{◌-◌, ap, sym, ◌∙◌, subst, arith}
use Rattle.mac_base.specs.ZoneSizes.{ZoneSizes}
use Rattle.mac_base.specs.HandleTable.{is_full, is_pointer}
use Rattle.linked_zone.specs.Places.{BlockOf, NamedAt}
use Rattle.linked_zone.proofs.Standing.{stands-now}
use Rattle.linked_zone.proofs.Found.{head-read, full-other, pointer-named, handle-named}
use Rattle.linked_zone.proofs.zone.LinkedZone.address_of.Goals as goal

pub overflow_sub-result : goal.overflow_sub-result
overflow_sub-result c =
    let stands = stands-now c.self.invariant c.self.view_is in
    let head = head-read _ _ stands c.heads.result c.head_size.result (c.heads.ensures ∙ ap (λ (s : ZoneSizes). s.heads) c.spec.ensures) c.head_size.ensures in
    let large = (pointer-named _ _ stands c.args.block (ap (is_pointer c.args.self.now.heap.table) (sym c.new.ensures) ∙ sym c.is_pointer.ensures ∙ c.if-is_pointer.true)).0 in
    omega arith

pub returns-then-is_pointer : goal.returns-then-is_pointer
returns-then-is_pointer c =
    let stands = stands-now c.self.invariant c.self.view_is in
    let head = head-read _ _ stands c.heads.result c.head_size.result (c.heads.ensures ∙ ap (λ (s : ZoneSizes). s.heads) c.spec.ensures) c.head_size.ensures in
    subst (λ n. NamedAt c.args.self.now c.args.block (c.args.block - n)) (sym head) (pointer-named _ _ stands c.args.block (ap (is_pointer c.args.self.now.heap.table) (sym c.new.ensures) ∙ sym c.is_pointer.ensures ∙ c.if-is_pointer.true)).1

pub block_of-requires : goal.block_of-requires
block_of-requires c =
    let z = c.args.self.now in
    let other = ap (is_pointer z.heap.table) (sym c.new.ensures) ∙ sym c.is_pointer.ensures ∙ c.if-is_pointer.false in
    ap (is_full z.heap.table) c.new-else-is_pointer.ensures ∙ sym (full-other z c.args.block other) ∙ c.requires

pub returns-else-is_pointer : goal.returns-else-is_pointer
returns-else-is_pointer c =
    handle-named _ _ (stands-now c.self.invariant c.self.view_is) c.args.block c.block_of.result (subst (λ h. BlockOf c.args.self.now h c.block_of.result) c.new-else-is_pointer.ensures c.block_of.ensures)
