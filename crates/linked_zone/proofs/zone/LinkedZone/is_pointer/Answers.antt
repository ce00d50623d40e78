use Rattle.std.proofs.Common.{◌-◌, ◌∙◌, sym, ap, arith}
use Rattle.std.proofs.lemmas.Bool.Decides.{nat_tests}
use Rattle.std.proofs.lemmas.Bool.{false_from_ne_true}
use Rattle.mac_base.specs.declared.block.Entry.{Entry}
use Rattle.mac_base.specs.ZoneSizes.{ZoneSizes}
use Rattle.mac_base.specs.HandleTable.{is_pointer}
use Rattle.linked_zone.proofs.Standing.{stands-now}
use Rattle.linked_zone.proofs.Found.{head-read, pointer-made, pointer-said}
use Rattle.linked_zone.proofs.zone.LinkedZone.is_pointer.Goals as goal
use Rattle.linked_zone.proofs.zone.LinkedZone.is_pointer.Goals.{then-number-head_size, else-number-head_size}

pub returns-in-Ptr : goal.returns-in-Ptr
returns-in-Ptr c =
    let stands = stands-now c.self.invariant c.self.view_is in
    let head = head-read _ _ stands c.heads.result c.head_size-head_size.result (c.heads.ensures ∙ ap (λ (s : ZoneSizes). s.heads) c.spec.ensures) c.head_size-head_size.ensures in
    let number = c.number-number.ensures in
    elim c.if-number-head_size.branch [
      | then-number-head_size w ↦ (let large = w.if-number-head_size.true in
          sym (pointer-made _ _ stands (c.number-number.result - c.head_size-head_size.result) c.args.pointer _ c.entry_at.result (w.is_block.ensures.0 (sym w.value-is ∙ c.if-is_block.true)) c.entry_at.ensures c.in-Ptr.is (omega arith)))
      | else-number-head_size w ↦ let less = w.if-number-head_size.false in absurd (grind (arith, nat_tests))
    ]

pub returns-in_default : goal.returns-in_default
returns-in_default c =
    let stands = stands-now c.self.invariant c.self.view_is in
    let head = head-read _ _ stands c.heads.result c.head_size-head_size.result (c.heads.ensures ∙ ap (λ (s : ZoneSizes). s.heads) c.spec.ensures) c.head_size-head_size.ensures in
    let number = c.number-number.ensures in
    sym (false_from_ne_true (is_pointer c.args.self.now.heap.table c.args.pointer) (λ live.
    let said = pointer-said _ _ stands (c.number-number.result - c.head_size-head_size.result) c.args.pointer live (λ i. number i - head i) in
    c.in_default.not-Ptr c.args.pointer (ap (λ (e : Entry). e.kind) (c.entry_at.ensures said.1.0) ∙ said.1.1)))

pub returns-else-is_block : goal.returns-else-is_block
returns-else-is_block c =
    let stands = stands-now c.self.invariant c.self.view_is in
    let head = head-read _ _ stands c.heads.result c.head_size-head_size.result (c.heads.ensures ∙ ap (λ (s : ZoneSizes). s.heads) c.spec.ensures) c.head_size-head_size.ensures in
    let number = c.number-number.ensures in
    c.if-is_block.false ∙ sym (false_from_ne_true (is_pointer c.args.self.now.heap.table c.args.pointer) (λ live.
    let said = pointer-said _ _ stands (c.number-number.result - c.head_size-head_size.result) c.args.pointer live (λ i. number i - head i) in
    let large = said.0 in
    elim c.if-number-head_size.branch [
      | then-number-head_size w ↦ cc (w.is_block.ensures.1 said.1.0, w.value-is, c.if-is_block.false)
      | else-number-head_size w ↦ let less = w.if-number-head_size.false in omega arith
    ]))
