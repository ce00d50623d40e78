use Rattle.std.proofs.Common.{◌≡◌, ◌∙◌, ◌==◌, ap, refl, sym, subst, true, false}
use Rattle.std.specs.List.{list_any}
use Rattle.mac_base.specs.HandleTable.{flags_of, is_full}
use Rattle.mac_base.specs.ZoneState.{ZoneState}
use Rattle.held_zone.specs.KeptFlags.{KeepsAt, right_flags}
use Rattle.held_zone.proofs.Keeping.{keeps-set, keeps-waiting, kept-right}
use Rattle.held_zone.proofs.repairing.keep_at.Goals as goal

pub returns-then-contains : goal.returns-then-contains
returns-then-contains c = keeps-waiting c.args.memory.now c.args.memory.now c.args.bytes.now c.args.waiting.now c.args.number (sym c.contains.ensures.value ∙ c.if-contains.true) refl

pub returns : goal.returns
returns c =
    let z = c.args.memory.now in let bytes = c.args.bytes.now in let waiting = c.args.waiting.now in let h = c.new-handle.result in
    let here = c.linked-zone.ensures.zone in
    let full : is_full z.heap.table h ≡ true = ap (λ (z : ZoneState). is_full z.heap.table h) (sym here) ∙ sym c.if-not-is_full.ensures in
    let none : list_any (λ y. y == h) waiting ≡ false = ap (λ x. list_any (λ y. y == x) waiting) c.new-handle.ensures ∙ sym c.contains.ensures.value ∙ c.if-contains.false in
    let right = c.right_flags-flags.ensures ∙ ap (λ (z : ZoneState). right_flags z bytes h (flags_of z.heap.table h)) here in
    let set = c.set_flags.ensures in
    subst (λ x. KeepsAt z bytes waiting x c.set_flags.new.memory) c.new-handle.ensures
    (keeps-set z c.set_flags.new.memory bytes waiting h c.right_flags-flags.result full (right ∙ kept-right z bytes waiting h (flags_of z.heap.table h) none)
    (ap (λ (z : ZoneState). z.heap) set) (ap (λ (z : ZoneState). z.shape) set) (ap (λ (z : ZoneState). z.memory) set))
