use Rattle.std.proofs.Common.{◌≡◌, ◌∙◌, ◌||◌, ◌==◌, false, ap, sym, arith, inl, inr}
use Rattle.std.proofs.lemmas.Bool.Decides.{nat_tests}
use Rattle.mac_base.specs.declared.block.Status.TheVariants.{Full}
use Rattle.mac_base.specs.HandleTable.{is_locked, is_pointer}
use Rattle.linked_zone.specs.Structure.{shown}
use Rattle.held_zone.proofs.Lendable.{full-lendable, none-lendable}
use Rattle.held_zone.proofs.lending_again.is_lendable.Goals as goal

pub returns-in-NotLive : goal.returns-in-NotLive
returns-in-NotLive c =
    let other : c.status.result ≡ Full → ⊥ = elim c.in-NotLive.is [
      | inl one ↦ λ full. absurd (cc (one, full))
      | inr rest ↦ elim rest [
        | inl one ↦ λ full. absurd (cc (one, full))
        | inr one ↦ λ full. absurd (cc (one, full))
      ]
    ] in
    none-lendable c.args.memory.now c.args.bytes.now c.args.block c.requires.nothing_lent c.status.result c.status.ensures other

pub returns-then-is_pointer : goal.returns-then-is_pointer
returns-then-is_pointer c =
    let none = c.if-block-eq0.false in
    let some : (c.args.block == 0) ≡ false = grind (arith, nat_tests) in
    let pointer : c.is_pointer.result ≡ is_pointer c.args.memory.now.heap.table c.args.block = c.is_pointer.ensures ∙ (λ i. is_pointer (c.linked.ensures.zone i).heap.table (c.new.ensures i)) in
    c.if-is_pointer.true
    ∙ ap (λ b. b || is_locked (shown c.args.memory.now c.args.bytes.now).heap.table c.args.block) (sym c.if-is_pointer.true ∙ pointer)
    ∙ full-lendable c.args.memory.now c.args.bytes.now c.args.block c.requires.nothing_lent some (sym c.in-Full.is ∙ c.status.ensures)

pub returns-else-is_pointer : goal.returns-else-is_pointer
returns-else-is_pointer c =
    let none = c.if-block-eq0.false in
    let some : (c.args.block == 0) ≡ false = grind (arith, nat_tests) in
    let pointer : c.is_pointer.result ≡ is_pointer c.args.memory.now.heap.table c.args.block = c.is_pointer.ensures ∙ (λ i. is_pointer (c.linked.ensures.zone i).heap.table (c.new.ensures i)) in
    c.is_locked.ensures
    ∙ ap (λ b. b || is_locked (shown c.args.memory.now c.args.bytes.now).heap.table c.args.block) (sym c.if-is_pointer.false ∙ pointer)
    ∙ full-lendable c.args.memory.now c.args.bytes.now c.args.block c.requires.nothing_lent some (sym c.in-Full.is ∙ c.status.ensures)
