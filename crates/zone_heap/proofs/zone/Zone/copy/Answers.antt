use Rattle.std.proofs.Common.{◌+◌, ◌≤◌, ◌∙◌, ap, sym, subst, refl, length}
use Rattle.mac_base.specs.BlockStatus.{status_of}
use Rattle.mac_base.specs.HandleTable.{bytes_of}
use Rattle.mac_base.specs.Sound.{Sound}
use Rattle.mac_base.specs.ZoneState.{ZoneState, written}
use Rattle.std.specs.Prelude.{take, drop}
use Rattle.zone_laws.proofs.Lent.{KeepsLent}
use Rattle.zone_laws.proofs.LentChanges.{keeps-written}
use Rattle.zone_laws.proofs.SoundWritten.{sound-written}
use Rattle.linked_zone.specs.Copying.{CanCopy, copied}
use Rattle.zone_heap.proofs.Loans.{changed-loans, changed-fixed}
use Rattle.zone_heap.proofs.Writing.{full-has_block, full-here, length-copied}
use Rattle.zone_heap.proofs.zone.Zone.copy.Goals as goal
use Rattle.zone_heap.proofs.zone.Zone.copy.Goals.{After-copy}

-- what is lent is kept
kept : (c : After-copy) → KeepsLent c.self.inside.pointers.shape c.self.inside.pointers.heap (copied c.args.from c.args.start c.args.to c.args.offset c.args.count c.self.inside.pointers).heap
kept c =
    let z = c.self.inside.pointers in
    let t = z.heap.table in
    let full = ap (λ (z : ZoneState). status_of z.heap.table c.args.to) c.self.view_is ∙ c.requires.target in
    keeps-written z.shape z.heap c.args.to (written c.args.offset (take c.args.count (drop c.args.start (bytes_of t c.args.from))) (bytes_of t c.args.to)) (full-here t c.args.to full)

pub copy-requires : goal.copy-requires
copy-requires c =
    let Can : ZoneState → Type 0 = λ z. CanCopy z c.args.from c.args.start c.args.to c.args.offset c.args.count in
    let t = c.args.self.now.heap.table in
    subst Can (sym c.self.view_is) (record {
      source = full-has_block t c.args.from c.requires.source;
      target = full-has_block t c.args.to c.requires.target;
      source_here = full-here t c.args.from c.requires.source;
      target_here = full-here t c.args.to c.requires.target;
      within_source = c.requires.within_source;
      within_target = c.requires.within_target;
    })

pub invariant_of-self : goal.invariant_of-self
invariant_of-self c =
    let z = c.self.inside.pointers in
    let t = z.heap.table in
    let source = bytes_of t c.args.from in
    let target = bytes_of t c.args.to in
    let full = ap (λ (z : ZoneState). status_of z.heap.table c.args.to) c.self.view_is ∙ c.requires.target in
    let new = copied c.args.from c.args.start c.args.to c.args.offset c.args.count z in
    let long = length-copied c.args.start c.args.offset c.args.count source target
    (subst (λ (z : ZoneState). c.args.start + c.args.count ≤ length (bytes_of z.heap.table c.args.from)) (sym c.self.view_is) c.requires.within_source)
    (subst (λ (z : ZoneState). c.args.offset + c.args.count ≤ length (bytes_of z.heap.table c.args.to)) (sym c.self.view_is) c.requires.within_target) in
    record {
      sound = subst (λ (w : ZoneState). Sound w.shape w.heap) (sym c.copy.ensures)
          (sound-written z.shape z.heap c.args.to (written c.args.offset (take c.args.count (drop c.args.start source)) target) c.self.invariant.sound (full-has_block t c.args.to full) long);
      fixed = changed-fixed z new c.copy.new.self c.copy.ensures (kept (goal.at.invariant_of-self c).After-copy) c.self.invariant.fixed;
    }

pub returns-clause-loans : goal.returns-clause-loans
returns-clause-loans c =
    let z = c.self.inside.pointers in
    changed-loans c.args.self.now z (copied c.args.from c.args.start c.args.to c.args.offset c.args.count z) c.copy.new.self c.self.view_is c.copy.ensures refl refl (kept (goal.at.returns-clause-loans c).After-copy)
