use Rattle.std.proofs.Common.{◌∙◌, sym, ap, subst, refl}
use Rattle.std.specs.Prelude.{◌||◌, not}
use Rattle.mac_base.specs.HandleTable.{is_full, is_lent}
use Rattle.mac_base.specs.Sound.{Sound}
use Rattle.mac_base.specs.ZoneState.{ZoneState}
use Rattle.zone_laws.proofs.Lent.{KeepsLent}
use Rattle.zone_laws.proofs.LentChanges.{keeps-flags}
use Rattle.zone_laws.proofs.SoundWritten.{sound-flags}
use Rattle.linked_zone.specs.Changes.{flagged}
use Rattle.zone_heap.proofs.Loans.{changed-loans, changed-fixed}
use Rattle.zone_heap.proofs.zone.Zone.set_flags.Goals as goal
use Rattle.zone_heap.proofs.zone.Zone.set_flags.Goals.{After-set_flags}

-- what is lent is kept
kept : (c : After-set_flags) → KeepsLent c.self.inside.pointers.shape c.self.inside.pointers.heap (flagged c.args.handle c.args.flags c.self.inside.pointers).heap
kept c =
    let z = c.self.inside.pointers in
    keeps-flags z.shape z.heap c.args.handle c.args.flags (ap (λ (z : ZoneState). c.args.flags.lock || not (is_lent z.heap.table c.args.handle)) c.self.view_is ∙ c.requires.fixed)

pub invariant_of-self : goal.invariant_of-self
invariant_of-self c =
    let z = c.self.inside.pointers in
    let full = ap (λ (z : ZoneState). is_full z.heap.table c.args.handle) c.self.view_is ∙ c.requires.full in
    record {
      sound = subst (λ (w : ZoneState). Sound w.shape w.heap) (sym c.set_flags.ensures) (sound-flags z.shape z.heap c.args.handle c.args.flags c.self.invariant.sound full);
      fixed = changed-fixed z (flagged c.args.handle c.args.flags z) c.set_flags.new.self c.set_flags.ensures (kept (goal.at.invariant_of-self c).After-set_flags) c.self.invariant.fixed;
    }

pub returns-clause-loans : goal.returns-clause-loans
returns-clause-loans c =
    let z = c.self.inside.pointers in
    changed-loans c.args.self.now z (flagged c.args.handle c.args.flags z) c.set_flags.new.self c.self.view_is c.set_flags.ensures refl refl (kept (goal.at.returns-clause-loans c).After-set_flags)
