use Rattle.mac_base.specs.ZoneState.{ZoneState, overwritten}
use Rattle.std.proofs.Common.{◌≡◌, sym, subst}
use Rattle.mac_base.specs.BlockStatus.{status_of}
use Rattle.mac_base.specs.declared.block.Status.TheVariants.{Full}
use Rattle.mac_base.specs.HandleTable.{bytes_of, with_bytes}
use Rattle.mac_base.specs.Heap.{with_table}
use Rattle.zone_laws.proofs.Lent.{fixed-kept}
use Rattle.zone_laws.proofs.LentChanges.{keeps-written}
use Rattle.zone_laws.proofs.SoundWritten.{sound-written}
use Rattle.zone_heap.proofs.Writing.{full-has_block, full-here}
use Rattle.zone_index.proofs.Measured.{length-overwritten}
use Rattle.zone_heap.proofs.zone.Zone.contents_mut.Goals as goal

pub invariant_of-self-lent : goal.invariant_of-self-lent
invariant_of-self-lent c w =
    let heap = c.self.inside.pointers.heap in
    let x = c.args.block in
    let s = c.self.inside.pointers.shape in
    let full = subst (λ (z : ZoneState). status_of z.heap.table x ≡ Full) (sym c.self.view_is) c.requires.full in
    let bytes = overwritten (bytes_of heap.table x) w in
    record {
      sound = sound-written s heap x bytes c.self.invariant.sound (full-has_block heap.table x full) (length-overwritten (bytes_of heap.table x) w);
      fixed = fixed-kept s heap (with_table (with_bytes x bytes heap.table) heap) (keeps-written s heap x bytes (full-here heap.table x full)) c.self.invariant.fixed;
    }
