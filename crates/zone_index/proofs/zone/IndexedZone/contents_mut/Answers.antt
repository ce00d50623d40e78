use Rattle.std.proofs.Common.{refl}
use Rattle.zone_index.proofs.Rules.{fixes, goes}
use Rattle.zone_index.proofs.Table.{rewritten-marked}
use Rattle.mac_base.specs.HandleTable.{bytes_of, with_bytes}
use Rattle.mac_base.specs.ZoneState.{overwritten}
use Rattle.zone_index.proofs.Bytes.{weights-bytes}
use Rattle.zone_index.proofs.PagesRenewed.{pages-still}
use Rattle.zone_index.proofs.Measured.{length-overwritten, lengths-kept, same-with_bytes}
use Rattle.zone_index.proofs.LeavesChanged.{leaves-still}
use Rattle.zone_index.proofs.zone.IndexedZone.contents_mut.Goals as goal

pub invariant_of-self-lent : goal.invariant_of-self-lent
invariant_of-self-lent c ws =
    record {
      fixed = rewritten-marked fixes c.self.inside.zone c.self.inside.marks c.self.invariant.fixed c.args.block _;
      purgeable = rewritten-marked goes c.self.inside.zone c.self.inside.purgeable c.self.invariant.purgeable c.args.block _;
      leaves = leaves-still c.self.inside.zone _ c.self.inside.leaves c.self.invariant.leaves refl (weights-bytes c.self.inside.zone.heap.table c.args.block _ c.self.inside.zone.heap.map);
      pages = pages-still c.self.inside.zone _ c.self.inside.pages c.self.invariant.pages refl (weights-bytes c.self.inside.zone.heap.table c.args.block _ c.self.inside.zone.heap.map);
      lengths = (let t = c.self.inside.zone.heap.table in
          let x = c.args.block in
          let bytes = overwritten (bytes_of t x) ws in lengths-kept t (with_bytes x bytes t) c.self.inside.lengths c.self.invariant.lengths (same-with_bytes x bytes t (length-overwritten (bytes_of t x) ws)));
    }
