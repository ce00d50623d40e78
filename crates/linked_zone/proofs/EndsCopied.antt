-- How the call ends that copies bytes of one handle or pointer over those of another.
use Rattle.std.proofs.Common.{◌≡◌, ℕ, ◌+◌, false, [], ◌∷◌, ◌++◌, length, take, drop, ap, sym, ◌∙◌, subst, arith}
use Rattle.mac_base.specs.HeadKind.{head_size}
use Rattle.mac_base.specs.HandleTable.{bytes_of, is_lent}
use Rattle.mac_base.specs.Heap.{front_slot}
use Rattle.mac_base.specs.ZoneMap.{total_size, address_after}
use Rattle.mac_base.specs.ZoneState.{ZoneState, written}
use Rattle.zone_records.specs.Copying as copying
use Rattle.zone_records.specs.Places as places
use Rattle.zone_records.specs.Records.{ZoneRecords, with_bytes}
use Rattle.zone_records.specs.Records as records
use Rattle.linked_zone.specs.Copying.{CanCopy, copied}
use Rattle.linked_zone.specs.Owned.{owners_of, records_of, content_of, lent_of}
use Rattle.linked_zone.specs.Places.{NamedAt}
use Rattle.linked_zone.proofs.Standing.{Stands, Kept}
use Rattle.linked_zone.proofs.Ends.{lower, upper}
use Rattle.linked_zone.proofs.EndsSized.{named-other}
use Rattle.linked_zone.proofs.EndsSwapped.{block-there}
use Rattle.linked_zone.proofs.EndsWritten.{rewritten-kept}
use Rattle.linked_zone.proofs.Found.{named-held, named-lent}

module _ (r : ZoneRecords) (z : ZoneState) (held : Stands r z) where
  -- what is in the block that a handle or a pointer names
  abbrev content : {x at : ℕ} → NamedAt z x at → records.Content
  content place = content_of (owners_of z) ((address_after z.shape [] + total_size place.before) + head_size z.shape.heads) place.here.kind

  -- its bytes, and that it isn't lent
  content-bytes : {x at : ℕ} (place : NamedAt z x at) → records.bytes_of (content place) ≡ bytes_of z.heap.table x
  content-bytes {x = x} place = (named-held (owners_of z) _ x place.here.kind place.named).1

  block-unlent : {x at : ℕ} (place : NamedAt z x at) → is_lent z.heap.table x ≡ false → lent_of (owners_of z) place.here.kind ≡ false
  block-unlent {x = x} place unlent = named-lent (owners_of z) x place.here.kind place.named ∙ unlent

  -- it is one of the blocks
  abbrev held-there : {x at : ℕ} (place : NamedAt z x at) → is_lent z.heap.table x ≡ false → places.HeldAt (records_of z) at
  held-there {x = x} {at = at} place unlent = block-there r z held z.heap x place.before place.here.kind place.here.kind place.here.size place.after place.map place.map (named-other x place.here.kind place.named)
      at place.place (named-held (owners_of z) _ x place.here.kind place.named).0 (block-unlent place unlent)

  module _ (from start to offset n low high : ℕ) (can : CanCopy z from start to offset n) (source : NamedAt z from low) (target : NamedAt z to high) where
    abbrev copy_there : copying.CanCopy (records_of z) low start high offset n
    copy_there = record {
      source = held-there source can.source_here;
      target = held-there target can.target_here;
      within_source = (let long = ap length (content-bytes source) in let within = can.within_source in omega arith);
      within_target = (let long = ap length (content-bytes target) in let within = can.within_target in omega arith);
    }

    -- the bytes can be copied
    pub copy-can : copying.CanCopy r low start high offset n
    copy-can = subst (λ r. copying.CanCopy r low start high offset n) (sym held.blocks) copy_there

    -- they are
    pub copy-ends : (m : ZoneRecords) → ((c : copying.CanCopy r low start high offset n) → m ≡ copying.copied r c) → Kept m (copied from start to offset n z)
    copy-ends m is = rewritten-kept r z held to high can.target target (written offset (take n (drop start (bytes_of z.heap.table from))) (bytes_of z.heap.table to)) m
        ((subst (λ (r : ZoneRecords). (c : copying.CanCopy r low start high offset n) → m ≡ copying.copied r c) held.blocks is) copy_there
        ∙ ap (λ bs. record { memory = z.memory; shape = z.shape; front = front_slot z.heap; blocks = lower (owners_of z) z.shape target.before ++ bs })
        (λ i. record { size = target.here.size; content = with_bytes (written offset (take n (drop start (content-bytes source i))) (content-bytes target i)) (content target); lent = sym (block-unlent target can.target_here) i } ∷ upper (owners_of z) z.shape target.before (target.here ∷ []) target.after))
