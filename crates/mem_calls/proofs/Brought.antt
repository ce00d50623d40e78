-- Bytes from outside the zone that are written into a block, and into that which a request gave.
use Rattle.std.proofs.Common.{◌≡◌, ℕ, ◌+◌, ◌-◌, ◌≤◌, true, List, [], ◌∷◌, ◌++◌, length, take, drop, Option, Result, Ok, refl, sym, ap, ◌∙◌, arith, append_assoc, append-nil, length-append, length-take, length-drop}
use Rattle.std.specs.Prelude.{◌||◌}
use Rattle.std.proofs.Math.Nat.{add-sub_cancel_left}
use Rattle.std.proofs.Math.Seq.{take-length, drop-length}
use Rattle.std.proofs.lemmas.List.{drop-drop}
use borrow.Rule.Slice.PartMut.{post_of}
use Rattle.mac_base.specs.declared.error.OsErr.{OsErr}
use Rattle.mac_base.specs.declared.block.Status.TheVariants.{Full}
use Rattle.mac_base.specs.declared.request.Request.TheVariants.{NewBlock, Resize}
use Rattle.mac_base.specs.BlockStatus.{status_of}
use Rattle.mac_base.specs.HandleTable.{Live, bytes_of, live_at, live_bytes, refilled, with_bytes}
use Rattle.mac_base.specs.HeadKind.{Shape}
use Rattle.mac_base.specs.Heap.{Heap, with_table}
use Rattle.mac_base.specs.Loans.{LoansAreFixed}
use Rattle.mac_base.specs.Request.{is_among}
use Rattle.mac_base.specs.Sound.{Sound}
use Rattle.mac_base.specs.ZoneState.{ZoneState, overwritten, with_contents, with_heap, written}
use Rattle.mac_base.specs.GrowZone.{Ask}
use Rattle.zone_laws.proofs.Lent.{lent-apart}
use Rattle.zone_laws.proofs.Tables.{eqb_same, with_live_agrees}
use Rattle.linked_zone.specs.Loans.{KeepsLoans}
use Rattle.zone_heap.proofs.Writing.{full-has_block, full-here}
use Rattle.mem_calls.specs.Requesting.{IsCallRun}
use Rattle.mem_calls.proofs.Copies.{full-from, keeps-resized}
use Rattle.mem_calls.proofs.Serving.{called}

-- ---- bytes that are written into a block

-- bytes written over all others
overwritten-whole : (old new : List ℕ) → length new ≡ length old → overwritten old new ≡ new
overwritten-whole old new same =
    let all : take (length old) new ≡ new = rw (← same) (take-length new) in
    let none : drop (length new) old ≡ [] = rw same (drop-length old) in
    rw (all, none) (append-nil new)

-- what a write to a part of some bytes leaves
part_written : (old bytes : List ℕ) (at : ℕ) → at + length bytes ≤ length old → overwritten old (take at old ++ (bytes ++ drop (length bytes) (drop at old))) ≡ written at bytes old
part_written old bytes at within =
    let after : drop (length bytes) (drop at old) ≡ drop (at + length bytes) old = drop-drop (length bytes) at old in
    let front : length (take at old) ≡ at = omega (arith, length-take at old) in
    let whole : length (take at old ++ (bytes ++ drop (at + length bytes) old)) ≡ length old = simp (length-append, length-drop) (omega arith) in
    rw after (overwritten-whole old (take at old ++ (bytes ++ drop (at + length bytes) old)) whole ∙ sym (append_assoc (take at old) bytes (drop (at + length bytes) old)))

-- what it leaves of the zone
pub block_written : (zone : ZoneState) (x at : ℕ) (bytes contents copied : List ℕ) → at + length bytes ≤ length (bytes_of zone.heap.table x) → contents ≡ bytes_of zone.heap.table x → copied ≡ bytes
    → with_contents zone x (take at contents ++ (copied ++ post_of at (at + length bytes - at) contents)) ≡ with_heap (with_table (with_bytes x (written at bytes (bytes_of zone.heap.table x)) zone.heap.table) zone.heap) zone
block_written zone x at bytes contents copied within whole all =
    let same : with_contents zone x (take at contents ++ (copied ++ post_of at (at + length bytes - at) contents)) ≡ with_contents zone x (take at (bytes_of zone.heap.table x) ++ (bytes ++ drop (length bytes) (drop at (bytes_of zone.heap.table x)))) = rw (whole, all, add-sub_cancel_left at (length bytes)) refl in
    same ∙ ap (λ bs. with_heap (with_table (with_bytes x bs zone.heap.table) zone.heap) zone) (part_written (bytes_of zone.heap.table x) bytes at within)

-- the loans stay where bytes are written into a block that isn't lent
pub KeepsLoans-written : (zone : ZoneState) (x : ℕ) (bytes : List ℕ) → status_of zone.heap.table x ≡ Full → KeepsLoans zone (with_contents zone x bytes)
KeepsLoans-written zone x bytes full = (
  refl,
  λ y loan is.
      let t = zone.heap.table in
      let other = lent-apart t x y (full-here t x full) is.lent in
      let same : live_at (with_contents zone x bytes).heap.table y ≡ live_at t y = (with_live_agrees x (refilled (overwritten (bytes_of t x) bytes) (live_at t x)) t).others y other in
      record { lent = is.lent; memory = is.memory; contents = is.contents; long = is.long ∙ ap (λ (o : Option Live). length (live_bytes o)) (sym same) },
)

-- ---- the block that a request gave

-- it takes bytes after its first ones, of which there are so many, up to its end
pub record Takes (mid : Heap) (to offset n : ℕ) : Type 0 where
  pub full : status_of mid.table to ≡ Full
  pub long : length (bytes_of mid.table to) ≡ offset + n

module _ (s : Shape) (n : ℕ) (asks : List Ask) (old mid : Heap) (result : Result ℕ OsErr) (x : ℕ) (sound : Sound s old) (fixed : LoansAreFixed old) (given : result ≡ Ok x) where
  -- a new one
  pub takes-new : IsCallRun s [] (NewBlock n) asks old result mid → Takes mid x 0 n
  takes-new run =
      let served = called s [] (NewBlock n) asks old mid result x run given tt sound fixed tt in
      let long = served.gives.1 in
      record { full = full-from mid.table x served.gives.0 served.here; long = omega (arith, long) }

  module _ (to offset : ℕ) (target : status_of old.table to ≡ Full) (run : IsCallRun s (to ∷ []) (Resize to (offset + n)) asks old result mid) where
    among : is_among (to ∷ []) to ≡ true
    among = ap (λ b. b || is_among [] to) (eqb_same to)

    -- one that has another size
    pub takes-resized : Takes mid to offset n
    takes-resized =
        let served = called s (to ∷ []) (Resize to (offset + n)) asks old mid result x run given among sound fixed (full-has_block old.table to target) in
        let keeps = keeps-resized (to ∷ []) (offset + n) to x old mid served among target in
        record { full = keeps.full; long = served.gives.1 }

    -- its first bytes are those that it had
    pub begins-resized : offset ≤ length (bytes_of old.table to) → take offset (bytes_of mid.table to) ≡ take offset (bytes_of old.table to)
    begins-resized after =
        let served = called s (to ∷ []) (Resize to (offset + n)) asks old mid result x run given among sound fixed (full-has_block old.table to target) in
        let keeps = keeps-resized (to ∷ []) (offset + n) to x old mid served among target in
        keeps.begins offset (omega arith) after
