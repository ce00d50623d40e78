-- A zone that is another but for contents: what is kept beside it stays right.
use Rattle.std.proofs.Common.{◌≡◌, ℕ, ◌+◌, ◌*◌, ◌/◌, ◌≤◌, List, length, Option, Some, None, refl, ap, sym, ◌∙◌, subst}
use Rattle.mac_base.specs.HandleTable.{Live, EmptyHandle, FullHandle, Pointer, live_bytes}
use Rattle.mac_base.specs.HeadKind.{Shape, zone_header}
use Rattle.mac_base.specs.Heap.{Heap}
use Rattle.mac_base.specs.ZoneState.{ZoneState}
use Rattle.linked_zone.specs.Structure.{DifferInContents}
use Rattle.sum_tree.specs.Span.{heavy}
use Rattle.sum_tree.specs.Stale.{Stored}
use Rattle.zone_index.specs.declared.leaves.LeafSums.{LeafSums}
use Rattle.zone_index.specs.declared.lengths.Lengths.{Lengths}
use Rattle.zone_index.specs.declared.sums.Sums.{Sums}
use Rattle.zone_index.specs.Free.{summing_largest}
use Rattle.zone_index.specs.Leaves.{AreSums, Summing, leaf_size, sum_over}
use Rattle.zone_index.specs.LeafSums.{AreLeaves}
use Rattle.zone_index.specs.Lengths.{AreLengths}
use Rattle.zone_index.specs.Marks.{AreMarked}
use Rattle.zone_index.specs.Pages.{ArePages, begun, page_size, page_start}
use Rattle.zone_index.specs.Rooms.{summing_rooms}
use Rattle.zone_index.specs.Spans.{IsSum}
use Rattle.zone_index.specs.Weights.{weights}
use Rattle.zone_index.proofs.Alike.{AreAlike, alike-same, alike-tables, blank, blank-flags, blank-long}
use Rattle.zone_index.proofs.Bytes.{weights-same}
use Rattle.zone_index.proofs.MarksKept.{still-marked}
use Rattle.zone_index.proofs.Measured.{lengths-kept}
use Rattle.zone_index.proofs.Passing.{HasPassing, passing-within}
use Rattle.zone_index.proofs.Rules.{Rule, fixes, goes, kinds-within, lock_live, purge_live}

pub lock-blank : (o : Option Live) → lock_live (blank o) ≡ lock_live o
lock-blank o = ap (λ flags. flags.lock) (blank-flags o)

pub purge-blank : (o : Option Live) → purge_live (blank o) ≡ purge_live o
purge-blank None = refl
purge-blank (Some EmptyHandle) = refl
purge-blank (Some (FullHandle flags bytes)) = refl
purge-blank (Some (Pointer bytes)) = refl

module _ (z w : ZoneState) (d : DifferInContents z w) where
  alike : AreAlike z.heap.table w.heap.table
  alike = alike-tables z.heap w.heap d.heap

  same_map : w.heap.map ≡ z.heap.map
  same_map = ap (λ (h : Heap). h.map) (sym d.heap)

  same_weights : weights w.heap.table w.heap.map ≡ weights z.heap.table z.heap.map
  same_weights =
      ap (weights w.heap.table) same_map
      ∙ weights-same z.heap.table w.heap.table (alike-same lock_live lock-blank z.heap.table w.heap.table alike) (alike-same purge_live purge-blank z.heap.table w.heap.table alike) z.heap.map

  -- a rule that bytes say nothing of
  kept-marked : (r : Rule) → ((o : Option Live) → r.live (blank o) ≡ r.live o) → (marks : List ℕ) → AreMarked r.test z marks → AreMarked r.test w marks
  kept-marked r blanks marks =
      still-marked r.test z w marks (sym d.shape) (λ n h.
      passing-within (r.test w.heap.table) (r.test z.heap.table) (kinds-within r w.heap.table z.heap.table (λ x is. sym (alike-same r.live blanks z.heap.table w.heap.table alike x) ∙ is)) z.heap.map n
      (subst (λ m. HasPassing (r.test w.heap.table) m n) same_map h))

  pub fixed-refilled : (marks : List ℕ) → AreMarked fixes.test z marks → AreMarked fixes.test w marks
  fixed-refilled = kept-marked fixes lock-blank

  pub purgeable-refilled : (marks : List ℕ) → AreMarked goes.test z marks → AreMarked goes.test w marks
  purgeable-refilled = kept-marked goes purge-blank

  sums-refilled : {M : Type 0} (s : Summing M) (kept : Stored M) → AreSums s z kept → AreSums s w kept
  sums-refilled s kept a = record {
    places = a.places ∙ ap (λ (s : Shape). s.limit / leaf_size + 1) d.shape;
    right = λ j inside fresh. a.right j inside fresh ∙ ap (λ ws. sum_over s (begun (256 * j) (256 * j + 256) zone_header ws)) (sym same_weights);
  }

  pub leaves-refilled : (l : LeafSums) → AreLeaves z l → AreLeaves w l
  leaves-refilled l a = record {
    rooms = record { are = sums-refilled summing_rooms l.rooms a.rooms.are; light = subst (λ (s : Shape). heavy l.rooms.sums ≤ s.limit) d.shape a.rooms.light };
    largest = sums-refilled summing_largest l.largest a.largest;
  }

  pub pages-refilled : (pages : List (Option Sums)) → ArePages z pages → ArePages w pages
  pages-refilled pages a = record {
    places = a.places ∙ ap (λ (s : Shape). s.limit / page_size + 1) d.shape;
    known = λ c s there. subst (λ ws. IsSum (begun (page_start c) (page_start (c + 1)) zone_header ws) s) (sym same_weights) (a.known c s there);
  }

  pub lengths-refilled : (l : Lengths) → AreLengths z.heap.table l → AreLengths w.heap.table l
  lengths-refilled l are = lengths-kept z.heap.table w.heap.table l are (alike-same (λ o. length (live_bytes o)) blank-long z.heap.table w.heap.table alike)
