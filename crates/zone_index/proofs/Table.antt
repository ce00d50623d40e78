-- Changes of the handle table alone keep marks right.
use Rattle.std.proofs.Common.{◌≡◌, ℕ, List, [], ◌∷◌, Option, Some, None, MatchOption, refl, sym, subst, drop}
use Rattle.mac_base.specs.HandleTable.{EmptyHandle, with_bytes}
use Rattle.mac_base.specs.Heap.{with_table}
use Rattle.mac_base.specs.Loans.{lent_out, returned}
use Rattle.mac_base.specs.ZoneState.{ZoneState, with_heap}
use Rattle.linked_zone.specs.Changes.{given_back, taken}
use Rattle.zone_index.specs.Marks.{AreMarked}
use Rattle.zone_index.proofs.Passing.{passing-within}
use Rattle.zone_index.proofs.MarksKept.{still-marked}
use Rattle.zone_index.proofs.Rules.{Rule, kinds-within, lives-same, lives-with_bytes, lives-with_live, lives-without}

module _ (r : Rule) (z : ZoneState) (marks : List ℕ) (are : AreMarked r.test z marks) where
  pub taken-marked : (h : ℕ) → AreMarked r.test (taken h z) marks
  taken-marked h = still-marked r.test z (taken h z) marks refl (passing-within (r.test (taken h z).heap.table) (r.test z.heap.table) (kinds-within r (taken h z).heap.table z.heap.table (lives-with_live r h EmptyHandle z.heap.table r.empty)) z.heap.map) are

  -- whichever slot is taken, if any
  pub take-marked : (new : ZoneState) (slot : Option ℕ) → MatchOption slot ((z.heap.free_slots ≡ []) × (new ≡ z)) (λ handle. (z.heap.free_slots ≡ handle ∷ drop 1 z.heap.free_slots) × (new ≡ taken handle z)) → AreMarked r.test new marks
  take-marked new None h = subst (λ (z : ZoneState). AreMarked r.test z marks) (sym h.1) are
  take-marked new (Some handle) h = subst (λ (z : ZoneState). AreMarked r.test z marks) (sym h.1) (taken-marked handle)

  pub given_back-marked : (h : ℕ) → AreMarked r.test (given_back h z) marks
  given_back-marked h = still-marked r.test z (given_back h z) marks refl (passing-within (r.test (given_back h z).heap.table) (r.test z.heap.table) (kinds-within r (given_back h z).heap.table z.heap.table (lives-without r h z.heap.table)) z.heap.map) are

  -- other bytes
  pub rewritten-marked : (x : ℕ) (bytes : List ℕ) → AreMarked r.test (with_heap (with_table (with_bytes x bytes z.heap.table) z.heap) z) marks
  rewritten-marked x bytes = still-marked r.test z _ marks refl (passing-within (r.test (with_bytes x bytes z.heap.table)) (r.test z.heap.table) (kinds-within r (with_bytes x bytes z.heap.table) z.heap.table (lives-with_bytes r x bytes z.heap.table)) z.heap.map) are

  -- loans
  pub lent_out-marked : (x : ℕ) → AreMarked r.test (with_heap (lent_out x z.heap) z) marks
  lent_out-marked x = still-marked r.test z _ marks refl (passing-within (r.test (lent_out x z.heap).table) (r.test z.heap.table) (kinds-within r (lent_out x z.heap).table z.heap.table (lives-same r z.heap.table)) z.heap.map) are

  pub returned-marked : (x : ℕ) (bytes : List ℕ) → AreMarked r.test (with_heap (returned x bytes z.heap) z) marks
  returned-marked x bytes = still-marked r.test z _ marks refl (passing-within (r.test (returned x bytes z.heap).table) (r.test z.heap.table) (kinds-within r (returned x bytes z.heap).table z.heap.table (lives-with_bytes r x bytes z.heap.table)) z.heap.map) are
