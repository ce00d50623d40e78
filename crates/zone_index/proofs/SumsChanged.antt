-- What each change leaves of the sums of leaves.
use Rattle.std.proofs.Common.{◌≡◌, ℕ, ◌+◌, ◌-◌, ◌<◌, true, false, not, cond, List, [], ◌∷◌, ◌++◌, length, get_or, refl, sym, ◌∙◌, subst, inl, inr, arith, append_assoc}
use Rattle.std.specs.Prelude.{◌==◌, ◌⊎◌, IsTrue}
use Rattle.std.proofs.lemmas.Bool.{and_from, and_parts, not-true}
use Rattle.mac_base.specs.declared.block.Kind.TheVariants.{Free}
use Rattle.mac_base.specs.Gap.{is_fixed}
use Rattle.mac_base.specs.HandleTable.{HandleTable}
use Rattle.mac_base.specs.HeadKind.{zone_header}
use Rattle.mac_base.specs.Heap.{Heap}
use Rattle.mac_base.specs.ZoneMap.{ZoneMap, address_after, block, free_block, free_bytes, free_size, total_size}
use Rattle.mac_base.specs.ZoneState.{ZoneState, with_heap}
use Rattle.zone_laws.proofs.Maps.{total_size-append}
use Rattle.linked_zone.specs.Changes.{carried_up, cut_in_two, enlarged, extended, held_there, joined_pair, relocated, sunk}
use Rattle.linked_zone.specs.Fit.{Fits}
use Rattle.linked_zone.specs.Places.{BlockOf, CanCut, CanGrow, CanHold, EntryAt, FreeAt, FreePair, ParcelAt, ParcelUpTo, SplitAt}
use Rattle.sum_tree.specs.Stale.{Stored}
use Rattle.zone_index.specs.Leaves.{AreSums, IsPassed, Summing, Touched}
use Rattle.zone_index.specs.Runs.{none_fixed}
use Rattle.zone_index.proofs.Changed.{OneOther, carry-renews, emptied_first, extended-renews, grown-renews, held-renews, merge-renews, moved_in-other, moved_out-other, other-renews, sink-renews, split-renews}
use Rattle.zone_index.specs.Weights.{weigh}
use Rattle.zone_index.proofs.Summing.{IsSumming}
use Rattle.zone_index.proofs.SumsRenewed.{Begins, sums-all_stale, sums-renewed}

-- the blocks after the first of a parcel
abbrev pub parcel_split : (z : ZoneState) {at end : ℕ} (parcel : ParcelAt z at end) (low : ℕ) → low ≡ at + parcel.here.size → SplitAt z low
parcel_split z parcel low is = record {
  before = parcel.before ++ parcel.here ∷ [];
  after = parcel.blocks ++ parcel.after;
  map = parcel.map ∙ sym (append_assoc parcel.before (parcel.here ∷ []) (parcel.blocks ++ parcel.after));
  place = (let all = total_size-append parcel.before (parcel.here ∷ []) in let place = parcel.place in omega arith);
}

-- a run and the block after it
abbrev pub run_split : (z : ZoneState) {start at : ℕ} → ParcelUpTo z start at → SplitAt z start
run_split z parcel = record { before = parcel.before; after = parcel.blocks ++ parcel.here ∷ parcel.after; map = parcel.map; place = parcel.place }

-- of blocks none of which is fixed the first aren't
pub none_fixed-first : (t : HandleTable) (a b : ZoneMap) → none_fixed t (a ++ b) ≡ true → none_fixed t a ≡ true
none_fixed-first t [] b moves = refl
none_fixed-first t (e ∷ es) b moves = let both = and_parts (not (is_fixed t e.kind)) (none_fixed t (es ++ b)) moves in and_from _ _ both.0 (none_fixed-first t es b both.1)

-- the block that grows
abbrev pub grown-entry : (z : ZoneState) {x size n at : ℕ} (can : CanGrow z x size n) → at ≡ address_after z.shape can.before → EntryAt z at
grown-entry z can place = record { before = can.before; here = can.here; after = block Free can.free ∷ can.after; map = can.map; place = place }

module _ {M : Type 0} {fits : M → Type 0} (s : Summing M) (are : IsSumming s fits) where
  -- what is over may begin where it does
  one_begins : (t : HandleTable) (P : ℕ → Type 0) (n at : ℕ) → P at → Begins s t P at (free_block n)
  one_begins t P n at may = elim (n == 0) as (λ b. Begins s t P at (cond b [] (block Free n ∷ []))) [ true ↦ tt | false ↦ (inr may, tt) ]

  begins-append : (t : HandleTable) (P : ℕ → Type 0) (at : ℕ) (a b : ZoneMap) → Begins s t P at a → Begins s t P (at + total_size a) b → Begins s t P at (a ++ b)
  begins-append t P at [] b first rest = subst (λ n. Begins s t P n b) (let e : at + 0 ≡ at = omega arith in e) rest
  begins-append t P at (e ∷ es) b first rest = (first.0, begins-append t P (at + e.size) es b first.1 (subst (λ n. Begins s t P n b) (let e : at + (e.size + total_size es) ≡ at + e.size + total_size es = omega arith in e) rest))

  -- blocks that aren't fixed and have no free bytes have no part in any sum
  idle_begins : (t : HandleTable) (P : ℕ → Type 0) (at : ℕ) (m : ZoneMap) → none_fixed t m ≡ true → free_bytes m ≡ 0 → Begins s t P at m
  idle_begins t P at [] moves none = tt
  idle_begins t P at (e ∷ es) moves none =
      let both = and_parts (not (is_fixed t e.kind)) (none_fixed t es) moves in
      let here : free_size e ≡ 0 = omega arith in
      (inl (are.idle (weigh t e) (not-true _ both.0) here), idle_begins t P (at + e.size) es both.1 (omega arith))

  module _ (z : ZoneState) (old new : Stored M) (a : AreSums s z old) where
    pub sums-split : {at size : ℕ} (can : CanCut z at size) → Touched z.shape old new (λ n. (n ≡ at) ⊎ (n ≡ at + size)) → AreSums s (cut_in_two size z can.free) new
    sums-split {at} {size} can t =
        sums-renewed s are z (cut_in_two size z can.free).heap at (at + size) (split-renews z can) (λ n. (n ≡ at) ⊎ (n ≡ at + size)) (inr (inl refl), tt) (inr (inl refl), (inr (inr refl), tt)) old new a t
        (λ n there. let place = can.free.place in elim there [ inl is ↦ omega arith | inr is ↦ omega arith ])

    pub sums-merge : {at : ℕ} (pair : FreePair z at) → Touched z.shape old new (λ n. (n ≡ at) ⊎ (n ≡ at + pair.first)) → AreSums s (joined_pair z pair) new
    sums-merge {at} pair t =
        sums-renewed s are z (joined_pair z pair).heap at (at + pair.first) (merge-renews z pair) (λ n. (n ≡ at) ⊎ (n ≡ at + pair.first)) (inr (inl refl), (inr (inr refl), tt)) (inr (inl refl), tt) old new a t
        (λ n there. let place = pair.place in elim there [ inl is ↦ omega arith | inr is ↦ omega arith ])

    pub sums-held : {x size n at : ℕ} (can : CanHold z x size n) → at ≡ address_after z.shape can.before → Touched z.shape old new (λ m. (m ≡ at) ⊎ (m ≡ at + size)) → AreSums s (held_there z can) new
    sums-held {size = size} {at = at} can place t =
        sums-renewed s are z (held_there z can).heap at (at + size) (held-renews z can place) (λ m. (m ≡ at) ⊎ (m ≡ at + size)) (inr (inl refl), tt)
        (inr (inl refl), one_begins (held_there z can).heap.table (λ m. (m ≡ at) ⊎ (m ≡ at + size)) (can.here.size - size) (at + size) (inr refl)) old new a t
        (λ m there. elim there [ inl is ↦ omega arith | inr is ↦ omega arith ])

    pub sums-grown : {x size n at : ℕ} (can : CanGrow z x size n) → at ≡ address_after z.shape can.before → Touched z.shape old new (λ m. ((m ≡ at) ⊎ (m ≡ at + can.here.size)) ⊎ (m ≡ at + size)) → AreSums s (enlarged z can) new
    sums-grown {size = size} {at = at} can place t =
        sums-renewed s are z (enlarged z can).heap at (at + size) (grown-renews z can place) (λ m. ((m ≡ at) ⊎ (m ≡ at + can.here.size)) ⊎ (m ≡ at + size)) (inr (inl (inl refl)), (inr (inl (inr refl)), tt))
        (inr (inl (inl refl)), one_begins (enlarged z can).heap.table (λ m. ((m ≡ at) ⊎ (m ≡ at + can.here.size)) ⊎ (m ≡ at + size)) (can.here.size + can.free - size) (at + size) (inr refl)) old new a t
        (λ m there. elim there [ inl first ↦ elim first [ inl is ↦ omega arith | inr is ↦ omega arith ] | inr is ↦ omega arith ])

    pub sums-extended : {end : ℕ} → end ≡ address_after z.shape z.heap.map → Touched z.shape old new (λ n. n ≡ end) → AreSums s (extended z) new
    sums-extended {end} place t =
        sums-renewed s are z (extended z).heap end end (extended-renews z place) (λ n. n ≡ end) tt (one_begins (extended z).heap.table (λ n. n ≡ end) (z.shape.limit - (zone_header + total_size z.heap.map)) end refl) old new a t
        (λ n there. omega arith)

  -- the block of one leaf is another
  pub sums-other : (z : ZoneState) (heap : Heap) (at : ℕ) (old new : Stored M) → AreSums s z old → OneOther z heap at → Touched z.shape old new (λ n. n ≡ at) → AreSums s (with_heap heap z) new
  sums-other z heap at old new a o t =
      sums-renewed s are z heap at at (other-renews z heap at o) (λ n. n ≡ at) (inr refl, tt) (inr refl, tt) old new a t (λ n there. let place = o.place in omega arith)

  -- the old block is free first, and then the free one is the handle's
  pub sums-relocated : (z : ZoneState) (old new : Stored M) (a : AreSums s z old) (at : ℕ) (t : Touched z.shape old new (λ n. n ≡ at)) (h k to : ℕ) (last : Stored M) (free : FreeAt z to) → Fits z → BlockOf z h at
      → Touched z.shape new last (λ n. n ≡ to) → AreSums s (relocated h k z free) last
  sums-relocated z old new a at t h k to last free fits b =
      sums-other (with_heap (emptied_first z h fits b k) z) (relocated h k z free).heap to new last (sums-other z (emptied_first z h fits b k) at old new a (moved_out-other z h fits b k) t) (moved_in-other z h fits b k free)

  -- a block passes others
  module _ (z : ZoneState) (old middle new : Stored M) (a : AreSums s z old) where
    -- what was passed and what is touched then
    both_touched : {P : ℕ → Type 0} → middle.sums ≡ old.sums → ((j : ℕ) → IsTrue (get_or old.stale j false) → IsTrue (get_or middle.stale j false)) → Touched z.shape middle new P → Touched z.shape old new P
    both_touched sums others t = record { sums = t.sums ∙ sums; here = t.here; others = λ j was. t.others j (others j was) }

    all_stale : {P : ℕ → Type 0} → middle.sums ≡ old.sums → Touched z.shape middle new P → ((j : ℕ) → j < length old.sums → IsTrue (get_or middle.stale j false)) → (j : ℕ) → j < length new.sums → IsTrue (get_or new.stale j false)
    all_stale sums t all j inside = t.others j (all j (subst (λ (xs : List M). j < length xs) (t.sums ∙ sums) inside))

    pub sums-carry : {at end : ℕ} (parcel : ParcelAt z at end) → none_fixed z.heap.table (parcel.here ∷ parcel.blocks) ≡ true → (low : ℕ) → (is : low ≡ at + parcel.here.size) → middle.sums ≡ old.sums → IsPassed old middle (parcel_split z parcel low is) end
        → Touched z.shape middle new (λ n. (n ≡ at) ⊎ (n ≡ at + total_size parcel.blocks)) → AreSums s (carried_up z parcel) new
    sums-carry {at} {end} parcel loose low is sums p t = elim p [
      | inl none ↦
          let P : ℕ → Type 0 = λ n. (n ≡ at) ⊎ (n ≡ at + total_size parcel.blocks) in
          let u : HandleTable = z.heap.table in
          let both = and_parts (not (is_fixed u parcel.here.kind)) (none_fixed u parcel.blocks) loose in
          let free = none.0 parcel.blocks parcel.after refl (let long = parcel.long in omega arith) in
          sums-renewed s are z (carried_up z parcel).heap at end (carry-renews z parcel) P
          (inr (inl refl), idle_begins u P (at + parcel.here.size) parcel.blocks both.1 free)
          (begins-append u P at parcel.blocks (parcel.here ∷ []) (idle_begins u P at parcel.blocks both.1 free) (inr (inr refl), tt))
          old new a (both_touched sums none.1 t) (λ n there. let place = parcel.place in elim there [ inl same ↦ omega arith | inr same ↦ omega arith ])
      | inr all ↦ sums-all_stale s z (carried_up z parcel).heap old new a (t.sums ∙ sums) (all_stale sums t all)
    ]

    pub sums-sink : {start at : ℕ} (parcel : ParcelUpTo z start at) → none_fixed z.heap.table parcel.blocks ≡ true → middle.sums ≡ old.sums → IsPassed old middle (run_split z parcel) at
        → Touched z.shape middle new (λ n. (n ≡ at) ⊎ (n ≡ start)) → AreSums s (sunk z parcel) new
    sums-sink {start} {at} parcel loose sums p t = elim p [
      | inl none ↦
          let P : ℕ → Type 0 = λ n. (n ≡ at) ⊎ (n ≡ start) in
          let u : HandleTable = z.heap.table in
          let free = none.0 parcel.blocks (parcel.here ∷ parcel.after) refl (let long = parcel.long in omega arith) in
          sums-renewed s are z (sunk z parcel).heap start (at + parcel.here.size) (sink-renews z parcel) P
          (begins-append u P start parcel.blocks (parcel.here ∷ []) (idle_begins u P start parcel.blocks loose free) (inr (inl (sym parcel.long)), tt))
          (inr (inr refl), idle_begins u P (start + parcel.here.size) parcel.blocks loose free)
          old new a (both_touched sums none.1 t) (λ n there. let place = parcel.place in let long = parcel.long in elim there [ inl same ↦ omega arith | inr same ↦ omega arith ])
      | inr all ↦ sums-all_stale s z (sunk z parcel).heap old new a (t.sums ∙ sums) (all_stale sums t all)
    ]
