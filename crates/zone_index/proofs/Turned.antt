-- Where a block changes places with its neighbours, marks that go with them stay right.
use Rattle.std.proofs.Common.{◌≡◌, ℕ, ◌+◌, ◌/◌, ◌%◌, ◌<◌, ◌≤◌, Bool, true, List, slice_index, [], ◌∷◌, ◌++◌, refl, ap, sym, ◌∙◌, subst, append_assoc, inl, inr, arith}
use Rattle.mac_base.specs.declared.block.Entry.{Entry}
use Rattle.mac_base.specs.declared.block.Kind.{Kind}
use Rattle.mac_base.specs.HandleTable.{HandleTable}
use Rattle.mac_base.specs.Suits.{is_block_size}
use Rattle.mac_base.specs.ZoneMap.{ZoneMap, address_after, total_size}
use Rattle.mac_base.specs.ZoneState.{ZoneState}
use Rattle.std.proofs.lemmas.Bool.{and_parts}
use Rattle.mac_base.specs.ZoneSizes.{ArePossible}
use Rattle.zone_laws.proofs.GapApart.{sizes_possible}
use Rattle.zone_laws.proofs.Maps.{total_size-append}
use Rattle.linked_zone.specs.Changes.{carried_up, sunk}
use Rattle.linked_zone.specs.Fit.{HasSizes}
use Rattle.linked_zone.specs.Places.{EntryAt, ParcelAt, ParcelUpTo}
use Rattle.linked_zone.specs.Sizes.{sizes_of}
use Rattle.zone_index.specs.Marks.{AreMarked, PassesAt, place}
use Rattle.zone_index.specs.Turning.{IsCarried, IsSunk}
use Rattle.zone_index.proofs.Passing.{HasPassing, of-passing, passing-back, passing-below, passing-front, passing-split, to-passing}
use Rattle.zone_index.proofs.Sizes.{all_parts, even_bytes, some_bytes}

-- blocks of such sizes from an address on have places
pub record FitsIn (z : ZoneState) (start size run : ℕ) : Type 0 where
  pub some : 0 < size / 4
  pub inside : place z.shape start + size / 4 + run / 4 ≤ z.shape.limit / 4

fits-in : (z : ZoneState) → ArePossible (sizes_of z) → HasSizes z → (start size run : ℕ) (before after : ZoneMap) → z.heap.map ≡ before ++ after → start ≡ address_after z.shape before → size + run ≤ total_size after → is_block_size z.shape size ≡ true → FitsIn z start size run
fits-in z possible sizes start size run before after map begins long could =
    let even = some_bytes z.shape size could in
    let low = even_bytes z.shape before (all_parts _ before after (ap (sizes_possible z.shape) (sym map) ∙ sizes)).0 in
    let all = ap total_size map ∙ total_size-append before after in
    let within = possible.within in
    record { some = omega (arith, even.0, even.1); inside = omega (arith, even.1, low, all, within, begins, long) }

-- a block that goes after others
abbrev pub parcel-entry : (z : ZoneState) {start end : ℕ} → ParcelAt z start end → EntryAt z start
parcel-entry z parcel = record { before = parcel.before; here = parcel.here; after = parcel.blocks ++ parcel.after; map = parcel.map; place = parcel.place }

pub carried-fits : (z : ZoneState) → ArePossible (sizes_of z) → HasSizes z → {start end : ℕ} (parcel : ParcelAt z start end) → FitsIn z start (parcel.here).size (total_size parcel.blocks)
carried-fits z possible sizes {start} {end} parcel =
    let rest = (all_parts _ parcel.before (parcel.here ∷ parcel.blocks ++ parcel.after) (ap (sizes_possible z.shape) (sym parcel.map) ∙ sizes)).1 in
    let long = total_size-append parcel.blocks parcel.after in
    fits-in z possible sizes start (parcel.here).size (total_size parcel.blocks) parcel.before (parcel.here ∷ parcel.blocks ++ parcel.after) parcel.map parcel.place (omega (arith, long)) (and_parts (is_block_size z.shape (parcel.here).size) _ rest).0

-- and before them
pub run-entry : (z : ZoneState) (start : ℕ) (before blocks : ZoneMap) (here : Entry) (after : ZoneMap) → z.heap.map ≡ before ++ (blocks ++ here ∷ after) → start ≡ address_after z.shape before → EntryAt z start
run-entry z start before [] here after map begins = record { before = before; here = here; after = after; map = map; place = begins }
run-entry z start before (e ∷ es) here after map begins = record { before = before; here = e; after = es ++ here ∷ after; map = map; place = begins }

abbrev pub last-entry : (z : ZoneState) {start at : ℕ} → ParcelUpTo z start at → EntryAt z at
last-entry z parcel = record {
  before = parcel.before ++ parcel.blocks;
  here = parcel.here;
  after = parcel.after;
  map = parcel.map ∙ sym (append_assoc parcel.before parcel.blocks (parcel.here ∷ parcel.after));
  place = let all = total_size-append parcel.before parcel.blocks in let begins = parcel.place in let long = parcel.long in omega (arith, all, begins, long);
}

pub sunk-fits : (z : ZoneState) → ArePossible (sizes_of z) → HasSizes z → {start at : ℕ} (parcel : ParcelUpTo z start at) → FitsIn z start (parcel.here).size (total_size parcel.blocks)
sunk-fits z possible sizes {start} {at} parcel =
    let rest = (all_parts _ parcel.before (parcel.blocks ++ parcel.here ∷ parcel.after) (ap (sizes_possible z.shape) (sym parcel.map) ∙ sizes)).1 in
    let last = (all_parts _ parcel.blocks (parcel.here ∷ parcel.after) rest).1 in
    let long = total_size-append parcel.blocks (parcel.here ∷ parcel.after) in
    fits-in z possible sizes start (parcel.here).size (total_size parcel.blocks) parcel.before (parcel.blocks ++ parcel.here ∷ parcel.after) parcel.map parcel.place (omega (arith, long)) (and_parts (is_block_size z.shape (parcel.here).size) _ last).0

-- the same marks by other names of the numbers
named : (P : ℕ → ℕ → ℕ → Type 0) (a b c x y w : ℕ) → a ≡ x → b ≡ y → c ≡ w → P a b c → P x y w
named P a b c x y w i j k h = subst (λ a. P a y w) i (subst (λ b. P a b w) j (subst (λ c. P a b c) k h))

module _ (test : HandleTable → Kind → Bool) (z : ZoneState) (marks new : List ℕ) (are : AreMarked test z marks) (sizes : HasSizes z) where
  -- a block that passes so many bytes after the first has its mark
  marked-at : (n at : ℕ) → at ≡ address_after z.shape [] + n → HasPassing (test z.heap.table) z.heap.map n → 1 ≤ slice_index marks (place z.shape at)
  marked-at n at there h = are.marked at (to-passing test z at n there h)

  -- sizes of the parts of a run
  parts : (before a b : ZoneMap) → z.heap.map ≡ before ++ (a ++ b) → (sizes_possible z.shape before ≡ true) × (sizes_possible z.shape a ≡ true)
  parts before a b map =
      let whole = all_parts _ before (a ++ b) (ap (sizes_possible z.shape) (sym map) ∙ sizes) in
      (whole.0, (all_parts _ a b whole.1).0)

  abbrev p : Kind → Bool
  p = test z.heap.table

  -- a block after those that were after it
  pub carried-turned : (start end : ℕ) (parcel : ParcelAt z start end) → (first step n : ℕ) → first ≡ place z.shape start → step ≡ (parcel.here).size / 4 → n ≡ total_size parcel.blocks / 4 → IsCarried marks new first step n → AreMarked test (carried_up z parcel) new
  carried-turned start end parcel first step n is_first is_step is_n carried = record { places = c.places ∙ are.places; marked = marked }
    where
      c : IsCarried marks new (place z.shape start) ((parcel.here).size / 4) (total_size parcel.blocks / 4)
      c = named (IsCarried marks new) first step n _ _ _ is_first is_step is_n carried

      size : ℕ
      size = (parcel.here).size

      run : ℕ
      run = total_size parcel.blocks

      low : ℕ
      low = total_size parcel.before

      whole : (sizes_possible z.shape parcel.before ≡ true) × (sizes_possible z.shape (parcel.here ∷ parcel.blocks) ≡ true)
      whole = parts parcel.before (parcel.here ∷ parcel.blocks) parcel.after parcel.map

      mine : (is_block_size z.shape size ≡ true) × (sizes_possible z.shape parcel.blocks ≡ true)
      mine = and_parts (is_block_size z.shape size) (sizes_possible z.shape parcel.blocks) whole.1

      even : (size % 4 ≡ 0) × ((run % 4 ≡ 0) × (low % 4 ≡ 0))
      even = ((some_bytes z.shape size mine.0).1, (even_bytes z.shape parcel.blocks mine.1, even_bytes z.shape parcel.before whole.0))

      begins : start ≡ address_after z.shape [] + low
      begins = let here = parcel.place in omega arith

      -- where one passes in the old map is its mark
      old : (n at : ℕ) → at ≡ address_after z.shape [] + n → HasPassing p (parcel.before ++ (parcel.here ∷ parcel.blocks ++ parcel.after)) n → 1 ≤ slice_index marks (place z.shape at)
      old n at there h = marked-at n at there (subst (λ m. HasPassing p m n) (sym parcel.map) h)

      upper : (at n k : ℕ) → at ≡ address_after z.shape [] + n → n ≡ low + k → HasPassing p (parcel.blocks ++ parcel.here ∷ parcel.after) k → 1 ≤ slice_index new (place z.shape at)
      upper at n k there from h = elim (passing-split p parcel.blocks (parcel.here ∷ parcel.after) k h) [
        | inl mid ↦
            let less : k < run = passing-below p z.shape parcel.blocks k mine.1 mid in
            let mark = old (low + (size + k)) (at + size) (omega (arith, there, from)) (passing-back p parcel.before _ (low + (size + k)) (size + k) refl (inr (k, refl, passing-front p parcel.blocks parcel.after k mid))) in
            let moved = c.others (place z.shape at) (omega (arith, there, from, begins)) (omega (arith, there, from, begins, less, even.0, even.1.0, even.1.1)) in
            let same : place z.shape (at + size) ≡ place z.shape at + size / 4 = omega (arith, there, even.0) in
            omega (arith, subst (λ j. 1 ≤ slice_index marks j) same mark, moved)
        | inr up ↦ elim up.2 [
          | inl here ↦
              let mark = old low start begins (passing-back p parcel.before _ low 0 (omega arith) (inl (refl, here.1))) in
              let moved = c.here in
              let same : place z.shape start + run / 4 ≡ place z.shape at = omega (arith, there, from, begins, up.1, here.0, even.1.0) in
              omega (arith, mark, subst (λ j. slice_index marks (place z.shape start) ≤ slice_index new j) same moved)
          | inr later ↦
              let mark = old n at there (passing-back p parcel.before _ n k from (inr (run + later.0, (let first = up.1 in let second = later.1 in omega arith), passing-back p parcel.blocks parcel.after (run + later.0) later.0 refl later.2))) in
              let moved = c.above (place z.shape at) (omega (arith, there, from, begins, up.1, later.1, even.0, even.1.0)) in
              omega (arith, mark, moved)
        ]
      ]

      marked : (at : ℕ) → PassesAt test (carried_up z parcel) at → 1 ≤ slice_index new (place z.shape at)
      marked at f =
          let n = of-passing test (carried_up z parcel) at f in
          elim (passing-split p parcel.before (parcel.blocks ++ parcel.here ∷ parcel.after) n.0 n.2) [
            | inl under ↦
                let less = passing-below p z.shape parcel.before n.0 whole.0 under in
                let mark = old n.0 at n.1 (passing-front p parcel.before _ n.0 under) in
                let moved = c.below (place z.shape at) (omega (arith, n.1, begins, less, even.1.1)) in
                omega (arith, mark, moved)
            | inr up ↦ upper at n.0 up.0 n.1 up.1 up.2
          ]

  -- a block before those that were before it
  pub sunk-turned : (start at : ℕ) (parcel : ParcelUpTo z start at) → (first step n : ℕ) → first ≡ place z.shape start → step ≡ (parcel.here).size / 4 → n ≡ total_size parcel.blocks / 4 → IsSunk marks new first step n → AreMarked test (sunk z parcel) new
  sunk-turned start end parcel first step n is_first is_step is_n carried = record { places = c.places ∙ are.places; marked = marked }
    where
      c : IsSunk marks new (place z.shape start) ((parcel.here).size / 4) (total_size parcel.blocks / 4)
      c = named (IsSunk marks new) first step n _ _ _ is_first is_step is_n carried

      size : ℕ
      size = (parcel.here).size

      run : ℕ
      run = total_size parcel.blocks

      low : ℕ
      low = total_size parcel.before

      whole : (sizes_possible z.shape parcel.before ≡ true) × (sizes_possible z.shape parcel.blocks ≡ true)
      whole = parts parcel.before parcel.blocks (parcel.here ∷ parcel.after) parcel.map

      rest : sizes_possible z.shape (parcel.here ∷ parcel.after) ≡ true
      rest = (all_parts _ parcel.blocks (parcel.here ∷ parcel.after) (all_parts _ parcel.before (parcel.blocks ++ parcel.here ∷ parcel.after) (ap (sizes_possible z.shape) (sym parcel.map) ∙ sizes)).1).1

      even : (size % 4 ≡ 0) × ((run % 4 ≡ 0) × (low % 4 ≡ 0))
      even = ((some_bytes z.shape size (and_parts (is_block_size z.shape size) (sizes_possible z.shape parcel.after) rest).0).1, (even_bytes z.shape parcel.blocks whole.1, even_bytes z.shape parcel.before whole.0))

      begins : start ≡ address_after z.shape [] + low
      begins = let here = parcel.place in omega arith

      old : (n at : ℕ) → at ≡ address_after z.shape [] + n → HasPassing p (parcel.before ++ (parcel.blocks ++ parcel.here ∷ parcel.after)) n → 1 ≤ slice_index marks (place z.shape at)
      old n at there h = marked-at n at there (subst (λ m. HasPassing p m n) (sym parcel.map) h)

      upper : (at n k j : ℕ) → at ≡ address_after z.shape [] + n → n ≡ low + k → k ≡ size + j → HasPassing p (parcel.blocks ++ parcel.after) j → 1 ≤ slice_index new (place z.shape at)
      upper at n k j there from further h = elim (passing-split p parcel.blocks parcel.after j h) [
        | inl mid ↦
            let less : j < run = passing-below p z.shape parcel.blocks j whole.1 mid in
            let mark = old (low + j) (address_after z.shape [] + (low + j)) refl (passing-back p parcel.before _ (low + j) j refl (passing-front p parcel.blocks _ j mid)) in
            let moved = c.others (place z.shape (address_after z.shape [] + (low + j))) (omega (arith, begins)) (omega (arith, begins, less, even.1.0, even.1.1)) in
            let same : place z.shape (address_after z.shape [] + (low + j)) + size / 4 ≡ place z.shape at = omega (arith, there, from, further, even.0) in
            omega (arith, mark, subst (λ i. slice_index marks (place z.shape (address_after z.shape [] + (low + j))) ≤ slice_index new i) same moved)
        | inr high ↦
            let mark = old n at there (passing-back p parcel.before _ n k from (passing-back p parcel.blocks _ k (size + high.0) (omega (arith, further, high.1)) (inr (high.0, refl, high.2)))) in
            let moved = c.above (place z.shape at) (omega (arith, there, from, further, begins, high.1, even.0, even.1.0)) in
            omega (arith, mark, moved)
      ]

      marked : (at : ℕ) → PassesAt test (sunk z parcel) at → 1 ≤ slice_index new (place z.shape at)
      marked at f =
          let n = of-passing test (sunk z parcel) at f in
          elim (passing-split p parcel.before (parcel.here ∷ parcel.blocks ++ parcel.after) n.0 n.2) [
            | inl under ↦
                let less = passing-below p z.shape parcel.before n.0 whole.0 under in
                let mark = old n.0 at n.1 (passing-front p parcel.before _ n.0 under) in
                let moved = c.below (place z.shape at) (omega (arith, n.1, begins, less, even.1.1)) in
                omega (arith, mark, moved)
            | inr up ↦ elim up.2 [
              | inl here ↦
                  let mark = old (low + run) (start + run) (omega (arith, begins)) (passing-back p parcel.before _ (low + run) run refl (passing-back p parcel.blocks _ run 0 (omega arith) (inl (refl, here.1)))) in
                  let same : place z.shape (start + run) ≡ place z.shape start + run / 4 = omega (arith, begins, even.1.0) in
                  let here_now : place z.shape start ≡ place z.shape at = omega (arith, n.1, up.1, here.0, begins) in
                  let moved = c.here in
                  omega (arith, subst (λ j. 1 ≤ slice_index marks j) same mark, subst (λ j. slice_index marks (place z.shape start + run / 4) ≤ slice_index new j) here_now moved)
              | inr later ↦ upper at n.0 up.0 later.0 n.1 up.1 later.1 later.2
            ]
          ]
