-- What is read off the blocks that a zone map and its owners call for.
use Rattle.std.proofs.Common.{◌≡◌, ℕ, zero, suc, ◌+◌, true, false, cond, eqb, List, [], ◌∷◌, ◌++◌, map, flat_map, Option, Some, None, refl, ap, sym, ◌∙◌, subst, Contains}
use Rattle.std.specs.Prelude.{⊤}
use Rattle.std.specs.List.{filter}
use Rattle.std.proofs.lemmas.Grind.{flat_map-append}
use Rattle.std.proofs.lemmas.List.{map-append}
use Rattle.std.proofs.lemmas.List.Elements.{Contains-append_left, Contains-append_right, filter-append}
use Rattle.std.proofs.lemmas.Bool.{eqb-true}
use Rattle.mac_base.specs.declared.block.Flags.{Flags}
use Rattle.mac_base.specs.declared.block.Kind.{Kind}
use Rattle.mac_base.specs.declared.block.Kind.TheVariants.{Free, Master, Ptr, Rel}
use Rattle.mac_base.specs.HeadKind.{Shape, head_size, slot_count}
use Rattle.mac_base.specs.Loans.{owner_of, owners}
use Rattle.mac_base.specs.ZoneMap.{ZoneMap, block, is_master, addresses_from}
use Rattle.mac_base.specs.HandleTable.{HandleTable, Live, EmptyHandle, FullHandle, Pointer, live_at, bytes_of, live_bytes, live_pointer, is_pointer}
use Rattle.mac_base.specs.Suits.{slots_from, is_handle_block, is_pointer_block}
use Rattle.zone_laws.proofs.Tables.{eqb_same}
use Rattle.zone_laws.proofs.SlotPlaces.{Contains-here, Contains-later, slots_at, slots_at-cons}
use Rattle.zone_records.specs.declared.slot.Slot.{Slot}
use Rattle.zone_records.specs.Records.{BlockRecord, kind_of}
use Rattle.linked_zone.specs.Owned.{Owners, content_of, lent_of, records_from}
use Rattle.linked_zone.specs.Reading.{map_in, lents_in, either_flags, live_there, lives_there, live_in, live_of, lives_in}
use Rattle.zone_records.specs.Slots.{addressed, slots_of, all_slots}
use Rattle.linked_zone.proofs.ReadNumbers.{numbers_of, numbers, entry_of}

-- ---- pointers

-- a pointer's block, whose contents begin at an address, is that of the live pointer of this number
abbrev pub IsPointerThere : HandleTable → ℕ → Kind → Type 0
IsPointerThere t at Free = ⊤
IsPointerThere t at Master = ⊤
IsPointerThere t at (Ptr p) = (p ≡ at) × (is_pointer t p ≡ true)
IsPointerThere t at (Rel h) = ⊤

-- so of all blocks, the first at an address
abbrev pub ArePointersThere : HandleTable → ℕ → ℕ → ZoneMap → Type 0
ArePointersThere t head at [] = ⊤
ArePointersThere t head at (e ∷ es) = IsPointerThere t (at + head) e.kind × ArePointersThere t head (at + e.size) es

-- it is so where it is of each address of a pointer's block
pub pointers-there : (t : HandleTable) (head at : ℕ) (m : ZoneMap) → ((p a : ℕ) → Contains (addresses_from at (is_pointer_block p) m) a → (p ≡ a + head) × (is_pointer t p ≡ true)) → ArePointersThere t head at m
pointers-there t head at [] each = tt
pointers-there t head at (e ∷ es) each = (
  by_kind e.kind (λ p a c. each p a (Contains-append_left (cond (is_pointer_block p e.kind) (at ∷ []) []) (addresses_from (at + e.size) (is_pointer_block p) es) a c)),
  pointers-there t head (at + e.size) es (λ p a c. each p a (Contains-append_right (cond (is_pointer_block p e.kind) (at ∷ []) []) (addresses_from (at + e.size) (is_pointer_block p) es) a c)),
)
  where
    by_kind : (k : Kind) → ((p a : ℕ) → Contains (cond (is_pointer_block p k) (at ∷ []) []) a → (p ≡ a + head) × (is_pointer t p ≡ true)) → IsPointerThere t (at + head) k
    by_kind Free each = tt
    by_kind Master each = tt
    by_kind (Ptr p) each = each p at (subst (λ b. Contains (cond b (at ∷ []) []) at) (sym (eqb_same p)) (Contains-here at []))
    by_kind (Rel h) each = tt

-- ---- the map

-- a block's kind is read off what is in it
pub kind-back : (o : Owners) (t : HandleTable) (at : ℕ) (k : Kind) → IsPointerThere t at k → kind_of at (content_of o at k) ≡ k
kind-back o t at Free there = refl
kind-back o t at Master there = refl
kind-back o t at (Ptr p) there = ap (λ n. Ptr n) (sym there.0)
kind-back o t at (Rel h) there = refl

-- so is the map
pub map-back : (o : Owners) (s : Shape) (t : HandleTable) (at : ℕ) (m : ZoneMap) → ArePointersThere t (head_size s.heads) at m → map_in s at (records_from o s at m) ≡ m
map-back o s t at [] there = refl
map-back o s t at (e ∷ es) there =
    ap (λ k. block k e.size ∷ map_in s (at + e.size) (records_from o s (at + e.size) es)) (kind-back o t (at + head_size s.heads) e.kind there.0)
    ∙ ap (λ (m : ZoneMap). e ∷ m) (map-back o s t (at + e.size) es there.1)

-- ---- what is lent

-- so is what is lent
pub lents-back : (o : Owners) (s : Shape) (t : HandleTable) (at : ℕ) (m : ZoneMap) → ArePointersThere t (head_size s.heads) at m → lents_in s at (records_from o s at m) ≡ filter o.lent (owners m)
lents-back o s t at [] there = refl
lents-back o s t at (e ∷ es) there =
    ap (λ k. cond (lent_of o e.kind) (owner_of k) [] ++ lents_in s (at + e.size) (records_from o s (at + e.size) es)) (kind-back o t (at + head_size s.heads) e.kind there.0)
    ∙ ap (λ xs. cond (lent_of o e.kind) (owner_of e.kind) [] ++ xs) (lents-back o s t (at + e.size) es there.1)
    ∙ ap (λ xs. xs ++ filter o.lent (owners es)) (own e.kind) ∙ sym (filter-append o.lent (owner_of e.kind) (owners es))
  where
    own : (k : Kind) → cond (lent_of o k) (owner_of k) [] ≡ filter o.lent (owner_of k)
    own Free = refl
    own Master = refl
    own (Ptr p) = refl
    own (Rel h) = refl

-- ---- the slots

addressed-back : (f : ℕ → Slot) (n at : ℕ) → addressed at (map f (slots_from n at)) ≡ map (λ a. (a, f a)) (slots_from n at)
addressed-back f zero at = refl
addressed-back f (suc n) at = ap (λ (xs : List (ℕ × Slot)). (at, f at) ∷ xs) (addressed-back f n (at + 4))

-- those of one block
slots-block : (o : Owners) (at : ℕ) (k : Kind) → slots_of at (content_of o at k) ≡ map (λ a. (a, o.slot a)) (cond (is_master k) (slots_from slot_count at) [])
slots-block o at Free = refl
slots-block o at Master = addressed-back o.slot slot_count at
slots-block o at (Ptr p) = refl
slots-block o at (Rel h) = refl

-- all slots are read off
pub slots-back : (o : Owners) (s : Shape) (at : ℕ) (m : ZoneMap) → all_slots s at (records_from o s at m) ≡ map (λ a. (a, o.slot a)) (slots_at (head_size s.heads) slot_count at m)
slots-back o s at [] = refl
slots-back o s at (e ∷ es) =
    let first = cond (is_master e.kind) (slots_from slot_count (at + head_size s.heads)) [] in
    let later = slots_at (head_size s.heads) slot_count (at + e.size) es in
    ap (λ (xs : List (ℕ × Slot)). xs ++ all_slots s (at + e.size) (records_from o s (at + e.size) es)) (slots-block o (at + head_size s.heads) e.kind)
    ∙ ap (λ (xs : List (ℕ × Slot)). map (λ a. (a, o.slot a)) first ++ xs) (slots-back o s (at + e.size) es)
    ∙ sym (map-append (λ a. (a, o.slot a)) first later) ∙ ap (map (λ a. (a, o.slot a))) (sym (slots_at-cons (head_size s.heads) slot_count at e es))

-- ---- what is live

-- the handle h with its flags, of which its slot says some, and its bytes
abbrev pub full_entry : Owners → ℕ → Flags → ℕ × Live
full_entry o h flags = (h, FullHandle (either_flags flags (o.flags h)) (o.bytes h))

-- each block of a handle says it once
pub lives-there-back : (o : Owners) (s : Shape) (h : ℕ) (flags : Flags) (at : ℕ) (m : ZoneMap) → lives_there h flags (records_from o s at m) ≡ map (λ a. full_entry o h flags) (addresses_from at (is_handle_block h) m)
lives-there-back o s h flags at [] = refl
lives-there-back o s h flags at (e ∷ es) = by_kind e.kind _ _ (lives-there-back o s h flags (at + e.size) es)
  where
    by_kind : (k : Kind) (rest : List (ℕ × Live)) (others : List ℕ) → rest ≡ map (λ a. full_entry o h flags) others
        → flat_map (λ l. (h, l) ∷ []) (live_there h flags (content_of o (at + head_size s.heads) k)) ++ rest ≡ map (λ a. full_entry o h flags) (cond (is_handle_block h k) (at ∷ []) [] ++ others)
    by_kind Free rest others is = is
    by_kind Master rest others is = is
    by_kind (Ptr p) rest others is = is
    by_kind (Rel g) rest others is = elim (eqb g h) as (λ b. eqb g h ≡ b → flat_map (λ l. (h, l) ∷ []) (cond b (FullHandle (either_flags flags (o.flags g)) (o.bytes g) ∷ []) []) ++ rest
        ≡ map (λ a. full_entry o h flags) (cond b (at ∷ []) [] ++ others)) [
          | true ↦ λ test. ap (λ g. (h, FullHandle (either_flags flags (o.flags g)) (o.bytes g)) ∷ rest) (eqb-true g h test) ∙ ap (λ (es : List (ℕ × Live)). full_entry o h flags ∷ es) is
          | false ↦ λ test. is
        ] refl

-- what a table has at each of some numbers
abbrev pub entries_at : HandleTable → List ℕ → List (ℕ × Live)
entries_at t ns = flat_map (λ x. entry_of x (live_at t x)) ns

-- a live pointer has its bytes
pointer-live : (t : HandleTable) (p : ℕ) → is_pointer t p ≡ true → live_at t p ≡ Some (Pointer (bytes_of t p))
pointer-live t p = by_case (live_at t p)
  where
    by_case : (o : Option Live) → live_pointer o ≡ true → o ≡ Some (Pointer (live_bytes o))
    by_case None h = absurd (cc h)
    by_case (Some EmptyHandle) h = absurd (cc h)
    by_case (Some (FullHandle flags bytes)) h = absurd (cc h)
    by_case (Some (Pointer bytes)) h = refl

-- slots say what the table has at each of them
says-slots : (t : HandleTable) (all : List BlockRecord) (f : ℕ → Slot) (n at : ℕ) → ((x : ℕ) → Contains (slots_from n at) x → live_in all (x, f x) ≡ entry_of x (live_at t x))
    → flat_map (live_in all) (addressed at (map f (slots_from n at))) ≡ entries_at t (slots_from n at)
says-slots t all f zero at says = refl
says-slots t all f (suc n) at says =
    ap (λ (es : List (ℕ × Live)). es ++ flat_map (live_in all) (addressed (at + 4) (map f (slots_from n (at + 4))))) (says at (Contains-here at (slots_from n (at + 4))))
    ∙ ap (λ (es : List (ℕ × Live)). entry_of at (live_at t at) ++ es) (says-slots t all f n (at + 4) (λ y c. says y (Contains-later at (slots_from n (at + 4)) y c)))

-- so does a block
says-block : (o : Owners) (t : HandleTable) (all : List BlockRecord) (at : ℕ) (k : Kind) → ((p : ℕ) → o.bytes p ≡ bytes_of t p) → IsPointerThere t at k
    → ((x : ℕ) → Contains (cond (is_master k) (slots_from slot_count at) []) x → live_in all (x, o.slot x) ≡ entry_of x (live_at t x))
    → live_of all at (content_of o at k) ≡ entries_at t (numbers_of slot_count at k)
says-block o t all at Free same there says = refl
says-block o t all at Master same there says = says-slots t all o.slot slot_count at says
says-block o t all at (Ptr p) same there says =
    let is : live_at t at ≡ Some (Pointer (o.bytes p)) = ap (live_at t) (sym there.0) ∙ pointer-live t p there.1 ∙ ap (λ bytes. Some (Pointer bytes)) (sym (same p)) in
    sym (ap (λ l. entry_of at l ++ []) is)
says-block o t all at (Rel h) same there says = refl

-- so do all blocks
pub lives-back : (o : Owners) (s : Shape) (t : HandleTable) (all : List BlockRecord) (at : ℕ) (m : ZoneMap) → ((p : ℕ) → o.bytes p ≡ bytes_of t p) → ArePointersThere t (head_size s.heads) at m
    → ((x : ℕ) → Contains (slots_at (head_size s.heads) slot_count at m) x → live_in all (x, o.slot x) ≡ entry_of x (live_at t x))
    → lives_in s all at (records_from o s at m) ≡ entries_at t (numbers (head_size s.heads) slot_count at m)
lives-back o s t all at [] same there says = refl
lives-back o s t all at (e ∷ es) same there says =
    let head = head_size s.heads in
    let first = cond (is_master e.kind) (slots_from slot_count (at + head)) [] in
    let later = slots_at head slot_count (at + e.size) es in
    let here = numbers_of slot_count (at + head) e.kind in
    let parts : slots_at head slot_count at (e ∷ es) ≡ first ++ later = slots_at-cons head slot_count at e es in
    let one = says-block o t all (at + head) e.kind same there.0 (λ x c. says x (subst (λ xs. Contains xs x) (sym parts) (Contains-append_left first later x c))) in
    let rest = lives-back o s t all (at + e.size) es same there.1 (λ x c. says x (subst (λ xs. Contains xs x) (sym parts) (Contains-append_right first later x c))) in
    ap (λ (lives : List (ℕ × Live)). lives ++ lives_in s all (at + e.size) (records_from o s (at + e.size) es)) one
    ∙ ap (λ (lives : List (ℕ × Live)). entries_at t here ++ lives) rest
    ∙ sym (flat_map-append (λ x. entry_of x (live_at t x)) here (numbers head slot_count (at + e.size) es))
