-- A handle's block in a new place: the new block is taken, has the handle's bytes, and the old one is free and joined.
use Rattle.std.proofs.Common.{◌≡◌, ℕ, ◌+◌, ◌<◌, ◌≤◌, ◌-◌, Bool, true, false, cond, eqb, [], ◌∷◌, ◌++◌, length, refl, ap, sym, ◌∙◌, arith, subst, Some, None, Option, IsTrue}
use Rattle.std.specs.Prelude.{◌&&◌, ◌==◌, ◌||◌, is_some, nat_lt, option_map}
use Rattle.std.specs.List.{list_all}
use Rattle.std.proofs.lemmas.List.{map-append}
use Rattle.std.proofs.lemmas.List.Folds.{list_all-append}
use Rattle.std.proofs.lemmas.Bool.{and_parts, and_from, eqb-true}
use Rattle.mac_base.specs.declared.block.Entry.{Entry}
use Rattle.mac_base.specs.declared.block.Kind.{Kind}
use Rattle.mac_base.specs.declared.block.Kind.TheVariants.{Free, Master, Ptr, Rel}
use Rattle.mac_base.specs.declared.request.Request.TheVariants.{Resize}
use Rattle.mac_base.specs.HandleTable.{live_at, refilled, resized, bytes_of, has_block, is_full, is_lent, is_locked, is_pointer}
use Rattle.mac_base.specs.HeadKind.{Shape, need, smallest_block, zone_header}
use Rattle.mac_base.specs.Gap.{gaps, lowest_gap}
use Rattle.mac_base.specs.Heap.{Heap, granted}
use Rattle.mac_base.specs.Loans.{LoansAreFixed}
use Rattle.mac_base.specs.Request.{stays}
use Rattle.mac_base.specs.Serve.{placed_relocatable, renamed, resized_elsewhere, taken}
use Rattle.mac_base.specs.Sound.{Sound}
use Rattle.mac_base.specs.Suits.{free_apart, has_length, is_block_size}
use Rattle.mac_base.specs.ZoneMap.{ZoneMap, address_after, addresses_from, block, is_free, is_named, joined, joined_to, released, sizes, total_size}
use Rattle.mac_base.specs.ZoneState.{ZoneState}
use Rattle.zone_laws.proofs.Fitting.{is_some-lowest_gap, is_some-placed_relocatable, size_needed-positive}
use Rattle.zone_laws.proofs.GapAppend.{length-addresses_from, sizes-append}
use Rattle.zone_laws.proofs.Lent.{KeepsLent, contents_of-same, fixed-kept, keeps-others, lent-apart, lent-block, other_named}
use Rattle.zone_laws.proofs.Maps.{list_all-middle}
use Rattle.zone_laws.proofs.NamedPlace.{At, At-from, nil-append}
use Rattle.zone_laws.proofs.Owners.{nothing_passes}
use Rattle.zone_laws.proofs.Placing.{TakenAt}
use Rattle.zone_laws.proofs.SuitsNamed.{full-no_pointer, named_once}
use Rattle.zone_laws.proofs.SuitsReleased.{addresses-released}
use Rattle.zone_laws.proofs.SuitsTaken.{addresses-untaken, free_apart-kept}
use Rattle.zone_laws.proofs.Tables.{eqb_same, eqb_swap, full_handle, with_live_agrees}
use Rattle.zone_laws.proofs.Taken.{free_apart-after, need-is_size, sizes-taken}
use Rattle.zone_laws.proofs.FittingResize.{one_size}
use Rattle.zone_laws.proofs.SoundMoved.{sound-resized_elsewhere}
use Rattle.zone_laws.proofs.SuitsNil.{named_none-nil, nil-no_handle, nil-no_pointer}
use Rattle.zone_laws.proofs.SuitsRestored.{free_apart-renamed, sizes_possible-renamed}
use Rattle.linked_zone.specs.Changes.{freed, relocated, with_map}
use Rattle.linked_zone.specs.Loans.{KeepsLoans}
use Rattle.linked_zone.specs.Places.{BlockOf, FreeAt, RoomFor}
use Rattle.zone_heap.specs.Attempts.{SoundZone}
use Rattle.zone_heap.specs.Joins.{CanTake, NewlyFree, all_joined, with_front}
use Rattle.zone_heap.specs.Resized.{resized_away}
use Rattle.zone_heap.specs.Room.{IsOpened}
use Rattle.zone_heap.proofs.Attempting.{none_of}
use Rattle.zone_heap.proofs.Clearing.{opened_taken}
use Rattle.zone_heap.proofs.Loans.{keeps-both, keeps-loans}
use Rattle.zone_heap.proofs.Releasing.{freed-At, free_apart-front}
use Rattle.zone_heap.proofs.Taking.{front_size, front_rest, taken-parts, front-has_length, all-there}
use Rattle.zone_heap.proofs.Owning.{heads}

-- a block, put under another handle if it is under one
abbrev put_under : ℕ → ℕ → Entry → Entry
put_under old new e = cond (is_named old e.kind) (block (Rel new) e.size) e

-- it is as long
size-put : (o x : ℕ) (e : Entry) → (put_under o x e).size ≡ e.size
size-put o x e = elim (is_named o e.kind) as (λ c. (let f : Entry = cond c (block (Rel x) e.size) e in f.size) ≡ e.size) [ true ↦ refl | false ↦ refl ]

-- and free where it was
free-put : (o x : ℕ) (e : Entry) → is_free (put_under o x e).kind ≡ is_free e.kind
free-put o x e = by_kind e.kind
  where
    by_kind : (k : Kind) → is_free (let f : Entry = cond (is_named o k) (block (Rel x) e.size) (block k e.size) in f.kind) ≡ is_free k
    by_kind Free = refl
    by_kind Master = refl
    by_kind (Ptr p) = elim (p == o) as (λ c. is_free (let f : Entry = cond c (block (Rel x) e.size) (block (Ptr p) e.size) in f.kind) ≡ false) [ true ↦ refl | false ↦ refl ]
    by_kind (Rel g) = elim (g == o) as (λ c. is_free (let f : Entry = cond c (block (Rel x) e.size) (block (Rel g) e.size) in f.kind) ≡ false) [ true ↦ refl | false ↦ refl ]

-- joined or put under another handle first, the blocks are the same
renamed-joined_to : (o x : ℕ) (e : Entry) (m : ZoneMap) → renamed o x (joined_to e m) ≡ joined_to (put_under o x e) (renamed o x m)
renamed-joined_to o x e [] = refl
renamed-joined_to o x e (f ∷ es) =
    let d = put_under o x e in
    let g = put_under o x f in
    let rest = renamed o x es in
    elim (is_free e.kind && is_free f.kind) as (λ c. renamed o x (cond c (block Free (e.size + f.size) ∷ es) (e ∷ f ∷ es)) ≡ cond c (block Free (e.size + f.size) ∷ rest) (d ∷ g ∷ rest)) [ true ↦ refl | false ↦ refl ]
    ∙ ap (λ n. cond (is_free e.kind && is_free f.kind) (block Free (n + f.size) ∷ rest) (d ∷ g ∷ rest)) (sym (size-put o x e))
    ∙ ap (λ n. cond (is_free e.kind && is_free f.kind) (block Free (d.size + n) ∷ rest) (d ∷ g ∷ rest)) (sym (size-put o x f))
    ∙ ap (λ c. cond (c && is_free f.kind) (block Free (d.size + g.size) ∷ rest) (d ∷ g ∷ rest)) (sym (free-put o x e))
    ∙ ap (λ c. cond (is_free d.kind && c) (block Free (d.size + g.size) ∷ rest) (d ∷ g ∷ rest)) (sym (free-put o x f))

renamed-joined : (o x : ℕ) (m : ZoneMap) → renamed o x (joined m) ≡ joined (renamed o x m)
renamed-joined o x [] = refl
renamed-joined o x (e ∷ es) = renamed-joined_to o x e (joined es) ∙ ap (joined_to (put_under o x e)) (renamed-joined o x es)

total_size-renamed : (o x : ℕ) (m : ZoneMap) → total_size (renamed o x m) ≡ total_size m
total_size-renamed o x [] = refl
total_size-renamed o x (e ∷ es) = ap (λ n. n + total_size (renamed o x es)) (size-put o x e) ∙ ap (λ n. e.size + n) (total_size-renamed o x es)

-- where no block is under the handle, none is put under another
renamed-freed : (o x : ℕ) (m : ZoneMap) → sizes (is_named o) m ≡ [] → renamed o x (freed x m) ≡ freed x m
renamed-freed o x [] none = refl
renamed-freed o x (e ∷ es) none =
    let parts = nothing_passes (is_named o e.kind) e.size (sizes (is_named o) es) none in
    let rest = renamed-freed o x es parts.1 in
    elim (is_named x e.kind) as (λ c. put_under o x (cond c (block Free e.size) e) ∷ renamed o x (freed x es) ≡ cond c (block Free e.size) e ∷ freed x es) [
      | true ↦ ap (λ m. block Free e.size ∷ m) rest
      | false ↦ ap (λ c. cond c (block (Rel x) e.size) e ∷ renamed o x (freed x es)) parts.0 ∙ ap (λ m. e ∷ m) rest
    ]

-- the addresses of other blocks stay
addresses_from-renamed : (at o x : ℕ) (test : Kind → Bool) (m : ZoneMap) → test (Rel x) ≡ false → ((k : Kind) → is_named o k ≡ true → test k ≡ false) → addresses_from at test (renamed o x m) ≡ addresses_from at test m
addresses_from-renamed at o x test [] new old = refl
addresses_from-renamed at o x test (e ∷ es) new old =
    elim (is_named o e.kind) as (λ c. is_named o e.kind ≡ c → (let f : Entry = cond c (block (Rel x) e.size) e in cond (test f.kind) (at ∷ []) [] ++ addresses_from (at + f.size) test (renamed o x es)) ≡ cond (test e.kind) (at ∷ []) [] ++ addresses_from (at + e.size) test es) [
      | true ↦ λ named. ap (λ c. cond c (at ∷ []) [] ++ addresses_from (at + e.size) test (renamed o x es)) (new ∙ sym (old e.kind named)) ∙ ap (λ found. cond (test e.kind) (at ∷ []) [] ++ found) (addresses_from-renamed (at + e.size) o x test es new old)
      | false ↦ λ _. ap (λ found. cond (test e.kind) (at ∷ []) [] ++ found) (addresses_from-renamed (at + e.size) o x test es new old)
    ] refl

-- a block is among these, so many bytes before it
record Again (m : ZoneMap) (f : Entry) (bytes : ℕ) : Type 0 where
  pub front : ZoneMap
  pub back : ZoneMap
  pub is : m ≡ front ++ f ∷ back
  pub long : total_size front ≡ bytes

-- a block of h is where it was, if another of the same size takes the place of one that isn't of h
again : (h : ℕ) (p : ZoneMap) (e g : Entry) (r a : ZoneMap) (f : Entry) (b : ZoneMap) → p ++ e ∷ r ≡ a ++ f ∷ b → is_named h e.kind ≡ false → is_named h f.kind ≡ true → g.size ≡ e.size → Again (p ++ g ∷ r) f (total_size a)
again h [] e g r [] f b is other named size = let same = ap (λ (e : Entry). is_named h e.kind) (heads e f r b is).0 in absurd (cc (same, other, named))
again h [] e g r (d ∷ a) f b is other named size =
    let parts = heads e d r (a ++ f ∷ b) is in
    let first = ap (λ (e : Entry). e.size) parts.0 in
    record { front = g ∷ a; back = b; is = ap (λ m. g ∷ m) parts.1; long = omega arith }
again h (d ∷ p) e g r [] f b is other named size =
    let parts = heads d f (p ++ e ∷ r) b is in
    record { front = []; back = p ++ g ∷ r; is = ap (λ d. d ∷ (p ++ g ∷ r)) parts.0; long = refl }
again h (d ∷ p) e g r (c ∷ a) f b is other named size =
    let parts = heads d c (p ++ e ∷ r) (a ++ f ∷ b) is in
    let rest = again h p e g r a f b parts.1 other named size in
    record { front = c ∷ rest.front; back = rest.back; is = ap (λ d. d ∷ (p ++ g ∷ r)) parts.0 ∙ ap (λ m. c ∷ m) rest.is; long = ap (λ n. c.size + n) rest.long }

-- what is left of a block has no owner
rest-unnamed : (s : Shape) (k n x : ℕ) (after : ZoneMap) → sizes (is_named x) (front_rest s k n ++ after) ≡ sizes (is_named x) after
rest-unnamed s k n x after = elim (nat_lt (n - k) (smallest_block s.heads)) as (λ c. sizes (is_named x) (cond c [] (block Free (n - k) ∷ []) ++ after) ≡ sizes (is_named x) after) [ true ↦ refl | false ↦ refl ]

-- nil is not lent
nil-here : (s : Shape) (heap : Heap) (y : ℕ) → Sound s heap → LoansAreFixed heap → is_lent heap.table y ≡ true → eqb 0 y ≡ false
nil-here s heap y sound fixed lent = by_test (eqb 0 y) refl
  where
    by_test : (c : Bool) → eqb 0 y ≡ c → c ≡ false
    by_test false _ = refl
    by_test true same =
        let is = eqb-true 0 y same in
        let block = ap (has_block heap.table) is ∙ lent-block heap y fixed lent in
        let full = full_of (is_full heap.table 0) (is_pointer heap.table 0) block (nil-no_pointer s heap.table heap.map sound.suits) in
        absurd (cc (full_handle heap.table 0 full, nil-no_handle s heap.table heap.map sound.suits))
      where
        full_of : (a b : Bool) → (a || b) ≡ true → b ≡ false → a ≡ true
        full_of true b h none = refl
        full_of false b h none = absurd (cc (h, none))

-- the zone in which h has n bytes in a place that was found
abbrev pub moved : ℕ → ℕ → ℕ → ZoneState → ZoneMap → ℕ → ZoneMap → ZoneState
moved h n k v before size after = record {
  memory = v.memory;
  shape = v.shape;
  heap = granted (Resize h n) h (renamed 0 h (released h (before ++ (taken v.shape k (Rel 0) size ++ after)))) v.heap;
}

-- The place is found: a free block, of which the bytes that are needed are taken.
module _ (w : ZoneState) (h n k at : ℕ) (sound : Sound w.shape w.heap) (free : FreeAt w at) (large : k ≤ free.size) (size : k ≡ need w.shape.heads n) where
  abbrev possible : Entry → Bool
  possible e = is_block_size w.shape e.size

  -- so many are
  abbrev pub new_size : ℕ
  new_size = front_size w.shape k free.size

  -- with these blocks after
  abbrev pub new_after : ZoneMap
  new_after = front_rest w.shape k free.size ++ free.after

  front-possible : IsTrue (is_block_size w.shape k)
  front-possible = subst (λ j. IsTrue (is_block_size w.shape j)) (sym size) (need-is_size w.shape n)

  whole-possible : IsTrue (is_block_size w.shape free.size)
  whole-possible = all-there possible free.before (block Free free.size) free.after (subst (λ m. IsTrue (list_all possible m)) free.map sound.suits.sizes)

  -- they can be
  pub can-take : CanTake w at k
  can-take = record { free = free; fits = large; front = front-possible; whole = whole-possible }

  -- the zone once they are
  abbrev pub cut_zone : ZoneState
  cut_zone = with_map (free.before ++ block Free new_size ∷ new_after) w

  pub cut-done : (v : ZoneState) → ((take : CanTake w at k) → v ≡ with_front w take) → v ≡ cut_zone
  unfolding can-take
  cut-done v cut = cut can-take ∙ ap (λ m. with_map (free.before ++ m) w) (taken-parts w.shape k Free free.size free.after)

  -- they have room for the contents
  abbrev pub room : RoomFor cut_zone at n
  room = record {
    free = record { before = free.before; size = new_size; after = new_after; map = refl; place = free.place };
    room = subst (λ j. IsTrue (has_length w.shape (front_size w.shape j free.size) n)) (sym size) (front-has_length w.shape n free.size (subst (λ j. j ≤ free.size) size large));
  }

  -- the map with the block under the number nil
  abbrev pub found : ZoneMap
  found = free.before ++ (taken w.shape k (Rel 0) free.size ++ free.after)

  found-is : found ≡ free.before ++ block (Rel 0) new_size ∷ new_after
  found-is = ap (λ m. free.before ++ m) (taken-parts w.shape k (Rel 0) free.size free.after)

  abbrev taken-found : TakenAt w.shape k (Rel 0) w.heap.map found
  taken-found = record { before = free.before; size = free.size; after = free.after; was = free.map; is = refl; fits = large }

  found-apart : free_apart found ≡ true
  found-apart = free_apart-kept w.shape k (Rel 0) w.heap.map found taken-found refl sound.suits.apart

  found-possible : list_all possible found ≡ true
  found-possible =
      let all = sym (list_all-middle possible free.before (block Free free.size ∷ []) free.after) ∙ ap (list_all possible) (sym free.map) ∙ sound.suits.sizes in
      let first = and_parts (list_all possible free.before) (list_all possible (block Free free.size ∷ []) && list_all possible free.after) all in
      list_all-middle possible free.before (taken w.shape k (Rel 0) free.size) free.after
      ∙ and_from (list_all possible free.before) _ first.0
      (and_from (list_all possible (taken w.shape k (Rel 0) free.size)) (list_all possible free.after)
      (sizes-taken w.shape k (Rel 0) free.size front-possible whole-possible large)
      (and_parts (list_all possible (block Free free.size ∷ [])) (list_all possible free.after) first.1).1)

  -- no block was of nil
  none-nil : (sizes (is_named 0) free.before ≡ []) × (sizes (is_named 0) new_after ≡ [])
  none-nil =
      let parts = nil-append (sizes (is_named 0) free.before) (sizes (is_named 0) free.after)
      (sym (sizes-append (is_named 0) free.before (block Free free.size ∷ free.after)) ∙ ap (sizes (is_named 0)) (sym free.map) ∙ named_none-nil w.shape w.heap.table w.heap.map sound.suits) in
      (parts.0, rest-unnamed w.shape k free.size 0 free.after ∙ parts.1)

  module _ (full : is_full w.heap.table h ≡ true) where
    -- h is not nil
    apart_from_nil : eqb 0 h ≡ false
    apart_from_nil = by_test (eqb 0 h) refl
      where
        by_test : (c : Bool) → eqb 0 h ≡ c → c ≡ false
        by_test false _ = refl
        by_test true same = absurd (cc (full_handle w.heap.table 0 (ap (is_full w.heap.table) (eqb-true 0 h same) ∙ full), nil-no_handle w.shape w.heap.table w.heap.map sound.suits))

    -- h has one block still
    once-found : length (sizes (is_named h) found) ≡ 1
    once-found =
        let start = address_after w.shape [] in
        sym (length-addresses_from start (is_named h) found)
        ∙ ap length (addresses-untaken w.shape k (Rel 0) w.heap.map found taken-found (is_named h) refl apart_from_nil)
        ∙ length-addresses_from start (is_named h) w.heap.map
        ∙ named_once w.shape w.heap.table w.heap.map h sound.suits (ap (λ c. c || is_pointer w.heap.table h) full)

    -- the block of h and the one found, once h has its bytes in that and the other is free
    relocated-is : freed h free.before ++ block (Rel h) new_size ∷ freed h new_after ≡ renamed 0 h (freed h found)
    relocated-is =
        let first = freed h free.before in
        let last = freed h new_after in
        ap (λ m. m ++ block (Rel h) new_size ∷ last) (sym (renamed-freed 0 h free.before none-nil.0))
        ∙ ap (λ m. renamed 0 h first ++ block (Rel h) new_size ∷ m) (sym (renamed-freed 0 h new_after none-nil.1))
        ∙ sym (map-append (put_under 0 h) first (block (Rel 0) new_size ∷ last))
        ∙ ap (λ c. renamed 0 h (first ++ cond c (block Free new_size) (block (Rel 0) new_size) ∷ last)) (sym apart_from_nil)
        ∙ ap (renamed 0 h) (sym (map-append (λ (e : Entry). cond (is_named h e.kind) (block Free e.size) e) free.before (block (Rel 0) new_size ∷ new_after)))
        ∙ ap (λ m. renamed 0 h (freed h m)) (sym found-is)

    -- once neighbouring free blocks are joined, it is that zone
    pub moved-done : (new last : ZoneState) → ((r : RoomFor cut_zone at n) → new ≡ relocated h n cut_zone r.free) → last ≡ all_joined new → last ≡ moved h n k w free.before free.size free.after
    moved-done new last relocate join =
        let state : ZoneMap → ZoneState = λ m. record { memory = w.memory; shape = w.shape; heap = granted (Resize h n) h m w.heap } in
        join ∙ ap all_joined (relocate room) ∙ ap (λ m. state (joined m)) relocated-is ∙ ap state (sym (renamed-joined 0 h (freed h found)))

    -- the block of h as it was
    module _ (old : ℕ) (b : BlockOf cut_zone h old) where
      there : Again (free.before ++ block (Rel 0) new_size ∷ new_after) (block (Rel h) b.size) (total_size b.before)
      there = again h free.before (block Free new_size) (block (Rel 0) new_size) new_after b.before (block (Rel h) b.size) b.after b.map refl (eqb_same h) refl

      found-there : found ≡ there.front ++ block (Rel h) b.size ∷ there.back
      found-there = found-is ∙ there.is

      At-there : At h found b.size there.front (Rel h) there.back
      At-there =
          let one = one_size (sizes (is_named h) found) once-found in
          let at = At-from h found one.0 there.front (block (Rel h) b.size) there.back one.1 found-there (eqb_same h) in
          record { was = found-there; named = eqb_same h; none_front = at.none_front; none_back = at.none_back }

      freed-there : freed h found ≡ there.front ++ block Free b.size ∷ there.back
      freed-there = freed-At h found (block (Rel h) b.size) there.front there.back At-there

      -- it may have free neighbours now
      pub newly : (new : ZoneState) → ((r : RoomFor cut_zone at n) → new ≡ relocated h n cut_zone r.free) → NewlyFree new old
      newly new relocate =
          let apart : free_apart (there.front ++ block (Rel h) b.size ∷ there.back) ≡ true = ap free_apart (sym found-there) ∙ found-apart in
          let was : IsTrue (list_all possible (there.front ++ block (Rel h) b.size ∷ there.back)) = ap (list_all possible) (sym found-there) ∙ found-possible in
          subst (λ v. NewlyFree v old) (sym (relocate room))
          (record {
            free = record {
              before = renamed 0 h there.front;
              size = b.size;
              after = renamed 0 h there.back;
              map = relocated-is ∙ ap (renamed 0 h) freed-there ∙ map-append (put_under 0 h) there.front (block Free b.size ∷ there.back);
              place = b.place ∙ ap (λ m. w.shape.base + zone_header + m) (sym (total_size-renamed 0 h there.front ∙ there.long));
            };
            before = free_apart-renamed 0 h there.front ∙ free_apart-front there.front (block (Rel h) b.size ∷ there.back) apart;
            after = free_apart-renamed 0 h there.back ∙ free_apart-after there.front (block (Rel h) b.size ∷ there.back) apart;
            sizes = ap (list_all possible) relocated-is ∙ sizes_possible-renamed w.shape 0 h (freed h found) ∙ ap (list_all possible) freed-there ∙ list_all-append possible there.front (block Free b.size ∷ there.back)
                ∙ sym (list_all-append possible there.front (block (Rel h) b.size ∷ there.back)) ∙ was;
          })

    -- the zone is sound
    pub moved-Sound : Sound w.shape (moved h n k w free.before free.size free.after).heap
    moved-Sound =
        let s = w.shape in
        let need_found = free.before ++ (taken s (need s.heads n) (Rel 0) free.size ++ free.after) in
        let at_need : TakenAt s (need s.heads n) (Rel 0) w.heap.map need_found = record { before = free.before; size = free.size; after = free.after; was = free.map; is = refl; fits = subst (λ j. j ≤ free.size) size large } in
        subst (λ j. Sound s (moved h n j w free.before free.size free.after).heap) (sym size) (sound-resized_elsewhere s w.heap h n need_found sound full (full-no_pointer w.heap.table h full) at_need h)

    -- and what is lent is kept
    pub moved-keeps : LoansAreFixed w.heap → is_lent w.heap.table h ≡ false → KeepsLent w.shape w.heap (moved h n k w free.before free.size free.after).heap
    moved-keeps fixed here =
        let s = w.shape in
        let new = (moved h n k w free.before free.size free.after).heap in
        let stay : Heap = record { table = new.table; map = w.heap.map; free_slots = new.free_slots } in
        let others = keeps-others s w.heap stay h here (with_live_agrees h (refilled (resized n (bytes_of w.heap.table h)) (live_at w.heap.table h)) w.heap.table) refl (λ y apart. refl) in
        record {
          lent = others.lent;
          contents = λ y lent.
              let apart = lent-apart w.heap.table h y here lent in
              let nil = nil-here s w.heap y sound fixed lent in
              contents_of-same s y w.heap.map new.map
              (addresses_from-renamed (address_after s []) 0 h (is_named y) (released h found) (eqb_swap h y ∙ apart) (other_named y 0 nil)
              ∙ addresses-released s h (is_named y) found refl (other_named h y apart)
              ∙ addresses-untaken s k (Rel 0) w.heap.map found taken-found (is_named y) refl nil);
          long = others.long;
          fixed = others.fixed;
        }

-- a place that was found for h in a zone, where h may move
module _ (z w : ZoneState) (h n k at : ℕ) (p : IsOpened z k at w) (size : k ≡ need z.shape.heads n) (full : is_full z.heap.table h ≡ true) (unlocked : is_locked z.heap.table h ≡ false) where
  -- the size is that of the new zone too
  pub size-found : k ≡ need w.shape.heads n
  size-found = size ∙ ap (λ (v : ZoneState). need v.shape.heads n) (sym p.zone)

  -- and so is the table
  pub table-found : w.heap.table ≡ z.heap.table
  table-found = ap (λ (v : ZoneState). v.heap.table) p.zone

  moves : stays z.heap.table h ≡ false
  moves = ap (λ c. c || is_locked z.heap.table h) (full-no_pointer z.heap.table h full) ∙ unlocked

  -- the zone in which h has moved there has the heap that is asked for
  pub moved-away : (last : ZoneState) → last ≡ moved h n k w p.low.free.before p.low.free.size p.low.free.after → (resized_away z.shape h n z.heap ≡ Some last.heap) × (last.shape ≡ z.shape)
  moved-away last is =
      let there : Option ZoneMap → Option Heap = option_map (λ m. granted (Resize h n) h m z.heap) in
      let tidy : ZoneMap → ZoneMap = λ m. renamed 0 h (released h m) in
      let whole = is ∙ ap (λ v. moved h n k v p.low.free.before p.low.free.size p.low.free.after) p.zone in (
        ap (λ j. there (resized_elsewhere z.shape z.heap.table j h z.heap.map)) (sym size)
            ∙ ap (λ c. there (cond c None (option_map tidy (placed_relocatable z.shape z.heap.table k (Rel 0) z.heap.map)))) moves
            ∙ ap (λ o. there (option_map tidy o)) (opened_taken z w k at p (Rel 0) ∙ ap (λ (v : ZoneState). Some (p.low.free.before ++ (taken v.shape k (Rel 0) p.low.free.size ++ p.low.free.after))) p.zone) ∙ ap (λ (v : ZoneState). Some v.heap) (sym whole),
        ap (λ (v : ZoneState). v.shape) whole,
      )

-- where no gap has room there is none for h
pub not-away : (z : ZoneState) (h n k : ℕ) → k ≡ need z.shape.heads n → lowest_gap k (gaps z.heap.table z.heap.map) ≡ None → resized_away z.shape h n z.heap ≡ None
not-away z h n k size none =
    let s = z.shape in
    let t = z.heap.table in
    let m = z.heap.map in
    let some = subst (λ k. 0 < k) (sym size) (size_needed-positive s (Resize h n)) in
    let full = none_of _ (is_some-placed_relocatable s t k (Rel 0) m some ∙ sym (is_some-lowest_gap t k m) ∙ ap is_some none) in
    let there : Option ZoneMap → Option Heap = option_map (λ m. granted (Resize h n) h m z.heap) in
    let tidy : ZoneMap → ZoneMap = λ m. renamed 0 h (released h m) in
    ap (λ j. there (resized_elsewhere s t j h m)) (sym size) ∙ ap (λ o. there (cond (stays t h) None (option_map tidy o))) full ∙ either (stays t h)
  where
    either : (c : Bool) → option_map (λ m. granted (Resize h n) h m z.heap) (cond c None None) ≡ None
    either true = refl
    either false = refl

-- the zone in which h has moved is sound
pub moved-sound : (z w last : ZoneState) (h n k at : ℕ) (p : IsOpened z k at w) → k ≡ need w.shape.heads n → is_full w.heap.table h ≡ true → is_lent w.heap.table h ≡ false → SoundZone w → last ≡ moved h n k w p.low.free.before p.low.free.size p.low.free.after → SoundZone last
moved-sound z w last h n k at p size full here sound is =
    subst SoundZone (sym is)
    (record {
      sound = moved-Sound w h n k at sound.sound p.low.free p.low.large size full;
      fixed = fixed-kept w.shape w.heap (moved h n k w p.low.free.before p.low.free.size p.low.free.after).heap (moved-keeps w h n k at sound.sound p.low.free p.low.large size full sound.fixed here) sound.fixed;
    })

-- and has all loans
pub moved-loans : (z w last : ZoneState) (h n k at : ℕ) (p : IsOpened z k at w) → k ≡ need w.shape.heads n → is_full w.heap.table h ≡ true → is_lent w.heap.table h ≡ false → SoundZone w → KeepsLoans z w → last ≡ moved h n k w p.low.free.before p.low.free.size p.low.free.after
    → KeepsLoans z last
moved-loans z w last h n k at p size full here sound loans is =
    let new = moved h n k w p.low.free.before p.low.free.size p.low.free.after in
    subst (KeepsLoans z) (sym is) (keeps-both z w new loans (keeps-loans w new refl refl (moved-keeps w h n k at sound.sound p.low.free p.low.large size full sound.fixed here)))
