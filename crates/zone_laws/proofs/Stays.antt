-- What is locked keeps its block where it is while a heap grows, is purged or releases blocks, and while requests are
-- served.
use Rattle.std.proofs.Common.{arith, ◌≡◌, ℕ, Bool, true, false, cond, eqb, List, [], ◌∷◌, Option, Some, refl, ap, sym, ◌∙◌, inl, inr}
use Rattle.std.specs.Prelude.{◌||◌, ◌⊎◌}
use Rattle.std.proofs.lemmas.Bool.{true≢false, eqb-true}
use Rattle.mac_base.specs.declared.block.Kind.{Kind}
use Rattle.mac_base.specs.declared.block.Kind.TheVariants.{Master, Ptr, Rel}
use Rattle.mac_base.specs.declared.releasing.ReleasingCall.{ReleasingCall}
use Rattle.mac_base.specs.declared.releasing.ReleasingCall.TheVariants.{DisposesHandle, DisposesPtr, Empties}
use Rattle.mac_base.specs.declared.request.Request.{Request}
use Rattle.mac_base.specs.declared.request.Request.TheVariants.{NewBlock, NewEmpty, NewPointer, NewMaster, Reserve, Resize, Replace}
use Rattle.mac_base.specs.HandleTable.{HandleTable, Live, EmptyHandle, FullHandle, Pointer, bytes_of, is_locked, is_pointer, live_at, live_flags, no_flags, refilled, resized, with_bytes, with_live, zeros}
use Rattle.mac_base.specs.HeadKind.{Shape, need}
use Rattle.mac_base.specs.Heap.{Heap, front_slot, granted, grown, with_all_emptied, with_emptied, with_map}
use Rattle.mac_base.specs.Releasing.{heap_released}
use Rattle.mac_base.specs.Request.{size_needed}
use Rattle.mac_base.specs.Serve.{gives, placed_relocatable, renamed, resized_block, serve}
use Rattle.mac_base.specs.Sound.{Sound}
use Rattle.mac_base.specs.Suits.{is_handle_block}
use Rattle.mac_base.specs.Trial.{Preparation, prepared_by}
use Rattle.mac_base.specs.ZoneMap.{ZoneMap, addresses, address_after, released}
use Rattle.zone_laws.proofs.Fitting.{size_needed-positive}
use Rattle.zone_laws.proofs.Owners.{other_handle}
use Rattle.zone_laws.proofs.PlacedParts.{option_map-Some}
use Rattle.zone_laws.proofs.Resized.{resized_in_place-at}
use Rattle.zone_laws.proofs.SuitsReleased.{addresses-released}
use Rattle.zone_laws.proofs.SuitsResized.{addresses_from-resized}
use Rattle.zone_laws.proofs.SuitsTaken.{addresses-untaken}
use Rattle.zone_laws.proofs.Tables.{by_number, eqb_swap, live_at-with_live_same, live_at-without_same, with_live_agrees, without_agrees}
use Rattle.zone_laws.proofs.KeepsLoans.{rearranged-stays}
use Rattle.zone_laws.proofs.ServedBase.{TakenFrom, ResizedFrom, ResizedElsewhere, placed_relocatable-TakenFrom, resized_block-from}
use Rattle.zone_laws.proofs.ServedRequests.{serve-MapServed}
use Rattle.zone_laws.proofs.SoundGrown.{addresses-at_limit}
use Rattle.zone_laws.proofs.SoundMoved.{released-new}
use Rattle.zone_laws.proofs.SoundServed.{MayServe, moves-full, placed_there}
use Rattle.zone_laws.proofs.SoundTaken.{no_block, sound-base, Suits-no_block}

-- whether what is live is locked
abbrev lock_live : Option Live → Bool
lock_live o = (live_flags o).lock

-- what is locked was locked, and its block is where it was
pub record Stay (s : Shape) (old new : Heap) : Type 0 where
  pub locked : (h : ℕ) → is_locked new.table h ≡ true → is_locked old.table h ≡ true
  pub place : (h : ℕ) → is_locked new.table h ≡ true → addresses s (is_handle_block h) new.map ≡ addresses s (is_handle_block h) old.map

pub stay-refl : (s : Shape) (heap : Heap) → Stay s heap heap
stay-refl s heap = record { locked = λ h l. l; place = λ h l. refl }

pub stay-then : (s : Shape) (a b c : Heap) → Stay s a b → Stay s b c → Stay s a c
stay-then s a b c one two = record { locked = λ h l. one.locked h (two.locked h l); place = λ h l. two.place h l ∙ one.place h (two.locked h l) }

-- a table in which x is not locked, and any other number has what it had
stay-but : (s : Shape) (x : ℕ) (old new : Heap) → is_locked new.table x ≡ false → ((y : ℕ) → eqb y x ≡ false → live_at new.table y ≡ live_at old.table y)
    → ((y : ℕ) → eqb y x ≡ false → is_locked old.table y ≡ true → addresses s (is_handle_block y) new.map ≡ addresses s (is_handle_block y) old.map) → Stay s old new
stay-but s x old new free others stand =
    let locked : (y : ℕ) → eqb y x ≡ false → is_locked new.table y ≡ true → is_locked old.table y ≡ true = λ y apart l. ap lock_live (sym (others y apart)) ∙ l in
    record {
      locked = by_number (λ y. is_locked new.table y ≡ true → is_locked old.table y ≡ true) x (λ l. absurd (true≢false (sym l ∙ free))) locked;
      place = by_number (λ y. is_locked new.table y ≡ true → addresses s (is_handle_block y) new.map ≡ addresses s (is_handle_block y) old.map) x (λ l. absurd (true≢false (sym l ∙ free))) (λ y apart l. stand y apart (locked y apart l));
    }

-- another map for the same table
stay-map : (s : Shape) (old new : Heap) → new.table ≡ old.table → ((h : ℕ) → is_locked old.table h ≡ true → addresses s (is_handle_block h) new.map ≡ addresses s (is_handle_block h) old.map) → Stay s old new
stay-map s old new same stand = record { locked = λ h l. ap (λ t. is_locked t h) (sym same) ∙ l; place = λ h l. stand h (ap (λ t. is_locked t h) (sym same) ∙ l) }

-- a block is released
pub stay-released : (s : Shape) (call : ReleasingCall) (heap : Heap) → Stay s heap (heap_released call heap)
stay-released s (DisposesHandle x) heap = stay-but s x heap (heap_released (DisposesHandle x) heap) (ap lock_live (live_at-without_same x heap.table)) (without_agrees x heap.table).others
    (λ y apart _. addresses-released s x (is_handle_block y) heap.map refl (other_handle x y apart))
stay-released s (DisposesPtr x) heap = stay-but s x heap (heap_released (DisposesPtr x) heap) (ap lock_live (live_at-without_same x heap.table)) (without_agrees x heap.table).others
    (λ y apart _. addresses-released s x (is_handle_block y) heap.map refl (other_handle x y apart))
stay-released s (Empties x) heap = stay-but s x heap (heap_released (Empties x) heap) (ap lock_live (live_at-with_live_same x EmptyHandle heap.table)) (with_live_agrees x EmptyHandle heap.table).others
    (λ y apart _. addresses-released s x (is_handle_block y) heap.map refl (other_handle x y apart))

pub stay-grown : (s : Shape) (heap : Heap) → Stay s heap (grown s heap)
stay-grown s heap = stay-map s heap (grown s heap) refl (λ h _. addresses-at_limit s (is_handle_block h) heap.map refl)

pub stay-purged : (s : Shape) (hs : List ℕ) (heap : Heap) → Stay s heap (with_all_emptied hs heap)
stay-purged s [] heap = stay-refl s heap
stay-purged s (h ∷ hs) heap = let mid = with_emptied heap h in stay-then s heap mid (with_all_emptied hs mid) (stay-released s (Empties h) heap) (stay-purged s hs mid)

stay-grown_if : (s : Shape) (b : Bool) (heap : Heap) → Stay s heap (cond b (grown s heap) heap)
stay-grown_if s true heap = stay-grown s heap
stay-grown_if s false heap = stay-refl s heap

pub stay-prepared : (s : Shape) (p : Preparation) (heap : Heap) → Stay s heap (prepared_by s p heap)
stay-prepared s p heap = let mid : Heap = cond p.grows (grown s heap) heap in stay-then s heap mid (with_all_emptied p.purges mid) (stay-grown_if s p.grows heap) (stay-purged s p.purges mid)

-- a refilled block is as locked as it was
refilled-locked : (bytes : List ℕ) (o : Option Live) → lock_live (Some (refilled bytes o)) ≡ true → lock_live o ≡ true
refilled-locked bytes v1 h = grind arith

pub written-locked : (x : ℕ) (bytes : List ℕ) (t : HandleTable) (h : ℕ) → is_locked (with_bytes x bytes t) h ≡ true → is_locked t h ≡ true
written-locked x bytes t =
    let l = refilled bytes (live_at t x) in
    by_number (λ h. is_locked (with_bytes x bytes t) h ≡ true → is_locked t h ≡ true) x
    (λ k. refilled-locked bytes (live_at t x) (ap lock_live (sym (live_at-with_live_same x l t)) ∙ k))
    (λ y apart k. ap lock_live (sym ((with_live_agrees x l t).others y apart)) ∙ k)

module _ (s : Shape) (heap : Heap) (sound : Sound s heap) where
  -- a block taken from a free one leaves the others
  taken-stays : (k : ℕ) (kind : Kind) (m : ZoneMap) (p : TakenFrom s heap.table heap.table k kind heap.map m) (h : ℕ) → is_handle_block h kind ≡ false → is_locked heap.table h ≡ true → addresses s (is_handle_block h) m ≡ addresses s (is_handle_block h) heap.map
  taken-stays k kind m p h other locked = let b = p.is_base in addresses-untaken s k kind p.base m p.taken (is_handle_block h) refl other ∙ rearranged-stays s heap.table heap.map p.base h b.rearranged locked

  -- x is given something that isn't locked
  given : (x : ℕ) (l : Live) (new : Heap) → (let u = with_live x l heap.table in new.table ≡ u) → lock_live (Some l) ≡ false
      → ((y : ℕ) → eqb y x ≡ false → is_locked heap.table y ≡ true → addresses s (is_handle_block y) new.map ≡ addresses s (is_handle_block y) heap.map) → Stay s heap new
  given x l new is free stand = stay-but s x heap new (ap (λ t. is_locked t x) is ∙ ap lock_live (live_at-with_live_same x l heap.table) ∙ free) (λ y apart. ap (λ t. live_at t y) is ∙ (with_live_agrees x l heap.table).others y apart) stand

  pub stay-serve : (r : Request) (x : ℕ) (m : ZoneMap) → MayServe heap r → serve s heap.table (front_slot heap) heap.map r ≡ Some (x, m) → Stay s heap (granted r x m heap)
  stay-serve (NewBlock n) x m some is =
      let found = option_map-Some (gives (front_slot heap)) (placed_relocatable s heap.table (need s.heads n) (Rel (front_slot heap)) heap.map) (x, m) is in
      let p = placed_relocatable-TakenFrom s heap.table heap.table (need s.heads n) (Rel (front_slot heap)) heap.map m sound.suits (found.1 ∙ ap (λ g. Some g.1) found.2) in
      let slot : front_slot heap ≡ x = ap (λ g. g.0) found.2 in
      given x (FullHandle no_flags (zeros n)) (granted (NewBlock n) x m heap) refl refl
      (λ h apart locked. taken-stays (need s.heads n) (Rel (front_slot heap)) m p h (ap (λ y. eqb y h) slot ∙ eqb_swap x h ∙ apart) locked)
  stay-serve NewEmpty x m some is =
      let same : ◌≡◌ {A = ℕ × ZoneMap} (front_slot heap, heap.map) (x, m) = cc is in
      given x EmptyHandle (granted NewEmpty x m heap) refl refl (λ h apart locked. ap (addresses s (is_handle_block h)) (sym (ap (λ g. g.1) same)))
  stay-serve (NewPointer n) x m may is =
      let p = placed_there s (size_needed s (NewPointer n)) (λ p. Ptr p) heap x m (size_needed-positive s (NewPointer n)) sound is in
      let b = p.is_base in
      given x (Pointer (zeros n)) (granted (NewPointer n) x m heap) refl refl
      (λ h apart locked. addresses-untaken s (size_needed s (NewPointer n)) (Ptr x) p.base m p.at (is_handle_block h) refl refl ∙ rearranged-stays s heap.table heap.map p.base h b.rearranged locked)
  stay-serve NewMaster x m may is =
      let p = placed_there s (size_needed s NewMaster) (λ p. Master) heap x m (size_needed-positive s NewMaster) sound is in
      let b = p.is_base in
      stay-map s heap (granted NewMaster x m heap) refl
      (λ h locked. addresses-untaken s (size_needed s NewMaster) Master p.base m p.at (is_handle_block h) refl refl ∙ rearranged-stays s heap.table heap.map p.base h b.rearranged locked)
  stay-serve (Reserve n) x m may is =
      let r = serve-MapServed s heap.table (front_slot heap) heap.map (Reserve n) x m sound.suits tt is in
      stay-map s heap (granted (Reserve n) x m heap) refl (λ h locked. rearranged-stays s heap.table heap.map m h r.0 locked)
  stay-serve (Resize y n) x m block is =
      let found = option_map-Some (gives y) (resized_block s heap.table (need s.heads n) y heap.map) (x, m) is in
      let locked = written-locked y (resized n (bytes_of heap.table y)) heap.table in
      let from = resized_block-from s heap.table heap.table (need s.heads n) y heap.map m sound.suits (found.1 ∙ ap (λ g. Some g.1) found.2) in
      record { locked = locked; place = λ h l. by_place h (locked h l) from }
    where
      -- what moves is not locked
      other : (h : ℕ) → is_locked heap.table h ≡ true → (is_pointer heap.table y || is_locked heap.table y) ≡ false → eqb h y ≡ false
      other h locked moves = by_test (eqb h y) refl
        where
          unlocked : (a b : Bool) → (a || b) ≡ false → b ≡ false
          unlocked true b h = absurd (cc h)
          unlocked false b h = h

          by_test : (b : Bool) → eqb h y ≡ b → b ≡ false
          by_test false is = refl
          by_test true is = absurd (true≢false (sym locked ∙ ap (is_locked heap.table) (eqb-true h y is) ∙ unlocked (is_pointer heap.table y) (is_locked heap.table y) moves))

      by_place : (h : ℕ) → is_locked heap.table h ≡ true → ResizedFrom s heap.table heap.table (need s.heads n) y heap.map m ⊎ ResizedElsewhere s heap.table heap.table (need s.heads n) y heap.map m
          → addresses s (is_handle_block h) m ≡ addresses s (is_handle_block h) heap.map
      by_place h locked (inl from) = let b = from.is_base in let suits = b.suits in
          addresses_from-resized s (need s.heads n) y from.base m (resized_in_place-at s (need s.heads n) y from.base m suits.apart from.resized) (address_after s []) (is_handle_block h) refl ∙ rearranged-stays s heap.table heap.map from.base h b.rearranged locked
      by_place h locked (inr from) = let taken = from.taken in let b = taken.is_base in
          let full = moves-full heap.table y block from.moves in
          let apart = other h locked from.moves in
          let without = released-new s (with_map taken.base heap) y n from.found (sound-base s heap taken.base sound b) full.0 full.1 taken.taken in
          ap (addresses s (is_handle_block h)) (sym from.is) ∙ sym (addresses-released s y (is_handle_block h) (renamed 0 y (released y from.found)) refl (other_handle y h apart))
          ∙ ap (addresses s (is_handle_block h)) without ∙ addresses-released s y (is_handle_block h) taken.base refl (other_handle y h apart) ∙ rearranged-stays s heap.table heap.map taken.base h b.rearranged locked
  stay-serve (Replace g n) x m live is =
      let found = option_map-Some (gives g) (placed_relocatable s heap.table (need s.heads n) (Rel g) (released g heap.map)) (x, m) is in
      let p = placed_relocatable-TakenFrom s heap.table (no_block s heap g n sound live) (need s.heads n) (Rel g) (released g heap.map) m (Suits-no_block s heap g n sound live heap.map sound.suits) (found.1 ∙ ap (λ g. Some g.1) found.2) in
      let b = p.is_base in
      given g (FullHandle no_flags (zeros n)) (granted (Replace g n) x m heap) refl refl
      (λ h apart locked. addresses-untaken s (need s.heads n) (Rel g) p.base m p.taken (is_handle_block h) refl (eqb_swap g h ∙ apart) ∙ rearranged-stays s heap.table (released g heap.map) p.base h b.rearranged locked
      ∙ addresses-released s g (is_handle_block h) heap.map refl (other_handle g h apart))
