-- Handles that may be purged become empty: what that leaves, and when none is left.
use Rattle.std.proofs.Common.{◌≡◌, ℕ, ◌+◌, Bool, true, false, not, cond, eqb, List, [], ◌∷◌, refl, ap, sym, ◌∙◌, subst, arith, inl, inr, Contains}
use Rattle.std.specs.Prelude.{◌||◌, ◌&&◌, ◌⊎◌, ◌==◌, filter, filter_map}
use Rattle.std.specs.List.{list_all}
use Rattle.std.proofs.lemmas.Bool.{and_from, and_parts, or_left, or_parts, or_right, true≢false, false_from_ne_true, not-true, not_from_false, eqb-true}
use Rattle.std.proofs.lemmas.Bool.Decides.{nat_tests}
use Rattle.std.proofs.lemmas.List.Elements.{All-contains, filter_passes}
use Rattle.mac_base.specs.declared.block.Entry.{Entry}
use Rattle.mac_base.specs.declared.block.Kind.{Kind}
use Rattle.mac_base.specs.declared.block.Kind.TheVariants.{Free, Master, Ptr, Rel}
use Rattle.mac_base.specs.HeadKind.{Shape}
use Rattle.mac_base.specs.ZoneMap.{ZoneMap, block, handle_of, is_free, is_named, released, total_size, address_after, addresses_from}
use Rattle.mac_base.specs.HandleTable.{HandleTable, EmptyHandle, live_at, live_flags, live_full, live_handle, live_pointer, emptied, flags_of, is_full, is_handle, is_locked, is_pointer, is_purgeable}
use Rattle.mac_base.specs.Suits.{is_pointer_block}
use Rattle.mac_base.specs.Gap.{is_fixed}
use Rattle.mac_base.specs.Arrangement.{used_blocks}
use Rattle.mac_base.specs.declared.request.Request.{Request}
use Rattle.mac_base.specs.Request.{blocks_to_purge, candidates, candidates_in, is_among, purged_until}
use Rattle.mac_base.specs.Heap.{Heap, with_emptied, with_all_emptied}
use Rattle.mac_base.specs.Sound.{Sound}
use Rattle.zone_laws.proofs.Lent.{lent-filtered}
use Rattle.zone_laws.proofs.Owners.{no_pointer_block, nothing_passes}
use Rattle.zone_laws.proofs.SlotPlaces.{Contains-cons_cases, Contains-here, Contains-later, Contains-none}
use Rattle.zone_laws.proofs.SoundReleased.{sound-emptied}
use Rattle.zone_laws.proofs.SuitsReleased.{total_size-released}
use Rattle.zone_laws.proofs.Tables.{by_number, full_handle, handle_no_pointer, live_at-with_live_same, with_live_agrees}
use Rattle.zone_laws.proofs.FixesSame.{FixesSame, fixes-refl, fixes-then, blocks_to_purge-same}
use Rattle.zone_laws.proofs.PurgeBlocks.{keeps_fixed, purge_blocks, purge_blocks-filter, purge_handles, purge_handles-used, used-released}

-- an unlocked handle
pub record MayEmpty (t : HandleTable) (h : ℕ) : Type 0 where
  pub handle : is_handle t h ≡ true
  pub unlocked : is_locked t h ≡ false

-- the same are fixed once it is empty
emptied-FixesSame : (t : HandleTable) (h : ℕ) → MayEmpty t h → FixesSame t (emptied h t)
emptied-FixesSame t h may =
    let has = live_at-with_live_same h EmptyHandle t in
    let agree = with_live_agrees h EmptyHandle t in
    record {
      locked = by_number (λ x. is_locked (emptied h t) x ≡ is_locked t x) h (ap (λ o. (live_flags o).lock) has ∙ sym may.unlocked) (λ x apart. ap (λ o. (live_flags o).lock) (agree.others x apart));
      pointer = by_number (λ x. is_pointer (emptied h t) x ≡ is_pointer t x) h (ap live_pointer has ∙ sym (handle_no_pointer t h may.handle)) (λ x apart. ap live_pointer (agree.others x apart));
    }

-- no pointer's block is named by a handle
pub none_pass : (at : ℕ) (test : Kind → Bool) (m : ZoneMap) → addresses_from at test m ≡ [] → list_all (λ (e : Entry). not (test e.kind)) m ≡ true
none_pass at test [] h = refl
none_pass at test (e ∷ es) h = let parts = nothing_passes (test e.kind) at (addresses_from (at + e.size) test es) h in and_from (not (test e.kind)) _ (not_from_false (test e.kind) parts.0) (none_pass (at + e.size) test es parts.1)

-- so an unlocked handle names no fixed block in use
pub keeps-unlocked : (t : HandleTable) (h : ℕ) (m : ZoneMap) → is_locked t h ≡ false → list_all (λ (e : Entry). not (is_pointer_block h e.kind)) m ≡ true → keeps_fixed t (λ (e : Entry). not (is_named h e.kind)) (used_blocks m) ≡ true
keeps-unlocked t h [] unlocked none = refl
keeps-unlocked t h (e ∷ es) unlocked none =
    let parts = and_parts (not (is_pointer_block h e.kind)) (list_all (λ (e : Entry). not (is_pointer_block h e.kind)) es) none in
    by_use (is_free e.kind) (keeps-unlocked t h es unlocked parts.1) (by_kind e.kind parts.0)
  where
    by_use : (free : Bool) → keeps_fixed t (λ (e : Entry). not (is_named h e.kind)) (used_blocks es) ≡ true → (not (is_fixed t e.kind) || not (is_named h e.kind)) ≡ true
        → keeps_fixed t (λ (e : Entry). not (is_named h e.kind)) (cond (not free) (e ∷ used_blocks es) (used_blocks es)) ≡ true
    by_use true rest here = rest
    by_use false rest here = and_from _ _ here rest

    by_kind : (k : Kind) → not (is_pointer_block h k) ≡ true → (not (is_fixed t k) || not (is_named h k)) ≡ true
    by_kind Free other = refl
    by_kind Master other = refl
    by_kind (Ptr p) other = other
    by_kind (Rel g) other = elim (eqb g h) as (λ b. eqb g h ≡ b → (not (is_locked t g) || not b) ≡ true) [
      | true ↦ λ same. ap (λ b. not b || false) (ap (is_locked t) (eqb-true g h same) ∙ unlocked)
      | false ↦ λ _. or_right (not (is_locked t g)) true refl
    ] refl

-- the handles of blocks of which those of h are left out: neither h nor another
without-handle : (h y : ℕ) (m : ZoneMap) → Contains (filter_map (λ (e : Entry). handle_of e.kind) (filter (λ (e : Entry). not (is_named h e.kind)) m)) y → Contains (filter_map (λ (e : Entry). handle_of e.kind) m) y × (eqb y h ≡ false)
without-handle h y [] c = absurd (Contains-none y c)
without-handle h y (e ∷ es) c = by_kind e.size e.kind c (without-handle h y es)
  where
    by_kind : (n : ℕ) (k : Kind) → Contains (filter_map (λ (e : Entry). handle_of e.kind) (filter (λ (e : Entry). not (is_named h e.kind)) (block k n ∷ es))) y
        → (Contains (filter_map (λ (e : Entry). handle_of e.kind) (filter (λ (e : Entry). not (is_named h e.kind)) es)) y → Contains (filter_map (λ (e : Entry). handle_of e.kind) es) y × (eqb y h ≡ false))
        → Contains (filter_map (λ (e : Entry). handle_of e.kind) (block k n ∷ es)) y × (eqb y h ≡ false)
    by_kind n Free c rest = rest c
    by_kind n Master c rest = rest c
    by_kind n (Ptr p) c rest = rest (elim (p == h) as (λ b. Contains (filter_map (λ (e : Entry). handle_of e.kind) (cond (not b) (block (Ptr p) n ∷ filter (λ (e : Entry). not (is_named h e.kind)) es) (filter (λ (e : Entry). not (is_named h e.kind)) es))) y
        → Contains (filter_map (λ (e : Entry). handle_of e.kind) (filter (λ (e : Entry). not (is_named h e.kind)) es)) y) [ true ↦ λ c. c | false ↦ λ c. c ] c)
    by_kind n (Rel g) c rest = elim (g == h) as (λ b. (g == h) ≡ b → Contains (filter_map (λ (e : Entry). handle_of e.kind) (cond (not b) (block (Rel g) n ∷ filter (λ (e : Entry). not (is_named h e.kind)) es) (filter (λ (e : Entry). not (is_named h e.kind)) es))) y
        → Contains (g ∷ filter_map (λ (e : Entry). handle_of e.kind) es) y × (eqb y h ≡ false)) [
          | true ↦ λ _ c. (let found = rest c in (Contains-later g (filter_map (λ (e : Entry). handle_of e.kind) es) y found.0, found.1))
          | false ↦ λ other c. elim (Contains-cons_cases g (filter_map (λ (e : Entry). handle_of e.kind) (filter (λ (e : Entry). not (is_named h e.kind)) es)) y c) [
            | inl here ↦ (subst (λ y. Contains (g ∷ filter_map (λ (e : Entry). handle_of e.kind) es) y) here (Contains-here g (filter_map (λ (e : Entry). handle_of e.kind) es)), ap (λ y. eqb y h) (sym here) ∙ other)
            | inr later ↦ (let found = rest later in (Contains-later g (filter_map (λ (e : Entry). handle_of e.kind) es) y found.0, found.1))
          ]
        ] refl c

-- ---- one handle, and then more

-- what a heap keeps once these handles of it are empty
pub record Emptied (s : Shape) (hs : List ℕ) (old new : Heap) : Type 0 where
  pub sound : Sound s new
  pub fixes : FixesSame old.table new.table
  pub same_size : total_size new.map ≡ total_size old.map
  pub free_slots : new.free_slots ≡ old.free_slots
  pub lent : new.table.lent ≡ old.table.lent
  pub handles : (y : ℕ) → is_handle new.table y ≡ is_handle old.table y
  pub others : (y : ℕ) → is_among hs y ≡ false → live_at new.table y ≡ live_at old.table y
  -- for a request, only such may be purged as might be before, and none of these
  pub left : (r : Request) (y : ℕ) → Contains (purge_handles new.table r new.map) y → Contains (purge_handles old.table r old.map) y × (is_among hs y ≡ false)

one_left : (s : Shape) (heap : Heap) (h : ℕ) → Sound s heap → MayEmpty heap.table h → (r : Request) (y : ℕ) → Contains (purge_handles (emptied h heap.table) r (released h heap.map)) y → Contains (purge_handles heap.table r heap.map) y × (eqb y h ≡ false)
one_left s heap h sound may r y c =
    let t = heap.table in
    let m = heap.map in
    let no_pointer = none_pass (address_after s []) (is_pointer_block h) m (no_pointer_block s t m sound.suits h (handle_no_pointer t h may.handle)) in
    let q : Entry → Bool = λ (e : Entry). not (is_named h e.kind) in
    let is : purge_handles (emptied h t) r (released h m) ≡ filter_map (λ (e : Entry). handle_of e.kind) (filter q (purge_blocks t r (used_blocks m))) =
    ap (filter_map (λ (e : Entry). handle_of e.kind)) (blocks_to_purge-same t (emptied h t) (emptied-FixesSame t h may) r (released h m))
    ∙ purge_handles-used t r (released h m) ∙ ap (λ b. filter_map (λ (e : Entry). handle_of e.kind) (purge_blocks t r b)) (used-released h m)
    ∙ ap (filter_map (λ (e : Entry). handle_of e.kind)) (purge_blocks-filter t q r (used_blocks m) (keeps-unlocked t h m may.unlocked no_pointer)) in
    let found = without-handle h y (purge_blocks t r (used_blocks m)) (subst (λ ys. Contains ys y) is c) in
    (subst (λ ys. Contains ys y) (sym (purge_handles-used t r m)) found.0, found.1)

-- another still may be emptied
pub may-still : (t : HandleTable) (h y : ℕ) → MayEmpty t h → MayEmpty t y → MayEmpty (emptied h t) y
may-still t h y may_h may =
    let fixes = emptied-FixesSame t h may_h in
    record {
      handle = by_number (λ y. is_handle t y ≡ true → is_handle (emptied h t) y ≡ true) h (λ _. ap live_handle (live_at-with_live_same h EmptyHandle t)) (λ y apart live. ap live_handle ((with_live_agrees h EmptyHandle t).others y apart) ∙ live) y may.handle;
      unlocked = fixes.locked y ∙ may.unlocked;
    }

-- unlocked handles become empty
pub all_emptied : (s : Shape) (hs : List ℕ) (heap : Heap) → Sound s heap → ((h : ℕ) → Contains hs h → MayEmpty heap.table h) → Emptied s hs heap (with_all_emptied hs heap)
all_emptied s [] heap sound may = record {
  sound = sound;
  fixes = fixes-refl heap.table;
  same_size = refl;
  free_slots = refl;
  lent = refl;
  handles = λ y. refl;
  others = λ y _. refl;
  left = λ r y c. (c, refl);
}
all_emptied s (h ∷ hs) heap sound may =
    let first = may h (Contains-here h hs) in
    let mid = with_emptied heap h in
    let has = live_at-with_live_same h EmptyHandle heap.table in
    let agree = with_live_agrees h EmptyHandle heap.table in
    let rest = all_emptied s hs mid (sound-emptied s heap h sound first.handle) (λ y c. may-still heap.table h y first (may y (Contains-later h hs y c))) in
    record {
      sound = rest.sound;
      fixes = fixes-then heap.table mid.table (with_all_emptied hs mid).table (emptied-FixesSame heap.table h first) rest.fixes;
      same_size = rest.same_size ∙ total_size-released h heap.map;
      free_slots = rest.free_slots;
      lent = rest.lent;
      handles = λ y. rest.handles y ∙ by_number (λ y. is_handle mid.table y ≡ is_handle heap.table y) h (ap live_handle has ∙ sym first.handle) (λ y apart. ap live_handle (agree.others y apart)) y;
      others = λ y none. (let parts = or_parts (h == y) (is_among hs y) none in rest.others y parts.1 ∙ agree.others y (turned h y parts.0));
      left = λ r y c. (let later = rest.left r y c in let before = one_left s heap h sound first r y later.0 in (before.0, ap (λ b. b || is_among hs y) (turned y h before.1) ∙ later.1));
    }
  where
    turned : (a b : ℕ) → (a == b) ≡ false → eqb b a ≡ false
    turned a b h = grind (arith, nat_tests)

-- ---- those that may be purged

-- what may be purged is an unlocked handle with a block, and not protected
pub record IsCandidate (t : HandleTable) (protected : List ℕ) (h : ℕ) : Type 0 where
  pub may : MayEmpty t h
  pub full : is_full t h ≡ true
  pub unprotected : is_among protected h ≡ false

-- each candidate is one
pub candidate-is : (t : HandleTable) (protected : List ℕ) (m : ZoneMap) (h : ℕ) → Contains (candidates_in t protected m) h → IsCandidate t protected h
candidate-is t protected m h c =
    let passes = All-contains (λ g. (is_purgeable t g && not (is_among protected g)) ≡ true) (candidates_in t protected m) h
    (filter_passes (λ g. is_purgeable t g && not (is_among protected g)) (filter_map (λ (e : Entry). handle_of e.kind) m)) c in
    let both = and_parts (is_purgeable t h) (not (is_among protected h)) passes in
    let purgeable = and_parts (is_full t h) ((flags_of t h).purge && not (is_locked t h)) both.0 in
    let flags = and_parts ((flags_of t h).purge) (not (is_locked t h)) purgeable.1 in
    record { may = record { handle = full_handle t h purgeable.0; unlocked = not-true (is_locked t h) flags.1 }; full = purgeable.0; unprotected = not-true (is_among protected h) both.1 }

filter-none : (p : ℕ → Bool) (ys : List ℕ) → ((y : ℕ) → Contains ys y → p y ≡ false) → filter p ys ≡ []
filter-none p [] h = refl
filter-none p (y ∷ ys) h = ap (λ b. cond b (y ∷ filter p ys) (filter p ys)) (h y (Contains-here y ys)) ∙ filter-none p ys (λ z c. h z (Contains-later y ys z c))

-- a number of a list is among its numbers
pub contains-among : (ys : List ℕ) (y : ℕ) → Contains ys y → is_among ys y ≡ true
contains-among [] y c = absurd (Contains-none y c)
contains-among (z ∷ zs) y c = elim (Contains-cons_cases z zs y c) [
  | inl here ↦ or_left (z == y) (is_among zs y) (same z y here)
  | inr later ↦ or_right (z == y) (is_among zs y) (contains-among zs y later)
]
  where
    same : (a b : ℕ) → a ≡ b → (a == b) ≡ true
    same a b h = grind (arith, nat_tests)

-- once all that may be purged for a request are empty, none is left
pub no_candidates : (s : Shape) (protected : List ℕ) (r : Request) (heap : Heap) → Sound s heap → (let new = with_all_emptied (candidates heap.table protected r heap.map) heap in candidates new.table protected r new.map) ≡ []
no_candidates s protected r heap sound =
    let hs = candidates heap.table protected r heap.map in
    let new = with_all_emptied hs heap in
    let done = all_emptied s hs heap sound (λ h c. (candidate-is heap.table protected (blocks_to_purge heap.table r heap.map) h c).may) in
    filter-none (λ h. is_purgeable new.table h && not (is_among protected h)) (purge_handles new.table r new.map) (λ y c.
    let was = done.left r y c in
    let same = ap (λ o. (live_full o && ((live_flags o).purge && not (live_flags o).lock)) && not (is_among protected y)) (done.others y was.1) in
    same ∙ false_from_ne_true (is_purgeable heap.table y && not (is_among protected y)) (λ passes.
    true≢false (sym (lent-filtered (λ h. is_purgeable heap.table h && not (is_among protected h)) y (purge_handles heap.table r heap.map) ∙ and_from _ _ passes (contains-among (purge_handles heap.table r heap.map) y was.0)) ∙ was.1)))

-- ---- as few as are enough

-- those are some of them
pub purged_until-part : (enough : ZoneMap → Bool) (hs : List ℕ) (m : ZoneMap) (h : ℕ) → Contains (purged_until enough hs m) h → Contains hs h
purged_until-part enough [] m h c = c
purged_until-part enough (g ∷ hs) m h c = by_test (enough m) c (purged_until-part enough hs (released g m) h)
  where
    by_test : (b : Bool) → Contains (cond b [] (g ∷ purged_until enough hs (released g m))) h → (Contains (purged_until enough hs (released g m)) h → Contains hs h) → Contains (g ∷ hs) h
    by_test true c rest = absurd (Contains-none h c)
    by_test false c rest = elim (Contains-cons_cases g (purged_until enough hs (released g m)) h c) [
      | inl here ↦ subst (λ h. Contains (g ∷ hs) h) here (Contains-here g hs)
      | inr later ↦ Contains-later g hs h (rest later)
    ]

-- none where it is enough already
pub purged_until-none : (enough : ZoneMap → Bool) (hs : List ℕ) (m : ZoneMap) → enough m ≡ true → purged_until enough hs m ≡ []
purged_until-none enough [] m h = refl
purged_until-none enough (g ∷ hs) m h = ap (λ b. cond b [] (g ∷ purged_until enough hs (released g m))) h

-- and once they are empty it is enough, or they were all
pub purged_until-enough : (enough : ZoneMap → Bool) (hs : List ℕ) (heap : Heap) → (enough (with_all_emptied (purged_until enough hs heap.map) heap).map ≡ true) ⊎ (purged_until enough hs heap.map ≡ hs)
purged_until-enough enough [] heap = grind arith
purged_until-enough enough (g ∷ hs) heap = grind (arith, purged_until-enough enough hs (with_emptied heap g))
