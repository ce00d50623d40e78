-- One candidate after the other becomes empty: what is left to purge.
use Rattle.std.proofs.Common.{◌≡◌, ℕ, ◌+◌, ◌<◌, ◌≤◌, Bool, true, false, not, cond, eqb, List, [], ◌∷◌, ◌++◌, length, Contains, refl, ap, sym, ◌∙◌, subst, arith, Some, None}
use Rattle.std.specs.Prelude.{◌&&◌, ◌||◌, filter, filter_map, nat_le}
use Rattle.std.specs.List.{slice_get}
use Rattle.std.proofs.lemmas.Bool.{true≢false}
use Rattle.mac_base.specs.declared.block.Entry.{Entry}
use Rattle.mac_base.specs.declared.block.Kind.{Kind}
use Rattle.mac_base.specs.declared.block.Kind.TheVariants.{Free, Master, Ptr, Rel}
use Rattle.mac_base.specs.declared.request.Request.{Request}
use Rattle.mac_base.specs.declared.request.Request.TheVariants.{NewBlock, NewEmpty, NewPointer, NewMaster, Reserve, Resize, Replace}
use Rattle.mac_base.specs.Arrangement.{used_blocks}
use Rattle.mac_base.specs.Gap.{is_fixed}
use Rattle.mac_base.specs.HandleTable.{HandleTable, EmptyHandle, emptied, is_lent, is_locked, is_pointer, is_purgeable, live_at, live_flags, live_full, live_handle, live_pointer}
use Rattle.mac_base.specs.HeadKind.{Shape}
use Rattle.mac_base.specs.Heap.{Heap, all_purged, with_all_emptied, with_emptied}
use Rattle.mac_base.specs.Loans.{LoansAreFixed}
use Rattle.mac_base.specs.Purging.{purged, purged_for}
use Rattle.mac_base.specs.Request.{blocks_to_purge, candidates, candidates_in, fits, is_among, purged_until}
use Rattle.mac_base.specs.Sound.{Sound}
use Rattle.mac_base.specs.Suits.{is_handle_block, is_pointer_block}
use Rattle.mac_base.specs.ZoneMap.{ZoneMap, address_after, block, handle_of, is_named, largest_free, released, sizes}
use Rattle.mac_base.specs.ZoneState.{ZoneState, with_heap}
use Rattle.zone_laws.proofs.Owners.{no_pointer_block}
use Rattle.zone_laws.proofs.SlotPlaces.{Contains-here}
use Rattle.zone_laws.proofs.SuitsNamed.{full-no_pointer, length-handle_blocks}
use Rattle.zone_laws.proofs.Tables.{by_number, eqb_same, with_live_agrees}
use Rattle.zone_laws.proofs.Emptied.{IsCandidate, candidate-is, keeps-unlocked, none_pass, purged_until-none}
use Rattle.zone_laws.proofs.FixesSame.{blocks_to_purge-same, fits-same}
use Rattle.zone_laws.proofs.PurgeBlocks.{blocks_to_purge-is, purge_blocks, purge_blocks-filter, purge_handles, purge_handles-used, run, run_after, used-released}
use Rattle.linked_zone.specs.Loans.{KeepsLoans}
use Rattle.zone_heap.specs.Attempts.{CanAsk, SoundZone, is_ready}
use Rattle.zone_heap.specs.Purge.{is_protected}
use Rattle.zone_heap.proofs.Emptying.{emptied_zone, fixes-emptied}
use Rattle.zone_heap.proofs.Loans.{keeps-both}

-- the handles of blocks
abbrev handles : ZoneMap → List ℕ
handles m = filter_map (λ (e : Entry). handle_of e.kind) m

-- how often a handle is among some
abbrev times : ℕ → List ℕ → ℕ
times h [] = 0
times h (g ∷ hs) = cond (eqb g h) 1 0 + times h hs

-- ---- a handle has one block

none-times : (h : ℕ) (hs : List ℕ) → times h hs ≡ 0 → filter (λ g. not (eqb g h)) hs ≡ hs
none-times h [] none = refl
none-times h (g ∷ hs) none = by_test (eqb g h) none (none-times h hs)
  where
    by_test : (b : Bool) → cond b 1 0 + times h hs ≡ 0 → (times h hs ≡ 0 → filter (λ g. not (eqb g h)) hs ≡ hs) → cond (not b) (g ∷ filter (λ g. not (eqb g h)) hs) (filter (λ g. not (eqb g h)) hs) ≡ g ∷ hs
    by_test true none rest = absurd (omega arith)
    by_test false none rest = ap (λ hs. g ∷ hs) (rest (omega arith))

-- it is no oftener among those of them that pass a test
times-filter : (h : ℕ) (p : ℕ → Bool) (hs : List ℕ) → times h (filter p hs) ≤ times h hs
times-filter h p [] = omega arith
times-filter h p (g ∷ hs) =
    let rest = times-filter h p hs in
    elim (p g) as (λ b. times h (cond b (g ∷ filter p hs) (filter p hs)) ≤ cond (eqb g h) 1 0 + times h hs) [
      | true ↦ omega arith
      | false ↦ omega arith
    ]

-- nor among those of some blocks than it has blocks
times-handles : (h : ℕ) (m : ZoneMap) → times h (handles m) ≡ length (sizes (is_handle_block h) m)
times-handles h [] = refl
times-handles h (e ∷ es) = by_kind e.size e.kind (times-handles h es)
  where
    by_kind : (n : ℕ) (kind : Kind) → times h (handles es) ≡ length (sizes (is_handle_block h) es) → times h (handles (block kind n ∷ es)) ≡ length (sizes (is_handle_block h) (block kind n ∷ es))
    by_kind n Free rest = rest
    by_kind n Master rest = rest
    by_kind n (Ptr p) rest = rest
    by_kind n (Rel g) rest = elim (eqb g h) as (λ c. cond c 1 0 + times h (handles es) ≡ length (cond c (n ∷ []) [] ++ sizes (is_handle_block h) es)) [
      | true ↦ omega (arith, rest)
      | false ↦ omega (arith, rest)
    ]

-- fewer blocks of it are among those of a run
run-fewer : (t : HandleTable) (test : Kind → Bool) (m : ZoneMap) → length (sizes test (run t m)) ≤ length (sizes test m)
run-fewer t test [] = omega arith
run-fewer t test (e ∷ es) = by_tests (is_fixed t e.kind) (test e.kind) (run-fewer t test es)
  where
    by_tests : (b c : Bool) → length (sizes test (run t es)) ≤ length (sizes test es) → length (sizes test (cond b [] (e ∷ run t es))) ≤ length (cond (test e.kind) (e.size ∷ []) [] ++ sizes test es)
    by_tests true c rest = omega arith
    by_tests false c rest = elim (test e.kind) as (λ c. length (cond c (e.size ∷ []) [] ++ sizes test (run t es)) ≤ length (cond c (e.size ∷ []) [] ++ sizes test es)) [ true ↦ omega (arith, rest) | false ↦ rest ]

run_after-fewer : (t : HandleTable) (x : ℕ) (test : Kind → Bool) (m : ZoneMap) → length (sizes test (run_after t x m)) ≤ length (sizes test m)
run_after-fewer t x test [] = omega arith
run_after-fewer t x test (e ∷ es) = by_tests (is_fixed t e.kind) (is_named x e.kind) (test e.kind) (run-fewer t test es) (run_after-fewer t x test es)
  where
    by_tests : (b c d : Bool) → length (sizes test (run t es)) ≤ length (sizes test es) → length (sizes test (run_after t x es)) ≤ length (sizes test es)
        → length (sizes test (cond b (cond c (run t es) (run_after t x es)) (run_after t x es))) ≤ length (cond d (e.size ∷ []) [] ++ sizes test es)
    by_tests true true true first rest = omega (arith, first)
    by_tests true true false first rest = first
    by_tests true false true first rest = omega (arith, rest)
    by_tests true false false first rest = rest
    by_tests false c true first rest = omega (arith, rest)
    by_tests false c false first rest = rest

-- or among which a request may purge
blocks-fewer : (t : HandleTable) (test : Kind → Bool) (r : Request) (m : ZoneMap) → length (sizes test (purge_blocks t r m)) ≤ length (sizes test m)
blocks-fewer t test (NewBlock n) m = omega arith
blocks-fewer t test NewEmpty m = omega arith
blocks-fewer t test (NewPointer n) m = omega arith
blocks-fewer t test NewMaster m = omega arith
blocks-fewer t test (Reserve n) m = omega arith
blocks-fewer t test (Resize x n) m = elim (is_pointer t x || is_locked t x) as (λ c. length (sizes test (cond c (run_after t x m) m)) ≤ length (sizes test m)) [ true ↦ run_after-fewer t x test m | false ↦ omega arith ]
blocks-fewer t test (Replace h n) m = omega arith

-- ---- the others are left

-- a handle that no block of these has is left out of their handles
handles-without : (h : ℕ) (m : ZoneMap) → handles (filter (λ (e : Entry). not (is_named h e.kind)) m) ≡ filter (λ g. not (eqb g h)) (handles m)
handles-without h [] = refl
handles-without h (e ∷ es) = by_kind e.size e.kind (handles-without h es)
  where
    others : ZoneMap
    others = filter (λ (e : Entry). not (is_named h e.kind)) es

    by_kind : (n : ℕ) (kind : Kind) → handles others ≡ filter (λ g. not (eqb g h)) (handles es)
        → handles (filter (λ (e : Entry). not (is_named h e.kind)) (block kind n ∷ es)) ≡ filter (λ g. not (eqb g h)) (handles (block kind n ∷ es))
    by_kind n Free rest = rest
    by_kind n Master rest = rest
    by_kind n (Ptr p) rest = elim (eqb p h) as (λ c. handles (cond (not c) (block (Ptr p) n ∷ others) others) ≡ filter (λ g. not (eqb g h)) (handles es)) [ true ↦ rest | false ↦ rest ]
    by_kind n (Rel g) rest = elim (eqb g h) as (λ c. handles (cond (not c) (block (Rel g) n ∷ others) others) ≡ cond (not c) (g ∷ filter (λ g. not (eqb g h)) (handles es)) (filter (λ g. not (eqb g h)) (handles es))) [
      | true ↦ rest
      | false ↦ ap (λ hs. g ∷ hs) rest
    ]

-- of others a test that says the same of them leaves the same
filter-others : (h : ℕ) (p q : ℕ → Bool) (hs : List ℕ) → ((g : ℕ) → eqb g h ≡ false → q g ≡ p g) → filter q (filter (λ g. not (eqb g h)) hs) ≡ filter (λ g. not (eqb g h)) (filter p hs)
filter-others h p q [] same = refl
filter-others h p q (g ∷ hs) same = by_number (λ g. filter q (filter (λ g. not (eqb g h)) (g ∷ hs)) ≡ filter (λ g. not (eqb g h)) (filter p (g ∷ hs))) h (here (filter-others h p q hs same)) (other (filter-others h p q hs same)) g
  where
    others : List ℕ → List ℕ
    others = filter (λ g. not (eqb g h))

    here : filter q (others hs) ≡ others (filter p hs) → filter q (others (h ∷ hs)) ≡ others (filter p (h ∷ hs))
    here rest = ap (λ c. filter q (cond (not c) (h ∷ others hs) (others hs))) (eqb_same h) ∙ rest
        ∙ elim (p h) as (λ c. others (filter p hs) ≡ others (cond c (h ∷ filter p hs) (filter p hs))) [
          | true ↦ sym (ap (λ c. cond (not c) (h ∷ others (filter p hs)) (others (filter p hs))) (eqb_same h))
          | false ↦ refl
        ]

    other : filter q (others hs) ≡ others (filter p hs) → (g : ℕ) → eqb g h ≡ false → filter q (others (g ∷ hs)) ≡ others (filter p (g ∷ hs))
    other rest g apart =
        ap (λ c. filter q (cond (not c) (g ∷ others hs) (others hs))) apart
        ∙ ap (λ c. cond c (g ∷ filter q (others hs)) (filter q (others hs))) (same g apart)
        ∙ ap (λ hs. cond (p g) (g ∷ hs) hs) rest
        ∙ elim (p g) as (λ c. cond c (g ∷ others (filter p hs)) (others (filter p hs)) ≡ others (cond c (g ∷ filter p hs) (filter p hs))) [
          | true ↦ sym (ap (λ c. cond (not c) (g ∷ others (filter p hs)) (others (filter p hs))) apart)
          | false ↦ refl
        ]

-- ---- the first candidate becomes empty

-- tests that say the same are one
same_tests : {A : Type 0} {p q : A → Bool} → ((a : A) → p a ≡ q a) → p ≡ q
same_tests same = λ i a. same a i

-- where it isn't enough yet the first handle becomes empty, and then as few of the others as are enough
pub until-step : (enough : ZoneMap → Bool) (h : ℕ) (hs : List ℕ) (heap : Heap) → enough heap.map ≡ false
    → with_all_emptied (purged_until enough (h ∷ hs) heap.map) heap ≡ with_all_emptied (purged_until enough hs (released h heap.map)) (with_emptied heap h)
until-step enough h hs heap less = ap (λ b. with_all_emptied (cond b [] (h ∷ purged_until enough hs (released h heap.map))) heap) less

module _ (s : Shape) (protected : List ℕ) (r : Request) (heap : Heap) (h : ℕ) (hs : List ℕ) (sound : Sound s heap) (first : candidates heap.table protected r heap.map ≡ h ∷ hs) where
  -- it may be purged
  pub first-candidate : IsCandidate heap.table protected h
  first-candidate = candidate-is heap.table protected (blocks_to_purge heap.table r heap.map) h (subst (λ hs. Contains hs h) (sym first) (Contains-here h hs))

  -- it is none of the others
  first-once : filter (λ g. not (eqb g h)) (h ∷ hs) ≡ hs
  first-once =
      let t = heap.table in
      let all = times-filter h (λ g. is_purgeable t g && not (is_among protected g)) (purge_handles t r heap.map) in
      let here : cond (eqb h h) 1 0 + times h hs ≤ times h (purge_handles t r heap.map) = subst (λ hs. times h hs ≤ times h (purge_handles t r heap.map)) first all in
      let blocks : times h (purge_handles t r heap.map) ≡ length (sizes (is_handle_block h) (purge_blocks t r heap.map)) = times-handles h (blocks_to_purge t r heap.map) ∙ ap (λ m. length (sizes (is_handle_block h) m)) (blocks_to_purge-is t r heap.map) in
      let fewer = blocks-fewer t (is_handle_block h) r heap.map in
      let one : length (sizes (is_handle_block h) heap.map) ≡ 1 = length-handle_blocks s t heap.map h sound.suits ∙ ap (λ b. cond b 1 0) first-candidate.full in
      let one_here : ℕ = cond (eqb h h) 1 0 in
      let more : one_here ≡ 1 = ap (λ c. cond c 1 0) (eqb_same h) in
      ap (λ c. cond (not c) (h ∷ filter (λ g. not (eqb g h)) hs) (filter (λ g. not (eqb g h)) hs)) (eqb_same h) ∙ none-times h hs (omega (arith, here, blocks, fewer, one, more))

  -- then the others are the candidates
  pub candidates-step : candidates (emptied h heap.table) protected r (released h heap.map) ≡ hs
  candidates-step =
      let t = heap.table in
      let m = heap.map in
      let may = first-candidate.may in
      let u : HandleTable = emptied h t in
      let q : Entry → Bool = λ (e : Entry). not (is_named h e.kind) in
      let no_pointer = none_pass (address_after s []) (is_pointer_block h) m (no_pointer_block s t m sound.suits h (full-no_pointer t h first-candidate.full)) in
      let left : purge_handles u r (released h m) ≡ filter (λ g. not (eqb g h)) (purge_handles t r m) =
      ap handles (blocks_to_purge-same t u (fixes-emptied t h may.handle may.unlocked) r (released h m))
      ∙ purge_handles-used t r (released h m) ∙ ap (λ b. handles (purge_blocks t r b)) (used-released h m)
      ∙ ap handles (purge_blocks-filter t q r (used_blocks m) (keeps-unlocked t h m may.unlocked no_pointer))
      ∙ handles-without h (purge_blocks t r (used_blocks m)) ∙ ap (filter (λ g. not (eqb g h))) (sym (purge_handles-used t r m)) in
      ap (filter (λ g. is_purgeable u g && not (is_among protected g))) left
      ∙ filter-others h (λ g. is_purgeable t g && not (is_among protected g)) (λ g. is_purgeable u g && not (is_among protected g)) (purge_handles t r m)
      (λ g apart. ap (λ o. (live_full o && ((live_flags o).purge && not (live_flags o).lock)) && not (is_among protected g)) ((with_live_agrees h EmptyHandle t).others g apart))
      ∙ ap (filter (λ g. not (eqb g h))) first ∙ first-once

  -- and for a request that doesn't fit yet as much is purged in all
  pub purged-step : fits s heap.table r heap.map ≡ false → purged s protected r (with_emptied heap h) ≡ purged s protected r heap
  purged-step less =
      let t = heap.table in
      let m = heap.map in
      let may = first-candidate.may in
      let same : fits s (emptied h t) r ≡ fits s t r = same_tests (fits-same s t (emptied h t) (fixes-emptied t h may.handle may.unlocked) r) in
      ap (λ test. with_all_emptied (purged_until test (candidates (emptied h t) protected r (released h m)) (released h m)) (with_emptied heap h)) same
      ∙ ap (λ hs. with_all_emptied (purged_until (fits s t r) hs (released h m)) (with_emptied heap h)) candidates-step
      ∙ sym (until-step (fits s t r) h hs heap less) ∙ sym (ap (λ hs. with_all_emptied (purged_until (fits s t r) hs m) heap) first)

-- the first of the candidates, if there is one
pub head-some : (hs : List ℕ) (h : ℕ) → Some h ≡ slice_get hs 0 → (rest : List ℕ) × (hs ≡ h ∷ rest)
head-some [] h is = absurd (cc is)
head-some (g ∷ hs) h is = let same : h ≡ g = cc is in (hs, ap (λ g. g ∷ hs) (sym same))

pub head-none : (hs : List ℕ) → None ≡ slice_get hs 0 → hs ≡ []
head-none [] is = refl
head-none (g ∷ hs) is = absurd (cc is)

-- a candidate isn't lent
pub candidate-here : (heap : Heap) (protected : List ℕ) (h : ℕ) → LoansAreFixed heap → IsCandidate heap.table protected h → is_lent heap.table h ≡ false
candidate-here heap protected h fixed is = by_lent (is_lent heap.table h) refl
  where
    by_lent : (c : Bool) → is_lent heap.table h ≡ c → c ≡ false
    by_lent false lent = refl
    by_lent true lent = absurd (true≢false (sym (fixed h lent) ∙ ap (λ c. c || is_locked heap.table h) (full-no_pointer heap.table h is.full) ∙ is.may.unlocked))

-- what a request is for is there still when a candidate is empty
pub ready-step : (t : HandleTable) (protected : List ℕ) (h : ℕ) → is_among protected h ≡ false → (r : Request) → is_protected protected r ≡ true → is_ready t r ≡ true → is_ready (emptied h t) r ≡ true
ready-step t protected h apart r kept ready = by_request r kept ready
  where
    other : (x : ℕ) → is_among protected x ≡ true → live_at (emptied h t) x ≡ live_at t x
    other = by_number (λ x. is_among protected x ≡ true → live_at (emptied h t) x ≡ live_at t x) h (λ kept. absurd (true≢false (sym kept ∙ apart))) (λ x differs kept. (with_live_agrees h EmptyHandle t).others x differs)

    by_request : (r : Request) → is_protected protected r ≡ true → is_ready t r ≡ true → is_ready (emptied h t) r ≡ true
    by_request (NewBlock n) kept ready = refl
    by_request NewEmpty kept ready = refl
    by_request (NewPointer n) kept ready = refl
    by_request NewMaster kept ready = refl
    by_request (Reserve n) kept ready = refl
    by_request (Resize x n) kept ready = ap (λ o. (live_full o || live_pointer o) && not (is_lent t x)) (other x kept) ∙ ready
    by_request (Replace g n) kept ready = ap (λ o. live_handle o && (not (live_flags o).lock && not (is_lent t g))) (other g kept) ∙ ready

-- What is purged of a zone on the way to a goal: as much is left as was to do in all.
pub record StillTo (goal : ZoneState → ZoneState) (start now : ZoneState) : Type 0 where
  pub sound : SoundZone now
  pub loans : KeepsLoans start now
  pub same : goal now ≡ goal start

-- it is so still when one handle more is empty
pub still-step : (goal : ZoneState → ZoneState) (start now new : ZoneState) (h : ℕ) → StillTo goal start now → new ≡ emptied_zone h now → KeepsLoans now new → SoundZone new → goal (emptied_zone h now) ≡ goal now → StillTo goal start new
still-step goal start now new h still is kept sound step = record { sound = sound; loans = keeps-both start now new still.loans kept; same = ap goal is ∙ step ∙ still.same }

-- the zone once all that a request calls for is purged
abbrev pub purged_zone : List ℕ → Request → ZoneState → ZoneState
purged_zone protected r z = with_heap (purged z.shape protected r z.heap) z

-- none is where it fits
pub purged-fits : (protected : List ℕ) (r : Request) (z : ZoneState) → fits z.shape z.heap.table r z.heap.map ≡ true → z ≡ purged_zone protected r z
purged-fits protected r z enough = ap (λ hs. with_heap (with_all_emptied hs z.heap) z) (sym (purged_until-none (fits z.shape z.heap.table r) (candidates z.heap.table protected r z.heap.map) z.heap.map enough))

-- nor where none may be
pub purged-none : (protected : List ℕ) (r : Request) (z : ZoneState) → candidates z.heap.table protected r z.heap.map ≡ [] → z ≡ purged_zone protected r z
purged-none protected r z none = ap (λ hs. with_heap (with_all_emptied (purged_until (fits z.shape z.heap.table r) hs z.heap.map) z.heap) z) (sym none)

module _ (protected : List ℕ) (r : Request) (start now new : ZoneState) (h : ℕ) (hs : List ℕ) (first : candidates now.heap.table protected r now.heap.map ≡ h ∷ hs) (is : new ≡ emptied_zone h now) (sound : SoundZone now) where
  -- one candidate fewer is left
  pub fewer-step : length (candidates new.heap.table protected r new.heap.map) < length (candidates now.heap.table protected r now.heap.map)
  fewer-step =
      let left = ap (λ (z : ZoneState). length (candidates z.heap.table protected r z.heap.map)) is ∙ ap length (candidates-step now.shape protected r now.heap h hs sound.sound first) in
      let all = ap length first in
      omega arith

  -- and as much is left to purge for a request that doesn't fit yet
  pub purged_zone-step : fits now.shape now.heap.table r now.heap.map ≡ false → purged_zone protected r (emptied_zone h now) ≡ purged_zone protected r now
  purged_zone-step less = ap (λ heap. with_heap heap now) (purged-step now.shape protected r now.heap h hs sound.sound first less)

  -- which still can be asked
  pub ask-step : is_protected protected r ≡ true → CanAsk now r → CanAsk new r
  ask-step kept ask = subst (λ z. CanAsk z r) (sym is) (let there : CanAsk (emptied_zone h now) r = record {
    size = ask.size;
    operand = ready-step now.heap.table protected h (first-candidate now.shape protected r now.heap h hs sound.sound first).unprotected r kept ask.operand;
  } in there)

-- ---- purging for free bytes in one block, and purging of all

-- the zone once enough is purged for k free bytes in one block
abbrev pub purged_to_zone : ℕ → ZoneState → ZoneState
purged_to_zone k z = with_heap (purged_for k z.heap) z

-- or once all is
abbrev pub all_purged_zone : ZoneState → ZoneState
all_purged_zone z = with_heap (all_purged z.heap) z

-- none is where it is enough
pub purged_to-enough : (k : ℕ) (z : ZoneState) → nat_le k (largest_free z.heap.map) ≡ true → z ≡ purged_to_zone k z
purged_to-enough k z enough = ap (λ hs. with_heap (with_all_emptied hs z.heap) z) (sym (purged_until-none (λ (m : ZoneMap). nat_le k (largest_free m)) (candidates_in z.heap.table [] z.heap.map) z.heap.map enough))

-- nor where none may be
pub purged_to-none : (k : ℕ) (z : ZoneState) → candidates_in z.heap.table [] z.heap.map ≡ [] → z ≡ purged_to_zone k z
purged_to-none k z none = ap (λ hs. with_heap (with_all_emptied (purged_until (λ (m : ZoneMap). nat_le k (largest_free m)) hs z.heap.map) z.heap) z) (sym none)

pub all_purged-none : (z : ZoneState) → candidates_in z.heap.table [] z.heap.map ≡ [] → z ≡ all_purged_zone z
all_purged-none z none = ap (λ hs. with_heap (with_all_emptied hs z.heap) z) (sym none)

module _ (now : ZoneState) (h : ℕ) (hs : List ℕ) (first : candidates_in now.heap.table [] now.heap.map ≡ h ∷ hs) (sound : SoundZone now) where
  left : candidates_in (emptied h now.heap.table) [] (released h now.heap.map) ≡ hs
  left = candidates-step now.shape [] NewEmpty now.heap h hs sound.sound first

  -- as much is left to purge where it isn't enough yet
  pub purged_to-step : (k : ℕ) → nat_le k (largest_free now.heap.map) ≡ false → purged_to_zone k (emptied_zone h now) ≡ purged_to_zone k now
  purged_to-step k less =
      let enough : ZoneMap → Bool = λ m. nat_le k (largest_free m) in
      ap (λ heap. with_heap heap now)
      (ap (λ hs. with_all_emptied (purged_until enough hs (released h now.heap.map)) (with_emptied now.heap h)) left
      ∙ sym (until-step enough h hs now.heap less) ∙ sym (ap (λ hs. with_all_emptied (purged_until enough hs now.heap.map) now.heap) first))

  -- and where all is to be purged
  pub all_purged-step : all_purged_zone (emptied_zone h now) ≡ all_purged_zone now
  all_purged-step = ap (λ heap. with_heap heap now) (ap (λ hs. with_all_emptied hs (with_emptied now.heap h)) left ∙ sym (ap (λ hs. with_all_emptied hs now.heap) first))
