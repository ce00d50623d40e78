-- What a running call protects stays as it is while handles are purged and an answer's calls are carried out.
use Rattle.std.proofs.Common.{◌≡◌, ℕ, Bool, true, false, cond, not, ◌&&◌, ◌||◌, eqb, List, [], ◌∷◌, ◌++◌, Option, Some, None, refl, ap, sym, ◌∙◌, subst, Contains, filter_map, inl, inr}
use Rattle.std.specs.List.{list_any}
use Rattle.std.proofs.lemmas.List.Elements.{All-contains, filter_passes}
use Rattle.std.proofs.lemmas.Bool.{not-true, and_parts, eqb-true}
use Rattle.mac_base.specs.declared.error.OsErr.{OsErr}
use Rattle.mac_base.specs.declared.block.Entry.{Entry}
use Rattle.mac_base.specs.HeadKind.{Shape}
use Rattle.mac_base.specs.ZoneMap.{ZoneMap, handle_of, released}
use Rattle.mac_base.specs.HandleTable.{HandleTable, EmptyHandle, live_at, live_full, live_pointer, live_handle, live_flags, has_block, is_handle, is_locked, is_lent, is_purgeable}
use Rattle.mac_base.specs.Heap.{Heap, grown, has_none, with_emptied, with_all_emptied}
use Rattle.mac_base.specs.Purging.{purged}
use Rattle.mac_base.specs.declared.releasing.ReleasingCall.{ReleasingCall}
use Rattle.mac_base.specs.declared.releasing.ReleasingCall.TheVariants.{DisposesHandle, DisposesPtr, Empties}
use Rattle.mac_base.specs.Releasing.{operand_of, heap_released}
use Rattle.mac_base.specs.declared.request.Request.{Request}
use Rattle.mac_base.specs.declared.request.Request.TheVariants.{NewBlock, NewEmpty, NewPointer, NewMaster, Reserve, Resize, Replace}
use Rattle.mac_base.specs.Request.{fits, candidates, candidates_in, blocks_to_purge, purged_until, is_among, makes_handle}
use Rattle.mac_base.specs.ExactRequest.{prepared}
use Rattle.mac_base.specs.GrowZone.{Carried, memory_call, heap_unless, carried_once, carried_from, carried_out}
use Rattle.mac_base.specs.Tests.{refusal}
use Rattle.zone_heap.specs.Attempts.{is_ready, lacks_slot}
use Rattle.zone_heap.specs.Purge.{is_protected}
use Rattle.zone_laws.proofs.Tables.{with_live_agrees, without_agrees}
use Rattle.zone_laws.proofs.SlotPlaces.{Contains-none, Contains-cons_cases, Contains-here, Contains-later}

-- x is what it was, and the same are lent
pub record SameAt (x : ℕ) (old new : HandleTable) : Type 0 where
  pub live : live_at new x ≡ live_at old x
  pub lent : new.lent ≡ old.lent

-- all that are protected are what they were, and a slot that was free has left one
pub record Keeps (protected : List ℕ) (old new : Heap) : Type 0 where
  pub same : (x : ℕ) → is_among protected x ≡ true → SameAt x old.table new.table
  pub slot : has_none old.free_slots ≡ false → has_none new.free_slots ≡ false

-- nothing has changed
pub keeps-none : (protected : List ℕ) (heap : Heap) → Keeps protected heap heap
keeps-none protected heap = record { same = λ x h. record { live = refl; lent = refl }; slot = λ h. h }

-- one change after another
pub keeps-both : (protected : List ℕ) (a b c : Heap) → Keeps protected a b → Keeps protected b c → Keeps protected a c
keeps-both protected a b c first then = record {
  same = λ x h. record { live = (then.same x h).live ∙ (first.same x h).live; lent = (then.same x h).lent ∙ (first.same x h).lent };
  slot = λ h. then.slot (first.slot h);
}

apart : (protected : List ℕ) (x h : ℕ) → is_among protected x ≡ true → is_among protected h ≡ false → eqb x h ≡ false
apart protected x h one other = elim (eqb x h) as (λ b. eqb x h ≡ b → b ≡ false) [
  | true ↦ λ same. absurd (cc (sym one ∙ ap (is_among protected) (eqb-true x h same) ∙ other))
  | false ↦ λ same. refl
] refl

-- a handle that isn't protected becomes empty
pub keeps-emptied : (protected : List ℕ) (heap : Heap) (h : ℕ) → is_among protected h ≡ false → Keeps protected heap (with_emptied heap h)
keeps-emptied protected heap h free = record {
  same = λ x among. record { live = (with_live_agrees h EmptyHandle heap.table).others x (apart protected x h among free); lent = refl };
  slot = λ some. some;
}

-- some such handles do
pub keeps-all_emptied : (protected hs : List ℕ) (heap : Heap) → ((h : ℕ) → Contains hs h → is_among protected h ≡ false) → Keeps protected heap (with_all_emptied hs heap)
keeps-all_emptied protected [] heap free = keeps-none protected heap
keeps-all_emptied protected (h ∷ hs) heap free = keeps-both protected heap (with_emptied heap h) (with_all_emptied hs (with_emptied heap h))
    (keeps-emptied protected heap h (free h (Contains-here h hs)))
    (keeps-all_emptied protected hs (with_emptied heap h) (λ x c. free x (Contains-later h hs x c)))

until_candidates : (P : ℕ → Type 0) (enough : ZoneMap → Bool) (hs : List ℕ) (m : ZoneMap) → ((h : ℕ) → Contains hs h → P h) → (h : ℕ) → Contains (purged_until enough hs m) h → P h
until_candidates P enough [] m each h c = each h c
until_candidates P enough (x ∷ hs) m each h c =
    by_test (enough m) (λ d. until_candidates P enough hs (released x m) (λ y e. each y (Contains-later x hs y e)) h d) c
  where
    by_test : (b : Bool) → (Contains (purged_until enough hs (released x m)) h → P h) → Contains (cond b [] (x ∷ purged_until enough hs (released x m))) h → P h
    by_test true later c = absurd (Contains-none h c)
    by_test false later c = elim (Contains-cons_cases x (purged_until enough hs (released x m)) h c) [
      | inl same ↦ each h (subst (λ y. Contains (x ∷ hs) y) same (Contains-here x hs))
      | inr rest ↦ later rest
    ]

-- what may be purged isn't protected
pub candidate-free : (t : HandleTable) (protected : List ℕ) (m : ZoneMap) (h : ℕ) → Contains (candidates_in t protected m) h → is_among protected h ≡ false
candidate-free t protected m h c =
    let passes = All-contains (λ g. (is_purgeable t g && not (is_among protected g)) ≡ true) (candidates_in t protected m) h
    (filter_passes (λ g. is_purgeable t g && not (is_among protected g)) (filter_map (λ (e : Entry). handle_of e.kind) m)) c in
    not-true (is_among protected h) (and_parts (is_purgeable t h) (not (is_among protected h)) passes).1

-- handles are purged for a request
pub keeps-purged : (s : Shape) (protected : List ℕ) (r : Request) (heap : Heap) → Keeps protected heap (purged s protected r heap)
keeps-purged s protected r heap =
    let hs = candidates heap.table protected r heap.map in
    keeps-all_emptied protected (purged_until (fits s heap.table r) hs heap.map) heap
    (until_candidates (λ h. is_among protected h ≡ false) (fits s heap.table r) hs heap.map (candidate-free heap.table protected (blocks_to_purge heap.table r heap.map)))

-- a heap is prepared
pub keeps-prepared : (s : Shape) (protected : List ℕ) (r : Request) (heap : Heap) → Keeps protected heap (prepared s protected r heap)
keeps-prepared s protected r heap = elim (fits s heap.table r heap.map) as (λ b. Keeps protected heap (cond b heap (purged s protected r (grown s heap)))) [
  | true ↦ keeps-none protected heap
  | false ↦ let after = keeps-purged s protected r (grown s heap) in record { same = after.same; slot = after.slot }
]

-- a block is released whose owner isn't protected
pub keeps-released : (protected : List ℕ) (heap : Heap) (call : ReleasingCall) → is_among protected (operand_of call) ≡ false → Keeps protected heap (heap_released call heap)
keeps-released protected heap (DisposesHandle h) free = record { same = λ x among. record { live = (without_agrees h heap.table).others x (apart protected x h among free); lent = refl }; slot = λ some. refl }
keeps-released protected heap (DisposesPtr p) free = record { same = λ x among. record { live = (without_agrees p heap.table).others x (apart protected x p among free); lent = refl }; slot = λ some. some }
keeps-released protected heap (Empties h) free = keeps-emptied protected heap h free

keeps-unless : (protected : List ℕ) (heap new : Heap) (code : Option OsErr) → Keeps protected heap new → Keeps protected heap (heap_unless code new heap)
keeps-unless protected heap new None keeps = keeps
keeps-unless protected heap new (Some code) keeps = keeps-none protected heap

-- a call of an answer is carried out
pub keeps-carried_once : (s : Shape) (protected : List ℕ) (call : ReleasingCall) (c : Carried) → Keeps protected c.heap (carried_once s protected call c).heap
keeps-carried_once s protected call c =
    let code = refusal s c.heap (memory_call call) in
    elim (is_among protected (operand_of call)) as (λ b. is_among protected (operand_of call) ≡ b
    → Keeps protected c.heap (cond b c (record { heap = heap_unless code (heap_released call c.heap) c.heap; calls = c.calls ++ (call, code) ∷ [] })).heap) [
      | true ↦ λ _. keeps-none protected c.heap
      | false ↦ λ free. keeps-unless protected c.heap (heap_released call c.heap) code (keeps-released protected c.heap call free)
    ] refl

-- and more of them
pub keeps-carried_from : (s : Shape) (protected : List ℕ) (calls : List ReleasingCall) (c : Carried) → Keeps protected c.heap (carried_from s protected calls c).heap
keeps-carried_from s protected [] c = keeps-none protected c.heap
keeps-carried_from s protected (call ∷ calls) c = keeps-both protected c.heap (carried_once s protected call c).heap (carried_from s protected calls (carried_once s protected call c)).heap
    (keeps-carried_once s protected call c) (keeps-carried_from s protected calls (carried_once s protected call c))

-- all calls of an answer
pub keeps-carried_out : (s : Shape) (protected : List ℕ) (calls : List ReleasingCall) (heap : Heap) → Keeps protected heap (carried_out s protected calls heap).heap
keeps-carried_out s protected calls heap = keeps-carried_from s protected calls (record { heap = heap; calls = [] })

same_block : (x : ℕ) (old new : HandleTable) → SameAt x old new → (has_block new x && not (is_lent new x)) ≡ (has_block old x && not (is_lent old x))
same_block x old new same = ap (λ o. (live_full o || live_pointer o) && not (is_lent new x)) same.live ∙ ap (λ xs. has_block old x && not (list_any (λ y. eqb y x) xs)) same.lent

same_handle : (x : ℕ) (old new : HandleTable) → SameAt x old new → (is_handle new x && (not (is_locked new x) && not (is_lent new x))) ≡ (is_handle old x && (not (is_locked old x) && not (is_lent old x)))
same_handle x old new same = ap (λ o. live_handle o && (not (live_flags o).lock && not (is_lent new x))) same.live
    ∙ ap (λ xs. is_handle old x && (not (is_locked old x) && not (list_any (λ y. eqb y x) xs))) same.lent

-- what a request is for is still there
pub ready-kept : (protected : List ℕ) (r : Request) (old new : Heap) → Keeps protected old new → is_protected protected r ≡ true → is_ready old.table r ≡ true → is_ready new.table r ≡ true
ready-kept protected (Resize x n) old new keeps among ready = same_block x old.table new.table (keeps.same x among) ∙ ready
ready-kept protected (Replace h n) old new keeps among ready = same_handle h old.table new.table (keeps.same h among) ∙ ready
ready-kept protected (NewBlock n) old new keeps among ready = refl
ready-kept protected NewEmpty old new keeps among ready = refl
ready-kept protected (NewPointer n) old new keeps among ready = refl
ready-kept protected NewMaster old new keeps among ready = refl
ready-kept protected (Reserve n) old new keeps among ready = refl

-- and a slot for it
pub slot-kept : (protected : List ℕ) (r : Request) (old new : Heap) → Keeps protected old new → lacks_slot r old ≡ false → lacks_slot r new ≡ false
slot-kept protected r old new keeps = by_need (makes_handle r)
  where
    by_need : (b : Bool) → (b && has_none old.free_slots) ≡ false → (b && has_none new.free_slots) ≡ false
    by_need true h = keeps.slot h
    by_need false h = refl
