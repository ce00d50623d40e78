-- What a number is, it stays until something ends it: a block is lost only where it may be.
use Rattle.std.proofs.Common.{◌≡◌, ℕ, Bool, true, false, cond, length, take, drop, List, [], ◌∷◌, ◌++◌, Option, Some, None, Ok, Contains, refl, ap, sym, subst, ◌∙◌, inl, inr, append-nil, append_assoc, arith, ◌-◌}
use Rattle.std.specs.List.{cons_option}
use Rattle.std.specs.Prelude.{flat_map, ◌||◌, ◌⊎◌, filter_map}
use Rattle.std.proofs.lemmas.Bool.{true≢false, not-true, and_parts}
use Rattle.std.proofs.lemmas.Grind.{flat_map-append}
use Rattle.std.proofs.lemmas.List.Elements.{All-contains, Contains-append_left, Contains-append_right, filter_map-append, filter_passes}
use Rattle.mac_base.specs.declared.block.Flags.{Flags}
use Rattle.mac_base.specs.declared.error.OsErr.{OsErr}
use Rattle.mac_base.specs.declared.error.OsErr.TheVariants.{MemLockedErr, MemPurErr}
use Rattle.mac_base.specs.declared.releasing.ReleasingCall.{ReleasingCall}
use Rattle.mac_base.specs.declared.releasing.ReleasingCall.TheVariants.{DisposesHandle, DisposesPtr, Empties}
use Rattle.mac_base.specs.declared.request.Request.{Request}
use Rattle.mac_base.specs.declared.request.Request.TheVariants.{NewBlock, NewEmpty, NewPointer, NewMaster, Reserve, Resize, Replace}
use Rattle.mac_base.specs.FlagState.{flags_from}
use Rattle.mac_base.specs.HandleTable.{HandleTable, Live, EmptyHandle, FullHandle, Pointer, bytes_of, flags_of, has_block, is_handle, is_purgeable, live_at, live_full, live_handle, live_pointer, no_flags, refilled, resized, with_bytes, with_flags, with_live, zeros}
use Rattle.mac_base.specs.HeadKind.{Shape}
use Rattle.mac_base.specs.Heap.{Heap, grown, table_granted, with_all_emptied, with_emptied}
use Rattle.mac_base.specs.Releasing.{heap_released, operand_of}
use Rattle.mac_base.specs.Request.{blocks_to_purge, candidates_in, is_among}
use Rattle.mac_base.specs.Trial.{Fails, MayPrepare, NumberGiven, Preparation, prepared_by}
use Rattle.mac_base.specs.ZoneMap.{ZoneMap}
use Rattle.mac_base.specs.ZoneState.{written}
use Rattle.mac_base.specs.declared.memory_call.MemoryCall.{MemoryCall}
use Rattle.mac_base.specs.declared.memory_call.MemoryCall.TheVariants as memory_call
use Rattle.mac_base.specs.declared.memory_call.BlockCall.TheVariants as block_call
use Rattle.mac_base.specs.declared.memory_call.FillingCall.TheVariants as filling_call
use Rattle.mac_base.specs.declared.memory_call.RequestingCall.TheVariants as requesting_call
use Rattle.mac_base.specs.declared.memory_call.ZoneCall.TheVariants as zone_call
use Rattle.mac_base.specs.Effect.{request_of, table_copied}
use Rattle.mac_base.specs.GrowZone.{Ask, Carried, carried_out, heap_unless, memory_call as as_call, most_answers}
use Rattle.mac_base.specs.MemoryStep.{EndsRequest, MemoryStep, QuietStep, StepAsking, StepUnless}
use Rattle.mac_base.specs.Outcomes.{Outcome}
use Rattle.mac_base.specs.declared.reply.Results.{Results}
use Rattle.mac_base.specs.declared.reply.Results.TheVariants.{Nothing}
use Rattle.mac_base.specs.RequestRun.{RequestRun}
use Rattle.mac_base.specs.Tests.{Test, IsHandle, IsSize, IsState, KeepsLent, NotEmpty, NotLent, NotLocked, first_refusal, protected_by, refusal}
use Rattle.zone_laws.proofs.SlotPlaces.{Contains-here, Contains-later, Contains-none}
use Rattle.zone_laws.proofs.Tables.{by_number, eqb_same, live_at-with_live_same, with_live_agrees}
use Rattle.zone_laws.proofs.Refusals.{passed-IsHandle, test_1}
use Rattle.mac_base.specs.Released.{released_by, released_itself}
use Rattle.zone_laws.specs.Course.{Asked, Begins, CameShort, GaveUp, MayLose, PurgesFor, Tried, calls_in}
use Rattle.zone_laws.proofs.Fewer.{Fewer, block_live, fewer-begun, fewer-prepared, fewer-then, fewer-tried, released-agrees}
use Rattle.zone_laws.proofs.RunTables.{table-grown}
use Rattle.zone_laws.proofs.Trials.{LastRequest, Ran, carried-steps, step-last, tried-more}

-- what a number may be, by whether it is a handle, a full one, a pointer; and what ends it: a call of an answer, or a
-- call itself
pub record Trait : Type 0 where
  pub test : Bool → Bool → Bool → Bool
  pub by : ReleasingCall × Option OsErr → Option ℕ
  pub itself : MemoryCall → Outcome → Option ℕ
  pub dead : test false false false ≡ false
  pub fills : test true false false ≡ true → test true true false ≡ true
  pub releases : (s : Shape) (call : ReleasingCall) (heap : Heap) → refusal s heap (as_call call) ≡ None → (let holds = λ (o : Option Live). test (live_handle o) (live_full o) (live_pointer o) ≡ true in
      holds (live_at heap.table (operand_of call)) → holds (live_at (heap_released call heap).table (operand_of call)) ⊎ (by (call, None) ≡ Some (operand_of call)))
  pub alike : (call : ReleasingCall) (results : Results) → itself (as_call call) (Ok results) ≡ by (call, None)

abbrev pub test_of : Trait → Option Live → Bool
test_of k o = k.test (live_handle o) (live_full o) (live_pointer o)

-- what may be purged is purgeable, and not protected
candidate-purgeable : (t : HandleTable) (protected : List ℕ) (m : ZoneMap) (x : ℕ) → Contains (candidates_in t protected m) x → (is_purgeable t x ≡ true) × (is_among protected x ≡ false)
candidate-purgeable t protected m x c = grind (arith, All-contains, and_parts, filter_passes, not-true)

-- what is purgeable was so as long as it had a block
still-purgeable : (protected : List ℕ) (old new : HandleTable) (x : ℕ) → Fewer protected old new → is_purgeable new x ≡ true → is_purgeable old x ≡ true
still-purgeable protected old new x fewer purgeable = grind arith

-- what is passed as a handle is one
handle-first : (s : Shape) (heap : Heap) (h : ℕ) (rest : List Test) → first_refusal s heap (IsHandle h ∷ rest) ≡ None → is_handle heap.table h ≡ true
handle-first s heap h rest passes = (passed-IsHandle s heap h (test_1 s heap (IsHandle h) rest passes)).1

-- the call's request replaces the block of a handle only where that is one and protected
abbrev Replaces : Heap → MemoryCall → Request → Type 0
Replaces old call r = (h n : ℕ) → r ≡ Replace h n → (is_handle old.table h ≡ true) × (is_among (protected_by call) h ≡ true)

module _ (k : Trait) (x : ℕ) where
  abbrev Holds : HandleTable → Type 0
  Holds t = test_of k (live_at t x) ≡ true

  -- it still holds, or this is why not
  abbrev Keeps : HandleTable → Type 0 → Type 0
  Keeps t Why = Holds t ⊎ Why

  -- and then
  and_then : {A B Why : Type 0} → A ⊎ Why → (A → B ⊎ Why) → B ⊎ Why
  and_then (inl here) next = next here
  and_then (inr why) next = inr why

  same : (t u : HandleTable) → u ≡ t → Holds t → Holds u
  same t u is here = subst (λ t. Holds t) (sym is) here

  -- ---- the table

  refills : (bytes : List ℕ) (o : Option Live) → test_of k o ≡ true → test_of k (Some (refilled bytes o)) ≡ true
  refills bytes None h = absurd (true≢false (sym h ∙ k.dead))
  refills bytes (Some EmptyHandle) h = h
  refills bytes (Some (FullHandle flags old)) h = h
  refills bytes (Some (Pointer old)) h = h

  fills : (o : Option Live) (flags : Flags) (bytes : List ℕ) → live_handle o ≡ true → test_of k o ≡ true → test_of k (Some (FullHandle flags bytes)) ≡ true
  fills None flags bytes handle h = absurd (cc handle)
  fills (Some EmptyHandle) flags bytes handle h = k.fills h
  fills (Some (FullHandle f b)) flags bytes handle h = h
  fills (Some (Pointer b)) flags bytes handle h = absurd (cc handle)

  set-or : (g : ℕ) (l : Live) (t : HandleTable) → Holds t → Keeps (with_live g l t) ((g ≡ x) × (test_of k (Some l) ≡ false))
  set-or g l t = by_number (λ y. test_of k (live_at t y) ≡ true → (test_of k (live_at (with_live g l t) y) ≡ true) ⊎ ((g ≡ y) × (test_of k (Some l) ≡ false))) g
      (λ _. elim (test_of k (Some l)) as (λ b. test_of k (Some l) ≡ b → (test_of k (live_at (with_live g l t) g) ≡ true) ⊎ ((g ≡ g) × (b ≡ false))) [ true ↦ λ is. inl (ap (test_of k) (live_at-with_live_same g l t) ∙ is) | false ↦ λ is. inr (refl, refl) ] refl)
      (λ y apart holds. inl (ap (test_of k) ((with_live_agrees g l t).others y apart) ∙ holds)) x

  pub set-keeps : (g : ℕ) (l : Live) (t : HandleTable) → (test_of k (live_at t g) ≡ true → test_of k (Some l) ≡ true) → Holds t → Holds (with_live g l t)
  set-keeps g l t here holds = elim (set-or g l t holds) [ inl kept ↦ kept | inr lost ↦ absurd (true≢false (sym (here (subst (λ y. test_of k (live_at t y) ≡ true) (sym lost.0) holds)) ∙ lost.1)) ]

  pub bytes-keep : (g : ℕ) (bytes : List ℕ) (t : HandleTable) → Holds t → Holds (with_bytes g bytes t)
  bytes-keep g bytes t = set-keeps g (refilled bytes (live_at t g)) t (refills bytes (live_at t g))

  full-keeps : (g : ℕ) (flags : Flags) (bytes : List ℕ) (t : HandleTable) → is_handle t g ≡ true → Holds t → Holds (with_live g (FullHandle flags bytes) t)
  full-keeps g flags bytes t handle = set-keeps g (FullHandle flags bytes) t (fills (live_at t g) flags bytes handle)

  new-keeps : (g : ℕ) (l : Live) (t : HandleTable) → live_at t g ≡ None → Holds t → Holds (with_live g l t)
  new-keeps g l t none = set-keeps g l t (λ holds. absurd (true≢false (sym holds ∙ ap (test_of k) none ∙ k.dead)))

  granted-keeps : (r : Request) (g : ℕ) (t : HandleTable) → NumberGiven r g t → ((h n : ℕ) → r ≡ Replace h n → is_handle t h ≡ true) → Holds t → Holds (table_granted r g t)
  granted-keeps (NewBlock n) g t number is holds = new-keeps g (FullHandle no_flags (zeros n)) t number holds
  granted-keeps NewEmpty g t number is holds = new-keeps g EmptyHandle t number holds
  granted-keeps (NewPointer n) g t number is holds = new-keeps g (Pointer (zeros n)) t number holds
  granted-keeps NewMaster g t number is holds = holds
  granted-keeps (Reserve n) g t number is holds = holds
  granted-keeps (Resize y n) g t number is holds = bytes-keep y (resized n (bytes_of t y)) t holds
  granted-keeps (Replace h n) g t number is holds = full-keeps h no_flags (zeros n) t (is h n refl) holds

  copied-keeps : (call : MemoryCall) (g : ℕ) (entry t : HandleTable) → Holds t → Holds (table_copied call g entry t)
  copied-keeps (memory_call.Filling (filling_call.HandToHand h)) g entry t holds = bytes-keep g (bytes_of entry h) t holds
  copied-keeps (memory_call.Filling (filling_call.PtrToHand p n)) g entry t holds = bytes-keep g (take n (bytes_of entry p)) t holds
  copied-keeps (memory_call.Filling (filling_call.PtrToXHand p h n)) g entry t holds = bytes-keep h (take n (bytes_of entry p)) t holds
  copied-keeps (memory_call.Filling (filling_call.PtrAndHand p h n)) g entry t holds = bytes-keep h (bytes_of entry h ++ take n (bytes_of entry p)) t holds
  copied-keeps (memory_call.Filling (filling_call.NewHandleOf bytes)) g entry t holds = bytes-keep g bytes t holds
  copied-keeps (memory_call.Filling (filling_call.SetHandleTo h bytes)) g entry t holds = bytes-keep h bytes t holds
  copied-keeps (memory_call.Filling (filling_call.Append h bytes)) g entry t holds = bytes-keep h (bytes_of entry h ++ bytes) t holds
  copied-keeps (memory_call.Filling (filling_call.HandAndHand a b)) g entry t holds = bytes-keep b (bytes_of entry b ++ bytes_of entry a) t holds
  copied-keeps call g entry t holds = holds

  purges-keep : (hs : List ℕ) (heap : Heap) → Holds heap.table → Keeps (with_all_emptied hs heap).table (Contains hs x × (test_of k (Some EmptyHandle) ≡ false))
  purges-keep [] heap holds = inl holds
  purges-keep (h ∷ hs) heap holds = elim (set-or h EmptyHandle heap.table holds) [
    | inr here ↦ inr (subst (λ y. Contains (h ∷ hs) y) here.0 (Contains-here h hs), here.1)
    | inl holds ↦ elim (purges-keep hs (with_emptied heap h) holds) [ inl here ↦ inl here | inr there ↦ inr (Contains-later h hs x there.0, there.1) ]
  ]

  -- ---- an answer's calls

  module _ (s : Shape) where
    releases-keep : (call : ReleasingCall) (heap : Heap) → refusal s heap (as_call call) ≡ None → Holds heap.table → Keeps (heap_released call heap).table (k.by (call, None) ≡ Some x)
    releases-keep call heap passes = by_number (λ y. test_of k (live_at heap.table y) ≡ true → (test_of k (live_at (heap_released call heap).table y) ≡ true) ⊎ (k.by (call, None) ≡ Some y)) (operand_of call)
        (k.releases s call heap passes) (λ y apart holds. inl (ap (test_of k) ((released-agrees call heap).others y apart) ∙ holds)) x

    -- these calls ended it
    abbrev Ended : List (ReleasingCall × Option OsErr) → Type 0
    Ended calls = Contains (filter_map k.by calls) x

    unless-keeps : (call : ReleasingCall) (o : Option OsErr) (heap : Heap) → refusal s heap (as_call call) ≡ o → Holds heap.table → Keeps (heap_unless o (heap_released call heap) heap).table (Ended ((call, o) ∷ []))
    unless-keeps call (Some code) heap is holds = inl holds
    unless-keeps call None heap is holds = elim (releases-keep call heap is holds) [ inl here ↦ inl here | inr by ↦ inr (subst (λ xs. Contains xs x) (sym (ap (λ o. cons_option o []) by)) (Contains-here x [])) ]

    carried-keeps : (protected : List ℕ) (calls : List ReleasingCall) (heap : Heap) → Holds heap.table → let last = carried_out s protected calls heap in Keeps last.heap.table (Ended last.calls)
    carried-keeps protected calls heap holds = carried-steps s protected (λ c. Keeps c.heap.table (Ended c.calls)) step calls (record { heap = heap; calls = [] }) (inl holds)
      where
        step : (call : ReleasingCall) (c : Carried) → is_among protected (operand_of call) ≡ false → Keeps c.heap.table (Ended c.calls)
            → Keeps (heap_unless (refusal s c.heap (as_call call)) (heap_released call c.heap) c.heap).table (Ended (c.calls ++ (call, refusal s c.heap (as_call call)) ∷ []))
        step call c other keeps =
            let one : List (ReleasingCall × Option OsErr) = (call, refusal s c.heap (as_call call)) ∷ [] in
            let back = λ (e : Contains (filter_map k.by c.calls ++ filter_map k.by one) x). subst (λ xs. Contains xs x) (sym (filter_map-append k.by c.calls one)) e in
            elim keeps [
              | inr ended ↦ inr (back (Contains-append_left (filter_map k.by c.calls) (filter_map k.by one) x ended))
              | inl holds ↦ elim (unless-keeps call (refusal s c.heap (as_call call)) c.heap refl holds) [ inl here ↦ inl here | inr ended ↦ inr (back (Contains-append_right (filter_map k.by c.calls) (filter_map k.by one) x ended)) ]
            ]

    -- ---- a call that makes a request

    abbrev ended_in : List Ask → List ℕ
    ended_in asks = flat_map (λ (ask : Ask). filter_map k.by ask.carried) asks

    -- it was purged for this reason
    abbrev Purged : HandleTable → List ℕ → Type 0 → Type 0
    Purged t protected Need = (is_purgeable t x ≡ true) × (is_among protected x ≡ false) × (test_of k (Some EmptyHandle) ≡ false) × Need

    module _ (old : Heap) (call : MemoryCall) (asks : List Ask) where
      -- why it ends in the requests of the call
      abbrev Lost : Type 0
      Lost = Contains (ended_in asks) x ⊎ Purged old.table (protected_by call) ((r : Request) × CameShort s old call asks x r)

      asked-keeps : (r : Request) (before : List Ask) (ask : Ask) (later : List Ask) (full after : Heap) → asks ≡ before ++ (ask ∷ later) → Asked s (protected_by call) r full ask after → Holds full.table → Keeps after.table Lost
      asked-keeps r before ask later full after parts asked holds =
          elim (carried-keeps (protected_by call) (calls_in ask.answer) full holds) [
            | inl here ↦ inl (same (carried_out s (protected_by call) (calls_in ask.answer) full).heap.table after.table asked.2.table here)
            | inr ended ↦ inr (inl (subst (λ xs. Contains xs x) (sym (ap (λ asks. ended_in asks) parts ∙ flat_map-append (λ (ask : Ask). filter_map k.by ask.carried) before (ask ∷ later)))
                (Contains-append_right (ended_in before) (ended_in (ask ∷ later)) x (Contains-append_left (filter_map k.by ask.carried) (ended_in later) x (subst (λ calls. Ended calls) (sym asked.1) ended)))))
          ]

      module _ (r : Request) (first : List Ask) (from : Heap) (begins : Begins s old call r first from) where
        -- how a trial after these asks prepares the heap
        prepared-keeps : (done later : List Ask) (at : Heap) (p : Preparation) → asks ≡ (first ++ done) ++ later → Tried s (protected_by call) r from done at → MayPrepare s (protected_by call) r at p → Holds at.table → Keeps (prepared_by s p at).table Lost
        prepared-keeps done later at p parts tried may holds =
            let mid : Heap = cond p.grows (grown s at) at in
            elim (purges-keep p.purges mid (same at.table mid.table (table-grown s p.grows at) holds)) [
              | inl here ↦ inl here
              | inr c ↦ elim may.purges_at_need [
                | inl none ↦ absurd (Contains-none x (subst (λ hs. Contains hs x) none c.0))
                | inr short ↦ (let facts = candidate-purgeable at.table (protected_by call) (blocks_to_purge at.table r at.map) x (may.purges_candidates x c.0) in
                    let fewer = fewer-then (protected_by call) old.table from.table at.table (fewer-begun s old call r first from begins) (fewer-tried s (protected_by call) r from done at tried) in
                    inr (inr (still-purgeable (protected_by call) old.table at.table x fewer facts.0, facts.1, c.1, (r, (first ++ done, later, at, parts, (first, done, from, refl, begins, tried), short, may.purges_candidates x c.0)))))
              ]
            ]

        failed-keeps : (done later : List Ask) (at full : Heap) → asks ≡ (first ++ done) ++ later → Tried s (protected_by call) r from done at → Fails s (protected_by call) r at full → Holds at.table → Keeps full.table Lost
        failed-keeps done later at full parts tried fails holds = subst (λ t. Keeps t Lost) (sym fails.2.table) (prepared-keeps done later at fails.0 parts tried fails.1 holds)

        -- more trials
        tried-keeps : (more done later : List Ask) (at last : Heap) → asks ≡ (first ++ done) ++ (more ++ later) → Tried s (protected_by call) r from done at → Tried s (protected_by call) r at more last → Holds at.table → Keeps last.table Lost
        tried-keeps [] done later at last parts tried then holds = inl (same at.table last.table (ap (λ (heap : Heap). heap.table) then) holds)
        tried-keeps (ask ∷ more) done later at last parts tried then holds =
            let full : Heap = then.0 in
            let after : Heap = then.1 in
            and_then (failed-keeps done (ask ∷ (more ++ later)) at full parts tried then.2 holds) (λ here. and_then (asked-keeps r (first ++ done) ask (more ++ later) full after parts then.3 here)
            (λ here. tried-keeps more (done ++ (ask ∷ [])) later after last (parts ∙ simp append_assoc) (tried-more s (protected_by call) r from done at full ask after tried then.2 then.3 then.4) then.5 here))

        -- and the end of the run
        ran-keeps : (given : Option ℕ) (allowed : ℕ) (rest later : List Ask) (mid : Heap) → asks ≡ first ++ (rest ++ later) → Replaces old call r → Ran s (protected_by call) r allowed from rest given mid → Holds from.table → Keeps mid.table Lost
        ran-keeps (Some g) allowed rest later mid parts replaces ran holds =
            let at : Heap = ran.0 in
            let p : Preparation = ran.2.0 in
            let t = (prepared_by s p at).table in
            let fewer = fewer-then (protected_by call) old.table from.table t (fewer-begun s old call r first from begins)
            (fewer-then (protected_by call) from.table at.table t (fewer-tried s (protected_by call) r from rest at ran.1) (fewer-prepared s (protected_by call) r at p ran.2.1)) in
            and_then (tried-keeps rest [] later from at (parts ∙ simp append_assoc) refl ran.1 holds) (λ here. and_then (prepared-keeps rest later at p (parts ∙ simp append_assoc) ran.1 ran.2.1 here)
            (λ here. inl (same (table_granted r g t) mid.table ran.2.2.table (granted-keeps r g t ran.2.2.number (λ h n is. let handle = replaces h n is in ap live_handle (fewer.protects h handle.1) ∙ handle.0) here))))
        ran-keeps None allowed rest later mid parts replaces ran holds =
            let before : List Ask = ran.0 in
            let last : List Ask = ran.1 in
            let whole : asks ≡ first ++ ((before ++ last) ++ later) = parts ∙ ap (λ rest. first ++ (rest ++ later)) ran.4 in
            and_then (tried-keeps before [] (last ++ later) from ran.2 (whole ∙ simp append_assoc) refl ran.5 holds) (λ here. and_then (failed-keeps before (last ++ later) ran.2 ran.3 (whole ∙ simp append_assoc) ran.5 ran.6 here)
            (λ here. by_last last (whole ∙ simp append_assoc) ran.7 here))
          where
            by_last : (last : List Ask) → asks ≡ (first ++ ran.0) ++ (last ++ later) → GaveUp s (protected_by call) r ran.3 last mid → Holds (ran.3).table → Keeps mid.table Lost
            by_last [] parts gave here = inl (same (ran.3).table mid.table gave.table here)
            by_last (ask ∷ []) parts gave here = asked-keeps r (first ++ ran.0) ask later ran.3 mid parts gave.0 here
            by_last (ask ∷ other ∷ more) parts gave here = absurd gave

      begins-keep : (r : Request) (first rest : List Ask) (from : Heap) → asks ≡ first ++ rest → Begins s old call r first from → Holds old.table → Keeps from.table Lost
      begins-keep r first rest from parts (inl at_entry) holds = inl (same old.table from.table (ap (λ (heap : Heap). heap.table) at_entry.2) holds)
      begins-keep r first rest from parts (inr following) holds =
          let made = following.2 in
          ran-keeps NewMaster [] old (inl (ap (λ b. cond b (Some NewMaster) (request_of old.table call)) following.0, refl, refl)) (Some made.1) (length first) first rest from parts (λ h n is. absurd (cc is)) (made.0, made.2, made.3, omega arith) holds

      ends-keep : (given : Option ℕ) (mid : Heap) (outcome : Outcome) (new : Heap) → EndsRequest call old.table given mid outcome new → Holds mid.table → Holds new.table
      ends-keep (Some g) mid outcome new ends holds = same (table_copied call g old.table mid.table) new.table ends.1 (copied-keeps call g old.table mid.table holds)
      ends-keep None mid outcome new ends holds = same mid.table new.table ends.1.table holds

      last-keeps : (outcome : Outcome) (new : Heap) (last : LastRequest s old call asks outcome new) → Replaces old call last.request → Holds old.table → Keeps new.table Lost
      last-keeps outcome new last replaces holds =
          let parts = last.parts ∙ ap (λ rest. last.first ++ rest) (sym (append-nil last.rest)) in
          and_then (begins-keep last.request last.first last.rest last.from last.parts last.begins holds)
          (λ here. and_then (ran-keeps last.request last.first last.from last.begins last.given (most_answers - length last.first) last.rest [] last.mid parts replaces last.ran here) (λ here. inl (ends-keep last.given last.mid outcome new last.ends here)))

    -- ---- any call

    module _ (old : Heap) where
      -- why it ends
      abbrev pub MayEnd : MemoryCall → List Ask → Outcome → Type 0
      MayEnd call asks outcome = (k.itself call outcome ≡ Some x) ⊎ (Contains (ended_in asks) x ⊎ Purged old.table (protected_by call) (PurgesFor s old call asks x))

      lost-may : (call : MemoryCall) (r : Request) (asks : List Ask) (outcome : Outcome) → request_of old.table call ≡ Some r → Lost old call asks → MayEnd call asks outcome
      lost-may (memory_call.OnZone zone_call.MaxMem) r asks outcome is lost = absurd (cc is)
      lost-may (memory_call.OnZone (zone_call.PurgeMem n)) r asks outcome is lost = absurd (cc is)
      lost-may call r asks outcome is lost = inr lost

      own-replaces : (call : MemoryCall) (r : Request) → refusal s old call ≡ None → (r ≡ NewMaster) ⊎ (request_of old.table call ≡ Some r) → Replaces old call r
      own-replaces call r passes (inl master) h n is = absurd (cc (master, is))
      own-replaces call r passes (inr own) h n is = by_call call passes (own ∙ ap Some is)
        where
          by_call : (call : MemoryCall) → refusal s old call ≡ None → request_of old.table call ≡ Some (Replace h n) → (is_handle old.table h ≡ true) × (is_among (protected_by call) h ≡ true)
          by_call (memory_call.Requesting (requesting_call.ReallocateHandle g m)) passes is =
              let handle = handle-first s old g (NotLent g ∷ NotLocked MemPurErr g ∷ IsSize m ∷ []) passes in
              subst (λ h. (is_handle old.table h ≡ true) × (is_among (g ∷ []) h ≡ true)) (cc is) (handle, ap (λ b. b || false) (eqb_same g))
          by_call (memory_call.Filling (filling_call.HandToHand g)) passes is = absurd (cc is)
          by_call call passes is = absurd (cc is)

      -- ---- calls that make no request
      itself : (call : ReleasingCall) (asks : List Ask) (outcome : Outcome) (new : HandleTable) → refusal s old (as_call call) ≡ None → outcome ≡ Ok Nothing → new ≡ (heap_released call old).table → Holds old.table → Keeps new (MayEnd (as_call call) asks outcome)
      itself call asks outcome new passes ends is holds = elim (releases-keep call old passes holds) [ inl here ↦ inl (same (heap_released call old).table new is here) | inr by ↦ inr (inl (ap (k.itself (as_call call)) ends ∙ k.alike call Nothing ∙ by)) ]

      -- what was purged where there was need
      purged-keeps : (call : MemoryCall) (asks : List Ask) (outcome : Outcome) (hs : List ℕ) (new : HandleTable) → new ≡ (with_all_emptied hs old).table → protected_by call ≡ [] → ((h : ℕ) → Contains hs h → Contains (candidates_in old.table [] old.map) h)
          → (hs ≡ []) ⊎ PurgesFor s old call asks x → Holds old.table → Keeps new (MayEnd call asks outcome)
      purged-keeps call asks outcome hs new is none may need holds = elim (purges-keep hs old holds) [
        | inl here ↦ inl (same (with_all_emptied hs old).table new is here)
        | inr c ↦ (let facts = candidate-purgeable old.table [] old.map x (may x c.0) in
            elim need [ inl gone ↦ absurd (Contains-none x (subst (λ hs. Contains hs x) gone c.0)) | inr why ↦ inr (inr (inr (facts.0, ap (λ xs. is_among xs x) none, c.1, why))) ])
      ]

      -- other flags
      flags-keep : (h : ℕ) (flags : Flags) (rest : List Test) (new : HandleTable) → first_refusal s old (IsHandle h ∷ rest) ≡ None → new ≡ with_flags h flags old.table → Holds old.table → Holds new
      flags-keep h flags rest new passes is holds = same (with_flags h flags old.table) new is (full-keeps h flags (bytes_of old.table h) old.table (handle-first s old h rest passes) holds)

      quiet-keeps : (call : MemoryCall) (asks : List Ask) (outcome : Outcome) (new : Heap) → refusal s old call ≡ None → request_of old.table call ≡ None → QuietStep s old call outcome new → Holds old.table → Keeps new.table (MayEnd call asks outcome)
      quiet-keeps (memory_call.OnBlock (block_call.HLockHi h)) asks outcome new passes none q holds =
          inl (flags-keep h _ (NotEmpty h ∷ NotLocked MemLockedErr h ∷ []) new.table passes (q.2.table ∙ ap (λ t. with_flags h (record (flags_of t h) { lock = true }) t) q.1.table) holds)
      quiet-keeps (memory_call.OnZone zone_call.MaxMem) asks outcome new passes none q holds = purged-keeps (memory_call.OnZone zone_call.MaxMem) asks outcome (candidates_in old.table [] old.map) new.table q.0.table refl (λ h c. c) (inr tt) holds
      quiet-keeps (memory_call.OnZone (zone_call.PurgeMem n)) asks outcome new passes none q holds = purged-keeps (memory_call.OnZone (zone_call.PurgeMem n)) asks outcome q.0 new.table q.3.table refl q.2 q.1 holds
      quiet-keeps (memory_call.OnBlock (block_call.DisposeHandle h)) asks outcome new passes none q holds = itself (DisposesHandle h) asks outcome new.table passes q.1 q.0.table holds
      quiet-keeps (memory_call.OnBlock (block_call.DisposePtr p)) asks outcome new passes none q holds = itself (DisposesPtr p) asks outcome new.table passes q.1 q.0.table holds
      quiet-keeps (memory_call.OnBlock (block_call.EmptyHandle h)) asks outcome new passes none q holds = itself (Empties h) asks outcome new.table passes q.1 q.0.table holds
      quiet-keeps (memory_call.OnBlock (block_call.HLock h)) asks outcome new passes none q holds = inl (flags-keep h _ (NotEmpty h ∷ []) new.table passes q.0.table holds)
      quiet-keeps (memory_call.OnBlock (block_call.HUnlock h)) asks outcome new passes none q holds = inl (flags-keep h _ (NotEmpty h ∷ NotLent h ∷ []) new.table passes q.0.table holds)
      quiet-keeps (memory_call.OnBlock (block_call.HPurge h)) asks outcome new passes none q holds = inl (flags-keep h _ (NotEmpty h ∷ []) new.table passes q.0.table holds)
      quiet-keeps (memory_call.OnBlock (block_call.HNoPurge h)) asks outcome new passes none q holds = inl (flags-keep h _ (NotEmpty h ∷ []) new.table passes q.0.table holds)
      quiet-keeps (memory_call.OnBlock (block_call.HSetRBit h)) asks outcome new passes none q holds = inl (flags-keep h _ (NotEmpty h ∷ []) new.table passes q.0.table holds)
      quiet-keeps (memory_call.OnBlock (block_call.HClrRBit h)) asks outcome new passes none q holds = inl (flags-keep h _ (NotEmpty h ∷ []) new.table passes q.0.table holds)
      quiet-keeps (memory_call.OnBlock (block_call.HSetState h n)) asks outcome new passes none q holds = inl (flags-keep h (flags_from n) (NotEmpty h ∷ IsState n ∷ KeepsLent h n ∷ []) new.table passes q.0.table holds)
      quiet-keeps (memory_call.OnBlock (block_call.Poke y at bytes)) asks outcome new passes none q holds = inl (same _ new.table q.0.table (bytes-keep y (written at bytes (bytes_of old.table y)) old.table holds))
      quiet-keeps (memory_call.OnBlock (block_call.BlockMove y at z to n)) asks outcome new passes none q holds = inl (same _ new.table q.0.table (bytes-keep z (written to (take n (drop at (bytes_of old.table y))) (bytes_of old.table z)) old.table holds))
      quiet-keeps call asks outcome new passes none q holds = inl (same old.table new.table q.0.table holds)

      -- ---- all calls

      asking-keeps : (o : Option Request) (call : MemoryCall) (asks : List Ask) (outcome : Outcome) (new : Heap) → refusal s old call ≡ None → request_of old.table call ≡ o → StepAsking RequestRun o s old call asks outcome new → Holds old.table → Keeps new.table (MayEnd call asks outcome)
      asking-keeps (Some r) call asks outcome new passes is step holds =
          let last = step-last s old call asks outcome new r is step in
          elim (last-keeps old call asks outcome new last (own-replaces call last.request passes last.own) holds) [ inl here ↦ inl here | inr lost ↦ inr (lost-may call r asks outcome is lost) ]
      asking-keeps None call asks outcome new passes is step holds = quiet-keeps call asks outcome new passes is step.1 holds

      unless-keep : (o : Option OsErr) (call : MemoryCall) (asks : List Ask) (outcome : Outcome) (new : Heap) → refusal s old call ≡ o → StepUnless RequestRun o s old call asks outcome new → Holds old.table → Keeps new.table (MayEnd call asks outcome)
      unless-keep (Some code) call asks outcome new is step holds = inl (same old.table new.table step.2.table holds)
      unless-keep None call asks outcome new is step holds = asking-keeps (request_of old.table call) call asks outcome new is refl step holds

-- what a number is ends only where it may
pub step-keeps : (k : Trait) (s : Shape) (old : Heap) (call : MemoryCall) (asks : List Ask) (outcome : Outcome) (new : Heap) (x : ℕ) → MemoryStep s old call asks outcome new → test_of k (live_at old.table x) ≡ true
    → test_of k (live_at new.table x) ≡ false → MayEnd k x s old call asks outcome
step-keeps k s old call asks outcome new x step holds ends = elim (unless-keep k x s old (refusal s old call) call asks outcome new refl step holds) [ inl here ↦ absurd (true≢false (sym here ∙ ends)) | inr why ↦ why ]

-- ---- blocks

pub itself-released : (call : ReleasingCall) (results : Results) → released_itself (as_call call) (Ok results) ≡ released_by (call, None)
itself-released v0 results = grind arith

-- to have a block
abbrev a_block : Trait
a_block = record { test = λ handle full pointer. full || pointer; by = released_by; itself = released_itself; dead = refl; fills = λ h. refl; releases = λ s call heap passes here. inr refl; alike = itself-released }

-- a block is lost only where it may be
pub step-loses : (s : Shape) (old : Heap) (call : MemoryCall) (asks : List Ask) (outcome : Outcome) (new : Heap) (x : ℕ) → MemoryStep s old call asks outcome new → has_block old.table x ≡ true → has_block new.table x ≡ false → MayLose s old call asks outcome x
step-loses s old call asks outcome new x step block lost =
    elim (step-keeps a_block s old call asks outcome new x step block lost) [ inl itself ↦ inl itself | inr other ↦ inr (elim other [ inl released ↦ inl released | inr purged ↦ inr (purged.0, purged.1, purged.3) ]) ]

pub lost_only : (t : HandleTable) (x : ℕ) (Why : Type 0) → (has_block t x ≡ true) ⊎ Why → has_block t x ≡ false → Why
lost_only t x Why keeps lost = elim keeps [ inl here ↦ absurd (true≢false (sym here ∙ lost)) | inr why ↦ why ]

pub released-keeps : (call : ReleasingCall) (heap : Heap) (x : ℕ) → has_block heap.table x ≡ true → (has_block (heap_released call heap).table x ≡ true) ⊎ (operand_of call ≡ x)
released-keeps call heap = by_number (λ y. has_block heap.table y ≡ true → (has_block (heap_released call heap).table y ≡ true) ⊎ (operand_of call ≡ y)) (operand_of call) (λ _. inr refl) (λ y apart block. inl (ap block_live ((released-agrees call heap).others y apart) ∙ block))

pub given-keeps : (g : ℕ) (l : Live) (t : HandleTable) (x : ℕ) → (has_block t g ≡ true → block_live (Some l) ≡ true) → has_block t x ≡ true → has_block (with_live g l t) x ≡ true
given-keeps g l t x here block = set-keeps a_block x g l t here block

pub written-keeps : (g : ℕ) (bytes : List ℕ) (t : HandleTable) (x : ℕ) → has_block t x ≡ true → has_block (with_bytes g bytes t) x ≡ true
written-keeps g bytes t x block = bytes-keep a_block x g bytes t block
