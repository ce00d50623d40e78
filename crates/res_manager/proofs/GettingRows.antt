-- The end of a load, by the call that made the place for the row's bytes and by what was read into it.
use Rattle.std.proofs.Common.{◌≡◌, ℕ, ◌<◌, ◌≤◌, Bool, true, false, List, [], length, map, IfSome, IsSome, Option, Some, None, Result, Ok, Err, refl, ap, sym, ◌∙◌, subst, arith}
use Rattle.std.specs.Prelude.{◌==◌, ◌||◌, ◌&&◌, not, is_some, unwrap_or, if◌then◌else◌}
use Rattle.std.specs.Option.{option_map_or}
use Rattle.std.proofs.lemmas.Bool.Decides.{nat_tests}
use Rattle.std.proofs.lemmas.List.{length-map}
use Rattle.mac_base.specs.declared.memory_call.MemoryCall.{MemoryCall}
use Rattle.mac_base.specs.declared.memory_call.MemoryCall.TheVariants as memory_call
use Rattle.mac_base.specs.declared.memory_call.RequestingCall.TheVariants as requesting_call
use Rattle.res_files.proofs.PlacedRows.{row_changed_there}
use Rattle.mac_base.specs.declared.error.OsErr.{OsErr}
use Rattle.mac_base.specs.declared.error.OsErr.TheVariants.{IoErr}
use Rattle.mac_base.specs.declared.releasing.ReleasingCall.TheVariants.{DisposesHandle}
use Rattle.mac_base.specs.HandleTable.{HandleTable, is_full}
use Rattle.mac_base.specs.Heap.{Heap, with_emptied}
use Rattle.mac_base.specs.Releasing.{heap_released}
use Rattle.mac_base.specs.ZoneState.{ZoneState}
use Rattle.mac_base.specs.declared.resource_call.ResourceCall.{ResourceCall}
use Rattle.mac_base.specs.declared.reply.Results.TheVariants.{Handle}
use Rattle.mac_base.specs.GrowZone.{Ask}
use Rattle.mac_base.specs.Outcomes.{Outcome}
use Rattle.mac_base.specs.declared.resource.ResAttrs.{ResAttrs}
use Rattle.mac_base.specs.declared.resource.Resource.{Resource}
use Rattle.res_table.specs.declared.chain.RowPlace.{RowPlace}
use Rattle.res_table.specs.OpenFiles.{row_at}
use Rattle.res_table.specs.Rows.{with_datum, with_handle}
use Rattle.res_update.specs.Changes.{FileRow, Files, handles_forgotten, row_changed}
use Rattle.res_update.specs.Answered.{AnswersFor, AreHonest, IsAnswered, answered_disks, known_bytes, known_files}
use Rattle.res_update.specs.Device.{Device, DiskRelations, Works as Working, FailsBefore}
use Rattle.res_update.specs.Files.{ResState, ResourceEnd, disk_of, refused_with, with_heap, with_files}
use Rattle.res_update.specs.Loads.{found_end, loads_bytes, placing, loaded, unloaded, loaded_results, read_fails, load_end, placed_end}
use Rattle.mac_base.specs.Released.{disposed_in}
use Rattle.res_update.specs.Steps.{GetsPlace, GetsRow, after_memory, Memory}
use Rattle.fork_disk.specs.declared.store.ForkStore.{Ghosts}
use Rattle.res_files.specs.FilesOn.{FailedAt, FilesOn, HonestAt, fork_of}
use Rattle.res_manager.specs.Loading.{AreAnswered, HasBytes, LoadSteps, LoadsTo, flags_for, handle_placed, loaded_outcome, loaded_with, place_call}
use Rattle.res_update.proofs.Answering.{itself, none, none_honest}
use Rattle.res_manager.proofs.Known.{answered-parts, answers-back, blank-there, known-datum, known-forgotten, known-handle, known-same}
use Rattle.res_manager.proofs.OpenedFiles.{disk-fork}
use Rattle.res_manager.proofs.Forgetting.{row_forgotten}
use Rattle.res_manager.specs.Steps.{state_of}

-- the place that a row needs is made by this call
places : (t : HandleTable) (loads : Bool) (r : FileRow) (own : Option ℕ) (size : ℕ) → own ≡ r.handle → size ≡ length r.resource.datum → IfSome own (λ h. (is_full t h || not loads) ≡ false) → placing t loads r ≡ Some (place_call own size loads)
places t loads r own size same long needs = rw (long, ← same) (by_own own loads needs)
  where
    by_own : (o : Option ℕ) (b : Bool) → IfSome o (λ h. (is_full t h || not b) ≡ false) → placing t b (with_handle o r) ≡ Some (place_call o (length r.resource.datum) b)
    by_own None true needs = refl
    by_own None false needs = refl
    by_own (Some h) true needs = rw needs refl
    by_own (Some h) false needs = rw needs refl

module _ (device : Device) (loads : Bool) (call : ResourceCall) (p : RowPlace) (r : FileRow) (own : Option ℕ) (state : ResState) where
  -- the end where no place was made
  unplaced : (code : OsErr) (outcome : Outcome) → (let failed : Result ℕ OsErr = Err code in failed ≡ handle_placed own outcome) → placed_end device loads call p r outcome state ≡ refused_with code state
  unplaced code (Err other) is = ap (λ c. refused_with c state) (sym (cc is))
  unplaced code (Ok (Handle g)) is = absurd (cc is)
  unplaced code (Ok other) is = absurd (cc is)

  -- the end where it was made under this handle
  placed : (h : ℕ) (outcome : Outcome) → own ≡ r.handle → (let made : Result ℕ OsErr = Ok h in made ≡ handle_placed own outcome) → placed_end device loads call p r outcome state ≡ load_end device loads call p r h state
  placed h (Err other) same is = absurd (cc is)
  placed h (Ok (Handle g)) same is = ap (λ k. load_end device loads call p r k state) (sym (cc is))
  placed h (Ok other) same is = ap (λ k. load_end device loads call p r k state) (ap (λ o. unwrap_or o 0) (sym same) ∙ sym (cc is))

-- no device fails that works
works : (b : Bool) → (b && false) ≡ false
works true = refl
works false = refl

-- what holds of what is there
pub some-holds : {X : Type 0} (P : X → Type 0) (o : Option X) (x : X) → o ≡ Some x → IfSome o P → P x
some-holds P None x is held = absurd (cc is)
some-holds P (Some y) x is held = subst P (cc is) held

-- the first of two, and the second
first : {X : Type 0} (b : Bool) (x y : X) → b ≡ true → (if b then x else y) ≡ x
first b x y is = rw is refl

second : {X : Type 0} (b : Bool) (x y : X) → b ≡ false → (if b then x else y) ≡ y
second b x y is = rw is refl

-- the row at a place with its own handle and its size, where that handle doesn't serve as it is
pub record IsGot (old : ResState) (p : RowPlace) (loads : Bool) (own : Option ℕ) (size : ℕ) (r : FileRow) : Type 0 where
  pub here : row_at p old.files ≡ Some r
  pub same : own ≡ r.handle
  pub long : size ≡ length r.resource.datum
  pub needs : IfSome own (λ h. (is_full old.heap.table h || not loads) ≡ false)

module _ (disks : ℕ → DiskRelations) (old : ResState) (p : RowPlace) (loads : Bool) (own : Option ℕ) (size : ℕ) (r : FileRow) (got : IsGot old p loads own size r)
    (asks : List Ask) (heap : Heap) (outcome : Outcome) (step : Memory old.shape old.heap (place_call own size loads) asks outcome heap) where
  -- the state that the call of the Memory Manager left
  abbrev placed_state : ResState
  placed_state = after_memory asks heap old

  gets_place : (device : Device) (call : ResourceCall) (end : ResourceEnd) → loads_bytes old call ≡ loads → end ≡ placed_end device loads call p r outcome placed_state
      → GetsPlace Memory disks device old call asks end p (row_at p old.files)
  gets_place device call end same_loads is = rw (got.here, same_loads, places old.heap.table loads r own size got.same got.long got.needs, same_loads) (outcome, heap, step, is)

  -- the place isn't made
  refuses : (code : OsErr) → (let failed : Result ℕ OsErr = Err code in failed ≡ handle_placed own outcome) → LoadsTo disks Working old p loads asks (Err code) placed_state
  refuses code is = λ call same_loads. gets_place Working call (refused_with code placed_state) same_loads (sym (unplaced Working loads call p r own placed_state code outcome is))

  module _ (h : ℕ) (made : (let handle : Result ℕ OsErr = Ok h in handle ≡ handle_placed own outcome)) where
    -- the bytes aren't read
    faults : loads ≡ true → 0 < size → LoadsTo disks FailsBefore old p loads asks (Err IoErr) (with_heap (unloaded h r heap) placed_state)
    faults is some =
        let none : (length r.resource.datum == 0) ≡ false = subst (λ n. (n == 0) ≡ false) got.long (grind (arith, nat_tests, some)) in
        let fails : read_fails FailsBefore loads r ≡ true = rw (is, none) refl in
        λ call same_loads.
        let ending : load_end FailsBefore loads call p r h placed_state ≡ refused_with IoErr (with_heap (unloaded h r heap) placed_state) = first _ _ _ fails in
        gets_place FailsBefore call (refused_with IoErr (with_heap (unloaded h r heap) placed_state)) same_loads (sym ending ∙ sym (placed FailsBefore loads call p r own placed_state h outcome got.same made))

    -- the row has its handle, and its bytes where they were to be loaded
    succeeds : LoadsTo disks Working old p loads asks (Ok h) (with_files (row_changed p (with_handle (Some h)) placed_state.files) (if loads then with_heap (loaded h r heap) placed_state else placed_state))
    succeeds =
        let fails : read_fails Working loads r ≡ false = ap (λ b. loads && b) (works (not (length r.resource.datum == 0))) ∙ works loads in
        let last : ResState = with_files (row_changed p (with_handle (Some h)) placed_state.files) (if loads then with_heap (loaded h r heap) placed_state else placed_state) in
        λ call same_loads.
        let ending : load_end Working loads call p r h placed_state ≡ record { outcome = Ok (loaded_results call h); state = last } = second _ _ _ fails in
        gets_place Working call (record { outcome = Ok (loaded_results call h); state = last }) same_loads (sym ending ∙ sym (placed Working loads call p r own placed_state h outcome got.same made))

-- a handle serves as it is
serves_load : (disks : ℕ → DiskRelations) (old : ResState) (p : RowPlace) (loads : Bool) (r : FileRow) (h : ℕ) (asks : List Ask) → asks ≡ [] → row_at p old.files ≡ Some r → r.handle ≡ Some h → (is_full old.heap.table h || not loads) ≡ true
    → LoadsTo disks Working old p loads asks (Ok h) old
serves_load disks old p loads r h asks none here handle serves call same =
    let end : ResourceEnd = record { outcome = loaded_outcome call (Ok h); state = old } in
    let placed : placing old.heap.table (loads_bytes old call) r ≡ None =
    ap (λ (b : Bool). placing old.heap.table b r) same
    ∙ ap (λ (o : Option ℕ). option_map_or (λ k. if is_full old.heap.table k || not loads then None else Some (memory_call.Requesting (requesting_call.ReallocateHandle k (length r.resource.datum)))) o (Some (if loads then memory_call.Requesting (requesting_call.NewHandle (length r.resource.datum)) else (memory_call.Requesting requesting_call.NewEmptyHandle)))) handle
    ∙ ap (λ (b : Bool). if b then None else Some (memory_call.Requesting (requesting_call.ReallocateHandle h (length r.resource.datum)))) serves
    in
    let found : end ≡ found_end call r old = ap (λ (o : Option ℕ). let e : ResourceEnd = record { outcome = Ok (loaded_results call (unwrap_or o 0)); state = old } in e) (sym handle) in
    subst (λ (o : Option FileRow). GetsPlace Memory disks Working old call asks end p o) (sym here) (subst (λ (o : Option MemoryCall). GetsRow Memory disks Working old call asks end p r o) (sym placed) (none, found))

pub served : {S : Type 0} (store : Ghosts S) (old : ZoneState) (on : FilesOn S) (p : RowPlace) (loads : Bool) (r : FileRow) (h : ℕ) (asks : List Ask) → asks ≡ [] → row_at p on.files ≡ Some r → r.handle ≡ Some h → (is_full old.heap.table h || not loads) ≡ true
    → LoadSteps store old on p loads asks (Ok h) old on
served store old on p loads r h asks none here handle serves =
    let honest = HonestAt store.is_honest on.stores in
    record {
      device = Working;
      before = state_of store.fork old on;
      after = state_of store.fork old on;
      was = itself honest (state_of store.fork old on);
      becomes = itself honest (state_of store.fork old on);
      step = serves_load (answered_disks honest store.may_leave) (state_of store.fork old on) p loads r h asks none here handle serves;
      cause = refl;
    }

-- what was read of a row is its own, as the call of the Memory Manager left it
own-forgotten : (hs : List ℕ) (p : RowPlace) (files : Files) (r : FileRow) (bytes : List ℕ) → row_at p files ≡ Some r → IfSome (row_at p (handles_forgotten hs files)) (λ now. bytes ≡ now.resource.datum) → bytes ≡ r.resource.datum
own-forgotten hs p files r bytes is held =
    let kept = row_forgotten hs p files r is in
    some-holds (λ (now : FileRow). bytes ≡ now.resource.datum) (row_at p (handles_forgotten hs files)) kept.0 kept.1 held ∙ ap (λ (resource : Resource (List ℕ)). resource.datum) kept.2

module _ {S : Type 0} (store : Ghosts S) (old : ZoneState) (on : FilesOn S) (p : RowPlace) (loads : Bool) (own : Option ℕ) (size : ℕ) (r : FileRow) (got : IsGot (state_of store.fork old on) p loads own size r)
    (asks : List Ask) (mid : ZoneState) (mid_files : FilesOn S) (forgotten : mid_files ≡ record on { files = handles_forgotten (disposed_in asks) on.files })
    (shape : mid.shape ≡ old.shape) (outcome : Outcome) (step : Memory old.shape old.heap (place_call own size loads) asks outcome mid.heap) where
  -- the row still has its bytes where its place is made
  pub long_then : HasBytes size (row_at p mid_files.files)
  long_then =
      let kept : (now : FileRow) × (row_at p mid_files.files ≡ Some now) × (now.resource ≡ r.resource) = rw forgotten (row_forgotten (disposed_in asks) p on.files r got.here) in
      rw kept.1 (got.long ∙ ap (λ (resource : Resource (List ℕ)). length resource.datum) (sym kept.2))

  -- the row is still there, also where files answer for others
  pub there_then : IsSome (row_at p mid_files.files)
  there_then =
      let kept : (now : FileRow) × (row_at p mid_files.files ≡ Some now) × (now.resource ≡ r.resource) = rw forgotten (row_forgotten (disposed_in asks) p on.files r got.here) in
      rw kept.1 refl

  pub still_there : (honest : ℕ → Type 0) (files : Files) → AnswersFor honest mid_files.files files → IsSome (row_at p files)
  still_there honest files answer = blank-there p files mid_files.files (answer none (none_honest honest)) there_then

  abbrev begun : ResState
  begun = state_of store.fork old on

  made_state : state_of store.fork mid mid_files ≡ after_memory asks mid.heap begun
  made_state = rw (shape, forgotten) refl

  mid_stores : mid_files.stores ≡ on.stores
  mid_stores = ap (λ (f : FilesOn S). f.stores) forgotten

  -- the place isn't made
  pub refused_load : (code : OsErr) → (let failed : Result ℕ OsErr = Err code in failed ≡ handle_placed own outcome) → LoadSteps store old on p loads asks (Err code) mid mid_files
  refused_load code is =
      let honest = HonestAt store.is_honest mid_files.stores in
      record {
        device = Working;
        before = begun;
        after = after_memory asks mid.heap begun;
        was = itself honest begun;
        becomes = subst (λ (s : ResState). IsAnswered honest s (after_memory asks mid.heap begun)) (sym made_state) (itself honest (after_memory asks mid.heap begun));
        step = refuses (answered_disks honest store.may_leave) begun p loads own size r got asks mid.heap outcome step code is;
        cause = ap (map store.failures) mid_stores;
      }

  module _ (h : ℕ) (made : (let handle : Result ℕ OsErr = Ok h in handle ≡ handle_placed own outcome)) (new : ZoneState) (new_files : FilesOn S) (new_shape : new.shape ≡ mid.shape)
      (files : AnswersFor (HonestAt store.is_honest new_files.stores) mid_files.files new_files.files) (forks : (k : ℕ) → HonestAt store.is_honest new_files.stores k → fork_of store.fork k new_files.stores ≡ fork_of store.fork k mid_files.stores)
      (same_loads : new_files.loads ≡ mid_files.loads) (count : length new_files.stores ≡ length mid_files.stores) where
    -- the disk of a file whose device is honest
    same_disk : (k : ℕ) → 1 ≤ k → HonestAt store.is_honest new_files.stores k → disk_of k (state_of store.fork old on) ≡ disk_of k (state_of store.fork new new_files)
    same_disk k low honest = disk-fork store.fork old on k ∙ ap (fork_of store.fork k) (sym mid_stores) ∙ sym (forks k honest) ∙ sym (disk-fork store.fork new new_files k)

    -- the bytes aren't read
    pub failed_load : loads ≡ true → 0 < size → new.heap ≡ (if is_some own then with_emptied mid.heap h else heap_released (DisposesHandle h) mid.heap) → FailedAt store.failures p.file mid_files.stores new_files.stores
        → LoadSteps store old on p loads asks (Err IoErr) new new_files
    failed_load is some heap cause =
        let honest = HonestAt store.is_honest new_files.stores in
        let last : ResState = with_heap (unloaded h r mid.heap) (after_memory asks mid.heap begun) in
        record {
          device = FailsBefore;
          before = begun;
          after = last;
          was = itself honest begun;
          becomes = answered-parts honest (state_of store.fork new new_files) last (sym (new_shape ∙ shape))
              (sym (heap ∙ ap (λ (o : Option ℕ). if is_some o then with_emptied mid.heap h else heap_released (DisposesHandle h) mid.heap) got.same))
              (subst (λ (f : FilesOn S). AnswersFor honest new_files.files f.files) forgotten (answers-back honest mid_files.files new_files.files files))
              (sym (same_loads ∙ ap (λ (f : FilesOn S). f.loads) forgotten))
              (length-map on.stores store.fork ∙ ap (λ (stores : List S). length stores) (sym mid_stores) ∙ sym count ∙ sym (length-map new_files.stores store.fork))
              same_disk;
          step = faults (answered_disks honest store.may_leave) begun p loads own size r got asks mid.heap outcome step h made is some;
          cause = subst (λ (stores : List S). FailedAt store.failures p.file stores new_files.stores) mid_stores cause;
        }

    -- the row has its handle, which is empty
    pub empty_load : loads ≡ false → new.heap ≡ mid.heap → new_files ≡ mid_files → (last_files : FilesOn S) → last_files ≡ record new_files { files = row_changed p (with_handle (Some h)) new_files.files }
        → LoadSteps store old on p loads asks (Ok h) new last_files
    empty_load none heap unread last_files is =
        let honest = HonestAt store.is_honest last_files.stores in
        let placed : ResState = after_memory asks mid.heap begun in
        let last : ResState = with_files (row_changed p (with_handle (Some h)) placed.files) placed in
        let ends : state_of store.fork new last_files ≡ last = rw (is, new_shape, heap, unread, shape, forgotten) refl in
        let chosen : (if loads then with_heap (loaded h r mid.heap) placed else placed) ≡ placed = second loads (with_heap (loaded h r mid.heap) placed) placed none in
        record {
          device = Working;
          before = begun;
          after = last;
          was = itself honest begun;
          becomes = subst (λ (s : ResState). IsAnswered honest s last) (sym ends) (itself honest last);
          step = subst (λ (s : ResState). LoadsTo (answered_disks honest store.may_leave) Working begun p loads asks (Ok h) (with_files (row_changed p (with_handle (Some h)) placed.files) s)) chosen
              (succeeds (answered_disks honest store.may_leave) begun p loads own size r got asks mid.heap outcome step h made);
          cause = ap (λ (f : FilesOn S). map store.failures f.stores) is ∙ ap (λ (f : FilesOn S). map store.failures f.stores) unread ∙ ap (map store.failures) mid_stores;
        }

    -- the row has its handle, with the bytes that were read
    pub given_load : (attributes : ResAttrs) (bytes : List ℕ) → loads ≡ true → attributes ≡ r.resource.attributes → AreAnswered (HonestAt store.is_honest new_files.stores p.file) size (row_at p mid_files.files) bytes
        → new.heap ≡ loaded_with h (flags_for attributes) bytes mid.heap → map store.failures new_files.stores ≡ map store.failures mid_files.stores
        → (last_files : FilesOn S) → last_files ≡ record new_files { files = row_changed p (with_handle (Some h)) new_files.files }
        → LoadSteps store old on p loads asks (Ok h) new last_files
    given_load attributes bytes is same_attributes answered heap worked last_files is_last =
        let honest = HonestAt store.is_honest new_files.stores in
        let shown : FileRow = with_datum bytes r in
        let long : length bytes ≡ length r.resource.datum = answered.long ∙ got.long in
        let mine : honest p.file → bytes ≡ r.resource.datum = λ all. own-forgotten (disposed_in asks) p on.files r bytes got.here
        (subst (λ (f : FilesOn S). IfSome (row_at p f.files) (λ now. bytes ≡ now.resource.datum)) forgotten (answered.own all)) in
        let same_bytes : (known : ℕ → Bool) → AreHonest honest known → known_bytes (known p.file) bytes ≡ known_bytes (known p.file) r.resource.datum =
        λ known are. known-same (known p.file) bytes r.resource.datum long (λ is. mine (are p.file is)) in
        let before : ResState = with_files (row_changed p (with_datum bytes) on.files) begun in
        let placed : ResState = after_memory asks mid.heap before in
        let last : ResState = with_files (row_changed p (with_handle (Some h)) placed.files) (with_heap (loaded h shown mid.heap) placed) in
        let got_now : IsGot before p loads own size shown = record { here = row_changed_there p (with_datum bytes) on.files r got.here; same = got.same; long = sym answered.long; needs = got.needs } in
        let chosen : (if loads then with_heap (loaded h shown mid.heap) placed else placed) ≡ with_heap (loaded h shown mid.heap) placed = first loads (with_heap (loaded h shown mid.heap) placed) placed is in
        let was : IsAnswered honest begun before = answered-parts honest begun before refl refl (λ known are. known-datum known p bytes on.files r got.here (same_bytes known are)) refl refl (λ k low all. refl) in
        let rows : (known : ℕ → Bool) → AreHonest honest known → known_files known placed.files ≡ known_files known new_files.files =
        λ known are. sym (known-forgotten known (disposed_in asks) before.files) ∙ ap (handles_forgotten (disposed_in asks)) (known-datum known p bytes on.files r got.here (same_bytes known are)) ∙ known-forgotten known (disposed_in asks) on.files
        ∙ ap (λ (f : FilesOn S). known_files known f.files) (sym forgotten) ∙ sym (files known are) in
        let becomes : IsAnswered honest (state_of store.fork new (record new_files { files = row_changed p (with_handle (Some h)) new_files.files })) last =
        answered-parts honest (state_of store.fork new (record new_files { files = row_changed p (with_handle (Some h)) new_files.files })) last (sym (new_shape ∙ shape))
        (sym (heap ∙ ap (λ (a : ResAttrs). loaded_with h (flags_for a) bytes mid.heap) same_attributes))
        (λ known are. known-handle known p (Some h) placed.files ∙ ap (row_changed p (with_handle (Some h))) (rows known are) ∙ sym (known-handle known p (Some h) new_files.files))
        (sym (same_loads ∙ ap (λ (f : FilesOn S). f.loads) forgotten))
        (length-map on.stores store.fork ∙ ap (λ (stores : List S). length stores) (sym mid_stores) ∙ sym count ∙ sym (length-map new_files.stores store.fork))
        same_disk in
        subst (λ (f : FilesOn S). LoadSteps store old on p loads asks (Ok h) new f) (sym is_last) (record {
          device = Working;
          before = before;
          after = last;
          was = was;
          becomes = becomes;
          step = subst (λ (s : ResState). LoadsTo (answered_disks honest store.may_leave) Working before p loads asks (Ok h) (with_files (row_changed p (with_handle (Some h)) placed.files) s)) chosen
              (succeeds (answered_disks honest store.may_leave) before p loads own size shown got_now asks mid.heap outcome step h made);
          cause = worked ∙ ap (map store.failures) mid_stores;
        })
