-- Calls of the Resource Manager are runs of acts.
use Rattle.std.proofs.Common.{◌≡◌, ℕ, Bool, true, false, not, cond, length, List, [], ◌∷◌, Option, Some, None, Ok, Err, Result, refl, ap, sym, subst, ◌∙◌, inl, inr}
use Rattle.std.specs.Prelude.{◌||◌, ◌&&◌, ◌==◌, ◌⊎◌, IsFalse, find, is_some, map, option_and_then, option_map, unwrap_or}
use Rattle.std.specs.Option.{option_map_or, option_or}
use Rattle.mac_base.specs.declared.error.OsErr.{OsErr}
use Rattle.std.specs.List.{cons_option, list_any}
use Rattle.mac_base.specs.Loans.{LoansAreFixed}
use Rattle.mac_base.specs.declared.error.OsErr.TheVariants.{EofErr, IoErr, MapReadErr, MemPurErr, ParamErr, ResFNotFound, ResNotFound}
use Rattle.zone_laws.proofs.LentSteps.{block-here, step_keeps_lent}
use Rattle.zone_laws.proofs.Refusals.{passed-NotLent, test_2}
use Rattle.zone_laws.specs.LastPut.{number_in}
use Rattle.mac_base.specs.declared.releasing.ReleasingCall.TheVariants.{DisposesHandle, Empties}
use Rattle.mac_base.specs.declared.request.Request.{Request}
use Rattle.mac_base.specs.declared.request.Request.TheVariants.{NewBlock, Replace}
use Rattle.mac_base.specs.HandleTable.{FullHandle, HandleTable, is_full, is_lent, live_at, live_bytes, live_full, live_handle, no_flags, zeros}
use Rattle.mac_base.specs.HeadKind.{Shape}
use Rattle.mac_base.specs.Heap.{Heap, table_granted, with_emptied}
use Rattle.mac_base.specs.Releasing.{heap_released}
use Rattle.mac_base.specs.declared.memory_call.MemoryCall.{MemoryCall}
use Rattle.mac_base.specs.declared.memory_call.MemoryCall.TheVariants as memory_call
use Rattle.mac_base.specs.declared.memory_call.BlockCall.TheVariants as block_call
use Rattle.mac_base.specs.declared.memory_call.RequestingCall.TheVariants as requesting_call
use Rattle.mac_base.specs.declared.reply.Results.{Results}
use Rattle.mac_base.specs.declared.reply.Results.TheVariants as results
use Rattle.mac_base.specs.declared.resource_call.ResourceCall.{ResourceCall}
use Rattle.mac_base.specs.declared.resource_call.ResourceCall.TheVariants.{Getting, Changing, Writing, OpenResFile, AddResource}
use Rattle.mac_base.specs.declared.resource_call.GettingCall.{GettingCall}
use Rattle.mac_base.specs.declared.resource_call.GettingCall.TheVariants.{GetResource, Get1Resource, GetIndResource, LoadResource}
use Rattle.mac_base.specs.declared.resource_call.ChangingCall.TheVariants.{ReleaseResource, DetachResource, RemoveResource}
use Rattle.mac_base.specs.declared.resource_call.WritingCall.TheVariants.{WriteResource, UpdateResFile, CloseResFile}
use Rattle.mac_base.specs.Effect.{request_of, table_copied}
use Rattle.mac_base.specs.ExactStep.{exact_step, heap_after, step_asking, step_unless}
use Rattle.mac_base.specs.GrowZone.{Ask}
use Rattle.mac_base.specs.MemoryStep.{MemoryStep, StepUnless}
use Rattle.mac_base.specs.LoanStep.{Loans}
use Rattle.mac_base.specs.Outcomes.{Outcome, given_results}
use Rattle.mac_base.specs.RequestRun.{RequestRun}
use Rattle.mac_base.specs.Tests.{IsHandle, IsSize, NotLent, NotLocked, refusal, unless_passed}
use Rattle.std.proofs.lemmas.List.{length-replicate}
use Rattle.res_table.specs.OpenFiles.{handle_forgotten, is_numbered, is_open, place_here, place_of_handle, place_of_resource, row_at, rows_changed, table_in, table_of, with_rows}
use Rattle.res_table.specs.declared.chain.OpenFile.{OpenFile}
use Rattle.res_table.specs.Rows.{index_of_ith, is_changed, with_handle}
use Rattle.res_table.specs.declared.chain.RowPlace.{RowPlace}
use Rattle.res_update.specs.Changes.{FileRow, FileTable, Files, current_rows, row_changed, rows_in, rows_of}
use Rattle.res_update.specs.Device.{Device, Disk, DiskRelations, ReadsBy, Works as DeviceWorks, FailsBefore, FailsWriting, device_works}
use Rattle.res_update.specs.Files.{ResState, ResourceEnd, file_named, disk_of, refused_with, with_files, with_heap}
use Rattle.res_update.specs.Loads.{handle_made, load_end, loaded, loaded_flags, loaded_results, loads_bytes, placed_end, placing, row_wanted, unloaded}
use Rattle.res_update.specs.Answered.{IsOpening}
use Rattle.res_update.specs.Quiet.{flagged, quiet_end, quiet_results, unflagged}
use Rattle.res_update.specs.Steps.{GetsPlace, GetsRow, ResourceStepBy, StepsUnless, Work, Gets, Updates, Opens, Quiet, Works, after_memory, opened_end, updating, work_of, Memory}
use Rattle.res_update.specs.Tests.{is_id, resource_refusal, rows_named}
use Rattle.res_update.specs.Updates.{Update, disposed, file_update, handles_of, row_passes, row_update, update_end, update_of, updated_if_changed, updated_row, updated_table}
use Rattle.res_files.proofs.PlacedRows.{table_changed}
use Rattle.zone_laws.proofs.Tables.{live_at-with_live_same}
use Rattle.zone_laws.specs.Act.{Act, Calls, Does, Done, AreDone, Loads, Moment, Unloads, moment_after}
use Rattle.zone_laws.proofs.Fewer.{Ended, quiet, refused, served, step-ended, unserved}
use Rattle.toolbox.specs.Acts.{AreActsOfPassed, AreActsUnless, AreCalls, AreGettings, ArePlaced, AreResourceActs}
use Rattle.toolbox.specs.Tools.{act_of}

module _ (loans : Loans) where
  -- the zone with this heap
  abbrev at : Heap → Moment
  at heap = record { heap = heap; loans = loans }

  -- a run of such acts takes one heap to the other, and leaves the loans
  pub record MadeOf (s : Shape) (Are : List Act → Type 0) (old new : Heap) : Type 0 where
    pub run : List Done
    pub is : AreDone s (at old) run
    pub ends : moment_after (at old) run ≡ at new
    pub acts : Are (map act_of run)

  -- ---- no act, and acts one after another

  none-done : (s : Shape) (Are : List Act → Type 0) (old new : Heap) → new ≡ old → Are [] → MadeOf s Are old new
  none-done s Are old new same none = record { run = []; is = tt; ends = ap at (sym same); acts = none }

  one-first : (s : Shape) (Are : List Act → Type 0) (act : Act) (old mid new : Heap) → Does s act (at old) (at mid) → MadeOf s (λ acts. Are (act ∷ acts)) mid new → MadeOf s Are old new
  one-first s Are act old mid new does rest = record { run = record { act = act; left = at mid } ∷ rest.run; is = (does, rest.is); ends = rest.ends; acts = rest.acts }

  one-done : (s : Shape) (Are : List Act → Type 0) (act : Act) (old new : Heap) → Does s act (at old) (at new) → Are (act ∷ []) → MadeOf s Are old new
  one-done s Are act old new does is = one-first s Are act old new new does (none-done s (λ acts. Are (act ∷ acts)) new new refl is)

  -- acts that are so are so, too
  so-done : (s : Shape) (Are Also : List Act → Type 0) (old new : Heap) → ((acts : List Act) → Are acts → Also acts) → MadeOf s Are old new → MadeOf s Also old new
  so-done s Are Also old new also made = record { run = made.run; is = made.is; ends = made.ends; acts = also (map act_of made.run) made.acts }

  -- ---- calls of the Memory Manager that make no request

  quiet-asking : (s : Shape) (heap : Heap) (call : MemoryCall) (o : Option Request) → o ≡ None → let e = step_asking s [] heap call o in e ≡ record { outcome = e.outcome; heap = e.heap; asks = []; left = [] }
  quiet-asking s heap call None is = refl
  quiet-asking s heap call (Some r) is = absurd (cc is)

  quiet-unless : (s : Shape) (heap : Heap) (call : MemoryCall) (o : Option OsErr) → request_of heap.table call ≡ None → let e = step_unless s [] heap call o in e ≡ record { outcome = e.outcome; heap = e.heap; asks = []; left = [] }
  quiet-unless s heap call (Some code) none = refl
  quiet-unless s heap call None none = quiet-asking s heap call (request_of heap.table call) none

  called : (s : Shape) (Are : List Act → Type 0) (heap : Heap) (call : MemoryCall) (new : Heap) → request_of heap.table call ≡ None
      → (let e = exact_step s [] heap call in MadeOf s (λ acts. Are (Calls call [] e.outcome ∷ acts)) e.heap new) → MadeOf s Are heap new
  called s Are heap call new none rest =
      let e = exact_step s [] heap call in
      one-first s Are (Calls call [] e.outcome) heap e.heap new (quiet-unless s heap call (refusal s heap call) none, refl) rest

  disposed-done : (s : Shape) (hs : List ℕ) (heap : Heap) → MadeOf s (AreCalls (map (λ (h : ℕ). memory_call.OnBlock (block_call.DisposeHandle h)) hs)) heap (disposed s hs heap)
  disposed-done s [] heap = none-done s (AreCalls []) heap heap refl refl
  disposed-done s (h ∷ hs) heap =
      let call : MemoryCall = memory_call.OnBlock (block_call.DisposeHandle h) in
      let later : List MemoryCall = map (λ (h : ℕ). memory_call.OnBlock (block_call.DisposeHandle h)) hs in
      let e = exact_step s [] heap call in
      called s (AreCalls (call ∷ later)) heap call (disposed s hs e.heap) refl
      (so-done s (AreCalls later) (λ acts. AreCalls (call ∷ later) (Calls call [] e.outcome ∷ acts)) e.heap (disposed s hs e.heap) (λ acts is. (e.outcome, refl, is)) (disposed-done s hs e.heap))

  once-done : (s : Shape) (call : MemoryCall) (heap : Heap) → request_of heap.table call ≡ None → MadeOf s (AreCalls (call ∷ [])) heap (heap_after s heap (call ∷ []))
  once-done s call heap none =
      let e = exact_step s [] heap call in
      called s (AreCalls (call ∷ [])) heap call e.heap none (none-done s (λ acts. AreCalls (call ∷ []) (Calls call [] e.outcome ∷ acts)) e.heap e.heap refl (e.outcome, refl, refl))

  -- ---- what a served request gives

  record Gave (call : MemoryCall) (r : Request) (entry : HandleTable) (res : Results) (new : HandleTable) : Type 0 where
    pub number : ℕ
    pub before : HandleTable
    pub is : res ≡ given_results call number
    pub table : new ≡ table_copied call number entry (table_granted r number before)

  gave : (s : Shape) (old : Heap) (call : MemoryCall) (r : Request) (asks : List Ask) (res : Results) (new : Heap) → request_of old.table call ≡ Some r → MemoryStep s old call asks (Ok res) new → Gave call r old.table res new.table
  gave s old call r asks res new makes step = by_end (step-ended s old call asks (Ok res) new step)
    where
      by_end : Ended s old call (Ok res) new → Gave call r old.table res new.table
      by_end (refused code is same) = absurd (cc is)
      by_end (unserved q makes_q is fewer) = absurd (cc is)
      by_end (served q x mid makes_q passed granted is copied) =
          let same : q ≡ r = cc (sym makes_q ∙ makes) in
          let given : res ≡ given_results call x = cc is in
          record { number = x; before = granted.before; is = given; table = copied ∙ ap (table_copied call x old.table) (granted.table ∙ ap (λ r. table_granted r x granted.before) same) }
      by_end (quiet none passed q) = absurd (cc (sym none ∙ makes))

  -- the handle has a block of n bytes, which isn't lent
  record HasPlace (t : HandleTable) (h n : ℕ) : Type 0 where
    pub has : live_at t h ≡ Some (FullHandle no_flags (zeros n))
    pub here : is_lent t h ≡ false

  -- the same are lent after a call
  here-still : (s : Shape) (old : Heap) (call : MemoryCall) (asks : List Ask) (outcome : Outcome) (new : Heap) (h : ℕ) → MemoryStep s old call asks outcome new → is_lent old.table h ≡ false → is_lent new.table h ≡ false
  here-still s old call asks outcome new h step here = ap (list_any (λ y. y == h)) (step_keeps_lent s old call asks outcome new step) ∙ here

  new-place : (s : Shape) (old : Heap) (n : ℕ) (r : FileRow) (asks : List Ask) (res : Results) (new : Heap) → LoansAreFixed old → MemoryStep s old (memory_call.Requesting (requesting_call.NewHandle n)) asks (Ok res) new → HasPlace new.table (handle_made r (Ok res)) n
  new-place s old n r asks res new fixed step =
      let g = gave s old (memory_call.Requesting (requesting_call.NewHandle n)) (NewBlock n) asks res new refl step in
      let x = g.number in
      let free = block-here s old (memory_call.Requesting (requesting_call.NewHandle n)) n asks res new fixed refl step in
      let same : results.Handle free.0 ≡ results.Handle x = sym free.1 ∙ g.is in
      let number : free.0 ≡ x = ap (λ r. number_in r) same in
      subst (λ res. HasPlace new.table (handle_made r (Ok res)) n) (sym g.is)
      (record { has = ap (λ t. live_at t x) g.table ∙ live_at-with_live_same x (FullHandle no_flags (zeros n)) g.before; here = here-still s old (memory_call.Requesting (requesting_call.NewHandle n)) asks (Ok res) new x step (ap (is_lent old.table) (sym number) ∙ free.2) })

  passed-of : (s : Shape) (old : Heap) (call : MemoryCall) (asks : List Ask) (res : Results) (new : Heap) (o : Option OsErr) → refusal s old call ≡ o → StepUnless RequestRun o s old call asks (Ok res) new → refusal s old call ≡ None
  passed-of s old call asks res new (Some code) is step = absurd (cc step.1)
  passed-of s old call asks res new None is step = is

  replaced-place : (s : Shape) (old : Heap) (h n : ℕ) (r : FileRow) (asks : List Ask) (res : Results) (new : Heap) → r.handle ≡ Some h → MemoryStep s old (memory_call.Requesting (requesting_call.ReallocateHandle h n)) asks (Ok res) new → HasPlace new.table (handle_made r (Ok res)) n
  replaced-place s old h n r asks res new handle step =
      let g = gave s old (memory_call.Requesting (requesting_call.ReallocateHandle h n)) (Replace h n) asks res new refl step in
      let passed = passed-of s old (memory_call.Requesting (requesting_call.ReallocateHandle h n)) asks res new (refusal s old (memory_call.Requesting (requesting_call.ReallocateHandle h n))) refl step in
      let here = passed-NotLent s old h (test_2 s old (IsHandle h) (NotLent h) (NotLocked MemPurErr h ∷ IsSize n ∷ []) passed) in
      let at_h : HasPlace new.table h n = record { has = ap (λ t. live_at t h) g.table ∙ live_at-with_live_same h (FullHandle no_flags (zeros n)) g.before; here = here-still s old (memory_call.Requesting (requesting_call.ReallocateHandle h n)) asks (Ok res) new h step here } in
      let same : h ≡ handle_made r (Ok results.Nothing) = sym (ap (λ o. unwrap_or o 0) handle) in
      subst (λ res. HasPlace new.table (handle_made r (Ok res)) n) (sym g.is) (subst (λ x. HasPlace new.table x n) same at_h)

  -- ---- a row is gotten

  module _ (s : Shape) (old : ResState) (rc : ResourceCall) (p : RowPlace) (r : FileRow) (wanted : row_wanted old rc ≡ Some p) (stands : row_at p old.files ≡ Some r) (fixed : LoansAreFixed old.heap) where
    -- the place for its bytes is made
    place-made : (before : Heap) → LoansAreFixed before → (o : Option ℕ) (loads : Bool) (inner : MemoryCall) (asks : List Ask) (res : Results) (new : Heap) → r.handle ≡ o → loads ≡ true
        → option_map_or (λ h. cond (is_full before.table h || not loads) None (Some (memory_call.Requesting (requesting_call.ReallocateHandle h (length r.resource.datum))))) o (Some (cond loads (memory_call.Requesting (requesting_call.NewHandle (length r.resource.datum))) (memory_call.Requesting requesting_call.NewEmptyHandle))) ≡ Some inner
        → MemoryStep s before inner asks (Ok res) new → HasPlace new.table (handle_made r (Ok res)) (length r.resource.datum)
    place-made before firm o false inner asks res new handle loads is step = absurd (cc loads)
    place-made before firm None true inner asks res new handle loads is step =
        let same : inner ≡ memory_call.Requesting (requesting_call.NewHandle (length r.resource.datum)) = cc is in
        new-place s before (length r.resource.datum) r asks res new firm (subst (λ inner. MemoryStep s before inner asks (Ok res) new) same step)
    place-made before firm (Some h) true inner asks res new handle loads is step = by_full (is_full before.table h) is
      where
        by_full : (b : Bool) → cond (b || false) None (Some (memory_call.Requesting (requesting_call.ReallocateHandle h (length r.resource.datum)))) ≡ Some inner → HasPlace new.table (handle_made r (Ok res)) (length r.resource.datum)
        by_full true is = absurd (cc is)
        by_full false is =
            let same : inner ≡ memory_call.Requesting (requesting_call.ReallocateHandle h (length r.resource.datum)) = cc is in
            replaced-place s before h (length r.resource.datum) r asks res new handle (subst (λ inner. MemoryStep s before inner asks (Ok res) new) same step)

    some-bytes : (none failed : Bool) → (not none && failed) ≡ true → IsFalse none
    some-bytes true failed is = absurd (cc is)
    some-bytes false failed is = refl

    -- the load after it
    load-done : (device : Device) (loads : Bool) (res : Results) (state : ResState) → (let h = handle_made r (Ok res) in (loads ≡ true → HasPlace state.heap.table h (length r.resource.datum))
        → (let end = load_end device loads rc p r h state in MadeOf s (ArePlaced loads rc r (Ok res) end.outcome) state.heap end.state.heap))
    load-done device false res state place = none-done s (ArePlaced false rc r (Ok res) (Ok (loaded_results rc (handle_made r (Ok res))))) state.heap state.heap refl (refl, refl)
    load-done device true res state place = by (not (length r.resource.datum == 0) && not (device_works device)) refl
      where
        placed : HasPlace state.heap.table (handle_made r (Ok res)) (length r.resource.datum)
        placed = place refl

        has : live_at state.heap.table (handle_made r (Ok res)) ≡ Some (FullHandle no_flags (zeros (length r.resource.datum)))
        has = let at = place refl in at.has

        -- the block is filled
        filled : MadeOf s (ArePlaced true rc r (Ok res) (Ok (loaded_results rc (handle_made r (Ok res))))) state.heap (loaded (handle_made r (Ok res)) r state.heap)
        filled = one-done s (ArePlaced true rc r (Ok res) (Ok (loaded_results rc (handle_made r (Ok res))))) (Loads (handle_made r (Ok res)) (loaded_flags r) r.resource.datum) state.heap (loaded (handle_made r (Ok res)) r state.heap)
            ((ap live_full has, sym (ap (λ o. length (live_bytes o)) has ∙ length-replicate (length r.resource.datum) 0), placed.here), refl, refl) (inl (refl, refl))

        -- or released
        undone : IsFalse (length r.resource.datum == 0) → (b : Bool) → is_some r.handle ≡ b → MadeOf s (ArePlaced true rc r (Ok res) (Err IoErr)) state.heap (unloaded (handle_made r (Ok res)) r state.heap)
        undone some true is = one-done s (ArePlaced true rc r (Ok res) (Err IoErr)) (Unloads (Empties (handle_made r (Ok res)))) state.heap (unloaded (handle_made r (Ok res)) r state.heap)
            (ap live_handle has, placed.here, ap (λ b. cond b (with_emptied state.heap (handle_made r (Ok res))) (heap_released (DisposesHandle (handle_made r (Ok res))) state.heap)) is, refl)
            (inr (ap (λ b. Unloads (cond b (Empties (handle_made r (Ok res))) (DisposesHandle (handle_made r (Ok res)))) ∷ []) (sym is), refl, some))
        undone some false is = one-done s (ArePlaced true rc r (Ok res) (Err IoErr)) (Unloads (DisposesHandle (handle_made r (Ok res)))) state.heap (unloaded (handle_made r (Ok res)) r state.heap)
            (ap live_handle has, placed.here, ap (λ b. cond b (with_emptied state.heap (handle_made r (Ok res))) (heap_released (DisposesHandle (handle_made r (Ok res))) state.heap)) is, refl)
            (inr (ap (λ b. Unloads (cond b (Empties (handle_made r (Ok res))) (DisposesHandle (handle_made r (Ok res)))) ∷ []) (sym is), refl, some))

        by : (b : Bool) → (not (length r.resource.datum == 0) && not (device_works device)) ≡ b → (let end : ResourceEnd = cond b
            (refused_with IoErr (with_heap (unloaded (handle_made r (Ok res)) r state.heap) state))
            (record { outcome = Ok (loaded_results rc (handle_made r (Ok res))); state = with_files (row_changed p (with_handle (Some (handle_made r (Ok res)))) state.files) (with_heap (loaded (handle_made r (Ok res)) r state.heap) state) }) in MadeOf s (ArePlaced true rc r (Ok res) end.outcome) state.heap end.state.heap)
        by true is = undone (some-bytes (length r.resource.datum == 0) (not (device_works device)) is) (is_some r.handle) refl
        by false is = filled

    -- where the place was made
    placed-done : (device : Device) (loads : Bool) (inner : MemoryCall) (asks : List Ask) (outcome : Outcome) (heap : Heap) → placing old.heap.table loads r ≡ Some inner → Memory s old.heap inner asks outcome heap
        → (let end = placed_end device loads rc p r outcome (after_memory asks heap old) in MadeOf s (ArePlaced loads rc r outcome end.outcome) heap end.state.heap)
    placed-done device loads inner asks (Err code) heap is step = none-done s (ArePlaced loads rc r (Err code) (Err code)) heap heap refl (refused-so loads)
      where
        refused-so : (loads : Bool) → ArePlaced loads rc r (Err code) (Err code) []
        refused-so true = (refl, refl)
        refused-so false = (refl, refl)
    placed-done device loads inner asks (Ok res) heap is step =
        load-done device loads res (after_memory asks heap old) (λ loading. place-made old.heap fixed r.handle loads inner asks res heap refl loading is step.0)

    gets-done : (device : Device) (asks : List Ask) (end : ResourceEnd) (disks : ℕ → DiskRelations) (o : Option MemoryCall) → old.shape ≡ s → placing old.heap.table (loads_bytes old rc) r ≡ o → GetsRow Memory disks device old rc asks end p r o
        → MadeOf s (AreGettings old rc r o asks end.outcome) old.heap end.state.heap
    gets-done device asks end disks None shape is gets = none-done s (AreGettings old rc r None asks end.outcome) old.heap end.state.heap (ap (λ (e : ResourceEnd). e.state.heap) gets.1) (refl, gets.0, ap (λ (e : ResourceEnd). e.outcome) gets.1)
    gets-done device asks end disks (Some inner) shape is gets =
        let step : Memory s old.heap inner asks gets.0 gets.1 = subst (λ s. Memory s old.heap inner asks gets.0 gets.1) shape gets.2 in
        let rest = placed-done device (loads_bytes old rc) inner asks gets.0 gets.1 is step in
        let to = placed_end device (loads_bytes old rc) rc p r gets.0 (after_memory asks gets.1 old) in
        subst (λ (e : ResourceEnd). MadeOf s (AreGettings old rc r (Some inner) asks e.outcome) old.heap e.state.heap) (sym gets.3)
        (one-first s (AreGettings old rc r (Some inner) asks to.outcome) (Calls inner asks gets.0) old.heap gets.1 to.state.heap (step.1, refl)
        (so-done s (ArePlaced (loads_bytes old rc) rc r gets.0 to.outcome) (λ acts. AreGettings old rc r (Some inner) asks to.outcome (Calls inner asks gets.0 ∷ acts)) gets.1 to.state.heap (λ acts is. (gets.0, acts, refl, is)) rest))

    -- so the call that gets it does
    got-passed : (rc' : ResourceCall) (asks : List Ask) (outcome : Outcome) (acts : List Act) → row_wanted old rc' ≡ Some p → AreGettings old rc' r (placing old.heap.table (loads_bytes old rc') r) asks outcome acts → AreActsOfPassed old rc' asks outcome acts
    got-passed (Getting call) asks outcome acts wanted is = (p, r, wanted, stands, is)
    got-passed _ asks outcome acts wanted is = absurd (cc wanted)

  -- ---- all work

  no-update : (o : Option Update) (p : RowPlace) → updating o ≡ Gets p → ⊥
  no-update None p is = cc is
  no-update (Some u) p is = cc is

  no-opening : (b : Bool) (k : ℕ) (p : RowPlace) → cond b Quiet (Opens k) ≡ Gets p → ⊥
  no-opening true k p is = cc is
  no-opening false k p is = cc is

  gotten : (o : Option RowPlace) (p : RowPlace) → option_map_or Gets o Quiet ≡ Gets p → o ≡ Some p
  gotten None p is = absurd (cc is)
  gotten (Some q) p is = cc is

  -- getting a row is no update and opens no file, nor does any call but OpenResFile
  getting-no-update : (o : Option RowPlace) (u : Update) → option_map_or Gets o Quiet ≡ Updates u → ⊥
  getting-no-update None u is = cc is
  getting-no-update (Some q) u is = cc is

  opening-no-update : (b : Bool) (k : ℕ) (u : Update) → cond b Quiet (Opens k) ≡ Updates u → ⊥
  opening-no-update true k u is = cc is
  opening-no-update false k u is = cc is

  getting-no-opening : (o : Option RowPlace) (k : ℕ) → option_map_or Gets o Quiet ≡ Opens k → ⊥
  getting-no-opening None k is = cc is
  getting-no-opening (Some q) k is = cc is

  update-no-opening : (o : Option Update) (k : ℕ) → updating o ≡ Opens k → ⊥
  update-no-opening None k is = cc is
  update-no-opening (Some u) k is = cc is

  getting-not-quiet : (o : Option RowPlace) → option_map_or Gets o Quiet ≡ Quiet → o ≡ None
  getting-not-quiet None is = refl
  getting-not-quiet (Some q) is = absurd (cc is)

  the-update : (o : Option Update) (u : Update) → updating o ≡ Updates u → o ≡ Some u
  the-update None u is = absurd (cc is)
  the-update (Some v) u is = cc is

  no-update-made : (o : Option Update) → updating o ≡ Quiet → o ≡ None
  no-update-made None is = refl
  no-update-made (Some u) is = absurd (cc is)

  -- ---- the rows that are gotten: a call that isn't refused has one

  passed-last : (a : OsErr) (b : Bool) → option_or (unless_passed a b) None ≡ None → b ≡ true
  passed-last a true is = refl
  passed-last a false is = absurd (cc is)

  passed-test : (a : OsErr) (b : Bool) (o : Option OsErr) → option_or (unless_passed a b) o ≡ None → (b ≡ true) × (o ≡ None)
  passed-test a true o is = (refl, is)
  passed-test a false o is = absurd (cc is)

  none-some : (o : Option RowPlace) → o ≡ None → is_some o ≡ true → ⊥
  none-some None none some = cc some
  none-some (Some p) none some = cc none

  ith-some : (current : Option ℕ) (found : Option ℕ) → is_some current ≡ true → is_some found ≡ true → (make : ℕ → ℕ → RowPlace) → is_some (option_and_then (λ k. option_map (make k) found) current) ≡ true
  ith-some None found some is make = absurd (cc some)
  ith-some (Some k) None some is make = absurd (cc is)
  ith-some (Some k) (Some at) some is make = refl

  wanted-some : (old : ResState) (call : GettingCall) → resource_refusal old (Getting call) ≡ None → row_wanted old (Getting call) ≡ None → ⊥
  wanted-some old (GetResource kind id) passed none =
      let first = passed-test ResFNotFound (is_some old.files.current) (option_or (unless_passed ParamErr (is_id id)) (option_or (unless_passed ResNotFound (is_some (place_of_resource kind id old.files))) None)) passed in
      let second = passed-test ParamErr (is_id id) (option_or (unless_passed ResNotFound (is_some (place_of_resource kind id old.files))) None) first.1 in
      none-some (place_of_resource kind id old.files) none (passed-last ResNotFound (is_some (place_of_resource kind id old.files)) second.1)
  wanted-some old (Get1Resource kind id) passed none =
      let first = passed-test ResFNotFound (is_some old.files.current) (option_or (unless_passed ParamErr (is_id id)) (option_or (unless_passed ResNotFound (is_some (place_here kind id old.files))) None)) passed in
      let second = passed-test ParamErr (is_id id) (option_or (unless_passed ResNotFound (is_some (place_here kind id old.files))) None) first.1 in
      none-some (place_here kind id old.files) none (passed-last ResNotFound (is_some (place_here kind id old.files)) second.1)
  wanted-some old (GetIndResource kind i) passed none =
      let found : Option ℕ = index_of_ith kind i (current_rows old.files) in
      let first = passed-test ResFNotFound (is_some old.files.current) (option_or (unless_passed ResNotFound (is_some found)) None) passed in
      none-some (row_wanted old (Getting (GetIndResource kind i))) none (ith-some old.files.current found first.0 (passed-last ResNotFound (is_some found) first.1) (λ k at. record { file = k; index = at }))
  wanted-some old (LoadResource h) passed none =
      let first = passed-test ResFNotFound (is_some old.files.current) (option_or (unless_passed ResNotFound (is_some (place_of_handle h old.files))) None) passed in
      none-some (place_of_handle h old.files) none (passed-last ResNotFound (is_some (place_of_handle h old.files)) first.1)

  -- ---- the handles of a file that is closed are those that its rows had

  handles-updated : (t : HandleTable) (rows : List FileRow) → handles_of (map (updated_if_changed t) rows) ≡ handles_of rows
  handles-updated t [] = refl
  handles-updated t (r ∷ rows) =
      ap (λ (o : Option ℕ). cons_option o (handles_of (map (updated_if_changed t) rows))) (same (is_changed r)) ∙ ap (cons_option r.handle) (handles-updated t rows)
    where
      same : (b : Bool) → (let x : FileRow = cond b (updated_row t r) r in x.handle) ≡ r.handle
      same true = refl
      same false = refl

  rows-put : (k : ℕ) (rows : List FileRow) (table : FileTable) (files : Files) → table_of k files ≡ Some table → rows_of k (rows_changed k (λ _. rows) files) ≡ rows
  rows-put k rows table files stands = ap (λ o. option_map_or rows_in (option_map table_in o) []) (table_changed k (λ _. rows) files.files) ∙ by (find (is_numbered k) files.files) stands
    where
      by : (o : Option (OpenFile (List ℕ))) → option_map table_in o ≡ Some table → option_map_or rows_in (option_map table_in (option_map (with_rows (λ _. rows)) o)) [] ≡ rows
      by None is = absurd (cc is)
      by (Some f) is = refl

  abbrev putting_in : ResState → ℕ → FileTable → Update
  putting_in old k table = record { file = k; table = updated_table old.heap.table table }

  handles-closed : (old : ResState) (u : Update) (named : Option ℕ) → file_update old named ≡ Some u → handles_of (rows_of u.file (rows_changed u.file (λ _. u.table.rows) old.files)) ≡ handles_of (rows_named named old.files)
  handles-closed old u named = by_name (file_named named old.files)
    where
      by_table : (k : ℕ) (o : Option FileTable) → table_of k old.files ≡ o → option_map (putting_in old k) o ≡ Some u
          → handles_of (rows_of u.file (rows_changed u.file (λ _. u.table.rows) old.files)) ≡ handles_of (rows_of k old.files)
      by_table k None stands is = absurd (cc is)
      by_table k (Some table) stands is =
          let v : Update = record { file = k; table = updated_table old.heap.table table } in
          let same : v ≡ u = cc is in
          subst (λ (u : Update). handles_of (rows_of u.file (rows_changed u.file (λ _. u.table.rows) old.files)) ≡ handles_of (rows_of k old.files)) same
          (ap handles_of (rows-put k v.table.rows table old.files stands) ∙ handles-updated old.heap.table table.rows ∙ ap (λ o. handles_of (option_map_or rows_in o [])) (sym stands))

      by_name : (o : Option ℕ) → option_and_then (λ k. update_of k (updated_table old.heap.table) old.files) o ≡ Some u
          → handles_of (rows_of u.file (rows_changed u.file (λ _. u.table.rows) old.files)) ≡ handles_of (option_map_or (λ k. rows_of k old.files) o [])
      by_name None is = absurd (cc is)
      by_name (Some k) is = by_table k (table_of k old.files) refl is

  handles-none : (old : ResState) (named : Option ℕ) → file_update old named ≡ None → handles_of (rows_named named old.files) ≡ []
  handles-none old named = by_name (file_named named old.files)
    where
      by_table : (k : ℕ) (o : Option FileTable) → option_map (putting_in old k) o ≡ None → handles_of (option_map_or rows_in o []) ≡ []
      by_table k None is = refl
      by_table k (Some table) is = absurd (cc is)

      by_name : (o : Option ℕ) → option_and_then (λ k. update_of k (updated_table old.heap.table) old.files) o ≡ None → handles_of (option_map_or (λ k. rows_of k old.files) o []) ≡ []
      by_name None is = refl
      by_name (Some k) is = by_table k (table_of k old.files) is

  -- an opening of these disks gives no other codes
  abbrev pub OpensOnly : (ℕ → DiskRelations) → Type 0
  OpensOnly disks = (k : ℕ) (disk : Disk) (read : Result FileTable OsErr) → (disks k).may_read disk read → IsOpening read

  module _ (old : ResState) (rc : ResourceCall) (fixed : LoansAreFixed old.heap) where
    abbrev Made : ResourceCall → ResourceEnd → Type 0
    Made rc' end = MadeOf old.shape (AreActsOfPassed old rc' [] end.outcome) old.heap end.state.heap

    -- an update, by how the device goes
    update-done : (device : Device) (rc' : ResourceCall) (u : Update) → work_of old rc' ≡ Updates u → Made rc' (update_end device rc' u old)
    update-done DeviceWorks (Writing (CloseResFile named)) u is =
        let hs = handles_of (rows_of u.file (rows_changed u.file (λ _. u.table.rows) old.files)) in
        let same : hs ≡ handles_of (rows_named named old.files) = handles-closed old u named (the-update (file_update old named) u is) in
        so-done old.shape (AreCalls (map (λ (h : ℕ). memory_call.OnBlock (block_call.DisposeHandle h)) hs)) (AreActsOfPassed old (Writing (CloseResFile named)) [] (Ok results.Nothing)) old.heap (disposed old.shape hs old.heap)
        (λ acts are. (refl, (refl, subst (λ (hs : List ℕ). AreCalls (map (λ (h : ℕ). memory_call.OnBlock (block_call.DisposeHandle h)) hs) acts) same are))) (disposed-done old.shape hs old.heap)
    update-done DeviceWorks (Writing (WriteResource h)) u is = none-done old.shape (AreActsOfPassed old (Writing (WriteResource h)) [] (Ok results.Nothing)) old.heap old.heap refl (refl, (refl, refl))
    update-done DeviceWorks (Writing (UpdateResFile named)) u is = none-done old.shape (AreActsOfPassed old (Writing (UpdateResFile named)) [] (Ok results.Nothing)) old.heap old.heap refl (refl, (refl, refl))
    update-done FailsBefore (Writing call) u is = none-done old.shape (AreActsOfPassed old (Writing call) [] (Err IoErr)) old.heap old.heap refl (refl, (refl, (u, is, refl)))
    update-done (FailsWriting left) (Writing call) u is = none-done old.shape (AreActsOfPassed old (Writing call) [] (Err IoErr)) old.heap old.heap refl (refl, (refl, (u, is, refl)))
    update-done device (OpenResFile k) u is = absurd (opening-no-update (is_open k old.files) k u is)
    update-done device rc' u is = absurd (getting-no-update (row_wanted old rc') u is)

    -- an opening
    opens-so : (n k : ℕ) (b : Bool) → cond b Quiet (Opens n) ≡ Opens k → k ≡ n
    opens-so n k true is = absurd (cc is)
    opens-so n k false is = cc is

    was-closed : (n k : ℕ) (b : Bool) → cond b Quiet (Opens n) ≡ Opens k → IsFalse b
    was-closed n k true is = absurd (cc is)
    was-closed n k false is = refl

    may-open : (disks : ℕ → DiskRelations) → OpensOnly disks → (device : Device) (k : ℕ) (code : OsErr) → ReadsBy (disks k) device (disk_of k old) (Err code) → (code ≡ IoErr) ⊎ ((code ≡ EofErr) ⊎ (code ≡ MapReadErr))
    may-open disks only DeviceWorks k code reads = inr (only k (disk_of k old) (Err code) reads)
    may-open disks only FailsBefore k code reads = inl (cc reads)
    may-open disks only (FailsWriting left) k code reads = inl (cc reads)

    opened-done : (rc' : ResourceCall) (k : ℕ) (read : Result (FileTable) OsErr) → ((code : OsErr) → read ≡ Err code → (code ≡ IoErr) ⊎ ((code ≡ EofErr) ⊎ (code ≡ MapReadErr))) → work_of old rc' ≡ Opens k → Made rc' (opened_end k old read)
    opened-done (OpenResFile n) k (Ok table) may is = none-done old.shape (AreActsOfPassed old (OpenResFile n) [] (Ok (results.Number k))) old.heap old.heap refl (refl, (ap results.Number (opens-so n k (is_open n old.files) is), refl))
    opened-done (OpenResFile n) k (Err code) may is = none-done old.shape (AreActsOfPassed old (OpenResFile n) [] (Err code)) old.heap old.heap refl (refl, (refl, (was-closed n k (is_open n old.files) is, may code refl)))
    opened-done (Writing (WriteResource h)) k read may is = absurd (update-no-opening (row_update old h) k is)
    opened-done (Writing (UpdateResFile named)) k read may is = absurd (update-no-opening (file_update old named) k is)
    opened-done (Writing (CloseResFile named)) k read may is = absurd (update-no-opening (file_update old named) k is)
    opened-done rc' k read may is = absurd (getting-no-opening (row_wanted old rc') k is)

    -- a call that needs neither room nor a disk
    quiet-done : (rc' : ResourceCall) → work_of old rc' ≡ Quiet → resource_refusal old rc' ≡ None → Made rc' (quiet_end rc' old)
    quiet-done (Getting call) is passed = absurd (wanted-some old call passed (getting-not-quiet (row_wanted old (Getting call)) is))
    quiet-done (Writing (CloseResFile named)) is passed = none-done old.shape (AreActsOfPassed old (Writing (CloseResFile named)) [] (Ok results.Nothing)) old.heap old.heap refl
        (refl, (refl, subst (λ (hs : List ℕ). AreCalls (map (λ (h : ℕ). memory_call.OnBlock (block_call.DisposeHandle h)) hs) []) (sym (handles-none old named (no-update-made (file_update old named) is))) refl))
    quiet-done (Changing (ReleaseResource h)) is passed =
        elim (row_passes is_changed h old.files) as (λ b. (let state : ResState = cond b old (with_heap (disposed old.shape (h ∷ []) old.heap) (with_files (handle_forgotten h old.files) old)) in
        MadeOf old.shape (λ acts. (◌≡◌ {A = List Ask} [] []) × ((results.Nothing ≡ results.Nothing) × AreCalls (cond b [] (memory_call.OnBlock (block_call.DisposeHandle h) ∷ [])) acts)) old.heap state.heap)) [
          | true ↦ none-done old.shape (λ acts. (◌≡◌ {A = List Ask} [] []) × ((results.Nothing ≡ results.Nothing) × AreCalls [] acts)) old.heap old.heap refl (refl, (refl, refl))
          | false ↦ so-done old.shape (AreCalls (memory_call.OnBlock (block_call.DisposeHandle h) ∷ [])) (λ acts. (◌≡◌ {A = List Ask} [] []) × ((results.Nothing ≡ results.Nothing) × AreCalls (memory_call.OnBlock (block_call.DisposeHandle h) ∷ []) acts)) old.heap (disposed old.shape (h ∷ []) old.heap) (λ acts are. (refl, (refl, are))) (disposed-done old.shape (h ∷ []) old.heap)
        ]
    quiet-done (Changing (DetachResource h)) is passed = so-done old.shape (AreCalls (memory_call.OnBlock (block_call.HClrRBit h) ∷ [])) (AreActsOfPassed old (Changing (DetachResource h)) [] (Ok results.Nothing)) old.heap (unflagged old.shape h old.heap) (λ acts are. (refl, (refl, are))) (once-done old.shape (memory_call.OnBlock (block_call.HClrRBit h)) old.heap refl)
    quiet-done (Changing (RemoveResource h)) is passed = so-done old.shape (AreCalls (memory_call.OnBlock (block_call.HClrRBit h) ∷ [])) (AreActsOfPassed old (Changing (RemoveResource h)) [] (Ok results.Nothing)) old.heap (unflagged old.shape h old.heap) (λ acts are. (refl, (refl, are))) (once-done old.shape (memory_call.OnBlock (block_call.HClrRBit h)) old.heap refl)
    quiet-done (AddResource h kind id name) is passed = so-done old.shape (AreCalls (memory_call.OnBlock (block_call.HSetRBit h) ∷ [])) (AreActsOfPassed old (AddResource h kind id name) [] (Ok results.Nothing)) old.heap (flagged old.shape h old.heap) (λ acts are. (refl, (refl, are))) (once-done old.shape (memory_call.OnBlock (block_call.HSetRBit h)) old.heap refl)
    quiet-done rc' is passed = none-done old.shape (AreActsOfPassed old rc' [] (Ok (quiet_results old rc'))) old.heap old.heap refl (refl, (refl, refl))

    -- the row that is gotten is the one that is wanted
    gets-wanted : (rc' : ResourceCall) (p : RowPlace) → work_of old rc' ≡ Gets p → row_wanted old rc' ≡ Some p
    gets-wanted (Writing (WriteResource h)) p is = absurd (no-update (row_update old h) p is)
    gets-wanted (Writing (UpdateResFile named)) p is = absurd (no-update (file_update old named) p is)
    gets-wanted (Writing (CloseResFile named)) p is = absurd (no-update (file_update old named) p is)
    gets-wanted (OpenResFile k) p is = absurd (no-opening (is_open k old.files) k p is)
    gets-wanted rc' p is = gotten (row_wanted old rc') p is

    -- a call that asks nothing and ends so
    ended-so : (asks : List Ask) (end to : ResourceEnd) → asks ≡ [] → end ≡ to → Made rc to → MadeOf old.shape (AreActsOfPassed old rc asks end.outcome) old.heap end.state.heap
    ended-so asks end to none same made =
        subst (λ (e : ResourceEnd). MadeOf old.shape (AreActsOfPassed old rc asks e.outcome) old.heap e.state.heap) (sym same)
        (subst (λ (asks : List Ask). MadeOf old.shape (AreActsOfPassed old rc asks to.outcome) old.heap to.state.heap) (sym none) made)

    works-done : (disks : ℕ → DiskRelations) → OpensOnly disks → (device : Device) (asks : List Ask) (end : ResourceEnd) (w : Work) → resource_refusal old rc ≡ None → work_of old rc ≡ w → Works Memory disks device old rc asks end w
        → MadeOf old.shape (AreActsOfPassed old rc asks end.outcome) old.heap end.state.heap
    works-done disks only device asks end (Gets p) passed is works = by_row (row_at p old.files) refl works
      where
        by_row : (o : Option FileRow) → row_at p old.files ≡ o → GetsPlace Memory disks device old rc asks end p o → MadeOf old.shape (AreActsOfPassed old rc asks end.outcome) old.heap end.state.heap
        by_row None stands works = absurd works
        by_row (Some r) stands works =
            let wanted = gets-wanted rc p is in
            let o = placing old.heap.table (loads_bytes old rc) r in
            so-done old.shape (AreGettings old rc r o asks end.outcome) (AreActsOfPassed old rc asks end.outcome) old.heap end.state.heap (λ acts are. got-passed old.shape old rc p r wanted stands fixed rc asks end.outcome acts wanted are)
            (gets-done old.shape old rc p r wanted stands fixed device asks end disks o refl refl works)
    works-done disks only device asks end (Updates u) passed is works = ended-so asks end (update_end device rc u old) works.0 works.2 (update-done device rc u is)
    works-done disks only device asks end (Opens k) passed is works = ended-so asks end (opened_end k old works.1) works.0 works.3 (opened-done rc k works.1 (λ code same. may-open disks only device k code (subst (λ read. ReadsBy (disks k) device (disk_of k old) read) same works.2)) is)
    works-done disks only device asks end Quiet passed is works = ended-so asks end (quiet_end rc old) works.0 works.1 (quiet-done rc is passed)

    steps-done : (disks : ℕ → DiskRelations) → OpensOnly disks → (device : Device) (asks : List Ask) (end : ResourceEnd) (o : Option OsErr) → resource_refusal old rc ≡ o → StepsUnless Memory disks o device old rc asks end
        → MadeOf old.shape (AreActsUnless o old rc asks end.outcome) old.heap end.state.heap
    steps-done disks only device asks end (Some code) is step = none-done old.shape (AreActsUnless (Some code) old rc asks end.outcome) old.heap end.state.heap (ap (λ (e : ResourceEnd). e.state.heap) step.1) (refl, step.0, ap (λ (e : ResourceEnd). e.outcome) step.1)
    steps-done disks only device asks end None is step = works-done disks only device asks end (work_of old rc) is refl step

  -- what a call of the Resource Manager does to the heap is a run of its acts
  pub made-of-acts : (disks : ℕ → DiskRelations) → OpensOnly disks → (device : Device) (old : ResState) (rc : ResourceCall) (asks : List Ask) (end : ResourceEnd) → LoansAreFixed old.heap → ResourceStepBy Memory disks device old rc asks end
      → MadeOf old.shape (AreResourceActs old rc asks end.outcome) old.heap end.state.heap
  made-of-acts disks only device old rc asks end fixed step = steps-done old rc fixed disks only device asks end (resource_refusal old rc) refl step
