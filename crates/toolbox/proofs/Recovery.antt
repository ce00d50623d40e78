-- What a start finds after a crash that comes anywhere in a run of calls.
use Rattle.std.proofs.Common.{◌≡◌, ℕ, zero, suc, ◌-◌, ◌≤◌, List, [], ◌∷◌, ◌++◌, set, slice_get, Option, Some, None, Ok, Err, unwrap_or, refl, ap, subst, sym, ◌∙◌, inl, inr, ◌⊎◌, ⊎_elim, arith}
use Rattle.std.specs.Option.{IsSomeAnd}
use Rattle.std.proofs.lemmas.Bool.{false≢true}
use Rattle.res_files.proofs.Stores.{fork_or}
use Rattle.std.specs.Prelude.{IfSome, IsOk}
use Rattle.mac_base.specs.declared.error.OsErr.{OsErr}
use Rattle.mac_base.specs.declared.call.Call.{Call}
use Rattle.mac_base.specs.declared.call.Call.TheVariants.{Memory as MemoryCalls, Loan, Resource, MemError, ResError}
use Rattle.mac_base.specs.declared.resource_call.ResourceCall.{ResourceCall}
use Rattle.mac_base.specs.declared.resource_call.ResourceCall.TheVariants.{Getting, Writing}
use Rattle.mac_base.specs.declared.resource_call.WritingCall.TheVariants.{CloseResFile}
use Rattle.mac_base.specs.GrowZone.{Ask}
use Rattle.mac_base.specs.Outcomes.{Outcome}
use Rattle.fork_bytes.specs.declared.table.Table.{Table}
use Rattle.fork_bytes.specs.Fork.{StandsFor}
use Rattle.fork_bytes.specs.Written.{written}
use Rattle.fork_disk.specs.declared.store.ForkStore.{Ghosts}
use Rattle.fork_disk.specs.Crash.{AlwaysFinds, Finds, at_first, and_then}
use Rattle.res_update.specs.Changes.{saved_table}
use Rattle.res_update.specs.Device.{Device, Disk, DiskRelations, LeaveRelation}
use Rattle.res_update.specs.Device as device
use Rattle.res_update.specs.Files.{ResState, ResourceEnd, disk_of, with_disk, with_files}
use Rattle.res_update.specs.Steps.{Gets, IsSaved, MemoryRelation, Memory as MayStep, Opens, Quiet, ResourceStepBy, StepsUnless, Updates, Work, Works, update_in, work_of}
use Rattle.res_update.specs.Tests.{resource_refusal}
use Rattle.res_update.specs.Updates.{Update, after_update, update_end}
use Rattle.res_update.specs.Answered.{WasAnswered, answered_disks}
use Rattle.res_update.proofs.Answering.{disk_answered, gets_none}
use Rattle.res_files.specs.Crash.{history_of}
use Rattle.res_files.specs.FilesOn.{FilesOn, fork_of}
use Rattle.res_table.specs.OpenFiles.{rows_changed}
use Rattle.res_manager.specs.Crash.{IsSettled, file_settled}
use Rattle.toolbox.specs.Headline.{Stepped, left_by}
use Rattle.toolbox.specs.Recovery.{AlwaysFindsFile, AreGiven, MayFind, SavedIn, Saves, Settles, ToolboxRecovers}
use Rattle.toolbox.specs.Steps.{Gives}
use Rattle.toolbox.specs.ToolState.{IsHonest, ToolState, resource_state}
use Rattle.toolbox.proofs.Headline.{was-honest}

-- ---- what is always found

module _ {Event : Type 0} {may_find : List Event → List ℕ → Type 0} {P : List ℕ → Type 0} {old : List Event} where
  -- so at the last moment
  at-last : {new : List Event} → AlwaysFinds may_find P old new → Finds may_find P new
  at-last (at_first finds) = finds
  at-last (and_then before finds) = finds

  -- from the one moment to the next, and on from there
  goes-on : {Q : List ℕ → Type 0} {mid new : List Event} → AlwaysFinds may_find P old mid → AlwaysFinds may_find Q mid new
      → ((found : List ℕ) → Q found → P found) → AlwaysFinds may_find P old new
  goes-on first (at_first finds) each = first
  goes-on first (and_then before finds) each = and_then (goes-on first before each) (λ found may. each found (finds found may))

-- ---- what an update leaves on the disk

-- the disk that was set is the one that is read, where it stands for a table
set-is-read : (disks : List Disk) (at : ℕ) (disk : Disk) (table : Table) → let read = unwrap_or (slice_get (set disks at disk) at) [] in
    StandsFor read table → read ≡ disk
set-is-read [] at disk table stands = absurd (omega (arith, stands.0.header))
set-is-read (other ∷ disks) zero disk table stands = refl
set-is-read (other ∷ disks) (suc at) disk table stands = set-is-read disks at disk table stands

-- what was written is read, where the device is honest
abbrev IsWritten : (ℕ → Type 0) → Option Update → ResState → Type 0
IsWritten honest update state = IfSome update (λ u. honest u.file → disk_of u.file state ≡ written (saved_table u.table))

module _ (honest : ℕ → Type 0) (Inner : MemoryRelation) (disks : ℕ → DiskRelations) (way : Device) (old : ResState) (rc : ResourceCall) (asks : List Ask) (end : ResourceEnd)
  where
    -- the disks after an update that succeeded
    abbrev with_saved : Update → ResState
    with_saved u = with_disk u.file (written (saved_table u.table)) (with_files (rows_changed u.file (λ _. u.table.rows) old.files) old)

    same-disks : (rc : ResourceCall) (k : ℕ) (state : ResState) → (after_update rc k state).disks ≡ state.disks
    same-disks (Writing (CloseResFile named)) k state = refl
    same-disks rc k state = refl

    -- the table that was saved is written there
    update-written : (way : Device) (u : Update) → let e = update_end way rc u old in
        IsOk e.outcome → IsSaved honest (Some u) e.state → IsWritten honest (Some u) e.state
    update-written device.Works u ok saved = λ true_device.
        let table = saved_table u.table in
        let at = u.file - 1 in
        let P : List Disk → Type 0 = λ ds. StandsFor (unwrap_or (slice_get ds at) []) table → unwrap_or (slice_get ds at) [] ≡ written table in
        subst P (sym (same-disks rc u.file (with_saved u))) (set-is-read old.disks at (written table) table) (saved true_device)
    update-written device.FailsBefore u ok saved = absurd (false≢true ok)
    update-written (device.FailsWriting left) u ok saved = absurd (false≢true ok)

    work-written : (w : Work) → Works Inner disks way old rc asks end w
        → IsOk end.outcome → IsSaved honest (update_in w) end.state → IsWritten honest (update_in w) end.state
    work-written (Updates u) works ok saved =
        let P : ResourceEnd → Type 0 = λ e. IsOk e.outcome → IsSaved honest (Some u) e.state → IsWritten honest (Some u) e.state in
        subst P (sym works.2) (update-written way u) ok saved
    work-written (Gets p) works ok saved = tt
    work-written (Opens k) works ok saved = tt
    work-written Quiet works ok saved = tt

    -- whatever refuses the call, or nothing
    unless-written : (refusal : Option OsErr) → StepsUnless Inner disks refusal way old rc asks end → let update = update_in (work_of old rc) in
        IsOk end.outcome → IsSaved honest update end.state → IsWritten honest update end.state
    unless-written (Some code) step ok saved = absurd (false≢true (subst (λ (e : ResourceEnd). IsOk e.outcome) step.1 ok))
    unless-written None step ok saved = work-written (work_of old rc) step ok saved

-- what holds of an update, if there is one
each-update : {P Q : Update → Type 0} (update : Option Update) → ((u : Update) → P u → Q u) → IfSome update P → IfSome update Q
each-update None more is = tt
each-update (Some u) more is = more u is

-- so it is after a call by what the devices answered
call-written : (honest : ℕ → Type 0) (answered : ℕ → Type 0) (may_leave : LeaveRelation) (way : Device) (old before : ResState) (rc : ResourceCall) (asks : List Ask) (end : ResourceEnd)
    → WasAnswered answered old rc before → ResourceStepBy MayStep (answered_disks answered may_leave) way before rc asks end → let update = update_in (work_of old rc) in
    IsOk end.outcome → IsSaved honest update end.state → IsWritten honest update end.state
call-written honest answered may_leave way old before (Getting call) asks end was step ok saved = subst (λ (o : Option Update). IsWritten honest o end.state) (sym (gets_none old call)) tt
call-written honest answered may_leave way old before rc asks end same step ok saved =
    let from_old = subst (λ (s : ResState). ResourceStepBy MayStep (answered_disks answered may_leave) way s rc asks end) same step in
    unless-written honest MayStep (answered_disks answered may_leave) way old rc asks end (resource_refusal old rc) from_old ok saved

-- ---- each call

module _ {S : Type 0} (store : Ghosts S) (number : ℕ) (low : 1 ≤ number) where
  -- what happened to the file's store
  abbrev past_of : ToolState S → List store.Event
  past_of t = history_of store.history number t.resources.stores

  -- the same stores
  same-finds : (P : List ℕ → Type 0) (old new : ToolState S) → new.resources.stores ≡ old.resources.stores
      → AlwaysFindsFile store number (λ found. MayFind store old number found ⊎ P found) old new
  same-finds P old new same =
      let here : List ℕ → Type 0 = λ found. MayFind store old number found ⊎ P found in
      subst (λ (stores : List S). AlwaysFinds store.may_find here (past_of old) (history_of store.history number stores)) (sym same)
      (at_first (λ found may. inl may))

  abbrev stores-of : FilesOn S → List S
  stores-of on = on.stores

  -- what a start finds, whenever a crash comes in a call
  call-finds : (old : ToolState S) (call : Call) (asks : List Ask) (outcome : Outcome) (new : ToolState S) → Gives store old call asks outcome new
      → IsHonest store new number
      → AlwaysFindsFile store number (λ found. MayFind store old number found ⊎ Saves store old call number found) old new
  call-finds old (MemoryCalls call) asks outcome new g honest = same-finds (Saves store old (MemoryCalls call) number) old new (ap stores-of g.3)
  call-finds old (Loan call) asks outcome new g honest = same-finds (Saves store old (Loan call) number) old new (ap stores-of g.2)
  call-finds old (Resource call) asks outcome new g honest = g.5 number low honest
  call-finds old MemError asks outcome new g honest = same-finds (Saves store old MemError number) old new (ap stores-of g.4)
  call-finds old ResError asks outcome new g honest = same-finds (Saves store old ResError number) old new (ap stores-of g.4)

  -- the disk of a file is the fork of its store
  disk-fork : (t : ToolState S) (k : ℕ) → disk_of k (resource_state store t) ≡ fork_of store.fork k t.resources.stores
  disk-fork t k = fork_or store.fork t.resources.stores (k - 1)

  -- files by number, whose devices are honest
  abbrev Real : ToolState S → ℕ → Type 0
  Real new k = (1 ≤ k) × IsHonest store new k

  -- the file that is settled is found as it was saved, or as it is read
  work-settles : (work : Work) (fork : List ℕ) (new : ToolState S) → store.has_journal → IsHonest store new number
      → IsSettled store (file_settled work) new.resources.stores → IsWritten (Real new) (update_in work) (resource_state store new)
      → IsSomeAnd (update_in work) (λ u. (u.file ≡ number) × (fork ≡ written (saved_table u.table)))
      ⊎ ((work ≡ Opens number) × (fork ≡ fork_of store.fork number new.resources.stores))
      → Finds store.may_find (λ found. found ≡ fork) (past_of new)
  work-settles (Updates u) fork new journal honest settled is (inl saves) = λ found may.
      let stores = new.resources.stores in
      let same = saves.0 in
      let here : IsHonest store new u.file = subst (IsHonest store new) (sym same) honest in
      settled journal here found (subst (λ k. store.may_find (history_of store.history k stores) found) (sym same) may)
      ∙ sym (disk-fork new u.file) ∙ is (subst (λ k. 1 ≤ k) (sym same) low, here) ∙ sym saves.1
  work-settles (Gets p) fork new journal honest settled is (inl saves) = absurd saves
  work-settles (Opens k) fork new journal honest settled is (inl saves) = absurd saves
  work-settles Quiet fork new journal honest settled is (inl saves) = absurd saves
  work-settles work fork new journal honest settled is (inr opens) = λ found may.
      let there = subst (λ (w : Work). IsSettled store (file_settled w) new.resources.stores) opens.0 settled in
      there journal honest found may ∙ sym opens.1

  -- other calls settle no file
  nothing-settled : (fork : List ℕ) (new : ToolState S) → ⊥ ⊎ ((Quiet ≡ Opens number) × (fork ≡ fork_of store.fork number new.resources.stores))
      → Finds store.may_find (λ found. found ≡ fork) (past_of new)
  nothing-settled fork new (inl saves) = absurd saves
  nothing-settled fork new (inr opens) = absurd (subst (λ (w : Work). IfSome (file_settled w) (λ k. ⊥)) opens.0 tt)

  call-settles : (old : ToolState S) (call : Call) (asks : List Ask) (outcome : Outcome) (new : ToolState S) (fork : List ℕ) → store.has_journal
      → Gives store old call asks outcome new → IsHonest store new number
      → Settles store old (record { call = call; asks = asks; outcome = outcome; left = new }) number fork
      → Finds store.may_find (λ found. found ≡ fork) (past_of new)
  call-settles old (Resource rc) asks (Ok results) new fork journal g honest settles =
      let state = resource_state store old in
      let given = g.0 in
      let update = update_in (work_of state rc) in
      let same : (u : Update) → Real new u.file → disk_of u.file given.after ≡ disk_of u.file (resource_state store new) =
      λ u real. disk_answered (IsHonest store new) (resource_state store new) given.after given.becomes u.file real.0 real.1 in
      let saved : IsSaved (Real new) update given.after = each-update update (λ u saved real. subst (λ d. StandsFor d (saved_table u.table)) (sym (same u real)) (saved real.1)) g.4 in
      let is = call-written (Real new) (IsHonest store new) store.may_leave given.device state given.before rc asks (record { outcome = Ok results; state = given.after }) given.was given.step settles.0 saved in
      let here : IsWritten (Real new) update (resource_state store new) = each-update update (λ u written real. sym (same u real) ∙ written real) is in
      work-settles (work_of state rc) fork new journal honest g.6 here settles.1
  call-settles old (Resource rc) asks (Err code) new fork journal g honest settles = absurd (false≢true settles.0)
  call-settles old (MemoryCalls call) asks outcome new fork journal g honest settles = nothing-settled fork new settles.1
  call-settles old (Loan call) asks outcome new fork journal g honest settles = nothing-settled fork new settles.1
  call-settles old MemError asks outcome new fork journal g honest settles = nothing-settled fork new settles.1
  call-settles old ResError asks outcome new fork journal g honest settles = nothing-settled fork new settles.1

-- ---- runs of calls

module _ {S : Type 0} (store : Ghosts S) where
  -- these calls were made, and left this file an honest device
  abbrev Given : ℕ → ToolState S → List (Stepped S) → Type 0
  Given k old steps = AreGiven store old steps × IsHonest store (left_by old steps) k

  -- it was honest before them
  were-honest : (k : ℕ) (old : ToolState S) (steps : List (Stepped S)) → Given k old steps → IsHonest store old k
  were-honest k old [] given = given.1
  were-honest k old (step ∷ later) given =
      let one = given.0 in was-honest store old step.call step.asks step.outcome step.left one.0 k (were-honest k step.left later (one.1, given.1))

  -- the first of some calls, and those after the first
  first-given : (k : ℕ) (old : ToolState S) (part later : List (Stepped S)) → Given k old (part ++ later) → Given k old part
  first-given k old [] later given = (tt, were-honest k old later given)
  first-given k old (step ∷ part) later given =
      let one = given.0 in let rest = first-given k step.left part later (one.1, given.1) in ((one.0, rest.0), rest.1)

  last-given : (k : ℕ) (old : ToolState S) (first rest : List (Stepped S)) → Given k old (first ++ rest) → Given k (left_by old first) rest
  last-given k old [] rest given = given
  last-given k old (step ∷ first) rest given = let one = given.0 in last-given k step.left first rest (one.1, given.1)

  module _ (number : ℕ) (low : 1 ≤ number) where
    run-finds : (old : ToolState S) (steps : List (Stepped S)) → Given number old steps
        → AlwaysFindsFile store number (λ found. MayFind store old number found ⊎ SavedIn store old steps number found) old (left_by old steps)
    run-finds old [] given = at_first (λ found may. inl may)
    run-finds old (step ∷ later) given =
        let are = given.0 in
        let rest : Given number step.left later = (are.1, given.1) in
        let P : List ℕ → Type 0 = λ found. MayFind store old number found ⊎ SavedIn store old (step ∷ later) number found in
        let one = call-finds store number low old step.call step.asks step.outcome step.left are.0 (were-honest number step.left later rest) in
        let first : AlwaysFindsFile store number P old step.left = goes-on (at_first (λ found may. inl may)) one (λ found. ⊎_elim inl (λ saves. inr (inl saves))) in
        goes-on first (run-finds step.left later rest) (λ found. ⊎_elim (λ may. at-last first found may) (λ saved. inr (inr saved)))

    run-settles : (old : ToolState S) (step : Stepped S) (later : List (Stepped S)) (fork : List ℕ) → store.has_journal
        → Given number old (step ∷ later) → Settles store old step number fork
        → AlwaysFindsFile store number (λ found. (found ≡ fork) ⊎ SavedIn store step.left later number found) step.left (left_by step.left later)
    run-settles old step later fork journal given settles =
        let are = given.0 in
        let rest : Given number step.left later = (are.1, given.1) in
        let now = call-settles store number low old step.call step.asks step.outcome step.left fork journal are.0 (were-honest number step.left later rest) settles in
        goes-on (at_first (λ found may. inl (now found may))) (run-finds step.left later rest) (λ found. ⊎_elim (λ may. inl (now found may)) inr)

-- this is promised of crashes in the calls of a toolbox
pub toolbox-recovers : {S : Type 0} (store : Ghosts S) → ToolboxRecovers store
toolbox-recovers {S} store start steps journal are = record {
  any_moment = λ first part later number is low honest.
      run-finds store number low (left_by start first) part (first-given store number (left_by start first) part later (split number honest first (part ++ later) is));
  settled = λ first part later step number fork is low honest settles.
      let old = left_by start first in
      let these = first-given store number old (step ∷ part) later (split number honest first (step ∷ (part ++ later)) is) in
      run-settles store number low old step part fork journal these settles;
}
  where
    split : (number : ℕ) → IsHonest store (left_by start steps) number → (first rest : List (Stepped S)) → steps ≡ first ++ rest → Given store number (left_by start first) rest
    split number honest first rest is = last-given store number start first rest (subst (Given store number start) is (are, honest))
