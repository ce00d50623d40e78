-- What a call of the Resource Manager does to the zone, as acts.
use Rattle.std.specs.Prelude.{◌≡◌, ◌⊎◌, ◌==◌, ℕ, Bool, true, false, IsFalse, List, [], ◌∷◌, length, map, Option, Some, None, is_some, unwrap_or, if◌then◌else◌, Ok, Err}
use Rattle.mac_base.specs.declared.error.OsErr.{OsErr}
use Rattle.mac_base.specs.declared.error.OsErr.TheVariants.{EofErr, IoErr, MapReadErr}
use Rattle.mac_base.specs.declared.memory_call.MemoryCall.{MemoryCall}
use Rattle.mac_base.specs.declared.memory_call.MemoryCall.TheVariants.{OnBlock}
use Rattle.mac_base.specs.declared.memory_call.BlockCall.TheVariants.{DisposeHandle, HClrRBit, HSetRBit}
use Rattle.mac_base.specs.declared.releasing.ReleasingCall.{ReleasingCall}
use Rattle.mac_base.specs.declared.releasing.ReleasingCall.TheVariants.{DisposesHandle, Empties}
use Rattle.mac_base.specs.declared.resource_call.ResourceCall.{ResourceCall}
use Rattle.mac_base.specs.declared.resource_call.ResourceCall.TheVariants.{Getting, Changing, Writing, OpenResFile, AddResource}
use Rattle.mac_base.specs.declared.resource_call.ChangingCall.TheVariants.{ReleaseResource, DetachResource, RemoveResource}
use Rattle.mac_base.specs.declared.resource_call.WritingCall.TheVariants.{CloseResFile}
use Rattle.mac_base.specs.GrowZone.{Ask}
use Rattle.mac_base.specs.Outcomes.{Outcome}
use Rattle.res_table.specs.OpenFiles.{is_open, row_at}
use Rattle.res_table.specs.Rows.{is_changed}
use Rattle.res_table.specs.declared.chain.RowPlace.{RowPlace}
use Rattle.res_update.specs.Changes.{FileRow}
use Rattle.res_update.specs.Files.{ResState}
use Rattle.res_update.specs.Loads.{handle_made, loaded_flags, loaded_results, loads_bytes, placing, row_wanted}
use Rattle.res_update.specs.Quiet.{quiet_results}
use Rattle.res_update.specs.Steps.{Updates, work_of}
use Rattle.res_update.specs.Tests.{resource_refusal, rows_named}
use Rattle.res_update.specs.Updates.{Update, handles_of, row_passes}
use Rattle.zone_laws.specs.Act.{Act, Calls, Loads, Unloads}

-- These acts are these calls of the Memory Manager, in order, and none of them asks anything.
abbrev pub AreCalls : List MemoryCall → List Act → Type 0
AreCalls [] acts = acts ≡ []
AreCalls (call ∷ calls) [] = ⊥
AreCalls (call ∷ calls) (act ∷ acts) = (outcome : Outcome) × (act ≡ Calls call [] outcome) × AreCalls calls acts

-- The calls of the Memory Manager that a call of the Resource Manager makes that succeeds and gets no row: for the
-- handle that it lets go of or takes up, or for each handle of the file that it closes, in the order of the rows.
abbrev pub calls_made : ResState → ResourceCall → List MemoryCall
calls_made old (Changing (ReleaseResource h)) = if row_passes is_changed h old.files then [] else OnBlock (DisposeHandle h) ∷ []
calls_made old (Changing (DetachResource h)) = OnBlock (HClrRBit h) ∷ []
calls_made old (Changing (RemoveResource h)) = OnBlock (HClrRBit h) ∷ []
calls_made old (AddResource h kind id name) = OnBlock (HSetRBit h) ∷ []
calls_made old (Writing (CloseResFile named)) = map (λ (h : ℕ). OnBlock (DisposeHandle h)) (handles_of (rows_named named old.files))
calls_made old _ = []

-- The code by which a call may fail that was not refused, and gets no row: that of the device where there is an update
-- to be made, and where a file is opened that isn't open, that of the device or of the fork.
abbrev pub MayFail : ResState → ResourceCall → OsErr → Type 0
MayFail old (Writing call) code = (u : Update) × (work_of old (Writing call) ≡ Updates u) × (code ≡ IoErr)
MayFail old (OpenResFile k) code = IsFalse (is_open k old.files) × ((code ≡ IoErr) ⊎ ((code ≡ EofErr) ⊎ (code ≡ MapReadErr)))
MayFail old _ code = ⊥

-- the acts of such a call: the calls that it makes, where it gives what it is to give, and none if it fails
abbrev pub AreChanges : ResState → ResourceCall → Outcome → List Act → Type 0
AreChanges old call (Ok results) acts = (results ≡ quiet_results old call) × AreCalls (calls_made old call) acts
AreChanges old call (Err code) acts = (acts ≡ []) × MayFail old call code

-- what undoes a load into a handle: the row's own is emptied, and a new one disposed of
abbrev pub undoing : ℕ → FileRow → ReleasingCall
undoing h r = if is_some r.handle then Empties h else DisposesHandle h

-- The acts after the call that makes the place of a row, by whether the row's bytes are loaded and by that call's
-- outcome, and the outcome of the whole: the bytes are loaded into the handle that was made, or the load is undone,
-- where there are bytes to be read.
abbrev pub ArePlaced : Bool → ResourceCall → FileRow → Outcome → Outcome → List Act → Type 0
ArePlaced loads call r (Err code) outcome acts = (acts ≡ []) × (outcome ≡ Err code)
ArePlaced false call r (Ok results) outcome acts = (acts ≡ []) × (outcome ≡ Ok (loaded_results call (handle_made r (Ok results))))
ArePlaced true call r (Ok results) outcome acts = let h = handle_made r (Ok results) in
    ((acts ≡ Loads h (loaded_flags r) r.resource.datum ∷ []) × (outcome ≡ Ok (loaded_results call h)))
    ⊎ ((acts ≡ Unloads (undoing h r) ∷ []) × (outcome ≡ Err IoErr) × IsFalse (length r.resource.datum == 0))

-- The acts of a call that gets a row, by the call that makes its place, if it needs one: that asks all that is asked.
abbrev pub AreGettings : ResState → ResourceCall → FileRow → Option MemoryCall → List Ask → Outcome → List Act → Type 0
AreGettings old call r None asks outcome acts = (acts ≡ []) × (asks ≡ []) × (outcome ≡ Ok (loaded_results call (unwrap_or r.handle 0)))
AreGettings old call r (Some inner) asks outcome acts = (placed : Outcome) × (later : List Act) × (acts ≡ Calls inner asks placed ∷ later)
    × ArePlaced (loads_bytes old call) call r placed outcome later

-- the acts of a call that was not refused
abbrev pub AreActsOfPassed : ResState → ResourceCall → List Ask → Outcome → List Act → Type 0
AreActsOfPassed old (Getting call) asks outcome acts = (p : RowPlace) × (r : FileRow) × (row_wanted old (Getting call) ≡ Some p) × (row_at p old.files ≡ Some r)
    × AreGettings old (Getting call) r (placing old.heap.table (loads_bytes old (Getting call)) r) asks outcome acts
AreActsOfPassed old call asks outcome acts = (asks ≡ []) × AreChanges old call outcome acts

-- the acts of a call by its refusal, if it is refused: then there are none
abbrev pub AreActsUnless : Option OsErr → ResState → ResourceCall → List Ask → Outcome → List Act → Type 0
AreActsUnless (Some code) old call asks outcome acts = (acts ≡ []) × (asks ≡ []) × (outcome ≡ Err code)
AreActsUnless None old call asks outcome acts = AreActsOfPassed old call asks outcome acts

-- These acts are those of a call of the Resource Manager that asks so and ends so: none, or the calls of the Memory
-- Manager that it makes, and the load of the row that it gets, or that load undone.
abbrev pub AreResourceActs : ResState → ResourceCall → List Ask → Outcome → List Act → Type 0
AreResourceActs old call asks outcome acts = AreActsUnless (resource_refusal old call) old call asks outcome acts
