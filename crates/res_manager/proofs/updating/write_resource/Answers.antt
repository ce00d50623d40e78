use Rattle.std.proofs.Common.{◌≡◌, Some, None, Ok, refl, ap}
use Rattle.mac_base.specs.declared.reply.Results.TheVariants.{Nothing}
use Rattle.mac_base.specs.declared.resource_call.ResourceCall.TheVariants.{Writing}
use Rattle.mac_base.specs.declared.resource_call.WritingCall.TheVariants.{WriteResource, UpdateResFile}
use Rattle.res_update.specs.Changes.{FileRow}
use Rattle.res_update.specs.Updates.{Update, update_of}
use Rattle.res_update.specs.Selected.{updated}
use Rattle.res_update.specs.declared.selection.Selection.TheVariants.{RowAt}
use Rattle.res_manager.specs.Steps.{state_of, work_takes_memory}
use Rattle.res_manager.proofs.CalmCalls.{unchanged_passes, unchanged_quiet, unchanged_work}
use Rattle.res_manager.proofs.Keeping.{kept_same}
use Rattle.res_manager.proofs.LeavingForks.{idle_leaves, made_leaves, refused_leaves}
use Rattle.res_manager.proofs.RowUpdates.{row_open}
use Rattle.res_manager.proofs.Stepping.{if_ok, quiet_steps, refused_steps}
use Rattle.res_manager.proofs.UpdatingCalls.{Makes, made_late, made_steps, makes_row, on_err, open_update}
use Rattle.res_manager.proofs.WritingFiles.{writes_as}
use Rattle.res_manager.proofs.updating.write_resource.Goals as goal
use Rattle.res_manager.proofs.updating.write_resource.Goals.{In-Ok-Some}

pub write_file-requires-clause-open : goal.write_file-requires-clause-open
write_file-requires-clause-open g c = let found = rw c.in-Ok-Some.field-0-is at c.in-Ok-Some.ensures.changed in row_open c.in-Ok-Some.place c.args.files.now.files (λ (r : FileRow). r.handle ≡ Some c.args.handle) found.2

-- the update that the call makes
made : (g : _) (c : In-Ok-Some g) → (u : Update) × (update_of c.in-Ok-Some.place.file (updated c.args.memory.now.heap.table (RowAt c.in-Ok-Some.place.index)) c.args.files.now.files ≡ Some u)
    × Makes g.S.ForkStore.fork c.args.memory.now c.args.files.now (Writing (WriteResource c.args.handle)) u
made g c =
    let zone = c.args.memory.now in
    let on = c.args.files.now in
    let found = rw c.in-Ok-Some.field-0-is at c.in-Ok-Some.ensures.changed in
    let o = open_update c.in-Ok-Some.place.file (updated zone.heap.table (RowAt c.in-Ok-Some.place.index)) on.files (row_open c.in-Ok-Some.place on.files (λ (r : FileRow). r.handle ≡ Some c.args.handle) found.2) in
    (o.0, o.1, makes_row g.S.ForkStore.fork zone on c.args.handle c.in-Ok-Some.place o.0 c.in-Ok-Some.ensures.passed found.1 found.0 o.1)

pub returns-in-Ok-Some-clause-step : goal.returns-in-Ok-Some-clause-step
returns-in-Ok-Some-clause-step g c =
    let m = made g (goal.at.returns-in-Ok-Some-clause-step g c).In-Ok-Some in
    let zone = c.args.memory.now in
    let on = c.args.files.now in
    let after = c.write_file.new.files in
    if_ok _ _ c.write_file.result (λ outcome written. made_steps g.S.ForkStore zone on zone after (Writing (WriteResource c.args.handle)) m.0 outcome m.2
    (writes_as g.S.ForkStore zone zone on after m.0 (Writing (UpdateResFile None)) (Writing (WriteResource c.args.handle)) outcome (λ k state. refl) (written m.0 m.1))) (c.write_file.ensures.written)

pub returns-in-Ok-Some-clause-leaves : goal.returns-in-Ok-Some-clause-leaves
returns-in-Ok-Some-clause-leaves g c =
    let m = made g (goal.at.returns-in-Ok-Some-clause-leaves g c).In-Ok-Some in
    let zone = c.args.memory.now in
    made_leaves g.S.ForkStore zone zone c.args.files.now c.write_file.new.files (Writing (WriteResource c.args.handle)) c.in-Ok-Some.place.file (updated zone.heap.table (RowAt c.in-Ok-Some.place.index)) m.0 c.write_file.result m.1 m.2 c.write_file.ensures.same c.write_file.ensures.saves

pub returns-in-Ok-Some-clause-late : goal.returns-in-Ok-Some-clause-late
returns-in-Ok-Some-clause-late g c =
    let m = made g (goal.at.returns-in-Ok-Some-clause-late g c).In-Ok-Some in
    on_err _ _ c.write_file.result (λ fits. made_late g.S.ForkStore.fork c.args.memory.now c.args.files.now (Writing (WriteResource c.args.handle)) m.0 m.2 (fits m.0 m.1)) (c.write_file.ensures.fits)

pub returns-in-Ok-Some-clause-full : goal.returns-in-Ok-Some-clause-full
returns-in-Ok-Some-clause-full g c =
    let m = made g (goal.at.returns-in-Ok-Some-clause-full g c).In-Ok-Some in
    on_err _ _ c.write_file.result (λ fits. ap work_takes_memory (m.2).work) (c.write_file.ensures.fits)

pub returns-in-Ok-None-clause-leaves : goal.returns-in-Ok-None-clause-leaves
returns-in-Ok-None-clause-leaves g c =
    let S = g.S.ForkStore in
    let zone = c.args.memory.now in
    let on = c.args.files.now in
    let unchanged = rw c.in-Ok-None.field-0-is at c.in-Ok-None.ensures.unchanged in
    idle_leaves S zone zone on on (Writing (WriteResource c.args.handle)) _ (kept_same S on.stores on.stores refl) (unchanged_work (state_of S.fork zone on) c.args.handle unchanged)

pub returns-in-Ok-None-clause-step : goal.returns-in-Ok-None-clause-step
returns-in-Ok-None-clause-step g c =
    let zone = c.args.memory.now in
    let on = c.args.files.now in
    let state = state_of g.S.ForkStore.fork zone on in
    let unchanged = rw c.in-Ok-None.field-0-is at c.in-Ok-None.ensures.unchanged in
    quiet_steps g.S.ForkStore zone zone on on (Writing (WriteResource c.args.handle)) (Ok Nothing) (unchanged_passes state c.args.handle unchanged c.in-Ok-None.ensures.passed) (unchanged_quiet state c.args.handle unchanged) refl refl

pub returns-in-Err-clause-step : goal.returns-in-Err-clause-step
returns-in-Err-clause-step g c = refused_steps g.S.ForkStore c.args.memory.now c.args.files.now (Writing (WriteResource c.args.handle)) c.in-Err.code c.in-Err.ensures.passed

pub returns-in-Err-clause-leaves : goal.returns-in-Err-clause-leaves
returns-in-Err-clause-leaves g c = refused_leaves g.S.ForkStore c.args.memory.now c.args.files.now (Writing (WriteResource c.args.handle)) c.in-Err.code
