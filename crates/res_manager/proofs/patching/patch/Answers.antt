use Rattle.std.proofs.Common.{sym}
use Rattle.mac_base.specs.HandleTable.{is_full}
use Rattle.res_update.specs.Patching.{handle_patched}
use Rattle.res_manager.proofs.Crash.{err_anyhow}
use Rattle.res_manager.proofs.PatchedFiles.{found}
use Rattle.res_manager.proofs.PatchingCalls.{full_leaves, patch_ends, patch_leaves, refused_patch}
use Rattle.res_manager.proofs.patching.patch.Goals as goal

pub returns-in-Err-clause-leaves : goal.returns-in-Err-clause-leaves
returns-in-Err-clause-leaves g c = refused_patch g.S.ForkStore c.args.memory.now c.args.files.now c.args.files.now c.args.call.now c.in-Err.end (sym c.in-Err.ensures.found)

pub returns-in_err-outcome-clause-leaves : goal.returns-in_err-outcome-clause-leaves
returns-in_err-outcome-clause-leaves g c =
    full_leaves g.S.ForkStore c.args.memory.now c.args.files.now c.patch_at.new.files c.args.call.now c.in-Ok.place (sym c.in-Ok.ensures.found) _ c.from_residual.result c.from_residual.ensures.0 c.in_err-outcome.ensures.keeps (c.patch_at.ensures.saves c.args.memory.now)

pub returns-in_err-outcome-clause-same : goal.returns-in_err-outcome-clause-same
returns-in_err-outcome-clause-same g c = err_anyhow _ c.from_residual.result (c.in_err-outcome.ensures.same c.args.memory.now)

pub returns-clause-patches : goal.returns-clause-patches
returns-clause-patches g c =
    patch_ends g.S.ForkStore c.args.memory.now c.args.files.now c.patch_at.new.files c.args.call.now c.in-Ok.place (sym c.in-Ok.ensures.found) c.in_ok-outcome.outcome c.end_by.result c.end_by.ensures (c.in_ok-outcome.ensures.patches c.args.memory.now)

pub returns-clause-leaves : goal.returns-clause-leaves
returns-clause-leaves g c =
    patch_leaves g.S.ForkStore c.args.memory.now c.args.files.now c.patch_at.new.files c.args.call.now c.in-Ok.place (sym c.in-Ok.ensures.found) (found c.in-Ok.place (handle_patched c.args.call.now) c.args.files.now.files c.in-Ok.ensures.there)
    c.in_ok-outcome.outcome c.end_by.result (is_full c.args.memory.now.heap.table (handle_patched c.args.call.now)) c.end_by.ensures (c.in_ok-outcome.ensures.saves c.args.memory.now)
