use Rattle.std.proofs.Common.{[], None, Err, sym, ap, subst}
use Rattle.mac_base.specs.declared.resource_call.ResourceCall.{ResourceCall}
use Rattle.mac_base.specs.declared.resource_call.ResourceCall.TheVariants.{Writing}
use Rattle.mac_base.specs.declared.resource_call.WritingCall.{WritingCall}
use Rattle.mac_base.specs.declared.resource_call.WritingCall.TheVariants.{UpdateResFile, CloseResFile}
use Rattle.res_update.specs.Updates.{after_update}
use Rattle.res_update.specs.Selected.{updated}
use Rattle.res_update.specs.declared.selection.Selection.TheVariants.{AllChanged}
use Rattle.res_manager.specs.Steps.{ResourceSteps, state_of}
use Rattle.res_manager.specs.Tests.{Passes, early_tests}
use Rattle.res_manager.proofs.LeavingForks.{made_leaves, refused_leaves}
use Rattle.res_manager.proofs.Stepping.{if_ok, refused_steps}
use Rattle.res_manager.proofs.UpdatingCalls.{closing_unlent, made_late, made_steps, makes_closed, makes_file, on_err, open_update}
use Rattle.res_manager.proofs.WritingFiles.{writes_as}
use Rattle.res_manager.proofs.updating.update.Goals as goal

pub close-requires-clause-unlent : goal.close-requires-clause-unlent
close-requires-clause-unlent g c =
    closing_unlent g.S.ForkStore.fork c.args.memory.now c.args.files.now (Writing c.args.call) c.in-CloseResFile.named c.in-Ok-test_closing.number (ap Writing c.in-CloseResFile.is) (subst (λ (d : ResourceCall). Passes (state_of g.S.ForkStore.fork c.args.memory.now c.args.files.now) (early_tests d)) (sym (ap Writing c.in-CloseResFile.is)) c.in-Ok-test_closing.ensures.passed) c.in-Ok-test_closing.ensures.value.0

pub returns-in-Ok-clause-step : goal.returns-in-Ok-clause-step
returns-in-Ok-clause-step g c =
    let new = c.args.memory.now in
    let after = c.write_file.new.files in
    let fork = g.S.ForkStore.fork in
    let zone = c.args.memory.now in
    let on = c.args.files.now in
    let o = open_update c.in-Ok.number (updated zone.heap.table AllChanged) on.files c.in-Ok.ensures.value.1 in
    let made = makes_file fork zone on (Writing c.args.call) c.in-UpdateResFile.named c.in-Ok.number o.0 (ap Writing c.in-UpdateResFile.is) (subst (λ (d : ResourceCall). Passes (state_of g.S.ForkStore.fork c.args.memory.now c.args.files.now) (early_tests d)) (sym (ap Writing c.in-UpdateResFile.is)) c.in-Ok.ensures.passed) c.in-Ok.ensures.value.0 o.1 in
    if_ok _ _ c.write_file.result (λ outcome written. made_steps g.S.ForkStore zone on new after (Writing c.args.call) o.0 outcome made
    (writes_as g.S.ForkStore zone new on after o.0 (Writing (UpdateResFile None)) (Writing c.args.call) outcome (λ k state. ap (λ (d : WritingCall). after_update (Writing d) k state) c.in-UpdateResFile.is) (written o.0 o.1))) (c.write_file.ensures.written)

pub returns-in-Ok-clause-leaves : goal.returns-in-Ok-clause-leaves
returns-in-Ok-clause-leaves g c =
    let fork = g.S.ForkStore.fork in
    let zone = c.args.memory.now in
    let on = c.args.files.now in
    let o = open_update c.in-Ok.number (updated zone.heap.table AllChanged) on.files c.in-Ok.ensures.value.1 in
    let made = makes_file fork zone on (Writing c.args.call) c.in-UpdateResFile.named c.in-Ok.number o.0 (ap Writing c.in-UpdateResFile.is) (subst (λ (d : ResourceCall). Passes (state_of g.S.ForkStore.fork c.args.memory.now c.args.files.now) (early_tests d)) (sym (ap Writing c.in-UpdateResFile.is)) c.in-Ok.ensures.passed) c.in-Ok.ensures.value.0 o.1 in
    made_leaves g.S.ForkStore zone zone on c.write_file.new.files (Writing c.args.call) c.in-Ok.number (updated zone.heap.table AllChanged) o.0 c.write_file.result o.1 made c.write_file.ensures.same c.write_file.ensures.saves

pub returns-in-Ok-clause-late : goal.returns-in-Ok-clause-late
returns-in-Ok-clause-late g c =
    let fork = g.S.ForkStore.fork in
    let zone = c.args.memory.now in
    let on = c.args.files.now in
    let o = open_update c.in-Ok.number (updated zone.heap.table AllChanged) on.files c.in-Ok.ensures.value.1 in
    let made = makes_file fork zone on (Writing c.args.call) c.in-UpdateResFile.named c.in-Ok.number o.0 (ap Writing c.in-UpdateResFile.is) (subst (λ (d : ResourceCall). Passes (state_of g.S.ForkStore.fork c.args.memory.now c.args.files.now) (early_tests d)) (sym (ap Writing c.in-UpdateResFile.is)) c.in-Ok.ensures.passed) c.in-Ok.ensures.value.0 o.1 in
    on_err _ _ c.write_file.result (λ fits. made_late fork zone on (Writing c.args.call) o.0 made (fits o.0 o.1)) (c.write_file.ensures.fits)

pub returns-in-Ok-clause-full : goal.returns-in-Ok-clause-full
returns-in-Ok-clause-full g c =
    let fork = g.S.ForkStore.fork in
    let zone = c.args.memory.now in
    let on = c.args.files.now in
    let o = open_update c.in-Ok.number (updated zone.heap.table AllChanged) on.files c.in-Ok.ensures.value.1 in
    let made = makes_file fork zone on (Writing c.args.call) c.in-UpdateResFile.named c.in-Ok.number o.0 (ap Writing c.in-UpdateResFile.is) (subst (λ (d : ResourceCall). Passes (state_of g.S.ForkStore.fork c.args.memory.now c.args.files.now) (early_tests d)) (sym (ap Writing c.in-UpdateResFile.is)) c.in-Ok.ensures.passed) c.in-Ok.ensures.value.0 o.1 in
    on_err _ _ c.write_file.result (λ fits. made.full) (c.write_file.ensures.fits)

pub returns-in-Ok-test_closing-clause-step : goal.returns-in-Ok-test_closing-clause-step
returns-in-Ok-test_closing-clause-step g c =
    let new = c.close.new.memory in
    let after = c.close.new.files in
    let fork = g.S.ForkStore.fork in
    let zone = c.args.memory.now in
    let on = c.args.files.now in
    let o = open_update c.in-Ok-test_closing.number (updated zone.heap.table AllChanged) on.files c.in-Ok-test_closing.ensures.value.1 in
    let made = makes_closed fork zone on (Writing c.args.call) c.in-CloseResFile.named c.in-Ok-test_closing.number o.0 (ap Writing c.in-CloseResFile.is) (subst (λ (d : ResourceCall). Passes (state_of g.S.ForkStore.fork c.args.memory.now c.args.files.now) (early_tests d)) (sym (ap Writing c.in-CloseResFile.is)) c.in-Ok-test_closing.ensures.passed) c.in-Ok-test_closing.ensures.value.0 o.1 in
    if_ok _ _ c.close.result (λ outcome written. made_steps g.S.ForkStore zone on new after (Writing c.args.call) o.0 outcome made
    (writes_as g.S.ForkStore zone new on after o.0 (Writing (CloseResFile None)) (Writing c.args.call) outcome (λ k state. ap (λ (d : WritingCall). after_update (Writing d) k state) c.in-CloseResFile.is) (written o.0 o.1))) (c.close.ensures.written)

pub returns-in-Ok-test_closing-clause-leaves : goal.returns-in-Ok-test_closing-clause-leaves
returns-in-Ok-test_closing-clause-leaves g c =
    let fork = g.S.ForkStore.fork in
    let zone = c.args.memory.now in
    let on = c.args.files.now in
    let o = open_update c.in-Ok-test_closing.number (updated zone.heap.table AllChanged) on.files c.in-Ok-test_closing.ensures.value.1 in
    let made = makes_closed fork zone on (Writing c.args.call) c.in-CloseResFile.named c.in-Ok-test_closing.number o.0 (ap Writing c.in-CloseResFile.is) (subst (λ (d : ResourceCall). Passes (state_of g.S.ForkStore.fork c.args.memory.now c.args.files.now) (early_tests d)) (sym (ap Writing c.in-CloseResFile.is)) c.in-Ok-test_closing.ensures.passed) c.in-Ok-test_closing.ensures.value.0 o.1 in
    made_leaves g.S.ForkStore zone c.close.new.memory on c.close.new.files (Writing c.args.call) c.in-Ok-test_closing.number (updated zone.heap.table AllChanged) o.0 c.close.result o.1 made c.close.ensures.same c.close.ensures.saves

pub returns-in-Ok-test_closing-clause-late : goal.returns-in-Ok-test_closing-clause-late
returns-in-Ok-test_closing-clause-late g c =
    let fork = g.S.ForkStore.fork in
    let zone = c.args.memory.now in
    let on = c.args.files.now in
    let o = open_update c.in-Ok-test_closing.number (updated zone.heap.table AllChanged) on.files c.in-Ok-test_closing.ensures.value.1 in
    let made = makes_closed fork zone on (Writing c.args.call) c.in-CloseResFile.named c.in-Ok-test_closing.number o.0 (ap Writing c.in-CloseResFile.is) (subst (λ (d : ResourceCall). Passes (state_of g.S.ForkStore.fork c.args.memory.now c.args.files.now) (early_tests d)) (sym (ap Writing c.in-CloseResFile.is)) c.in-Ok-test_closing.ensures.passed) c.in-Ok-test_closing.ensures.value.0 o.1 in
    on_err _ _ c.close.result (λ fits. made_late fork zone on (Writing c.args.call) o.0 made (fits o.0 o.1)) (c.close.ensures.fits)

pub returns-in-Ok-test_closing-clause-full : goal.returns-in-Ok-test_closing-clause-full
returns-in-Ok-test_closing-clause-full g c =
    let fork = g.S.ForkStore.fork in
    let zone = c.args.memory.now in
    let on = c.args.files.now in
    let o = open_update c.in-Ok-test_closing.number (updated zone.heap.table AllChanged) on.files c.in-Ok-test_closing.ensures.value.1 in
    let made = makes_closed fork zone on (Writing c.args.call) c.in-CloseResFile.named c.in-Ok-test_closing.number o.0 (ap Writing c.in-CloseResFile.is) (subst (λ (d : ResourceCall). Passes (state_of g.S.ForkStore.fork c.args.memory.now c.args.files.now) (early_tests d)) (sym (ap Writing c.in-CloseResFile.is)) c.in-Ok-test_closing.ensures.passed) c.in-Ok-test_closing.ensures.value.0 o.1 in
    on_err _ _ c.close.result (λ fits. made.full) (c.close.ensures.fits)

pub returns-in-Err-clause-step : goal.returns-in-Err-clause-step
returns-in-Err-clause-step g c =
    let P : WritingCall → Type 0 = λ d. ResourceSteps g.S.ForkStore c.args.memory.now c.args.files.now (Writing d) [] (Err c.in-Err.code) c.args.memory.now c.args.files.now in
    subst P (sym c.in-UpdateResFile.is) (refused_steps g.S.ForkStore c.args.memory.now c.args.files.now (Writing (UpdateResFile c.in-UpdateResFile.named)) c.in-Err.code c.in-Err.ensures.passed)

pub returns-in-Err-clause-leaves : goal.returns-in-Err-clause-leaves
returns-in-Err-clause-leaves g c = refused_leaves g.S.ForkStore c.args.memory.now c.args.files.now (Writing c.args.call) c.in-Err.code

pub returns-in-Err-test_closing-clause-step : goal.returns-in-Err-test_closing-clause-step
returns-in-Err-test_closing-clause-step g c =
    let P : WritingCall → Type 0 = λ d. ResourceSteps g.S.ForkStore c.args.memory.now c.args.files.now (Writing d) [] (Err c.in-Err-test_closing.code) c.args.memory.now c.args.files.now in
    subst P (sym c.in-CloseResFile.is) (refused_steps g.S.ForkStore c.args.memory.now c.args.files.now (Writing (CloseResFile c.in-CloseResFile.named)) c.in-Err-test_closing.code c.in-Err-test_closing.ensures.passed)

pub returns-in-Err-test_closing-clause-leaves : goal.returns-in-Err-test_closing-clause-leaves
returns-in-Err-test_closing-clause-leaves g c = refused_leaves g.S.ForkStore c.args.memory.now c.args.files.now (Writing c.args.call) c.in-Err-test_closing.code
