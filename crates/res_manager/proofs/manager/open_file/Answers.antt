use Rattle.std.proofs.Common.{◌≡◌, cond, Result, Ok, Some, None, refl, sym, ap, ◌∙◌}
use Rattle.std.proofs.lemmas.List.{length-map}
use Rattle.std.specs.Option.{option_or}
use Rattle.std.specs.Prelude.{◌&&◌, nat_le}
use Rattle.mac_base.specs.declared.error.OsErr.TheVariants.{FnfErr}
use Rattle.mac_base.specs.Tests.{unless_passed}
use Rattle.mac_base.specs.declared.error.HostFull.{HostFull}
use Rattle.mac_base.specs.Outcomes.{Outcome}
use Rattle.mac_base.specs.declared.resource_call.ResourceCall.TheVariants.{OpenResFile}
use Rattle.res_update.specs.Steps.{Opens, Quiet, work_of, update_in}
use Rattle.res_manager.specs.Crash.{CrashLeaves, file_settled}
use Rattle.res_manager.specs.Steps.{state_of}
use Rattle.res_manager.proofs.Crash.{calm_leaves, err_anyhow, opening_reads, opening_saves, work_leaves, work_settles}
use Rattle.res_files.specs.FilesOn.{HonestAt}
use Rattle.res_manager.proofs.Refusals.{passed-early}
use Rattle.mac_base.specs.declared.reply.Results.TheVariants.{Number}
use Rattle.res_update.specs.Tests.{first_refused_for}
use Rattle.res_manager.specs.Tests.{early_tests}
use Rattle.res_manager.proofs.LeavingForks.{refused_leaves}
use Rattle.res_manager.proofs.OpenedFiles.{opens_full}
use Rattle.res_manager.proofs.Stepping.{if_ok, opened_steps, quiet_steps, refused_steps}
use Rattle.res_manager.proofs.UpdatingCalls.{on_err}
use Rattle.res_manager.proofs.manager.open_file.Goals as goal

pub returns-in-Err-clause-step : goal.returns-in-Err-clause-step
returns-in-Err-clause-step g c =
    let tested = ap (λ n. option_or (unless_passed FnfErr (nat_le 1 c.args.number && nat_le c.args.number n)) None) (length-map c.args.files.now.stores g.S.ForkStore.fork) in
    let refused : first_refused_for (state_of g.S.ForkStore.fork c.args.memory.now c.args.files.now) (early_tests (OpenResFile c.args.number)) ≡ Some c.in-Err.code = tested ∙ ap (λ o. option_or o None) c.in-Err.ensures in
    refused_steps g.S.ForkStore c.args.memory.now c.args.files.now (OpenResFile c.args.number) c.in-Err.code refused

pub returns-in-Err-clause-leaves : goal.returns-in-Err-clause-leaves
returns-in-Err-clause-leaves g c = refused_leaves g.S.ForkStore c.args.memory.now c.args.files.now (OpenResFile c.args.number) c.in-Err.code

pub returns-clause-step : goal.returns-clause-step
returns-clause-step g c =
    let tested = ap (λ n. option_or (unless_passed FnfErr (nat_le 1 c.args.number && nat_le c.args.number n)) None) (length-map c.args.files.now.stores g.S.ForkStore.fork) in
    let passed : first_refused_for (state_of g.S.ForkStore.fork c.args.memory.now c.args.files.now) (early_tests (OpenResFile c.args.number)) ≡ None = tested ∙ ap (λ o. option_or o None) c.in_default.ensures in
    if_ok _ _ c.open.result (λ outcome opens. opened_steps g.S.ForkStore c.args.memory.now c.args.files.now c.open.new.files c.args.number outcome
    (passed-early (state_of g.S.ForkStore.fork c.args.memory.now c.args.files.now) (OpenResFile c.args.number) passed) (sym c.is_open.ensures ∙ c.if-is_open.false) (opens c.args.memory.now))
    c.open.ensures.opened

pub returns-then-is_open-clause-step : goal.returns-then-is_open-clause-step
returns-then-is_open-clause-step g c =
    let tested = ap (λ n. option_or (unless_passed FnfErr (nat_le 1 c.args.number && nat_le c.args.number n)) None) (length-map c.args.files.now.stores g.S.ForkStore.fork) in
    let passed : first_refused_for (state_of g.S.ForkStore.fork c.args.memory.now c.args.files.now) (early_tests (OpenResFile c.args.number)) ≡ None = tested ∙ ap (λ o. option_or o None) c.in_default.ensures in
    let zone = c.args.memory.now in
    let on = c.args.files.now in
    let state = state_of g.S.ForkStore.fork zone on in
    quiet_steps g.S.ForkStore zone zone on on (OpenResFile c.args.number) (Ok (Number c.args.number)) (passed-early state (OpenResFile c.args.number) passed)
    (ap (λ b. cond b Quiet (Opens c.args.number)) (sym c.is_open.ensures ∙ c.if-is_open.true)) refl refl

pub returns-clause-late : goal.returns-clause-late
returns-clause-late g c =
    let state = state_of g.S.ForkStore.fork c.args.memory.now c.args.files.now in
    let tested = ap (λ n. option_or (unless_passed FnfErr (nat_le 1 c.args.number && nat_le c.args.number n)) None) (length-map c.args.files.now.stores g.S.ForkStore.fork) in
    on_err _ _ c.open.result (λ full. passed-early state (OpenResFile c.args.number) (tested ∙ ap (λ o. option_or o None) c.in_default.ensures)) c.open.ensures.full

pub returns-clause-same : goal.returns-clause-same
returns-clause-same g c =
    opens_full g.S.ForkStore c.args.memory.now c.args.files.now c.open.new.files c.args.number c.open.ensures.opens.forks c.open.ensures.loads c.open.ensures.count c.open.result c.open.ensures.full

pub returns-clause-leaves : goal.returns-clause-leaves
returns-clause-leaves g c =
    let old = state_of g.S.ForkStore.fork c.args.memory.now c.args.files.now in
    let work = work_of old (OpenResFile c.args.number) in
    let done = c.open.ensures.opens.works in
    record {
      honest = done.honest;
      reads_back = opening_reads (HonestAt g.S.ForkStore.is_honest c.open.new.files.stores) old (state_of g.S.ForkStore.fork c.args.memory.now c.open.new.files) c.args.number c.open.result;
      any_moment = work_leaves g.S.ForkStore c.args.files.now.stores c.open.new.files.stores work None c.open.result (opening_saves old c.args.number) done.any_moment;
      settled = work_settles g.S.ForkStore c.open.new.files.stores work (Some c.args.number) c.open.result
          (ap (λ b. file_settled (cond b Quiet (Opens c.args.number))) (sym c.is_open.ensures ∙ c.if-is_open.false)) done.settled;
      crash_full = err_anyhow (CrashLeaves g.S.ForkStore None c.args.files.now.stores c.open.new.files.stores) c.open.result done.any_moment;
    }

pub returns-then-is_open-clause-leaves : goal.returns-then-is_open-clause-leaves
returns-then-is_open-clause-leaves g c =
    let old = state_of g.S.ForkStore.fork c.args.memory.now c.args.files.now in
    let work = work_of old (OpenResFile c.args.number) in
    let result : Result Outcome HostFull = Ok (Ok (Number c.args.number)) in
    record {
      honest = λ k honest. honest;
      reads_back = opening_reads (HonestAt g.S.ForkStore.is_honest c.args.files.now.stores) old old c.args.number result;
      any_moment = calm_leaves g.S.ForkStore c.args.files.now.stores c.args.files.now.stores (update_in work) (λ k honest. refl);
      settled = work_settles g.S.ForkStore c.args.files.now.stores work None result
          (ap (λ b. file_settled (cond b Quiet (Opens c.args.number))) (sym c.is_open.ensures ∙ c.if-is_open.true)) (λ journal. tt);
      crash_full = tt;
    }
