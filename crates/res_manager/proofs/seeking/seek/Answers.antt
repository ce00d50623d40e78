use Rattle.std.proofs.Common.{◌≡◌, ℕ, Result, Ok, Err, ap, sym, subst, ◌∙◌, rules}
use Rattle.std.specs.Prelude.{IsOkAnd, MatchResult}
use Rattle.mac_base.specs.declared.error.OsErr.{OsErr}
use Rattle.mac_base.specs.declared.reply.Results.TheVariants.{Handle}
use Rattle.mac_base.specs.Outcomes.{Outcome}
use Rattle.res_update.specs.Sought.{sought}
use Rattle.res_manager.specs.Steps.{SoughtSteps}
use Rattle.res_manager.proofs.SoughtRows.{got_outcome, sought_got, sought_refused}
use Rattle.res_manager.proofs.seeking.seek.Goals as goal

pub returns-in_err-place-clause-step : goal.returns-in_err-place-clause-step
returns-in_err-place-clause-step g c =
    let is : c.from_residual.result ≡ Err c.in_err-place.field-0.0 = search rules in
    subst (λ (outcome : Outcome). SoughtSteps g.S.ForkStore c.args.memory.now c.args.files.now c.args.call.now (g.G.GrowZone.asks c.args.procedure.now) outcome c.args.memory.now c.args.files.now) (sym is)
    (sought_refused g.S.ForkStore c.args.memory.now c.args.files.now (sought c.args.call.now c.args.files.now.files) (g.G.GrowZone.asks c.args.procedure.now) c.in_err-place.field-0.0 c.requires.unasked
    (sym c.find_sought.ensures.found ∙ c.in_err-place.was))

-- the outcome of a handle that is got
outcome_mapped : (given : Result ℕ OsErr) (outcome : Outcome) → MatchResult given (λ h. IsOkAnd outcome (λ results. results ≡ Handle h)) (λ code. outcome ≡ Err code) → outcome ≡ got_outcome given
outcome_mapped (Ok h) (Ok results) is = ap Ok is
outcome_mapped (Ok h) (Err code) is = absurd is
outcome_mapped (Err code) outcome is = is

pub returns-clause-step : goal.returns-clause-step
returns-clause-step g c =
    subst (λ (outcome : Outcome). SoughtSteps g.S.ForkStore c.args.memory.now c.args.files.now c.args.call.now (g.G.GrowZone.asks c.get_row.new.procedure) outcome c.get_row.new.memory c.get_row.new.files)
    (sym (outcome_mapped c.get_row.result c.map.result c.map.ensures.cases))
    (sought_got g.S.ForkStore c.args.memory.now c.get_row.new.memory c.args.files.now c.get_row.new.files (sought c.args.call.now c.args.files.now.files) c.in_ok-place.place c.loads-loads.result (g.G.GrowZone.asks c.get_row.new.procedure) c.get_row.result
    (sym c.find_sought.ensures.found ∙ c.in_ok-place.was) c.loads-loads.ensures c.get_row.ensures.step)
