use Rattle.std.proofs.Common.{◌∙◌, [], length, Ok, refl, ap, sym, subst, arith}
use Rattle.mac_base.specs.ZoneState.{ZoneState}
use Rattle.mac_base.specs.declared.request.Request.TheVariants.{NewBlock}
use Rattle.mem_calls.specs.Requesting.{IsCopyRun}
use Rattle.mem_calls.proofs.Brought.{takes-new}
use Rattle.mem_calls.proofs.Copies.{filled-run}
use Rattle.mem_calls.proofs.bringing.bring_new.Goals as goal

pub request-requires-clause-ready : goal.request-requires-clause-ready
request-requires-clause-ready g c = record { size = omega (arith, c.requires.few); operand = refl }

pub write_after-requires-clause-full : goal.write_after-requires-clause-full
write_after-requires-clause-full g c = (takes-new c.args.zone.now.shape (length c.args.bytes.now) (g.G.GrowZone.asks c.request.new.procedure) c.args.zone.now.heap c.request.new.zone.heap c.request.result c.in_ok-new.new c.first_block.ensures.sound
    c.lent_count.ensures.fixed c.in_ok-new.was c.request.ensures.run).full

pub write_after-requires-clause-long : goal.write_after-requires-clause-long
write_after-requires-clause-long g c = (takes-new c.args.zone.now.shape (length c.args.bytes.now) (g.G.GrowZone.asks c.request.new.procedure) c.args.zone.now.heap c.request.new.zone.heap c.request.result c.in_ok-new.new c.first_block.ensures.sound
    c.lent_count.ensures.fixed c.in_ok-new.was c.request.ensures.run).long

pub returns-clause-run : goal.returns-clause-run
returns-clause-run g c =
    let s = c.args.zone.now.shape in
    let asks = g.G.GrowZone.asks c.request.new.procedure in
    let old = c.args.zone.now.heap in
    let bytes = c.args.bytes.now in
    let x = c.in_ok-new.new in
    subst (λ x. IsCopyRun s [] (NewBlock (length bytes)) bytes asks old (Ok x) c.write_after.new.zone.heap) (sym c.new.ensures)
    (filled-run s [] (NewBlock (length bytes)) asks old c.request.result x x bytes c.request.new.zone.heap c.write_after.new.zone.heap c.request.ensures.run c.in_ok-new.was refl (ap (λ (z : ZoneState). z.heap) c.write_after.ensures.zone))

pub returns-clause-loans : goal.returns-clause-loans
returns-clause-loans g c = (c.write_after.ensures.loans.0 ∙ c.request.ensures.loans.0, λ x loan lent. c.write_after.ensures.loans.1 x loan (c.request.ensures.loans.1 x loan lent))
