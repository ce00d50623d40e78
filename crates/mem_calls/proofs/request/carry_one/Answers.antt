use Rattle.std.proofs.Common.{◌≡◌, ap, sym, ◌∙◌}
use Rattle.mac_base.specs.Request.{is_among}
use Rattle.mac_base.specs.GrowZone.{Carried}
use Rattle.mem_calls.specs.Requesting.{with_carried}
use Rattle.mem_calls.proofs.Carrying.{carried-none, noted-carried, once-protected, once-free, released_code, released_heap}
use Rattle.mem_calls.proofs.request.carry_one.Goals as goal

pub returns-else-not-contains-clause-asks : goal.returns-else-not-contains-clause-asks
returns-else-not-contains-clause-asks g c =
    let asks = g.G.GrowZone.asks c.args.procedure.now in
    let value : c.contains.result ≡ is_among c.args.protected.now c.operand_of.result = c.contains.ensures.value in
    let among = ap (is_among c.args.protected.now) (sym c.operand_of.ensures) ∙ sym value ∙ c.if-not-contains.false in
    sym (ap (λ (e : Carried). with_carried e.calls asks) (once-protected c.args.zone.now.shape c.args.protected.now c.args.call.now c.args.zone.now.heap among) ∙ carried-none asks)

pub returns-then-not-contains-clause-heap : goal.returns-then-not-contains-clause-heap
returns-then-not-contains-clause-heap g c =
    let value : c.contains.result ≡ is_among c.args.protected.now c.operand_of.result = c.contains.ensures.value in
    let free = ap (is_among c.args.protected.now) (sym c.operand_of.ensures) ∙ sym value ∙ c.if-not-contains.true in
    released_heap c.args.zone.now c.release.new.zone c.args.call.now c.release.result c.release.ensures.end
    ∙ sym (ap (λ (e : Carried). e.heap) (once-free c.args.zone.now.shape c.args.protected.now c.args.call.now c.args.zone.now.heap _ free (released_code c.args.zone.now c.release.new.zone c.args.call.now c.release.result c.release.ensures.end)))

pub returns-then-not-contains-clause-asks : goal.returns-then-not-contains-clause-asks
returns-then-not-contains-clause-asks g c =
    let asks = g.G.GrowZone.asks c.args.procedure.now in
    let value : c.contains.result ≡ is_among c.args.protected.now c.operand_of.result = c.contains.ensures.value in
    let free = ap (is_among c.args.protected.now) (sym c.operand_of.ensures) ∙ sym value ∙ c.if-not-contains.true in
    let code = released_code c.args.zone.now c.release.new.zone c.args.call.now c.release.result c.release.ensures.end ∙ sym c.err.ensures.value in
    c.did.ensures.asks ∙ noted-carried c.args.call.now c.err.result asks
    ∙ sym (ap (λ (e : Carried). with_carried e.calls asks) (once-free c.args.zone.now.shape c.args.protected.now c.args.call.now c.args.zone.now.heap c.err.result free code))
