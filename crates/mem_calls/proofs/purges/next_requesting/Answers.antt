use Rattle.std.proofs.Common.{◌∙◌, ap, sym}
use Rattle.mac_base.specs.Tests.{refusal}
use Rattle.mac_base.specs.ZoneState.{with_heap}
use Rattle.mac_base.specs.declared.memory_call.MemoryCall.TheVariants.{Requesting}
use Rattle.zone_heap.specs.NextPurge.{BeforePurge}
use Rattle.mem_calls.proofs.Asked.{before-asked, can-asked, can-requesting, passes-ok}
use Rattle.mem_calls.proofs.purges.next_requesting.Goals as goal

pub next_asked-requires : goal.next_asked-requires
next_asked-requires c =
    let z = c.args.zone.now in
    let call = c.args.call.now in
    let passes = passes-ok (refusal z.shape z.heap (Requesting call)) c.test_requesting.result c.in_ok-ok.field-0 c.test_requesting.ensures (sym c.ok.ensures.value ∙ c.in_ok-ok.was) in
    record { ready = can-asked z (Requesting call) c.asked_requesting.result (can-requesting z call passes) (c.asked_requesting.ensures z) }

pub returns-clause-zone : goal.returns-clause-zone
returns-clause-zone c =
    let z = c.args.zone.now in
    let call = c.args.call.now in
    let passes = passes-ok (refusal z.shape z.heap (Requesting call)) c.test_requesting.result c.in_ok-ok.field-0 c.test_requesting.ensures (sym c.ok.ensures.value ∙ c.in_ok-ok.was) in
    c.next_asked.ensures.zone ∙ ap (λ (b : BeforePurge). with_heap b.heap z) (before-asked z (Requesting call) c.asked_requesting.result passes (c.asked_requesting.ensures z))

pub returns-clause-next : goal.returns-clause-next
returns-clause-next c =
    let z = c.args.zone.now in
    let call = c.args.call.now in
    let passes = passes-ok (refusal z.shape z.heap (Requesting call)) c.test_requesting.result c.in_ok-ok.field-0 c.test_requesting.ensures (sym c.ok.ensures.value ∙ c.in_ok-ok.was) in
    c.next_asked.ensures.next ∙ ap (λ (b : BeforePurge). b.next) (before-asked z (Requesting call) c.asked_requesting.result passes (c.asked_requesting.ensures z))
