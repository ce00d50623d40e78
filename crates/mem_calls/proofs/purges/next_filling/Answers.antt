use Rattle.std.proofs.Common.{◌∙◌, sym}
use Rattle.mac_base.specs.Tests.{refusal}
use Rattle.mac_base.specs.declared.memory_call.MemoryCall.TheVariants.{Filling}
use Rattle.mem_calls.proofs.Asked.{can-asked, can-filling, passes-ok}
use Rattle.mem_calls.proofs.purges.next_filling.Goals as goal

pub next_asked-requires : goal.next_asked-requires
next_asked-requires c =
    let z = c.args.zone.now in
    let call = c.args.call.now in
    let passes = passes-ok (refusal z.shape z.heap (Filling call)) c.test_filling.result c.in_ok-ok.field-0 c.test_filling.ensures (sym c.ok.ensures.value ∙ c.in_ok-ok.was) in
    record { ready = can-asked z (Filling call) c.asked_filling.result (can-filling z c.requires.sound c.requires.limit call passes) (record { request = c.asked_filling.ensures.request; guards = c.asked_filling.ensures.guards }) }
