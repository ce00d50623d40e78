use Rattle.std.proofs.Common.{◌≡◌, None, ap, arith, length, subst}
use Rattle.mac_base.specs.Tests.{refusal}
use Rattle.mac_base.specs.declared.memory_call.MemoryCall.TheVariants.{Filling}
use Rattle.mac_base.specs.declared.memory_call.FillingCall.TheVariants.{Append, HandAndHand, PtrAndHand}
use Rattle.mem_calls.proofs.Asked.{can-filling}
use Rattle.mem_calls.proofs.purges.asked_filling.Goals as goal

pub overflow_add-length : goal.overflow_add-length
overflow_add-length c =
    let z = c.args.zone.now in
    let can = can-filling z c.requires.sound c.requires.limit (PtrAndHand c.in-PtrAndHand.pointer c.in-PtrAndHand.handle c.in-PtrAndHand.count)
    (subst (λ call. refusal z.shape z.heap (Filling call) ≡ None) c.in-PtrAndHand.is c.requires.passes) in
    let few = can.size in
    let long = c.length_if_any-length-in-PtrAndHand.ensures in
    omega (arith, few, long)

pub overflow_add-length-in-HandAndHand : goal.overflow_add-length-in-HandAndHand
overflow_add-length-in-HandAndHand c =
    let z = c.args.zone.now in
    let can = can-filling z c.requires.sound c.requires.limit (HandAndHand c.in-HandAndHand.one c.in-HandAndHand.other)
    (subst (λ call. refusal z.shape z.heap (Filling call) ≡ None) c.in-HandAndHand.is c.requires.passes) in
    let few = can.size in
    let one = c.length_if_any-count.ensures in
    let other = c.length_if_any-length-in-HandAndHand.ensures in
    omega (arith, few, one, other)

pub overflow_add-length-in-Append : goal.overflow_add-length-in-Append
overflow_add-length-in-Append c =
    let z = c.args.zone.now in
    let can = can-filling z c.requires.sound c.requires.limit (Append c.in-Append.handle c.in-Append.bytes)
    (subst (λ call. refusal z.shape z.heap (Filling call) ≡ None) c.in-Append.is c.requires.passes) in
    let few = can.size in
    let own = c.length_if_any-length-in-Append.ensures in
    let brought = ap length c.as_slice-in-Append.ensures in
    omega (arith, few, own, brought)
