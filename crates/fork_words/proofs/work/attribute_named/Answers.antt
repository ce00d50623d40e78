use Rattle.std.proofs.Common.{◌≡◌, arith, refl, rules}
use Rattle.fork_words.proofs.work.attribute_named.Goals as goal

pub returns-in-bit7 : goal.returns-in-bit7
returns-in-bit7 c =
    let bits : c.from_bits_retain.result.0 ≡ 128 = search rules in
    rw bits (7, omega arith, refl, c.in-bit7.is)

pub returns-in-sysHeap : goal.returns-in-sysHeap
returns-in-sysHeap c = (6, omega arith, refl, c.in-sysHeap.is)

pub returns-in-purgeable : goal.returns-in-purgeable
returns-in-purgeable c = (5, omega arith, refl, c.in-purgeable.is)

pub returns-in-locked : goal.returns-in-locked
returns-in-locked c = (4, omega arith, refl, c.in-locked.is)

pub returns-in-protected : goal.returns-in-protected
returns-in-protected c = (3, omega arith, refl, c.in-protected.is)

pub returns-in-preload : goal.returns-in-preload
returns-in-preload c = (2, omega arith, refl, c.in-preload.is)

pub returns-in-changed : goal.returns-in-changed
returns-in-changed c = (1, omega arith, refl, c.in-changed.is)

pub returns-in-bit0 : goal.returns-in-bit0
returns-in-bit0 c =
    let bits : c.from_bits_retain-in-bit0.result.0 ≡ 1 = search rules in
    rw bits (0, omega arith, refl, c.in-bit0.is)
