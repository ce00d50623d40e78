use Rattle.std.proofs.Common.{◌∙◌, ◌++◌, ◌<◌, List, ℕ, length, ap, sym, arith}
use Rattle.std.proofs.lemmas.Grind.{common_steps}
use Rattle.res_types.specs.Bits.{byte_bits}
use Rattle.res_types.proofs.Bytes.{shorter, bits_push, not_whole}
use Rattle.res_types.proofs.bits.bytes_of.Goals as goal

pub loop-byte-smaller : goal.loop-byte-smaller
loop-byte-smaller c = shorter c.loop-byte.rest.now (c.in-Some.byte, c.in-Some.after.now) (sym c.in-Some.ensures)

pub loop-byte-preserved : goal.loop-byte-preserved
loop-byte-preserved c =
    bits_push c.args.bits.now c.loop-byte.bytes.items c.loop-byte.rest.now (c.in-Some.byte, c.in-Some.after.now) c.loop-byte.invariant (sym c.in-Some.ensures)
    ∙ ap (λ (bytes : List ℕ). byte_bits bytes ++ c.in-Some.after.now) (sym c.in_ok-push.ensures.items)

pub returns-else-is_empty-clause-whole : goal.returns-else-is_empty-clause-whole
returns-else-is_empty-clause-whole c =
    let some : 0 < length c.loop-byte.rest.now = grind (arith, common_steps) in
    not_whole c.args.bits.now c.loop-byte.bytes.items c.loop-byte.rest.now c.loop-byte.invariant (sym c.in_default.ensures) some
