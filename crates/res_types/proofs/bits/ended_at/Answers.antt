use Rattle.std.proofs.Common.{◌-◌, ◌+◌, ◌∙◌, List, ℕ, length, ap, sym, arith}
use Rattle.res_types.specs.Bits.{ended_at}
use Rattle.res_types.proofs.Bytes.{with_bytes, next_ended, no_ended, is_ended}
use Rattle.res_types.proofs.bits.ended_at.Goals as goal

pub returns-in_default : goal.returns-in_default
returns-in_default c =
    let n = length c.args.bits.now in
    no_ended n c.loop-turn._turn c.loop-turn.bytes.items c.loop-turn.rest.now (ended_at n c.args.bits.now) c.loop-turn.invariant (omega arith) (sym c.in_default.ensures)

pub returns-then-byte-eq0 : goal.returns-then-byte-eq0
returns-then-byte-eq0 c =
    let n = length c.args.bits.now in
    is_ended n c.loop-turn._turn c.loop-turn.bytes.items c.loop-turn.rest.now (ended_at n c.args.bits.now) c.loop-turn.invariant (omega arith) c.in-Some.byte c.in-Some.after.now (sym c.in-Some.ensures) c.if-byte-eq0.true

pub loop-turn-preserved : goal.loop-turn-preserved
loop-turn-preserved c =
    let n = length c.args.bits.now in
    let after = c.in-Some.after.now in
    ap (λ (bytes : List ℕ). with_bytes bytes (ended_at (n - (c.loop-turn._turn + 1)) after)) c.in_ok-push.ensures.items
    ∙ next_ended n c.loop-turn._turn c.loop-turn.bytes.items c.loop-turn.rest.now (ended_at n c.args.bits.now) c.loop-turn.invariant (omega arith) c.in-Some.byte after (sym c.in-Some.ensures) c.if-byte-eq0.false
