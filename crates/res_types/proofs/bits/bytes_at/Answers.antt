use Rattle.std.proofs.Common.{◌-◌, ◌+◌, ◌∙◌, List, ℕ, ap, sym, arith}
use Rattle.res_types.specs.Bits.{bytes_at}
use Rattle.res_types.proofs.Bytes.{with_bytes, next_byte, no_byte}
use Rattle.res_types.proofs.bits.bytes_at.Goals as goal

pub returns-in_default : goal.returns-in_default
returns-in_default c =
    no_byte c.args.count c.loop-turn._turn c.loop-turn.bytes.items c.loop-turn.rest.now (bytes_at c.args.count c.args.bits.now) c.loop-turn.invariant (omega arith) (sym c.in_default.ensures)

pub loop-turn-preserved : goal.loop-turn-preserved
loop-turn-preserved c =
    let after = c.in-Some.after.now in
    ap (λ (bytes : List ℕ). with_bytes bytes (bytes_at (c.args.count - (c.loop-turn._turn + 1)) after)) c.in_ok-push.ensures.items
    ∙ next_byte c.args.count c.loop-turn._turn c.loop-turn.bytes.items c.loop-turn.rest.now (bytes_at c.args.count c.args.bits.now) c.loop-turn.invariant (omega arith) c.in-Some.byte after (sym c.in-Some.ensures)
