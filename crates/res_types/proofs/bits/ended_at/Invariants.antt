use Rattle.std.proofs.Common.{◌≡◌, ◌-◌, length}
use Rattle.res_types.specs.Bits.{ended_at}
use Rattle.res_types.proofs.Bytes.{with_bytes}
use Rattle.res_types.proofs.bits.ended_at.Given as goal

-- with the bytes that are left, those so far are all
abbrev pub invariant-loop-turn : goal.invariant-loop-turn
invariant-loop-turn l = with_bytes l.bytes.items (ended_at (length l.bits - l._turn) l.rest) ≡ ended_at (length l.bits) l.bits
