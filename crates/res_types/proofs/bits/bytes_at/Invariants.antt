use Rattle.std.proofs.Common.{◌≡◌, ◌-◌}
use Rattle.res_types.specs.Bits.{bytes_at}
use Rattle.res_types.proofs.Bytes.{with_bytes}
use Rattle.res_types.proofs.bits.bytes_at.Given as goal

-- with the bytes that are left, those so far are all
abbrev pub invariant-loop-turn : goal.invariant-loop-turn
invariant-loop-turn l = with_bytes l.bytes.items (bytes_at (l.count - l._turn) l.rest) ≡ bytes_at l.count l.bits
