use Rattle.std.proofs.Common.{◌≡◌, ◌-◌, suc, length}
use Rattle.std.specs.Int.RustNames.{bit_or}
use Rattle.fork_rez.specs.Reading.{attribute_at, many}
use Rattle.fork_rez.proofs.attribute.attributes_at.Given as goal

-- with what is left, the bits so far are all
abbrev pub invariant-loop-turn : goal.invariant-loop-turn
invariant-loop-turn l =
    many bit_or attribute_at (suc (length l.text) - l._turn) l.bits l.rest ≡ many bit_or attribute_at (suc (length l.text)) 0 l.text
