use Rattle.std.proofs.Common.{◌≡◌, ◌-◌, length}
use Rattle.res_types.specs.Writing.{fits, with_bits, write, write_elements}
use Rattle.res_types.proofs.writing.+writing.Given as goal

-- with the elements that are left, the bits so far are all
abbrev pub invariant-write_elements-loop-turn : goal.invariant-write_elements-loop-turn
invariant-write_elements-loop-turn l =
    with_bits l.bits.items (write_elements (write l.body) (fits l.element) (l.count - l._turn) (length l.bits.items) l.rest)
    ≡ with_bits l.initial.bits.items (write_elements (write l.body) (fits l.element) l.count (length l.initial.bits.items) l.parts)
