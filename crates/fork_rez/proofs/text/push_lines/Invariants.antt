use Rattle.std.proofs.Common.{◌≡◌, ◌++◌, ◌-◌, ◌+◌, ◌/◌, length}
use Rattle.std.specs.List.{flat_map}
use Rattle.std.specs.Simd.{first_chunks}
use Rattle.fork_rez.specs.Text.{commented, lines_of}
use Rattle.fork_rez.proofs.text.push_lines.Given as goal

-- the lines so far, with those of the bytes that are left, are all
abbrev pub invariant-loop-line : goal.invariant-loop-line
invariant-loop-line l =
    l.out.items ++ flat_map commented (first_chunks 16 ((length l.bytes + 15) / 16 - l._line) l.rest) ≡ l.initial.out.items ++ flat_map commented (lines_of l.bytes)
