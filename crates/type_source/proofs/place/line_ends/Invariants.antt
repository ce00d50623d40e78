use Rattle.std.proofs.Common.{◌≡◌, ◌≤◌, ◌+◌, ◌∷◌, length}
use Rattle.std.specs.Prelude.{count_by}
use Rattle.std.specs.List.{zip}
use Rattle.type_source.specs.Place.{ends_line, line_ends}
use Rattle.type_source.proofs.place.line_ends.Given as goal

-- the ends so far, and those that are left, are all; and none ends before its byte
abbrev pub invariant-loop-byte : goal.invariant-loop-byte
invariant-loop-byte l =
    (l.ends + count_by (λ pair. ends_line pair.0 pair.1) (zip (l.previous ∷ l.rest) l.rest) ≡ line_ends l.text)
    × (l.ends + length l.rest ≤ length l.text)

abbrev pub decreases-loop-byte : goal.decreases-loop-byte
decreases-loop-byte l = length l.rest
