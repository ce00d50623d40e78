use Rattle.std.proofs.Common.{◌≡◌, ◌≤◌, ◌<◌, ◌+◌, ◌*◌, map}
use Rattle.std.specs.Fn.{iterate}
use Rattle.std.specs.List.{All, range_with_len}
use Rattle.fork_drawings.specs.Lines.{next_place}
use Rattle.fork_drawings.proofs.lines.places_of.Given as goal

-- the places of the rows so far, and that of the next
abbrev pub invariant-loop-row : goal.invariant-loop-row
invariant-loop-row l =
    record {
      places : l.places.items ≡ map (λ row. iterate (next_place l.bits l.bytes) row l.bits.start) (range_with_len 0 l._row);
      next : l.at ≡ iterate (next_place l.bits l.bytes) l._row l.bits.start;
      below : All (λ place. place < 1099511627776) l.places.items;
      low : l.at ≤ 16777216 + 65536 * l._row;
    }
