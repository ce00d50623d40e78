use Rattle.std.proofs.Common.{◌≡◌, ◌≤◌, ◌↔◌, drop, ◌+◌}
use Rattle.fork_bytes.specs.Sizes.{text_length, data_size}
use Rattle.fork_bytes.specs.Written.{PlacesFit}
use Rattle.fork_bytes.proofs.sizes.data_length.Given as goal

-- the sum so far and the data of the other rows are the whole, and the places fit where those of the other rows do
abbrev pub invariant-loop-row : goal.invariant-loop-row
invariant-loop-row g l = (l.total + data_size (text_length g.D.Datum.text) (drop l.row-index l.rows) ≡ data_size (text_length g.D.Datum.text) l.rows) × (l.total ≤ l.most)
    × (PlacesFit (text_length g.D.Datum.text) 0 l.rows ↔ PlacesFit (text_length g.D.Datum.text) l.total (drop l.row-index l.rows))
