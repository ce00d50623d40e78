-- The lemmas that answer most goals of a caller: name `raw_region::proofs::Rules::upkeep` in a `#[tactic(auto,
-- using(..))]`.
use Rattle.raw_region.specs.Bytes.{length-written}
use Rattle.raw_region.proofs.Free.{free_within}
use Rattle.raw_region.proofs.Laws.{length-is_part}

-- how long a slice is
pub ruleset lengths = (length-is_part)

-- a write keeps the length, and a part of a free range is free
pub ruleset upkeep = (length-written, free_within)
