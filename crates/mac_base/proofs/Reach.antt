-- Where a zone ends, in numbers.
use Rattle.std.proofs.Common.{ℕ, ◌+◌, ◌≤◌, arith}
use Rattle.mac_base.specs.declared.block.HeadKind.{HeadKind}
use Rattle.mac_base.specs.declared.block.HeadKind.TheVariants.{Bits24, Bits32}
use Rattle.mac_base.specs.HeadKind.{address_end}
use Rattle.mac_base.specs.ZoneSizes.{ZoneSizes, ArePossible, AreUsual}

-- an end has 32 bits
pub end-small : (heads : HeadKind) → address_end heads ≤ 0xFFFF_FFFF
end-small Bits24 = omega arith
end-small Bits32 = omega arith

-- and can be $1000000
end-large : (heads : HeadKind) → 0x100_0000 ≤ address_end heads
end-large Bits24 = omega arith
end-large Bits32 = omega arith

pub reach : (z : ZoneSizes) → ArePossible z → z.base + z.limit ≤ 0xFFFF_FFFF
reach z possible = let end = possible.end_low_enough in let small = end-small z.heads in omega arith

-- a usual zone is possible
pub usual_possible : (z : ZoneSizes) → AreUsual z → ArePossible z
usual_possible z usual = record {
  even_base = usual.even_base;
  even_size = usual.even_size;
  even_limit = usual.even_limit;
  large_enough = (let enough = usual.large_enough in omega arith);
  small_enough = (let few = usual.small_enough in omega arith);
  within = usual.within;
  growth = usual.growth;
  base_high_enough = usual.base_high_enough;
  end_low_enough = (let low = usual.end_low_enough in let large = end-large z.heads in omega arith);
}
