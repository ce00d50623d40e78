-- The sizes that a zone may have.
use Rattle.std.specs.Prelude.{◌≡◌, ℕ, ◌+◌, ◌-◌, ◌%◌, ◌<◌, ◌≤◌, Bool, ◌||◌, ◌==◌, nat_le, if◌then◌else◌, List, [], ◌∷◌, Option, Some, None}
use Rattle.mac_base.specs.declared.block.HeadKind.{HeadKind}
use Rattle.mac_base.specs.declared.zone_spec.BadSpec.{BadSpec}
use Rattle.mac_base.specs.HeadKind.{Shape, address_end}
use Rattle.mac_base.specs.declared.zone_spec.BadSpec.TheVariants.{UnevenBase, UnevenSize, UnevenLimit, SmallSize, LargeLimit, SizeOverLimit, SmallGrowth, LowBase, HighEnd}

-- where a zone begins, how large it is, how large it may become, and how its blocks are headed
pub record ZoneSizes : Type 0 where
  pub heads : HeadKind
  pub base : ℕ
  pub size : ℕ
  pub limit : ℕ

-- the shape of such a zone
abbrev pub shape_of : ZoneSizes → Shape
shape_of z = record { heads = z.heads; base = z.base; limit = z.limit }

-- the conditions on a zone's place and sizes, with this least size, this largest limit and this highest end
pub record AreWithin (least most end base size limit : ℕ) : Type 0 where
  -- all are multiples of four
  pub even_base : base % 4 ≡ 0
  pub even_size : size % 4 ≡ 0
  pub even_limit : limit % 4 ≡ 0
  pub large_enough : least ≤ size
  pub small_enough : limit ≤ most
  -- it is as large as it may become, or may grow by 16 bytes at least
  pub within : size ≤ limit
  pub growth : size < limit → size + 16 ≤ limit
  -- it begins at $1000 at the lowest
  pub base_high_enough : 0x1000 ≤ base
  pub end_low_enough : base + limit ≤ end

-- the sizes that a zone can have: 512 bytes at least, in which a master block has room; 1 GB at most, since two such sums
-- have 32 bits; and an end that its blocks can say
abbrev pub ArePossible : ZoneSizes → Type 0
ArePossible z = AreWithin 512 0x4000_0000 (address_end z.heads) z.base z.size z.limit

-- those of a zone that is usual: 1,024 bytes at least, 1,048,576 at most, and an end of 24 bits whatever its blocks are
abbrev pub AreUsual : ZoneSizes → Type 0
AreUsual z = AreWithin 1024 0x10_0000 0x100_0000 z.base z.size z.limit

-- the conditions in the order in which they are tested, for zones with this least size, this largest limit and this
-- highest end, each with the fault that stands for it
abbrev pub conditions : ℕ → ℕ → ℕ → ℕ → ℕ → ℕ → List (Bool × BadSpec)
conditions least most end base size limit =
    (base % 4 == 0, UnevenBase base)
    ∷ (size % 4 == 0, UnevenSize size)
    ∷ (limit % 4 == 0, UnevenLimit limit)
    ∷ (nat_le least size, SmallSize size least)
    ∷ (nat_le limit most, LargeLimit limit most)
    ∷ (nat_le size limit, SizeOverLimit size limit)
    ∷ (limit == size || nat_le (size + 16) limit, SmallGrowth (limit - size))
    ∷ (nat_le 0x1000 base, LowBase base)
    ∷ (nat_le (base + limit) end, HighEnd base limit end)
    ∷ []

-- the fault of the first condition that doesn't hold
abbrev pub first_failing : List (Bool × BadSpec) → Option BadSpec
first_failing [] = None
first_failing (condition ∷ conditions) = if condition.0 then first_failing conditions else Some condition.1

-- the fault of the first condition that these sizes don't meet
abbrev pub first_fault : ℕ → ℕ → ℕ → Option BadSpec
first_fault base size limit = first_failing (conditions 1024 0x10_0000 0x100_0000 base size limit)

-- the same where the zone may be large
abbrev pub first_large_fault : HeadKind → ℕ → ℕ → ℕ → Option BadSpec
first_large_fault heads base size limit = first_failing (conditions 512 0x4000_0000 (address_end heads) base size limit)
