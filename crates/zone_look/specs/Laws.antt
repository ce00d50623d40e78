-- What is true of each look.
use Rattle.std.specs.Prelude.{◌≡◌, ℕ, ◌+◌, ◌≤◌, List, map, Option}
use Rattle.mac_base.specs.declared.block.Block.{Block}
use Rattle.mac_base.specs.HeadKind.{zone_header}
use Rattle.mac_base.specs.ZoneMap.{total_size}
use Rattle.zone_look.specs.declared.fault.Fault.{Fault}
use Rattle.zone_look.specs.Blocks.{AreBlocks}
use Rattle.zone_look.specs.Look.{IsFound}
use Rattle.zone_look.specs.Memory.{Memory}

-- of any memory one thing only is found
abbrev pub OneAnswer : Type 0
OneAnswer = (m : Memory) (xs bs : List Block) (ss ts : List ℕ) (f g : Option Fault) → IsFound m xs ss f → IsFound m bs ts g
    → (xs ≡ bs) × (ss ≡ ts) × (f ≡ g)

-- the blocks that are found fill the zone from its header on: their sizes add up to where they end, which is in the zone
abbrev pub BlocksFill : Type 0
BlocksFill = (m : Memory) (end : ℕ) (blocks : List Block) (to : ℕ) → zone_header ≤ end → AreBlocks m end zone_header blocks to
    → (to ≡ zone_header + total_size (map (λ (b : Block). b.entry) blocks)) × (to ≤ end)
