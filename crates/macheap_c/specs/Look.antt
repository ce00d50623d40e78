-- What C is shown of a zone that anyone made.
use Rattle.std.specs.Prelude.{◌≡◌, ℕ, ℤ, pos, List, length, map, Option, Some, None}
use Rattle.mac_base.specs.declared.block.Block.{Block}
use Rattle.mac_base.specs.declared.block.HeadKind.{HeadKind}
use Rattle.held_zone.specs.declared.host_err.HostErr.TheVariants.{BadNumber}
use Rattle.held_zone.specs.HostCodes.{host_code}
use Rattle.zone_look.specs.declared.fault.Fault.{Fault}
use Rattle.zone_look.specs.declared.looking.Found.{Found}
use Rattle.zone_look.specs.Look.{IsLook, put_in}
use Rattle.zone_look.specs.Memory.{problem_number}
use Rattle.macheap_c.specs.declared.look.MhWrong.{MhWrong}
use Rattle.macheap_c.specs.declared.walk.MhBlock.{MhBlock}
use Rattle.macheap_c.specs.Guest.{damaged}
use Rattle.macheap_c.specs.Walk.{shown_block}

-- a fault as C is shown it
abbrev pub shown_fault : Fault → MhWrong
shown_fault fault = record { problem = problem_number fault.problem; place = fault.place; found = fault.found; wanted = fault.wanted }

-- C learns what is wrong; where nothing is, the answer is 0
abbrev pub ShowsWrong : Option Fault → ℤ → MhWrong → MhWrong → Type 0
ShowsWrong None code before wrong = (code ≡ pos 0) × (wrong ≡ before)
ShowsWrong (Some fault) code before wrong = (code ≡ damaged) × (wrong ≡ shown_fault fault)

-- what C has room for: rows for blocks, how many there are, and what is wrong
pub record Room : Type 0 where
  pub rows : List MhBlock
  pub count : ℕ
  pub wrong : MhWrong

-- C is shown what is found in the memory from a zone's start on: the blocks for which there are rows, and how many there
-- are. Where there is no such mode, all stays.
abbrev pub IsLooked : Option HeadKind → ℕ → List ℕ → ℤ → Room → Room → Type 0
IsLooked None base bytes code old new = (code ≡ host_code BadNumber) × (new ≡ old)
IsLooked (Some heads) base bytes code old new = (found : Found) × (blocks : List Block)
    × IsLook (record { heads = heads; base = base; bytes = bytes }) found blocks
    × (new.rows ≡ put_in old.rows (map shown_block blocks)) × (new.count ≡ length blocks) × ShowsWrong found.fault code old.wrong new.wrong
