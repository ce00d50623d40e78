-- What a map is, by what was read of it in turn.
use Rattle.std.proofs.Common.{◌≡◌, ℕ, ◌+◌, ◌*◌, ◌≤◌, true, false, List, length, Err, refl}
use Rattle.std.specs.Prelude.{nat_le, ◌&&◌}
use Rattle.std.proofs.lemmas.Bool.{and_parts, leb-true}
use Rattle.disk_image.specs.declared.fault.ImageFault.TheVariants.{Entries, Mark}
use Rattle.disk_image.specs.declared.map.Grid.{Grid}
use Rattle.disk_image.specs.Known.{number_at}
use Rattle.disk_image.specs.Maps.{is_marked, has_room, parts_from, map_in}

module _ (disk : List ℕ) (grid : Grid) where
  pub unmarked_map : is_marked disk grid ≡ false → map_in disk grid ≡ Err (Mark 1 grid.step)
  unfolding map_in
  unmarked_map unmarked = rw unmarked refl

  pub crowded_map : (count : ℕ) → is_marked disk grid ≡ true → count ≡ number_at 4 (grid.step + 4) disk → has_room (length disk) grid count ≡ false
      → map_in disk grid ≡ Err (Entries count (grid.step + 4))
  unfolding map_in
  crowded_map count marked is crowded = rw (marked, ← is, crowded) refl

  pub map_is : (count : ℕ) → is_marked disk grid ≡ true → count ≡ number_at 4 (grid.step + 4) disk → has_room (length disk) grid count ≡ true
      → map_in disk grid ≡ parts_from disk grid 1 count
  unfolding map_in
  map_is count marked is room = rw (marked, ← is, room) refl

-- where there is room for entries, there are few, and these lie within the disk
pub room_few : (size : ℕ) (grid : Grid) (count : ℕ) → has_room size grid count ≡ true → count ≤ 1024
unfolding has_room
room_few size grid count room =
    let front = and_parts (nat_le 1 count && nat_le count 1024) (nat_le (grid.step * (count + 1)) size) room in
    leb-true count 1024 (and_parts (nat_le 1 count) (nat_le count 1024) front.0).1

pub room_inside : (size : ℕ) (grid : Grid) (count : ℕ) → has_room size grid count ≡ true → grid.step * (count + 1) ≤ size
unfolding has_room
room_inside size grid count room =
    leb-true (grid.step * (count + 1)) size (and_parts (nat_le 1 count && nat_le count 1024) (nat_le (grid.step * (count + 1)) size) room).1
