-- What a record of the catalog is, by what was read of it.
use Rattle.std.proofs.Common.{◌≡◌, ℕ, ◌+◌, true, List, take, drop, slice_index, Ok, refl}
use Rattle.std.specs.List.{slice_range}
use Rattle.byteorder.specs.Endian.{big_from}
use Rattle.hfs_tree.specs.declared.leaf.Leaf.{Leaf}
use Rattle.hfs_tree.specs.Leaves.{row_at, row_place}
use Rattle.hfs_volume.specs.declared.name.Name.{Name}
use Rattle.hfs_volume.specs.Names.{name_in}
use Rattle.hfs_volume.specs.Entries.{body_place, has_key, has_body, padded_body, entry_at}

pub is_entry : (leaf : Leaf) (row : ℕ) (bytes first body : List ℕ) (at place parent : ℕ) (name : Name) → bytes ≡ row_at leaf.bytes row → at ≡ body_place bytes
    → has_key bytes ≡ true → has_body (drop at bytes) ≡ true → place ≡ row_place leaf row → parent ≡ big_from 2 4 bytes
    → name ≡ name_in (slice_range bytes 7 (7 + slice_index bytes 6)) → first ≡ take 102 (drop at bytes) → body ≡ padded_body first
    → Ok (record { place = place + at; parent = parent; name = name; body = body }) ≡ entry_at leaf row
is_entry leaf row bytes first body at place parent name is begins key good there in_folder named some whole =
    let sound = rw begins at good in rw (← is, whole, some, named, in_folder, there) (rw begins (rw (key, sound) refl))
