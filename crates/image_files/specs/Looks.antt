-- What a volume says of itself, and of its folders and files.
use Rattle.std.specs.Prelude.{ℕ, List, length, slice_get, Option, option_map}
use Rattle.hfs_volume.specs.declared.name.Name.{Name}
use Rattle.hfs_volume.specs.Names.{name_bytes as hfs_bytes}
use Rattle.hfs_volume.specs.Volume.{volume_name as hfs_name}
use Rattle.mfs_volume.specs.Directory.{name_bytes as mfs_bytes}
use Rattle.mfs_volume.specs.Info.{volume_name as mfs_name}
use Rattle.image_files.specs.declared.files.Files.{Files}
use Rattle.image_files.specs.declared.files.Files.TheVariants as files
use Rattle.image_files.specs.declared.item.Info.{Info}
use Rattle.image_files.specs.declared.item.Info.TheVariants.{File}
use Rattle.image_files.specs.Items.{entry_info, file_info}

-- how many folders and files a volume has
abbrev pub count_of : Files → ℕ
count_of (files.Hfs volume things) = length things.items
count_of (files.Mfs volume) = length volume.files.items

-- The name of a volume, and of one of its things, and what it says of this.
abbrev pub volume_name : Files → Name
volume_name (files.Hfs volume things) = hfs_name volume.mdb
volume_name (files.Mfs volume) = mfs_name volume.info

abbrev pub name_bytes : Files → ℕ → Option (List ℕ)
name_bytes (files.Hfs volume things) thing = option_map (λ t. hfs_bytes t.name) (slice_get things.items thing)
name_bytes (files.Mfs volume) thing = option_map mfs_bytes (slice_get volume.files.items thing)

abbrev pub thing_info : Files → ℕ → Option Info
thing_info (files.Hfs volume things) thing = option_map entry_info (slice_get things.items thing)
thing_info (files.Mfs volume) thing = option_map (λ f. File (file_info f)) (slice_get volume.files.items thing)
