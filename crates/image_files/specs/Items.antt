-- What a volume says of a folder or a file.
use Rattle.std.specs.Prelude.{ℕ, ◌%◌, ◌==◌, if◌then◌else◌, slice_index}
use Rattle.byteorder.specs.Endian.{big_from}
use Rattle.fork_disk.specs.Disk.{bytes_at}
use Rattle.hfs_volume.specs.declared.entry.Entry.{Entry}
use Rattle.hfs_volume.specs.declared.entry.Which.{Which}
use Rattle.hfs_volume.specs.declared.entry.Which.TheVariants as which
use Rattle.hfs_volume.specs.Entries.{is_folder, id_of, size_of}
use Rattle.mfs_volume.specs.declared.directory.MfsFile.{MfsFile}
use Rattle.mfs_volume.specs.Directory.{number_of, size_of as mfs_size}
use Rattle.image_files.specs.declared.item.FileInfo.{FileInfo}
use Rattle.image_files.specs.declared.item.Info.{Info}
use Rattle.image_files.specs.declared.item.Info.TheVariants as info

-- the record of a folder or a file of HFS
abbrev pub entry_info : Entry → Info
entry_info entry =
    if is_folder entry then info.Folder (record {
      flags = big_from 30 2 entry.body;
      id = id_of entry;
      things = big_from 4 2 entry.body;
      created = big_from 10 4 entry.body;
      changed = big_from 14 4 entry.body;
    })
    else info.File (record {
      finder = record { kind = bytes_at 4 4 entry.body; creator = bytes_at 4 8 entry.body; flags = big_from 12 2 entry.body };
      is_locked = slice_index entry.body 2 % 2 == 1;
      id = id_of entry;
      created = big_from 44 4 entry.body;
      changed = big_from 48 4 entry.body;
      data_size = size_of entry which.Data;
      resource_size = size_of entry which.Resource;
    })

-- the entry of a file of MFS
abbrev pub file_info : MfsFile → FileInfo
file_info file = record {
  finder = record { kind = bytes_at 4 2 file.front; creator = bytes_at 4 6 file.front; flags = big_from 10 2 file.front };
  is_locked = slice_index file.front 0 % 2 == 1;
  id = number_of file;
  created = big_from 42 4 file.front;
  changed = big_from 46 4 file.front;
  data_size = mfs_size file which.Data;
  resource_size = mfs_size file which.Resource;
}

-- how many bytes a fork has
abbrev pub fork_size : FileInfo → Which → ℕ
fork_size info which.Data = info.data_size
fork_size info which.Resource = info.resource_size
