-- How many bytes volumes have.
use Rattle.std.specs.Prelude.{ℕ}
use Rattle.image_files.specs.declared.files.Files.{Files}
use Rattle.image_files.specs.declared.files.Files.TheVariants as files

-- how many bytes a volume has
abbrev pub size_of : Files → ℕ
size_of (files.Hfs volume things) = volume.size
size_of (files.Mfs volume) = volume.size
