-- What a file that is written is read as.
use Rattle.std.specs.Prelude.{◌≡◌, ℕ, List, [], None, Some, Ok, true}
use Rattle.mac_files.specs.declared.container.Container.{Container}
use Rattle.mac_files.specs.declared.container.Container.TheVariants.{Raw, AppleSingle, AppleDouble, MacBinary}
use Rattle.mac_files.specs.declared.container.Version.TheVariants.{III}
use Rattle.mac_files.specs.BinHex.{bin_hex_of, is_bin_hex}
use Rattle.mac_files.specs.Containers.{container_of, fault_of, is_fork_header}
use Rattle.mac_write.specs.declared.target.Target.{Target}
use Rattle.mac_write.specs.declared.target.Target.TheVariants as target
use Rattle.mac_write.specs.HexText.{hex_file}
use Rattle.mac_write.specs.Parts.{Parts, no_finder, parts_of}

-- all of a file that a container holds: the rest is empty or zero
abbrev pub held : Target → Parts → Parts
held target.Raw file = record {
  name = [];
  finder = no_finder;
  created = 0;
  modified = 0;
  comment = [];
  data_fork = [];
  resource_fork = file.resource_fork;
}
held target.AppleDouble file = record file { data_fork = [] }
held target.AppleSingle file = file
held target.MacBinary file = file
held target.BinHex file = record file { created = 0; modified = 0; comment = [] }

-- the bytes are known as a container, have no fault, and give this file
pub record IsReadAs (container : Container) (file : Parts) (bytes : List ℕ) : Type 0 where
  pub known : container_of bytes ≡ Some container
  pub whole : fault_of container bytes ≡ None
  pub told : parts_of container bytes ≡ file

-- the bytes are known as a BinHex text and no container, and it gives this file
pub record IsReadAsText (file : Parts) (bytes : List ℕ) : Type 0 where
  pub no_container : container_of bytes ≡ None
  pub known : is_bin_hex bytes ≡ true
  pub told : bin_hex_of bytes ≡ Ok (hex_file file)

-- A file that is written in a container is read as what the container holds of it. A file of nothing but a fork is
-- known by this fork alone.
abbrev pub IsReadAgain : Target → Parts → List ℕ → Type 0
IsReadAgain target.Raw file new = (is_fork_header file.resource_fork ≡ true → container_of new ≡ Some Raw) × (parts_of Raw new ≡ held target.Raw file)
IsReadAgain target.AppleDouble file new = IsReadAs AppleDouble (held target.AppleDouble file) new
IsReadAgain target.AppleSingle file new = IsReadAs AppleSingle (held target.AppleSingle file) new
IsReadAgain target.MacBinary file new = IsReadAs (MacBinary III) (held target.MacBinary file) new
IsReadAgain target.BinHex file new = IsReadAsText (held target.BinHex file) new
