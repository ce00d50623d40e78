-- What a file that is written is known as.
use Rattle.std.specs.Prelude.{◌≡◌, Some}
use Rattle.mac_files.specs.declared.container.Container.TheVariants.{AppleSingle, AppleDouble}
use Rattle.mac_files.specs.Containers.{container_of}
use Rattle.mac_write.specs.Parts.{Parts}
use Rattle.mac_write.specs.Targets.{double_text, single_text}

abbrev pub SingleIsKnown : Type 0
SingleIsKnown = (file : Parts) → container_of (single_text file) ≡ Some AppleSingle

abbrev pub DoubleIsKnown : Type 0
DoubleIsKnown = (file : Parts) → container_of (double_text file) ≡ Some AppleDouble
