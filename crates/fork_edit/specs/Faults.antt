-- What the faults of containers and texts are to a file that is to be written.
use Rattle.mac_files.specs.declared.bin_hex.fault.BinHexFault.{BinHexFault}
use Rattle.mac_files.specs.declared.bin_hex.fault.BinHexFault.TheVariants as text
use Rattle.mac_write.specs.declared.refusal.Refusal.{Refusal}
use Rattle.mac_write.specs.declared.refusal.Refusal.TheVariants as container
use Rattle.fork_edit.specs.declared.convert.NotConverted.{NotConverted}
use Rattle.fork_edit.specs.declared.convert.NotConverted.TheVariants as unconverted
use Rattle.fork_edit.specs.declared.file.NotWritten.{NotWritten}
use Rattle.fork_edit.specs.declared.file.NotWritten.TheVariants as unwritten

-- want of memory stays that, all else is reported
abbrev pub of_container : Refusal → NotWritten
of_container container.HostFull = unwritten.HostFull
of_container refusal = unwritten.Container refusal

abbrev pub of_text : BinHexFault → NotWritten
of_text text.HostFull = unwritten.HostFull
of_text fault = unwritten.Text fault

abbrev pub unconverted_by : Refusal → NotConverted
unconverted_by container.HostFull = unconverted.HostFull
unconverted_by refusal = unconverted.Write refusal
