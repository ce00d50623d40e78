-- Refusals for the device or the host.
use Rattle.hfs_tree.specs.declared.fault.ReadFault.{ReadFault}
use Rattle.hfs_tree.specs.declared.fault.ReadFault.TheVariants as fault
use Rattle.image_files.specs.declared.refusal.FileRefusal.{FileRefusal}
use Rattle.image_files.specs.declared.refusal.FileRefusal.TheVariants.{Device, HostFull}

abbrev pub of_read : ReadFault → FileRefusal
of_read fault.Device = Device
of_read fault.Host = HostFull
