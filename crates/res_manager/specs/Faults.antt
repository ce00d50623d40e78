-- The codes of faults.
use Rattle.std.specs.Prelude.{Result, Ok, Err}
use Rattle.mac_base.specs.declared.error.HostFull.{HostFull}
use Rattle.mac_base.specs.declared.error.OsErr.{OsErr}
use Rattle.mac_base.specs.declared.error.OsErr.TheVariants.{DskFulErr, IoErr}
use Rattle.res_update.specs.declared.fault.UpdateFault.{UpdateFault}
use Rattle.res_update.specs.declared.fault.UpdateFault.TheVariants as fault

-- the code of a fault in an update, unless it is that the host has no memory
abbrev pub code_of : UpdateFault → Result OsErr HostFull
code_of fault.TooBig = Ok DskFulErr
code_of fault.HostFull = Err (record {})
code_of (fault.Device why) = Ok IoErr
