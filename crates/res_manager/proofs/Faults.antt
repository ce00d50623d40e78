-- The faults of an update, by their codes.
use Rattle.std.proofs.Common.{◌≡◌, Ok, Err, refl}
use Rattle.fork_disk.specs.declared.store.ReplaceFault.{ReplaceFault}
use Rattle.mac_base.specs.declared.error.HostFull.{HostFull}
use Rattle.mac_base.specs.declared.error.OsErr.{OsErr}
use Rattle.mac_base.specs.declared.error.OsErr.TheVariants.{DskFulErr, IoErr}
use Rattle.res_update.specs.declared.fault.UpdateFault.{UpdateFault}
use Rattle.res_update.specs.declared.fault.UpdateFault.TheVariants as fault
use Rattle.res_manager.specs.Faults.{code_of}

-- a fault with a code is that the fork is too big, or of the device
pub coded : {Goal : Type 0} (why : UpdateFault) (code : OsErr) → code_of why ≡ Ok code → (why ≡ fault.TooBig → code ≡ DskFulErr → Goal) → ((cause : ReplaceFault) → why ≡ fault.Device cause → code ≡ IoErr → Goal) → Goal
coded fault.TooBig code is too_big device = too_big refl (cc is)
coded fault.HostFull code is too_big device = absurd (cc is)
coded (fault.Device cause) code is too_big device = device cause refl (cc is)

-- one without is that the host has no memory
pub uncoded : (why : UpdateFault) (full : HostFull) → code_of why ≡ Err full → why ≡ fault.HostFull
uncoded fault.TooBig full is = absurd (cc is)
uncoded fault.HostFull full is = refl
uncoded (fault.Device cause) full is = absurd (cc is)
