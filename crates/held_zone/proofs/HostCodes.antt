-- No code of the host's is one of the Toolbox's.
use Rattle.std.proofs.Common.{◌≡◌, ◌∙◌, ℤ, pos, negsuc, Bool, true, false, nat_le, ap, refl, sym}
use Rattle.mac_base.specs.Codes.{code_of}
use Rattle.mac_base.specs.declared.error.OsErr.{OsErr}
use Rattle.mac_base.specs.declared.error.OsErr.TheVariants.{ParamErr, MemFullErr, NilHandleErr, MemWzErr, MemPurErr, MemBcErr, MemLockedErr, EofErr, ResNotFound, ResFNotFound, AddResFailed, RmvResFailed, ResAttrErr, MapReadErr, DskFulErr, IoErr, FnfErr}
use Rattle.held_zone.specs.HostCodes.{host_code}
use Rattle.held_zone.specs.declared.host_err.HostErr.{HostErr}
use Rattle.held_zone.specs.declared.host_err.HostErr.TheVariants.{NotThere, TooBig, WouldPurge, BadState, OtherZone, InUse, BadNumber, NoneSuch}

-- whether a number is -1000 or less
abbrev is_low : ℤ → Bool
is_low (pos n) = false
is_low (negsuc n) = nat_le 999 n

low : (e : HostErr) → is_low (host_code e) ≡ true
low NotThere = refl
low TooBig = refl
low WouldPurge = refl
low BadState = refl
low OtherZone = refl
low InUse = refl
low BadNumber = refl
low NoneSuch = refl

high : (guest : OsErr) → is_low (code_of guest) ≡ false
high ParamErr = refl
high MemFullErr = refl
high NilHandleErr = refl
high MemWzErr = refl
high MemPurErr = refl
high MemBcErr = refl
high MemLockedErr = refl
high EofErr = refl
high ResNotFound = refl
high ResFNotFound = refl
high AddResFailed = refl
high RmvResFailed = refl
high ResAttrErr = refl
high MapReadErr = refl
high DskFulErr = refl
high IoErr = refl
high FnfErr = refl

-- a code of the host's is none of the Toolbox's
pub none_guests : (e : HostErr) (guest : OsErr) → host_code e ≡ code_of guest → ⊥
none_guests e guest same = let both : true ≡ false = sym (low e) ∙ ap is_low same ∙ high guest in cc
