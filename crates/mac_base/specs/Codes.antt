-- The numbers of the result codes.
use Rattle.std.specs.Prelude.{ℕ, ◌-◌, ℤ, negsuc}
use Rattle.mac_base.specs.declared.error.OsErr.{OsErr}
use Rattle.mac_base.specs.declared.error.OsErr.TheVariants.{ParamErr, MemFullErr, NilHandleErr, MemWzErr, MemPurErr, MemBcErr, MemLockedErr, EofErr, ResNotFound, ResFNotFound, AddResFailed, RmvResFailed, ResAttrErr, MapReadErr, DskFulErr, IoErr, FnfErr}

-- the number below zero by n, which is above 0
abbrev pub minus : ℕ → ℤ
minus n = negsuc (n - 1)

-- the number of a code
abbrev pub code_of : OsErr → ℤ
code_of ParamErr = minus 50
code_of MemFullErr = minus 108
code_of NilHandleErr = minus 109
code_of MemWzErr = minus 111
code_of MemPurErr = minus 112
code_of MemBcErr = minus 115
code_of MemLockedErr = minus 117
code_of EofErr = minus 39
code_of ResNotFound = minus 192
code_of ResFNotFound = minus 193
code_of AddResFailed = minus 194
code_of RmvResFailed = minus 196
code_of ResAttrErr = minus 198
code_of MapReadErr = minus 199
code_of DskFulErr = minus 34
code_of IoErr = minus 36
code_of FnfErr = minus 43
