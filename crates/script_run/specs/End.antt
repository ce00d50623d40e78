-- The exit status of a run.
use Rattle.std.specs.Prelude.{ℕ}
use Rattle.script_run.specs.declared.end.RunEnd.{RunEnd}
use Rattle.script_run.specs.declared.end.RunEnd.TheVariants.{Finished, ScriptFault, NoMemory, ReadFault, WriteFault}

-- the exit status of a run that ended so
abbrev pub status_of : RunEnd → ℕ
status_of Finished = 0
status_of NoMemory = 1
status_of ReadFault = 1
status_of WriteFault = 1
status_of (ScriptFault line wrong) = 3
