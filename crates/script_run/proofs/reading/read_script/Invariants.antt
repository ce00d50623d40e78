use Rattle.std.proofs.Common.{◌≡◌, ◌+◌, ◌-◌, length}
use Rattle.script_text.specs.Script.{max_script}
use Rattle.script_run.specs.Counting.{Gave}
use Rattle.script_run.proofs.reading.read_script.Given as goal

-- what was read so far
abbrev pub invariant-loop-buffer : goal.invariant-loop-buffer
invariant-loop-buffer g l = record {
  read : Gave g.R.Read.remaining l.fn.reader l.text.items l.reader;
  none_failed : l.reader.failures ≡ l.fn.reader.failures;
}

-- the bytes that may still be read
abbrev pub decreases-loop-buffer : goal.decreases-loop-buffer
decreases-loop-buffer g l = max_script + 1 - length l.text.items
