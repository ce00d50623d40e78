use Rattle.std.proofs.Common.{◌≡◌, ℕ, List, [], take}
use Rattle.std.specs.List.{concat}
use Rattle.script_run.specs.Counting.{Took}
use Rattle.script_run.specs.Run.{IsRun, turns_of}
use Rattle.script_run.specs.Turns.{Noted, moments_of}
use Rattle.script_run.proofs.running.run_lines.Given as goal

-- what the lines so far printed after the opening of file 1, and their moments
abbrev pub invariant-loop-line : goal.invariant-loop-line
invariant-loop-line g l =
    (texts : List (List ℕ))
    × Took g.W.Write.contents l.fn.writer (concat texts) l.writer
    × (run : IsRun g.S.ForkStore l.fn.machine (take l.line-index l.script) texts l.machine)
    × (l.writer.failures ≡ l.fn.writer.failures)
    × Noted l.fn.writer.passed l.fn.moments (moments_of [] l.fn.machine.toolbox (turns_of g.S.ForkStore l.fn.machine (take l.line-index l.script) texts l.machine run)) l.moments
