use Rattle.std.proofs.Common.{◌≡◌, ◌++◌, take}
use Rattle.fork_sounds.specs.Waves.{samples_bytes}
use Rattle.fork_sounds.proofs.wave.push_samples.Given as goal

-- the samples so far
abbrev pub invariant-loop-sample : goal.invariant-loop-sample
invariant-loop-sample l = l.file.items ≡ l.fn.file.items ++ samples_bytes l.depth (take l.sample-index l.samples)
