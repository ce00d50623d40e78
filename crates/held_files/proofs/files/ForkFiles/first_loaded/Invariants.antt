use Rattle.std.proofs.Common.{◌≡◌, ◌≤◌, ◌<◌, ℕ, None}
use Rattle.mac_base.specs.ZoneSizes.{shape_of}
use Rattle.held_files.specs.Elsewhere.{first_on}
use Rattle.held_files.specs.declared.elsewhere.Reach.TheVariants.{All}
use Rattle.held_files.specs.declared.elsewhere.Side.TheVariants.{Inside}
use Rattle.held_files.proofs.files.ForkFiles.first_loaded.Given as goal

-- no file of a lower number has one
abbrev pub invariant-loop-number : goal.invariant-loop-number
invariant-loop-number l = (j : ℕ) → 1 ≤ j → j < l.number → first_on (shape_of l.zone) Inside All l.self.files j ≡ None
