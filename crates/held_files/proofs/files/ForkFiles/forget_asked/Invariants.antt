use Rattle.std.specs.Prelude.{◌≡◌, drop}
use Rattle.mac_base.specs.Released.{disposed_in}
use Rattle.held_files.specs.Forks.{without_handles}
use Rattle.held_files.proofs.files.ForkFiles.forget_asked.Given as goal

abbrev pub invariant-loop-ask : goal.invariant-loop-ask
invariant-loop-ask l = without_handles (disposed_in (drop l.ask-index l.asks)) l.self ≡ without_handles (disposed_in l.asks) l.initial.self
