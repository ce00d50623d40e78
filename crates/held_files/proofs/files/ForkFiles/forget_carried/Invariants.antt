use Rattle.std.specs.Prelude.{◌≡◌, drop, filter_map}
use Rattle.mac_base.specs.Released.{disposed_by}
use Rattle.held_files.specs.Forks.{without_handles}
use Rattle.held_files.proofs.files.ForkFiles.forget_carried.Given as goal

abbrev pub invariant-loop-call : goal.invariant-loop-call
invariant-loop-call l = without_handles (filter_map disposed_by (drop l.call-index l.carried)) l.self ≡ without_handles (filter_map disposed_by l.carried) l.initial.self
