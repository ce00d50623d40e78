-- A store that is only read, more than once.
use Rattle.std.proofs.Common.{refl, ◌∙◌}
use Rattle.fork_disk.specs.declared.store.ForkStore.{Ghosts}
use Rattle.fork_disk.specs.Stores.{OnlyReads}

pub unread : {S : Type 0} (store : Ghosts S) (s : S) → store.is_honest s → store.is_ready s → OnlyReads store s s
unread store s honest ready = record { honest = honest; same = refl; ready = ready; stable = λ stable. stable; calm = refl }

pub read_twice : {S : Type 0} (store : Ghosts S) (first second third : S) → OnlyReads store first second → OnlyReads store second third → OnlyReads store first third
read_twice store first second third one other = record {
  honest = one.honest;
  same = other.same ∙ one.same;
  ready = other.ready;
  stable = λ stable. other.stable (one.stable stable);
  calm = other.calm ∙ one.calm;
}
