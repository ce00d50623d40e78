-- What an update and a recovery of a pair promise, from what their parts do.
use Rattle.std.proofs.Common.{◌≡◌, inl, inr, ⊎_elim, ◌≤◌, List, ◌∷◌, ℕ, Result, Ok, Err, refl, sym, ◌∙◌, ap, subst}
use Rattle.std.specs.Prelude.{OnOk, IsErrOf}
use Rattle.fork_disk.specs.declared.faults.RecoverFault.{RecoverFault}
use Rattle.fork_disk.specs.declared.faults.RecoverFault.TheVariants.{Host}
use Rattle.fork_disk.specs.declared.store.ReplaceFault.{ReplaceFault}
use Rattle.fork_disk.specs.declared.store.ReplaceFault.TheVariants.{BeforeFirstWrite}
use Rattle.fork_disk.specs.OnStore.{KeepsFork}
use Rattle.fork_journal.specs.declared.pair.PairDisk.{Ghosts}
use Rattle.fork_journal.specs.Crash.{Contents, History, MayLeave, AlwaysLeaves}
use Rattle.fork_journal.specs.Form.{text_of}
use Rattle.fork_journal.specs.Pairs.{OnlyReadsPair}
use Rattle.fork_journal.specs.Recovery.{copied_length, recovered, settled_fork, IsReady, IsRecoverable, IsStable, IsBeforeOrAfter, IsSameChoice}
use Rattle.fork_journal.specs.Updates.{pair_fork, IsPairReady, IsPairStable, RecoversPair, ReplacesPair}
use Rattle.fork_journal.proofs.Along.{along_weaker, is_ok, leaves_now}
use Rattle.fork_journal.proofs.Finding.{finds_choice, finds_before_or}
use Rattle.fork_journal.proofs.Settling.{settled_unusable}
use Rattle.fork_journal.proofs.Updating.{one_fork}

both_ok : {T E A B C : Type 0} (r : Result T E) → (A → B → C) → OnOk r A → OnOk r B → OnOk r C
both_ok (Ok t) gives a b = gives a b
both_ok (Err e) gives a b = tt

stable_ready : (contents : Contents) (history : History) → IsReady contents history → IsStable contents history
stable_ready contents history ready c left = ap settled_fork (ready.settled c left)

module _ {P : Type 0} (pair : Ghosts P) (old new : P) where
  pub recovers_pair : {T : Type 0} (result : Result T RecoverFault) → pair.is_honest old → AlwaysLeaves (IsSameChoice (pair.history old)) (pair.history old) (pair.history new)
      → IsRecoverable (pair.contents new) (pair.history new) → pair_fork pair new ≡ pair_fork pair old → OnOk result (pair.contents new ≡ recovered (pair.contents old))
      → OnOk result (IsPairReady pair new) → (IsPairReady pair old → IsPairReady pair new) → (IsErrOf result Host → 1 ≤ copied_length (pair.contents old)) → RecoversPair pair old new result
  recovers_pair result honest any_moment recoverable same done ready still memory =
      let one = λ (stable : IsPairStable pair old). one_fork (pair.contents old) (pair.history old) (pair.history new) stable any_moment in record {
        passes = record { honest = honest; any_moment = any_moment; recoverable = recoverable };
        one_fork = one;
        recovered = done;
        store = record {
          honest = honest;
          same = same;
          ready = ready;
          still = still;
          stable = λ stable c left. leaves_now _ _ _ (one stable) c left ∙ sym same;
          memory = memory;
          any_moment = finds_choice _ _ any_moment;
        };
      }

  -- a pair of which nothing was written is as ready and as stable as it was
  keeps_fork : OnlyReadsPair pair old new → IsPairReady pair old
      → KeepsFork (pair_fork pair) (IsPairReady pair) (IsPairStable pair) pair.is_honest pair.history old new
  keeps_fork keeps ready =
      let moves = λ (Q : Contents → History → Type 0) (was : Q (pair.contents old) (pair.history old)).
      subst (λ (h : History). Q (pair.contents new) h) (sym keeps.calm) (subst (λ (c : Contents). Q c (pair.history old)) (sym keeps.same) was) in record {
        honest = keeps.honest;
        same = ap settled_fork keeps.same;
        ready = moves IsReady ready;
        stable = moves IsStable;
        calm = keeps.calm;
      }

  pub replaces_pair : {T : Type 0} (fork : List ℕ) (result : Result T ReplaceFault) → pair.is_honest old → MayLeave (pair.history old) (pair.contents old) → MayLeave (pair.history new) (pair.contents new)
      → IsPairReady pair old → AlwaysLeaves (IsBeforeOrAfter (pair.contents old).fork fork) (pair.history old) (pair.history new) → IsRecoverable (pair.contents new) (pair.history new)
      → OnOk result ((pair.contents new).fork ≡ fork) → OnOk result ((pair.contents new).journal ≡ 0 ∷ text_of fork) → OnOk result (IsPairReady pair new)
      → (IsErrOf result BeforeFirstWrite → OnlyReadsPair pair old new) → ReplacesPair pair old new fork result
  replaces_pair fork result honest outcome outcome_new was_ready any_moment recoverable put journal ready before =
      let is : pair_fork pair old ≡ (pair.contents old).fork = settled_unusable (pair.contents old) was_ready.unusable in
      let always : AlwaysLeaves (IsBeforeOrAfter (pair_fork pair old) fork) (pair.history old) (pair.history new) =
      along_weaker _ _ _ _ (λ c gives. ⊎_elim (λ same. inl (same ∙ sym is)) (λ now. inr now) gives) any_moment in
      let left = leaves_now _ _ _ always (pair.contents new) outcome_new in record {
        puts = record {
          passes = record { honest = honest; any_moment = always; recoverable = recoverable };
          put = put;
          journal = journal;
          ready = ready;
        };
        left = left;
        before = before;
        store = record {
          honest = honest;
          replaced = both_ok result (λ r p. settled_unusable (pair.contents new) r.unusable ∙ p) ready put;
          ready = ready;
          stable = is_ok result (λ r. stable_ready (pair.contents new) (pair.history new) r) ready;
          before = λ told. keeps_fork (before told) was_ready;
          left = λ told. left;
          any_moment = finds_before_or (pair.contents old) (pair_fork pair old) fork (pair.history old) refl outcome (pair.history new) always;
        };
      }
