-- What a sync leaves.
use Rattle.std.proofs.Common.{◌≡◌, ℕ, false, List, ◌∷◌, sym, ◌∙◌, ap, subst}
use Rattle.fork_disk.specs.Crash.{at_first}
use Rattle.fork_journal.specs.declared.pair.Side.{Side}
use Rattle.fork_journal.specs.declared.pair.Side.TheVariants.{Journal}
use Rattle.fork_journal.specs.Crash.{Contents, History, Synced, Failed, has_failed, MayLeave, Leaves, Follows}
use Rattle.fork_journal.specs.Form.{is_usable}
use Rattle.fork_journal.specs.Recovery.{IsReady, IsRecoverable}
use Rattle.fork_journal.proofs.Along.{along_failed, leaves_now}

module _ (here found : Contents) (past now : History) (trusted : has_failed Journal past ≡ false) (synced : now ≡ Synced Journal here.journal ∷ past) (same : found ≡ here) where
  -- a crash leaves the journal as it reads
  pub leaves_journal : Leaves (λ d. d.journal ≡ found.journal) now
  leaves_journal d left =
      let is = subst (λ (h : History). MayLeave h d) synced left in
      is.1 trusted ∙ sym (ap (λ (c : Contents). c.journal) same)

  -- where that is not usable, nothing is left to do
  pub readies : IsRecoverable here past → is_usable found.journal ≡ false → IsReady found now
  readies recoverable unusable = record {
    settled = λ d left.
        let is = subst (λ (h : History). MayLeave h d) synced left in
        let none : is_usable d.journal ≡ false = ap (λ (l : List ℕ). is_usable l) (leaves_journal d left) ∙ unusable in
        let fork = recoverable d is.0 none in
        (λ i. record { fork = fork i; journal = is.1 trusted i }) ∙ sym same;
    unusable = unusable;
  }

-- a sync that failed leaves what was left before it
module _ (here found : Contents) (side : Side) (past now : History) (failed : Follows (Failed side) past now) (same : found ≡ here) where
  left_before : (P : Contents → Type 0) → Leaves P past → Leaves P now
  left_before P before = leaves_now P past now (along_failed P side past past now (at_first before) failed)

  pub still_recoverable : IsRecoverable here past → IsRecoverable found now
  still_recoverable before = subst (λ (c : Contents). IsRecoverable c now) (sym same) (left_before (λ d. is_usable d.journal ≡ false → d.fork ≡ here.fork) before)

  pub still_ready : IsReady here past → IsReady found now
  still_ready before = subst (λ (c : Contents). IsReady c now) (sym same) (record { settled = left_before (λ d. d ≡ here) before.settled; unusable = before.unusable })
