use Rattle.std.proofs.Common.{◌++◌, List, ℕ, sym, ap, ◌∙◌}
use Rattle.saved_files.specs.Saved.{block_text}
use Rattle.saved_files.proofs.Files.{all_text, disk_text, disks_text, step_text}
use Rattle.saved_files.proofs.saving.push_forks.Goals as goal

pub loop-store-preserved : goal.loop-store-preserved
loop-store-preserved c =
    let old = c.loop-store.bytes.items in
    step_text disk_text c.args.stores.now c.loop-store.store-index c.store-item.result old _ _ c.loop-store-test.true c.store-item.is
    (c.in_ok-push_block.ensures ∙ ap (λ (b : List ℕ). old ++ block_text b) c.bytes.ensures) c.loop-store.invariant

pub returns : goal.returns
returns c =
    all_text disk_text c.args.stores.now c.loop-store.store-index c.loop-store.bytes.items _ c.loop-store-test.false c.loop-store.invariant
    ∙ ap (λ (b : List ℕ). c.args.bytes.now.items ++ b) (sym (disks_text c.args.stores.now))
