use Rattle.std.proofs.Common.{◌≡◌, List, ℕ, map, sym, ap, ◌∙◌}
use Rattle.std.specs.Prelude.{bytes_eq, not}
use Rattle.fork_disk.specs.declared.mem_disk.MemDisk.{MemDisk}
use Rattle.fork_disk.specs.declared.store.PlainStore.{PlainStore}
use Rattle.saved_files.specs.Saved.{saved_text}
use Rattle.saved_files.specs.Sound.{disk_of}
use Rattle.saved_files.proofs.Said.{same_bytes}
use Rattle.saved_files.proofs.loading.load.Goals as goal

pub returns-then-ne-clause-refused : goal.returns-then-ne-clause-refused
returns-then-ne-clause-refused c = λ bad s saved.
    let files = c.in_ok-files.files in
    let same = c.in_ok-files.ensures.again s c.args.zone.now saved.0 saved.1 in
    let text : c.as_slice.result.now ≡ c.args.bytes.now =
    c.as_slice.ensures.value ∙ c.in_ok-again.ensures.saved
    ∙ ap (λ (xs : List (PlainStore MemDisk)). saved_text (record { chain = files.chain; loads = files.loads; disks = map disk_of xs })) c.deref.ensures.value
    ∙ ap saved_text same ∙ sym saved.1 in
    let equal = ap (λ (xs : List ℕ). not (bytes_eq xs c.args.bytes.now)) text ∙ ap not (same_bytes c.args.bytes.now) in
    absurd (cc (c.ne.ensures, equal, c.if-ne.true))

pub returns-clause-same : goal.returns-clause-same
returns-clause-same c = λ s saved. c.in_ok-files.ensures.again s c.args.zone.now saved.0 saved.1
