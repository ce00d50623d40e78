use Rattle.std.proofs.Common.{◌≡◌, ◌+◌, ◌<◌, ◌++◌, [], List, length, map, get_or, drop, sym, ap, ◌∙◌, arith}
use Rattle.std.specs.List.{flat_map}
use Rattle.std.proofs.lemmas.List.{append-nil, drop_all}
use Rattle.res_files.specs.Standing.{most_files}
use Rattle.res_update.specs.Device.{Disk}
use Rattle.saved_files.specs.Saved.{block_text}
use Rattle.saved_files.specs.Sound.{disk_of}
use Rattle.saved_files.proofs.Files.{fork_more, next_text}
use Rattle.saved_files.proofs.loading.stores_in.Goals as goal

pub returns-in_default-clause-again : goal.returns-in_default-clause-again
returns-in_default-clause-again c = λ disks after long is.
    let i = c.loop.counter in
    let so = c.loop.invariant.1 disks after long is in
    let within : i < length disks = (let before = c.loop-test.true in omega (arith, long, before)) in
    absurd (c.in_default.ensures (get_or disks i []) (flat_map block_text (drop (i + 1) disks) ++ after) (next_text block_text disks i [] after c.loop.rest.now within so.1))

pub loop-preserved : goal.loop-preserved
loop-preserved c = (
  (let more = c.in_ok-push_copy.ensures.count in let so = c.loop.invariant.0 in omega (arith, more, so)),
  λ disks after long is.
      let i = c.loop.counter in
      let so = c.loop.invariant.1 disks after long is in
      let within : i < length disks = (let before = c.loop-test.true in omega (arith, long, before)) in
      let found = c.in-Some.ensures (get_or disks i []) (flat_map block_text (drop (i + 1) disks) ++ after) (next_text block_text disks i [] after c.loop.rest.now within so.1) in
      let old = map disk_of c.loop.stores.items in (
        ap (λ (made : List Disk). made ++ drop (i + 1) disks) c.in_ok-push_copy.ensures.disks ∙ fork_more old disks i c.in-Some.fork.now within found.0 so.0,
        found.1,
      ),
)

pub returns-clause-again : goal.returns-clause-again
returns-clause-again c = λ disks after long is.
    let i = c.loop.counter in
    let so = c.loop.invariant.1 disks after long is in
    let none = drop_all i disks (let past = c.loop-test.false in omega (arith, long, past)) in
    let made = map disk_of c.loop.stores.items in (
      sym (append-nil made) ∙ ap (λ (rest : List Disk). made ++ rest) (sym none) ∙ so.0,
      so.1 ∙ ap (λ (rest : List Disk). flat_map block_text rest ++ after) none,
    )

pub returns-clause-count : goal.returns-clause-count
returns-clause-count c = let all : c.loop.counter ≡ most_files = omega arith in c.loop.invariant.0 ∙ all
