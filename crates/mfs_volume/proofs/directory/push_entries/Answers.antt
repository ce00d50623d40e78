use Rattle.std.proofs.Common.{◌≡◌, ◌+◌, ◌-◌, ◌/◌, ◌*◌, suc, true, false, slice_index, None, Some, nat_le, nat_lt, ◌||◌, sym, ap, ◌∙◌, refl, arith}
use Rattle.std.proofs.lemmas.Bool.{le-leb, lt-leb, lt-ltb, le-ltb}
use Rattle.mfs_volume.specs.Directory.{Entries, end_of, entries_before, entries_from, entry_at}
use Rattle.mfs_volume.proofs.Entered.{none_here, none_left, fault_here, entry_here, one_more}
use Rattle.mfs_volume.proofs.directory.push_entries.Goals.{then-at-ge512-via-then-at-ge512, then-at-ge512-via-else-at-ge512+then-block-at-lt128}
use Rattle.mfs_volume.proofs.directory.push_entries.Goals as goal

pub returns-then-at-ge512 : goal.returns-then-at-ge512
returns-then-at-ge512 c = λ rest.
    let block = c.args.block.now in
    let at = c.loop-step.at in
    let none : (nat_le 512 at || nat_lt (slice_index block at) 128) ≡ true = elim c.then-at-ge512.branch [
      | then-at-ge512-via-then-at-ge512 w ↦ rw (le-leb 512 at w.if-at-ge512.true) refl
      | then-at-ge512-via-else-at-ge512+then-block-at-lt128 w ↦ rw (lt-leb 512 at w.if-at-ge512.false, lt-ltb (slice_index block at) 128 w.if-block-at-lt128.true) refl
    ] in
    c.loop-step.invariant.same rest ∙ ap (λ (e : Entries). entries_before c.loop-step.files.items e) (none_here c.args.place block at rest (10 - c.loop-step.step) none)

pub returns-in_default : goal.returns-in_default
returns-in_default c = λ rest.
    let block = c.args.block.now in
    let at = c.loop-step.at in
    let left : 10 - c.loop-step.step ≡ suc (10 - (c.loop-step.step + 1)) = omega (arith, c.loop-step-test.true) in
    let some : (nat_le 512 at || nat_lt (slice_index block at) 128) ≡ false = rw (lt-leb 512 at c.if-at-ge512.false, le-ltb (slice_index block at) 128 c.if-block-at-lt128.false) refl in
    let is : end_of block at ≡ None = sym c.in_default.ensures.value in
    c.loop-step.invariant.same rest
    ∙ ap (λ (e : Entries). entries_before c.loop-step.files.items e) (fault_here c.args.place block at rest (10 - c.loop-step.step) (10 - (c.loop-step.step + 1)) left some is)

pub loop-step-preserved : goal.loop-step-preserved
loop-step-preserved c =
    let block = c.args.block.now in
    let at = c.loop-step.at in
    let files = c.loop-step.files.items in
    let left : 10 - c.loop-step.step ≡ suc (10 - (c.loop-step.step + 1)) = omega (arith, c.loop-step-test.true) in
    let some : (nat_le 512 at || nat_lt (slice_index block at) 128) ≡ false = rw (lt-leb 512 at c.if-at-ge512.false, le-ltb (slice_index block at) 128 c.if-block-at-lt128.false) refl in
    let end = c.in-Some.end in
    let room = c.in-Some.ensures.room in
    let is : end_of block at ≡ Some end = sym c.in-Some.ensures.value in
    record {
      same = λ rest. rw (c.in_ok-push.ensures.items, c.entry_at.ensures)
          (c.loop-step.invariant.same rest
          ∙ ap (λ (e : Entries). entries_before files e) (entry_here c.args.place block at rest (10 - c.loop-step.step) (10 - (c.loop-step.step + 1)) end left some is)
          ∙ one_more files (entry_at c.args.place block at) (entries_from c.args.place block (10 - (c.loop-step.step + 1)) ((end + 1) / 2 * 2) rest));
      near = omega (arith, room.0, room.1);
    }

pub returns : goal.returns
returns c = λ rest. c.loop-step.invariant.same rest
    ∙ ap (λ (e : Entries). entries_before c.loop-step.files.items e) (none_left c.args.place c.args.block.now c.loop-step.at rest (10 - c.loop-step.step) (omega (arith, c.loop-step-test.false)))
