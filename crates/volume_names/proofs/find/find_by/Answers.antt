use Rattle.std.proofs.Common.{◌≡◌, ℕ, false, List, [], get_or, map, sym, ap, ◌∙◌, arith}
use Rattle.std.proofs.lemmas.List.{get_or_default}
use borrow.Author.Count.{below_more}
use Rattle.hfs_volume.specs.declared.entry.Entry.{Entry}
use Rattle.volume_names.specs.Paths.{items_of}
use Rattle.volume_names.specs.Things.{has_path}
use Rattle.volume_names.proofs.Places.{first_at, none_passes}
use Rattle.volume_names.proofs.find.find_by.Goals as goal

pub returns-then-has_path : goal.returns-then-has_path
returns-then-has_path c = λ entries has.
    let texts = map items_of c.args.path.now in
    first_at (has_path c.args.rule entries texts) c.args.things.now c.loop-index.index _ c.loop-index-test.true
    (λ k lt. c.loop-index.invariant entries has _ k lt) (sym (c.has_path.ensures entries has) ∙ c.if-has_path.true)

pub loop-index-preserved : goal.loop-index-preserved
loop-index-preserved c = λ entries has d k lt.
    let texts = map items_of c.args.path.now in
    let things = c.args.things.now in
    below_more (λ (j : ℕ). has_path c.args.rule entries texts (get_or things j d) ≡ false) c.loop-index.index
    (λ j below. c.loop-index.invariant entries has d j below)
    (ap (has_path c.args.rule entries texts) (get_or_default things c.loop-index.index d _ c.loop-index-test.true) ∙ sym (c.has_path.ensures entries has) ∙ c.if-has_path.false) k lt

pub returns : goal.returns
returns c = λ entries has.
    let d : Entry = record { place = 0; parent = 0; name = record { length = 0; bytes = [] }; body = [] } in
    none_passes (has_path c.args.rule entries (map items_of c.args.path.now)) c.args.things.now d (λ k lt. c.loop-index.invariant entries has d k (omega arith))
