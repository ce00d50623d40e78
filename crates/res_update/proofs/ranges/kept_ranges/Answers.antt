use Rattle.std.proofs.Common.{◌≡◌, ◌<◌, ◌+◌, ◌++◌, List, get_or, drop, length, slice_get, Some, sym, ap, ◌∙◌, arith}
use Rattle.std.proofs.lemmas.Option.{slice_get-get_or}
use Rattle.fork_disk.specs.declared.update.Kept.{Kept}
use Rattle.fork_bytes.specs.declared.place.Place.{Place}
use Rattle.res_update.specs.Drafts.{kept_ranges}
use Rattle.res_update.proofs.Listing.{selected_step, kept_step}
use Rattle.res_update.proofs.ranges.kept_ranges.Goals.{then-not-takes+in_ok-push, else-not-takes}
use Rattle.res_update.proofs.ranges.kept_ranges.Goals as goal

pub loop-index-preserved : goal.loop-index-preserved
loop-index-preserved c =
    let rows = c.args.rows.now in let places = c.args.places.now in let s = c.args.selection in
    let i = c.loop-index.index in let r = c.row-row.result.now in let front = c.loop-index.kept.items in
    let first : Place = record { offset = 0; length = 0 } in
    let within : i < length places = let as_many = c.requires in let count = c.len-index-end.ensures in let low = c.loop-index-test.true in omega arith in
    let here : slice_get places i ≡ Some (get_or places i first) = slice_get-get_or places i first within in
    let rest = kept_ranges s (i + 1) (drop (i + 1) rows) (drop (i + 1) places) in
    let whole = kept_ranges s 0 rows places in
    elim c.if-not-takes.branch [
      | then-not-takes+in_ok-push w ↦
          ap (λ (v : _). v.items ++ rest) w.kept-is ∙ ap (λ (xs : List Kept). xs ++ rest) w.in_ok-push.ensures.items
          ∙ kept_step s rows places i r (get_or places i first) front whole c.row-row.ensures here (sym c.takes.ensures ∙ w.if-not-takes.true) c.loop-index.invariant
      | else-not-takes w ↦
          ap (λ (v : _). v.items ++ rest) w.kept-is
          ∙ selected_step s rows places i r (get_or places i first) front whole c.row-row.ensures here (sym c.takes.ensures ∙ w.if-not-takes.false) c.loop-index.invariant
    ]
