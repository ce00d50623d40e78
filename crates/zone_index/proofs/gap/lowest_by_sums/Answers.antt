use Rattle.mac_base.specs.Gap.{gaps}
use Rattle.zone_index.proofs.Found.{lowest-found, split_start}
use Rattle.zone_index.proofs.Fronts.{front_split, split_entry}
use Rattle.zone_index.proofs.Roomy.{none-roomy}
use Rattle.zone_index.proofs.gap.lowest_by_sums.Goals as goal

pub gap_start-requires : goal.gap_start-requires
gap_start-requires c = record { front = front_split c.args.zone.now c.in_ok-at.at (split_entry c.args.zone.now c.in_ok-at.at c.in_ok-at.ensures.entry); marked = c.requires.marked }

pub next_free-requires : goal.next_free-requires
next_free-requires c = split_start c.args.zone.now c.args.needed c.requires.some c.in_ok-at.at c.gap_start.result c.in_ok-at.ensures c.gap_start.ensures

pub returns-in_err-at : goal.returns-in_err-at
returns-in_err-at c = rw c.from_residual.ensures (none-roomy c.args.needed (gaps c.args.zone.now.heap.table c.args.zone.now.heap.map) c.in_err-at.ensures)

pub returns : goal.returns
returns c =
    lowest-found c.args.zone.now c.args.needed c.requires.some c.in_ok-at.at c.gap_start.result c.in_ok-at.ensures c.gap_start.ensures c.next_free.result c.next_free.ensures.next c.next_free.ensures.none
