use Rattle.std.proofs.Common.{◌≡◌, ◌+◌, ◌-◌, ◌*◌, ◌≤◌, drop}
use Rattle.zone_records.specs.Linking.{free_count, full_count}
use Rattle.zone_records.specs.Reading.{records_in}
use Rattle.zone_records.specs.Word.{slots_in}
use Rattle.zone_records.proofs.RightBlocks.{KeepAll}
use Rattle.zone_records.proofs.linking.kept_slots.Given as goal

abbrev pub invariant-loop-index : goal.invariant-loop-index
invariant-loop-index l = record {
  kept : KeepAll (records_in l.blocks) l.index l.blocks.heads l.first l.words;
  full : l.full + full_count (slots_in l.blocks.heads (64 - l.index) (drop (4 * l.index) l.words)) ≡ full_count (slots_in l.blocks.heads 64 l.words);
  few_full : l.full ≤ l.index;
  free : l.free + free_count (slots_in l.blocks.heads (64 - l.index) (drop (4 * l.index) l.words)) ≡ free_count (slots_in l.blocks.heads 64 l.words);
  few_free : l.free ≤ l.index;
}
