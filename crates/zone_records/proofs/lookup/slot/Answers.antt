use Rattle.std.proofs.Common.{◌∙◌}
use Rattle.zone_records.proofs.Held.{held-read}
use Rattle.zone_records.proofs.Slots.{slot-word, slot-said}
use Rattle.zone_records.proofs.lookup.slot.Goals as goal

pub word-requires : goal.word-requires
word-requires c = slot-word _ _ (held-read c.args.blocks.now c.requires.sound) c.args.at c.requires.there

pub returns : goal.returns
returns c s =
    let held = held-read c.args.blocks.now c.requires.sound in
    c.read.ensures ∙ slot-said _ _ held c.args.at s c.heads.result c.word.result (c.heads.ensures ∙ c.spec.ensures.heads) c.word.ensures
