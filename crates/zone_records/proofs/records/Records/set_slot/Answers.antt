use Rattle.std.proofs.Common.{◌∙◌, ap, sym, subst}
use Rattle.std.specs.Prelude.{IsTrue}
use Rattle.mac_base.specs.ZoneSizes.{ZoneSizes}
use Rattle.zone_records.specs.Places.{SlotAt, can_say}
use Rattle.zone_records.specs.Changes.{with_slot}
use Rattle.zone_records.specs.Word.{slot_word}
use Rattle.zone_records.proofs.Held.{Held, held-now, fields, heads-is}
use Rattle.zone_records.proofs.Slots.{slot-word, slot-set}
use Rattle.zone_records.proofs.records.Records.set_slot.Goals as goal

pub set_word-requires : goal.set_word-requires
set_word-requires c = slot-word _ _ (held-now c.self.invariant c.self.view_is) c.args.at c.requires.there

-- how it ends
ends : (c : goal.After-set_word) → (s : SlotAt c.args.self.now c.args.at) → Held c.set_word.new.self (with_slot c.args.slot c.args.self.now s)
ends c s =
    let held = held-now c.self.invariant c.self.view_is in
    let heads = heads-is _ _ held in
    slot-set _ _ held c.args.at s c.args.slot c.word-word.result c.set_word.new.self (c.word-word.ensures ∙ ap (λ k. slot_word k c.args.slot) (c.heads.ensures ∙ ap (λ (s : ZoneSizes). s.heads) c.spec.ensures ∙ sym heads))
    (subst (λ k. IsTrue (can_say k c.args.slot)) (sym heads) c.requires.sayable) c.set_word.ensures

pub invariant_of-self : goal.invariant_of-self
invariant_of-self c = fields _ _ (ends c c.requires.there)

pub returns : goal.returns
returns c s = (ends c s).shows
