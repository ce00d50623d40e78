use Rattle.std.proofs.Common.{◌∙◌, sym, ap, cond}
use Rattle.mac_base.specs.Serve.{free_in_front}
use Rattle.zone_heap.proofs.Growing.{free-after}
use Rattle.zone_heap.proofs.zone.free_after.Goals as goal

pub returns-then-is_free : goal.returns-then-is_free
returns-then-is_free c e =
    sym (free-after c.args.pointers.now c.args.at c.in-Some.next e c.entry_at-entry.result c.requires.sound.suits.sizes (c.in-Some.ensures.next e) c.in-Some.ensures.there c.entry_at-entry.ensures
    ∙ ap (λ b. cond b c.entry_at-entry.result.size 0) (sym c.is_free.ensures ∙ c.if-is_free.true))

pub returns-else-is_free : goal.returns-else-is_free
returns-else-is_free c e =
    sym (free-after c.args.pointers.now c.args.at c.in-Some.next e c.entry_at-entry.result c.requires.sound.suits.sizes (c.in-Some.ensures.next e) c.in-Some.ensures.there c.entry_at-entry.ensures
    ∙ ap (λ b. cond b c.entry_at-entry.result.size 0) (sym c.is_free.ensures ∙ c.if-is_free.false))

pub returns-in_default : goal.returns-in_default
returns-in_default c e = ap free_in_front (sym (c.in_default.ensures.last e))
