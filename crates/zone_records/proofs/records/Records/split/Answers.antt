use Rattle.std.proofs.Common.{◌-◌, ◌∙◌, ap, sym}
use Rattle.mac_base.specs.HeadKind.{head_size}
use Rattle.zone_records.proofs.Held.{held-now, fields, heads-is}
use Rattle.zone_records.proofs.Freeing.{cut-can_be, cut-ends}
use Rattle.zone_records.proofs.records.Records.split.Goals as goal

pub split-requires : goal.split-requires
split-requires c =
    let held = held-now c.self.invariant c.self.view_is in
    cut-can_be _ _ held c.args.at c.args.size _ c.requires (ap (λ n. c.args.size - n) (c.head_size.ensures ∙ ap head_size (sym (heads-is _ _ held))))

pub invariant_of-self : goal.invariant_of-self
invariant_of-self c =
    let held = held-now c.self.invariant c.self.view_is in
    fields _ _ (cut-ends _ _ held c.args.at c.args.size _ c.requires (ap (λ n. c.args.size - n) (c.head_size.ensures ∙ ap head_size (sym (heads-is _ _ held)))) c.split.new.self c.split.ensures)

pub returns : goal.returns
returns c can =
    let held = held-now c.self.invariant c.self.view_is in
    (cut-ends _ _ held c.args.at c.args.size _ can (ap (λ n. c.args.size - n) (c.head_size.ensures ∙ ap head_size (sym (heads-is _ _ held)))) c.split.new.self c.split.ensures).shows
