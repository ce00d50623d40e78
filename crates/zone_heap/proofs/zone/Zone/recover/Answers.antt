use Rattle.std.proofs.Common.{◌∙◌, ap, sym, None, Some}
use Rattle.mac_base.specs.HeadKind.{head_size}
use Rattle.mac_base.specs.ZoneMap.{handle_at}
use Rattle.mac_base.specs.ZoneSizes.{ZoneSizes}
use Rattle.mac_base.specs.ZoneState.{ZoneState}
use Rattle.zone_heap.proofs.Recovering.{recovered, recovered-none}
use Rattle.zone_heap.proofs.zone.Zone.recover.Goals as goal

pub returns-then-address-head_size : goal.returns-then-address-head_size
returns-then-address-head_size c =
    let z = c.self.inside.pointers in
    let size = c.head_size-head_size.ensures ∙ ap head_size c.heads.ensures ∙ ap (λ (s : ZoneSizes). head_size s.heads) (rw c.linked-linked.ensures at c.spec.ensures.sizes) in
    recovered-none z c.self.invariant.sound c.args.address c.head_size-head_size.result size c.if-address-head_size.true ∙ ap (λ (z : ZoneState). handle_at z.shape c.args.address z.heap.map) c.self.view_is

pub returns-in_default : goal.returns-in_default
returns-in_default c =
    let z = c.self.inside.pointers in
    let size = c.head_size-head_size.ensures ∙ ap head_size c.heads.ensures ∙ ap (λ (s : ZoneSizes). head_size s.heads) (rw c.linked-linked.ensures at c.spec.ensures.sizes) in
    recovered z c.self.invariant.sound c.args.address c.head_size-head_size.result size c.if-address-head_size.false None (sym c.in_default.is ∙ (rw c.linked-linked.ensures at c.entry.ensures))
    ∙ ap (λ (z : ZoneState). handle_at z.shape c.args.address z.heap.map) c.self.view_is

pub returns : goal.returns
returns c =
    let z = c.self.inside.pointers in
    let size = c.head_size-head_size.ensures ∙ ap head_size c.heads.ensures ∙ ap (λ (s : ZoneSizes). head_size s.heads) (rw c.linked-linked.ensures at c.spec.ensures.sizes) in
    c.handle_of.ensures
    ∙ recovered z c.self.invariant.sound c.args.address c.head_size-head_size.result size c.if-address-head_size.false (Some c.in-Some.block) (sym c.in-Some.is ∙ (rw c.linked-linked.ensures at c.entry.ensures))
    ∙ ap (λ (z : ZoneState). handle_at z.shape c.args.address z.heap.map) c.self.view_is
