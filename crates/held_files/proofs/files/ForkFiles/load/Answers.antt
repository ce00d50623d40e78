use Rattle.std.proofs.Common.{◌≡◌, ◌∙◌, ap, rules}
use Rattle.held_files.proofs.AsSaved.{loads-seen, none-seen, on_stores}
use Rattle.held_files.specs.Forks.{no_zones, seen_on}
use Rattle.held_files.specs.declared.elsewhere.OtherZones.{OtherZones}
use Rattle.held_files.proofs.files.ForkFiles.load.Goals as goal

pub returns-in_err-chain-clause-refused : goal.returns-in_err-chain-clause-refused
returns-in_err-chain-clause-refused c = λ bad.
    let over : c.linked.result.now ≡ c.args.session.now.zone = search rules in
    let given = rw bad at c.from_residual.ensures.1 in
    none-seen c.linked.result.now c.args.session.now.zone over c.args.bytes.now (c.in_err-chain.ensures.refused (cc given))

pub restored-requires : goal.restored-requires
restored-requires c = on_stores c.in_ok-chain.field-0.stores.items c.in_ok-chain.field-0.chain c.in_ok-chain.ensures.saved.0.stands

pub returns-in-Ok-clause-loaded : goal.returns-in-Ok-clause-loaded
returns-in-Ok-clause-loaded c =
    let over : c.linked.result.now ≡ c.args.session.now.zone = search rules in
    loads-seen c.linked.result.now c.args.session.now.zone over c.args.bytes.now c.in_ok-chain.field-0 c.in-Ok.files.value
    (c.in-Ok.ensures.ok ∙ ap (λ (zones : OtherZones). seen_on zones c.restored.result) c.none.ensures ∙ ap (seen_on no_zones) c.restored.ensures) c.in_ok-chain.ensures.saved c.in_ok-chain.ensures.same
