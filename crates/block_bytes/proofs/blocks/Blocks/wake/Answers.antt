use Rattle.std.proofs.Common.{◌≡◌, sym, ap, subst, ◌∙◌, Option, Some}
use Rattle.mac_base.specs.HeadKind.{zone_header}
use Rattle.mac_base.specs.ZoneState.{woken_in}
use Rattle.raw_region.specs.State.{State}
use Rattle.block_bytes.specs.declared.record.Record.{Record}
use Rattle.block_bytes.specs.Layout.{Layout, NothingLent}
use Rattle.block_bytes.specs.Structure.{AreWritten, EachMaster, HasStructure, shown}
use Rattle.block_bytes.proofs.Asleep.{woken}
use Rattle.block_bytes.proofs.Recorded.{IsReadWhole}
use Rattle.block_bytes.proofs.blocks.Blocks.wake.Goals as goal

-- the memory that the zone has then, and its record
after_is : (c : goal.After-end) → c.replace-before.new.dest ≡ c.args.region
after_is c = c.replace-before.ensures.after ∙ c.of.ensures

kept_is : (c : goal.After-end) → c.replace.new.self ≡ Some (record { region = c.self.inside.memory; changed = c.new.result })
kept_is c = c.replace.ensures.after ∙ ap (λ (m : State). Some (record { region = m; changed = c.new.result })) (c.into_region.ensures ∙ c.replace-before.ensures.value)

-- what the fields stand for then
woken_then : (c : goal.After-end) → IsReadWhole (record c.self.inside { memory = c.replace-before.new.dest; kept = c.replace.new.self }) (record (shown c.args.self.now c.args.region.bytes) { memory = woken_in c.args.self.now.memory c.args.region.name })
woken_then c =
    let z = c.self.inside in let m = c.args.region in let changed = c.new.result in
    subst (λ (n : State). IsReadWhole (record z { memory = n; kept = c.replace.new.self }) (record (shown c.args.self.now m.bytes) { memory = woken_in c.args.self.now.memory m.name })) (sym (after_is c))
    (subst (λ (kept : Option Record). IsReadWhole (record z { memory = m; kept = kept }) (record (shown c.args.self.now m.bytes) { memory = woken_in c.args.self.now.memory m.name })) (sym (kept_is c))
    (subst (λ (l : Layout). NothingLent l → HasStructure l m.bytes → EachMaster (AreWritten m.bytes) l.heads zone_header l.blocks
    → IsReadWhole (record z { memory = m; kept = Some (record { region = z.memory; changed = changed }) }) (record (shown l m.bytes) { memory = woken_in l.memory m.name })) c.self.view_is
    (λ unlent same masters. woken z c.self.invariant.layout c.base-base.ensures.possible unlent m c.requires.whole same masters changed c.new.ensures) c.requires.nothing_lent c.requires.same c.requires.masters))

pub invariant_of-self : goal.invariant_of-self
invariant_of-self c = (woken_then c).whole

pub returns : goal.returns
returns c = (woken_then c).view
