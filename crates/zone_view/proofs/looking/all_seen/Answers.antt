use Rattle.std.proofs.Common.{◌∙◌, List, ap, map, sym}
use Rattle.mac_base.specs.declared.block.Block.{Block}
use Rattle.zone_look.specs.Look.{put_in}
use Rattle.zone_view.proofs.AllSeen.{all_put}
use Rattle.zone_view.proofs.looking.all_seen.Goals as goal

pub returns-clause-seen : goal.returns-clause-seen
returns-clause-seen c =
    let first = c.look-counted.ensures in
    let second = c.look-found.ensures in
    let blocks = c.in_ok-blocks.blocks in
    all_put c.args.dump.now c.look-counted.result c.look-found.result first.0 second.0 blocks.items c.look-found.new.blocks blocks.len c.look_laws.ensures.one first.1 second.1
    (sym blocks.ok.0 ∙ c.in_ok-blocks.ensures.len)
    (second.2 ∙ ap (λ (rows : List Block). put_in rows (map (λ block. block) second.0)) c.deref_mut.ensures.value) blocks.ok.0
