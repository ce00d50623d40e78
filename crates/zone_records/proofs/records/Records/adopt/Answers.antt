use Rattle.std.proofs.Common.{◌≡◌, true, refl, sym, subst}
use Rattle.zone_records.specs.Adopting.{AreLinked, AreTight}
use Rattle.zone_records.specs.Reading.{AreSound}
use Rattle.zone_records.proofs.Adopted.{sound-made, used-same}
use Rattle.zone_records.proofs.Linked.{linked-made, tight-made, right-same}
use Rattle.zone_records.proofs.records.Records.adopt.Goals as goal
use Rattle.zone_records.proofs.records.Records.adopt.Goals.{Then-is_whole}

-- its blocks have what they are for
sound : (c : Then-is_whole) → AreSound c.in_ok-blocks.blocks
sound c = sound-made c.args.spec c.base-base.ensures.possible c.args.region.bytes c.in_ok-blocks.blocks c.in_ok-blocks.ensures.zone.0 (c.is_whole.ensures.whole.0 c.if-is_whole.true).used

pub is_whole-requires-clause-unlent : goal.is_whole-requires-clause-unlent
is_whole-requires-clause-unlent c = c.in_ok-blocks.ensures.zone.0.unlent

pub is_whole-requires-clause-sound : goal.is_whole-requires-clause-sound
is_whole-requires-clause-sound c = λ used. sound-made c.args.spec c.base-base.ensures.possible c.args.region.bytes c.in_ok-blocks.blocks c.in_ok-blocks.ensures.zone.0 used

pub invariant_of-result : goal.invariant_of-result
invariant_of-result c = record { sound = sound c }

pub returns-then-is_whole-clause-zone : goal.returns-then-is_whole-clause-zone
returns-then-is_whole-clause-zone c =
    let l = c.in_ok-blocks.blocks in let whole = c.is_whole.ensures.whole.0 c.if-is_whole.true in (
      record {
        layout = l;
        zone = c.in_ok-blocks.ensures.zone.0;
        sound = sound c;
        same = refl;
        links = linked-made l (sound c) whole.right whole.chained;
        tight = tight-made l (sound c) whole.right;
      },
      c.in_ok-blocks.ensures.zone.1,
    )

pub returns-clause-none : goal.returns-clause-none
returns-clause-none c = λ why z zone.
    let l = c.in_ok-blocks.blocks in let spec = c.args.spec in let possible = c.base-base.ensures.possible in let bytes = c.args.region.bytes in let first = c.in_ok-blocks.ensures.zone.0 in
    let used = used-same spec possible bytes l zone.layout first zone.zone zone.sound in
    let both = right-same spec possible bytes l zone.layout first zone.zone (sound-made spec possible bytes l first used) zone.sound c.is_whole.ensures.front (subst AreLinked (sym zone.same) zone.links) (subst AreTight (sym zone.same) zone.tight) in
    let yes : c.is_whole.result ≡ true = c.is_whole.ensures.whole.1 (record { used = used; right = both.0; chained = both.1 }) in
    let not_so = c.if-is_whole.false in cc (yes, not_so)
