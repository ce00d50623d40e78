use Rattle.std.proofs.Common.{[], Option, refl, sym, ap, ◌∙◌, cond}
use Rattle.std.specs.Prelude.{is_none}
use Rattle.zone_look.specs.declared.fault.Fault.{Fault}
use Rattle.zone_look.specs.Free.{free_list}
use Rattle.zone_look.specs.Look.{trailer_size}
use Rattle.zone_look.specs.Memory.{end_of}
use Rattle.zone_look.specs.Look.IsFound.{no_zone}
use Rattle.zone_look.proofs.Chains.{put_none, trailer_told, walk_ends, walk_stops}
use Rattle.zone_look.proofs.looking.look.Goals as goal

pub returns-in-Err : goal.returns-in-Err
returns-in-Err g c = let none = c.in-Err.ensures.fault in (
  [],
  record {
    slots = [];
    found = no_zone c.in-Err.fault none;
    block_count = refl;
    slot_count = refl;
    trailer = sym (ap (λ (fault : Option Fault). cond (is_none fault) (trailer_size c.args.dump.now (end_of c.args.dump.now)) 0) none);
  },
  sym (put_none c.args.blocks.now),
)

pub returns-then-is_some : goal.returns-then-is_some
returns-then-is_some g c =
    let m = c.args.dump.now in let walked = c.walk-count.ensures in let here = c.in-Ok.ensures.end in (
      walked.0,
      record {
        slots = [];
        found = walk_stops m c.in-Ok.end walked.0 c.walk-count.result.fault (sym c.is_some.ensures ∙ c.if-is_some.true) here.0 here.1 walked.1;
        block_count = walked.2;
        slot_count = refl;
        trailer = trailer_told m c.in-Ok.end c.trailer_size-trailer.result here.0 here.1 c.trailer_size-trailer.ensures;
      },
      walked.3,
    )

pub returns : goal.returns
returns g c =
    let m = c.args.dump.now in let walked = c.walk-count.ensures in let here = c.in-Ok.ensures.end in (
      walked.0,
      record {
        slots = (free_list m c.in-Ok.end).slots;
        found = walk_ends m c.in-Ok.end walked.0 c.walk-count.result.fault c.free_masters-free.result.fault (sym c.is_some.ensures ∙ c.if-is_some.false)
            here.0 here.1 c.free_masters-free.ensures.fault walked.1;
        block_count = walked.2;
        slot_count = c.free_masters-free.ensures.count;
        trailer = trailer_told m c.in-Ok.end c.trailer_size-trailer.result here.0 here.1 c.trailer_size-trailer.ensures;
      },
      walked.3,
    )
