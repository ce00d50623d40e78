use Rattle.std.proofs.Common.{◌∙◌, length, sym, ap, arith}
use Rattle.std.specs.Prelude.{slice_index}
use Rattle.mac_base.proofs.Reach.{end-small}
use Rattle.zone_records.specs.Reading.{records_in}
use Rattle.zone_records.proofs.FaultFronts.{keeps-equal, own-byte, own-long}
use Rattle.zone_records.proofs.faults.wrong_at.Goals as goal

pub overflow_cast-at : goal.overflow_cast-at
overflow_cast-at c =
    let l = c.args.blocks.now in
    let high = c.requires.sound.high in
    let small = end-small l.heads in
    let long = ap length c.requires.own ∙ own-long l in
    let inside = c.requires.inside in
    omega arith

pub returns-then-own-at-clause-none : goal.returns-then-own-at-clause-none
returns-then-own-at-clause-none c =
    let l = c.args.blocks.now in
    let at = c.args.at in
    let long = ap length c.requires.own ∙ own-long l in
    let inside = c.requires.inside in
    keeps-equal (records_in l) at (slice_index c.args.own.now at) (slice_index c.args.bytes.now at) (omega arith) c.if-own-at.true

pub fault_at-requires-clause-inside : goal.fault_at-requires-clause-inside
fault_at-requires-clause-inside c =
    let long = ap length c.requires.own ∙ own-long c.args.blocks.now in
    let inside = c.requires.inside in
    omega arith

pub fault_at-requires-clause-other : goal.fault_at-requires-clause-other
fault_at-requires-clause-other c is =
    let at = c.args.at in
    let same = ap length c.requires.own in
    let inside = c.requires.inside in
    c.if-own-at.false (ap (λ xs. slice_index xs at) c.requires.own ∙ sym (own-byte c.args.blocks.now at (omega arith)) ∙ is)
