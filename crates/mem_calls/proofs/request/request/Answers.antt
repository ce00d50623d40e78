use Rattle.std.proofs.Common.{◌∙◌, sym}
use Rattle.mem_calls.proofs.Masters.{call-after_master, call-at_once, slot-after_master, more-after_master, more-unasked}
use Rattle.mem_calls.proofs.request.request.Goals as goal
use Rattle.mem_calls.proofs.request.request.Goals.{then-lacks_slot+in_ok-ok_or, else-lacks_slot}

pub run-requires-2-clause-slot : goal.run-requires-2-clause-slot
run-requires-2-clause-slot g c = elim c.if-lacks_slot.branch [
  | then-lacks_slot+in_ok-ok_or w ↦
      let first = rw w.in_ok-ok_or.ensures.ok_part at w.run.ensures.run in
      rw w.zone-is (slot-after_master c.args.zone.now.shape c.args.protected.now c.args.request.now (g.G.GrowZone.asks c.args.procedure.now) c.requires.unasked c.args.zone.now.heap w.run.new.allowed w.in_ok-ok_or.field-0 (g.G.GrowZone.asks w.run.new.procedure) w.run.new.zone.heap first)
  | else-lacks_slot w ↦ rw w.zone-is (sym w.if-lacks_slot.ensures)
]

pub run-requires-2-clause-may : goal.run-requires-2-clause-may
run-requires-2-clause-may g c = elim c.if-lacks_slot.branch [
  | then-lacks_slot+in_ok-ok_or w ↦
      let first = rw w.in_ok-ok_or.ensures.ok_part at w.run.ensures.run in
      rw (w.allowed-is, w.procedure-is) (more-after_master c.args.zone.now.shape c.args.protected.now c.args.request.now (g.G.GrowZone.asks c.args.procedure.now) c.requires.unasked c.args.zone.now.heap w.run.new.allowed w.in_ok-ok_or.field-0 (g.G.GrowZone.asks w.run.new.procedure) w.run.new.zone.heap first)
  | else-lacks_slot w ↦ rw (w.allowed-is, w.procedure-is) (more-unasked c.args.zone.now.shape c.args.protected.now c.args.request.now (g.G.GrowZone.asks c.args.procedure.now) c.requires.unasked c.args.zone.now.heap)
]

pub returns-clause-run : goal.returns-clause-run
returns-clause-run g c =
    let s = c.args.zone.now.shape in
    let before = g.G.GrowZone.asks c.args.procedure.now in
    let after = g.G.GrowZone.asks c.run-2.new.procedure in
    rw c.ok_or-2.ensures.value (elim c.if-lacks_slot.branch [
      | then-lacks_slot+in_ok-ok_or w ↦
          let first = rw w.in_ok-ok_or.ensures.ok_part at w.run.ensures.run in
          let run = rw (w.zone-is, w.allowed-is, w.procedure-is, w.run.ensures.shape) at c.run-2.ensures.run in
          call-after_master s c.args.protected.now c.args.request.now before c.requires.unasked c.args.zone.now.heap w.run.new.allowed c.run-2.new.allowed w.in_ok-ok_or.field-0 (g.G.GrowZone.asks w.run.new.procedure) after c.run-2.result w.run.new.zone.heap c.run-2.new.zone.heap
          (sym w.if-lacks_slot.ensures) first run
      | else-lacks_slot w ↦
          let run = rw (w.zone-is, w.allowed-is, w.procedure-is) at c.run-2.ensures.run in
          call-at_once s c.args.protected.now c.args.request.now before c.requires.unasked c.args.zone.now.heap c.run-2.new.allowed after c.run-2.result c.run-2.new.zone.heap (sym w.if-lacks_slot.ensures) run
    ])

pub returns-clause-loans : goal.returns-clause-loans
returns-clause-loans g c = elim c.if-lacks_slot.branch [
  | then-lacks_slot+in_ok-ok_or w ↦
      let again = rw w.zone-is at c.run-2.ensures.loans in
      (again.0 ∙ w.run.ensures.loans.0, λ x loan lent. again.1 x loan (w.run.ensures.loans.1 x loan lent))
  | else-lacks_slot w ↦ rw w.zone-is at c.run-2.ensures.loans
]
