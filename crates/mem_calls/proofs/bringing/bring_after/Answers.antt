use Rattle.std.proofs.Common.{◌+◌, [], ◌∷◌, ◌++◌, length, take, not, ◌&&◌, Ok, refl, ap, ◌∙◌, arith}
use Rattle.mac_base.specs.HandleTable.{bytes_of, is_lent, with_bytes}
use Rattle.mac_base.specs.Heap.{with_table}
use Rattle.mac_base.specs.ZoneState.{ZoneState}
use Rattle.mac_base.specs.declared.request.Request.TheVariants.{Resize}
use Rattle.zone_laws.proofs.Lengths.{bytes-within}
use Rattle.zone_heap.proofs.Writing.{full-has_block, full-here}
use Rattle.mem_calls.proofs.Brought.{begins-resized, takes-resized}
use Rattle.mem_calls.proofs.Copies.{filled-run}
use Rattle.mem_calls.proofs.bringing.bring_after.Goals as goal

pub overflow_add-resize : goal.overflow_add-resize
overflow_add-resize g c =
    let s = c.args.zone.now.shape in
    let heap = c.args.zone.now.heap in
    let within = bytes-within s heap c.args.to c.first_block.ensures.sound (full-has_block heap.table c.args.to c.requires.target) in
    omega (arith, within, c.requires.limit, c.requires.few, c.requires.after)

pub request-requires-clause-ready : goal.request-requires-clause-ready
request-requires-clause-ready g c =
    let s = c.args.zone.now.shape in
    let heap = c.args.zone.now.heap in
    let block = full-has_block heap.table c.args.to c.requires.target in
    let within = bytes-within s heap c.args.to c.first_block.ensures.sound block in
    record {
      size = omega (arith, within, c.requires.limit, c.requires.few, c.requires.after);
      operand = ap (λ b. b && not (is_lent heap.table c.args.to)) block ∙ ap not (full-here heap.table c.args.to c.requires.target);
    }

pub write_after-requires-clause-full : goal.write_after-requires-clause-full
write_after-requires-clause-full g c = (takes-resized c.args.zone.now.shape (length c.args.bytes.now) (g.G.GrowZone.asks c.request.new.procedure) c.args.zone.now.heap c.request.new.zone.heap c.request.result c.in_ok-request.field-0 c.first_block.ensures.sound
    c.lent_count.ensures.fixed c.in_ok-request.was c.args.to c.args.offset c.requires.target c.request.ensures.run).full

pub write_after-requires-clause-long : goal.write_after-requires-clause-long
write_after-requires-clause-long g c = (takes-resized c.args.zone.now.shape (length c.args.bytes.now) (g.G.GrowZone.asks c.request.new.procedure) c.args.zone.now.heap c.request.new.zone.heap c.request.result c.in_ok-request.field-0 c.first_block.ensures.sound
    c.lent_count.ensures.fixed c.in_ok-request.was c.args.to c.args.offset c.requires.target c.request.ensures.run).long

pub returns-clause-run : goal.returns-clause-run
returns-clause-run g c =
    let s = c.args.zone.now.shape in
    let asks = g.G.GrowZone.asks c.request.new.procedure in
    let old = c.args.zone.now.heap in
    let mid = c.request.new.zone.heap in
    let to = c.args.to in
    let offset = c.args.offset in
    let bytes = c.args.bytes.now in
    let n = length bytes in
    let x = c.in_ok-request.field-0 in
    let begins = begins-resized s n asks old mid c.request.result x c.first_block.ensures.sound c.lent_count.ensures.fixed c.in_ok-request.was to offset c.requires.target c.request.ensures.run c.requires.after in (
      Ok x,
      refl,
      filled-run s (to ∷ []) (Resize to (offset + n)) asks old c.request.result x to (take offset (bytes_of old.table to) ++ bytes) mid c.write_after.new.zone.heap c.request.ensures.run c.in_ok-request.was refl
          (ap (λ (z : ZoneState). z.heap) c.write_after.ensures.zone ∙ ap (λ front. with_table (with_bytes to (front ++ bytes) mid.table) mid) begins),
    )

pub returns-clause-loans : goal.returns-clause-loans
returns-clause-loans g c = (c.write_after.ensures.loans.0 ∙ c.request.ensures.loans.0, λ x loan lent. c.write_after.ensures.loans.1 x loan (c.request.ensures.loans.1 x loan lent))
