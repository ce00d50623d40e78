use Rattle.std.proofs.Common.{◌+◌, [], ◌∷◌, ◌++◌, take, not, ◌&&◌, Ok, refl, ap, ◌∙◌, arith}
use Rattle.mac_base.specs.HandleTable.{bytes_of, is_lent}
use Rattle.mac_base.specs.declared.request.Request.TheVariants.{Resize}
use Rattle.zone_laws.proofs.Lengths.{bytes-within}
use Rattle.zone_heap.proofs.Writing.{full-has_block, full-here}
use Rattle.mem_calls.proofs.Copies.{copied-run, copies-after}
use Rattle.mem_calls.proofs.copying.copy_after.Goals as goal

pub overflow_add-resize : goal.overflow_add-resize
overflow_add-resize g c =
    let s = c.args.zone.now.shape in
    let heap = c.args.zone.now.heap in
    let one = bytes-within s heap c.args.from c.first_block.ensures.sound (full-has_block heap.table c.args.from c.requires.full) in
    let other = bytes-within s heap c.args.to c.first_block.ensures.sound (full-has_block heap.table c.args.to c.requires.target) in
    omega (arith, one, other, c.requires.limit, c.requires.within, c.requires.after)

pub request-requires-clause-ready : goal.request-requires-clause-ready
request-requires-clause-ready g c =
    let s = c.args.zone.now.shape in
    let heap = c.args.zone.now.heap in
    let block = full-has_block heap.table c.args.to c.requires.target in
    let one = bytes-within s heap c.args.from c.first_block.ensures.sound (full-has_block heap.table c.args.from c.requires.full) in
    let other = bytes-within s heap c.args.to c.first_block.ensures.sound block in
    record {
      size = omega (arith, one, other, c.requires.limit, c.requires.within, c.requires.after);
      operand = ap (λ b. b && not (is_lent heap.table c.args.to)) block ∙ ap not (full-here heap.table c.args.to c.requires.target);
    }

pub copy-requires-clause-source : goal.copy-requires-clause-source
copy-requires-clause-source g c = (copies-after c.args.zone.now.shape c.args.from c.args.count (g.G.GrowZone.asks c.request.new.procedure) c.args.zone.now.heap c.request.new.zone.heap c.request.result c.in_ok-request.field-0 c.first_block.ensures.sound
    c.lent_count.ensures.fixed c.requires.full c.requires.within c.in_ok-request.was c.args.to c.args.offset c.requires.target c.requires.after c.request.ensures.run).source

pub copy-requires-clause-target : goal.copy-requires-clause-target
copy-requires-clause-target g c = (copies-after c.args.zone.now.shape c.args.from c.args.count (g.G.GrowZone.asks c.request.new.procedure) c.args.zone.now.heap c.request.new.zone.heap c.request.result c.in_ok-request.field-0 c.first_block.ensures.sound
    c.lent_count.ensures.fixed c.requires.full c.requires.within c.in_ok-request.was c.args.to c.args.offset c.requires.target c.requires.after c.request.ensures.run).target

pub copy-requires-clause-within_source : goal.copy-requires-clause-within_source
copy-requires-clause-within_source g c = (copies-after c.args.zone.now.shape c.args.from c.args.count (g.G.GrowZone.asks c.request.new.procedure) c.args.zone.now.heap c.request.new.zone.heap c.request.result c.in_ok-request.field-0 c.first_block.ensures.sound
    c.lent_count.ensures.fixed c.requires.full c.requires.within c.in_ok-request.was c.args.to c.args.offset c.requires.target c.requires.after c.request.ensures.run).within_source

pub copy-requires-clause-within_target : goal.copy-requires-clause-within_target
copy-requires-clause-within_target g c = (copies-after c.args.zone.now.shape c.args.from c.args.count (g.G.GrowZone.asks c.request.new.procedure) c.args.zone.now.heap c.request.new.zone.heap c.request.result c.in_ok-request.field-0 c.first_block.ensures.sound
    c.lent_count.ensures.fixed c.requires.full c.requires.within c.in_ok-request.was c.args.to c.args.offset c.requires.target c.requires.after c.request.ensures.run).within_target

pub returns-clause-run : goal.returns-clause-run
returns-clause-run g c =
    let s = c.args.zone.now.shape in
    let asks = g.G.GrowZone.asks c.request.new.procedure in
    let old = c.args.zone.now.heap in
    let from = c.args.from in
    let to = c.args.to in
    let n = c.args.count in
    let offset = c.args.offset in
    let x = c.in_ok-request.field-0 in
    let copies = copies-after s from n asks old c.request.new.zone.heap c.request.result x c.first_block.ensures.sound c.lent_count.ensures.fixed c.requires.full c.requires.within c.in_ok-request.was to offset c.requires.target c.requires.after c.request.ensures.run in (
      Ok x,
      refl,
      copied-run s (from ∷ to ∷ []) (Resize to (offset + n)) asks old c.request.result x from to offset n (take offset (bytes_of old.table to) ++ take n (bytes_of old.table from)) c.request.new.zone c.copy.new.self c.request.ensures.run c.in_ok-request.was refl copies c.copy.ensures.zone,
    )

pub returns-clause-loans : goal.returns-clause-loans
returns-clause-loans g c = (c.copy.ensures.loans.0 ∙ c.request.ensures.loans.0, λ x loan lent. c.copy.ensures.loans.1 x loan (c.request.ensures.loans.1 x loan lent))
