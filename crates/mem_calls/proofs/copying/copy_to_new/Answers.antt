use Rattle.std.proofs.Common.{◌∙◌, [], ◌∷◌, take, Ok, refl, sym, subst, arith}
use Rattle.mac_base.specs.HandleTable.{bytes_of}
use Rattle.mac_base.specs.declared.request.Request.TheVariants.{NewBlock}
use Rattle.zone_laws.proofs.Lengths.{bytes-within}
use Rattle.zone_heap.proofs.Writing.{full-has_block}
use Rattle.mem_calls.specs.Requesting.{IsCopyRun}
use Rattle.mem_calls.proofs.Copies.{copied-run, copies-new}
use Rattle.mem_calls.proofs.copying.copy_to_new.Goals as goal

pub request-requires-clause-ready : goal.request-requires-clause-ready
request-requires-clause-ready g c =
    let few = bytes-within c.args.zone.now.shape c.args.zone.now.heap c.args.from c.first_block.ensures.sound (full-has_block c.args.zone.now.heap.table c.args.from c.requires.full) in
    record { size = omega (arith, few, c.requires.limit, c.requires.within); operand = refl }

pub copy-requires-clause-source : goal.copy-requires-clause-source
copy-requires-clause-source g c = (copies-new c.args.zone.now.shape c.args.from c.args.count (g.G.GrowZone.asks c.request.new.procedure) c.args.zone.now.heap c.request.new.zone.heap c.request.result c.in_ok-new.new c.first_block.ensures.sound
    c.lent_count.ensures.fixed c.requires.full c.requires.within c.in_ok-new.was c.request.ensures.run).source

pub copy-requires-clause-target : goal.copy-requires-clause-target
copy-requires-clause-target g c = (copies-new c.args.zone.now.shape c.args.from c.args.count (g.G.GrowZone.asks c.request.new.procedure) c.args.zone.now.heap c.request.new.zone.heap c.request.result c.in_ok-new.new c.first_block.ensures.sound
    c.lent_count.ensures.fixed c.requires.full c.requires.within c.in_ok-new.was c.request.ensures.run).target

pub copy-requires-clause-within_source : goal.copy-requires-clause-within_source
copy-requires-clause-within_source g c = (copies-new c.args.zone.now.shape c.args.from c.args.count (g.G.GrowZone.asks c.request.new.procedure) c.args.zone.now.heap c.request.new.zone.heap c.request.result c.in_ok-new.new c.first_block.ensures.sound
    c.lent_count.ensures.fixed c.requires.full c.requires.within c.in_ok-new.was c.request.ensures.run).within_source

pub copy-requires-clause-within_target : goal.copy-requires-clause-within_target
copy-requires-clause-within_target g c = (copies-new c.args.zone.now.shape c.args.from c.args.count (g.G.GrowZone.asks c.request.new.procedure) c.args.zone.now.heap c.request.new.zone.heap c.request.result c.in_ok-new.new c.first_block.ensures.sound
    c.lent_count.ensures.fixed c.requires.full c.requires.within c.in_ok-new.was c.request.ensures.run).within_target

pub returns-clause-run : goal.returns-clause-run
returns-clause-run g c =
    let s = c.args.zone.now.shape in
    let asks = g.G.GrowZone.asks c.request.new.procedure in
    let old = c.args.zone.now.heap in
    let from = c.args.from in
    let n = c.args.count in
    let x = c.in_ok-new.new in
    let copies = copies-new s from n asks old c.request.new.zone.heap c.request.result x c.first_block.ensures.sound c.lent_count.ensures.fixed c.requires.full c.requires.within c.in_ok-new.was c.request.ensures.run in
    subst (λ x. IsCopyRun s (from ∷ []) (NewBlock n) (take n (bytes_of old.table from)) asks old (Ok x) c.copy.new.self.heap) (sym c.new.ensures)
    (copied-run s (from ∷ []) (NewBlock n) asks old c.request.result x from x 0 n (take n (bytes_of old.table from)) c.request.new.zone c.copy.new.self c.request.ensures.run c.in_ok-new.was refl copies c.copy.ensures.zone)

pub returns-clause-loans : goal.returns-clause-loans
returns-clause-loans g c = (c.copy.ensures.loans.0 ∙ c.request.ensures.loans.0, λ x loan lent. c.copy.ensures.loans.1 x loan (c.request.ensures.loans.1 x loan lent))
