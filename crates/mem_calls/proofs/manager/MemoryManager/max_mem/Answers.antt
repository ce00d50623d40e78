use Rattle.std.proofs.Common.{[], ◌+◌, ◌-◌, Ok, refl, ap, sym, ◌∙◌}
use Rattle.mac_base.specs.HeadKind.{Shape, zone_header}
use Rattle.mac_base.specs.ZoneMap.{ZoneMap, total_size, largest_free}
use Rattle.mac_base.specs.Compaction.{all_down}
use Rattle.mac_base.specs.Heap.{all_purged, with_map}
use Rattle.mac_base.specs.ZoneState.{ZoneState}
use Rattle.mac_base.specs.declared.memory_call.MemoryCall.TheVariants.{OnZone}
use Rattle.mac_base.specs.declared.memory_call.ZoneCall.TheVariants.{MaxMem}
use Rattle.mac_base.specs.declared.reply.Results.TheVariants.{TwoNumbers}
use Rattle.mem_calls.proofs.KeptLoans.{kept}
use Rattle.mem_calls.proofs.Purged.{all_down-purged}
use Rattle.mem_calls.proofs.Stepping.{exact-done, step-exact}
use Rattle.mem_calls.proofs.manager.MemoryManager.max_mem.Goals as goal

pub returns-clause-exact : goal.returns-clause-exact
returns-clause-exact c =
    let old = c.self.inside.zone.heap in
    let new = c.largest_free.new.self in
    let same = c.largest_free.ensures.zone in
    let shape = ap (λ (z : ZoneState). z.shape) (same ∙ c.compact_all.ensures.zone) ∙ ap (λ (z : ZoneState). z.shape) c.purge_all.ensures.zone in
    exact-done c.args.self.now c.self.inside.zone new c.self.view_is c.first_block.ensures.sound (OnZone MaxMem) refl
    (Ok (TwoNumbers c.largest_free.result c.growth_left.result)) refl
    (ap (λ (z : ZoneState). z.heap) (same ∙ c.compact_all.ensures.zone) ∙ ap (λ (z : ZoneState). with_map (all_down z.heap.table z.heap.map) z.heap) c.purge_all.ensures.zone
    ∙ ap (λ (m : ZoneMap). with_map m (all_purged old)) (all_down-purged old))
    (ap (λ n. Ok (TwoNumbers n c.growth_left.result)) (c.largest_free.ensures.largest ∙ ap (λ (z : ZoneState). largest_free z.heap.map) (sym same))
    ∙ ap (λ n. Ok (TwoNumbers (largest_free new.heap.map) n)) (c.growth_left.ensures ∙ ap (λ (s : Shape). s.limit - (zone_header + total_size new.heap.map)) shape))

pub returns-clause-step : goal.returns-clause-step
returns-clause-step c = step-exact c.args.self.now c.self.inside.zone c.largest_free.new.self c.self.view_is c.first_block.ensures.sound (OnZone MaxMem) [] (Ok (TwoNumbers c.largest_free.result c.growth_left.result)) (returns-clause-exact c)

pub returns-clause-loans : goal.returns-clause-loans
returns-clause-loans c =
    rw c.largest_free.ensures.zone (kept (c.compact_all.ensures.loans.0 ∙ c.purge_all.ensures.loans.0, λ x loan lent. c.compact_all.ensures.loans.1 x loan (c.purge_all.ensures.loans.1 x loan lent)) c.self.view_is)
