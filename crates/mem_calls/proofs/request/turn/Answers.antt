use Rattle.std.proofs.Common.{◌++◌, ◌∷◌, [], Some, not, eqb, ap, ◌∙◌}
use Rattle.mac_base.specs.declared.block.HeadKind.{HeadKind}
use Rattle.mac_base.specs.HeadKind.{need}
use Rattle.mac_base.specs.ZoneSizes.{ZoneSizes}
use Rattle.mac_base.specs.GrowZone.{new_ask, carried_out}
use Rattle.mem_calls.specs.Requesting.{with_carried}
use Rattle.mem_calls.proofs.Carrying.{carried-last}
use Rattle.mem_calls.proofs.request.turn.Goals as goal

pub returns-in-Some-clause-turn : goal.returns-in-Some-clause-turn
returns-in-Some-clause-turn g c =
    let before = g.G.GrowZone.asks c.args.procedure.now in
    let a = c.in-Some.answer in
    let done = (carried_out c.args.zone.now.shape c.args.protected.now a.calls c.args.zone.now.heap).calls in
    let needed = c.need_for-needed.ensures ∙ ap (λ (heads : HeadKind). need heads c.length_asked.result) (c.heads.ensures ∙ ap (λ (s : ZoneSizes). s.heads) (rw c.linked.ensures.zone at c.spec.ensures.sizes)) ∙ ap (need c.args.zone.now.shape.heads) c.length_asked.ensures in (
      Some a,
      c.carry_out.ensures.asks ∙ ap (with_carried done) c.in-Some.ensures.asks ∙ carried-last done before (new_ask c.need_for-needed.result (Some a))
          ∙ ap (λ n. before ++ record { needed = n; answer = Some a; carried = done } ∷ []) needed,
      ap (λ n. not (eqb n 0)) c.value.ensures,
      c.carry_out.ensures.heap,
    )
