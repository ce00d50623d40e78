use Rattle.std.proofs.Common.{◌≡◌, List, [], ◌∷◌, ◌++◌, take, length, refl, sym, ap, ◌∙◌, subst, arith}
use Rattle.mac_base.specs.declared.releasing.ReleasingCall.{ReleasingCall}
use Rattle.mem_calls.proofs.Telling.{calls_at, calls-more, calls-same, calls-fewer, Carries, carries-none, carries-more, carries-may_note}
use Rattle.mem_calls.proofs.request.carry_out.Goals as goal
use Rattle.mem_calls.proofs.request.carry_out.Goals.{in-Some, in_default}

pub loop-place-init : goal.loop-place-init
loop-place-init g c = (carries-none c.args.zone.now c.args.protected.now (g.G.GrowZone.asks c.args.procedure.now), refl)

pub carry_one-requires : goal.carry_one-requires
carry_one-requires g c =
    let places = c.calls-place-items.result.now in
    let all : length (calls_at places) ≡ length c.args.answer.now.calls = ap (λ (calls : List ReleasingCall). length calls) c.calls-place-items.ensures in
    let fewer = calls-fewer places c.loop-place.place-index c.place-item.result c.in-Some.call c.loop-place-test.true c.place-item.is c.in-Some.is in
    carries-may_note c.args.zone.now c.args.protected.now (g.G.GrowZone.asks c.args.procedure.now) (calls_at (take c.loop-place.place-index places)) c.loop-place.zone (g.G.GrowZone.asks c.loop-place.procedure)
    c.args.answer.now c.loop-place.invariant.0 c.requires (omega (arith, all, fewer))

pub loop-place-preserved : goal.loop-place-preserved
loop-place-preserved g c =
    let places = c.calls-place-items.result.now in
    let asks = g.G.GrowZone.asks c.args.procedure.now in
    let done = calls_at (take c.loop-place.place-index places) in
    elim c.match-place.branch [
      | in-Some w ↦
          let one = w.carry_one in
          let carries = carries-more c.args.zone.now c.args.protected.now asks done w.in-Some.call c.loop-place.zone one.new.zone (g.G.GrowZone.asks c.loop-place.procedure) (g.G.GrowZone.asks one.new.procedure)
          c.loop-place.invariant.0 one.ensures.heap one.ensures.asks one.ensures.shape one.ensures.loans in (
            subst (λ (calls : List ReleasingCall). Carries c.args.zone.now c.args.protected.now asks calls c.match-place.zone (g.G.GrowZone.asks c.match-place.procedure))
                (sym (calls-more places c.loop-place.place-index c.place-item.result w.in-Some.call c.loop-place-test.true c.place-item.is w.in-Some.is))
                (subst (λ z. Carries c.args.zone.now c.args.protected.now asks (done ++ w.in-Some.call ∷ []) z (g.G.GrowZone.asks c.match-place.procedure)) (sym w.zone-is)
                (subst (λ p. Carries c.args.zone.now c.args.protected.now asks (done ++ w.in-Some.call ∷ []) one.new.zone (g.G.GrowZone.asks p)) (sym w.procedure-is) carries)),
            ap (λ p. g.G.GrowZone.source p) w.procedure-is ∙ one.ensures.source ∙ c.loop-place.invariant.1,
          )
      | in_default w ↦ (
        subst (λ (calls : List ReleasingCall). Carries c.args.zone.now c.args.protected.now asks calls c.match-place.zone (g.G.GrowZone.asks c.match-place.procedure))
            (sym (calls-same places c.loop-place.place-index c.place-item.result c.loop-place-test.true c.place-item.is w.in_default.is))
            (subst (λ z. Carries c.args.zone.now c.args.protected.now asks done z (g.G.GrowZone.asks c.match-place.procedure)) (sym w.zone-is)
            (subst (λ p. Carries c.args.zone.now c.args.protected.now asks done c.loop-place.zone (g.G.GrowZone.asks p)) (sym w.procedure-is) c.loop-place.invariant.0)),
        ap (λ p. g.G.GrowZone.source p) w.procedure-is ∙ c.loop-place.invariant.1,
      )
    ]
