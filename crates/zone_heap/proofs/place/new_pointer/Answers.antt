use Rattle.std.proofs.Common.{◌≡◌, ◌∙◌, ◌+◌, sym, ap, subst, refl}
use Rattle.mac_base.specs.declared.request.Request.TheVariants.{NewPointer}
use Rattle.mac_base.specs.HeadKind.{Shape, need, head_size}
use Rattle.mac_base.specs.Sound.{Sound}
use Rattle.mac_base.specs.ZoneSizes.{ZoneSizes}
use Rattle.mac_base.specs.ZoneState.{ZoneState}
use Rattle.zone_heap.specs.Attempts.{IsServed}
use Rattle.zone_heap.proofs.Attempting.{chosen_cleared, pointer_refused, pointer_served}
use Rattle.zone_heap.proofs.Loans.{changed-loans, changed-fixed, keeps-both}
use Rattle.zone_heap.proofs.Pointers.{ChosenBlock, pointer-sound, pointer-keeps, pointer_zone, pointer_at, block_front, can-fix, same-heads, fixed-done}
use Rattle.zone_heap.proofs.place.new_pointer.Goals as goal
use Rattle.zone_heap.proofs.place.new_pointer.Goals.{In-Some, After-fix}

-- how many bytes are needed
size : (c : In-Some) → c.need_for-needed.result ≡ need c.args.zone.now.shape.heads c.args.length
size c = c.need_for-needed.ensures ∙ ap (λ heads. need heads c.args.length) (c.heads.ensures ∙ ap (λ (s : ZoneSizes). s.heads) (rw c.linked.ensures at c.spec.ensures.sizes))

-- the block
chosen : (c : In-Some) → ChosenBlock c.clear_lowest.new.zone c.args.length c.need_for-needed.result c.in-Some.at
chosen c = chosen_cleared c.args.zone.now c.clear_lowest.new.zone c.need_for-needed.result c.in-Some.at c.args.length (size c) c.in-Some.ensures.room c.in-Some.ensures.sound

-- the zone then
after : (c : After-fix) (p : ChosenBlock c.clear_lowest.new.zone c.args.length c.need_for-needed.result c.in-Some.at) → c.fix.new.self ≡ pointer_zone c.clear_lowest.new.zone c.args.length c.need_for-needed.result c.in-Some.at p
after c p = fixed-done c.clear_lowest.new.zone c.args.length c.need_for-needed.result c.in-Some.at p c.cut.new.pointers c.cut.ensures c.fix.new.self c.fix.ensures.zone

pub returns-in_default-clause-attempt : goal.returns-in_default-clause-attempt
returns-in_default-clause-attempt c = pointer_refused c.args.zone.now c.clear_lowest.new.zone c.need_for-needed.result c.args.length
    (c.need_for-needed.ensures ∙ ap (λ heads. need heads c.args.length) (c.heads.ensures ∙ ap (λ (s : ZoneSizes). s.heads) (rw c.linked.ensures at c.spec.ensures.sizes))) c.in_default.ensures.room

pub cut-requires : goal.cut-requires
cut-requires c = block_front c.clear_lowest.new.zone c.args.length c.need_for-needed.result c.in-Some.at (chosen (goal.at.cut-requires c).In-Some)

pub fix-requires : goal.fix-requires
fix-requires c = can-fix c.clear_lowest.new.zone c.args.length c.need_for-needed.result c.in-Some.at (chosen (goal.at.fix-requires c).In-Some) c.cut.new.pointers c.cut.ensures

pub returns-clause-attempt : goal.returns-clause-attempt
returns-clause-attempt c =
    let z = c.clear_lowest.new.zone in
    let n = c.args.length in let k = c.need_for-needed.result in let at = c.in-Some.at in
    let p = chosen (goal.at.returns-clause-attempt c).In-Some in
    let number : c.fix.result ≡ pointer_at z n k at p = c.fix.ensures.pointer ∙ ap (λ (s : Shape). at + head_size s.heads) (same-heads z n k at p c.cut.new.pointers c.cut.ensures) in
    subst (λ x. IsServed (NewPointer n) c.args.zone.now x c.fix.new.self) (sym number)
    (pointer_served c.args.zone.now z k at n (size (goal.at.returns-clause-attempt c).In-Some) c.in-Some.ensures.room c.fix.new.self p (after (goal.at.returns-clause-attempt c).After-fix p))

pub returns-clause-loans : goal.returns-clause-loans
returns-clause-loans c =
    let z = c.clear_lowest.new.zone in
    let n = c.args.length in let k = c.need_for-needed.result in let at = c.in-Some.at in
    let p = chosen (goal.at.returns-clause-loans c).In-Some in
    keeps-both c.args.zone.now z c.fix.new.self c.in-Some.ensures.loans
    (changed-loans z z (pointer_zone z n k at p) c.fix.new.self refl (after (goal.at.returns-clause-loans c).After-fix p) refl refl (pointer-keeps z n k at p c.in-Some.ensures.sound.fixed))

pub returns-clause-sound : goal.returns-clause-sound
returns-clause-sound c =
    let z = c.clear_lowest.new.zone in
    let n = c.args.length in let k = c.need_for-needed.result in let at = c.in-Some.at in
    let p = chosen (goal.at.returns-clause-sound c).In-Some in
    let is = after (goal.at.returns-clause-sound c).After-fix p in
    let fixed = c.in-Some.ensures.sound.fixed in
    record {
      sound = subst (λ (w : ZoneState). Sound w.shape w.heap) (sym is) (pointer-sound z n k at p);
      fixed = changed-fixed z (pointer_zone z n k at p) c.fix.new.self is (pointer-keeps z n k at p fixed) fixed;
    }
