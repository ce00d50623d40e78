use Rattle.std.proofs.Common.{◌≡◌, ◌∙◌, ◌+◌, sym, ap, subst, refl, arith}
use Rattle.mac_base.specs.declared.request.Request.TheVariants.{NewMaster}
use Rattle.mac_base.specs.HeadKind.{need, head_size, master_length}
use Rattle.mac_base.specs.Sound.{Sound}
use Rattle.mac_base.specs.ZoneSizes.{ZoneSizes}
use Rattle.mac_base.specs.ZoneState.{ZoneState}
use Rattle.zone_heap.specs.Attempts.{IsServed}
use Rattle.zone_heap.proofs.Attempting.{chosen_cleared, master_refused, master_served}
use Rattle.zone_heap.proofs.Loans.{changed-loans, changed-fixed, keeps-both}
use Rattle.zone_heap.proofs.Masters.{first_slot, master-sound, master-keeps, master_zone, master-done, contents_near}
use Rattle.zone_heap.proofs.Pointers.{ChosenBlock, block_front, can-fix}
use Rattle.zone_heap.proofs.place.new_master.Goals as goal
use Rattle.zone_heap.proofs.place.new_master.Goals.{In-Some, After-build_master}

-- how many bytes are needed
size : (c : In-Some) → c.need_for-needed.result ≡ need c.args.zone.now.shape.heads master_length
size c = c.need_for-needed.ensures ∙ ap (λ heads. need heads master_length) (c.heads-heads.ensures ∙ ap (λ (s : ZoneSizes). s.heads) (rw c.linked.ensures at c.spec-spec.ensures.sizes))

-- the block
chosen : (c : In-Some) → ChosenBlock c.clear_lowest.new.zone master_length c.need_for-needed.result c.in-Some.at
chosen c = chosen_cleared c.args.zone.now c.clear_lowest.new.zone c.need_for-needed.result c.in-Some.at master_length (size c) c.in-Some.ensures.room c.in-Some.ensures.sound

-- the zone then
after : (c : After-build_master) (p : ChosenBlock c.clear_lowest.new.zone master_length c.need_for-needed.result c.in-Some.at) → c.build_master.new.self ≡ master_zone c.clear_lowest.new.zone c.need_for-needed.result c.in-Some.at p
after c p = master-done c.clear_lowest.new.zone c.need_for-needed.result c.in-Some.at p c.cut.new.pointers c.build_master.new.self c.cut.ensures c.build_master.ensures

pub returns-in_default-clause-attempt : goal.returns-in_default-clause-attempt
returns-in_default-clause-attempt c = master_refused c.args.zone.now c.clear_lowest.new.zone c.need_for-needed.result
    (c.need_for-needed.ensures ∙ ap (λ heads. need heads master_length) (c.heads-heads.ensures ∙ ap (λ (s : ZoneSizes). s.heads) (rw c.linked.ensures at c.spec-spec.ensures.sizes))) c.in_default.ensures.room

pub cut-requires : goal.cut-requires
cut-requires c = block_front c.clear_lowest.new.zone master_length c.need_for-needed.result c.in-Some.at (chosen (goal.at.cut-requires c).In-Some)

pub build_master-requires : goal.build_master-requires
build_master-requires c = can-fix c.clear_lowest.new.zone master_length c.need_for-needed.result c.in-Some.at (chosen (goal.at.build_master-requires c).In-Some) c.cut.new.pointers c.cut.ensures

pub overflow_add-result : goal.overflow_add-result
overflow_add-result c =
    let z = c.clear_lowest.new.zone in
    let base : c.base.result ≡ z.shape.base = c.base.ensures.value ∙ ap (λ (s : ZoneSizes). s.base) (rw c.linked.ensures at c.spec-spec.ensures.sizes) ∙ ap (λ (w : ZoneState). w.shape.base) (sym c.in-Some.ensures.room.zone) in
    let limit : c.limit.result ≡ z.shape.limit = c.limit.ensures.value ∙ ap (λ (s : ZoneSizes). s.limit) (rw c.linked.ensures at c.spec-spec.ensures.sizes) ∙ ap (λ (w : ZoneState). w.shape.limit) (sym c.in-Some.ensures.room.zone) in
    let head : c.head_size.result ≡ head_size z.shape.heads =
    c.head_size.ensures ∙ ap head_size (c.heads-heads.ensures ∙ ap (λ (s : ZoneSizes). s.heads) (rw c.linked.ensures at c.spec-spec.ensures.sizes)) ∙ ap (λ (w : ZoneState). head_size w.shape.heads) (sym c.in-Some.ensures.room.zone) in
    let near = contents_near z c.in-Some.at c.in-Some.ensures.sound.sound (chosen (goal.at.overflow_add-result c).In-Some).low.free in
    let reach = c.base.ensures.reach in
    omega arith

pub returns-clause-attempt : goal.returns-clause-attempt
returns-clause-attempt c =
    let z = c.clear_lowest.new.zone in
    let k = c.need_for-needed.result in let at = c.in-Some.at in
    let p = chosen (goal.at.returns-clause-attempt c).In-Some in
    let number : at + c.head_size.result ≡ first_slot z k at p =
    ap (λ n. at + n) (c.head_size.ensures ∙ ap head_size (c.heads-heads.ensures ∙ ap (λ (s : ZoneSizes). s.heads) (rw c.linked.ensures at c.spec-spec.ensures.sizes)) ∙ ap (λ (w : ZoneState). head_size w.shape.heads) (sym c.in-Some.ensures.room.zone)) in
    subst (λ x. IsServed NewMaster c.args.zone.now x c.build_master.new.self) (sym number)
    (master_served c.args.zone.now z k at (size (goal.at.returns-clause-attempt c).In-Some) c.in-Some.ensures.room c.build_master.new.self p (after (goal.at.returns-clause-attempt c).After-build_master p))

pub returns-clause-loans : goal.returns-clause-loans
returns-clause-loans c =
    let z = c.clear_lowest.new.zone in
    let k = c.need_for-needed.result in let at = c.in-Some.at in
    let p = chosen (goal.at.returns-clause-loans c).In-Some in
    keeps-both c.args.zone.now z c.build_master.new.self c.in-Some.ensures.loans
    (changed-loans z z (master_zone z k at p) c.build_master.new.self refl (after (goal.at.returns-clause-loans c).After-build_master p) refl refl (master-keeps z k at p))

pub returns-clause-sound : goal.returns-clause-sound
returns-clause-sound c =
    let z = c.clear_lowest.new.zone in
    let k = c.need_for-needed.result in let at = c.in-Some.at in
    let p = chosen (goal.at.returns-clause-sound c).In-Some in
    let is = after (goal.at.returns-clause-sound c).After-build_master p in
    record {
      sound = subst (λ (w : ZoneState). Sound w.shape w.heap) (sym is) (master-sound z k at p);
      fixed = changed-fixed z (master_zone z k at p) c.build_master.new.self is (master-keeps z k at p) c.in-Some.ensures.sound.fixed;
    }
