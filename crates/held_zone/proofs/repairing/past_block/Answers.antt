use Rattle.std.proofs.Common.{◌≡◌, false, ap, arith, inl, inr}
use Rattle.mac_base.specs.ZoneMap.{is_master}
use Rattle.mac_base.specs.ZoneSizes.{ZoneSizes}
use Rattle.held_zone.proofs.Keeping.{ends-within, none-within}
use Rattle.held_zone.proofs.repairing.past_block.Goals as goal

pub overflow_add-result : goal.overflow_add-result
overflow_add-result c =
    let holds = c.in_ok-block.ensures.holds in
    let below = ends-within c.args.zone.now c.args.at c.in_ok-block.block holds in
    let within = c.requires.sound.within in
    let base = ap (λ (s : ZoneSizes). s.base) c.spec.ensures.sizes in
    let value = c.base-base.ensures.value in
    let limit = ap (λ (s : ZoneSizes). s.limit) c.spec.ensures.sizes in
    let reach = c.base-base.ensures.reach in
    omega arith

pub returns-in-Free : goal.returns-in-Free
returns-in-Free c =
    let holds = c.in_ok-block.ensures.holds in
    let high = holds.high in
    let plain : is_master c.in_ok-block.block.entry.kind ≡ false = elim c.in-Free.is [
      | inl free ↦ ap is_master free
      | inr rest ↦ elim rest [
        | inl pointer ↦ ap is_master pointer.1
        | inr handle ↦ ap is_master handle.1
      ]
    ] in
    record { further = high; none = none-within c.args.zone.now c.requires.sound c.args.at c.in_ok-block.block holds plain }
