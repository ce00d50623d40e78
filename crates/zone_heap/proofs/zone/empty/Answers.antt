use Rattle.std.proofs.Common.{◌≡◌, ◌∙◌, sym, ap, subst, true, false, refl}
use Rattle.std.specs.Prelude.{◌||◌}
use Rattle.mac_base.specs.HandleTable.{emptied, has_block, is_full, is_pointer}
use Rattle.mac_base.specs.Heap.{with_emptied}
use Rattle.mac_base.specs.Sound.{Sound}
use Rattle.mac_base.specs.ZoneState.{ZoneState, with_heap}
use Rattle.mac_base.specs.declared.releasing.ReleasingCall.TheVariants.{Empties}
use Rattle.zone_laws.proofs.Lent.{KeepsLent}
use Rattle.zone_laws.proofs.LentChanges.{keeps-released}
use Rattle.zone_laws.proofs.SoundReleased.{sound-emptied}
use Rattle.zone_heap.specs.Joins.{NewlyFree, all_joined}
use Rattle.zone_heap.proofs.Loans.{changed-loans, changed-fixed}
use Rattle.zone_heap.proofs.Releasing.{block_named, newly-free}
use Rattle.zone_heap.proofs.Emptying.{emptied-again}
use Rattle.zone_heap.proofs.zone.empty.Goals as goal
use Rattle.zone_heap.proofs.zone.empty.Goals.{After-join}

pub join-requires : goal.join-requires
join-requires c =
    let z = c.args.pointers.now in
    let has : has_block z.heap.table c.args.handle ≡ true = ap (λ b. b || is_pointer z.heap.table c.args.handle) (sym (rw c.linked-linked.ensures at c.is_full.ensures) ∙ c.if-is_full.true) in
    subst (λ w. NewlyFree w c.block_of-at.result) (sym c.empty.ensures)
    (newly-free z c.args.handle c.block_of-at.result (emptied c.args.handle z.heap.table) c.requires.sound.sound has (block_named z c.args.handle c.block_of-at.result (rw c.linked-linked.ensures at c.block_of-at.ensures)))

-- the zone then
abbrev after_zone : After-join → ZoneState
after_zone c = with_heap (with_emptied c.args.pointers.now.heap c.args.handle) c.args.pointers.now

-- it is that one
after : (c : After-join) → c.join.new.pointers ≡ after_zone c
after c = c.join.ensures ∙ ap all_joined c.empty.ensures

-- which keeps what is lent
kept : (c : After-join) → KeepsLent c.args.pointers.now.shape c.args.pointers.now.heap (after_zone c).heap
kept c = let z = c.args.pointers.now in keeps-released z.shape z.heap (Empties c.args.handle) c.requires.here

pub returns-then-is_full-clause-loans : goal.returns-then-is_full-clause-loans
returns-then-is_full-clause-loans c =
    let w = (goal.at.returns-then-is_full-clause-loans c).After-join in
    let z = c.args.pointers.now in
    changed-loans z z (after_zone w) c.join.new.pointers refl (after w) refl refl (kept w)

pub returns-then-is_full-clause-sound : goal.returns-then-is_full-clause-sound
returns-then-is_full-clause-sound c =
    let z = c.args.pointers.now in
    let w = (goal.at.returns-then-is_full-clause-sound c).After-join in
    record {
      sound = subst (λ (w : ZoneState). Sound w.shape w.heap) (sym (after w)) (sound-emptied z.shape z.heap c.args.handle c.requires.sound.sound c.requires.live);
      fixed = changed-fixed z (after_zone w) c.join.new.pointers (after w) (kept w) c.requires.sound.fixed;
    }

pub returns-else-is_full-clause-zone : goal.returns-else-is_full-clause-zone
returns-else-is_full-clause-zone c =
    let z = c.args.pointers.now in
    let none : is_full z.heap.table c.args.handle ≡ false = sym (rw c.linked-linked.ensures at c.is_full.ensures) ∙ c.if-is_full.false in
    ap (λ heap. with_heap heap z) (emptied-again z.shape z.heap c.args.handle c.requires.sound.sound c.requires.live none)
