use Rattle.std.proofs.Common.{◌≤◌, ℕ, List, ◌≡◌, sym, subst, ◌+◌, ◌∷◌, arith}
use Rattle.mac_base.specs.ZoneState.{ZoneState}
use Rattle.linked_zone.specs.Changes.{cut_in_two}
use Rattle.linked_zone.specs.Places.{CanCut}
use Rattle.zone_index.specs.Marks.{AreMarked}
use Rattle.zone_index.proofs.Exchanged.{cut-marked}
use Rattle.zone_index.proofs.Rules.{Rule, fixes, goes}
use Rattle.zone_index.specs.LeafSums.{AreLeaves}
use Rattle.mac_base.specs.declared.block.Kind.TheVariants.{Free}
use Rattle.mac_base.specs.ZoneMap.{address_after, block}
use Rattle.zone_index.proofs.PagesKept.{forgets-read, pages-kept, part-ends}
use Rattle.zone_index.proofs.Changing.{pages-split}
use Rattle.zone_index.proofs.Measured.{lengths-of}
use Rattle.zone_index.proofs.LeavesChanged.{leaf-there, leaf-touched, leaves-split, touched-first, touched-next}
use Rattle.zone_index.proofs.zone.IndexedZone.split.Goals as goal
use Rattle.zone_index.proofs.zone.IndexedZone.split.Goals.{After-page-first}

-- it ends within the zone
high : (c : After-page-first) → c.args.at + c.args.size ≤ address_after c.args.self.now.shape c.args.self.now.heap.map
high c =
    let free = c.requires.free in
    let place = free.place in
    let smaller = c.requires.smaller in
    let ends = part-ends c.args.self.now free.before (block Free free.size ∷ free.after) free.map in
    omega arith

pub invariant_of-self : goal.invariant_of-self
invariant_of-self c =
    let can = subst (λ (z : ZoneState). CanCut z c.args.at c.args.size) (sym c.self.view_is) c.requires in
    let keep : (r : Rule) (marks : List ℕ) → AreMarked r.test c.self.inside.zone marks → AreMarked r.test c.split.new.self marks = λ r marks are. subst (λ (z : ZoneState). AreMarked r.test z marks) (sym (c.split.ensures can)) (cut-marked r c.self.inside.zone marks are c.args.at c.args.size can) in record {
      fixed = keep fixes _ c.self.invariant.fixed;
      purgeable = keep goes _ c.self.invariant.purgeable;
      leaves = subst (λ (z : ZoneState). AreLeaves z c.touch-2.new.self) (sym (c.split.ensures can))
          (leaves-split c.self.inside.zone c.self.inside.leaves c.touch-2.new.self c.self.invariant.leaves can
          (touched-next c.self.inside.leaves c.touch.new.self c.touch-2.new.self (c.args.at + c.args.size) (touched-first c.self.inside.leaves c.touch.new.self c.args.at c.self.view_is c.leaf-low.ensures.value c.touch.ensures) c.self.view_is c.leaf_at-high.ensures.value c.touch-2.ensures));
      pages = pages-kept c.forget.new.self (c.split.ensures can)
          (pages-split c.self.inside.zone c.self.inside.pages c.forget.new.self c.self.invariant.pages can
          (forgets-read c.args.at (c.args.at + c.args.size) c.self.view_is c.page-first.ensures.value c.page_at-last.ensures.value c.forget.ensures));
      lengths = lengths-of c.self.inside.lengths (c.split.ensures can) c.self.invariant.lengths;
    }

pub returns : goal.returns
returns c =
    subst (λ (z : ZoneState). (can : CanCut z c.args.at c.args.size) → c.split.new.self ≡ cut_in_two c.args.size z can.free) c.self.view_is c.split.ensures

pub overflow_add-after : goal.overflow_add-after
overflow_add-after c = let end = high (goal.at.overflow_add-after c).After-page-first in let reach = c.page-first.ensures.reach in omega arith

pub page_at-last-requires-clause-high : goal.page_at-last-requires-clause-high
page_at-last-requires-clause-high c = high (goal.at.page_at-last-requires-clause-high c).After-page-first

pub leaf_at-high-requires-clause-high : goal.leaf_at-high-requires-clause-high
leaf_at-high-requires-clause-high c = high (goal.at.leaf_at-high-requires-clause-high c).After-page-first

pub touch-requires : goal.touch-requires
touch-requires c = leaf-there c.self.inside.zone c.args.self.now c.self.view_is _ c.self.inside.leaves c.self.invariant.leaves c.leaf-low.ensures.inside

pub touch-requires-2 : goal.touch-requires-2
touch-requires-2 c = leaf-touched _ _ c.self.inside.leaves c.touch.new.self c.touch.ensures (leaf-there c.self.inside.zone c.args.self.now c.self.view_is _ c.self.inside.leaves c.self.invariant.leaves c.leaf_at-high.ensures.inside)
