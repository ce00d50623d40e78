use Rattle.std.proofs.Common.{◌≤◌, ℕ, List, ◌≡◌, sym, subst, ◌+◌, ◌∷◌, arith}
use Rattle.mac_base.specs.ZoneState.{ZoneState}
use Rattle.linked_zone.specs.Changes.{joined_pair}
use Rattle.linked_zone.specs.Places.{FreePair, FreeAt}
use Rattle.zone_index.specs.Marks.{AreMarked}
use Rattle.zone_index.proofs.Exchanged.{joined-marked}
use Rattle.zone_index.proofs.Rules.{Rule, fixes, goes}
use Rattle.zone_index.specs.LeafSums.{AreLeaves}
use Rattle.zone_index.specs.Leaves.{leaf}
use Rattle.mac_base.specs.declared.block.Kind.TheVariants.{Free}
use Rattle.mac_base.specs.ZoneMap.{address_after, block}
use Rattle.zone_index.specs.Pages.{page}
use Rattle.zone_index.proofs.PagesKept.{forgets-read, pages-kept, part-ends}
use Rattle.zone_index.proofs.Changed.{first_free}
use Rattle.zone_index.proofs.Changing.{pages-merge}
use Rattle.zone_index.proofs.Measured.{lengths-of}
use Rattle.zone_index.proofs.LeavesChanged.{leaf-there, leaf-touched, leaves-merge, touched-first, touched-next}
use Rattle.zone_index.proofs.zone.IndexedZone.merge.Goals as goal
use Rattle.zone_index.proofs.zone.IndexedZone.merge.Goals.{After-free_size}

-- it ends within the zone
high : (c : After-free_size) → c.args.at + c.free_size.result ≤ address_after c.args.self.now.shape c.args.self.now.heap.map
high c =
    let pair = c.requires in
    let place = pair.place in
    let size = subst (λ (z : ZoneState). (f : FreeAt z c.args.at) → c.free_size.result ≡ f.size) c.self.view_is c.free_size.ensures (first_free c.args.self.now pair) in
    let ends = part-ends c.args.self.now pair.before (block Free pair.first ∷ block Free pair.second ∷ pair.after) pair.map in
    omega arith

pub invariant_of-self : goal.invariant_of-self
invariant_of-self c =
    let pair = subst (λ (z : ZoneState). FreePair z c.args.at) (sym c.self.view_is) c.requires in
    let keep : (r : Rule) (marks : List ℕ) → AreMarked r.test c.self.inside.zone marks → AreMarked r.test c.merge.new.self marks = λ r marks are. subst (λ (z : ZoneState). AreMarked r.test z marks) (sym (c.merge.ensures pair)) (joined-marked r c.self.inside.zone marks are c.args.at pair) in
    let size = c.free_size.ensures (first_free c.self.inside.zone pair) in record {
      fixed = keep fixes _ c.self.invariant.fixed;
      purgeable = keep goes _ c.self.invariant.purgeable;
      leaves = subst (λ (z : ZoneState). AreLeaves z c.touch-2.new.self) (sym (c.merge.ensures pair))
          (leaves-merge c.self.inside.zone c.self.inside.leaves c.touch-2.new.self c.self.invariant.leaves pair
          (touched-next c.self.inside.leaves c.touch.new.self c.touch-2.new.self (c.args.at + pair.first) (touched-first c.self.inside.leaves c.touch.new.self c.args.at c.self.view_is c.leaf-low.ensures.value c.touch.ensures) c.self.view_is (subst (λ n. c.leaf_at-high.result ≡ leaf c.args.self.now.shape (c.args.at + n)) size c.leaf_at-high.ensures.value) c.touch-2.ensures));
      pages = pages-kept c.forget.new.self (c.merge.ensures pair)
          (pages-merge c.self.inside.zone c.self.inside.pages c.forget.new.self c.self.invariant.pages pair
          (forgets-read c.args.at (c.args.at + pair.first) c.self.view_is c.page-first.ensures.value
          (subst (λ n. c.page_at-last.result ≡ page c.args.self.now.shape (c.args.at + n)) size c.page_at-last.ensures.value) c.forget.ensures));
      lengths = lengths-of c.self.inside.lengths (c.merge.ensures pair) c.self.invariant.lengths;
    }

pub returns : goal.returns
returns c =
    subst (λ (z : ZoneState). (pair : FreePair z c.args.at) → c.merge.new.self ≡ joined_pair z pair) c.self.view_is c.merge.ensures

pub overflow_add-after : goal.overflow_add-after
overflow_add-after c = let end = high (goal.at.overflow_add-after c).After-free_size in let reach = c.page-first.ensures.reach in omega arith

pub page_at-last-requires-clause-high : goal.page_at-last-requires-clause-high
page_at-last-requires-clause-high c = high (goal.at.page_at-last-requires-clause-high c).After-free_size

pub leaf_at-high-requires-clause-high : goal.leaf_at-high-requires-clause-high
leaf_at-high-requires-clause-high c = high (goal.at.leaf_at-high-requires-clause-high c).After-free_size

pub touch-requires : goal.touch-requires
touch-requires c = leaf-there c.self.inside.zone c.args.self.now c.self.view_is _ c.self.inside.leaves c.self.invariant.leaves c.leaf-low.ensures.inside

pub touch-requires-2 : goal.touch-requires-2
touch-requires-2 c = leaf-touched _ _ c.self.inside.leaves c.touch.new.self c.touch.ensures (leaf-there c.self.inside.zone c.args.self.now c.self.view_is _ c.self.inside.leaves c.self.invariant.leaves c.leaf_at-high.ensures.inside)
