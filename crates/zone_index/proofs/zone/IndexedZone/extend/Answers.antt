use Rattle.std.proofs.Common.{ℕ, List, sym, subst, ◌≡◌, ◌+◌, arith}
use Rattle.mac_base.specs.ZoneState.{ZoneState}
use Rattle.zone_index.specs.Marks.{AreMarked}
use Rattle.zone_index.proofs.Exchanged.{extended-marked}
use Rattle.zone_index.proofs.Rules.{Rule, fixes, goes}
use Rattle.mac_base.specs.ZoneMap.{address_after}
use Rattle.zone_index.specs.LeafSums.{AreLeaves}
use Rattle.zone_index.proofs.Known.{size-known}
use Rattle.zone_index.proofs.PagesKept.{forgets-read, pages-kept}
use Rattle.zone_index.proofs.Changing.{pages-extended}
use Rattle.zone_index.proofs.Measured.{lengths-of}
use Rattle.zone_index.proofs.LeavesChanged.{leaf-there, leaves-extended, touched-first}
use Rattle.zone_index.proofs.zone.IndexedZone.extend.Goals as goal

pub invariant_of-self : goal.invariant_of-self
invariant_of-self c =
    let keep : (r : Rule) (marks : List ℕ) → AreMarked r.test c.self.inside.zone marks → AreMarked r.test c.extend.new.self marks = λ r marks are. subst (λ (z : ZoneState). AreMarked r.test z marks) (sym c.extend.ensures) (extended-marked r c.self.inside.zone marks are) in
    let size = size-known c.self.inside.zone c.spec-spec.result c.spec-spec.ensures.sizes in
    let base = c.base-base.ensures.value in
    let long = c.size.ensures.value in
    let end : c.base-base.result + c.size.result ≡ address_after c.self.inside.zone.shape c.self.inside.zone.heap.map = omega arith in record {
      fixed = keep fixes _ c.self.invariant.fixed;
      purgeable = keep goes _ c.self.invariant.purgeable;
      leaves = subst (λ (z : ZoneState). AreLeaves z c.touch.new.self) (sym c.extend.ensures)
          (leaves-extended c.self.inside.zone c.self.inside.leaves c.touch.new.self c.self.invariant.leaves end
          (touched-first c.self.inside.leaves c.touch.new.self (c.base-base.result + c.size.result) c.self.view_is c.leaf_at-leaf.ensures.value c.touch.ensures));
      pages = pages-kept c.forget.new.self c.extend.ensures
          (pages-extended c.self.inside.zone c.self.inside.pages c.forget.new.self c.self.invariant.pages end
          (forgets-read (c.base-base.result + c.size.result) (c.base-base.result + c.size.result) c.self.view_is c.page_at-page.ensures.value c.page_at-page.ensures.value c.forget.ensures));
      lengths = lengths-of c.self.inside.lengths c.extend.ensures c.self.invariant.lengths;
    }

pub touch-requires : goal.touch-requires
touch-requires c = leaf-there c.self.inside.zone c.args.self.now c.self.view_is _ c.self.inside.leaves c.self.invariant.leaves c.leaf_at-leaf.ensures.inside
