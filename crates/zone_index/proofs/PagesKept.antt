-- Pages that are forgotten before a zone changes.
use Rattle.std.proofs.Common.{◌≡◌, ℕ, ◌+◌, ◌≤◌, List, ◌∷◌, ◌++◌, Option, IsTrue, ap, sym, ◌∙◌, subst, arith}
use Rattle.mac_base.specs.declared.block.Entry.{Entry}
use Rattle.mac_base.specs.ZoneMap.{ZoneMap, is_named, total_size, address_after}
use Rattle.mac_base.specs.ZoneState.{ZoneState}
use Rattle.linked_zone.specs.Fit.{Fits}
use Rattle.linked_zone.specs.Places.{NamedAt}
use Rattle.zone_index.proofs.Named.{names-one, same-place}
use Rattle.zone_index.specs.declared.sums.Sums.{Sums}
use Rattle.zone_index.specs.Pages.{ArePages, Forgets, page}
use Rattle.zone_laws.proofs.Maps.{total_size-append}

-- the blocks after a part end where the zone does
pub part-ends : (z : ZoneState) (front rest : ZoneMap) → z.heap.map ≡ front ++ rest → address_after z.shape front + total_size rest ≡ address_after z.shape z.heap.map
part-ends z front rest map = let all = ap total_size map ∙ total_size-append front rest in omega arith

-- what is forgotten are the pages of the addresses, as the zone was
pub forgets-read : {z l : ZoneState} {old new : List (Option Sums)} {first last : ℕ} (from to : ℕ) → z ≡ l → first ≡ page l.shape from → last ≡ page l.shape to → Forgets old new first last → Forgets old new (page z.shape from) (page z.shape to)
forgets-read {z = z} {old = old} {new = new} {first = first} {last = last} from to same first_is last_is f =
    let start = first_is ∙ ap (λ (z : ZoneState). page z.shape from) (sym same) in
    let end = last_is ∙ ap (λ (z : ZoneState). page z.shape to) (sym same) in
    subst (λ n. Forgets old new n (page z.shape to)) start (subst (λ n. Forgets old new first n) end f)

-- and the zone is what the change makes of it
pub pages-kept : {z changed : ZoneState} (pages : List (Option Sums)) → z ≡ changed → ArePages changed pages → ArePages z pages
pages-kept pages is are = subst (λ (z : ZoneState). ArePages z pages) (sym is) are

-- the block that a number names is at one place
pub named-place : (z : ZoneState) (x at : ℕ) → Fits z → NamedAt z x at → (before : ZoneMap) (here : Entry) (after : ZoneMap) → z.heap.map ≡ before ++ here ∷ after → IsTrue (is_named x here.kind) → at ≡ address_after z.shape before
named-place z x at fits b before here after map named =
    let mine = names-one z x b.before b.here b.after fits b.map b.named in
    let one = names-one z x before here after fits map named in
    let same = same-place x b.before b.here b.after before here after (sym b.map ∙ map) b.named named mine.front one.front in
    let place = b.place in
    omega arith

-- and made so long, within the blocks after it, it ends where the zone does or below
pub named-reach : (z : ZoneState) (x at size : ℕ) → Fits z → NamedAt z x at → (before : ZoneMap) (here : Entry) (after : ZoneMap) → z.heap.map ≡ before ++ here ∷ after → IsTrue (is_named x here.kind) → size ≤ here.size + total_size after
    → at + size ≤ address_after z.shape z.heap.map
named-reach z x at size fits b before here after map named within =
    let place = named-place z x at fits b before here after map named in
    let ends = part-ends z before (here ∷ after) map in
    omega arith
