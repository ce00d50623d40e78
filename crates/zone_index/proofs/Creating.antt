-- The sums of a new zone are all stale.
use Rattle.std.proofs.Common.{◌≡◌, ℕ, ◌<◌, Bool, true, List, length, get_or, replicate, refl, ap, sym, ◌∙◌, subst, arith, zero, suc}
use Rattle.std.specs.Prelude.{false}
use Rattle.std.proofs.lemmas.Bool.{false≢true}
use Rattle.std.proofs.Math.ListN.{length-replicate}
use Rattle.mac_base.specs.ZoneState.{ZoneState}
use Rattle.sum_tree.specs.Span.{no_span, heavy}
use Rattle.sum_tree.specs.Stale.{Stored}
use Rattle.zone_index.specs.declared.leaves.LeafSums.{LeafSums}
use Rattle.zone_index.specs.Free.{summing_largest}
use Rattle.zone_index.specs.Leaves.{AllNew, AreSums, Summing, leaf_count}
use Rattle.zone_index.specs.LeafSums.{AreLeaves, IsNew}
use Rattle.zone_index.specs.Rooms.{summing_rooms}

none-heavy : (n : ℕ) → heavy (replicate n no_span) ≡ 0
none-heavy zero = refl
none-heavy (suc n) = let rest = none-heavy n in omega arith

stale-there : (n j : ℕ) → j < n → get_or (replicate n true) j false ≡ true
stale-there zero j low = absurd (omega arith)
stale-there (suc n) zero low = refl
stale-there (suc n) (suc j) low = stale-there n j (omega arith)

sums-created : {M : Type 0} (s : Summing M) (z : ZoneState) (kept : Stored M) (n : ℕ) → n ≡ leaf_count z → AllNew s.empty kept n → AreSums s z kept
sums-created {M} s z kept n count new = record {
  places = long ∙ count;
  right = λ j inside fresh. absurd (false≢true (sym fresh ∙ ap (λ (bs : List Bool). get_or bs j false) new.stale ∙ stale-there n j (subst (λ k. j < k) long inside)));
}
  where
    long : length kept.sums ≡ n
    long = ap (λ (xs : List M). length xs) new.sums ∙ length-replicate n s.empty

pub leaves-created : (z : ZoneState) (l : LeafSums) → IsNew l (leaf_count z) → AreLeaves z l
leaves-created z l new = record {
  rooms = record { are = sums-created summing_rooms z l.rooms (leaf_count z) refl new.rooms; light = (let none = ap heavy new.rooms.sums ∙ none-heavy (leaf_count z) in omega arith) };
  largest = sums-created summing_largest z l.largest (leaf_count z) refl new.largest;
}
