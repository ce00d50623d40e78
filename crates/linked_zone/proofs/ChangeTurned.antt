-- What a zone is once two runs of blocks, one after the other, have changed places.
use Rattle.std.proofs.Common.{◌≡◌, ℕ, Bool, true, not, [], ◌∷◌, ◌++◌, refl, ap, sym, ◌∙◌, subst, append_assoc, arith}
use Rattle.std.specs.List.{list_all}
use Rattle.std.proofs.lemmas.List.Folds.{list_all-append}
use Rattle.std.proofs.lemmas.Bool.{not-true, and_parts, and_from}
use Rattle.mac_base.specs.declared.block.Entry.{Entry}
use Rattle.mac_base.specs.Loans.{is_here}
use Rattle.mac_base.specs.Suits.{slots}
use Rattle.mac_base.specs.ZoneMap.{ZoneMap, is_named, address_after, contents_of}
use Rattle.mac_base.specs.ZoneState.{ZoneState}
use Rattle.zone_laws.proofs.Maps.{Exchanged, total_size-append}
use Rattle.zone_laws.proofs.Owners.{none_named}
use Rattle.linked_zone.specs.Changes.{with_map, exchanged}
use Rattle.linked_zone.specs.Fit.{Fits}
use Rattle.linked_zone.specs.Places.{MovablePair, is_movable, can_move, all_can_move}
use Rattle.linked_zone.proofs.ChangeExchanged.{exchanged-fits, exchanged-slots, exchanged-others}

-- a zone with the blocks of a run in another order
pub record Reordered (z now : ZoneState) (run : ZoneMap) : Type 0 where
  pub fits : Fits now
  pub slots : slots z.shape now.heap.map ≡ slots z.shape z.heap.map
  pub others : (y : ℕ) → none_named y run ≡ true → contents_of z.shape y now.heap.map ≡ contents_of z.shape y z.heap.map

-- a block passes one after another
passed-all : (z : ZoneState) (before : ZoneMap) (here : Entry) (blocks after : ZoneMap) → z.heap.map ≡ before ++ (here ∷ blocks ++ after) → all_can_move z.heap.table (here ∷ blocks) ≡ true → Fits z
    → Reordered z (with_map (before ++ (blocks ++ here ∷ after)) z) (here ∷ blocks)
passed-all z before here [] after was moves fits = subst (λ m. Reordered z (with_map m z) (here ∷ [])) was (record { fits = fits; slots = refl; others = λ y none. refl })
passed-all z before here (b ∷ bs) after was moves fits =
    let t = z.heap.table in
    let all = and_parts (can_move t here.kind) (all_can_move t (b ∷ bs)) moves in
    let rest = and_parts (can_move t b.kind) (all_can_move t bs) all.1 in
    let first = and_parts (is_movable here.kind) (is_here t here.kind) all.0 in
    let second = and_parts (is_movable b.kind) (is_here t b.kind) rest.0 in
    let at = address_after z.shape before in
    let pair : MovablePair z at = record {
      before = before;
      first = here;
      second = b;
      after = bs ++ after;
      map = was;
      place = refl;
      first_moves = first.0;
      second_moves = second.0;
      first_here = first.1;
      second_here = second.1;
    } in
    let later = passed-all (exchanged z pair) (before ++ b ∷ []) here bs after (sym (append_assoc before (b ∷ []) (here ∷ bs ++ after))) (and_from (can_move t here.kind) (all_can_move t bs) all.0 rest.1) (exchanged-fits z at pair fits) in
    let next : Reordered (exchanged z pair) (with_map (before ++ (b ∷ bs ++ here ∷ after)) z) (here ∷ bs) =
    subst (λ m. Reordered (exchanged z pair) (with_map m z) (here ∷ bs)) (append_assoc before (b ∷ []) (bs ++ here ∷ after)) later in
    record {
      fits = next.fits;
      slots = next.slots ∙ exchanged-slots z at pair;
      others = λ y none.
          let named = and_parts (not (is_named y here.kind)) (none_named y (b ∷ bs)) none in
          let after_named = and_parts (not (is_named y b.kind)) (none_named y bs) named.1 in
          next.others y (and_from (not (is_named y here.kind)) (none_named y bs) named.0 after_named.1)
          ∙ exchanged-others z at pair y (not-true _ named.0) (not-true _ after_named.0);
    }

-- blocks pass others, the last of them first
run-passed : (z : ZoneState) (before first second after : ZoneMap) → z.heap.map ≡ before ++ (first ++ (second ++ after)) → all_can_move z.heap.table first ≡ true → all_can_move z.heap.table second ≡ true → Fits z
    → Reordered z (with_map (before ++ (second ++ (first ++ after))) z) (first ++ second)
run-passed z before [] second after was moves others fits = subst (λ m. Reordered z (with_map m z) second) was (record { fits = fits; slots = refl; others = λ y none. refl })
run-passed z before (e ∷ es) second after was moves others fits =
    let t = z.heap.table in
    let all = and_parts (can_move t e.kind) (all_can_move t es) moves in
    let later = run-passed z (before ++ e ∷ []) es second after (was ∙ sym (append_assoc before (e ∷ []) (es ++ (second ++ after)))) all.1 others fits in
    let one : Reordered z (with_map (before ++ (e ∷ second ++ (es ++ after))) z) (es ++ second) =
    subst (λ m. Reordered z (with_map m z) (es ++ second)) (append_assoc before (e ∷ []) (second ++ (es ++ after))) later in
    let last = passed-all (with_map (before ++ (e ∷ second ++ (es ++ after))) z) before e second (es ++ after) refl (and_from (can_move t e.kind) (all_can_move t second) all.0 others) one.fits in
    record {
      fits = last.fits;
      slots = last.slots ∙ one.slots;
      others = λ y none.
          let named = and_parts (not (is_named y e.kind)) (none_named y (es ++ second)) none in
          let rest = and_parts (none_named y es) (none_named y second) (sym (list_all-append (λ (e : Entry). not (is_named y e.kind)) es second) ∙ named.1) in
          last.others y (and_from (not (is_named y e.kind)) (none_named y second) named.0 rest.1) ∙ one.others y named.1;
    }

-- two runs that can be moved, one after the other
pub record TwoRuns (z : ZoneState) : Type 0 where
  pub before : ZoneMap
  pub first : ZoneMap
  pub second : ZoneMap
  pub after : ZoneMap
  pub map : z.heap.map ≡ before ++ (first ++ (second ++ after))
  pub moves : all_can_move z.heap.table (first ++ second) ≡ true

-- the zone in which the second is before the first
abbrev pub turned : (z : ZoneState) → TwoRuns z → ZoneState
turned z runs = with_map (runs.before ++ (runs.second ++ (runs.first ++ runs.after))) z

module _ (z : ZoneState) (runs : TwoRuns z) where
  -- the blocks and those in their place
  abbrev pub runs_exchange : Exchanged z.heap.map (turned z runs).heap.map
  runs_exchange = record {
    before = runs.before;
    left = runs.first ++ runs.second;
    right = runs.second ++ runs.first;
    after = runs.after;
    was = runs.map ∙ ap (λ m. runs.before ++ m) (sym (append_assoc runs.first runs.second runs.after));
    is = ap (λ m. runs.before ++ m) (sym (append_assoc runs.second runs.first runs.after));
    as_large = (let new = total_size-append runs.second runs.first in let old = total_size-append runs.first runs.second in omega arith);
  }

  -- both can be moved
  pub runs-move : (all_can_move z.heap.table runs.first ≡ true) × (all_can_move z.heap.table runs.second ≡ true)
  runs-move = and_parts (all_can_move z.heap.table runs.first) _ (sym (list_all-append (λ (e : Entry). can_move z.heap.table e.kind) runs.first runs.second) ∙ runs.moves)

  -- the zone is as it was but for their order
  pub turned-reordered : Fits z → Reordered z (turned z runs) (runs.first ++ runs.second)
  turned-reordered fits = run-passed z runs.before runs.first runs.second runs.after runs.map runs-move.0 runs-move.1 fits

-- what all blocks of two runs pass they pass in the other order
pub all-turned : (p : Entry → Bool) (first second : ZoneMap) → list_all p (first ++ second) ≡ true → list_all p (second ++ first) ≡ true
all-turned p first second all =
    let both = and_parts (list_all p first) (list_all p second) (sym (list_all-append p first second) ∙ all) in
    list_all-append p second first ∙ and_from (list_all p second) (list_all p first) both.1 both.0
