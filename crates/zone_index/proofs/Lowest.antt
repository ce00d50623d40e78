-- The lowest gap with room, from gap to gap.
use Rattle.std.proofs.Common.{cond, not, ◌≡◌, ℕ, ◌<◌, ◌≤◌, Bool, true, false, [], ◌∷◌, ◌++◌, refl, ap, ◌∙◌, arith, Some, List}
use Rattle.std.specs.Prelude.{map, nat_le, option_map}
use Rattle.std.proofs.lemmas.Bool.{and_parts, not-true, le-leb, leb-true, false_from_ne_true}
use Rattle.mac_base.specs.declared.block.Entry.{Entry}
use Rattle.mac_base.specs.Gap.{Gap, further, is_fixed, lowest_gap, room}
use Rattle.mac_base.specs.HandleTable.{HandleTable}
use Rattle.mac_base.specs.ZoneMap.{ZoneMap, free_bytes}
use Rattle.zone_laws.proofs.GapParts.{first_gap, later_gaps}
use Rattle.zone_index.specs.Runs.{none_fixed, begins_fixed, ends_fixed}

-- the lowest gap of a map that begins with one
pub first_run-is : (t : HandleTable) (run rest : ZoneMap) → none_fixed t run ≡ true → begins_fixed t rest ≡ true → first_gap t (run ++ rest) ≡ record { before = []; blocks = run; after = rest }
first_run-is t [] [] moves above = refl
first_run-is t [] (e ∷ es) moves above = ap (λ c. let g = first_gap t es in cond c (record { before = []; blocks = []; after = e ∷ es }) (record g { blocks = e ∷ g.blocks })) above
first_run-is t (d ∷ run) rest moves above =
    let parts = and_parts (not (is_fixed t d.kind)) (none_fixed t run) moves in
    ap (λ c. let g = first_gap t (run ++ rest) in cond c (record { before = []; blocks = []; after = d ∷ (run ++ rest) }) (record g { blocks = d ∷ g.blocks })) (not-true _ parts.0)
    ∙ ap (λ (g : Gap). record g { blocks = d ∷ g.blocks }) (first_run-is t run rest parts.1 above)

find-further : (k : ℕ) (e : Entry) (gs : List Gap) → lowest_gap k (map (further e) gs) ≡ option_map (further e) (lowest_gap k gs)
find-further k e [] = refl
find-further k e (g ∷ gs) = elim (nat_le k (room g)) as (λ c. cond c (Some (further e g)) (lowest_gap k (map (further e) gs)) ≡ option_map (further e) (cond c (Some g) (lowest_gap k gs))) [ true ↦ refl | false ↦ find-further k e gs ]

-- no gap after the first of these blocks and below the last has room for k bytes
abbrev pub FewBelow : HandleTable → ℕ → ZoneMap → ZoneMap → Type 0
FewBelow t k [] rest = Unit {0}
FewBelow t k (b ∷ []) rest = Unit {0}
FewBelow t k (b ∷ c ∷ bs) rest = (is_fixed t b.kind ≡ true → room (first_gap t ((c ∷ bs) ++ rest)) < k) × FewBelow t k (c ∷ bs) rest

-- then the gap after the last is the lowest of them
pub later-found : (t : HandleTable) (k : ℕ) (b : Entry) (bs run rest : ZoneMap) → ends_fixed t (b ∷ bs) ≡ true → none_fixed t run ≡ true → begins_fixed t rest ≡ true → k ≤ free_bytes run → FewBelow t k (b ∷ bs) (run ++ rest)
    → lowest_gap k (later_gaps t ((b ∷ bs) ++ (run ++ rest))) ≡ Some (record { before = b ∷ bs; blocks = run; after = rest })
later-found t k b [] run rest ends moves above fits few =
    find-further k b _ ∙ ap (λ c. option_map (further b) (lowest_gap k (cond c (first_gap t (run ++ rest) ∷ later_gaps t (run ++ rest)) (later_gaps t (run ++ rest))))) ends
    ∙ ap (λ g. option_map (further b) (lowest_gap k (g ∷ later_gaps t (run ++ rest)))) (first_run-is t run rest moves above)
    ∙ ap (λ c. option_map (further b) (cond c (Some (record { before = []; blocks = run; after = rest })) (lowest_gap k (later_gaps t (run ++ rest))))) (le-leb k (free_bytes run) fits)
later-found t k b (c ∷ bs) run rest ends moves above fits few =
    find-further k b _ ∙ ap (option_map (further b)) (by_fixed (is_fixed t b.kind) refl ∙ later-found t k c bs run rest ends moves above fits few.1)
  where
    by_fixed : (f : Bool) → is_fixed t b.kind ≡ f
        → lowest_gap k (cond (is_fixed t b.kind) (first_gap t ((c ∷ bs) ++ (run ++ rest)) ∷ later_gaps t ((c ∷ bs) ++ (run ++ rest))) (later_gaps t ((c ∷ bs) ++ (run ++ rest)))) ≡ lowest_gap k (later_gaps t ((c ∷ bs) ++ (run ++ rest)))
    by_fixed true fixed =
        ap (λ f. lowest_gap k (cond f (first_gap t ((c ∷ bs) ++ (run ++ rest)) ∷ later_gaps t ((c ∷ bs) ++ (run ++ rest))) (later_gaps t ((c ∷ bs) ++ (run ++ rest))))) fixed
        ∙ ap (λ f. cond f (Some (first_gap t ((c ∷ bs) ++ (run ++ rest)))) (lowest_gap k (later_gaps t ((c ∷ bs) ++ (run ++ rest)))))
        (false_from_ne_true _ (λ h. let le = leb-true k (room (first_gap t ((c ∷ bs) ++ (run ++ rest)))) h in let small = few.0 fixed in omega arith))
    by_fixed false loose = ap (λ f. lowest_gap k (cond f (first_gap t ((c ∷ bs) ++ (run ++ rest)) ∷ later_gaps t ((c ∷ bs) ++ (run ++ rest))) (later_gaps t ((c ∷ bs) ++ (run ++ rest))))) loose
