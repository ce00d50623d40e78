-- What the lowest gap with room is, and what lies before it.
use Rattle.std.proofs.Common.{◌≡◌, ℕ, ◌+◌, ◌<◌, Bool, true, false, not, cond, List, [], ◌∷◌, ◌++◌, Some, None, refl, ap, sym, ◌∙◌, subst, arith, IsTrue}
use Rattle.std.specs.Prelude.{◌&&◌, nat_le, find, map, option_map}
use Rattle.std.specs.List.{list_all}
use Rattle.std.proofs.lemmas.Bool.{and_parts, not-true, and_from}
use Rattle.std.proofs.lemmas.Bool.Decides.{nat_tests}
use Rattle.mac_base.specs.declared.block.Entry.{Entry}
use Rattle.mac_base.specs.declared.block.Kind.{Kind}
use Rattle.mac_base.specs.declared.block.Kind.TheVariants.{Free, Master, Ptr, Rel}
use Rattle.mac_base.specs.Arrangement.{used_blocks}
use Rattle.mac_base.specs.Gap.{Gap, gaps, gaps_with, further, is_fixed, lowest_gap, room}
use Rattle.mac_base.specs.HandleTable.{HandleTable}
use Rattle.mac_base.specs.Serve.{begins_free}
use Rattle.mac_base.specs.ZoneMap.{ZoneMap, free_bytes, has_free, is_free, total_size}
use Rattle.zone_laws.proofs.GapParts.{first_gap, first_gap-before, later_gaps, gaps-first}
use Rattle.zone_laws.proofs.PlacedParts.{option_map-Some}
use Rattle.linked_zone.specs.Places.{none_free}

-- none of these blocks is free and has k bytes
abbrev pub NoneHas : ℕ → ZoneMap → Type 0
NoneHas k m = IsTrue (list_all (λ e. not (has_free k e)) m)

-- whether a gap has room for k bytes
abbrev has_room : ℕ → Gap → Bool
has_room k g = nat_le k (room g)

-- a block that stays isn't free
fixed_none : (t : HandleTable) (k : ℕ) (e : Entry) → is_fixed t e.kind ≡ true → not (has_free k e) ≡ true
fixed_none t k e = by_kind e.kind
  where
    by_kind : (kind : Kind) → is_fixed t kind ≡ true → not (is_free kind && nat_le k e.size) ≡ true
    by_kind Free h = absurd (cc h)
    by_kind Master h = refl
    by_kind (Ptr p) h = refl
    by_kind (Rel g) h = refl

-- the search among gaps with one more block before them
find_further : (k : ℕ) (e : Entry) (gs : List Gap) → find (has_room k) (map (further e) gs) ≡ option_map (further e) (find (has_room k) gs)
find_further k e [] = refl
find_further k e (g ∷ gs) = elim (has_room k g) as (λ c. cond c (Some (further e g)) (find (has_room k) (map (further e) gs)) ≡ option_map (further e) (cond c (Some g) (find (has_room k) gs))) [
  | true ↦ refl
  | false ↦ find_further k e gs
]

-- so nothing before the one that is found has them, if nothing did before it was one block further
further_none : (k : ℕ) (e : Entry) (gs : List Gap) (g : Gap) → not (has_free k e) ≡ true → ((f : Gap) → find (has_room k) gs ≡ Some f → NoneHas k f.before) → find (has_room k) (map (further e) gs) ≡ Some g → NoneHas k g.before
further_none k e gs g here before h =
    let found = option_map-Some (further e) (find (has_room k) gs) g (sym (find_further k e gs) ∙ h) in
    let f : Gap = found.0 in
    subst (λ (g : Gap). NoneHas k g.before) found.2 (and_from (not (has_free k e)) (list_all (λ e. not (has_free k e)) f.before) here (before f found.1))

-- a gap without room has no free block with room in it
few_none : (k rest : ℕ) (e : Entry) → nat_le k (cond (is_free e.kind) e.size 0 + rest) ≡ false → not (has_free k e) ≡ true
few_none k rest e = elim (is_free e.kind) as (λ c. nat_le k (cond c e.size 0 + rest) ≡ false → not (c && nat_le k e.size) ≡ true) [
  | true ↦ λ h. numbers k e.size rest h
  | false ↦ λ h. refl
]
  where
    numbers : (k n rest : ℕ) → nat_le k (n + rest) ≡ false → not (nat_le k n) ≡ true
    numbers k n rest h = grind (arith, nat_tests)

few_after : (k n rest : ℕ) → nat_le k (n + rest) ≡ false → nat_le k rest ≡ false
few_after k n rest h = grind (arith, nat_tests)

-- no free block before the lowest gap with room has as many bytes
pub before_none : (t : HandleTable) (k : ℕ) (m : ZoneMap) (g : Gap) → lowest_gap k (gaps t m) ≡ Some g → NoneHas k g.before
before_none t k [] g h =
    let empty : Gap = record { before = []; blocks = []; after = [] } in
    elim (nat_le k 0) as (λ c. cond c (Some empty) None ≡ Some g → NoneHas k g.before) [
      | true ↦ λ is. subst (λ (g : Gap). NoneHas k g.before) (let same : empty ≡ g = cc is in same) refl
      | false ↦ λ is. absurd (cc is)
    ] h
before_none t k (e ∷ es) g h = by_kind (before_none t k es) (is_fixed t e.kind) refl h
  where
    by_kind : ((f : Gap) → lowest_gap k (gaps t es) ≡ Some f → NoneHas k f.before) → (b : Bool) → is_fixed t e.kind ≡ b → find (has_room k) (gaps_with b e es (gaps t es)) ≡ Some g → NoneHas k g.before
    by_kind before true fixed h =
        let none : Gap = record { before = []; blocks = []; after = e ∷ es } in
        elim (nat_le k 0) as (λ c. cond c (Some none) (find (has_room k) (map (further e) (gaps t es))) ≡ Some g → NoneHas k g.before) [
          | true ↦ λ is. subst (λ (g : Gap). NoneHas k g.before) (let same : none ≡ g = cc is in same) refl
          | false ↦ λ is. further_none k e (gaps t es) g (fixed_none t k e fixed) before is
        ] h
    by_kind before false moves h =
        let low : Gap = first_gap t es in
        let longer : Gap = record low { blocks = e ∷ low.blocks } in
        let later = later_gaps t es in
        elim (has_room k longer) as (λ c. has_room k longer ≡ c → cond c (Some longer) (find (has_room k) (map (further e) later)) ≡ Some g → NoneHas k g.before) [
          | true ↦ λ _ is. subst (λ (g : Gap). NoneHas k g.before) (let same : longer ≡ g = cc is in same) (subst (NoneHas k) (sym (first_gap-before t es)) refl)
          | false ↦ λ few is. further_none k e later g (few_none k (free_bytes low.blocks) e few)
              (λ f found. before f (ap (find (has_room k)) (gaps-first t es) ∙ ap (λ c. cond c (Some low) (find (has_room k) later)) (few_after k _ (free_bytes low.blocks) few) ∙ found)) is
        ] refl (sym (ap (λ gs. find (has_room k) (gaps_with false e es gs)) (gaps-first t es)) ∙ h)

-- what is used isn't free
pub used_none : (k : ℕ) (m : ZoneMap) → NoneHas k (used_blocks m)
used_none k [] = refl
used_none k (e ∷ es) = elim (is_free e.kind) as (λ c. is_free e.kind ≡ c → NoneHas k (cond (not c) (e ∷ used_blocks es) (used_blocks es))) [
  | true ↦ λ _. used_none k es
  | false ↦ λ used. and_from (not (has_free k e)) (list_all (λ e. not (has_free k e)) (used_blocks es)) (ap (λ c. not (c && nat_le k e.size)) used) (used_none k es)
] refl

-- blocks that begin with one in use don't begin with free bytes
pub used_begins : (k : ℕ) (used m : ZoneMap) → none_free used ≡ true → 0 < total_size used → begins_free k (used ++ m) ≡ false
used_begins k [] m none some = absurd (omega arith)
used_begins k (e ∷ es) m none some = ap (λ c. c && nat_le k e.size) (not-true _ (and_parts _ (none_free es) none).0)
