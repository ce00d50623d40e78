-- A map in parts: where the gap of an address begins and ends.
use Rattle.std.proofs.Common.{◌≡◌, ◌≤◌, ℕ, Bool, true, false, cond, not, [], ◌∷◌, ◌++◌, refl, ap, arith}
use Rattle.std.proofs.lemmas.Bool.{and_from}
use Rattle.mac_base.specs.declared.block.Entry.{Entry}
use Rattle.mac_base.specs.declared.block.Kind.{Kind}
use Rattle.mac_base.specs.declared.block.Kind.TheVariants.{Free, Master, Ptr, Rel}
use Rattle.mac_base.specs.HandleTable.{HandleTable}
use Rattle.mac_base.specs.Gap.{is_fixed}
use Rattle.mac_base.specs.ZoneMap.{ZoneMap, free_bytes, free_size, is_free}
use Rattle.zone_index.specs.Runs.{none_fixed, begins_fixed, ends_fixed}

-- the blocks up to the first fixed one, and the others
pub record FirstRun (t : HandleTable) (m : ZoneMap) : Type 0 where
  pub blocks : ZoneMap
  pub after : ZoneMap
  pub parts : m ≡ blocks ++ after
  pub moves : none_fixed t blocks ≡ true
  pub above : begins_fixed t after ≡ true

-- with one more block in front
longer_run : (t : HandleTable) (e : Entry) (es : ZoneMap) → FirstRun t es → (b : Bool) → is_fixed t e.kind ≡ b → FirstRun t (e ∷ es)
longer_run t e es rest true fixed = record { blocks = []; after = e ∷ es; parts = refl; moves = refl; above = fixed }
longer_run t e es rest false moves = record { blocks = e ∷ rest.blocks; after = rest.after; parts = ap (λ m. e ∷ m) rest.parts; moves = and_from _ _ (ap not moves) rest.moves; above = rest.above }

pub first_run : (t : HandleTable) (m : ZoneMap) → FirstRun t m
first_run t [] = record { blocks = []; after = []; parts = refl; moves = refl; above = refl }
first_run t (e ∷ es) = longer_run t e es (first_run t es) (is_fixed t e.kind) refl

-- a fixed block has no free bytes
fixed-used : (k : Kind) (n : ℕ) (t : HandleTable) → is_fixed t k ≡ true → cond (is_free k) n 0 ≡ 0
fixed-used Free n t is = absurd (cc is)
fixed-used Master n t is = refl
fixed-used (Ptr p) n t is = refl
fixed-used (Rel h) n t is = refl

longer-free : (t : HandleTable) (e : Entry) (es : ZoneMap) (rest : FirstRun t es) (b : Bool) (is : is_fixed t e.kind ≡ b) → free_size e ≤ free_bytes (longer_run t e es rest b is).blocks
unfolding longer_run
longer-free t e es rest true is = let none = fixed-used e.kind e.size t is in omega arith
longer-free t e es rest false is = omega arith

-- the first block is one of them, or has none
pub run-free : (t : HandleTable) (e : Entry) (es : ZoneMap) → free_size e ≤ free_bytes (first_run t (e ∷ es)).blocks
unfolding first_run
run-free t e es = longer-free t e es (first_run t es) (is_fixed t e.kind) refl

-- the blocks up to the last fixed one, and the others
pub record LastRun (t : HandleTable) (m : ZoneMap) : Type 0 where
  pub before : ZoneMap
  pub blocks : ZoneMap
  pub parts : m ≡ before ++ blocks
  pub below : ends_fixed t before ≡ true
  pub moves : none_fixed t blocks ≡ true

-- with one more block in front
further_run : (t : HandleTable) (e : Entry) (es : ZoneMap) (before blocks : ZoneMap) → es ≡ before ++ blocks → ends_fixed t before ≡ true → none_fixed t blocks ≡ true → LastRun t (e ∷ es)
further_run t e es [] blocks parts below moves = by_fixed (is_fixed t e.kind) refl
  where
    by_fixed : (b : Bool) → is_fixed t e.kind ≡ b → LastRun t (e ∷ es)
    by_fixed true fixed = record { before = e ∷ []; blocks = blocks; parts = ap (λ m. e ∷ m) parts; below = fixed; moves = moves }
    by_fixed false loose = record { before = []; blocks = e ∷ blocks; parts = ap (λ m. e ∷ m) parts; below = refl; moves = and_from _ _ (ap not loose) moves }
further_run t e es (b ∷ bs) blocks parts below moves = record { before = e ∷ b ∷ bs; blocks = blocks; parts = ap (λ m. e ∷ m) parts; below = below; moves = moves }

pub last_run : (t : HandleTable) (m : ZoneMap) → LastRun t m
last_run t [] = record { before = []; blocks = []; parts = refl; below = refl; moves = refl }
last_run t (e ∷ es) = let rest = last_run t es in further_run t e es rest.before rest.blocks rest.parts rest.below rest.moves
