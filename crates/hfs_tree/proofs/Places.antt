-- Where a byte of extents is, one extent after another.
use Rattle.std.proofs.Common.{◌≡◌, ℕ, ◌+◌, ◌-◌, ◌*◌, ◌/◌, ◌%◌, ◌<◌, ◌≤◌, List, length, drop, get_or, None, Some, refl, ◌∙◌}
use Rattle.std.proofs.lemmas.List.{at_drop_more, at_drop_all}
use Rattle.std.proofs.lemmas.Bool.{lt-ltb, le-ltb}
use Rattle.hfs_tree.specs.declared.extent.Extent.{Extent}
use Rattle.hfs_tree.specs.declared.extent.Layout.{Layout}
use Rattle.hfs_tree.specs.Extents.{place_at, place_in}

-- the extent at an index
abbrev pub extent_of : List Extent → ℕ → Extent
extent_of extents i = get_or extents i (record { start = 0; count = 0 })

-- the byte is after it
pub is_after : (layout : Layout) (extents : List Extent) (i at : ℕ) → i < length extents → (extent_of extents i).count * layout.size ≤ at
    → place_in layout (drop i extents) at ≡ place_in layout (drop (i + 1) extents) (at - (extent_of extents i).count * layout.size)
unfolding place_in
is_after layout extents i at there past =
    at_drop_more (λ xs. place_in layout xs at) extents i (record { start = 0; count = 0 }) there ∙ rw (le-ltb at ((extent_of extents i).count * layout.size) past) refl

-- or in it
pub is_in : (layout : Layout) (extents : List Extent) (i at : ℕ) → i < length extents → at < (extent_of extents i).count * layout.size
    → place_in layout (drop i extents) at ≡ place_at layout ((extent_of extents i).start + at / layout.size) (at % layout.size)
unfolding place_in
is_in layout extents i at there within =
    at_drop_more (λ xs. place_in layout xs at) extents i (record { start = 0; count = 0 }) there ∙ rw (lt-ltb at ((extent_of extents i).count * layout.size) within) refl

-- or in none
pub is_in_none : (layout : Layout) (extents : List Extent) (i at : ℕ) → length extents ≤ i → place_in layout (drop i extents) at ≡ None
unfolding place_in
is_in_none layout extents i at past = at_drop_all (λ xs. place_in layout xs at) extents i past

-- its block is one of the volume's, or is not
pub no_place : (layout : Layout) (block at : ℕ) → layout.count ≤ block → place_at layout block at ≡ None
no_place layout block at past = rw (le-ltb block layout.count past) refl

pub a_place : (layout : Layout) (block at : ℕ) → block < layout.count → place_at layout block at ≡ Some (layout.offset + (block * layout.size + at))
a_place layout block at within = rw (lt-ltb block layout.count within) refl
