-- What is odd about a fork that can be read.
use Rattle.std.specs.Prelude.{◌≡◌, ℕ, ◌+◌, ◌-◌, ◌^◌, min, nat_lt, if◌then◌else◌, List, [], ◌∷◌, ◌++◌, codes, take, Option, None, Some}
use Rattle.std.specs.List.{flat_map, fold}
use Rattle.std.specs.List.Sorted.{IsPermutation, IsSorted}
use Rattle.std.specs.Fmt.{decimal}
use Rattle.std.specs.Ordering.{nat_cmp, ordering_then}
use Rattle.std.specs.declared.cmp.Ordering.{Ordering}
use Rattle.fork_bytes.specs.Fork.{format_limits}
use Rattle.fork_salvage.specs.declared.found.FoundRow.{FoundRow}
use Rattle.fork_salvage.specs.declared.reference.FoundName.{FoundName}
use Rattle.fork_salvage.specs.declared.reference.FoundName.TheVariants.{Unnamed, Named, Outside}
use Rattle.fork_salvage.specs.declared.salvage.Item.{Item}
use Rattle.fork_salvage.specs.declared.salvage.Item.TheVariants as item
use Rattle.fork_salvage.specs.Salvage.{items}
use Rattle.fork_answer.specs.declared.warning.Pool.{Pool}
use Rattle.fork_answer.specs.declared.warning.Pool.TheVariants.{Data, Names}
use Rattle.fork_answer.specs.declared.warning.Warning.{Warning}
use Rattle.fork_answer.specs.declared.warning.Warning.TheVariants.{Overlap, OfNone}
use Rattle.fork_answer.specs.Lines.{place_text}

-- bytes that a resource has: where they begin and end, and where its reference is
abbrev pub Extent : Type 0
Extent = ℕ × ℕ × ℕ

-- so many bytes from a place on, with those of their length before them; no place is above the host's numbers
abbrev pub extent : ℕ → ℕ → ℕ → ℕ → Extent
extent before start count reference = (start - before, min (start + count) (2 ^ 64 - 1), reference)

-- the bytes of a name with its length, if there is one within the map
abbrev pub name_extent : FoundName → ℕ → List Extent
name_extent Unnamed reference = []
name_extent (Named span) reference = extent 1 span.start span.length reference ∷ []
name_extent (Outside place) reference = []

-- the bytes of a resource with their length, or those of its name
abbrev pub extent_of : Pool → FoundRow → List Extent
extent_of Data row = extent 4 row.bytes.start row.bytes.length row.reference ∷ []
extent_of Names row = name_extent row.name row.reference

-- those of an item
abbrev pub extent_in : Pool → Item → List Extent
extent_in pool (item.Row row) = extent_of pool row
extent_in pool (item.Lost lost) = []
extent_in pool item.More = []
extent_in pool (item.Run span) = []

-- the bytes that the resources of a fork have, of as many as a fork may have
abbrev pub extents_of : Pool → List ℕ → List Extent
extents_of pool fork = flat_map (extent_in pool) (take format_limits.rows (items fork))

-- the order of places: by where they begin, then by where they end, then by their references
abbrev pub extent_cmp : Extent → Extent → Ordering
extent_cmp a b = ordering_then (ordering_then (nat_cmp a.0 b.0) (nat_cmp a.1 b.1)) (nat_cmp a.2 b.2)

-- a list is those of a fork, in this order
pub record AreExtents (pool : Pool) (fork : List ℕ) (extents : List Extent) : Type 0 where
  pub same : IsPermutation (extents_of pool fork) extents
  pub sorted : IsSorted extent_cmp extents

-- of some and one more that which ends last; of those that end at one place the first
abbrev pub further : Option Extent → Extent → Option Extent
further None next = Some next
further (Some before) next = if nat_lt before.1 next.1 then Some next else Some before

-- of those in a list
abbrev pub furthest : List Extent → Option Extent
furthest extents = fold further None extents

-- what is odd about one after those of which this ends last: it begins before that end, or after it
abbrev pub oddity : Pool → Option Extent → Extent → List Warning
oddity pool None next = []
oddity pool (Some before) next =
    if nat_lt next.0 before.1 then Overlap pool next.0 before.2 next.2 ∷ []
    else (if nat_lt before.1 next.0 then OfNone pool before.1 (next.0 - before.1) ∷ [] else [])

-- what is odd about some after others
abbrev pub odd_after : Pool → List Extent → List Extent → List Warning
odd_after pool before [] = []
odd_after pool before (next ∷ others) = oddity pool (furthest before) next ++ odd_after pool (before ++ next ∷ []) others

-- the warnings are those about data, and then those about names: each is about bytes after all that come before them
pub record AreWarnings (fork : List ℕ) (warnings : List Warning) : Type 0 where
  pub contents : List Extent
  pub names : List Extent
  pub of_data : AreExtents Data fork contents
  pub of_names : AreExtents Names fork names
  pub all : warnings ≡ odd_after Data [] contents ++ odd_after Names [] names

-- what a pool is called
abbrev pub pool_text : Pool → List ℕ
pool_text Data = codes "data"
pool_text Names = codes "names"

-- a warning as text
abbrev pub warning_text : Warning → List ℕ
warning_text (Overlap pool place first second) =
    codes "the " ++ (pool_text pool ++ (codes " of two resources overlap\n  at " ++ (place_text place
    ++ (codes ", reached from the references at " ++ (place_text first ++ (codes " and " ++ place_text second))))))
warning_text (OfNone pool place count) =
    decimal count ++ (codes " bytes among the " ++ (pool_text pool ++ (codes " belong to no resource\n  at " ++ place_text place)))

-- the place that a warning names
abbrev pub place_in : Warning → ℕ
place_in (Overlap pool place first second) = place
place_in (OfNone pool place count) = place
