-- What is remembered of neighbouring blocks.
use Rattle.std.specs.Prelude.{◌≡◌, ℕ, ◌+◌, ◌≤◌, max, nat_lt, Bool, true, ◌&&◌, List, ◌++◌, if◌then◌else◌}
use Rattle.zone_index.specs.declared.order.Order.{Order}
use Rattle.zone_index.specs.declared.order.Passed.{Passed}
use Rattle.sum_tree.specs.declared.span.Span.{Span}
use Rattle.sum_tree.specs.declared.span.Span.TheVariants.{Whole, Parted}
use Rattle.sum_tree.specs.Span.{joined, most_in, parts}
use Rattle.zone_index.specs.declared.sums.Sums.{Sums}
use Rattle.zone_index.specs.declared.weight.Weight.{Weight}
use Rattle.zone_index.specs.Weights.{bytes_of, space_of, in_order, most}

-- one block
abbrev pub span_of : (Weight → ℕ) → Weight → Span
span_of sort w = if w.fixed then parts 0 0 0 else Whole (sort w)

-- the most that one gap has of these blocks and those after, where r lie before the first: f says it of those after
abbrev pub passed : Span → ℕ → (ℕ → ℕ) → ℕ
passed (Whole n) r f = f (r + n)
passed (Parted p) r f = max (r + p.first) (max p.most (f p.last))

-- it says of these blocks all that those after them need
abbrev pub IsSpan : (Weight → ℕ) → List Weight → Span → Type 0
IsSpan sort ws s = (r : ℕ) (after : List Weight) → most sort r (ws ++ after) ≡ passed s r (λ n. most sort n after)

-- what is found after these blocks, where a free one is before them, or none
abbrev pub after_of : Order → Bool → Passed
after_of o free = if free then o.after_free else o.after_other

-- blocks and those after them
abbrev pub passed_on : Passed → Order → Passed
passed_on p o = let q = after_of o p.free in record { arranged = p.arranged && q.arranged; free = q.free }

abbrev pub ordered : Order → Order → Order
ordered a b = record { after_free = passed_on a.after_free b; after_other = passed_on a.after_other b }

-- one block
abbrev pub order_of : Weight → Order
order_of w = record { after_free = record { arranged = w.fixed; free = nat_lt 0 w.free }; after_other = record { arranged = true; free = nat_lt 0 w.free } }

-- it says of these blocks all that those after them need
abbrev pub IsOrder : List Weight → Order → Type 0
IsOrder ws o = (free : Bool) (after : List Weight) → in_order free (ws ++ after) ≡ ((after_of o free).arranged && in_order (after_of o free).free after)

-- the sums of these blocks
pub record IsSum (ws : List Weight) (s : Sums) : Type 0 where
  pub bytes : s.bytes ≡ bytes_of ws
  pub space : s.space ≡ space_of ws
  pub spaces : IsSpan (λ (w : Weight). w.space) ws s.spaces
  pub order : IsOrder ws s.order

-- no sum is larger than that of all bytes
pub record IsWithin (s : Sums) : Type 0 where
  pub space : s.space ≤ s.bytes
  pub spaces : most_in s.spaces ≤ s.bytes

-- those of blocks and of others after them
abbrev pub both : Sums → Sums → Sums
both a b = record { bytes = a.bytes + b.bytes; space = a.space + b.space; spaces = joined a.spaces b.spaces; order = ordered a.order b.order }

-- those of one block
abbrev pub one : Weight → Sums
one w = record { bytes = w.bytes; space = w.space; spaces = span_of (λ (w : Weight). w.space) w; order = order_of w }
