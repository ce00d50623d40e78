-- What is remembered of neighbouring blocks.
use Rattle.std.proofs.Common.{◌≡◌, ℕ, ◌+◌, ◌≤◌, Bool, true, false, cond, List, [], ◌∷◌, ◌++◌, refl, ap, sym, ◌∙◌, append_assoc, append-nil, arith}
use Rattle.std.specs.Prelude.{max, nat_lt, not, ◌&&◌, ◌||◌}
use Rattle.mac_base.specs.declared.block.Entry.{Entry}
use Rattle.mac_base.specs.Gap.{is_fixed}
use Rattle.mac_base.specs.HandleTable.{HandleTable}
use Rattle.mac_base.specs.ZoneMap.{ZoneMap, total_size, free_size, is_free}
use Rattle.zone_index.specs.declared.order.Order.{Order}
use Rattle.zone_index.specs.declared.order.Passed.{Passed}
use Rattle.sum_tree.specs.declared.span.Span.{Span}
use Rattle.sum_tree.specs.declared.span.Span.TheVariants.{Whole, Parted}
use Rattle.sum_tree.specs.Span.{joined, most_in, parts}
use Rattle.zone_index.specs.declared.sums.Sums.{Sums}
use Rattle.zone_index.specs.declared.weight.Weight.{Weight}
use Rattle.zone_index.specs.Weights.{is_space, space_size, weigh, weights, bytes_of, space_of, in_order, most}
use Rattle.zone_index.specs.Spans.{span_of, passed, after_of, ordered, order_of, passed_on, IsOrder, IsSpan, IsSum, IsWithin, both, one}
use Rattle.zone_index.proofs.Begun.{bytes-weights}

-- what is said of blocks and those after them
joined-passed : (s q : Span) (r : ℕ) (f : ℕ → ℕ) → passed (joined s q) r f ≡ passed s r (λ n. passed q n f)
joined-passed (Whole n) (Whole k) r f = ap f (let e : r + (n + k) ≡ r + n + k = omega arith in e)
joined-passed (Whole n) (Parted q) r f = omega arith
joined-passed (Parted p) (Whole k) r f = refl
joined-passed (Parted p) (Parted q) r f = omega arith

passed-same : (s : Span) (r : ℕ) (f g : ℕ → ℕ) → ((n : ℕ) → f n ≡ g n) → passed s r f ≡ passed s r g
passed-same (Whole n) r f g same = same (r + n)
passed-same (Parted p) r f g same = ap (λ n. max (r + p.first) (max p.most n)) (same p.last)

-- of two parts
pub span-join : (sort : Weight → ℕ) (a b : List Weight) (s q : Span) → IsSpan sort a s → IsSpan sort b q → IsSpan sort (a ++ b) (joined s q)
span-join sort a b s q here there = λ r after.
    ap (most sort r) (append_assoc a b after) ∙ here r (b ++ after) ∙ passed-same s r (λ n. most sort n (b ++ after)) (λ n. passed q n (λ m. most sort m after)) (λ n. there n after)
    ∙ sym (joined-passed s q r (λ n. most sort n after))

-- of none
pub span-none : (sort : Weight → ℕ) → IsSpan sort [] (Whole 0)
span-none sort = λ r after. ap (λ n. most sort n after) (let e : r ≡ r + 0 = omega arith in e)

-- of one
pub span-one : (sort : Weight → ℕ) (w : Weight) → IsSpan sort (w ∷ []) (span_of sort w)
span-one sort w = λ r after. elim w.fixed as (λ c. cond c (max r (most sort 0 after)) (most sort (r + sort w) after)
    ≡ passed (cond c (parts 0 0 0) (Whole (sort w))) r (λ n. most sort n after)) [ true ↦ omega arith | false ↦ refl ]

and-assoc : (a b c : Bool) → (a && (b && c)) ≡ ((a && b) && c)
and-assoc true b c = refl
and-assoc false b c = refl

and-true : (a : Bool) → (a && true) ≡ a
and-true true = refl
and-true false = refl

-- what is found after two parts
after-ordered : (s q : Order) (free : Bool) → after_of (ordered s q) free ≡ passed_on (after_of s free) q
after-ordered s q true = refl
after-ordered s q false = refl

-- the order of two parts
pub order-join : (a b : List Weight) (s q : Order) → IsOrder a s → IsOrder b q → IsOrder (a ++ b) (ordered s q)
order-join a b s q here there = λ free after.
    let p = after_of s free in let r = after_of q p.free in
    ap (in_order free) (append_assoc a b after) ∙ here free (b ++ after) ∙ ap (λ c. p.arranged && c) (there p.free after)
    ∙ and-assoc p.arranged r.arranged (in_order r.free after) ∙ sym (ap (λ (o : Passed). o.arranged && in_order o.free after) (after-ordered s q free))

-- that of none
abbrev pub no_order : Order
no_order = record { after_free = record { arranged = true; free = true }; after_other = record { arranged = true; free = false } }

-- no block
abbrev pub nothing : Sums
nothing = record { bytes = 0; space = 0; spaces = Whole 0; order = no_order }

pub order-none : IsOrder [] no_order
order-none = λ free after. elim free as (λ f. in_order f after
    ≡ ((after_of no_order f).arranged
    && in_order (after_of no_order f).free after)) [ true ↦ refl | false ↦ refl ]

-- of one
pub order-one : (w : Weight) → IsOrder (w ∷ []) (order_of w)
order-one w = λ free after. elim free as (λ f. ((not f || w.fixed) && in_order (nat_lt 0 w.free) after) ≡ ((after_of (order_of w) f).arranged && in_order (after_of (order_of w) f).free after)) [ true ↦ refl | false ↦ refl ]

-- of all blocks
pub order-all : (ws : List Weight) (o : Order) → IsOrder ws o → o.after_other.arranged ≡ in_order false ws
order-all ws o is = sym (and-true o.after_other.arranged) ∙ sym (is false []) ∙ ap (in_order false) (append-nil ws)

bytes-append : (a b : List Weight) → bytes_of (a ++ b) ≡ bytes_of a + bytes_of b
bytes-append [] b = omega arith
bytes-append (w ∷ ws) b = let rest = bytes-append ws b in omega arith

space-append : (a b : List Weight) → space_of (a ++ b) ≡ space_of a + space_of b
space-append [] b = omega arith
space-append (w ∷ ws) b = let rest = space-append ws b in omega arith

-- the sums of two parts
pub sum-join : (a b : List Weight) (s q : Sums) → IsSum a s → IsSum b q → IsSum (a ++ b) (both s q)
sum-join a b s q here there = record {
  bytes = (let all = bytes-append a b in let m = here.bytes in let n = there.bytes in omega arith);
  space = (let all = space-append a b in let m = here.space in let n = there.space in omega arith);
  spaces = span-join (λ (w : Weight). w.space) a b s.spaces q.spaces here.spaces there.spaces;
  order = order-join a b s.order q.order here.order there.order;
}

-- of none
pub sum-none : IsSum [] nothing
sum-none = record { bytes = refl; space = refl; spaces = span-none (λ (w : Weight). w.space); order = order-none }

-- of one
pub sum-one : (w : Weight) → IsSum (w ∷ []) (one w)
sum-one w = record { bytes = omega arith; space = omega arith; spaces = span-one (λ (w : Weight). w.space) w; order = order-one w }

passed-all : (s : Span) → passed s 0 (λ n. n) ≡ most_in s
passed-all (Whole n) = omega arith
passed-all (Parted p) = omega arith

-- the most that one gap has of all blocks
pub span-all : (sort : Weight → ℕ) (ws : List Weight) (s : Span) → IsSpan sort ws s → most_in s ≡ most sort 0 ws
span-all sort ws s is = sym (passed-all s) ∙ sym (is 0 []) ∙ ap (most sort 0) (append-nil ws)

-- it is no more than all their bytes
most-light : (t : HandleTable) (sort : Weight → ℕ) → ((e : Entry) → sort (weigh t e) ≤ e.size) → (r : ℕ) (m : ZoneMap) → most sort r (weights t m) ≤ r + total_size m
most-light t sort light r [] = omega arith
most-light t sort light r (e ∷ es) =
    let here = light e in
    let next = most-light t sort light 0 es in
    let longer = most-light t sort light (r + sort (weigh t e)) es in
    elim (is_fixed t e.kind) as (λ c. cond c (max r (most sort 0 (weights t es))) (most sort (r + sort (weigh t e)) (weights t es)) ≤ r + (e.size + total_size es)) [ true ↦ omega arith | false ↦ omega arith ]

pub free-light : (e : Entry) → free_size e ≤ e.size
free-light e = elim (is_free e.kind) as (λ c. cond c e.size 0 ≤ e.size) [ true ↦ omega arith | false ↦ omega arith ]

space-light : (t : HandleTable) (e : Entry) → space_size t e ≤ e.size
space-light t e = elim (is_space t e.kind) as (λ c. cond c e.size 0 ≤ e.size) [ true ↦ omega arith | false ↦ omega arith ]

space-within : (t : HandleTable) (m : ZoneMap) → space_of (weights t m) ≤ total_size m
space-within t [] = omega arith
space-within t (e ∷ es) = let here = space-light t e in let rest = space-within t es in omega arith

-- no sum is larger than that of all bytes
pub sum-within : (t : HandleTable) (m : ZoneMap) (s : Sums) → IsSum (weights t m) s → IsWithin s
sum-within t m s is =
    let bytes = is.bytes in
    let all = bytes-weights t m in
    record {
      space = (let space = is.space in let few = space-within t m in omega arith);
      spaces = (let most = span-all (λ (w : Weight). w.space) (weights t m) s.spaces is.spaces in let few = most-light t (λ (w : Weight). w.space) (space-light t) 0 m in omega arith);
    }
