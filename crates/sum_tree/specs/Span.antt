-- What gaps have of a sort of bytes.
use Rattle.std.specs.Prelude.{◌≡◌, ℕ, ◌+◌, ◌^◌, ◌<◌, max, List, [], ◌∷◌, refl}
use Rattle.std.proofs.Common.{ap, arith}
use Rattle.sum_tree.specs.Monoids.{MonoidLaws}
use Rattle.sum_tree.specs.declared.span.Span.{Span}
use Rattle.sum_tree.specs.declared.span.Span.TheVariants.{Whole, Parted}

-- the most that one gap has of them
abbrev pub most_in : Span → ℕ
most_in (Whole n) = n
most_in (Parted p) = max p.first (max p.most p.last)

-- of no block
abbrev pub no_span : Span
no_span = Whole 0

-- blocks some of which are fixed
abbrev pub parts : ℕ → ℕ → ℕ → Span
parts first most last = Parted (record { first = first; most = most; last = last })

-- blocks and those after them
abbrev pub joined : Span → Span → Span
joined (Whole n) (Whole k) = Whole (n + k)
joined (Whole n) (Parted q) = parts (n + q.first) q.most q.last
joined (Parted p) (Whole k) = parts p.first p.most (p.last + k)
joined (Parted p) (Parted q) = parts p.first (max p.most (max (p.last + q.first) q.most)) q.last

-- all its numbers fit 32 bits
abbrev pub SpanFits : Span → Type 0
SpanFits (Whole n) = n < 2 ^ 32
SpanFits (Parted p) = (p.first < 2 ^ 32) × (p.most < 2 ^ 32) × (p.last < 2 ^ 32)

left-none : (x : Span) → joined no_span x ≡ x
left-none (Whole n) = ap Whole (omega arith)
left-none (Parted p) = ap (λ n. parts n p.most p.last) (omega arith)

right-none : (x : Span) → joined x no_span ≡ x
right-none (Whole n) = ap Whole (omega arith)
right-none (Parted p) = ap (parts p.first p.most) (omega arith)

joined-assoc : (x y z : Span) → joined (joined x y) z ≡ joined x (joined y z)
joined-assoc (Whole a) (Whole b) (Whole c) = ap Whole (omega arith)
joined-assoc (Whole a) (Whole b) (Parted r) = ap (λ n. parts n r.most r.last) (omega arith)
joined-assoc (Whole a) (Parted q) (Whole c) = refl
joined-assoc (Whole a) (Parted q) (Parted r) = refl
joined-assoc (Parted p) (Whole b) (Whole c) = ap (parts p.first p.most) (omega arith)
joined-assoc (Parted p) (Whole b) (Parted r) = ap (λ n. parts p.first n r.last) (omega arith)
joined-assoc (Parted p) (Parted q) (Whole c) = refl
joined-assoc (Parted p) (Parted q) (Parted r) = ap (λ n. parts p.first n r.last) (omega arith)

left-fits : (x y : Span) → SpanFits (joined x y) → SpanFits x
left-fits (Whole n) (Whole k) fits = omega arith
left-fits (Whole n) (Parted q) fits = omega arith
left-fits (Parted p) (Whole k) fits = (omega arith, omega arith, omega arith)
left-fits (Parted p) (Parted q) fits = (omega arith, omega arith, omega arith)

right-fits : (x y : Span) → SpanFits (joined x y) → SpanFits y
right-fits (Whole n) (Whole k) fits = omega arith
right-fits (Whole n) (Parted q) fits = (omega arith, omega arith, omega arith)
right-fits (Parted p) (Whole k) fits = omega arith
right-fits (Parted p) (Parted q) fits = (omega arith, omega arith, omega arith)

pub span_laws : MonoidLaws no_span joined SpanFits
span_laws = record {
  left_identity = left-none;
  right_identity = right-none;
  assoc = joined-assoc;
  fits_empty = omega arith;
  fits_left = left-fits;
  fits_right = right-fits;
}

-- what the numbers of a span come to
abbrev pub weight : Span → ℕ
weight (Whole n) = n
weight (Parted p) = p.first + p.most + p.last

-- and those of many
abbrev pub heavy : List Span → ℕ
heavy [] = 0
heavy (x ∷ xs) = weight x + heavy xs
