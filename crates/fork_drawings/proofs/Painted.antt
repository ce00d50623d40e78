-- Dots before and after something is drawn.
use Rattle.std.proofs.Common.{◌≡◌, ◌≢◌, ℕ, ◌+◌, ◌<◌, ◌≤◌, List, length, get_or, set, refl, ap, ◌∙◌, sym, subst, inl, inr, arith}
use Rattle.std.proofs.lemmas.Bool.{cases_lt}
use Rattle.std.proofs.lemmas.List.{get_or-set_same, get_or-set_other, length-set}
use Rattle.fork_pictures.specs.declared.pixel.Pixel.{Pixel}
use Rattle.fork_drawings.specs.Painting.{IsPainted, unseen}

-- nothing is drawn
pub painted_none : (old : List Pixel) (from : ℕ) (paint : ℕ → Pixel → Pixel) → IsPainted old old from from paint
painted_none old from paint = record {
  long = refl;
  before = λ place low. refl;
  inside = λ place low high. absurd (omega arith);
  past = λ place high. refl;
}

-- all of it stays as it is
pub painted_same : (old : List Pixel) (from to : ℕ) (paint : ℕ → Pixel → Pixel)
    → ((place : ℕ) → from ≤ place → place < to → (pixel : Pixel) → paint place pixel ≡ pixel) → IsPainted old old from to paint
painted_same old from to paint same = record {
  long = refl;
  before = λ place low. refl;
  inside = λ place low high. sym (same place low high (get_or old place unseen));
  past = λ place high. refl;
}

-- one more dot
next_dot : (old new : List Pixel) (from to : ℕ) (paint : ℕ → Pixel → Pixel) (pixel : Pixel) → IsPainted old new from to paint → to < length old
    → pixel ≡ paint to (get_or new to unseen) → (place : ℕ) → from ≤ place → place < to + 1
    → get_or (set new to pixel) place unseen ≡ paint place (get_or old place unseen)
next_dot old new from to paint pixel is inside drawn place low high =
    elim (cases_lt place to) [
      | inl below ↦ let other : place ≢ to = omega arith in get_or-set_other new to place pixel unseen other ∙ is.inside place low below
      | inr above ↦
          let same : to ≡ place = omega arith in
          let own : to < length new = omega (arith, is.long) in
          subst (λ (n : ℕ). get_or (set new to pixel) n unseen ≡ paint n (get_or old n unseen)) same
          (get_or-set_same new to pixel unseen own ∙ drawn ∙ ap (λ (dot : Pixel). paint to dot) (is.past to (omega arith)))
    ]

pub painted_next : (old new : List Pixel) (from to : ℕ) (paint : ℕ → Pixel → Pixel) (pixel : Pixel) → IsPainted old new from to paint → from ≤ to
    → to < length old → pixel ≡ paint to (get_or new to unseen) → IsPainted old (set new to pixel) from (to + 1) paint
painted_next old new from to paint pixel is some inside drawn = record {
  long = length-set new to pixel ∙ is.long;
  before = λ place low. let other : place ≢ to = omega arith in get_or-set_other new to place pixel unseen other ∙ is.before place low;
  inside = next_dot old new from to paint pixel is inside drawn;
  past = λ place high. let other : place ≢ to = omega arith in get_or-set_other new to place pixel unseen other ∙ is.past place (omega arith);
}

-- one piece, and the one after it
both_inside : (a b c : List Pixel) (from mid to : ℕ) (paint : ℕ → Pixel → Pixel) → IsPainted a b from mid paint → IsPainted b c mid to paint
    → (place : ℕ) → from ≤ place → place < to → get_or c place unseen ≡ paint place (get_or a place unseen)
both_inside a b c from mid to paint first second place low high =
    elim (cases_lt place mid) [
      | inl below ↦ second.before place below ∙ first.inside place low below
      | inr above ↦ second.inside place above high ∙ ap (λ (dot : Pixel). paint place dot) (first.past place above)
    ]

pub painted_both : (a b c : List Pixel) (from mid to : ℕ) (paint : ℕ → Pixel → Pixel) → IsPainted a b from mid paint → IsPainted b c mid to paint
    → from ≤ mid → mid ≤ to → IsPainted a c from to paint
painted_both a b c from mid to paint first second some more = record {
  long = second.long ∙ first.long;
  before = λ place low. second.before place (omega arith) ∙ first.before place low;
  inside = both_inside a b c from mid to paint first second;
  past = λ place high. second.past place high ∙ first.past place (omega arith);
}

-- what is drawn, in other words
pub painted_as : (a b : List Pixel) (from to : ℕ) (paint other : ℕ → Pixel → Pixel) → IsPainted a b from to paint
    → ((place : ℕ) → from ≤ place → place < to → (pixel : Pixel) → paint place pixel ≡ other place pixel) → IsPainted a b from to other
painted_as a b from to paint other is same = record {
  long = is.long;
  before = is.before;
  inside = λ place low high. is.inside place low high ∙ same place low high (get_or a place unseen);
  past = is.past;
}

-- the same, of all dots, where the others stay as they are
pub painted_all : (a b : List Pixel) (from to count : ℕ) (paint : ℕ → Pixel → Pixel) → IsPainted a b from to paint → from ≤ to → to ≤ count
    → ((place : ℕ) → place < from → (pixel : Pixel) → paint place pixel ≡ pixel)
    → ((place : ℕ) → to ≤ place → place < count → (pixel : Pixel) → paint place pixel ≡ pixel) → IsPainted a b 0 count paint
painted_all a b from to count paint is some within low high =
    painted_both a b b 0 to count paint
    (painted_both a a b 0 from to paint (painted_same a 0 from paint (λ place first below. low place below)) is (omega arith) some)
    (painted_same b to count paint (λ place above below. high place above below)) (omega arith) within
