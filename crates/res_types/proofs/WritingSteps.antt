-- The bits of one field after those of the other.
use Rattle.std.proofs.Common.{◌≡◌, ℕ, zero, suc, ◌+◌, ◌-◌, ◌<◌, Bool, true, List, ◌++◌, length, drop, Option, Some, None, Result, Ok, Err, refl, sym, ap, subst, ◌∙◌, append_assoc, append-nil, arith}
use Rattle.std.proofs.lemmas.List.{length-append, drop_at}
use Rattle.res_types.proofs.Pairs.{ok_pair}
use Rattle.res_types.specs.declared.value.Part.{Part}
use Rattle.res_types.specs.declared.stop.Stop.{Stop}
use Rattle.res_types.specs.declared.stop.Stop.TheVariants as stops
use Rattle.res_types.specs.declared.field.Count.{Count}
use Rattle.res_types.specs.declared.writing.Element.TheVariants.{Any}
use Rattle.res_types.specs.Bits.{bits_of}
use Rattle.res_types.specs.Texts.{width_of}
use Rattle.res_types.specs.Reading.{◌>>=◌, Fails, Gives}
use Rattle.res_types.specs.Writing.{Written, elements_in, fits, if_fits, number_of_count, count_bits, with_bits, write_counted, write_elements}

pub bits_twice : (front more : List Bool) (written : Written) → with_bits front (with_bits more written) ≡ with_bits (front ++ more) written
bits_twice front more (Ok x) = ap (λ (bits : List Bool). Ok (bits, x.1)) (sym (append_assoc front more x.0))
bits_twice front more (Err e) = refl

-- what is written after this
pub writes_on : (front after : List Bool) (rest : List Part) (first : Written) (next : ℕ → List Part → Written) → with_bits front first ≡ Ok (after, rest)
    → with_bits front (first >>= λ x. with_bits x.0 (next (length front + length x.0) x.1)) ≡ with_bits after (next (length after) rest)
writes_on front after rest (Ok x) next is =
    let both = ok_pair (front ++ x.0, x.1) (after, rest) is in
    let bits = both.0 in
    let left = both.1 in
    let long : length front + length x.0 ≡ length after = sym (length-append front x.0) ∙ ap (λ (t : List Bool). length t) bits in
    bits_twice front x.0 (next (length front + length x.0) x.1) ∙ ap (λ (t : List Bool). with_bits t (next (length front + length x.0) x.1)) bits
    ∙ ap (λ (n : ℕ). with_bits after (next n x.1)) long ∙ ap (λ (ps : List Part). with_bits after (next (length after) ps)) left
writes_on front after rest (Err e) next is = cc

-- a count, and then the others
pub counts_written : (front number pushed after : List Bool) (rest : List Part) (first : ℕ → Written) (next : ℕ → List Part → Written) → pushed ≡ front ++ number → with_bits pushed (first (length pushed)) ≡ Ok (after, rest)
    → with_bits front (with_bits number (first (length front + length number) >>= λ y. with_bits y.0 (next (length front + length number + length y.0) y.1))) ≡ with_bits after (next (length after) rest)
counts_written front number pushed after rest first next push is =
    let long : length front + length number ≡ length pushed = sym (length-append front number) ∙ sym (ap (λ (t : List Bool). length t) push) in
    bits_twice front number _
    ∙ ap (λ (t : List Bool). with_bits t (first (length front + length number) >>= λ y. with_bits y.0 (next (length front + length number + length y.0) y.1))) (sym push)
    ∙ ap (λ (n : ℕ). with_bits pushed (first n >>= λ y. with_bits y.0 (next (n + length y.0) y.1))) long
    ∙ writes_on pushed after rest (first (length pushed)) next is

-- what was written is so
pub fits_on : (fit : List Bool → Bool) (left : ℕ) (front after : List Bool) (rest : List Part) (first : Written) → with_bits front first ≡ Ok (after, rest) → fit (drop (length front) after) ≡ true
    → with_bits front (if_fits fit left first) ≡ Ok (after, rest)
fits_on fit left front after rest (Ok x) is ok =
    let bits = (ok_pair (front ++ x.0, x.1) (after, rest) is).0 in
    let added : drop (length front) after ≡ x.0 = ap (λ (t : List Bool). drop (length front) t) (sym bits) ∙ drop_at front x.0 (length front) refl in
    let good : fit x.0 ≡ true = ap fit (sym added) ∙ ok in
    rw good is
fits_on fit left front after rest (Err e) is ok = cc

-- the bits of a count, if it has a number
abbrev counted_bits : Count → Option ℕ → Option (List Bool)
counted_bits count None = None
counted_bits count (Some number) = Some (bits_of (width_of count.size) number)

bits_of_count : (count : Count) (elements number : ℕ) → Some number ≡ number_of_count count elements → count_bits count elements ≡ Some (bits_of (width_of count.size) number)
unfolding count_bits
bits_of_count count elements number is = ap (counted_bits count) (sym is)

counted_opens : (count : Count) (between body : ℕ → List Part → Written) (at : ℕ) (ps rest : List Part) (elements : ℕ) (bits : List Bool) → elements_in ps ≡ Ok (elements, rest) → count_bits count elements ≡ Some bits
    → write_counted count between body at ps ≡ with_bits bits (between (at + length bits) rest >>= λ y. with_bits y.0 (write_elements body (fits Any) elements (at + length bits + length y.0) y.1))
unfolding write_counted
counted_opens count between body at ps rest elements bits here some = rw (here, some) refl

-- a count that was written, fields and elements
pub counted_written : {X : Type 0} (view : X → List Bool × List Part) (result : Result X Stop) (given : Written) (ps rest left : List Part) (front pushed after : List Bool) (count : Count) (between body first others : ℕ → List Part → Written) (elements number width : ℕ)
    → given ≡ write_counted count between body (length front) ps → Ok (elements, rest) ≡ elements_in ps → Some number ≡ number_of_count count elements → width ≡ width_of count.size → pushed ≡ front ++ bits_of width number
    → first ≡ between → others ≡ body → with_bits pushed (first (length pushed) rest) ≡ Ok (after, left)
    → Gives view result (with_bits after (write_elements others (fits Any) elements (length after) left)) → Gives view result (with_bits front given)
counted_written view result given ps rest left front pushed after count between body first others elements number width is here counts same_width push same_first same_others there known =
    let bits = bits_of (width_of count.size) number in
    let push' = push ∙ ap (λ (w : ℕ). front ++ bits_of w number) same_width in
    let opens = counted_opens count between body (length front) ps rest elements bits (sym here) (bits_of_count count elements number counts) in
    let there' = subst (λ (f : ℕ → List Part → Written). with_bits pushed (f (length pushed) rest) ≡ Ok (after, left)) same_first there in
    let known' = subst (λ (f : ℕ → List Part → Written). Gives view result (with_bits after (write_elements f (fits Any) elements (length after) left))) same_others known in
    let all = ap (λ (r : Written). with_bits front r) (is ∙ opens) ∙ counts_written front bits pushed after left (λ at. between at rest) (λ at qs. write_elements body (fits Any) elements at qs) push' there' in
    subst (λ (r : Written). Gives view result r) (sym all) known'

-- nothing is written after a fault
pub stays : (front : List Bool) (e : Stop) (first : Written) (next : List Bool × List Part → Written) → Fails e (with_bits front first) → Fails e (with_bits front (first >>= next))
stays front stops.HostFull first next is = tt
stays front (stops.Unfit left) (Ok x) next is = cc
stays front (stops.Unfit left) (Err e) next is = is

-- the loop over elements
module _ (write : ℕ → List Part → Written) (fit : List Bool → Bool) (n i : ℕ) (front : List Bool) (ps : List Part) (total : Written)
    (is : with_bits front (write_elements write fit (n - i) (length front) ps) ≡ total) where
  -- another element
  pub next_element : i < n → (after : List Bool) (rest : List Part) → with_bits front (if_fits fit (length ps) (write (length front) ps)) ≡ Ok (after, rest)
      → with_bits after (write_elements write fit (n - (i + 1)) (length after) rest) ≡ total
  unfolding write_elements
  next_element less after rest here =
      let left : n - i ≡ suc (n - (i + 1)) = omega arith in
      let turn = writes_on front after rest (if_fits fit (length ps) (write (length front) ps)) (λ at t. write_elements write fit (n - (i + 1)) at t) here in
      sym turn ∙ (sym (ap (λ (k : ℕ). with_bits front (write_elements write fit k (length front) ps)) left) ∙ is)

  -- no element
  pub no_element : i < n → (e : Stop) → Fails e (with_bits front (if_fits fit (length ps) (write (length front) ps))) → Fails e total
  unfolding write_elements
  no_element less e here =
      let left : n - i ≡ suc (n - (i + 1)) = omega arith in
      let failed = stays front e (if_fits fit (length ps) (write (length front) ps)) (λ x. with_bits x.0 (write_elements write fit (n - (i + 1)) (length front + length x.0) x.1)) here in
      subst (λ (r : Written). Fails e r) (sym (ap (λ (k : ℕ). with_bits front (write_elements write fit k (length front) ps)) left) ∙ is) failed

  pub all_elements : i ≡ n → total ≡ Ok (front, ps)
  unfolding write_elements
  all_elements over =
      let left : n - i ≡ zero = omega arith in
      sym is ∙ (ap (λ (k : ℕ). with_bits front (write_elements write fit k (length front) ps)) left ∙ ap (λ (bits : List Bool). Ok (bits, ps)) (append-nil front))
