-- One field after the other.
use Rattle.std.proofs.Common.{◌≡◌, ℕ, zero, suc, ◌+◌, ◌-◌, ◌<◌, Bool, Option, Some, None, List, [], ◌∷◌, ◌++◌, length, Result, Ok, Err, refl, sym, ap, subst, ◌∙◌, append_assoc, append-nil, arith}
use Rattle.res_types.proofs.Pairs.{ok_pair}
use Rattle.res_types.specs.declared.field.Count.{Count}
use Rattle.res_types.specs.declared.value.Part.{Part}
use Rattle.res_types.specs.declared.value.Part.TheVariants as parts
use Rattle.res_types.specs.declared.stop.Stop.{Stop}
use Rattle.res_types.specs.declared.stop.Stop.TheVariants as stops
use Rattle.res_types.specs.declared.reading.End.{End}
use Rattle.res_types.specs.Reading.{◌>>=◌, Fails, Gives, Read, or_fails, count_at, read_counted, with_front, with_least, read_elements, after_end, least_of, read_list, with_found}

pub front_twice : (front more : List Part) (read : Read) → with_front front (with_front more read) ≡ with_front (front ++ more) read
front_twice front more (Ok x) = ap (λ (ps : List Part). Ok (ps, x.1)) (sym (append_assoc front more x.0))
front_twice front more (Err e) = refl

-- what is read after this
pub reads_on : (front after : List Part) (rest : List Bool) (first : Read) (next : List Bool → Read) → with_front front first ≡ Ok (after, rest)
    → with_front front (first >>= λ x. with_front x.0 (next x.1)) ≡ with_front after (next rest)
reads_on front after rest (Ok x) next is =
    let both = ok_pair (front ++ x.0, x.1) (after, rest) is in
    let same_parts = both.0 in
    let left = both.1 in
    front_twice front x.0 (next x.1) ∙ ap (λ (ps : List Part). with_front ps (next x.1)) same_parts ∙ ap (λ (bits : List Bool). with_front after (next bits)) left
reads_on front after rest (Err e) next is = cc

-- nothing is read after a fault
pub stays : (front : List Part) (e : Stop) (first : Read) (next : List Part × List Bool → Read) → Fails e (with_front front first) → Fails e (with_front front (first >>= next))
stays front stops.HostFull first next is = tt
stays front (stops.Unfit left) (Ok x) next is = cc
stays front (stops.Unfit left) (Err e) next is = is

-- a part, and then the others
pub counts_on : (front pushed after : List Part) (part : Part) (rest : List Bool) (first : Read) (next : List Bool → Read) → pushed ≡ front ++ part ∷ [] → with_front pushed first ≡ Ok (after, rest)
    → with_front front (with_front (part ∷ []) (first >>= λ x. with_front x.0 (next x.1))) ≡ with_front after (next rest)
counts_on front pushed after part rest first next push is =
    front_twice front (part ∷ []) (first >>= λ x. with_front x.0 (next x.1))
    ∙ reads_on (front ++ part ∷ []) after rest first next (ap (λ (ps : List Part). with_front ps first) (sym push) ∙ is)

-- the same of a result that is handed on
pub counts_given : {X : Type 0} (view : X → List Part × List Bool) (result : Result X Stop) (front pushed after : List Part) (part : Part) (rest : List Bool) (first : Read) (next : List Bool → Read) → pushed ≡ front ++ part ∷ []
    → with_front pushed first ≡ Ok (after, rest) → Gives view result (with_front after (next rest)) → Gives view result (with_front front (with_front (part ∷ []) (first >>= λ x. with_front x.0 (next x.1))))
counts_given view result front pushed after part rest first next push is given =
    subst (λ (r : Read). Gives view result r) (sym (counts_on front pushed after part rest first next push is)) given

-- a count that was read, fields and elements
pub counted_read : {X : Type 0} (view : X → List Part × List Bool) (result : Result X Stop) (given : Read) (bits : List Bool) (front pushed after : List Part) (count : Count) (between body first others : List Bool → Read) (number : ℕ) (rest left : List Bool)
    → given ≡ read_counted count between body bits → Some (number, rest) ≡ count_at count bits → pushed ≡ front ++ parts.Elements number ∷ [] → first ≡ between → others ≡ body → with_front pushed (first rest) ≡ Ok (after, left)
    → Gives view result (with_front after (read_elements others number left)) → Gives view result (with_front front given)
counted_read view result given bits front pushed after count between body first others number rest left is here push same_first same_others there known =
    let counted : with_front front given ≡ with_front front (with_front (parts.Elements number ∷ []) (between rest >>= λ x. with_front x.0 (read_elements body number x.1))) =
    ap (λ (r : Read). with_front front r) (is ∙ ap (λ (o : Option (ℕ × List Bool)). or_fails bits o >>= λ n. with_front (parts.Elements n.0 ∷ []) (between n.1 >>= λ x. with_front x.0 (read_elements body n.0 x.1))) (sym here)) in
    let there' = subst (λ (f : List Bool → Read). with_front pushed (f rest) ≡ Ok (after, left)) same_first there in
    let known' = subst (λ (f : List Bool → Read). Gives view result (with_front after (read_elements f number left))) same_others known in
    subst (λ (r : Read). Gives view result r) (sym counted) (counts_given view result front pushed after (parts.Elements number) left (between rest) (λ t. read_elements body number t) push there' known')

-- the loop over elements
module _ (read : List Bool → Read) (n i : ℕ) (front : List Part) (bits : List Bool) (total : Read)
    (is : with_front front (read_elements read (n - i) bits) ≡ total) where
  -- another element
  pub next_element : i < n → (after : List Part) (rest : List Bool) → with_front front (with_least 1 bits (read bits)) ≡ Ok (after, rest)
      → with_front after (read_elements read (n - (i + 1)) rest) ≡ total
  unfolding read_elements
  next_element less after rest here =
      let left : n - i ≡ suc (n - (i + 1)) = omega arith in
      let turn = reads_on front after rest (with_least 1 bits (read bits)) (λ t. read_elements read (n - (i + 1)) t) here in
      sym turn ∙ (sym (ap (λ (k : ℕ). with_front front (read_elements read k bits)) left) ∙ is)

  -- no element
  pub no_element : i < n → (e : Stop) → Fails e (with_front front (with_least 1 bits (read bits))) → Fails e total
  unfolding read_elements
  no_element less e here =
      let left : n - i ≡ suc (n - (i + 1)) = omega arith in
      let failed = stays front e (with_least 1 bits (read bits)) (λ x. with_front x.0 (read_elements read (n - (i + 1)) x.1)) here in
      subst (λ (r : Read). Fails e r) (sym (ap (λ (k : ℕ). with_front front (read_elements read k bits)) left) ∙ is) failed

  pub all_elements : i ≡ n → total ≡ Ok (front, bits)
  unfolding read_elements
  all_elements end =
      let left : n - i ≡ zero = omega arith in
      sym is ∙ ap (λ (k : ℕ). with_front front (read_elements read k bits)) left ∙ ap (λ (ps : List Part). Ok (ps, bits)) (append-nil front)

-- the parts of an element, and those of the others
found_twice : (n : ℕ) (front after more : List Part) → front ++ more ≡ after → (found : Result (ℕ × List Part × List Bool) ℕ)
    → with_found n front (found >>= λ y. Ok (y.0 + 1, more ++ y.1, y.2)) ≡ with_found (n + 1) after found
found_twice n front after more is (Ok y) =
    let count : n + (y.0 + 1) ≡ n + 1 + y.0 = omega arith in
    let all : front ++ (more ++ y.1) ≡ after ++ y.1 = sym (append_assoc front more y.1) ∙ ap (λ (ps : List Part). ps ++ y.1) is in
    ap (λ (k : ℕ). Ok (k, front ++ (more ++ y.1), y.2)) count ∙ ap (λ (ps : List Part). Ok (n + 1 + y.0, ps, y.2)) all
found_twice n front after more is (Err e) = refl

found_on : (n : ℕ) (front after : List Part) (rest : List Bool) (first : Read) (others : List Bool → Result (ℕ × List Part × List Bool) ℕ) → with_front front first ≡ Ok (after, rest)
    → with_found n front (first >>= λ x. others x.1 >>= λ y. Ok (y.0 + 1, x.0 ++ y.1, y.2)) ≡ with_found (n + 1) after (others rest)
found_on n front after rest (Ok x) others is =
    let both = ok_pair (front ++ x.0, x.1) (after, rest) is in
    let same_parts = both.0 in
    let left = both.1 in
    found_twice n front after x.0 same_parts (others x.1) ∙ ap (λ (t : List Bool). with_found (n + 1) after (others t)) left
found_on n front after rest (Err e) others is = cc

found_stays : (n : ℕ) (front : List Part) (e : Stop) (first : Read) (next : List Part × List Bool → Result (ℕ × List Part × List Bool) ℕ) → Fails e (with_front front first) → Fails e (with_found n front (first >>= next))
found_stays n front stops.HostFull first next is = tt
found_stays n front (stops.Unfit left) (Ok x) next is = cc
found_stays n front (stops.Unfit left) (Err e) next is = let same : e ≡ left = cc in ap (λ (k : ℕ). Err k) same

-- one turn of a list, where its end is there or isn't
abbrev pub list_step : (List Bool → Read) → End → ℕ → List Bool → Option (List Bool) → Result (ℕ × List Part × List Bool) ℕ
list_step read end m bits (Some rest) = Ok (0, [], rest)
list_step read end m bits None = with_least (least_of end) bits (read bits) >>= λ x. read_list read end m x.1 >>= λ y. Ok (y.0 + 1, x.0 ++ y.1, y.2)

pub list_opens : (read : List Bool → Read) (end : End) (m : ℕ) (bits : List Bool) (o : Option (List Bool)) → after_end end bits ≡ o → read_list read end (suc m) bits ≡ list_step read end m bits o
unfolding read_list
list_opens read end m bits o is = ap (λ (p : Option (List Bool)). list_step read end m bits p) is

-- the loop over elements up to an end
module _ (read : List Bool → Read) (end : End) (n i count : ℕ) (front : List Part) (bits : List Bool) (total : Result (ℕ × List Part × List Bool) ℕ)
    (is : with_found count front (read_list read end (n - i) bits) ≡ total) where
  turn_opens : i < n → (o : Option (List Bool)) → after_end end bits ≡ o → with_found count front (list_step read end (n - (i + 1)) bits o) ≡ total
  turn_opens less o here =
      let left : n - i ≡ suc (n - (i + 1)) = omega arith in
      sym (ap (λ (k : ℕ). with_found count front (read_list read end k bits)) left ∙ ap (with_found count front) (list_opens read end (n - (i + 1)) bits o here)) ∙ is

  pub next_of_list : i < n → after_end end bits ≡ None → (least : ℕ) → least ≡ least_of end → (after : List Part) (rest : List Bool) → with_front front (with_least least bits (read bits)) ≡ Ok (after, rest)
      → with_found (count + 1) after (read_list read end (n - (i + 1)) rest) ≡ total
  next_of_list less isnt least same after rest here =
      let here' = subst (λ (k : ℕ). with_front front (with_least k bits (read bits)) ≡ Ok (after, rest)) same here in
      let turn = found_on count front after rest (with_least (least_of end) bits (read bits)) (λ t. read_list read end (n - (i + 1)) t) here' in
      sym turn ∙ turn_opens less None isnt

  pub none_of_list : i < n → after_end end bits ≡ None → (least : ℕ) → least ≡ least_of end → (e : Stop) → Fails e (with_front front (with_least least bits (read bits))) → Fails e total
  none_of_list less isnt least same e here =
      let here' = subst (λ (k : ℕ). Fails e (with_front front (with_least k bits (read bits)))) same here in
      let failed = found_stays count front e (with_least (least_of end) bits (read bits)) (λ x. read_list read end (n - (i + 1)) x.1 >>= λ y. Ok (y.0 + 1, x.0 ++ y.1, y.2)) here' in
      subst (λ (r : Result (ℕ × List Part × List Bool) ℕ). Fails e r) (turn_opens less None isnt) failed

  pub list_ends : i < n → (rest : List Bool) → after_end end bits ≡ Some rest → total ≡ Ok (count, front, rest)
  list_ends less rest here =
      let none : count + 0 ≡ count = omega arith in
      sym (turn_opens less (Some rest) here) ∙ (ap (λ (k : ℕ). Ok (k, front ++ [], rest)) none ∙ ap (λ (ps : List Part). Ok (count, ps, rest)) (append-nil front))

  pub list_stays : i ≡ n → total ≡ Err (length bits)
  unfolding read_list
  list_stays over =
      let left : n - i ≡ zero = omega arith in
      sym is ∙ ap (λ (k : ℕ). with_found count front (read_list read end k bits)) left
