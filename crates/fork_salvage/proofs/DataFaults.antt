-- The bytes of the references, gone through for the first fault.
use Rattle.std.proofs.Common.{◌≡◌, ℕ, ◌+◌, ◌<◌, ◌≤◌, ◌⊎◌, inl, inr, nat_lt, if◌then◌else◌, Bool, true, false, List, [], ◌∷◌, ◌++◌, length, Result, Ok, Err, subst, refl, sym, ap, ◌∙◌, le-ltb, arith}
use Rattle.std.specs.List.{AllByRecursion}
use Rattle.std.proofs.lemmas.Bool.{cases_lt, lt-ltb}
use Rattle.std.proofs.lemmas.List.{append_assoc}
use Rattle.std.proofs.lemmas.List.Sums.{sum_by_push}
use Rattle.fork_bytes.specs.Fork.{header_of, map_of, data_of, datum_length, references_of, Reference, HasReferences, format_limits, most_bytes}
use Rattle.fork_bytes.proofs.Lists.{Ends}
use Rattle.fork_salvage.specs.declared.place.Gap.{Gap}
use Rattle.fork_salvage.specs.declared.place.Span.{Span}
use Rattle.fork_salvage.specs.declared.plan.Plan.{Plan}
use Rattle.fork_salvage.specs.declared.fault.BadRow.{BadRow}
use Rattle.fork_salvage.specs.declared.reference.Loss.{Loss}
use Rattle.fork_salvage.specs.declared.reference.Loss.TheVariants as loss
use Rattle.fork_salvage.specs.Salvage.{bytes_found, told_plan}
use Rattle.fork_salvage.specs.Fault.{HasBytes, datum_gap, bytes_gap, datum_place, bad_row, bytes_up_to, IsBadRow, IsBadSum}
use Rattle.fork_salvage.proofs.Faults.{IsLoop, loop_fails}

-- what is said of the bytes of a reference within the map
abbrev pub Says : List ℕ → Reference → Result Span Loss → Type 0
Says fork r (Ok bytes) = HasBytes fork r
    × (bytes ≡ record { start = (header_of fork).data_offset + datum_place fork r + 4; length = datum_length (data_of fork) (datum_place fork r) })
Says fork r (Err (loss.Reference gap)) = length (map_of fork) < r.place + 12
Says fork r (Err (loss.Length gap)) = datum_gap fork r 4 gap
Says fork r (Err (loss.Bytes gap)) = bytes_gap fork r gap

chosen : {X : Type 0} (P : X → Type 0) (b : Bool) (x y : X) → b ≡ true → P x → P (if b then x else y)
chosen P b x y is holds = subst P (sym (ap (λ (t : Bool). if t then x else y) is)) holds

otherwise : {X : Type 0} (P : X → Type 0) (b : Bool) (x y : X) → b ≡ false → P y → P (if b then x else y)
otherwise P b x y isnt holds = subst P (sym (ap (λ (t : Bool). if t then x else y) isnt)) holds

by_order : {X : Type 0} (P : X → Type 0) (a b : ℕ) (x y : X) → ((a < b) ⊎ (b ≤ a)) → (a < b → P x) → (b ≤ a → P y) → P (if nat_lt a b then x else y)
by_order P a b x y (inl less) below above = chosen P (nat_lt a b) x y (lt-ltb a b less) (below less)
by_order P a b x y (inr more) below above = otherwise P (nat_lt a b) x y (le-ltb a b more) (above more)

-- it is so of what is found as the fork says
said : (fork : List ℕ) (r : Reference) → Says fork r (bytes_found fork (told_plan fork) r.place)
said fork r =
    let size = length (data_of fork) in let datum = datum_place fork r in let count = datum_length (data_of fork) datum in
    let long = length (map_of fork) in
    by_order (Says fork r) long (r.place + 12) _ _ (cases_lt long (r.place + 12)) (λ outside. outside) (λ _.
    by_order (Says fork r) size (datum + 4) _ _ (cases_lt size (datum + 4)) (λ short. (short, refl)) (λ has.
    by_order (Says fork r) size (datum + 4 + count) _ _ (cases_lt size (datum + 4 + count)) (λ short. (has, short, refl)) (λ all. ((has, all), refl))))

pub found_says : (fork : List ℕ) (plan : Plan) (r : Reference) (found : Result Span Loss) → plan ≡ told_plan fork → found ≡ bytes_found fork plan r.place → Says fork r found
found_says fork plan r found is told =
    let P : Plan → Type 0 = λ p. Says fork r (bytes_found fork p r.place) in subst (Says fork r) (sym told) (subst P (sym is) (said fork r))

-- what is missing of a reference, it hasn't
pub length_fails : (fork : List ℕ) (r : Reference) (gap : Gap) → datum_gap fork r 4 gap → HasBytes fork r → ⊥
length_fails fork r gap missing has = let short = missing.0 in let first = has.0 in omega arith

pub bytes_fail : (fork : List ℕ) (r : Reference) (gap : Gap) → bytes_gap fork r gap → HasBytes fork r → ⊥
bytes_fail fork r gap missing has = let short = missing.1 in let last = has.1 in omega arith

-- the row of the first reference of which this doesn't hold
pub row_is : (fork : List ℕ) (P : Reference → Type 0) (Missing : Reference → Gap → Type 0) (left rest : List Reference) (r : Reference) (gap : Gap) (row : BadRow) →
    IsLoop P (map_of fork) left → left ≡ r ∷ rest → (P r → ⊥) → Missing r gap → row ≡ bad_row fork r gap → IsBadRow fork P Missing row
row_is fork P Missing left rest r gap row loop split fails missing is =
    let same = ap (λ (b : BadRow). b.gap) is in record {
      reference = r;
      first = loop_fails P (map_of fork) left rest r loop split fails;
      told = is ∙ ap (λ (g : Gap). bad_row fork r g) (sym same);
      missing = subst (Missing r) (sym same) missing;
    }

-- the references before the cursor have so many bytes, and those that are left have theirs
pub record IsSum (fork : List ℕ) (left : List Reference) (total : ℕ) : Type 0 where
  pub before : List Reference
  pub split : references_of (map_of fork) ≡ before ++ left
  pub ends : AllByRecursion (Ends (length (map_of fork))) left
  pub has : AllByRecursion (HasBytes fork) left
  pub sum : bytes_up_to fork before ≡ total

pub sum_start : (fork : List ℕ) (left : List Reference) → left ≡ references_of (map_of fork) → HasReferences (map_of fork) →
    AllByRecursion (HasBytes fork) (references_of (map_of fork)) → IsSum fork left 0
sum_start fork left all ends has = let P : List Reference → Type 0 = λ rs. AllByRecursion (Ends (length (map_of fork))) rs × AllByRecursion (HasBytes fork) rs in
    let both = subst P (sym all) (ends, has) in record { before = []; split = sym all; ends = both.0; has = both.1; sum = refl }

loss_fails : (fork : List ℕ) (r : Reference) (cause : Loss) → r.place + 12 ≤ length (map_of fork) → HasBytes fork r → Says fork r (Err cause) → ⊥
loss_fails fork r (loss.Reference gap) ends has says = omega arith
loss_fails fork r (loss.Length gap) ends has says = length_fails fork r gap says has
loss_fails fork r (loss.Bytes gap) ends has says = bytes_fail fork r gap says has

-- the next reference isn't without its bytes
pub none_lost : (fork : List ℕ) (left rest : List Reference) (r : Reference) (total : ℕ) (cause : Loss) → IsSum fork left total → left ≡ r ∷ rest →
    Says fork r (Err cause) → ⊥
none_lost fork left rest r total cause so_far is says =
    let P : List Reference → Type 0 = λ rs. AllByRecursion (Ends (length (map_of fork))) rs × AllByRecursion (HasBytes fork) rs in
    let both = subst P is (so_far.ends, so_far.has) in loss_fails fork r cause both.0.0 both.1.0 says

pushed : (fork : List ℕ) (left rest : List Reference) (r : Reference) (total more : ℕ) (so_far : IsSum fork left total) →
    more ≡ total + (4 + datum_length (data_of fork) (datum_place fork r)) → bytes_up_to fork (so_far.before ++ r ∷ []) ≡ more
pushed fork left rest r total more so_far is =
    let sum = so_far.sum in
    let push = sum_by_push (λ (s : Reference). 4 + datum_length (data_of fork) (datum_place fork s)) so_far.before r in omega arith

pub sum_step : (fork : List ℕ) (left rest : List Reference) (r : Reference) (total more : ℕ) → IsSum fork left total → left ≡ r ∷ rest →
    more ≡ total + (4 + datum_length (data_of fork) (datum_place fork r)) → IsSum fork rest more
sum_step fork left rest r total more so_far is added =
    let P : List Reference → Type 0 = λ rs. AllByRecursion (Ends (length (map_of fork))) rs × AllByRecursion (HasBytes fork) rs in
    let both = subst P is (so_far.ends, so_far.has) in record {
      before = so_far.before ++ r ∷ [];
      split = so_far.split ∙ ap (λ (xs : List Reference). so_far.before ++ xs) is ∙ sym (append_assoc so_far.before (r ∷ []) rest);
      ends = both.0.1;
      has = both.1.1;
      sum = pushed fork left rest r total more so_far added;
    }

pub sum_fails : (fork : List ℕ) (left rest : List Reference) (r : Reference) (total more most : ℕ) (gap : Gap) (row : BadRow) → most ≡ most_bytes format_limits (length (data_of fork)) → IsSum fork left total → left ≡ r ∷ rest →
    more ≡ total + (4 + datum_length (data_of fork) (datum_place fork r)) → total ≤ most → most < more →
    gap ≡ record { place = (header_of fork).data_offset + datum_place fork r; wanted = more; left = most } → row ≡ bad_row fork r gap → IsBadSum fork row
sum_fails fork left rest r total more most gap row bound so_far is added few many gap_is row_told =
    let same = ap (λ (b : BadRow). b.gap) row_told in
    let sum = so_far.sum in let wanted = pushed fork left rest r total more so_far added in record {
      before = so_far.before;
      reference = r;
      after = rest;
      split = so_far.split ∙ ap (λ (xs : List Reference). so_far.before ++ xs) is;
      few = omega arith;
      many = omega arith;
      told = row_told ∙ ap (λ (g : Gap). bad_row fork r g) (sym same);
      gap = same ∙ gap_is ∙ ap (λ (n : ℕ). record { place = (header_of fork).data_offset + datum_place fork r; wanted = n; left = most }) (sym wanted)
          ∙ ap (λ (n : ℕ). record { place = (header_of fork).data_offset + datum_place fork r; wanted = bytes_up_to fork (so_far.before ++ r ∷ []); left = n }) bound;
    }
