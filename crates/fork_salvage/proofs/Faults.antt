-- The references that a fork names, gone through for the first fault.
use Rattle.std.proofs.Common.{◌≡◌, ℕ, zero, suc, ◌+◌, ◌-◌, ◌*◌, ◌<◌, ◌≤◌, List, [], ◌∷◌, ◌++◌, length, map, nat_lt, if◌then◌else◌, true, false, Option, None, Some, subst, refl, sym, ap, ◌∙◌, le-ltb, lt-ltb, arith}
use Rattle.std.specs.Prelude.{sum_by}
use Rattle.std.specs.List.{flat_map, AllByRecursion}
use Rattle.std.proofs.lemmas.Bool.{cond-true, cond-false}
use Rattle.std.proofs.lemmas.List.Sums.{sum_by-cons}
use Rattle.std.proofs.lemmas.List.{append_assoc, length-append}
use Rattle.fork_bytes.specs.Fork.{Reference, places, references_in, references_of, entry_at, map_of, type_list, type_count, HasReferences, format_limits, most_rows}
use Rattle.fork_bytes.proofs.Lists as lists
use Rattle.fork_bytes.proofs.Placing.{all_push, length-part}
use Rattle.fork_salvage.specs.declared.entry.ReferenceList.{ReferenceList}
use Rattle.fork_salvage.specs.declared.entry.Types.{Types}
use Rattle.fork_salvage.specs.declared.plan.Plan.{Plan}
use Rattle.fork_salvage.specs.declared.cursor.Cursor.{Cursor}
use Rattle.fork_salvage.specs.Salvage.{map_in, most_listed, told_plan, told_types, told_count, told_list, list_end, references_at, references}
use Rattle.fork_salvage.specs.Plans.{left_of, IsTold}
use Rattle.fork_salvage.specs.declared.fault.Excess.{Excess}
use Rattle.fork_salvage.specs.declared.fault.Fault.{Fault}
use Rattle.fork_salvage.specs.declared.fault.Fault.TheVariants as fault
use Rattle.fork_salvage.specs.Fault.{IsFirst, EndsWithin, entry_place, excess_of}
use Rattle.fork_salvage.proofs.Cursors.{left_at_first}

-- the lists of a map, by their indices and by their places
same_lists : (m : List ℕ) (n i at : ℕ) → at ≡ type_list m + 2 + 8 * i →
    flat_map (λ k. references_at (told_list m (told_types m) k)) (places n i 1) ≡ flat_map references_in (map (entry_at m) (places n at 8))
same_lists m zero i at is = refl
same_lists m (suc n) i at is =
    ap (λ (a : ℕ). references_in (entry_at m a) ++ flat_map (λ k. references_at (told_list m (told_types m) k)) (places n (i + 1) 1)) (sym is)
    ∙ ap (λ (xs : List Reference). references_in (entry_at m at) ++ xs) (same_lists m n (i + 1) (at + 8) (omega arith))

-- the references of a plan as the fork gives it are those of the fork
pub told_references : (fork : List ℕ) (plan : Plan) → plan ≡ told_plan fork → references fork plan ≡ references_of (map_of fork)
told_references fork plan is =
    let m = map_of fork in let n = type_count m in
    let whole : n - 0 ≡ n = omega arith in
    ap (λ (p : Plan). references fork p) is ∙ ap (λ (k : ℕ). flat_map (λ k. references_at (told_list m (told_types m) k)) (places k 0 1)) whole
    ∙ same_lists m n 0 (type_list m + 2) (omega arith)

pub map_told : (fork : List ℕ) (plan : Plan) → plan ≡ told_plan fork → map_in fork plan ≡ map_of fork
map_told fork plan is = ap (map_in fork) is

-- the entries name just as many as there are
count_from : (m : List ℕ) (types : Types) (n i : ℕ) →
    sum_by (λ k. (told_list m types k).count) (places n i 1) ≡ length (flat_map (λ k. references_at (told_list m types k)) (places n i 1))
count_from m types zero i = refl
count_from m types (suc n) i =
    let list = told_list m types i in let others = count_from m types n (i + 1) in
    let sum = sum_by-cons (λ k. (told_list m types k).count) i (places n (i + 1) 1) in
    let both = length-append (references_at list) (flat_map (λ k. references_at (told_list m types k)) (places n (i + 1) 1)) in
    let long = lists.length-references list.kind list.count list.start in omega arith

pub counted : (fork : List ℕ) (plan : Plan) → plan ≡ told_plan fork → told_count (map_in fork plan) plan.types ≡ length (references_of (map_of fork))
counted fork plan is =
    let m = map_of fork in let n = type_count m in
    ap (λ (p : Plan). told_count (map_in fork p) p.types) is ∙ count_from m (told_types m) n 0
    ∙ ap (λ (xs : List Reference). length xs) (same_lists m n 0 (type_list m + 2) (omega arith))

-- how many references there are, and how many are read, is what a fault says
abbrev excess_with : ℕ → ℕ → ℕ → Excess
excess_with count map_length most = record { count = count; map_length = map_length; most = most }

pub is_excess : (fork : List ℕ) (plan : Plan) (m : List ℕ) (count most : ℕ) → plan ≡ told_plan fork → m ≡ map_in fork plan → count ≡ told_count m plan.types →
    most ≡ most_listed fork plan → excess_with count (length m) most ≡ excess_of fork
is_excess fork plan m count most is same counts limit =
    let told = map_told fork plan is in
    let all = counts ∙ ap (λ (x : List ℕ). told_count x plan.types) same ∙ counted fork plan is in
    let size = ap (λ (x : List ℕ). length x) (same ∙ told) in
    let room = limit ∙ ap (λ (x : List ℕ). most_rows format_limits (length x)) told in
    ap (λ (n : ℕ). excess_with n (length m) most) all
    ∙ ap (λ (n : ℕ). excess_with (length (references_of (map_of fork))) n most) size
    ∙ ap (excess_with (length (references_of (map_of fork))) (length (map_of fork))) room

-- they are too many, or not
abbrev fault_by : Excess → Option Fault
fault_by excess = if nat_lt excess.most excess.count then Some (fault.RowCount excess) else None

pub too_many : (excess said : Excess) → excess ≡ said → excess.most < excess.count → Some (fault.RowCount excess) ≡ fault_by said
too_many excess said same many =
    let test : nat_lt excess.most excess.count ≡ true = lt-ltb excess.most excess.count many in sym (cond-true _ _ _ test) ∙ ap fault_by same

pub few_enough : (excess said : Excess) → excess ≡ said → excess.count ≤ excess.most → None ≡ fault_by said
few_enough excess said same few =
    let test : nat_lt excess.most excess.count ≡ false = le-ltb excess.most excess.count few in sym (cond-false _ _ _ test) ∙ ap fault_by same

-- the references of a map: those before hold, and those that are left lie within it
pub record IsLoop (P : Reference → Type 0) (m : List ℕ) (left : List Reference) : Type 0 where
  pub before : List Reference
  pub split : references_of m ≡ before ++ left
  pub hold : AllByRecursion P before
  pub ends : AllByRecursion (lists.Ends (length m)) left

pub loop_start : (P : Reference → Type 0) (fork : List ℕ) (plan : Plan) (cursor : Cursor) → plan ≡ told_plan fork → HasReferences (map_of fork) →
    cursor.list.count ≡ 0 → cursor.next ≡ 0 → IsLoop P (map_of fork) (left_of fork plan cursor)
loop_start P fork plan cursor is has none first =
    let all = left_at_first fork plan cursor none first ∙ told_references fork plan is in
    let Q : List Reference → Type 0 = AllByRecursion (lists.Ends (length (map_of fork))) in
    record { before = []; split = sym all; hold = tt; ends = subst Q (sym all) has }

loop_split : (whole before left rest : List Reference) (r : Reference) → whole ≡ before ++ left → left ≡ r ∷ rest → whole ≡ before ++ r ∷ rest
loop_split whole before left rest r split is = split ∙ ap (λ (xs : List Reference). before ++ xs) is

pub loop_step : (P : Reference → Type 0) (m : List ℕ) (left rest : List Reference) (r : Reference) → IsLoop P m left → left ≡ r ∷ rest → P r → IsLoop P m rest
loop_step P m left rest r told is holds =
    let Q : List Reference → Type 0 = AllByRecursion (lists.Ends (length m)) in record {
      before = told.before ++ r ∷ [];
      split = loop_split _ told.before left rest r told.split is ∙ sym (append_assoc told.before (r ∷ []) rest);
      hold = all_push P told.before r told.hold holds;
      ends = (subst Q is told.ends).1;
    }

pub loop_fails : (P : Reference → Type 0) (m : List ℕ) (left rest : List Reference) (r : Reference) → IsLoop P m left → left ≡ r ∷ rest → (P r → ⊥) →
    IsFirst P (references_of m) r
loop_fails P m left rest r told is fails =
    record { before = told.before; after = rest; split = loop_split _ told.before left rest r told.split is; hold = told.hold; fails = fails }

-- a list that ends within the map of such a plan
pub ends_told : (fork : List ℕ) (plan : Plan) (i : ℕ) (list : ReferenceList) → IsTold fork plan → list ≡ told_list (map_in fork plan) plan.types i →
    (0 < list.count → list.start + 12 * list.count ≤ plan.map.length) → EndsWithin (map_of fork) i
ends_told fork plan i list is same ends =
    let P : ReferenceList → Type 0 = λ l. 0 < l.count → l.start + 12 * l.count ≤ plan.map.length in
    let long = length-part plan.map.length plan.map.start fork is.within.map in
    let here = subst P same ends in
    let Q : ℕ → Type 0 = λ n. 0 < (told_list (map_in fork plan) plan.types i).count → list_end (told_list (map_in fork plan) plan.types i) ≤ n in
    let R : Plan → Type 0 = λ p. 0 < (told_list (map_in fork p) p.types i).count → list_end (told_list (map_in fork p) p.types i) ≤ length (map_in fork p) in
    subst R is.told (subst Q (sym long) here)

-- where all lists end within the map, all references do
lists_end : (m : List ℕ) (n i at : ℕ) → at ≡ entry_place m i → ((k : ℕ) → i ≤ k → k < i + n → EndsWithin m k) →
    AllByRecursion (lists.Ends (length m)) (flat_map references_in (map (entry_at m) (places n at 8)))
lists_end m zero i at is told = tt
lists_end m (suc n) i at is told =
    let E : ℕ → Type 0 = λ a. 0 < (entry_at m a).count → (entry_at m a).start + 12 * (entry_at m a).count ≤ length m in
    lists.all_append (lists.Ends (length m)) (references_in (entry_at m at)) _
    (lists.ends_in_entry (entry_at m at) (length m) (subst E (sym is) (told i (omega arith) (omega arith))))
    (lists_end m n (i + 1) (at + 8) (omega arith) (λ k low high. told k (omega arith) (omega arith)))

pub references_end : (m : List ℕ) (i : ℕ) → type_count m ≤ i → ((k : ℕ) → k < i → EndsWithin m k) → HasReferences m
references_end m i past told = lists_end m (type_count m) 0 (type_list m + 2) (omega arith) (λ k low high. told k (omega arith))
