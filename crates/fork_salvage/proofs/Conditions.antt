-- A fault is of the reader's first condition that doesn't hold.
use Rattle.std.proofs.Common.{◌≡◌, ◌≢◌, ℕ, zero, suc, ◌+◌, ◌*◌, ◌<◌, ◌≤◌, ◌⊎◌, inl, inr, List, [], ◌∷◌, length, map, get_or, AllPairs, subst, refl, sym, ap, ◌∙◌, arith}
use Rattle.std.specs.Prelude.{sum_by, ⊤}
use Rattle.std.specs.List.{flat_map, AllByRecursion}
use Rattle.std.proofs.lemmas.Bool.{cases_lt}
use Rattle.std.proofs.lemmas.List.Sums.{sum_by-append, sum_by-cons, sum_by_push}
use Rattle.fork_bytes.specs.declared.fault.Condition.{Condition}
use Rattle.fork_bytes.specs.declared.fault.Condition.TheVariants.{Parts, Types, References, RowCount, Names, Places, ByteCount}
use Rattle.fork_bytes.specs.declared.fault.ForkFault.{ForkFault}
use Rattle.fork_bytes.specs.declared.fault.ForkFault.TheVariants.{EndOfFile, BadMap, HostFull}
use Rattle.fork_bytes.specs.Rows.{MapRow}
use Rattle.fork_bytes.specs.Fork.{map_of, data_of, map_row, datum_length, places, type_list, type_count, TypeEntry, entry_at, entries_of, Reference, references_in, references_of, HasTypes, HoldsWithin, IsForkWithin, rank, RefusesWithin, format_limits, most_rows}
use Rattle.fork_bytes.specs.Reading.{HasDatum}
use Rattle.fork_bytes.proofs.Lists.{Ends, all_both, last_ends}
use Rattle.fork_salvage.specs.declared.plan.Plan.{Plan}
use Rattle.fork_salvage.specs.declared.fault.Fault.{Fault}
use Rattle.fork_salvage.specs.declared.fault.Fault.TheVariants as fault
use Rattle.fork_salvage.specs.declared.fault.BadRow.{BadRow}
use Rattle.fork_salvage.specs.declared.fault.BadList.{BadList}
use Rattle.fork_salvage.specs.declared.fault.SameType.{SameType}
use Rattle.fork_salvage.specs.declared.fault.Excess.{Excess}
use Rattle.fork_salvage.specs.Salvage.{map_in, told_list}
use Rattle.fork_salvage.specs.Plans.{IsTold}
use Rattle.fork_salvage.specs.Fault.{IsFault, IsFirst, IsSameType, IsBadList, IsBadSum, HasBytes, bytes_up_to, datum_place, entry_place, refusal_of}

-- the conditions of lower ranks hold
abbrev pub HoldBelow : List ℕ → ℕ → Type 0
HoldBelow fork n = (other : Condition) → rank other < n → HoldsWithin format_limits other fork

pub none_below : (fork : List ℕ) → HoldBelow fork 0
none_below fork other low = absurd (omega arith)

abbrev with_rank : ℕ → Condition
with_rank zero = Parts
with_rank (suc zero) = Types
with_rank (suc (suc zero)) = References
with_rank (suc (suc (suc zero))) = RowCount
with_rank (suc (suc (suc (suc zero)))) = Names
with_rank (suc (suc (suc (suc (suc zero))))) = Places
with_rank (suc (suc (suc (suc (suc (suc n)))))) = ByteCount

is_with_rank : (c : Condition) → with_rank (rank c) ≡ c
is_with_rank Parts = refl
is_with_rank Types = refl
is_with_rank References = refl
is_with_rank RowCount = refl
is_with_rank Names = refl
is_with_rank Places = refl
is_with_rank ByteCount = refl

is_below : (fork : List ℕ) (c other : Condition) → HoldBelow fork (rank c) → HoldsWithin format_limits c fork → rank other < rank c + 1 → ((rank other < rank c) ⊎ (rank c ≤ rank other)) → HoldsWithin format_limits other fork
is_below fork c other below holds low (inl less) = below other less
is_below fork c other below holds low (inr more) =
    let same : rank c ≡ rank other = omega arith in
    subst (λ (d : Condition). HoldsWithin format_limits d fork) (sym (is_with_rank c) ∙ ap with_rank same ∙ is_with_rank other) holds

-- one more holds
pub next_below : (fork : List ℕ) (c : Condition) → HoldBelow fork (rank c) → HoldsWithin format_limits c fork → HoldBelow fork (rank c + 1)
next_below fork c below holds other low = is_below fork c other below holds low (cases_lt (rank other) (rank c))

low_rank : (c : Condition) → rank c < 7
low_rank Parts = omega arith
low_rank Types = omega arith
low_rank References = omega arith
low_rank RowCount = omega arith
low_rank Names = omega arith
low_rank Places = omega arith
low_rank ByteCount = omega arith

-- where all hold, it is a fork
pub all_hold : (fork : List ℕ) → 16 ≤ length fork → HoldBelow fork 7 → IsForkWithin format_limits fork
all_hold fork long below = record { header = long; holds = λ c. below c (low_rank c) }

-- the entries of a type list, by index
length-entries : (m : List ℕ) (n at : ℕ) → length (map (entry_at m) (places n at 8)) ≡ n
length-entries m zero at = refl
length-entries m (suc n) at = ap suc (length-entries m n (at + 8))

entry_by_index : (m : List ℕ) (n at k here : ℕ) (d : TypeEntry) → k < n → at + 8 * k ≡ here → get_or (map (entry_at m) (places n at 8)) k d ≡ entry_at m here
entry_by_index m zero at k here d within is = absurd (omega arith)
entry_by_index m (suc n) at zero here d within is = ap (entry_at m) (omega arith)
entry_by_index m (suc n) at (suc k) here d within is = entry_by_index m n (at + 8) k here d (omega arith) (omega arith)

-- no two entries have one type
abbrev AreDistinct : List ℕ → ℕ → Type 0
AreDistinct m n = (k j : ℕ) → k < j → j < n → (entry_at m (entry_place m k)).kind ≡ (entry_at m (entry_place m j)).kind → ⊥

pairs_from : (m : List ℕ) → AreDistinct m (type_count m) → AllPairs (λ (a b : TypeEntry). a.kind ≢ b.kind) (entries_of m)
pairs_from m distinct i j d below within =
    let long = length-entries m (type_count m) (type_list m + 2) in
    let first = entry_by_index m (type_count m) (type_list m + 2) i (entry_place m i) d (omega arith) (omega arith) in
    let second = entry_by_index m (type_count m) (type_list m + 2) j (entry_place m j) d (omega arith) (omega arith) in
    let P : TypeEntry → Type 0 = λ b. (entry_at m (entry_place m i)).kind ≢ b.kind in
    let Q : TypeEntry → Type 0 = λ a. a.kind ≢ (get_or (entries_of m) j d).kind in
    subst Q (sym first) (subst P (sym second) (distinct i j below (omega arith)))

pairs_to : (m : List ℕ) (i j : ℕ) → AllPairs (λ (a b : TypeEntry). a.kind ≢ b.kind) (entries_of m) → i < j → j < type_count m →
    (entry_at m (entry_place m i)).kind ≢ (entry_at m (entry_place m j)).kind
pairs_to m i j distinct below within =
    let d : TypeEntry = record { kind = []; count = 0; start = 0 } in
    let long = length-entries m (type_count m) (type_list m + 2) in
    let first = entry_by_index m (type_count m) (type_list m + 2) i (entry_place m i) d (omega arith) (omega arith) in
    let second = entry_by_index m (type_count m) (type_list m + 2) j (entry_place m j) d (omega arith) (omega arith) in
    let P : TypeEntry → Type 0 = λ b. (entry_at m (entry_place m i)).kind ≢ b.kind in
    let Q : TypeEntry → Type 0 = λ a. a.kind ≢ (get_or (entries_of m) j d).kind in
    subst P second (subst Q first (distinct i j d below (omega arith)))

-- a plan as the fork gives it has its types, if no two entries have one
pub types_hold : (fork : List ℕ) (plan : Plan) (i : ℕ) → IsTold fork plan → plan.types.count ≤ i →
    ((k j : ℕ) → k < j → j < i → (told_list (map_in fork plan) plan.types k).kind ≡ (told_list (map_in fork plan) plan.types j).kind → ⊥) → HasTypes (map_of fork)
types_hold fork plan i told past distinct =
    let P : Plan → Type 0 = λ p. (p.types.place + 2 + 8 * p.types.count ≤ length (map_in fork p))
    × ((k j : ℕ) → k < j → j < p.types.count → (told_list (map_in fork p) p.types k).kind ≡ (told_list (map_in fork p) p.types j).kind → ⊥) in
    let both = subst P told.told (told.inside, λ k j below within. distinct k j below (omega arith)) in
    let inside = both.0 in record { count = omega arith; entries = inside; distinct = pairs_from (map_of fork) both.1 }

-- the references of an entry are among all
in_entry : (m : List ℕ) (P : Reference → Type 0) (n at i here : ℕ) → i < n → at + 8 * i ≡ here →
    AllByRecursion P (flat_map references_in (map (entry_at m) (places n at 8))) → AllByRecursion P (references_in (entry_at m here))
in_entry m P zero at i here within is all = absurd (omega arith)
in_entry m P (suc n) at zero here within is all =
    let same : at ≡ here = omega arith in
    subst (λ (a : ℕ). AllByRecursion P (references_in (entry_at m a))) same (all_both P (references_in (entry_at m at)) _ all).0
in_entry m P (suc n) at (suc i) here within is all =
    in_entry m P n (at + 8) i here (omega arith) (omega arith) (all_both P (references_in (entry_at m at)) _ all).1

-- what is said of what is made of all
all_made : {X Y : Type 0} (P : Y → Type 0) (f : X → Y) (xs : List X) → AllByRecursion (λ x. P (f x)) xs → AllByRecursion P (map f xs)
all_made P f [] all = tt
all_made P f (x ∷ xs) all = (all.0, all_made P f xs all.1)

all_of_made : {X Y : Type 0} (P : Y → Type 0) (f : X → Y) (xs : List X) → AllByRecursion P (map f xs) → AllByRecursion (λ x. P (f x)) xs
all_of_made P f [] all = tt
all_of_made P f (x ∷ xs) all = (all.0, all_of_made P f xs all.1)

pub data_hold : (fork : List ℕ) → AllByRecursion (HasBytes fork) (references_of (map_of fork)) → HoldsWithin format_limits Places fork
data_hold fork all = all_made (HasDatum (data_of fork)) (map_row (map_of fork)) (references_of (map_of fork)) all

-- the rows have as many bytes as their references
sum_of_rows : (fork : List ℕ) (rs : List Reference) →
    sum_by (λ (r : MapRow). 4 + datum_length (data_of fork) r.datum) (map (map_row (map_of fork)) rs) ≡ bytes_up_to fork rs
sum_of_rows fork [] = refl
sum_of_rows fork (r ∷ rs) =
    let f = λ (r : MapRow). 4 + datum_length (data_of fork) r.datum in let g = λ (s : Reference). 4 + datum_length (data_of fork) (datum_place fork s) in
    sum_by-cons f (map_row (map_of fork) r) (map (map_row (map_of fork)) rs) ∙ ap (λ (n : ℕ). g r + n) (sum_of_rows fork rs) ∙ sym (sum_by-cons g r rs)

many_fail : (fork : List ℕ) (row : BadRow) → IsBadSum fork row → HoldsWithin format_limits ByteCount fork → ⊥
many_fail fork row is holds =
    let g = λ (s : Reference). 4 + datum_length (data_of fork) (datum_place fork s) in
    let sum = sum_of_rows fork (references_of (map_of fork)) ∙ ap (bytes_up_to fork) is.split ∙ sum_by-append g is.before (is.reference ∷ is.after) in
    let here = sum_by-cons g is.reference is.after in let push = sum_by_push g is.before is.reference in let many = is.many in omega arith

-- a first one of which this doesn't hold is one
first_fails : {X : Type 0} (P : X → Type 0) (xs : List X) (x : X) → IsFirst P xs x → AllByRecursion P xs → ⊥
first_fails P xs x first all =
    let Q : List _ → Type 0 = AllByRecursion P in first.fails (all_both P first.before (x ∷ first.after) (subst Q first.split all)).1.0

same_fails : (fork : List ℕ) (same : SameType) → IsSameType fork same → HoldsWithin format_limits Types fork → ⊥
same_fails fork same is holds = pairs_to (map_of fork) is.first is.second holds.distinct is.is.order is.is.inside is.is.same

list_fails : (fork : List ℕ) (list : BadList) → IsBadList fork list → HoldsWithin format_limits References fork → ⊥
list_fails fork list is holds =
    let m = map_of fork in let entry = entry_at m (entry_place m is.index) in
    let all = in_entry m (Ends (length m)) (type_count m) (type_list m + 2) is.index (entry_place m is.index) is.first.inside (omega arith) holds in
    let ends = last_ends entry.kind entry.count entry.start (length m) all is.first.some in let outside = is.gap.0 in omega arith

bytes_row_fails : (fork : List ℕ) (r : Reference) → IsFirst (HasBytes fork) (references_of (map_of fork)) r → HoldsWithin format_limits Places fork → ⊥
bytes_row_fails fork r first holds =
    first_fails (HasBytes fork) (references_of (map_of fork)) r first (all_of_made (HasDatum (data_of fork)) (map_row (map_of fork)) (references_of (map_of fork)) holds)

-- what holds of a fork before the reader says this
abbrev pub HoldsBefore : List ℕ → ForkFault → Type 0
HoldsBefore fork EndOfFile = ⊤
HoldsBefore fork (BadMap condition) = (16 ≤ length fork) × HoldBelow fork (rank condition)
HoldsBefore fork HostFull = ⊤

-- a fault that is there is what the reader says, where what it looks at before holds
pub refuses : (fork : List ℕ) (f : Fault) → IsFault fork f → HoldsBefore fork (refusal_of f) → RefusesWithin format_limits fork (refusal_of f)
refuses fork (fault.Header gap) is before = is.0
refuses fork (fault.TooLong count) is before =
    (before.0, record { fails = λ holds. let small = holds.small in let large = is.0 in let all = is.1 in omega arith; before = before.1 })
refuses fork (fault.Data gap) is before = (before.0, record { fails = λ holds. let whole = holds.whole_data in let outside = is.1.0 in omega arith; before = before.1 })
refuses fork (fault.Map gap) is before = (before.0, record { fails = λ holds. let whole = holds.whole_map in let outside = is.1.0 in omega arith; before = before.1 })
refuses fork (fault.MapHeader gap) is before =
    (before.0, record { fails = λ holds. let header = holds.map_header in let outside = is.1.0 in omega arith; before = before.1 })
refuses fork (fault.TypeCount gap) is before = (before.0, record { fails = λ holds. let count = holds.count in let outside = is.0 in omega arith; before = before.1 })
refuses fork (fault.TypeList gap) is before = (before.0, record { fails = λ holds. let entries = holds.entries in let outside = is.1.0 in omega arith; before = before.1 })
refuses fork (fault.SameType same) is before = (before.0, record { fails = same_fails fork same is; before = before.1 })
refuses fork (fault.References list) is before = (before.0, record { fails = list_fails fork list is; before = before.1 })
refuses fork (fault.RowCount excess) is before = (
  before.0,
  record {
    fails = λ few. (let P : Excess → Type 0 = λ e. e.most < e.count in
        let many : most_rows format_limits (length (map_of fork)) < length (references_of (map_of fork)) = subst P is.1 is.0 in omega (arith, many, few));
    before = before.1;
  },
)
refuses fork (fault.Name row) is before = (before.0, record { fails = λ holds. first_fails _ _ is.reference is.first holds; before = before.1 })
refuses fork (fault.Length row) is before = (before.0, record { fails = bytes_row_fails fork is.reference is.first; before = before.1 })
refuses fork (fault.Bytes row) is before = (before.0, record { fails = bytes_row_fails fork is.reference is.first; before = before.1 })
refuses fork (fault.ByteCount row) is before = (before.0, record { fails = many_fail fork row is; before = before.1 })

pub refuses_at : (fork : List ℕ) (f : Fault) (c : Condition) → IsFault fork f → refusal_of f ≡ BadMap c → 16 ≤ length fork → HoldBelow fork (rank c) →
    RefusesWithin format_limits fork (refusal_of f)
refuses_at fork f c is says long below = refuses fork f is (subst (HoldsBefore fork) (sym says) (long, below))
