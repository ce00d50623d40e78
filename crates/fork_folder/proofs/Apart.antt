-- Each resource has a path of its own.
use Rattle.std.proofs.Common.{◌≡◌, ℕ, ◌+◌, ◌<◌, ◌&&◌, ◌||◌, Bool, true, false, cond, inl, inr, if◌then◌else◌, List, [], ◌∷◌, ◌++◌, length, ◌^◌, subst, refl, sym, ap, ◌∙◌, append_assoc, length-append, arith}
use Rattle.std.specs.Prelude.{ℤ, pos, negsuc, bytes_eq, count_by, FitsSigned}
use Rattle.std.specs.Int.{w16}
use Rattle.std.specs.Ordering.{int_eq}
use Rattle.std.specs.List.{AllByRecursion, list_any, sum_by}
use Rattle.std.proofs.lemmas.Bool.{cases_Bool}
use Rattle.std.proofs.lemmas.Bool.Decides.{Decides-int_eq}
use Rattle.std.proofs.lemmas.Slice.Eq.{bytes_eq-Decides}
use Rattle.std.proofs.lemmas.List.{map-append}
use Rattle.std.proofs.lemmas.List.Sums.{count_by-le-length, sum_by-append, sum_by-cons}
use lib.Signed.{mag}
use Rattle.fork_bytes.specs.Rows.{Row}
use Rattle.fork_list.specs.Listing.{is_chosen}
use Rattle.fork_folder.specs.Names.{clash, file_name, folded, folder_among, folder_name, plain_name, small_of}
use Rattle.fork_folder.specs.Unpacked.{Unpacked, file_of, files_from, is_same, types_of}
use Rattle.fork_folder.specs.Laws.{AreApart, HaveOwnPaths, IsNamed, path_of}
use Rattle.fork_folder.proofs.Plain.{mixed_apart, plain_apart}
use Rattle.fork_folder.proofs.Symbols.{symbols_apart}
use Rattle.fork_folder.proofs.Numbers.{names_apart}

pub small_id : (id : ℤ) → FitsSigned w16 id → mag id < 2 ^ 63
small_id (pos n) fits = omega (arith, fits)
small_id (negsuc n) fits = omega (arith, fits)

-- a row whose type is one of these: what none of them has, it hasn't
pub record IsOf (types : List (List ℕ)) (row : Row) : Type 0 where
  pub named : IsNamed row
  pub known : (f : List ℕ → Bool) → list_any f types ≡ false → f row.kind ≡ false

-- both fail
neither : (a b : Bool) → (a || b) ≡ false → (a ≡ false) × (b ≡ false)
neither true b h = absurd cc
neither false b h = (refl, h)

one_type_more : (kind : List ℕ) (types : List (List ℕ)) (rows : List Row) → AllByRecursion (IsOf types) rows → AllByRecursion (IsOf (kind ∷ types)) rows
one_type_more kind types [] all = tt
one_type_more kind types (row ∷ rows) all =
    (record { named = all.0.named; known = λ f none. all.0.known f (neither (f kind) (list_any f types) none).1 }, one_type_more kind types rows all.1)

-- rows have types of their own
pub all_known : (rows : List Row) → AllByRecursion IsNamed rows → AllByRecursion (IsOf (types_of rows)) rows
all_known [] all = tt
all_known (row ∷ rows) all = (
  record { named = all.0; known = λ f none. (neither (f row.kind) (list_any f (types_of rows)) none).0 },
  one_type_more row.kind (types_of rows) rows (all_known rows all.1),
)

-- a type that doesn't clash with another, and is the same without regard to case, is the same
unclashed : (kind other : List ℕ) → clash kind other ≡ false → folded other ≡ folded kind → other ≡ kind
unclashed kind other free same = elim (cases_Bool (bytes_eq other kind)) [
  | inl is ↦ (bytes_eq-Decides other kind).0 is
  | inr differ ↦ absurd (let e : bytes_eq (folded other) (folded kind) ≡ true = (bytes_eq-Decides (folded other) (folded kind)).1 same in
      let is : clash kind other ≡ true = rw (differ, e) refl in cc)
]

-- types of one folder are one
one_type : (types : List (List ℕ)) (row next : Row) (a b : List ℕ) → IsOf types row → IsOf types next → (marked marked' : Bool)
    → list_any (clash row.kind) types ≡ marked → list_any (clash next.kind) types ≡ marked'
    → folded (if marked then folder_name row.kind else plain_name row.kind) ++ a ≡ folded (if marked' then folder_name next.kind else plain_name next.kind) ++ b
    → (row.kind ≡ next.kind) × (a ≡ b)
one_type types row next a b of of' true true is is' e =
    let four = of.named.four in
    let four' = of'.named.four in
    symbols_apart false row.kind next.kind a b of.named.bytes of'.named.bytes (omega arith) e
one_type types row next a b of of' false marked' is is' e =
    let four = of.named.four in
    let four' = of'.named.four in
    let loose : (folded row.kind ≡ folded next.kind) × (a ≡ b) = by marked' e in
    (sym (unclashed row.kind next.kind (of'.known (clash row.kind) is) (sym loose.0)), loose.1)
  where
    by : (marked' : Bool) → folded (plain_name row.kind) ++ a ≡ folded (if marked' then folder_name next.kind else plain_name next.kind) ++ b → (folded row.kind ≡ folded next.kind) × (a ≡ b)
    by true e = let four = of.named.four in let four' = of'.named.four in mixed_apart false row.kind next.kind a b of.named.bytes of'.named.bytes (omega arith) e
    by false e = let four = of.named.four in let four' = of'.named.four in plain_apart row.kind next.kind a b of.named.bytes of'.named.bytes (omega arith) e
one_type types row next a b of of' true false is is' e =
    let four = of.named.four in
    let four' = of'.named.four in
    let loose = mixed_apart false next.kind row.kind b a of'.named.bytes of.named.bytes (omega arith) (sym e) in
    (unclashed next.kind row.kind (of.known (clash next.kind) is') (sym loose.0), sym loose.1)

-- rows of one path have one type and one id, and are the same ones of them
same_row : (types : List (List ℕ)) (before other : List Row) (row next : Row) → IsOf types row → IsOf types next → length before < 2 ^ 63 → length other < 2 ^ 63
    → folded (path_of (file_of types before row)) ≡ folded (path_of (file_of types other next))
    → (row.kind ≡ next.kind) × (row.id ≡ next.id) × (count_by (is_same row) before ≡ count_by (is_same next) other)
same_row types before other row next of of' few few' e =
    let file = file_name row.id (count_by (is_same row) before) row.name in
    let file' = file_name next.id (count_by (is_same next) other) next.name in
    let kinds = one_type types row next (47 ∷ folded file) (47 ∷ folded file') of of' (list_any (clash row.kind) types) (list_any (clash next.kind) types) refl refl
    (sym (map-append small_of (folder_among types row.kind) (47 ∷ file)) ∙ e ∙ map-append small_of (folder_among types next.kind) (47 ∷ file')) in
    let files : folded file ≡ folded file' = let both = kinds.1 in cc in
    let names = names_apart row.id next.id (count_by (is_same row) before) (count_by (is_same next) other) row.name next.name (small_id row.id of.named.id) (small_id next.id of'.named.id)
    (omega (arith, count_by-le-length (is_same row) before)) (omega (arith, count_by-le-length (is_same next) other)) files in
    (kinds.0, names.0, names.1)

-- a row is the same as itself
own : (row : Row) → is_same row row ≡ true
own row = let kind = (bytes_eq-Decides row.kind row.kind).1 refl in let id = (Decides-int_eq row.id row.id).1 refl in rw (kind, id) refl

-- a row after one with its type and id is a later one of them
counted : (before mid : List Row) (row : Row) → count_by (is_same row) (before ++ row ∷ mid) ≡ count_by (is_same row) before + (1 + count_by (is_same row) mid)
counted before mid row =
    let f : Row → ℕ = λ other. cond (is_same row other) 1 0 in
    let one : f row ≡ 1 = ap (λ (b : Bool). cond b 1 0) (own row) in
    sum_by-append f before (row ∷ mid) ∙ ap (λ (n : ℕ). sum_by f before + n) (sum_by-cons f row mid ∙ ap (λ (n : ℕ). n + sum_by f mid) one)

-- so it has another path
rows_apart : (types : List (List ℕ)) (before mid : List Row) (row next : Row) → IsOf types row → IsOf types next → length before + (1 + length mid) < 2 ^ 63
    → AreApart (file_of types before row) (file_of types (before ++ row ∷ mid) next)
rows_apart types before mid row next of of' few e =
    let long = length-append before (row ∷ mid) in
    let same = same_row types before (before ++ row ∷ mid) row next of of' (omega arith) (omega arith) e in
    let counts : count_by (is_same next) (before ++ row ∷ mid) ≡ count_by (is_same row) (before ++ row ∷ mid) =
    ap (λ (kind : List ℕ). count_by (λ (other : Row). bytes_eq other.kind kind && int_eq other.id next.id) (before ++ row ∷ mid)) (sym same.0)
    ∙ ap (λ (id : ℤ). count_by (λ (other : Row). bytes_eq other.kind row.kind && int_eq other.id id) (before ++ row ∷ mid)) (sym same.1) in
    let later = counted before mid row in
    let equal = same.2 in
    absurd (omega arith)

-- a file that is there or not, before others
pub all_picked : (P : Unpacked → Type 0) (chosen : Bool) (file : Unpacked) (files : List Unpacked) → P file → AllByRecursion P files
    → AllByRecursion P ((if chosen then file ∷ [] else []) ++ files)
all_picked P true file files one others = (one, others)
all_picked P false file files one others = others

own_picked : (chosen : Bool) (file : Unpacked) (files : List Unpacked) → AllByRecursion (AreApart file) files → HaveOwnPaths files
    → HaveOwnPaths ((if chosen then file ∷ [] else []) ++ files)
own_picked true file files apart others = (apart, others)
own_picked false file files apart others = others

-- the files of later rows have other paths
later_apart : (types kinds : List (List ℕ)) (before mid : List Row) (row : Row) (rows : List Row) → IsOf types row → AllByRecursion (IsOf types) rows
    → length before + (1 + (length mid + length rows)) < 2 ^ 63 → AllByRecursion (AreApart (file_of types before row)) (files_from types kinds (before ++ row ∷ mid) rows)
later_apart types kinds before mid row [] named all few = tt
later_apart types kinds before mid row (next ∷ rows) named all few =
    let longer = length-append mid (next ∷ []) in
    let P : List Row → Type 0 = λ list. AllByRecursion (AreApart (file_of types before row)) (files_from types kinds list rows) in
    let others : P ((before ++ row ∷ mid) ++ next ∷ []) =
    subst P (sym (append_assoc before (row ∷ mid) (next ∷ []))) (later_apart types kinds before (mid ++ next ∷ []) row rows named all.1 (omega arith)) in
    all_picked (AreApart (file_of types before row)) (is_chosen kinds next.kind) (file_of types (before ++ row ∷ mid) next) (files_from types kinds ((before ++ row ∷ mid) ++ next ∷ []) rows)
    (rows_apart types before mid row next named all.0 (omega arith)) others

pub own_paths : (types kinds : List (List ℕ)) (before rows : List Row) → AllByRecursion (IsOf types) rows → length before + length rows < 2 ^ 63
    → HaveOwnPaths (files_from types kinds before rows)
own_paths types kinds before [] all few = tt
own_paths types kinds before (row ∷ rows) all few =
    let longer = length-append before (row ∷ []) in
    own_picked (is_chosen kinds row.kind) (file_of types before row) (files_from types kinds (before ++ row ∷ []) rows)
    (later_apart types kinds before [] row rows all.0 all.1 (omega arith)) (own_paths types kinds (before ++ row ∷ []) rows all.1 (omega arith))
