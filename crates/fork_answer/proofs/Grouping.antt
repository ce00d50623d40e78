-- Resources that are put together by their types are grouped.
use Rattle.std.proofs.Common.{◌≡◌, ◌≢◌, ℕ, suc, ◌+◌, ◌<◌, Bool, true, false, List, [], ◌∷◌, ◌++◌, length, get_or, drop, map, refl, sym, subst, ap, ◌∙◌, bytes_eq, if◌then◌else◌, add-one, append_assoc}
use Rattle.std.specs.List.{flat_map, list_any}
use Rattle.std.proofs.Math.Seq.{drop-cons}
use Rattle.std.proofs.lemmas.Bool.{false≢true, or_left, or_right, cond-true, cond-false}
use Rattle.std.proofs.lemmas.List.{map-append}
use Rattle.std.proofs.lemmas.List.Folds.{list_any-append}
use Rattle.std.proofs.lemmas.Slice.Eq.{bytes_eq-Decides}
use Rattle.fork_bytes.specs.declared.layout.TypeCount.{TypeCount}
use Rattle.fork_bytes.specs.Rows.{Row}
use Rattle.fork_bytes.specs.Written.{types_of, counted_before}
use Rattle.fork_bytes.specs.Laws.{IsGrouped}
use Rattle.fork_bytes.proofs.Grouped.{Apart, Distinct, IsRun, counted, distinct_at, only_from, run_more}
use Rattle.fork_salvage.specs.declared.found.FoundRow.{FoundRow}
use Rattle.fork_salvage.specs.Laws.{row_of}
use Rattle.fork_answer.specs.Salvaged.{each_once, found_of_type, found_grouped, kind_of}

-- a type itself
abbrev itself : List ℕ → List ℕ
itself kind = kind

-- a type that is among others, or last
same_kind : (kind : List ℕ) → bytes_eq kind kind ≡ true
same_kind kind = (bytes_eq-Decides kind kind).1 refl

among_more : (seen : List (List ℕ)) (kind last : List ℕ) → list_any (λ one. bytes_eq one kind) seen ≡ true → list_any (λ one. bytes_eq one kind) (seen ++ last ∷ []) ≡ true
among_more seen kind last is = list_any-append (λ one. bytes_eq one kind) seen (last ∷ []) ∙ or_left _ _ is

among_last : (seen : List (List ℕ)) (kind : List ℕ) → list_any (λ one. bytes_eq one kind) (seen ++ kind ∷ []) ≡ true
among_last seen kind = list_any-append (λ one. bytes_eq one kind) seen (kind ∷ []) ∙ or_right _ _ (or_left _ _ (same_kind kind))

-- a type that is seen isn't given again
once_apart : (seen kinds : List (List ℕ)) (kind : List ℕ) → list_any (λ one. bytes_eq one kind) seen ≡ true → Apart itself kind (each_once seen kinds)
once_apart seen [] kind is = tt
once_apart seen (first ∷ kinds) kind is =
    by_case (list_any (λ one. bytes_eq one first) seen) refl (once_apart seen kinds kind is) (once_apart (seen ++ first ∷ []) kinds kind (among_more seen kind first is))
  where
    by_case : (b : Bool) → list_any (λ one. bytes_eq one first) seen ≡ b → Apart itself kind (each_once seen kinds) → Apart itself kind (each_once (seen ++ first ∷ []) kinds) →
        Apart itself kind (if b then each_once seen kinds else first ∷ each_once (seen ++ first ∷ []) kinds)
    by_case true among rest more = rest
    by_case false among rest more = (λ same. false≢true (sym among ∙ ap (λ (k : List ℕ). list_any (λ one. bytes_eq one k) seen) (sym same) ∙ is), more)

once_distinct : (seen kinds : List (List ℕ)) → Distinct itself (each_once seen kinds)
once_distinct seen [] = tt
once_distinct seen (first ∷ kinds) =
    by_case (list_any (λ one. bytes_eq one first) seen) (once_distinct seen kinds) (once_distinct (seen ++ first ∷ []) kinds)
  where
    by_case : (b : Bool) → Distinct itself (each_once seen kinds) → Distinct itself (each_once (seen ++ first ∷ []) kinds) →
        Distinct itself (if b then each_once seen kinds else first ∷ each_once (seen ++ first ∷ []) kinds)
    by_case true rest more = rest
    by_case false rest more = (once_apart (seen ++ first ∷ []) kinds first (among_last seen first), more)

-- one more type is looked at
pub once_step : (seen : List (List ℕ)) (rows : List FoundRow) (i : ℕ) (row : FoundRow) → i < length rows → row ≡ get_or rows i row →
    each_once seen (map kind_of (drop i rows)) ≡ (if list_any (λ one. bytes_eq one row.kind) seen then each_once seen (map kind_of (drop (i + 1) rows))
    else row.kind ∷ each_once (seen ++ row.kind ∷ []) (map kind_of (drop (i + 1) rows)))
once_step seen rows i row within is =
    let next : drop i rows ≡ row ∷ drop (i + 1) rows = rw add-one (drop-cons rows i row within ∙ ap (λ (r : FoundRow). r ∷ drop (suc i) rows) (sym is)) in
    ap (λ (rest : List FoundRow). each_once seen (map kind_of rest)) next

pub seen_more : (seen : List (List ℕ)) (rows : List FoundRow) (i : ℕ) (row : FoundRow) (whole : List (List ℕ)) → i < length rows → row ≡ get_or rows i row →
    list_any (λ one. bytes_eq one row.kind) seen ≡ true → seen ++ each_once seen (map kind_of (drop i rows)) ≡ whole → seen ++ each_once seen (map kind_of (drop (i + 1) rows)) ≡ whole
seen_more seen rows i row whole within is among so_far =
    ap (λ (rest : List (List ℕ)). seen ++ rest) (sym (once_step seen rows i row within is ∙ cond-true _ _ _ among)) ∙ so_far

pub new_more : (seen : List (List ℕ)) (rows : List FoundRow) (i : ℕ) (row : FoundRow) (whole : List (List ℕ)) → i < length rows → row ≡ get_or rows i row →
    list_any (λ one. bytes_eq one row.kind) seen ≡ false → seen ++ each_once seen (map kind_of (drop i rows)) ≡ whole →
    (seen ++ row.kind ∷ []) ++ each_once (seen ++ row.kind ∷ []) (map kind_of (drop (i + 1) rows)) ≡ whole
new_more seen rows i row whole within is among so_far =
    append_assoc seen (row.kind ∷ []) (each_once (seen ++ row.kind ∷ []) (map kind_of (drop (i + 1) rows)))
    ∙ ap (λ (rest : List (List ℕ)). seen ++ rest) (sym (once_step seen rows i row within is ∙ cond-false _ _ _ among)) ∙ so_far

-- the rows of one type before others
type_run : (fork kind : List ℕ) (rows : List FoundRow) (others : List Row) → Distinct counted (types_of others) → Apart counted kind (types_of others) →
    IsRun kind (types_of others) (types_of (map (row_of fork) (found_of_type rows kind) ++ others))
type_run fork kind [] others distinct apart = record { distinct = distinct; only = only_from kind (types_of others) apart; apart = λ other differ rest. rest }
type_run fork kind (row ∷ rows) others distinct apart = by_case (bytes_eq row.kind kind) refl (type_run fork kind rows others distinct apart)
  where
    by_case : (b : Bool) → bytes_eq row.kind kind ≡ b → IsRun kind (types_of others) (types_of (map (row_of fork) (found_of_type rows kind) ++ others)) →
        IsRun kind (types_of others) (types_of (map (row_of fork) (if b then row ∷ found_of_type rows kind else found_of_type rows kind) ++ others))
    by_case true is rest =
        let types = types_of (map (row_of fork) (found_of_type rows kind) ++ others) in
        let P : List ℕ → Type 0 = λ k. IsRun kind (types_of others) (counted_before k 1 types) in
        subst P (sym ((bytes_eq-Decides row.kind kind).0 is)) (run_more kind (types_of others) types rest)
    by_case false is rest = rest

-- the rows of all types: no two types are one, and they are among these
record AreOf (kinds : List (List ℕ)) (types : List TypeCount) : Type 0 where
  distinct : Distinct counted types
  apart : (other : List ℕ) → Apart itself other kinds → Apart counted other types

types_run : (fork : List ℕ) (rows : List FoundRow) (kinds : List (List ℕ)) → Distinct itself kinds → AreOf kinds (types_of (map (row_of fork) (flat_map (found_of_type rows) kinds)))
types_run fork rows [] distinct = record { distinct = tt; apart = λ other apart. tt }
types_run fork rows (kind ∷ kinds) distinct =
    let others = flat_map (found_of_type rows) kinds in
    let rest = types_run fork rows kinds distinct.1 in
    let run = type_run fork kind rows (map (row_of fork) others) rest.distinct (rest.apart kind distinct.0) in
    let P : List Row → Type 0 = λ all. AreOf (kind ∷ kinds) (types_of all) in
    subst P (sym (map-append (row_of fork) (found_of_type rows kind) others))
    (record { distinct = run.distinct; apart = λ other apart. run.apart other apart.0 (rest.apart other apart.1) })

pub is_grouped : (fork : List ℕ) (rows : List FoundRow) → IsGrouped (map (row_of fork) (found_grouped rows))
is_grouped fork rows = distinct_at counted _ (types_run fork rows (each_once [] (map kind_of rows)) (once_distinct [] (map kind_of rows))).distinct
