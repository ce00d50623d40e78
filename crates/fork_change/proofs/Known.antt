-- What one more row, or one in the place of another, does to the types and ids that are there.
use Rattle.std.proofs.Common.{◌≡◌, ℕ, ℤ, ◌+◌, ◌<◌, Bool, true, false, cond, List, [], ◌∷◌, ◌++◌, length, take, get_or, refl, sym, ap, ◌∙◌, if◌then◌else◌}
use Rattle.std.specs.Prelude.{◌||◌, ◌&&◌, bytes_eq, not}
use Rattle.std.specs.List.{list_any}
use Rattle.std.specs.Ordering.{int_eq, is_eq}
use Rattle.std.specs.BTreeSet.{BTreeSet, Updates}
use Rattle.std.proofs.lemmas.List.{take_more}
use Rattle.fork_bytes.specs.Rows.{Row}
use Rattle.fork_change.specs.declared.row.ResourceId.{ResourceId}
use Rattle.fork_change.specs.Rows.{added, first_to, has_kind, is_at, is_there}
use Rattle.fork_change.specs.Index.{HasIds, has_id, key_cmp}
use Rattle.fork_change.proofs.Indexed.{one_key}
use Rattle.fork_change.proofs.Same.{id_is}

swapped : (a b c : Bool) → (a || (b || c)) ≡ (b || (a || c))
swapped true true c = refl
swapped true false c = refl
swapped false true c = refl
swapped false false c = refl

there_added : (what : ResourceId) (new : Row) (rows : List Row) → is_there what (added new rows) ≡ (is_at what new || is_there what rows)
there_added what new [] = refl
there_added what new (row ∷ rows) = by (bytes_eq row.kind new.kind && not (has_kind new.kind rows)) (there_added what new rows)
  where
    by : (last : Bool) → is_there what (added new rows) ≡ (is_at what new || is_there what rows)
        → list_any (is_at what) (if last then row ∷ new ∷ rows else row ∷ added new rows) ≡ (is_at what new || (is_at what row || is_there what rows))
    by true rest = swapped (is_at what row) (is_at what new) (is_there what rows)
    by false rest = ap (λ (b : Bool). is_at what row || b) rest ∙ swapped (is_at what row) (is_at what new) (is_there what rows)

there_last : (what : ResourceId) (rows : List Row) (new : Row) → is_there what (rows ++ new ∷ []) ≡ (is_at what new || is_there what rows)
there_last what [] new = refl
there_last what (row ∷ rows) new = ap (λ (b : Bool). is_at what row || b) (there_last what rows new) ∙ swapped (is_at what row) (is_at what new) (is_there what rows)

-- rows of one type and id are found by the same
one_at : (what own : ResourceId) (new row : Row) → is_at own new ≡ true → is_at own row ≡ true → is_at what new ≡ is_at what row
one_at what own new row at other =
    ap (λ (id : ResourceId). bytes_eq id.kind what.kind && int_eq id.id what.id) (id_is own new at ∙ sym (id_is own row other))

there_replaced : (what own : ResourceId) (new : Row) (rows : List Row) → is_at own new ≡ true → is_there what (first_to (is_at own) (new ∷ []) rows) ≡ is_there what rows
there_replaced what own new [] at = refl
there_replaced what own new (row ∷ rows) at = by (is_at own row) refl (there_replaced what own new rows at)
  where
    by : (other : Bool) → is_at own row ≡ other → is_there what (first_to (is_at own) (new ∷ []) rows) ≡ is_there what rows
        → list_any (is_at what) (if other then new ∷ rows else row ∷ first_to (is_at own) (new ∷ []) rows) ≡ (is_at what row || is_there what rows)
    by true other rest = ap (λ (b : Bool). b || is_there what rows) (one_at what own new row at other)
    by false other rest = ap (λ (b : Bool). is_at what row || b) rest

cond_or : (test old : Bool) → cond test true old ≡ (test || old)
cond_or true old = refl
cond_or false old = refl

-- one more type and id
pub known : (old new : BTreeSet (List ℕ × ℤ)) (row : Row) (key : List ℕ × ℤ) → key ≡ (row.kind, row.id) → Updates key_cmp old new key true
    → (what : ResourceId) → has_id new what ≡ (is_at what row || has_id old what)
known old new row key own updates what =
    updates.0 (what.kind, what.id)
    ∙ ap (λ (k : List ℕ × ℤ). cond (is_eq (key_cmp k (what.kind, what.id))) true (has_id old what)) own
    ∙ ap (λ (test : Bool). cond test true (has_id old what)) (sym (one_key what row))
    ∙ cond_or (is_at what row) (has_id old what)

pub known_more : (old new : BTreeSet (List ℕ × ℤ)) (rows : List Row) (i : ℕ) (d : Row) → i < length rows → HasIds old (take i rows)
    → ((what : ResourceId) → has_id new what ≡ (is_at what (get_or rows i d) || has_id old what)) → HasIds new (take (i + 1) rows)
known_more old new rows i d within before one what =
    one what ∙ ap (λ (b : Bool). is_at what (get_or rows i d) || b) (before what)
    ∙ sym (there_last what (take i rows) (get_or rows i d)) ∙ ap (is_there what) (sym (take_more rows i d within))

pub known_added : (old new : BTreeSet (List ℕ × ℤ)) (rows after : List Row) (row : Row) → ((what : ResourceId) → has_id new what ≡ (is_at what row || has_id old what))
    → HasIds old rows → after ≡ added row rows → HasIds new after
known_added old new rows after row one before is what =
    one what ∙ ap (λ (b : Bool). is_at what row || b) (before what) ∙ sym (there_added what row rows) ∙ ap (is_there what) (sym is)

pub known_replaced : (ids : BTreeSet (List ℕ × ℤ)) (rows after : List Row) (own : ResourceId) (row : Row) → is_at own row ≡ true
    → HasIds ids rows → after ≡ first_to (is_at own) (row ∷ []) rows → HasIds ids after
known_replaced ids rows after own row at before is what = before what ∙ sym (there_replaced what own row rows at) ∙ ap (is_there what) (sym is)
