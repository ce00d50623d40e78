-- The references that a cursor has left, one after the other.
use Rattle.std.proofs.Common.{◌≡◌, ℕ, zero, suc, ◌+◌, ◌-◌, ◌<◌, ◌≤◌, ◌&&◌, Bool, true, false, List, [], ◌∷◌, ◌++◌, length, map, take, refl, sym, ap, ◌∙◌, arith}
use Rattle.std.specs.List.{flat_map, list_all}
use Rattle.fork_bytes.specs.Fork.{Reference}
use Rattle.fork_bytes.proofs.Lists as lists
use Rattle.fork_salvage.specs.declared.entry.ReferenceList.{ReferenceList}
use Rattle.fork_salvage.specs.declared.plan.Plan.{Plan}
use Rattle.fork_salvage.specs.declared.cursor.Cursor.{Cursor}
use Rattle.fork_salvage.specs.declared.salvage.Item.{Item}
use Rattle.fork_salvage.specs.Salvage.{references_at, references_from, references, list_of, item_of, items_of}
use Rattle.fork_salvage.specs.Plans.{left_of}

-- what is asked of all is false where one of those that are left hasn't it, and else asked of those after it
pub fails_all : {X : Type 0} (t : X → Bool) (whole : Bool) (rest after : List X) (x : X) → whole ≡ list_all t rest → rest ≡ x ∷ after → t x ≡ false → false ≡ whole
fails_all t whole rest after x told split isnt = sym (told ∙ ap (list_all t) split ∙ ap (λ (b : Bool). b && list_all t after) isnt)

pub goes_on : {X : Type 0} (t : X → Bool) (whole : Bool) (rest after : List X) (x : X) → whole ≡ list_all t rest → rest ≡ x ∷ after → t x ≡ true → whole ≡ list_all t after
goes_on t whole rest after x told split is = told ∙ ap (list_all t) split ∙ ap (λ (b : Bool). b && list_all t after) is

pub all_asked : {X : Type 0} (t : X → Bool) (whole : Bool) (rest : List X) → whole ≡ list_all t rest → rest ≡ [] → true ≡ whole
all_asked t whole rest told none = sym (told ∙ ap (list_all t) none)

-- of those that are left so many at most: the first, and fewer after it
pub take_first : {X : Type 0} (n m : ℕ) (left rest : List X) (x : X) → n ≡ suc m → left ≡ x ∷ rest → take n left ≡ x ∷ take m rest
take_first n m left rest x more split = ap (λ (k : ℕ). take k left) more ∙ ap (take (suc m)) split

-- where there is room for all, each has its item
pub all_items : (fork : List ℕ) (plan : Plan) (rs : List Reference) (room : ℕ) → length rs ≤ room → items_of fork plan rs room ≡ map (item_of fork plan) rs
all_items fork plan [] room few = refl
all_items fork plan (r ∷ rs) zero few = absurd (omega arith)
all_items fork plan (r ∷ rs) (suc room) few = ap (λ (xs : List Item). item_of fork plan r ∷ xs) (all_items fork plan rs room (omega arith))

-- the references of the entries from one on are those of the entry, and of the entries after it
pub from_step : (fork : List ℕ) (plan : Plan) (i : ℕ) → i < plan.types.count →
    references_from fork plan i ≡ references_at (list_of fork plan i) ++ references_from fork plan (i + 1)
from_step fork plan i within = ap (flat_map (λ k. references_at (list_of fork plan k))) (lists.places_step plan.types.count i i (i + 1) 1 within refl)

-- a list without references, and one with some
pub none_at : (kind : List ℕ) (count start : ℕ) → count ≡ 0 → lists.references_at kind count start ≡ []
none_at kind count start none = ap (λ (n : ℕ). lists.references_at kind n start) none

pub one_at : (kind : List ℕ) (count start : ℕ) → 0 < count →
    lists.references_at kind count start ≡ record { kind = kind; place = start } ∷ lists.references_at kind (count - 1) (start + 12)
one_at kind zero start some = absurd (omega arith)
one_at kind (suc n) start some = let one : n ≡ suc n - 1 = omega arith in
    ap (λ (k : ℕ). record { kind = kind; place = start } ∷ lists.references_at kind k (start + 12)) one

-- a cursor before all of them has them all
pub left_at_first : (fork : List ℕ) (plan : Plan) (cursor : Cursor) → cursor.list.count ≡ 0 → cursor.next ≡ 0 → left_of fork plan cursor ≡ references fork plan
left_at_first fork plan cursor none first =
    ap (λ (xs : List Reference). xs ++ references_from fork plan cursor.next) (none_at cursor.list.kind cursor.list.count cursor.list.start none)
    ∙ ap (references_from fork plan) first

-- a cursor at the end of a list goes on with the next
pub left_at_next : (fork : List ℕ) (plan : Plan) (cursor : Cursor) (list : ReferenceList) → cursor.list.count ≡ 0 → cursor.next < plan.types.count →
    list ≡ list_of fork plan cursor.next → left_of fork plan cursor ≡ references_at list ++ references_from fork plan (cursor.next + 1)
left_at_next fork plan cursor list none within is =
    ap (λ (xs : List Reference). xs ++ references_from fork plan cursor.next) (none_at cursor.list.kind cursor.list.count cursor.list.start none)
    ∙ from_step fork plan cursor.next within ∙ ap (λ (l : ReferenceList). references_at l ++ references_from fork plan (cursor.next + 1)) (sym is)

-- and within a list with its next reference
pub left_in_list : (fork : List ℕ) (plan : Plan) (cursor : Cursor) → 0 < cursor.list.count →
    left_of fork plan cursor ≡ record { kind = cursor.list.kind; place = cursor.list.start }
    ∷ (lists.references_at cursor.list.kind (cursor.list.count - 1) (cursor.list.start + 12) ++ references_from fork plan cursor.next)
left_in_list fork plan cursor some =
    ap (λ (xs : List Reference). xs ++ references_from fork plan cursor.next) (one_at cursor.list.kind cursor.list.count cursor.list.start some)
