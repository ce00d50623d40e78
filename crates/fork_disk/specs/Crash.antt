-- What a crash may leave, or a start may find after it, by what happened to a device before it.
use Rattle.std.specs.Prelude.{◌≡◌, ◌⊎◌, List, ◌∷◌}

-- whatever may be found after such a history has P, where this says what may be found
abbrev pub Finds : {Event Found : Type 0} → (List Event → Found → Type 0) → (Found → Type 0) → List Event → Type 0
Finds {Found = Found} may_find P history = (found : Found) → may_find history found → P found

-- whatever may be found has P, whenever the crash came: before the first event after the old history, or after any that
-- came since
pub data AlwaysFinds {Event Found : Type 0} (may_find : List Event → Found → Type 0) (P : Found → Type 0) (old : List Event) : List Event → Type 0 where
  at_first : Finds may_find P old → AlwaysFinds may_find P old old
  and_then : {event : Event} {past : List Event} → AlwaysFinds may_find P old past → Finds may_find P (event ∷ past) → AlwaysFinds may_find P old (event ∷ past)

-- what might have been found before, or this
abbrev pub FoundBeforeOr : {Event Found : Type 0} → (List Event → Found → Type 0) → List Event → Found → Found → Type 0
FoundBeforeOr may_find history new found = may_find history found ⊎ (found ≡ new)
