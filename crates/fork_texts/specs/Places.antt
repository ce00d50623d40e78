-- The places of texts in a resource.
use Rattle.std.specs.Prelude.{ℕ, ◌+◌, ◌-◌, ◌%◌, ◌==◌, ◌||◌, ◌&&◌, Bool, true, false, if◌then◌else◌, Option, None, Some}
use Rattle.res_types.specs.declared.value.Part.{Part}
use Rattle.res_types.specs.declared.value.Part.TheVariants as parts
use Rattle.fork_texts.specs.declared.kinds.Naming.{Naming}
use Rattle.fork_texts.specs.declared.kinds.Naming.TheVariants as namings
use Rattle.fork_texts.specs.declared.place.Before.{Before}
use Rattle.fork_texts.specs.declared.place.Place.{Place}
use Rattle.fork_texts.specs.declared.place.Place.TheVariants.{Whole, Title, Short, Long, Numbered}

-- whether an item of a dialog has a text: a button, a check box, a radio button, a static text or an edit text, whether
-- it is enabled or not
abbrev pub has_text : ℕ → Bool
has_text kind = let k = kind % 128 in k == 4 || (k == 5 || (k == 6 || (k == 8 || k == 16)))

-- the place of a text before which are so many others, and this number last
abbrev pub text_place : Naming → ℕ → ℕ → Option Place
text_place namings.Whole n number = if n == 0 then Some Whole else None
text_place namings.Title n number = if n == 0 then Some Title else None
text_place namings.ShortAndLong n number = if n == 0 then Some Short else if n == 1 then Some Long else None
text_place namings.Numbered n number = Some (Numbered (n + 1))
text_place namings.TitleAndNumbered n number = if n == 0 then Some Title else Some (Numbered n)
text_place namings.DialogItems n number = if has_text number then Some (Numbered (n + 1)) else None

-- the place of a part, if it is a text that has one
abbrev pub place_at : Before → Part → Option Place
place_at before (parts.Text text) = text_place before.naming before.texts before.number
place_at before (parts.Number n) = None
place_at before (parts.Elements n) = None
place_at before (parts.Case chosen) = None

-- what is before the first part, and before the part after this one
abbrev pub start : Naming → Before
start naming = record { naming = naming; texts = 0; number = 0 }

abbrev pub after : Before → Part → Before
after before (parts.Text text) = record { naming = before.naming; texts = before.texts + 1; number = before.number }
after before (parts.Number n) = record { naming = before.naming; texts = before.texts; number = n }
after before (parts.Elements n) = before
after before (parts.Case chosen) = before
