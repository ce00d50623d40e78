-- Objects of JSON, made member by member, and lines of them.
use Rattle.std.specs.Prelude.{◌≡◌, ℕ, true, List, [], ◌∷◌, ◌++◌, codes, Option, None, Some, Result, IfOk}
use Rattle.std.specs.declared.alloc.AllocError.{AllocError}
use Rattle.serde_json.specs.declared.value.Value.{Value}
use Rattle.serde_json.specs.Data.{Data, null, boolean, number, string, object, unsigned, Members, no_members, put}
use Rattle.serde_json.specs.View.{members_view, view}
use Rattle.serde_json.specs.Written.{compact_text}
use Rattle.fork_report.specs.declared.json_object.Object.{Object}

-- the object has these members so far, where the host has memory for them
abbrev pub Makes : Object → Members → Type 0
Makes whole members = IfOk whole.members (λ map. members_view map.entries ≡ members)

-- the value is this one, where the host has memory for it
abbrev pub Gives : Result Value AllocError → Data → Type 0
Gives value it = IfOk value (λ made. view made ≡ it)

-- a line is JSON without blanks, and its end
abbrev pub line_of : Data → List ℕ
line_of it = compact_text it ++ 10 ∷ []

-- a place from 0 on, or null
abbrev pub place_data : Option ℕ → Data
place_data None = null
place_data (Some place) = number (unsigned place)

-- members, and those of a compressed resource: that it is, and its length unpacked
abbrev pub with_unpacked : Option ℕ → Members → Members
with_unpacked None members = members
with_unpacked (Some length) members = put (codes "unpacked") (number (unsigned length)) (put (codes "compressed") (boolean true) members)

-- the members of an object that begins with the name of a file
abbrev pub of_file : List ℕ → Members
of_file file = put (codes "file") (string file) no_members

-- what is said of a file that isn't shown: the exit status, and why
abbrev pub refused_data : List ℕ → ℕ → List ℕ → Data
refused_data file status told = object (put (codes "error") (string told) (put (codes "status") (number (unsigned status)) (of_file file)))
