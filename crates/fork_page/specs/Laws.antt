-- The tags of a page.
use Rattle.std.specs.Prelude.{◌≡◌, ℕ, Bool, true, List, [], ◌∷◌, codes, bytes_eq}
use Rattle.std.specs.List.{list_all, list_any}
use Rattle.html_text.specs.Reader.{tags_of}
use Rattle.fork_bytes.specs.Rows.{Row}
use Rattle.fork_page.specs.Pages.{AddsFile}

-- the tags of files on a page, without the values in them
abbrev pub known_tags : List (List ℕ)
known_tags = codes "section" ∷ codes "/section" ∷ codes "h2" ∷ codes "/h2" ∷ codes "p" ∷ codes "/p" ∷ codes "article" ∷ codes "/article" ∷ codes "h3" ∷ codes "/h3"
    ∷ codes "img src=\"\" alt=\"\"" ∷ codes "audio controls=\"\" aria-label=\"\" src=\"\"" ∷ codes "/audio" ∷ codes "pre" ∷ codes "/pre" ∷ codes "details" ∷ codes "/details" ∷ codes "summary" ∷ codes "/summary" ∷ []

abbrev pub is_known : List ℕ → Bool
is_known tag = list_any (bytes_eq tag) known_tags

-- A file adds no other tags, whatever it is called and has.
abbrev pub HasNoOtherTags : Type 0
HasNoOtherTags = (name facts : List ℕ) (rows : List Row) (new : List ℕ) → AddsFile name facts rows [] new → list_all is_known (tags_of new) ≡ true
