-- What is added to a page has no other tags.
use Rattle.std.proofs.Common.{◌≡◌, ℕ, true, List, [], ◌∷◌, ◌++◌, refl, ap, sym, ◌∙◌, append_assoc, append-nil, string_bytes, length, subst}
use Rattle.std.specs.Prelude.{min, codes}
use Rattle.std.specs.Fmt.{decimal}
use Rattle.std.specs.List.{list_all}
use Rattle.std.proofs.lemmas.Bool.{and_from}
use Rattle.std.proofs.lemmas.List.Folds.{list_all-append}
use Rattle.fork_bytes.specs.Rows.{Row}
use Rattle.html_text.specs.declared.tag.Tag.{Tag}
use Rattle.html_text.specs.declared.tag.Tag.TheVariants.{Article, Audio, Details, Heading2, Heading3, Image, Paragraph, Preformatted, Section, Summary}
use Rattle.html_text.specs.declared.tag.AttributeName.TheVariants.{Alternative, Controls, Label, Source}
use Rattle.html_text.specs.Texts.{Pair, end_tag, html_text, start_tag}
use Rattle.html_text.specs.Reader.{bare_end, bare_start, tags_in, tags_of}
use Rattle.html_text.proofs.Reading.{no_markup, one_tag}
use Rattle.fork_page.specs.declared.shown.Shown.{Shown}
use Rattle.fork_page.specs.declared.shown.Shown.TheVariants as shown
use Rattle.fork_page.specs.Articles.{article, body, element, hidden, picture, player, player_start, source_text, title_text}
use Rattle.fork_page.specs.declared.shown.TheConstants.{FRONT}
use Rattle.fork_page.specs.Laws.{HasNoOtherTags, is_known}
use Rattle.fork_page.specs.Pages.{AreArticles}

-- these bytes add known tags, whatever comes after them
record Adds (bytes : List ℕ) : Type 0 where
  pub tags : List (List ℕ)
  pub known : list_all is_known tags ≡ true
  pub read : (rest : List ℕ) → tags_of (bytes ++ rest) ≡ tags ++ tags_of rest

joined : (a b : List ℕ) → Adds a → Adds b → Adds (a ++ b)
joined a b x y = record {
  tags = x.tags ++ y.tags;
  known = list_all-append is_known x.tags y.tags ∙ and_from (list_all is_known x.tags) (list_all is_known y.tags) x.known y.known;
  read = λ rest. ap tags_of (append_assoc a b rest) ∙ x.read (b ++ rest) ∙ ap (λ all. x.tags ++ all) (y.read rest) ∙ sym (append_assoc x.tags y.tags (tags_of rest));
}

texts : (text : List ℕ) → Adds (html_text text)
texts text = record { tags = []; known = refl; read = no_markup.no_tags text }

one : (bare : List ℕ) → is_known bare ≡ true → list_all is_known (bare ∷ []) ≡ true
one bare known = and_from (is_known bare) true known refl

starts : (tag : Tag) (all : List Pair) → is_known (bare_start tag all) ≡ true → Adds (start_tag tag all)
starts tag all known = record { tags = bare_start tag all ∷ []; known = one (bare_start tag all) known; read = one_tag.start tag all }

ends : (tag : Tag) → is_known (bare_end tag) ≡ true → Adds (end_tag tag)
ends tag known = record { tags = bare_end tag ∷ []; known = one (bare_end tag) known; read = one_tag.end tag }

elements : (tag : Tag) (text : List ℕ) → is_known (bare_start tag []) ≡ true → is_known (bare_end tag) ≡ true → Adds (element tag text)
unfolding element
elements tag text first last = joined _ _ (starts tag [] first) (joined _ _ (texts text) (ends tag last))

-- that there are so many bytes, or would be
said : (before after : List ℕ) (count : ℕ) → Adds (element Paragraph (before ++ (decimal count ++ after)))
said before after count = elements Paragraph (before ++ (decimal count ++ after)) refl refl

hides : (summary text : List ℕ) → Adds (hidden summary text)
hides summary text =
    joined _ _ (starts Details [] refl) (joined _ _ (elements Summary summary refl refl) (joined _ _ (elements Preformatted text refl refl) (ends Details refl)))

pictures : (png title : List ℕ) → Adds (picture png title)
pictures png title = starts Image ((Source, source_text (codes "data:image/png;base64,") png) ∷ (Alternative, title) ∷ []) refl

players : (wav title : List ℕ) → Adds (player wav title)
unfolding player_start
players wav title =
    joined _ _ (starts Audio ((Controls, []) ∷ (Label, title) ∷ (Source, source_text (codes "data:audio/wav;base64,") wav) ∷ []) refl) (ends Audio refl)

bodies : (title : List ℕ) (size : ℕ) (it : Shown) → Adds (body title size it)
bodies title size (shown.Picture png) = pictures png.items title
bodies title size (shown.Sound wav) = players wav.items title
bodies title size (shown.Text text) = elements Preformatted (string_bytes text) refl refl
bodies title size (shown.Compressed unpacked) = said (codes "compressed, ") (codes " bytes unpacked") unpacked
bodies title size (shown.Digits digits) = hides (codes "the first " ++ (decimal (min size FRONT) ++ codes " bytes")) (string_bytes digits)

articles : (row : Row) (it : Shown) → Adds (article row it)
articles row it =
    let title = title_text row.kind row.id row.name in
    joined _ _ (starts Article [] refl) (joined _ _ (elements Heading3 title refl refl) (joined _ _ (said [] (codes " bytes") (length row.datum))
    (joined _ _ (bodies title (length row.datum) it) (ends Article refl))))

all_articles : (all rows : List Row) (old new : List ℕ) → Adds old → AreArticles all rows old new → Adds new
unfolding AreArticles
all_articles all [] old new adds same = subst Adds (sym same) adds
all_articles all (row ∷ rows) old new adds more = all_articles all rows (old ++ article row more.0) new (joined _ _ adds (articles row more.0)) more.2

nothing : Adds []
nothing = record { tags = []; known = refl; read = λ rest. refl }

no_tags_left : tags_of [] ≡ []
unfolding tags_in
no_tags_left = refl

pub no_other_tags : HasNoOtherTags
no_other_tags name facts rows new file =
    let before = joined _ _ (joined _ _ (joined _ _ nothing (starts Section [] refl)) (elements Heading2 name refl refl)) (elements Paragraph facts refl refl) in
    let whole = joined _ _ (all_articles rows rows _ file.0 before file.1) (ends Section refl) in
    let read = whole.read [] in
    subst (λ bytes. list_all is_known (tags_of bytes) ≡ true) (append-nil (file.0 ++ end_tag Section) ∙ sym file.2)
    (subst (λ tags. list_all is_known tags ≡ true) (sym (read ∙ ap (λ left. whole.tags ++ left) no_tags_left ∙ append-nil whole.tags)) whole.known)
