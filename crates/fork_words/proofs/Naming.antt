-- The types that words name, word by word.
use Rattle.std.proofs.Common.{◌≡◌, ◌∙◌, ℕ, ◌≤◌, List, [], ◌∷◌, ◌++◌, length, take, drop, map, Option, None, Some, Bor, subst, sym, ap, refl, Bool, true, false, ◌==◌, append-nil}
use Rattle.std.specs.Prelude.{option_map, unwrap_or}
use Rattle.std.proofs.lemmas.List.{drop_all, take-append-drop}
use Rattle.std.specs.Str.Pattern.{RFindsText, SplitsAroundMatch}
use Rattle.fork_change.specs.declared.copying.Choice.{Choice}
use Rattle.std.specs.Int.RustNames.{bit_or}
use Rattle.fork_change.specs.declared.row.AttributeChange.{AttributeChange}
use Rattle.fork_words.specs.Named.{ChangeBits, ChangesBit, Each, NameBits, NameChoices, NamesBit, NamesChoice}
use Rattle.fork_words.specs.Kinds.{NameKinds}

abbrev pub texts : List (Bor (List ℕ)) → List (List ℕ)
texts words = map (λ word. word.now) words

-- the words from one on name more types, and all then these and those
abbrev pub NameSoFar : List (Bor (List ℕ)) → ℕ → List (List ℕ) → Type 0
NameSoFar words i kinds = (more : List (List ℕ)) → NameKinds (texts (drop i words)) more → NameKinds (texts words) (kinds ++ more)

-- none is left
all_named : (words : List (Bor (List ℕ))) (i : ℕ) (kinds : List (List ℕ)) → length words ≤ i → NameSoFar words i kinds → NameKinds (texts words) kinds
all_named words i kinds over so_far =
    subst (λ (t : List (List ℕ)). NameKinds (texts words) t) (append-nil kinds)
    (so_far [] (subst (λ (t : List (Bor (List ℕ))). NameKinds (texts t) []) (sym (drop_all i words over)) tt))

texts_or : (found : Option (Bor (List (Bor (List ℕ))))) (none : Bor (List (Bor (List ℕ)))) (told : Option (List (List ℕ))) → none.now ≡ []
    → option_map (λ words. texts words.now) found ≡ told → texts (unwrap_or found none).now ≡ unwrap_or told []
texts_or None none told empty same = ap (λ (t : List (Bor (List ℕ))). texts t) empty ∙ ap (λ (t : Option (List (List ℕ))). unwrap_or t []) same
texts_or (Some words) none told empty same = ap (λ (t : Option (List (List ℕ))). unwrap_or t []) same

-- the words that are found name these types
pub found_named : (found : Option (Bor (List (Bor (List ℕ))))) (none given : Bor (List (Bor (List ℕ)))) (told : Option (List (List ℕ))) (i : ℕ) (kinds : List (List ℕ))
    → none.now ≡ [] → option_map (λ words. texts words.now) found ≡ told → given ≡ unwrap_or found none → length given.now ≤ i → NameSoFar given.now i kinds
    → NameKinds (unwrap_or told []) kinds
found_named found none given told i kinds empty same is over so_far =
    subst (λ (t : List (List ℕ)). NameKinds t kinds) (ap (λ (g : Bor (List (Bor (List ℕ)))). texts g.now) is ∙ texts_or found none told empty same)
    (all_named given.now i kinds over so_far)

-- the words from one on name more things, and all then these and those
abbrev pub EachSoFar : {X : Type 0} → (List ℕ → X → Type 0) → List (Bor (List ℕ)) → ℕ → List X → Type 0
EachSoFar {X} names words i things = (more : List X) → Each names (texts (drop i words)) more → Each names (texts words) (things ++ more)

-- none is left
pub all_each : {X : Type 0} (names : List ℕ → X → Type 0) (words : List (Bor (List ℕ))) (i : ℕ) (things : List X) → length words ≤ i
    → EachSoFar names words i things → Each names (texts words) things
all_each {X} names words i things over so_far =
    subst (λ (t : List X). Each names (texts words) t) (append-nil things)
    (so_far [] (subst (λ (t : List (Bor (List ℕ))). Each names (texts t) []) (sym (drop_all i words over)) tt))

-- the words that are found name these things
pub found_each : {X : Type 0} (names : List ℕ → X → Type 0) (found : Option (Bor (List (Bor (List ℕ))))) (none given : Bor (List (Bor (List ℕ)))) (told : Option (List (List ℕ))) (things : List X)
    → none.now ≡ [] → option_map (λ words. texts words.now) found ≡ told → given ≡ unwrap_or found none → Each names (texts given.now) things
    → Each names (unwrap_or told []) things
found_each {X} names found none given told things empty same is each =
    subst (λ (t : List (List ℕ)). Each names t things) (ap (λ (g : Bor (List (Bor (List ℕ)))). texts g.now) is ∙ texts_or found none told empty same) each

-- words that are there, and what each of them names
pub each_choice : (words : List (Bor (List ℕ))) (chosen : List Choice) (is : Bool) → is ≡ false → is ≡ (length words == 0)
    → Each NamesChoice (texts words) chosen → NameChoices (texts words) chosen
each_choice [] chosen is some same each = let bad : false ≡ true = sym some ∙ same in absurd cc
each_choice (word ∷ words) chosen is some same each = each

-- one more word names a bit, too
pub name_more : (before : ℕ) (words : List (List ℕ)) (after : ℕ) (word : List ℕ) (bit last : ℕ) → NameBits before words after → NamesBit word bit → last ≡ bit_or after bit
    → NameBits before (words ++ word ∷ []) last
name_more before [] after word bit last is named so = (bit, named, rw is at so)
name_more before (first ∷ words) after word bit last (other, one, more) named so = (other, one, name_more (bit_or before other) words after word bit last more named so)

-- one more word changes a bit, too
pub change_more : (before : AttributeChange) (words : List (List ℕ)) (after : AttributeChange) (word : List ℕ) (last : AttributeChange)
    → ChangeBits before words after → ChangesBit after word last → ChangeBits before (words ++ word ∷ []) last
change_more before [] after word last is changed = (last, subst (λ (t : AttributeChange). ChangesBit t word last) is changed, refl)
change_more before (first ∷ words) after word last (next, one, more) changed = (next, one, change_more next words after word last more changed)

-- the words that are found, and one more at their end
pub one_more : (words : List (Bor (List ℕ))) (word : Bor (List ℕ)) → texts (words ++ word ∷ []) ≡ texts words ++ word.now ∷ []
one_more [] word = refl
one_more (first ∷ words) word = ap (λ (t : List (List ℕ)). first.now ∷ t) (one_more words word)
