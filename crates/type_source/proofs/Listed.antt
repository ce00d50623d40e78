-- One more at the end of a list that was read from the left.
use Rattle.std.proofs.Common.{◌≡◌, ℕ, ◌+◌, ℤ, cond, List, [], ◌∷◌, ◌++◌, reverse, refl, sym, subst}
use Rattle.std.proofs.lemmas.List.{reverse-append}
use Rattle.type_source.specs.declared.token.Token.{Token}
use Rattle.res_types.specs.declared.field.NamedNumber.{NamedNumber}
use Rattle.type_source.specs.declared.token.Token.TheVariants as tokens
use Rattle.type_source.specs.declared.token.Mark.TheVariants as marks
use Rattle.type_source.specs.declared.types.Kind.{Kind}
use Rattle.type_source.specs.declared.types.DeclaredType.{DeclaredType}
use Rattle.type_source.specs.Tokens.{Gap, TakesToken, TakesTokens}
use Rattle.type_source.specs.Spelling.{SpellsName, SpellsNames}
use Rattle.type_source.specs.Types.{fits, meaning_of, said}

-- the tokens that a text begins with, and one more
pub takes_more : (all : List Token) (text rest start after : List ℕ) (token : Token) → TakesTokens all text rest → Gap rest start → TakesToken token start after → TakesTokens (all ++ token ∷ []) text after
takes_more [] text rest start after token taken gap takes = (start, after, subst (λ (x : List ℕ). Gap x start) (sym taken) gap, takes, refl)
takes_more (first ∷ others) text rest start after token taken gap takes = (taken.0, taken.1, taken.2, taken.3, takes_more others taken.1 rest start after token taken.4 gap takes)

-- a name with its comma before others
pub name_before : (width next : ℕ) (item : NamedNumber) (items : List NamedNumber) (before mid after : List Token) → SpellsName width next item before (tokens.Mark marks.Comma ∷ mid)
    → SpellsNames width (item.value + 1) items mid after → SpellsNames width next (item ∷ items) before after
name_before width next item [] before mid after named others = absurd others
name_before width next item (other ∷ items) before mid after named others = (mid, named, others)

-- what the last declaration says, before those that are earlier
pub latest : (before : List DeclaredType) (last : DeclaredType) (kind : Kind) (id : ℤ) → meaning_of (reverse (before ++ last ∷ [])) kind id
    ≡ cond (fits last kind id) (said last.meaning id (meaning_of (reverse before))) (meaning_of (reverse before) kind id)
latest before last kind id = rw (reverse-append before (last ∷ [])) refl
