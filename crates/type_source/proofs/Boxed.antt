-- What spells fields spells them in boxes, too.
use Rattle.std.proofs.Common.{◌≡◌, ℕ, List, sym, subst}
use Rattle.res_types.specs.declared.field.Count.{Count}
use Rattle.res_types.specs.declared.field.Key.{Key}
use Rattle.res_types.specs.declared.field.Field.{Field}
use Rattle.type_source.specs.declared.token.Token.{Token}
use Rattle.type_source.specs.Spelling.{Braced, Bracketed, Keyed, Row, Spells, SpellsBounded, SpellsCount, SpellsCounted, StartsArray, StartsNamed}

braced_box : (body boxed : Field) (before after : List Token) → boxed ≡ body → Braced (Spells body Row) before after → Braced (Spells boxed Row) before after
braced_box body boxed before after same spelled = subst (λ (f : Field). Braced (Spells f Row) before after) (sym same) spelled

-- an array of so many elements
pub bounded_array : (count : ℕ) (body boxed : Field) (before start mid after : List Token) → boxed ≡ body → StartsArray before start → Bracketed count start mid → Braced (Spells body Row) mid after
    → SpellsBounded count (Spells boxed Row) before after
bounded_array count body boxed before start mid after same array bracket spelled = (start, mid, array, bracket, braced_box body boxed mid after same spelled)

-- a count, fields, and the array that it counts
pub counted_array : (count : Count) (name : List ℕ) (between boxed_between body boxed : Field) (before start mid inner after : List Token) → boxed_between ≡ between → boxed ≡ body
    → SpellsCount count name before start → Spells between Row start mid → StartsNamed name mid inner → Braced (Spells body Row) inner after
    → SpellsCounted count (Spells boxed_between Row) (Spells boxed Row) before after
counted_array count name between boxed_between body boxed before start mid inner after same_between same counts fields named spelled = (
  name,
  start,
  mid,
  inner,
  counts,
  subst (λ (f : Field). Spells f Row start mid) (sym same_between) fields,
  named,
  braced_box body boxed inner after same spelled,
)

-- the fields after one that is before a key
pub keyed_next : (key : Key) (next sum : ℕ) (others boxed : Field) (before after : List Token) → boxed ≡ others → next ≡ sum → Spells others (Keyed key next) before after → Spells boxed (Keyed key sum) before after
keyed_next key next sum others boxed before after same is spelled =
    subst (λ (f : Field). Spells f (Keyed key sum) before after) (sym same) (subst (λ (n : ℕ). Spells others (Keyed key n) before after) is spelled)
