-- Whether a fork may be read as it says.
use Rattle.std.proofs.Common.{◌≡◌, ℕ, ◌+◌, ◌*◌, ◌<◌, ◌≤◌, ◌&&◌, Bool, true, false, List, length, Option, Some, None, IfNone, subst, ap, ◌∙◌, le-leb}
use Rattle.std.proofs.lemmas.Bool.{lt-leb}
use Rattle.fork_salvage.specs.declared.place.Parts.{Parts}
use Rattle.fork_salvage.specs.declared.entry.Types.{Types}
use Rattle.fork_salvage.specs.Salvage.{part, parts_at, told_types, lies_within, may_be_told}

all_three : (a b d : Bool) → a ≡ true → b ≡ true → d ≡ true → (a && b && d) ≡ true
all_three a b d first second third =
    ap (λ (x : Bool). x && b && d) first ∙ ap (λ (x : Bool). x && d) second ∙ third

last_fails : (a b d : Bool) → a ≡ true → b ≡ true → d ≡ false → (a && b && d) ≡ false
last_fails a b d first second third =
    ap (λ (x : Bool). x && b && d) first ∙ ap (λ (x : Bool). x && d) second ∙ third

pub told_holds : (fork : List ℕ) (parts : Parts) (types : Types) → parts ≡ parts_at 0 fork → 16 ≤ length fork → lies_within (length fork) parts ≡ true →
    types ≡ told_types (part fork parts.map) → types.place + 2 + 8 * types.count ≤ length (part fork parts.map) → may_be_told fork ≡ true
told_holds fork parts types is long within same inside =
    let P : Parts → Type 0 = λ p. (lies_within (length fork) p ≡ true) × (types ≡ told_types (part fork p.map)) × (types.place + 2 + 8 * types.count ≤ length (part fork p.map)) in
    let told = subst P is (within, same, inside) in
    let Q : Types → Type 0 = λ t. t.place + 2 + 8 * t.count ≤ length (part fork (parts_at 0 fork).map) in
    all_three _ _ _ (le-leb _ _ long) told.0 (le-leb _ _ (subst Q told.1 told.2))

pub told_fails : (fork : List ℕ) (parts : Parts) → parts ≡ parts_at 0 fork → 16 ≤ length fork → lies_within (length fork) parts ≡ true →
    length (part fork parts.map) < (told_types (part fork parts.map)).place + 2 + 8 * (told_types (part fork parts.map)).count → may_be_told fork ≡ false
told_fails fork parts is long within outside =
    let P : Parts → Type 0 = λ p. (lies_within (length fork) p ≡ true)
    × (length (part fork p.map) < (told_types (part fork p.map)).place + 2 + 8 * (told_types (part fork p.map)).count) in
    let told = subst P is (within, outside) in
    last_fails _ _ _ (le-leb _ _ long) told.0 (lt-leb _ _ told.1)

-- what holds, holds where there is none
pub none_holds : {X : Type 0} (found : Option X) (P : Type 0) → P → IfNone found P
none_holds None P holds = holds
none_holds (Some x) P holds = tt
