use Rattle.std.proofs.Common.{◌≡◌, refl, ◌+◌, ◌≤◌, ℕ, List, length, pos, to_z, ap, sym, ◌∙◌, subst, w16, arith, Option, None, Some}
use Rattle.std.specs.Option.{IsSome, IfSome, IfNone}
use Rattle.std.proofs.lemmas.Int.{ints}
use Rattle.res_table.specs.declared.row.Row.{Row}
use Rattle.res_table.specs.Rows.{largest_id, AreTaken, IsFree}
use Rattle.res_table.proofs.FreeIds.{unique_is, none_unique}
use Rattle.res_table.proofs.rows.Rows.unique_id.Goals as goal

-- among few rows an id is free
one_left : {D : Type 0} (kind : List ℕ) (rows : List (Row D)) (found : Option ℕ) → length rows ≤ 8192 → IfNone found (AreTaken kind 128 (largest_id + 1) rows) → IsSome found
one_left kind rows None few taken = let many = (none_unique kind rows taken).1 in absurd (omega (arith, few, many))
one_left kind rows (Some id) few taken = refl

pub unwrap-id-requires : goal.unwrap-id-requires
unwrap-id-requires g c = one_left c.args.kind c.args.self.now c.free_id.result c.requires c.free_id.ensures.none

as_signed : (n : ℕ) → n ≤ 32767 → to_z w16 n ≡ pos n
as_signed n small = omega (arith, ints)

pub returns : goal.returns
returns g c =
    let told = subst (λ (found : Option ℕ). IfSome found (λ free. (128 ≤ free) × (free ≤ largest_id) × AreTaken c.args.kind 128 free c.args.self.now × IsFree c.args.kind free c.args.self.now)) c.unwrap-id.ensures c.free_id.ensures.some in
    as_signed c.unwrap-id.result told.1 ∙ ap pos (sym (unique_is c.args.kind c.unwrap-id.result c.args.self.now told.0 told.2 told.3))
