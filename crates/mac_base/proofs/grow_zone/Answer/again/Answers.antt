use Rattle.std.proofs.Common.{◌≤◌, List, [], ◌∷◌, length, Option, Some, None, subst, arith}
use Rattle.std.specs.List.{flat_map}
use Rattle.std.specs.Option.{option_to_list}
use Rattle.mac_base.specs.GrowZone.{Answer}
use Rattle.mac_base.proofs.grow_zone.Answer.again.Goals as goal

-- there are no more calls than places
few_listed : {X : Type 0} (places : List (Option X)) → length (flat_map option_to_list places) ≤ length places
few_listed [] = omega arith
few_listed (None ∷ places) = let rest = few_listed places in omega arith
few_listed (Some call ∷ places) = let rest = few_listed places in omega arith

pub returns-clause-few : goal.returns-clause-few
returns-clause-few c = subst (λ (a : Answer). length a.calls ≤ 8) c.self.view_is (let few = few_listed c.self.inside.calls in omega (arith, few, c.self.told))
