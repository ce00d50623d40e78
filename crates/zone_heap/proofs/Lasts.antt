-- The last block of a list.
use Rattle.std.proofs.Common.{◌≡◌, ◌<◌, [], ◌∷◌, ◌++◌, refl, ap, arith}
use Rattle.mac_base.specs.declared.block.Entry.{Entry}
use Rattle.mac_base.specs.ZoneMap.{ZoneMap, total_size}

-- a list with a last block isn't empty
pub no_last : (a : ZoneMap) (e : Entry) → [] ≡ a ++ e ∷ [] → ⊥
no_last [] e h = absurd (cc h)
no_last (d ∷ a) e h = absurd (cc h)

-- two lists of the same blocks have one last block, and the same before it
pub same_last : (a : ZoneMap) (e : Entry) (b : ZoneMap) (f : Entry) → a ++ e ∷ [] ≡ b ++ f ∷ [] → (a ≡ b) × (e ≡ f)
same_last [] e [] f h = (refl, cc h)
same_last [] e (g ∷ b) f h = absurd (no_last b f (let t : [] ≡ b ++ f ∷ [] = cc h in t))
same_last (d ∷ a) e [] f h = absurd (no_last a e (let t : [] ≡ a ++ e ∷ [] = cc h in t))
same_last (d ∷ a) e (g ∷ b) f h =
    let head : d ≡ g = cc h in
    let rest = same_last a e b f (let t : a ++ e ∷ [] ≡ b ++ f ∷ [] = cc h in t) in
    let tails : a ≡ b = rest.0 in
    (cc (head, tails), rest.1)

-- the last block of a list, and those before it
pub record Last (m : ZoneMap) : Type 0 where
  pub front : ZoneMap
  pub here : Entry
  pub is : m ≡ front ++ here ∷ []

-- a list that isn't empty has one
pub last_of : (e : Entry) (es : ZoneMap) → Last (e ∷ es)
last_of e [] = record { front = []; here = e; is = refl }
last_of e (f ∷ es) = let rest = last_of f es in record { front = e ∷ rest.front; here = rest.here; is = ap (λ m. e ∷ m) rest.is }

-- blocks that have bytes in all have a last one
pub some_last : (m : ZoneMap) → 0 < total_size m → Last m
some_last [] some = absurd (omega arith)
some_last (e ∷ es) some = last_of e es
