-- What joining neighbouring free blocks keeps, and which maps it makes one.
use Rattle.std.proofs.Common.{arith, ◌≡◌, ℕ, ◌+◌, Bool, true, false, not, cond, [], ◌∷◌, ◌++◌, refl, ap, sym, ◌∙◌, add_assoc}
use Rattle.std.specs.Prelude.{◌&&◌}
use Rattle.std.proofs.lemmas.Bool.{and_parts, not-true}
use Rattle.mac_base.specs.declared.block.Entry.{Entry}
use Rattle.mac_base.specs.declared.block.Kind.{Kind}
use Rattle.mac_base.specs.declared.block.Kind.TheVariants.{Free}
use Rattle.mac_base.specs.ZoneMap.{ZoneMap, block, is_free, joined, joined_to, total_size, addresses_from, sizes}
use Rattle.mac_base.specs.Suits.{free_apart, starts_free}
use Rattle.zone_laws.proofs.Arranging.{free_is}

-- a block is not joined to what does not begin free
pub joined_to-apart : (e : Entry) (es : ZoneMap) → (is_free e.kind && starts_free es) ≡ false → joined_to e es ≡ e ∷ es
joined_to-apart e [] h = refl
joined_to-apart e (f ∷ es) h = ap (λ b. cond b (block Free (e.size + f.size) ∷ es) (e ∷ f ∷ es)) h

-- what is joined already stays
pub joined-apart : (m : ZoneMap) → free_apart m ≡ true → joined m ≡ m
joined-apart [] h = refl
joined-apart (e ∷ es) h = let parts = and_parts (not (is_free e.kind && starts_free es)) (free_apart es) h in ap (joined_to e) (joined-apart es parts.1) ∙ joined_to-apart e es (not-true _ parts.0)

-- the same blocks in front of what joins alike
pub joined-front : (a b c : ZoneMap) → joined b ≡ joined c → joined (a ++ b) ≡ joined (a ++ c)
joined-front [] b c h = h
joined-front (e ∷ a) b c h = ap (joined_to e) (joined-front a b c h)

-- What a free block does to the one before it: a join leaves the sum of both, or none is joined.
pub join_cases : (P : ZoneMap → Type 0) (e : Entry) (m : ZoneMap) → ((f : Entry) (es : ZoneMap) → m ≡ f ∷ es → e.kind ≡ Free → f.kind ≡ Free → P (block Free (e.size + f.size) ∷ es)) → P (e ∷ m) → P (joined_to e m)
join_cases P e [] both same = same
join_cases P e (f ∷ es) both same = elim (is_free e.kind && is_free f.kind) as (λ b. (is_free e.kind && is_free f.kind) ≡ b → P (cond b (block Free (e.size + f.size) ∷ es) (e ∷ f ∷ es))) [
  | true ↦ λ free. let parts = and_parts (is_free e.kind) (is_free f.kind) free in both f es refl (free_is e.kind parts.0) (free_is f.kind parts.1)
  | false ↦ λ apart. same
] refl

-- joining one block to the next keeps the bytes
pub total_size-joined_to : (e : Entry) (m : ZoneMap) → total_size (joined_to e m) ≡ e.size + total_size m
total_size-joined_to e m = join_cases (λ j. total_size j ≡ e.size + total_size m) e m (λ f es was _ _. add_assoc e.size f.size (total_size es) ∙ ap (λ m. e.size + total_size m) (sym was)) refl

-- and so does joining them all
pub total_size-joined : (m : ZoneMap) → total_size (joined m) ≡ total_size m
total_size-joined [] = refl
total_size-joined (e ∷ es) = total_size-joined_to e (joined es) ∙ ap (λ n. e.size + n) (total_size-joined es)

-- joining keeps the sizes of the blocks that pass a test which no free block passes
pub sizes-joined : (test : Kind → Bool) (m : ZoneMap) → test Free ≡ false → sizes test (joined m) ≡ sizes test m
sizes-joined test [] h = refl
sizes-joined test (e ∷ es) h = grind (arith, sizes-joined test es h, join_cases)

-- and their addresses
pub addresses_from-joined : (at : ℕ) (test : Kind → Bool) (m : ZoneMap) → test Free ≡ false → addresses_from at test (joined m) ≡ addresses_from at test m
addresses_from-joined at test [] h = refl
addresses_from-joined at test (e ∷ es) h = grind (arith, addresses_from-joined (at + e.size) test es h, join_cases)

-- two free blocks, one after the other, join as one
pub joined-two : (a b : ℕ) (m : ZoneMap) → joined (block Free a ∷ block Free b ∷ m) ≡ joined (block Free (a + b) ∷ m)
joined-two a b m = grind arith

-- a block joined to others among which free blocks are apart leaves them apart
pub free_apart-joined_to : (e : Entry) (m : ZoneMap) → free_apart m ≡ true → free_apart (joined_to e m) ≡ true
free_apart-joined_to e v1 h = grind arith

-- free blocks of a joined map are apart
pub free_apart-joined : (m : ZoneMap) → free_apart (joined m) ≡ true
free_apart-joined [] = refl
free_apart-joined (e ∷ es) = free_apart-joined_to e (joined es) (free_apart-joined es)
