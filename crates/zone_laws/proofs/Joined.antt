-- What joining neighbouring free blocks keeps, and that none are left.
use Rattle.std.proofs.Common.{◌≡◌, ℕ, ◌+◌, ◌%◌, Bool, true, false, not, ◌&&◌, cond, [], ◌∷◌, refl, ap, sym, ◌∙◌, arith, IsTrue, ◌==◌, nat_le}
use Rattle.std.specs.List.{list_all}
use Rattle.std.proofs.lemmas.Bool.Decides.{nat_tests}
use Rattle.std.proofs.lemmas.Bool.{not-true, and_parts, not_from_false, and_from}
use Rattle.mac_base.specs.declared.block.Entry.{Entry}
use Rattle.mac_base.specs.declared.block.Kind.{Kind}
use Rattle.mac_base.specs.declared.block.Kind.TheVariants.{Free}
use Rattle.mac_base.specs.HeadKind.{Shape, smallest_block}
use Rattle.mac_base.specs.ZoneMap.{ZoneMap, block, is_free, joined, joined_to}
use Rattle.mac_base.specs.HandleTable.{HandleTable}
use Rattle.mac_base.specs.Suits.{free_apart, starts_free, is_block_size, has_owners_length}
use Rattle.zone_laws.proofs.Arranging.{free_is}
use Rattle.zone_laws.proofs.JoinedBlocks.{joined_to-apart}

-- what a block joined to the map after it is, where both are free, and where not
by_joined : (P : ZoneMap → Type 0) (e f : Entry) (es : ZoneMap) → (is_free e.kind ≡ true → is_free f.kind ≡ true → P (block Free (e.size + f.size) ∷ es)) → P (e ∷ f ∷ es) → P (joined_to e (f ∷ es))
by_joined P e f es both other = elim (is_free e.kind && is_free f.kind) as (λ b. (is_free e.kind && is_free f.kind) ≡ b → P (cond b (block Free (e.size + f.size) ∷ es) (e ∷ f ∷ es))) [
  | true ↦ λ h. let hs = and_parts (is_free e.kind) (is_free f.kind) h in both hs.0 hs.1
  | false ↦ λ h. other
] refl

-- what each block passes, each joined one does, where two that pass make one that passes
pub list_all-joined : (p : Entry → Bool) → ((m n : ℕ) → p (block Free m) ≡ true → p (block Free n) ≡ true → p (block Free (m + n)) ≡ true)
    → (m : ZoneMap) → list_all p m ≡ true → list_all p (joined m) ≡ true
list_all-joined p joins [] h = refl
list_all-joined p joins (e ∷ es) h =
    let hs = and_parts (p e) (list_all p es) h in
    one_more (joined es) hs.0 (list_all-joined p joins es hs.1)
  where
    is_block : (e : Entry) → is_free e.kind ≡ true → e ≡ block Free e.size
    is_block e h = ap (λ (kind : Kind). block kind e.size) (free_is e.kind h)

    one_more : (m : ZoneMap) → p e ≡ true → list_all p m ≡ true → list_all p (joined_to e m) ≡ true
    one_more [] here rest = and_from (p e) true here refl
    one_more (f ∷ fs) here rest =
        let hs = and_parts (p f) (list_all p fs) rest in
        by_joined (λ m. list_all p m ≡ true) e f fs
        (λ a b. and_from (p (block Free (e.size + f.size))) (list_all p fs) (joins e.size f.size (ap p (sym (is_block e a)) ∙ here) (ap p (sym (is_block f b)) ∙ hs.0)) hs.1)
        (and_from (p e) (p f && list_all p fs) here rest)

sum_size : (heads : ℕ) (m n : ℕ) → ((m % 4 == 0) && nat_le heads m) ≡ true → ((n % 4 == 0) && nat_le heads n) ≡ true → (((m + n) % 4 == 0) && nat_le heads (m + n)) ≡ true
sum_size heads m n a b = grind (arith, nat_tests)

-- two possible sizes make one
pub sizes-joined : (s : Shape) (m : ZoneMap) → IsTrue (list_all (λ (e : Entry). is_block_size s e.size) m) → IsTrue (list_all (λ (e : Entry). is_block_size s e.size) (joined m))
sizes-joined s m h = list_all-joined (λ (e : Entry). is_block_size s e.size) (λ a b. sum_size (smallest_block s.heads) a b) m h

-- a block made of two free ones has no owner whose length it must have
pub lengths-joined : (s : Shape) (t : HandleTable) (m : ZoneMap) → IsTrue (list_all (has_owners_length s t) m) → IsTrue (list_all (has_owners_length s t) (joined m))
lengths-joined s t m h = list_all-joined (has_owners_length s t) (λ a b p q. refl) m h

-- a join after the first block leaves whether it is free
pub starts_free-joined_to : (e : Entry) (m : ZoneMap) → starts_free (joined_to e m) ≡ is_free e.kind
starts_free-joined_to e [] = refl
starts_free-joined_to e (f ∷ es) = by_joined (λ m. starts_free m ≡ is_free e.kind) e f es (λ p q. sym p) refl

-- joining leaves whether a map starts free
pub starts_free-joined : (m : ZoneMap) → starts_free (joined m) ≡ starts_free m
starts_free-joined [] = refl
starts_free-joined (e ∷ es) = starts_free-joined_to e (joined es)

free_apart-joined_to : (e : Entry) (m : ZoneMap) → IsTrue (free_apart m) → IsTrue (free_apart (joined_to e m))
free_apart-joined_to e [] h = by_test (is_free e.kind)
  where
    by_test : (b : Bool) → (not (b && false) && true) ≡ true
    by_test true = refl
    by_test false = refl
free_apart-joined_to e (f ∷ es) h =
    let hs = and_parts (not (is_free f.kind && starts_free es)) (free_apart es) h in
    elim (is_free e.kind && is_free f.kind) as (λ b. (is_free e.kind && is_free f.kind) ≡ b → IsTrue (free_apart (cond b (block Free (e.size + f.size) ∷ es) (e ∷ f ∷ es)))) [
      | true ↦ λ both. let ends = and_parts (is_free e.kind) (is_free f.kind) both in
          and_from (not (starts_free es)) (free_apart es) (sym (ap (λ b. not (b && starts_free es)) ends.1) ∙ hs.0) hs.1
      | false ↦ λ both. and_from (not (is_free e.kind && is_free f.kind)) _ (not_from_false _ both) h
    ] refl

-- no two neighbours are free once they are joined
pub free_apart-joined : (m : ZoneMap) → IsTrue (free_apart (joined m))
free_apart-joined [] = refl
free_apart-joined (e ∷ es) = free_apart-joined_to e (joined es) (free_apart-joined es)

-- what is joined already stays
pub joined-apart : (m : ZoneMap) → IsTrue (free_apart m) → joined m ≡ m
joined-apart [] h = refl
joined-apart (e ∷ es) h =
    let hs = and_parts (not (is_free e.kind && starts_free es)) (free_apart es) h in
    ap (joined_to e) (joined-apart es hs.1) ∙ joined_to-apart e es (not-true _ hs.0)
