-- The one block that a number names becomes free, and is joined to its free neighbours.
use Rattle.std.proofs.Common.{◌≡◌, ℕ, Bool, true, List, [], ◌∷◌, ◌++◌, length, refl, cond, ap, sym, ◌∙◌, arith, append-nil, append_assoc, subst, IsTrue}
use Rattle.std.specs.List.{list_all}
use Rattle.std.proofs.lemmas.List.Folds.{list_all-append}
use Rattle.mac_base.specs.declared.block.Entry.{Entry}
use Rattle.mac_base.specs.declared.block.Kind.TheVariants.{Free, Rel}
use Rattle.mac_base.specs.HeadKind.{Shape}
use Rattle.mac_base.specs.ZoneMap.{ZoneMap, block, is_named, sizes}
use Rattle.mac_base.specs.HandleTable.{HandleTable, has_block}
use Rattle.mac_base.specs.Suits.{Suits, free_apart, is_block_size}
use Rattle.mac_base.specs.Sound.{Sound}
use Rattle.mac_base.specs.ZoneState.{ZoneState}
use Rattle.zone_laws.proofs.NamedPlace.{At, At-from}
use Rattle.zone_laws.proofs.ReleasedBlocks.{marked, marked-append, marked-none}
use Rattle.zone_laws.proofs.SuitsNamed.{named_once}
use Rattle.zone_laws.proofs.Tables.{eqb_same}
use Rattle.zone_laws.proofs.Taken.{free_apart-after, free_apart-replaced}
use Rattle.linked_zone.specs.Changes.{freed}
use Rattle.linked_zone.specs.Places.{BlockOf, NamedAt}
use Rattle.zone_heap.specs.Joins.{NewlyFree}

-- a block that x names is the one block that it names
pub named_alone : (s : Shape) (t : HandleTable) (m : ZoneMap) (x : ℕ) → Suits s t m → has_block t x ≡ true → (a : ZoneMap) (e : Entry) (b : ZoneMap) → m ≡ a ++ e ∷ b → is_named x e.kind ≡ true → At x m e.size a e.kind b
named_alone s t m x suits has a e b was named = by_sizes (sizes (is_named x) m) refl (named_once s t m x suits has)
  where
    by_sizes : (ns : List ℕ) → sizes (is_named x) m ≡ ns → length ns ≡ 1 → At x m e.size a e.kind b
    by_sizes [] is one = absurd (omega arith)
    by_sizes (n ∷ []) is one = let at = At-from x m n a e b is was named in record { was = was; named = named; none_front = at.none_front; none_back = at.none_back }
    by_sizes (n ∷ k ∷ ns) is one = absurd (omega arith)

-- it is the one that becomes free
pub freed-At : (x : ℕ) (m : ZoneMap) (e : Entry) (a b : ZoneMap) → At x m e.size a e.kind b → freed x m ≡ a ++ block Free e.size ∷ b
freed-At x m e a b at =
    ap (marked x) at.was
    ∙ marked-append x a (e ∷ b)
    ∙ ap (λ c. c ++ marked x (e ∷ b)) (marked-none x a at.none_front)
    ∙ ap (λ c. a ++ c ∷ marked x b) (ap (λ c. cond c (block Free e.size) e) at.named)
    ∙ ap (λ c. a ++ block Free e.size ∷ c) (marked-none x b at.none_back)

-- a map is apart up to a place
pub free_apart-front : (before m : ZoneMap) → IsTrue (free_apart (before ++ m)) → IsTrue (free_apart before)
free_apart-front before m h = subst (λ m. IsTrue (free_apart m)) (append-nil before) (free_apart-replaced before m [] (λ none. absurd (cc none)) refl h)

-- the zone with another table in which the block of x is free
abbrev pub with_freed : ℕ → HandleTable → ZoneState → ZoneState
with_freed x t z = record { memory = z.memory; shape = z.shape; heap = record { table = t; map = freed x z.heap.map; free_slots = z.heap.free_slots } }

-- the block may have free neighbours then
pub newly-free : (z : ZoneState) (x at : ℕ) (t : HandleTable) → Sound z.shape z.heap → has_block z.heap.table x ≡ true → NamedAt z x at → NewlyFree (with_freed x t z) at
newly-free z x at t sound has b =
    let possible : Entry → Bool = λ e. is_block_size z.shape e.size in
    let is = freed-At x z.heap.map b.here b.before b.after (named_alone z.shape z.heap.table z.heap.map x sound.suits has b.before b.here b.after b.map b.named) in
    let apart : IsTrue (free_apart (b.before ++ b.here ∷ b.after)) = subst (λ m. IsTrue (free_apart m)) b.map sound.suits.apart in
    record {
      free = record { before = b.before; size = b.here.size; after = b.after; map = is; place = b.place };
      before = free_apart-front b.before (b.here ∷ b.after) apart;
      after = free_apart-after (b.before ++ b.here ∷ []) b.after (subst (λ m. IsTrue (free_apart m)) (sym (append_assoc b.before (b.here ∷ []) b.after)) apart);
      sizes = ap (list_all possible) is ∙ list_all-append possible b.before (block Free b.here.size ∷ b.after) ∙ sym (list_all-append possible b.before (b.here ∷ b.after)) ∙ ap (list_all possible) (sym b.map) ∙ sound.suits.sizes;
    }

-- the block of a handle is one that its number names
abbrev pub block_named : (z : ZoneState) (h at : ℕ) → BlockOf z h at → NamedAt z h at
block_named z h at b = record { before = b.before; here = block (Rel h) b.size; after = b.after; map = b.map; place = b.place; named = eqb_same h }
