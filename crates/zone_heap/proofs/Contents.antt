-- Where the contents of a handle's block begin.
use Rattle.std.proofs.Common.{◌≡◌, ℕ, ◌+◌, ◌<◌, ◌∷◌, ◌++◌, true, ap, sym, ◌∙◌, arith, subst, IsTrue}
use Rattle.std.specs.Prelude.{◌||◌, ◌&&◌, ◌==◌, ◌%◌, nat_le}
use Rattle.std.specs.List.{list_all}
use Rattle.std.proofs.lemmas.Bool.{and_parts}
use Rattle.std.proofs.lemmas.Bool.Decides.{nat_tests}
use Rattle.std.proofs.lemmas.List.Folds.{list_all-append}
use Rattle.mac_base.specs.declared.block.Kind.TheVariants.{Rel}
use Rattle.mac_base.specs.declared.block.Entry.{Entry}
use Rattle.mac_base.specs.HeadKind.{Shape, head_size, smallest_block}
use Rattle.mac_base.specs.Suits.{is_block_size}
use Rattle.mac_base.specs.ZoneMap.{ZoneMap, block, contents_of, total_size}
use Rattle.mac_base.specs.HandleTable.{is_full, is_pointer}
use Rattle.mac_base.specs.Sound.{Sound}
use Rattle.mac_base.specs.ZoneState.{ZoneState}
use Rattle.zone_laws.proofs.Maps.{total_size-append}
use Rattle.zone_laws.proofs.ResizedBlocks.{contents_of-At}
use Rattle.zone_laws.proofs.Tables.{eqb_same}
use Rattle.zone_laws.proofs.Taken.{head-below_smallest}
use Rattle.linked_zone.specs.Places.{BlockOf}
use Rattle.zone_heap.proofs.Releasing.{named_alone}

-- a block of a possible size is larger than its header
larger : (head small n : ℕ) → head < small → ((n % 4 == 0) && nat_le small n) ≡ true → head < n
larger head small n below size = grind (arith, nat_tests)

-- so is one of a map of such blocks
pub head-within : (s : Shape) (before : ZoneMap) (e : Entry) (after : ZoneMap) → list_all (λ (e : Entry). is_block_size s e.size) (before ++ e ∷ after) ≡ true → head_size s.heads < e.size
head-within s before e after sizes =
    let rest = (and_parts (list_all (λ (e : Entry). is_block_size s e.size) before) _ (sym (list_all-append (λ (e : Entry). is_block_size s e.size) before (e ∷ after)) ∙ sizes)).1 in
    let here = (and_parts (is_block_size s e.size) (list_all (λ (e : Entry). is_block_size s e.size) after) rest).0 in
    larger (head_size s.heads) (smallest_block s.heads) e.size (head-below_smallest s.heads) here

-- a block and its header lie within the zone's limit
pub below_limit : (z : ZoneState) (h at : ℕ) → Sound z.shape z.heap → BlockOf z h at → at + head_size z.shape.heads < z.shape.base + z.shape.limit
below_limit z h at sound b =
    let e = block (Rel h) b.size in
    let all : total_size z.heap.map ≡ total_size b.before + (b.size + total_size b.after) = ap total_size b.map ∙ total_size-append b.before (e ∷ b.after) in
    let large = head-within z.shape b.before e b.after (subst (λ m. IsTrue (list_all (λ (e : Entry). is_block_size z.shape e.size) m)) b.map sound.suits.sizes) in
    let within = sound.within in
    let place = b.place in
    omega arith

-- after its header its contents begin
pub contents_there : (z : ZoneState) (h at : ℕ) → Sound z.shape z.heap → is_full z.heap.table h ≡ true → BlockOf z h at → at + head_size z.shape.heads ≡ contents_of z.shape h z.heap.map
contents_there z h at sound full b =
    ap (λ a. a + head_size z.shape.heads) b.place
    ∙ sym (contents_of-At z.shape h z.heap.map b.size b.before (Rel h) b.after
    (named_alone z.shape z.heap.table z.heap.map h sound.suits (ap (λ c. c || is_pointer z.heap.table h) full) b.before (block (Rel h) b.size) b.after b.map (eqb_same h)))
