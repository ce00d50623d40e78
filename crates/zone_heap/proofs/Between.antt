-- Blocks have bytes, so those at an address, or between two, are the same however they are found.
use Rattle.std.proofs.Common.{◌≡◌, ℕ, ◌+◌, true, [], ◌∷◌, ◌++◌, refl, ap, sym, ◌∙◌, append_assoc, arith, IsTrue}
use Rattle.std.proofs.lemmas.Bool.{and_parts}
use Rattle.mac_base.specs.declared.block.Entry.{Entry}
use Rattle.mac_base.specs.HeadKind.{Shape}
use Rattle.mac_base.specs.Suits.{is_block_size}
use Rattle.mac_base.specs.ZoneMap.{ZoneMap, total_size, address_after}
use Rattle.mac_base.specs.ZoneState.{ZoneState}
use Rattle.zone_laws.proofs.GapApart.{sizes_possible}
use Rattle.linked_zone.specs.Fit.{HasSizes}
use Rattle.linked_zone.specs.Places.{EntryAt, ParcelAt, ParcelUpTo}
use Rattle.zone_index.specs.Runs.{none_fixed}
use Rattle.zone_index.proofs.Sizes.{all_parts, first_bytes}
use Rattle.zone_index.proofs.SomeBytes.{total_size-push}
use Rattle.zone_heap.proofs.Owning.{heads}

-- two blocks of a map that end at one place are one
pub same_block : (s : Shape) (a : ZoneMap) (e : Entry) (b : ZoneMap) (c : ZoneMap) (f : Entry) (d : ZoneMap) → a ++ e ∷ b ≡ c ++ f ∷ d → sizes_possible s (a ++ e ∷ b) ≡ true
    → total_size a + e.size ≡ total_size c + f.size → (e ≡ f) × (total_size a ≡ total_size c)
same_block s [] e b [] f d is sizes ends = ((heads e f b d is).0, refl)
same_block s [] e b (g ∷ c) f d is sizes ends =
    let size = ap (λ (e : Entry). e.size) (heads e g b (c ++ f ∷ d) is).0 in
    let some = first_bytes s f d (all_parts (λ (e : Entry). is_block_size s e.size) (g ∷ c) (f ∷ d) (ap (sizes_possible s) (sym is) ∙ sizes)).1 in
    absurd (omega arith)
same_block s (g ∷ a) e b [] f d is sizes ends =
    let size = ap (λ (e : Entry). e.size) (heads g f (a ++ e ∷ b) d is).0 in
    let some = first_bytes s e b (all_parts (λ (e : Entry). is_block_size s e.size) (g ∷ a) (e ∷ b) sizes).1 in
    absurd (omega arith)
same_block s (g ∷ a) e b (h ∷ c) f d is sizes ends =
    let head = heads g h (a ++ e ∷ b) (c ++ f ∷ d) is in
    let size = ap (λ (e : Entry). e.size) head.0 in
    let rest = same_block s a e b c f d head.1 (and_parts (is_block_size s g.size) _ sizes).1 (omega arith) in
    let front = rest.1 in
    (rest.0, omega arith)

-- the block that ends where some blocks end is the last of them
pub previous_block : (z : ZoneState) (start : ℕ) (front : ZoneMap) (f : Entry) (after : ZoneMap) → HasSizes z → z.heap.map ≡ (front ++ f ∷ []) ++ after → start ≡ address_after z.shape (front ++ f ∷ [])
    → (last : ℕ) (e : EntryAt z last) → start ≡ last + (e.here).size → (e.here ≡ f) × (total_size e.before ≡ total_size front)
previous_block z start front f after sizes map place last e there =
    let both : e.before ++ e.here ∷ e.after ≡ front ++ f ∷ after = sym e.map ∙ map ∙ append_assoc front (f ∷ []) after in
    let all = total_size-push front f in
    let first = e.place in
    same_block z.shape e.before e.here e.after front f after both (ap (sizes_possible z.shape) (sym e.map) ∙ sizes) (omega arith)

-- two lists of the same blocks are cut alike where as many bytes are before
same_front : (s : Shape) (a b c d : ZoneMap) → a ++ b ≡ c ++ d → sizes_possible s (a ++ b) ≡ true → total_size a ≡ total_size c → (a ≡ c) × (b ≡ d)
same_front s [] b [] d is sizes same = (refl, is)
same_front s [] b (f ∷ c) d is sizes same = let some = first_bytes s f (c ++ d) (ap (sizes_possible s) (sym is) ∙ sizes) in absurd (omega arith)
same_front s (e ∷ a) b [] d is sizes same = let some = first_bytes s e (a ++ b) sizes in absurd (omega arith)
same_front s (e ∷ a) b (f ∷ c) d is sizes same =
    let head = heads e f (a ++ b) (c ++ d) is in
    let size = ap (λ (e : Entry). e.size) head.0 in
    let rest = same_front s a b c d head.1 (and_parts (is_block_size s e.size) _ sizes).1 (omega arith) in
    (ap (λ e. e ∷ a) head.0 ∙ ap (λ m. f ∷ m) rest.0, rest.1)

-- so are the blocks between two addresses
same_between : (s : Shape) (m a b c d e f : ZoneMap) → sizes_possible s m ≡ true → m ≡ a ++ (b ++ c) → m ≡ d ++ (e ++ f) → total_size a ≡ total_size d → total_size b ≡ total_size e → b ≡ e
same_between s m a b c d e f sizes here there low long =
    let possible = ap (sizes_possible s) (sym here) ∙ sizes in
    let outer = same_front s a (b ++ c) d (e ++ f) (sym here ∙ there) possible low in
    (same_front s b c e f outer.1 (all_parts _ a (b ++ c) possible).1 long).0

-- where no block of a parcel between two addresses is fixed none is of any there
pub parcel_loose : (z : ZoneState) (start end : ℕ) → HasSizes z → (mine : ParcelAt z start end) → none_fixed z.heap.table (mine.here ∷ mine.blocks) ≡ true → (parcel : ParcelAt z start end) → IsTrue (none_fixed z.heap.table (parcel.here ∷ parcel.blocks))
parcel_loose z start end sizes mine loose parcel =
    let p = parcel.place in
    let q = mine.place in
    let l = parcel.long in
    let k = mine.long in
    ap (none_fixed z.heap.table)
    (same_between z.shape z.heap.map parcel.before (parcel.here ∷ parcel.blocks) parcel.after mine.before (mine.here ∷ mine.blocks) mine.after sizes parcel.map mine.map (omega arith) (omega arith)) ∙ loose

-- or of one whose last block is at the second
pub parcel_up_loose : (z : ZoneState) (start at : ℕ) → HasSizes z → (mine : ParcelUpTo z start at) → none_fixed z.heap.table (mine.blocks ++ mine.here ∷ []) ≡ true → (parcel : ParcelUpTo z start at) → IsTrue (none_fixed z.heap.table (parcel.blocks ++ parcel.here ∷ []))
parcel_up_loose z start at sizes mine loose parcel =
    let p = parcel.place in
    let q = mine.place in
    let l = parcel.long in
    let k = mine.long in
    let outer = same_front z.shape parcel.before (parcel.blocks ++ parcel.here ∷ parcel.after) mine.before (mine.blocks ++ mine.here ∷ mine.after) (sym parcel.map ∙ mine.map) (ap (sizes_possible z.shape) (sym parcel.map) ∙ sizes) (omega arith) in
    let possible = (all_parts _ parcel.before (parcel.blocks ++ parcel.here ∷ parcel.after) (ap (sizes_possible z.shape) (sym parcel.map) ∙ sizes)).1 in
    let inner = same_front z.shape parcel.blocks (parcel.here ∷ parcel.after) mine.blocks (mine.here ∷ mine.after) outer.1 possible (omega arith) in
    let head = heads parcel.here mine.here parcel.after mine.after inner.1 in
    ap (none_fixed z.heap.table) (ap (λ m. m ++ parcel.here ∷ []) inner.0 ∙ ap (λ e. mine.blocks ++ e ∷ []) head.0) ∙ loose
