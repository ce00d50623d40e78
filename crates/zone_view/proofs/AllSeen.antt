-- All blocks of a zone, in as many rows.
use Rattle.std.proofs.Common.{◌≡◌, ℕ, List, ◌++◌, length, take, drop, map, sym, ap, subst, ◌∙◌, arith}
use Rattle.std.proofs.lemmas.List.{append-nil, drop_all, map-id, take_all}
use Rattle.mac_base.specs.declared.block.Block.{Block}
use Rattle.zone_look.specs.Laws.{OneAnswer}
use Rattle.zone_look.specs.Look.{IsLook, put_in}
use Rattle.zone_look.specs.Memory.{Memory}
use Rattle.zone_look.specs.declared.looking.Found.{Found}

-- rows in which as many are put hold these
filled : {A : Type 0} (rows found : List A) → length rows ≡ length found → put_in rows found ≡ found
filled rows found many =
    ap (λ (xs : List _). xs ++ drop (length found) rows) (take_all (length rows) found (omega (arith, many)))
    ∙ ap (λ (xs : List _). found ++ xs) (drop_all (length found) rows (omega (arith, many))) ∙ append-nil found

-- and so do the rows of a list of which they are the front, cut to as many
cut_to : {A : Type 0} (rows new found : List A) (len : ℕ) → new ≡ found → length rows ≡ length found → len ≡ length rows → take len (new ++ drop (length new) rows) ≡ found
cut_to rows new found len is many long =
    let whole : new ++ drop (length new) rows ≡ found =
    ap (λ (xs : List _). xs ++ drop (length xs) rows) is ∙ ap (λ (xs : List _). found ++ xs) (drop_all (length found) rows (omega (arith, many))) ∙ append-nil found in
    ap (take len) whole ∙ take_all len found (omega (arith, many, long))

-- a second look puts all blocks in rows of which there are as many as a first one counted
pub all_put : (m : Memory) (counted found : Found) (first second rows new : List Block) (len : ℕ) → OneAnswer → IsLook m counted first → IsLook m found second
    → length rows ≡ counted.blocks → new ≡ put_in rows (map (λ block. block) second) → len ≡ length rows → IsLook m found (take len (new ++ drop (length new) rows))
all_put m counted found first second rows new len one saw sees many put long =
    let same : first ≡ second = (one m first second saw.slots sees.slots counted.fault found.fault saw.found sees.found).0 in
    let count : length rows ≡ length second = many ∙ saw.block_count ∙ ap length same in
    let is : new ≡ second = put ∙ ap (put_in rows) (map-id second) ∙ filled rows second count in
    subst (IsLook m found) (sym (cut_to rows new second len is count long)) sees
