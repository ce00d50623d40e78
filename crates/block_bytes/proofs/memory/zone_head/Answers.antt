use Rattle.std.proofs.Common.{◌≡◌, ◌++◌, ◌∙◌, List, [], ℕ, take, drop, ap}
use borrow.Rule.Slice.PartMut.{put_mid}
use Rattle.byteorder.specs.Endian.{big_bytes}
use Rattle.mac_base.specs.HeadKind.{slot_count}
use Rattle.block_bytes.specs.ZoneHead.{zeros}
use Rattle.block_bytes.proofs.memory.zone_head.Goals as goal

-- a zone's header with these bytes in its fields
abbrev fields : List ℕ → List ℕ → List ℕ → List ℕ → List ℕ → List ℕ
fields end front free slots lowest = end ++ (zeros 4 ++ (front ++ (free ++ (zeros 4 ++ (slots ++ (zeros 26 ++ lowest))))))

pub returns : goal.returns
returns c =
    let end = big_bytes 4 c.args.end in let front = big_bytes 4 c.args.front in let free = big_bytes 4 c.args.free in let slots = big_bytes 2 slot_count in let lowest = big_bytes 4 c.args.lowest in
    let one : c.write_u32.new.buf ++ [] ≡ fields end (zeros 4) (zeros 4) (zeros 2) (zeros 4) = ap (λ (l : List ℕ). l ++ []) c.write_u32.ensures in
    let two : c.write_u32-2.new.buf ≡ front ++ zeros 40 = c.write_u32-2.ensures ∙ ap (λ (l : List ℕ). front ++ drop 4 (take 44 (drop 8 l))) one in
    let two' : put_mid 8 44 (c.write_u32.new.buf ++ []) c.write_u32-2.new.buf ≡ fields end front (zeros 4) (zeros 2) (zeros 4) = λ i. put_mid 8 44 (one i) (two i) in
    let three : c.write_u32-3.new.buf ≡ free ++ zeros 36 = c.write_u32-3.ensures ∙ ap (λ (l : List ℕ). free ++ drop 4 (take 40 (drop 12 l))) two' in
    let three' : put_mid 12 40 (put_mid 8 44 (c.write_u32.new.buf ++ []) c.write_u32-2.new.buf) c.write_u32-3.new.buf ≡ fields end front free (zeros 2) (zeros 4) = λ i. put_mid 12 40 (two' i) (three i) in
    let four : c.write_u16.new.buf ≡ slots ++ zeros 30 = c.write_u16.ensures ∙ ap (λ (l : List ℕ). slots ++ drop 2 (take 32 (drop 20 l))) three' in
    let four' : put_mid 20 32 (put_mid 12 40 (put_mid 8 44 (c.write_u32.new.buf ++ []) c.write_u32-2.new.buf) c.write_u32-3.new.buf) c.write_u16.new.buf ≡ fields end front free slots (zeros 4) = λ i. put_mid 20 32 (three' i) (four i) in
    let five : c.write_u32-4.new.buf ≡ lowest = c.write_u32-4.ensures ∙ ap (λ (l : List ℕ). lowest ++ drop 4 (take 4 (drop 48 l))) four' in
    λ i. put_mid 48 4 (four' i) (five i)
