-- The bytes that a call makes of those that were read.
use Rattle.std.proofs.Common.{◌≡◌, ◌∙◌, ℕ, ◌+◌, ◌-◌, ◌≤◌, true, List, [], Option, Some, None, IfSome, ◌++◌, length, take, drop, sym, ap, subst, arith, ⊎_elim}
use Rattle.std.specs.Prelude.{min}
use Rattle.std.proofs.lemmas.Bool.{leb-true}
use Rattle.std.proofs.lemmas.Bool.Decides.{leb_tells}
use Rattle.std.proofs.lemmas.List.{append-nil, drop-replicate, drop_all, length-append, length-drop, length-replicate, length-take, length-take-le, nil_from_length, take-append-drop, take-append-le, take_all, take_at}
use Rattle.std.proofs.Math.Nat.{min-eq_left, min-eq_right, min-le_left, min-le_right}
use Rattle.std.specs.Option.{option_map_or}
use Rattle.fork_disk.specs.Disk.{bytes_at, put_at}
use Rattle.mac_base.specs.HandleTable.{resized, zeros}
use Rattle.res_update.specs.Changes.{FileRow}
use Rattle.res_update.specs.Patching.{begins_within, patched_bytes}
use Rattle.res_update.specs.declared.patching_call.PatchingCall.{PatchingCall}
use Rattle.res_update.specs.declared.patching_call.PatchingCall.TheVariants.{SetResourceSize, WritePartialResource}
use Rattle.res_manager.specs.Patching.{put_over}

-- as many as there were, of which the first were read
as_many : (own read : List ℕ) → length read ≤ length own → length (read ++ drop (length read) own) ≡ length own
as_many own read fewer =
    let all = length-append read (drop (length read) own) in let rest = length-drop (length read) own in omega (arith, all, rest, fewer)

-- the length of resized bytes
size_of : (n : ℕ) (own : List ℕ) → length (resized n own) ≡ n
size_of n own =
    let all = length-append (take n own) (zeros (n - length own)) in
    let rest : length (zeros (n - length own)) ≡ n - length own = length-replicate (n - length own) 0 in
    let part = length-take n own in
    ⊎_elim (λ few. let least = min-eq_left few.1 in omega (arith, all, rest, part, least, few.1)) (λ more. let le : length own ≤ n = omega (arith, more.1) in let least = min-eq_right le in omega (arith, all, rest, part, least, le)) (leb_tells n (length own))

-- the length once others are put over them, from within
put_length : (at : ℕ) (bytes own : List ℕ) → at ≤ length own → length (put_at at bytes own) ≡ at + length bytes + (length own - (at + length bytes))
put_length at bytes own within =
    let all : length (put_at at bytes own) ≡ length (take at own ++ bytes) + length (drop (at + length bytes) own) = length-append (take at own ++ bytes) (drop (at + length bytes) own) in
    let front = length-append (take at own) bytes in
    let past = length-drop (at + length bytes) own in
    let part = length-take at own in let least = min-eq_left within in omega (arith, all, front, past, part, least)

-- fewer bytes than there were
shorter : (n : ℕ) (own read : List ℕ) → n ≤ length own → length read ≡ n → read ++ drop n (zeros n) ≡ resized n (read ++ drop n own)
shorter n own read few long =
    let none : zeros (n - n) ≡ [] = (let is : n - n ≡ 0 = omega arith in ap zeros is) in
    let all = as_many own read (omega (arith, few, long)) in
    let size : length (read ++ drop n own) ≡ length own = subst (λ (k : ℕ). length (read ++ drop k own) ≡ length own) long all in
    let over : zeros (n - length (read ++ drop n own)) ≡ [] = (let is : n - length (read ++ drop n own) ≡ 0 = omega (arith, size, few) in ap zeros is) in
    let left : read ++ drop n (zeros n) ≡ read ++ [] = ap (λ (b : List ℕ). read ++ b) (drop-replicate n n 0 ∙ none) in
    let right : resized n (read ++ drop n own) ≡ read ++ [] =
    ap (λ (b : List ℕ). b ++ zeros (n - length (read ++ drop n own))) (take_at read (drop n own) n long) ∙ ap (λ (b : List ℕ). read ++ b) over in
    left ∙ sym right

-- all that there were, and zeros
longer : (n : ℕ) (own read : List ℕ) → length own ≤ n → length read ≡ length own → read ++ drop (length own) (zeros n) ≡ resized n (read ++ drop (length own) own)
longer n own read more long =
    let whole : read ++ drop (length own) own ≡ read = ap (λ (b : List ℕ). read ++ b) (drop_all (length own) own (omega arith)) ∙ append-nil read in
    let same : resized n read ≡ read ++ zeros (n - length own) =
    ap (λ (b : List ℕ). b ++ zeros (n - length read)) (take_all n read (omega (arith, more, long))) ∙ ap (λ (k : ℕ). read ++ zeros (n - k)) long in
    ap (λ (b : List ℕ). read ++ b) (drop-replicate (length own) n 0) ∙ sym same ∙ ap (resized n) (sym whole)

-- bytes put over what was read and the zeros after it
over : (at : ℕ) (bytes own read : List ℕ) (size : ℕ) → at ≤ length own → size ≡ length (put_at at bytes own) → length read ≡ length own
    → put_at at bytes (read ++ drop (length own) (zeros size)) ≡ put_at at bytes (read ++ drop (length own) own)
over at bytes own read size within is long =
    let whole : read ++ drop (length own) own ≡ read = ap (λ (b : List ℕ). read ++ b) (drop_all (length own) own (omega arith)) ∙ append-nil read in
    let room = put_length at bytes own within in
    let more : List ℕ = drop (length own) (zeros size) in
    let few : length more ≡ size - length own = length-drop (length own) (zeros size) ∙ ap (λ (k : ℕ). k - length own) (length-replicate size 0) in
    let front : take at (read ++ more) ≡ take at read = take-append-le at read more (omega (arith, within, long)) in
    let past : drop (at + length bytes) (read ++ more) ≡ drop (at + length bytes) read = ⊎_elim
    (λ low. let none : length more ≡ 0 = omega (arith, few, is, room, low.1) in ap (λ (b : List ℕ). drop (at + length bytes) (read ++ b)) (empty more none) ∙ ap (drop (at + length bytes)) (append-nil read))
    (λ high. let all = length-append read more in
    drop_all (at + length bytes) (read ++ more) (omega (arith, all, few, is, room, high.1, long)) ∙ sym (drop_all (at + length bytes) read (omega (arith, high.1, long)))) (leb_tells (at + length bytes) (length own)) in
    ap (λ (b : List ℕ). b ++ bytes ++ drop (at + length bytes) (read ++ more)) front ∙ ap (λ (b : List ℕ). take at read ++ bytes ++ b) past ∙ ap (put_at at bytes) (sym whole)
  where
    empty : (xs : List ℕ) → length xs ≡ 0 → xs ≡ []
    empty xs none = drop_all 0 xs (omega (arith, none))

-- so many bytes are made of so many
pub made_of : (call : PatchingCall) (own read : List ℕ) (size kept : ℕ) → begins_within call own ≡ true → size ≡ length (patched_bytes call own) → kept ≡ min (length own) size → length read ≡ kept
    → put_over call (read ++ drop kept (zeros size)) ≡ patched_bytes call (read ++ drop kept own)
made_of (SetResourceSize h n) own read size kept within is least long =
    let all : size ≡ n = is ∙ size_of n own in
    ⊎_elim
    (λ few. let k : kept ≡ n = least ∙ ap (min (length own)) all ∙ min-eq_right few.1 in
    ap (λ (j : ℕ). read ++ drop j (zeros size)) k ∙ ap (λ (j : ℕ). read ++ drop n (zeros j)) all ∙ shorter n own read few.1 (long ∙ k) ∙ ap (λ (j : ℕ). resized n (read ++ drop j own)) (sym k))
    (λ more. let le : length own ≤ n = omega (arith, more.1) in let k : kept ≡ length own = least ∙ ap (min (length own)) all ∙ min-eq_left le in
    ap (λ (j : ℕ). read ++ drop j (zeros size)) k ∙ ap (λ (j : ℕ). read ++ drop (length own) (zeros j)) all ∙ longer n own read le (long ∙ k) ∙ ap (λ (j : ℕ). resized n (read ++ drop j own)) (sym k))
    (leb_tells n (length own))
made_of (WritePartialResource h at bytes) own read size kept within is least long =
    let low = leb-true at (length own) within in
    let room = put_length at bytes own low in
    let le : length own ≤ size = omega (arith, is, room) in
    let k : kept ≡ length own = least ∙ min-eq_left le in
    ap (λ (j : ℕ). put_at at bytes (read ++ drop j (zeros size))) k ∙ over at bytes own read size low is (long ∙ k) ∙ ap (λ (j : ℕ). put_at at bytes (read ++ drop j own)) (sym k)

-- as many as there were
pub all_long : (own read : List ℕ) (size kept : ℕ) → kept ≡ min (length own) size → length read ≡ kept → length (read ++ drop kept own) ≡ length own
all_long own read size kept least long =
    let fewer : kept ≤ length own = ⊎_elim
    (λ few. let is : kept ≡ size = least ∙ min-eq_right few.1 in omega (arith, is, few.1))
    (λ more. let le : length own ≤ size = omega (arith, more.1) in let is : kept ≡ length own = least ∙ min-eq_left le in omega (arith, is)) (leb_tells size (length own)) in
    subst (λ (k : ℕ). length (read ++ drop k own) ≡ length own) long (as_many own read (omega (arith, fewer, long)))

-- what was read of a row is the first of its bytes
pub read_whole : (row : Option FileRow) (read : List ℕ) (kept k : ℕ) → length read ≡ kept → k ≡ kept → kept ≤ length (option_map_or (λ (r : FileRow). r.resource.datum) row [])
    → IfSome row (λ r. read ≡ bytes_at k 0 r.resource.datum) → read ++ drop kept (option_map_or (λ (r : FileRow). r.resource.datum) row []) ≡ option_map_or (λ (r : FileRow). r.resource.datum) row []
read_whole None read kept k long same few is =
    let none : List ℕ = [] in let all = length-append read (drop kept none) in let rest = length-drop kept none in nil_from_length _ (omega (arith, all, rest, long, few))
read_whole (Some r) read kept k long same few is =
    ap (λ (b : List ℕ). b ++ drop kept r.resource.datum) (is ∙ ap (λ (n : ℕ). take n r.resource.datum) same) ∙ take-append-drop kept r.resource.datum

-- as many bytes are read as are kept
pub kept_is : (size n : ℕ) (own bytes : List ℕ) (kept : ℕ) → kept ≡ min size (length bytes) → size ≡ length own → bytes ≡ zeros n → (kept ≡ min (length own) n) × (length (take kept bytes) ≡ kept) × (kept ≤ length own)
kept_is size n own bytes kept least same zero =
    let many : length bytes ≡ n = ap length zero ∙ length-replicate n 0 in
    let left : kept ≤ size = subst (λ (k : ℕ). k ≤ size) (sym least) (min-le_left size (length bytes)) in
    let right : kept ≤ length bytes = subst (λ (k : ℕ). k ≤ length bytes) (sym least) (min-le_right size (length bytes)) in
    (least ∙ ap (λ (k : ℕ). min k (length bytes)) same ∙ ap (min (length own)) many, length-take-le kept bytes right, omega (arith, left, same))
