use Rattle.std.proofs.Common.{◌≡◌, ◌++◌, List, ℕ, length, ap, ◌∙◌, take, arith}
use Rattle.std.proofs.lemmas.List.{take_min, length-take}
use Rattle.byteorder.specs.Endian.{big_bytes}
use Rattle.mac_files.specs.declared.part.Part.{Part}
use Rattle.mac_files.specs.MacBinary.{resource_fork}
use Rattle.mac_write.specs.Bytes.{filled, put}
use Rattle.mac_write.specs.MacBinary.{with_sum}
use Rattle.mac_write.proofs.Lists.{length-filled, length-put, length-with_sum, replaced}
use Rattle.mac_write.proofs.binary.push_front.Goals as goal

pub returns : goal.returns
returns c =
    let file = c.args.file.now in let at = (resource_fork file).offset in
    let items : List ℕ = c.push_filled.new.bytes.items in
    let h : List ℕ = c.write_header.new.header in
    let sum = big_bytes 4 c.args.count in
    let place : c.resource_fork-place.result.offset ≡ at = ap (λ (p : Part). p.offset) c.resource_fork-place.ensures.part in
    let items_are : items ≡ filled at (take at file) =
    c.in_ok-push_filled.ensures ∙ ap (λ (xs : List ℕ). xs ++ filled c.resource_fork-place.result.offset (take c.min.result file)) c.requires.empty
    ∙ ap (λ (n : ℕ). filled c.resource_fork-place.result.offset (take n file)) c.min.ensures
    ∙ ap (λ (xs : List ℕ). filled c.resource_fork-place.result.offset xs) (take_min c.resource_fork-place.result.offset file)
    ∙ ap (λ (n : ℕ). filled n (take n file)) place in
    let now_are : c.deref_mut.result.now ≡ filled at (take at file) = c.deref_mut.ensures.value ∙ items_are in
    let part = length-take at file in
    let whole = length-filled at (take at file) (omega arith) in
    let long : length c.deref_mut.result.now ≡ at = ap (λ (xs : List ℕ). length xs) now_are ∙ whole in
    let same = length-put 87 sum c.deref_mut.result.now (omega arith) in
    let with = length-with_sum c.args.version (put 87 sum c.deref_mut.result.now) (omega arith) in
    let written = ap (λ (xs : List ℕ). length xs) c.write_header.ensures in
    let vec = c.deref_mut.ensures.len in
    replaced c.push_filled.new.bytes.len items h (omega arith)
    ∙ c.write_header.ensures ∙ ap (λ (xs : List ℕ). with_sum c.args.version (put 87 sum xs)) now_are
