use Rattle.std.proofs.Common.{◌≡◌, ◌+◌, ◌-◌, ◌++◌, List, length, map, take, sym, ap, ◌∙◌, subst, arith, append_assoc, length-append, take_at}
use Rattle.mac_base.specs.HeadKind.{zone_header}
use Rattle.raw_region.specs.Bytes.{part}
use Rattle.raw_region.specs.Span.{Span, IsFree}
use Rattle.block_bytes.specs.Layout.{Layout, lent_count, header_bytes, rendered, zone_bytes, size_of, address_after}
use Rattle.block_bytes.specs.Reading.{layout_of}
use Rattle.block_bytes.specs.Walk.{Walks}
use Rattle.block_bytes.proofs.Parts.{total-ends, length-header}
use Rattle.block_bytes.proofs.Rendered.{length-rendered}
use Rattle.block_bytes.proofs.Settled.{nothing-lent}
use Rattle.block_bytes.proofs.Walks.{follows-rendered}
use Rattle.block_bytes.proofs.blocks.Blocks.image.Goals as goal

-- how many bytes there are
size_is : (c : goal.After-base) → c.end.result - c.base.result ≡ c.self.inside.spec.size
size_is c =
    let ends = c.self.invariant.layout.ends in
    let base = c.base.ensures.value in
    let end : c.end.result ≡ address_after (layout_of c.self.inside) (layout_of c.self.inside).blocks = c.end.ensures ∙ ap (λ (l : Layout). address_after l l.blocks) (sym c.self.view_is) in
    omega arith

pub bytes-requires-clause-inside : goal.bytes-requires-clause-inside
bytes-requires-clause-inside c =
    let size = size_is c in
    let high = c.self.invariant.layout.high in
    let all = c.self.invariant.layout.all_bytes in
    omega arith

pub bytes-requires-clause-free : goal.bytes-requires-clause-free
bytes-requires-clause-free c = let none = nothing-lent c.self.inside c.self.invariant.layout (ap (λ (l : Layout). lent_count l.blocks) c.self.view_is ∙ c.requires.nothing_lent) in
    subst (λ (ss : List Span). IsFree ss 0 (c.end.result - c.base.result)) (sym none) (record { apart = tt })

-- the bytes up to the end
bytes_are : (c : goal.After-bytes) → c.bytes.result.now ≡ zone_bytes (layout_of c.self.inside)
bytes_are c =
    let l = layout_of c.self.inside in
    let front = header_bytes l ++ rendered l.heads l.base l.blocks in
    let ends = c.self.invariant.layout.ends in
    let base = c.base.ensures.value in
    let end : c.end.result ≡ address_after l l.blocks = c.end.ensures ∙ ap (λ (l : Layout). address_after l l.blocks) (sym c.self.view_is) in
    let long : length front ≡ c.self.inside.spec.size =
    length-append (header_bytes l) (rendered l.heads l.base l.blocks) ∙ ap (λ n. n + length (rendered l.heads l.base l.blocks)) (length-header l)
    ∙ ap (λ n. zone_header + n) (length-rendered l.heads l.base l.blocks) ∙ total-ends c.self.inside c.self.invariant.layout in
    c.bytes.ensures ∙ ap (part c.self.inside.memory.bytes 0) (let e : c.end.result - c.base.result ≡ c.self.inside.spec.size = omega arith in e)
    ∙ ap (take c.self.inside.spec.size) (c.self.invariant.layout.form ∙ sym (append_assoc (header_bytes l) (rendered l.heads l.base l.blocks) l.spare)) ∙ take_at front l.spare c.self.inside.spec.size long

pub returns-clause-bytes : goal.returns-clause-bytes
returns-clause-bytes c = bytes_are c ∙ ap zone_bytes c.self.view_is

-- they walk
walk : (c : goal.After-bytes) → Walks (layout_of c.self.inside).heads c.bytes.result.now
walk c =
    let l = layout_of c.self.inside in
    let header = length-header l in
    let total = total-ends c.self.inside c.self.invariant.layout in
    let high = c.self.invariant.layout.high in
    let possible = c.base.ensures.possible in
    subst (Walks l.heads) (sym (bytes_are c)) (record {
      sizes = map (size_of l.heads) l.blocks;
      follows = follows-rendered l.heads l.base (header_bytes l) l.blocks zone_header (sym header) (omega arith) (omega arith) c.self.invariant.layout.possible;
    })

pub returns-clause-walks : goal.returns-clause-walks
returns-clause-walks c = subst (λ (l : Layout). Walks l.heads c.bytes.result.now) c.self.view_is (walk c)
