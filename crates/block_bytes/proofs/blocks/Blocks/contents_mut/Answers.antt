use Rattle.std.specs.Prelude.{if◌then◌else◌}
use Rattle.block_bytes.specs.Record.{all_noted}
use Rattle.std.proofs.Common.{◌≡◌, Bool, ◌+◌, ◌-◌, length, refl, ap, sym, ◌∙◌, subst, arith}
use Rattle.mac_base.specs.HeadKind.{head_size}
use Rattle.block_bytes.specs.declared.header.Header.{Header}
use Rattle.block_bytes.specs.Layout.{Layout, BlockAt, UnlentAt, size_of}
use Rattle.block_bytes.specs.Reading.{layout_of}
use Rattle.block_bytes.specs.WritingBack.{with_contents_at}
use Rattle.block_bytes.proofs.Here.{IsHere-from, unlent-here}
use Rattle.block_bytes.proofs.ReadParts.{contents-read}
use Rattle.block_bytes.proofs.WrittenBack.{lent-read}
use Rattle.block_bytes.proofs.blocks.Blocks.contents_mut.Goals as goal

pub overflow_sub-length : goal.overflow_sub-length
overflow_sub-length c =
    let u = subst (λ (l : Layout). UnlentAt l c.args.at) (sym c.self.view_is) c.requires.block in let b = u.block in
    let h = IsHere-from c.self.inside c.self.invariant.layout (layout_of c.self.inside) refl c.args.at c.entry_at-header.result b (c.entry_at-header.ensures b) in
    let e = ap head_size c.heads.ensures in omega arith

pub overflow_sub-length-2 : goal.overflow_sub-length-2
overflow_sub-length-2 c =
    let u = subst (λ (l : Layout). UnlentAt l c.args.at) (sym c.self.view_is) c.requires.block in let b = u.block in
    let h = IsHere-from c.self.inside c.self.invariant.layout (layout_of c.self.inside) refl c.args.at c.entry_at-header.result b (c.entry_at-header.ensures b) in
    let e = ap head_size c.heads.ensures in omega arith

pub bytes_mut-requires : goal.bytes_mut-requires
bytes_mut-requires c =
    let u = subst (λ (l : Layout). UnlentAt l c.args.at) (sym c.self.view_is) c.requires.block in let b = u.block in
    let h = IsHere-from c.self.inside c.self.invariant.layout (layout_of c.self.inside) refl c.args.at c.entry_at-header.result b (c.entry_at-header.ensures b) in
    let e = ap head_size c.heads.ensures in record {
      inside = omega arith;
      free = unlent-here c.self.inside c.self.invariant.layout (layout_of c.self.inside) refl c.args.at c.entry_at-header.result b (c.entry_at-header.ensures b) u.unlent
          (c.args.at - c.base.result + c.head_size-head_size.result) (c.entry_at-header.result.size - c.head_size-head_size.result - c.entry_at-header.result.correction) (omega arith) (omega arith);
    }

pub invariant_of-self-lent : goal.invariant_of-self-lent
invariant_of-self-lent c ws = let at = c.args.at in let h = c.entry_at-header.result in let k = c.head_size-head_size.result in
    let u = subst (λ (l : Layout). UnlentAt l at) (sym c.self.view_is) c.requires.block in let b = u.block in let e = ap head_size c.heads.ensures in
    (lent-read c.self.inside c.self.invariant c.base.ensures.possible at h (at - c.base.result + k) (h.size - k - h.correction) b (c.entry_at-header.ensures b) u.unlent (omega arith) (omega arith) c.note_if.new.kept
    (c.note_if.ensures ∙ ap (λ (t : Bool). if t then all_noted c.self.inside.kept else c.self.inside.kept) c.is_master.ensures) ws).whole

pub returns : goal.returns
returns c = let at = c.args.at in let h = c.entry_at-header.result in let k = c.head_size-head_size.result in let e = ap head_size c.heads.ensures in
    let u = subst (λ (l : Layout). UnlentAt l at) (sym c.self.view_is) c.requires.block in let own = u.block in (
      (
        refl,
        λ ws.
            (lent-read c.self.inside c.self.invariant c.base.ensures.possible at h (at - c.base.result + k) (h.size - k - h.correction) own (c.entry_at-header.ensures own) u.unlent (omega arith) (omega arith) c.note_if.new.kept
            (c.note_if.ensures ∙ ap (λ (t : Bool). if t then all_noted c.self.inside.kept else c.self.inside.kept) c.is_master.ensures) ws).view
            ∙ ap (λ (l : Layout). with_contents_at l at ws) c.self.view_is,
      ),
      record {
        writes_back = tt;
        value = subst (λ (l : Layout). (b : BlockAt l at) → c.bytes_mut.result.now ≡ b.here.contents) c.self.view_is (λ b.
            let is = c.entry_at-header.ensures b in
            let size : h.size ≡ size_of c.self.inside.spec.heads b.here = ap (λ (h : Header). h.size) is in let slack : h.correction ≡ length b.here.slack = ap (λ (h : Header). h.correction) is in
            let place = b.place in
            c.bytes_mut.ensures.value
            ∙ contents-read c.self.inside c.self.invariant.layout b.before b.here b.after b.blocks (at - c.base.result + k) (h.size - k - h.correction)
            (omega arith) (omega arith));
      },
    )
