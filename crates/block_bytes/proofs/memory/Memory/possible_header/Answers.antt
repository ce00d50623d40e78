use Rattle.std.proofs.Common.{◌≡◌, ◌∙◌, ap, sym, subst, arith, true}
use Rattle.raw_region.specs.Bytes.{part}
use Rattle.block_bytes.specs.Adopting.{Fits}
use Rattle.block_bytes.specs.Head.{head_bytes}
use Rattle.block_bytes.proofs.HeadsRead.{head-read}
use Rattle.block_bytes.proofs.memory.Memory.possible_header.Goals as goal

pub returns-then-not-fits-clause-none : goal.returns-then-not-fits-clause-none
returns-then-not-fits-clause-none c = λ h p.
    let same : c.header-header.result ≡ h = c.header-header.ensures ∙ head-read c.args.heads c.args.base c.args.self.now.bytes c.args.at c.args.left h c.requires.small (omega arith) p in
    let yes : c.fits.result ≡ true = c.fits.ensures.1 (subst (Fits c.args.heads c.args.left) (sym same) p.fits) in
    let no = c.if-not-fits.true in cc

pub returns-else-has_bytes-clause-none : goal.returns-else-has_bytes-clause-none
returns-else-has_bytes-clause-none c = λ h p.
    let same : c.header-header.result ≡ h = c.header-header.ensures ∙ head-read c.args.heads c.args.base c.args.self.now.bytes c.args.at c.args.left h c.requires.small (omega arith) p in
    let bytes : c.bytes-bytes.result.now ≡ head_bytes c.args.heads c.args.base c.header-header.result =
    c.bytes-bytes.ensures ∙ ap (part c.args.self.now.bytes c.args.at) c.head_size.ensures ∙ p.bytes_are ∙ ap (head_bytes c.args.heads c.args.base) (sym same) in
    let yes : c.has_bytes.result ≡ true = c.has_bytes.ensures.1 bytes in
    let no = c.if-has_bytes.false in cc
