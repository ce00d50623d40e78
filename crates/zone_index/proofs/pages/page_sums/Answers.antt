use Rattle.std.proofs.Common.{◌≡◌, ◌-◌, ◌/◌, ◌<◌, length, ◌∙◌, Some, ap, sym, subst, arith}
use Rattle.mac_base.specs.ZoneSizes.{ZoneSizes}
use Rattle.zone_index.specs.Pages.{ArePages, page, page_weights}
use Rattle.zone_index.specs.Spans.{IsSum}
use Rattle.zone_index.proofs.Entries.{entry_within}
use Rattle.zone_index.proofs.Gets.{pages-more}
use Rattle.zone_index.proofs.pages.page_sums.Goals as goal
use Rattle.zone_index.proofs.pages.page_sums.Goals.{After-page_of-page}

-- there is such a page
inside : (c : After-page_of-page) → c.page_of-page.result < length c.args.pages.now
inside c =
    let value = c.page_of-page.ensures in
    let base = c.base.ensures.value ∙ ap (λ (s : ZoneSizes). s.base) c.spec.ensures.sizes in
    let low = ap (λ (s : ZoneSizes). s.base) c.spec.ensures.sizes in
    let size = ap (λ (s : ZoneSizes). s.size) c.spec.ensures.sizes in
    let limit = ap (λ (s : ZoneSizes). s.limit) c.spec.ensures.sizes in
    let within = c.base.ensures.possible.within in
    let high = entry_within c.args.zone.now c.args.at c.requires.first.entry in
    let places = c.requires.pages.places in
    omega arith

-- that of the address
is_page : (c : After-page_of-page) → c.page_of-page.result ≡ page c.args.zone.now.shape c.args.at
is_page c = c.page_of-page.ensures ∙ ap (λ b. (c.args.at - b) / 4096) (c.base.ensures.value ∙ ap (λ (s : ZoneSizes). s.base) c.spec.ensures.sizes)

pub known-requires : goal.known-requires
known-requires c = inside (goal.at.known-requires c).After-page_of-page

pub returns-in-Some-clause-sums : goal.returns-in-Some-clause-sums
returns-in-Some-clause-sums c =
    subst (λ p. IsSum (page_weights c.args.zone.now p) c.in-Some.sums) (is_page (goal.at.returns-in-Some-clause-sums c).After-page_of-page)
    (c.requires.pages.known c.page_of-page.result c.in-Some.sums (c.known.ensures ∙ ap Some c.in-Some.is))

pub remember-requires : goal.remember-requires
remember-requires c = inside (goal.at.remember-requires c).After-page_of-page

pub returns-clause-pages : goal.returns-clause-pages
returns-clause-pages c =
    let page_is = is_page (goal.at.returns-clause-pages c).After-page_of-page in
    subst (ArePages c.args.zone.now) (sym c.remember.ensures)
    (pages-more c.args.zone.now c.args.pages.now c.requires.pages c.page_of-page.result c.measure-sums.result
    (subst (λ p. IsSum (page_weights c.args.zone.now p) c.measure-sums.result) (sym page_is) c.measure-sums.ensures))
