use Rattle.std.proofs.Common.{◌≡◌, ◌-◌, ◌+◌, ◌<◌, ◌&&◌, ℕ, Bool, true, false, List, [], length, get_or, suc, None, Some, Option, map, take, sym, ap, ◌∙◌, arith}
use Rattle.std.specs.Prelude.{find}
use Rattle.std.proofs.Math.Seq.{take-length}
use Rattle.std.proofs.lemmas.Bool.{ne_eqb}
use Rattle.std.specs.Global.{Vec}
use Rattle.hfs_volume.specs.declared.name.Name.{Name}
use Rattle.hfs_volume.specs.Names.{name_bytes}
use Rattle.volume_names.specs.Letters.{is_same_text}
use Rattle.volume_names.specs.Paths.{has_texts, is_folder_with, items_of, path_within, with_name}
use Rattle.volume_names.proofs.Texts.{no_texts, root_texts, text_step}
use Rattle.volume_names.proofs.Upwards.{root_path, missing_path, path_up, deep_path}
use Rattle.volume_names.proofs.folders.leads_to.Goals as goal

pub loop-step-init : goal.loop-step-init
loop-step-init c = (
  omega arith,
  λ entries has.
      ap (λ (xs : List (Vec ℕ)). has_texts c.args.rule (map items_of xs) (path_within 256 entries c.args.id)) (take-length c.args.path.now),
)

pub returns-then-below-eq-ROOT : goal.returns-then-below-eq-ROOT
returns-then-below-eq-ROOT c = λ entries has.
    let step = c.loop-step.step in
    let more : 256 - step ≡ suc (256 - (step + 1)) = omega (arith, c.loop-step-test.true) in
    let texts = map items_of (take c.loop-step.left c.args.path.now) in
    root_texts c.args.rule c.args.path.now c.loop-step.left c.loop-step.invariant.0
    ∙ ap (λ (o : Option (List Name)). has_texts c.args.rule texts o)
    (sym (root_path entries (256 - step) (256 - (step + 1)) c.loop-step.below more c.if-below-eq-ROOT.true))
    ∙ c.loop-step.invariant.1 entries has

pub returns-in_default : goal.returns-in_default
returns-in_default c = λ entries has.
    let step = c.loop-step.step in
    let more : 256 - step ≡ suc (256 - (step + 1)) = omega (arith, c.loop-step-test.true) in
    let found = rw c.in_default.is at c.get.ensures.value in
    let none : find (is_folder_with c.loop-step.below) entries ≡ None = sym (has.each c.loop-step.below) ∙ sym found in
    let texts = map items_of (take c.loop-step.left c.args.path.now) in
    sym (ap (λ (o : Option (List Name)). has_texts c.args.rule texts o)
    (missing_path entries (256 - step) (256 - (step + 1)) c.loop-step.below more (ne_eqb c.loop-step.below 2 c.if-below-eq-ROOT.false) none))
    ∙ c.loop-step.invariant.1 entries has

pub returns-then-left-eq0 : goal.returns-then-left-eq0
returns-then-left-eq0 c = λ entries has.
    let step = c.loop-step.step in
    let more : 256 - step ≡ suc (256 - (step + 1)) = omega (arith, c.loop-step-test.true) in
    let found = rw c.in-Some.is at c.get.ensures.value in
    let is : find (is_folder_with c.loop-step.below) entries ≡ Some c.in-Some.folder.now = sym (has.each c.loop-step.below) ∙ sym found in
    let up = path_up entries (256 - step) (256 - (step + 1)) c.loop-step.below c.in-Some.folder.now more (ne_eqb c.loop-step.below 2 c.if-below-eq-ROOT.false) is in
    sym (no_texts c.args.rule c.in-Some.folder.now.name (path_within (256 - (step + 1)) entries c.in-Some.folder.now.parent))
    ∙ sym (ap (λ (o : Option (List Name)). has_texts c.args.rule [] o) up)
    ∙ ap (λ (left : ℕ). has_texts c.args.rule (map items_of (take left c.args.path.now)) (path_within (256 - step) entries c.loop-step.below)) (sym c.if-left-eq0.true)
    ∙ c.loop-step.invariant.1 entries has

pub returns-then-not-is_same_text : goal.returns-then-not-is_same_text
returns-then-not-is_same_text c = λ entries has.
    let step = c.loop-step.step in
    let last = c.loop-step.left - 1 in
    let more : 256 - step ≡ suc (256 - (step + 1)) = omega (arith, c.loop-step-test.true) in
    let one : c.loop-step.left ≡ last + 1 = omega (arith, c.if-left-eq0.false) in
    let at : last < length c.args.path.now = omega (arith, c.if-left-eq0.false, c.loop-step.invariant.0) in
    let found = rw c.in-Some.is at c.get.ensures.value in
    let is : find (is_folder_with c.loop-step.below) entries ≡ Some c.in-Some.folder.now = sym (has.each c.loop-step.below) ∙ sym found in
    let name = c.in-Some.folder.now.name in
    let told = rw (c.as_bytes.ensures, c.deref.ensures.value) at c.is_same_text.ensures in
    let says : is_same_text c.args.rule (name_bytes name) (get_or c.args.path.now last c.index-path-last.result).items ≡ false =
    ap (λ (v : Vec ℕ). is_same_text c.args.rule (name_bytes name) v.items) (sym c.index-path-last.is) ∙ sym told ∙ c.if-not-is_same_text.true in
    sym (text_step c.args.rule c.args.path.now c.loop-step.left last c.index-path-last.result one at entries (256 - step) (256 - (step + 1)) c.loop-step.below
    c.in-Some.folder.now more (ne_eqb c.loop-step.below 2 c.if-below-eq-ROOT.false) is
    ∙ ap (λ (b : Bool). b && has_texts c.args.rule (map items_of (take last c.args.path.now)) (path_within (256 - (step + 1)) entries c.in-Some.folder.now.parent)) says)
    ∙ c.loop-step.invariant.1 entries has

pub loop-step-preserved : goal.loop-step-preserved
loop-step-preserved c =
    let step = c.loop-step.step in
    let last = c.loop-step.left - 1 in
    let more : 256 - step ≡ suc (256 - (step + 1)) = omega (arith, c.loop-step-test.true) in
    let one : c.loop-step.left ≡ last + 1 = omega (arith, c.if-left-eq0.false) in
    let at : last < length c.args.path.now = omega (arith, c.if-left-eq0.false, c.loop-step.invariant.0) in (
      omega (arith, c.loop-step.invariant.0),
      λ entries has.
          let found = rw c.in-Some.is at c.get.ensures.value in
          let is : find (is_folder_with c.loop-step.below) entries ≡ Some c.in-Some.folder.now = sym (has.each c.loop-step.below) ∙ sym found in
          let name = c.in-Some.folder.now.name in
          let told = rw (c.as_bytes.ensures, c.deref.ensures.value) at c.is_same_text.ensures in
          let says : is_same_text c.args.rule (name_bytes name) (get_or c.args.path.now last c.index-path-last.result).items ≡ true =
          ap (λ (v : Vec ℕ). is_same_text c.args.rule (name_bytes name) v.items) (sym c.index-path-last.is) ∙ sym told ∙ c.if-not-is_same_text.false in
          sym (text_step c.args.rule c.args.path.now c.loop-step.left last c.index-path-last.result one at entries (256 - step) (256 - (step + 1)) c.loop-step.below
          c.in-Some.folder.now more (ne_eqb c.loop-step.below 2 c.if-below-eq-ROOT.false) is
          ∙ ap (λ (b : Bool). b && has_texts c.args.rule (map items_of (take last c.args.path.now)) (path_within (256 - (step + 1)) entries c.in-Some.folder.now.parent)) says)
          ∙ c.loop-step.invariant.1 entries has,
    )

pub returns : goal.returns
returns c = λ entries has.
    ap (λ (o : Option (List Name)). has_texts c.args.rule (map items_of (take c.loop-step.left c.args.path.now)) o)
    (sym (deep_path entries (256 - c.loop-step.step) c.loop-step.below (omega (arith, c.loop-step-test.false))))
    ∙ c.loop-step.invariant.1 entries has
