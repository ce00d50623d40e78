use Rattle.std.proofs.Common.{rules, ◌≡◌, ◌∙◌, [], Some, Option, ap, map, codes, refl, sym, subst}
use Rattle.clap.specs.Words.{Text}
use Rattle.zone_view.specs.Asking.{GivesNumbers, of_base, of_from}
use Rattle.zone_view.specs.Options.{HasNoNumber, IsNumberOf, faults, heads_of, is_set, value_of}
use Rattle.zone_view.proofs.Found.{error_asks, matched, no_number_error, value_found}
use Rattle.zone_view.proofs.asked.asked_by.Goals as goal
use Rattle.zone_view.proofs.asked.asked_by.Goals.{In-Ok, In-Some-heads_of, In_ok-base, In_ok-from}

pub returns-in-Err : goal.returns-in-Err
returns-in-Err g c = error_asks c.in_ok-command.field-0 _ c.in-Err.error _ c.in_ok-command.ensures c.in-Err.ensures.kinds c.not_matched.ensures

-- the words match the options
none : (g : _) (c : In-Ok g) → faults (map g.S.AsStr.text c.args.words.now) ≡ []
none g c = matched c.in_ok-command.field-0 _ c.in_ok-command.ensures c.in-Ok.ensures.kinds

pub returns-in_default : goal.returns-in_default
returns-in_default g c =
    let path = value_found c.in_ok-command.field-0 (map g.S.AsStr.text c.args.words.now) c.in-Ok.matches (codes "look") _ c.in_ok-command.ensures c.in-Ok.ensures.matches c.get_str.ensures in
    (none g (goal.at.returns-in_default g c).In-Ok, sym path ∙ rw c.in_default.is refl)

-- they give each number
base : (g : _) (c : In_ok-base g) → IsNumberOf (value_of (codes "base") (map g.S.AsStr.text c.args.words.now)) c.in_ok-base.base
base g c = subst (λ (o : Option Text). IsNumberOf o c.in_ok-base.base)
    (value_found c.in_ok-command.field-0 (map g.S.AsStr.text c.args.words.now) c.in-Ok.matches (codes "base") _ c.in_ok-command.ensures c.in-Ok.ensures.matches c.get_str-2.ensures) c.in_ok-base.ensures.number

numbers : (g : _) (c : In_ok-from g) → GivesNumbers (map g.S.AsStr.text c.args.words.now) c.in_ok-base.base c.in_ok-from.from
numbers g c = record {
  matched = none g (goal.at.In_ok-from g c).In-Ok;
  base_given = base g (goal.at.In_ok-from g c).In_ok-base;
  from_given = subst (λ (o : Option Text). IsNumberOf o c.in_ok-from.from)
      (value_found c.in_ok-command.field-0 (map g.S.AsStr.text c.args.words.now) c.in-Ok.matches (codes "from") _ c.in_ok-command.ensures c.in-Ok.ensures.matches c.get_str-3.ensures) c.in_ok-from.ensures.number;
}

pub returns-in_err-base : goal.returns-in_err-base
returns-in_err-base g c =
    let words = map g.S.AsStr.text c.args.words.now in
    let is = value_found c.in_ok-command.field-0 words c.in-Ok.matches (codes "base") _ c.in_ok-command.ensures c.in-Ok.ensures.matches c.get_str-2.ensures in
    no_number_error words _ c.in_err-base.field-0.0 (codes "base") c.from_residual-in_err-base.ensures.1 c.in_err-base.ensures.error
    (of_base refl (none g (goal.at.returns-in_err-base g c).In-Ok) (subst HasNoNumber is c.in_err-base.ensures.none))

pub returns-in_err-from : goal.returns-in_err-from
returns-in_err-from g c =
    let words = map g.S.AsStr.text c.args.words.now in
    let is = value_found c.in_ok-command.field-0 words c.in-Ok.matches (codes "from") _ c.in_ok-command.ensures c.in-Ok.ensures.matches c.get_str-3.ensures in
    no_number_error words _ c.in_err-from.field-0.0 (codes "from") c.from_residual-in_err-from.ensures.1 c.in_err-from.ensures.error
    (of_from refl (none g (goal.at.returns-in_err-from g c).In-Ok) c.in_ok-base.base (base g (goal.at.returns-in_err-from g c).In_ok-base) (subst HasNoNumber is c.in_err-from.ensures.none))

pub returns-in_default-heads_of : goal.returns-in_default-heads_of
returns-in_default-heads_of g c =
    let is = value_found c.in_ok-command.field-0 (map g.S.AsStr.text c.args.words.now) c.in-Ok.matches (codes "mode") _ c.in_ok-command.ensures c.in-Ok.ensures.matches c.get_str-4.ensures in
    (c.in_ok-base.base, c.in_ok-from.from, numbers g (goal.at.returns-in_default-heads_of g c).In_ok-from, ap heads_of (sym is) ∙ sym c.heads_of.ensures ∙ c.in_default-heads_of.is)

-- and a mode
headed : (g : _) (c : In-Some-heads_of g) → heads_of (value_of (codes "mode") (map g.S.AsStr.text c.args.words.now)) ≡ Some c.in-Some-heads_of.heads
headed g c =
    let is = value_found c.in_ok-command.field-0 (map g.S.AsStr.text c.args.words.now) c.in-Ok.matches (codes "mode") _ c.in_ok-command.ensures c.in-Ok.ensures.matches c.get_str-4.ensures in
    ap heads_of (sym is) ∙ sym c.heads_of.ensures ∙ c.in-Some-heads_of.is

pub returns-in_default-checked_sub : goal.returns-in_default-checked_sub
returns-in_default-checked_sub g c =
    let mode = headed g (goal.at.returns-in_default-checked_sub g c).In-Some-heads_of in
    (c.in_ok-base.base, c.in_ok-from.from, numbers g (goal.at.returns-in_default-checked_sub g c).In_ok-from, λ no. cc, search rules)

pub returns : goal.returns
returns g c =
    let words = map g.S.AsStr.text c.args.words.now in
    let path = value_found c.in_ok-command.field-0 words c.in-Ok.matches (codes "look") _ c.in_ok-command.ensures c.in-Ok.ensures.matches c.get_str.ensures in
    let json = value_found c.in_ok-command.field-0 words c.in-Ok.matches (codes "json") _ c.in_ok-command.ensures c.in-Ok.ensures.matches c.get_str-5.ensures in
    record {
      from = c.in_ok-from.from;
      numbers = numbers g (goal.at.returns g c).In_ok-from;
      headed = headed g (goal.at.returns g c).In-Some-heads_of;
      begins = search rules;
      path = sym path ∙ rw c.in-Some.is refl;
      json = c.is_set-is_json.ensures ∙ ap is_set json;
    }
