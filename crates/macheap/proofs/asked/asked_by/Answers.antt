use Rattle.std.proofs.Common.{◌≡◌, Bool, map, codes, refl, sym, subst, ap, ◌∙◌, List, ℕ, Bor}
use Rattle.macheap.specs.Asking.{GivesNumbers, IsAllowed, Match, zone_fault, of_zone, of_limit, of_base, of_mode}
use Rattle.macheap.specs.Options.{IsNumberOf, allows_large, forks_of, is_set, journals_of, value_of}
use Rattle.macheap.proofs.Found.{number_found, value_found, no_number_found, files_asks, names_found, match_of, matched, unmatched, error_kind, full_asks, no_number_error}
use Rattle.clap.specs.Words.{Text}
use Rattle.macheap.proofs.asked.asked_by.Goals as goal
use Rattle.macheap.proofs.asked.asked_by.Goals.{In-Some, In_ok-base, In_ok-files, In_ok-limit, In_ok-mode, In_ok-zone}

abbrev names_of : List (Bor (List ℕ)) → List Text
names_of = map (λ name. name.now)

pub returns-in_err-command : goal.returns-in_err-command
returns-in_err-command g c = full_asks _ _ c.from_residual.ensures.1

pub returns-in-Err : goal.returns-in-Err
returns-in-Err g c = unmatched _ c.in-Err.error _ (error_kind c.in_ok-command.field-0 _ c.in-Err.error c.in_ok-command.ensures c.in-Err.ensures.kinds) c.not_matched.ensures

pub returns-in_err-files : goal.returns-in_err-files
returns-in_err-files g c =
    let command = c.in_ok-command.field-0 in
    let words = map g.S.AsStr.text c.args.words.now in
    let forks = names_found command words c.in-Ok.matches (codes "fork") c.get_strs.result _ c.unwrap_or-forks.result (λ s. s.now) (λ v. v.now) c.in_ok-command.ensures c.in-Ok.ensures.matches c.get_strs.ensures refl c.unwrap_or-forks.ensures in
    let journals = names_found command words c.in-Ok.matches (codes "journal") c.get_strs-2.result _ c.unwrap_or-journals.result (λ s. s.now) (λ v. v.now) c.in_ok-command.ensures c.in-Ok.ensures.matches c.get_strs-2.ensures refl c.unwrap_or-journals.ensures in
    files_asks words _ c.in_err-files.field-0.0 c.unwrap_or-forks.result.now c.unwrap_or-journals.result.now (λ v. v.now) c.from_residual-in_err-files.ensures.1
    (matched command words c.in_ok-command.ensures c.in-Ok.ensures.kinds) forks journals c.in_err-files.ensures.fault

-- the files are those that the words name
forks : (g : _) (c : In_ok-files g) → names_of c.in_ok-files.files.forks.items ≡ forks_of (map g.S.AsStr.text c.args.words.now)
forks g c =
    ap names_of c.in_ok-files.ensures.forks ∙ names_found c.in_ok-command.field-0 (map g.S.AsStr.text c.args.words.now) c.in-Ok.matches (codes "fork") c.get_strs.result _ c.unwrap_or-forks.result (λ s. s.now) (λ v. v.now) c.in_ok-command.ensures c.in-Ok.ensures.matches c.get_strs.ensures refl c.unwrap_or-forks.ensures

-- and the journals
journals : (g : _) (c : In_ok-files g) → names_of c.in_ok-files.files.journals.items ≡ journals_of (map g.S.AsStr.text c.args.words.now)
journals g c =
    ap names_of c.in_ok-files.ensures.journals ∙ names_found c.in_ok-command.field-0 (map g.S.AsStr.text c.args.words.now) c.in-Ok.matches (codes "journal") c.get_strs-2.result _ c.unwrap_or-journals.result (λ s. s.now) (λ v. v.now) c.in_ok-command.ensures c.in-Ok.ensures.matches c.get_strs-2.ensures refl c.unwrap_or-journals.ensures

-- so the words match the options
none : (g : _) (c : In_ok-files g) → Match (map g.S.AsStr.text c.args.words.now)
none g c =
    match_of (map g.S.AsStr.text c.args.words.now) c.in_ok-files.files.forks.items c.in_ok-files.files.journals.items (λ v. v.now) (matched c.in_ok-command.field-0 (map g.S.AsStr.text c.args.words.now) c.in_ok-command.ensures c.in-Ok.ensures.kinds) (forks g c) (journals g c) c.in_ok-files.files.few c.in_ok-files.files.fit

-- they give each number
size : (g : _) (c : In_ok-zone g) → IsNumberOf (value_of (codes "zone") (map g.S.AsStr.text c.args.words.now)) 4096 c.in_ok-zone.zone
size g c = number_found c.in_ok-command.field-0 (map g.S.AsStr.text c.args.words.now) c.in-Ok.matches (codes "zone") _ 4096 c.in_ok-zone.zone c.in_ok-command.ensures c.in-Ok.ensures.matches c.get_str.ensures c.in_ok-zone.ensures.number

limit : (g : _) (c : In_ok-limit g) → IsNumberOf (value_of (codes "limit") (map g.S.AsStr.text c.args.words.now)) c.in_ok-zone.zone c.in_ok-limit.limit
limit g c = number_found c.in_ok-command.field-0 (map g.S.AsStr.text c.args.words.now) c.in-Ok.matches (codes "limit") _ c.in_ok-zone.zone c.in_ok-limit.limit c.in_ok-command.ensures c.in-Ok.ensures.matches c.get_str-2.ensures c.in_ok-limit.ensures.number

base : (g : _) (c : In_ok-base g) → IsNumberOf (value_of (codes "base") (map g.S.AsStr.text c.args.words.now)) 0x10_0000 c.in_ok-base.base
base g c = number_found c.in_ok-command.field-0 (map g.S.AsStr.text c.args.words.now) c.in-Ok.matches (codes "base") _ 0x10_0000 c.in_ok-base.base c.in_ok-command.ensures c.in-Ok.ensures.matches c.get_str-3.ensures c.in_ok-base.ensures.number

numbers : (g : _) (c : In_ok-mode g) → GivesNumbers (map g.S.AsStr.text c.args.words.now) c.in_ok-base.base c.in_ok-zone.zone c.in_ok-limit.limit c.in_ok-mode.mode
numbers g c = record {
  matched = none g (goal.at.In_ok-mode g c).In_ok-files;
  size_given = size g (goal.at.In_ok-mode g c).In_ok-zone;
  limit_given = limit g (goal.at.In_ok-mode g c).In_ok-limit;
  base_given = base g (goal.at.In_ok-mode g c).In_ok-base;
  mode_given = number_found c.in_ok-command.field-0 (map g.S.AsStr.text c.args.words.now) c.in-Ok.matches (codes "mode") _ 24 c.in_ok-mode.mode c.in_ok-command.ensures c.in-Ok.ensures.matches c.get_str-4.ensures c.in_ok-mode.ensures.number;
}

pub returns-in_err-zone : goal.returns-in_err-zone
returns-in_err-zone g c =
    let at_fault = no_number_found c.in_ok-command.field-0 (map g.S.AsStr.text c.args.words.now) c.in-Ok.matches (codes "zone") _ c.in_ok-command.ensures c.in-Ok.ensures.matches c.get_str.ensures c.in_err-zone.ensures.none in
    no_number_error (map g.S.AsStr.text c.args.words.now) _ c.in_err-zone.field-0.0 (codes "zone") c.from_residual-in_err-zone.ensures.1 c.in_err-zone.ensures.error (of_zone refl (none g (goal.at.returns-in_err-zone g c).In_ok-files) at_fault)

pub returns-in_err-limit : goal.returns-in_err-limit
returns-in_err-limit g c =
    let at_fault = no_number_found c.in_ok-command.field-0 (map g.S.AsStr.text c.args.words.now) c.in-Ok.matches (codes "limit") _ c.in_ok-command.ensures c.in-Ok.ensures.matches c.get_str-2.ensures c.in_err-limit.ensures.none in
    no_number_error (map g.S.AsStr.text c.args.words.now) _ c.in_err-limit.field-0.0 (codes "limit") c.from_residual-in_err-limit.ensures.1 c.in_err-limit.ensures.error (of_limit refl (none g (goal.at.returns-in_err-limit g c).In_ok-files) c.in_ok-zone.zone (size g (goal.at.returns-in_err-limit g c).In_ok-zone) at_fault)

pub returns-in_err-base : goal.returns-in_err-base
returns-in_err-base g c =
    let at_fault = no_number_found c.in_ok-command.field-0 (map g.S.AsStr.text c.args.words.now) c.in-Ok.matches (codes "base") _ c.in_ok-command.ensures c.in-Ok.ensures.matches c.get_str-3.ensures c.in_err-base.ensures.none in
    no_number_error (map g.S.AsStr.text c.args.words.now) _ c.in_err-base.field-0.0 (codes "base") c.from_residual-in_err-base.ensures.1 c.in_err-base.ensures.error (of_base refl (none g (goal.at.returns-in_err-base g c).In_ok-files) c.in_ok-zone.zone c.in_ok-limit.limit (size g (goal.at.returns-in_err-base g c).In_ok-zone) (limit g (goal.at.returns-in_err-base g c).In_ok-limit) at_fault)

pub returns-in_err-mode : goal.returns-in_err-mode
returns-in_err-mode g c =
    let at_fault = no_number_found c.in_ok-command.field-0 (map g.S.AsStr.text c.args.words.now) c.in-Ok.matches (codes "mode") _ c.in_ok-command.ensures c.in-Ok.ensures.matches c.get_str-4.ensures c.in_err-mode.ensures.none in
    no_number_error (map g.S.AsStr.text c.args.words.now) _ c.in_err-mode.field-0.0 (codes "mode") c.from_residual-in_err-mode.ensures.1 c.in_err-mode.ensures.error (of_mode refl (none g (goal.at.returns-in_err-mode g c).In_ok-files) c.in_ok-zone.zone c.in_ok-limit.limit c.in_ok-base.base (size g (goal.at.returns-in_err-mode g c).In_ok-zone) (limit g (goal.at.returns-in_err-mode g c).In_ok-limit) (base g (goal.at.returns-in_err-mode g c).In_ok-base) at_fault)

pub returns-in_default : goal.returns-in_default
returns-in_default g c = (c.in_ok-base.base, c.in_ok-zone.zone, c.in_ok-limit.limit, numbers g (goal.at.returns-in_default g c).In_ok-mode, sym c.heads_of.ensures ∙ c.in_default.is)

-- and whether the zone may be large
large : (g : _) (c : In-Some g) → c.is_set-is_large.result ≡ allows_large (map g.S.AsStr.text c.args.words.now)
large g c = c.is_set-is_large.ensures ∙ ap is_set (value_found c.in_ok-command.field-0 (map g.S.AsStr.text c.args.words.now) c.in-Ok.matches (codes "large") _ c.in_ok-command.ensures c.in-Ok.ensures.matches c.get_str-5.ensures)

pub returns-in-Ok-spec_of : goal.returns-in-Ok-spec_of
returns-in-Ok-spec_of g c = record {
  base = c.in_ok-base.base;
  size = c.in_ok-zone.zone;
  limit = c.in_ok-limit.limit;
  mode = c.in_ok-mode.mode;
  heads = c.in-Some.heads;
  numbers = numbers g (goal.at.returns-in-Ok-spec_of g c).In_ok-mode;
  headed = sym c.heads_of.ensures ∙ c.in-Some.is;
  is = c.in-Ok-spec_of.ensures.spec;
  allowed = subst (λ (large : Bool). IsAllowed large c.in-Ok-spec_of.spec) (large g (goal.at.returns-in-Ok-spec_of g c).In-Some) c.in-Ok-spec_of.ensures.allowed;
  forks_are = forks g (goal.at.returns-in-Ok-spec_of g c).In_ok-files;
  journals_are = journals g (goal.at.returns-in-Ok-spec_of g c).In_ok-files;
}

pub returns : goal.returns
returns g c = (
  c.in_ok-base.base,
  c.in_ok-zone.zone,
  c.in_ok-limit.limit,
  c.in_ok-mode.mode,
  c.in-Some.heads,
  numbers g (goal.at.returns g c).In_ok-mode,
  sym c.heads_of.ensures ∙ c.in-Some.is,
  ap (λ (large : Bool). zone_fault large c.in-Some.heads c.in_ok-base.base c.in_ok-zone.zone c.in_ok-limit.limit) (sym (large g (goal.at.returns g c).In-Some)) ∙ sym c.in-Err-spec_of.ensures.fault,
)
