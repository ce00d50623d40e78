-- What the words ask for, from what `clap` found in them.
use Rattle.std.proofs.Common.{◌≡◌, ℕ, true, List, [], Option, option_map, unwrap_or, Result, Ok, Err, refl, sym, ap, subst, ◌∙◌, inl, inr, false, ◌∷◌, ◌<◌, ◌≤◌, length, map, Some, None, arith}
use Rattle.std.specs.List.{list_all}
use Rattle.std.specs.Char.{is_ascii_digit, digit_value}
use Rattle.std.specs.Str.Parse.{AllDigits}
use Rattle.std.proofs.lemmas.Str.Parse.{digit_from_value}
use Rattle.std.proofs.lemmas.Bool.Decides.{nat_tests}
use Rattle.std.proofs.lemmas.List.{length-map}
use Rattle.std.specs.Result.{IsErrAnd}
use Rattle.clap.specs.declared.builder.command.Command.{Command}
use Rattle.clap.specs.declared.error.Error.{Error}
use Rattle.clap.specs.declared.error.kind.ErrorKind.{ErrorKind}
use Rattle.clap.specs.declared.parser.matches.ArgMatches.{ArgMatches}
use Rattle.clap.specs.Words.{App, Text, HasKind, HasMatchesOf, IsAmong, all_of, app_of, fault_of, first_of, first_value, found_of, matched_of, raw_values, is_simple, is_simple_and_free, kind_of, matches_of}
use Rattle.clap.proofs.OnLiterals.{clap_on_literals}
use Rattle.clap.proofs.WalkLemmas.{first_value-rows, raw_values-rows}
use Rattle.macheap.specs.declared.asked.Asked.{Asked}
use Rattle.macheap.specs.declared.asked.Asked.TheVariants.{Run, Help}
use Rattle.macheap.specs.declared.asked.NotAsked.{NotAsked}
use Rattle.macheap.specs.declared.asked.NotAsked.TheVariants.{Words, TooManyForks, OtherJournals, NoNumber, Mode, Spec, HostFull}
use Rattle.run_stores.specs.Stores.{most_files}
use Rattle.macheap.specs.Files.{FitForks, NotNamed}
use Rattle.macheap.specs.Options.{options, faults, forks_of, journals_of, value_of, values_of, IsDecimal, IsNumberOf, IsNoNumber}
use Rattle.macheap.specs.Asking.{Asks, IsShown, Match, GivesNoNumber, MeansNoRun, IsNoNumberFault}

pub options_free : is_simple_and_free options ≡ true
unfolding clap_on_literals
options_free = refl

pub options_simple : is_simple options ≡ true
unfolding clap_on_literals
options_simple = refl

-- what `get_str` gives is the value that the words give the option
pub value_found : (command : Command) (words : List Text) (m : ArgMatches) (name : Text) (got : Option Text) → app_of command ≡ options → HasMatchesOf (app_of command) words m → got ≡ first_value (found_of m) name → got ≡ value_of name words
value_found command words m name got is has found =
    found ∙ first_value-rows (found_of m) name ∙ ap (first_of name) ((has (ap is_simple is ∙ options_simple)).0 ∙ ap (λ (a : App). matches_of a words) is)

names_given : {A B : Type 0} (got : Option A) (default : A) (all : A → List B) (now : B → Text) → all default ≡ [] → map now (all (unwrap_or got default)) ≡ unwrap_or (option_map (λ (a : A). map now (all a)) got) []
names_given None default all now nothing = ap (map now) nothing
names_given (Some a) default all now nothing = refl

-- what `get_strs` gives, or nothing where the option isn't there, is the list of names that the words give
pub names_found : {A B : Type 0} (command : Command) (words : List Text) (m : ArgMatches) (name : Text) (got : Option A) (default names : A) (all : A → List B) (now : B → Text) → app_of command ≡ options → HasMatchesOf (app_of command) words m
    → option_map (λ (a : A). map now (all a)) got ≡ option_map raw_values (matched_of (found_of m) name) → all default ≡ [] → names ≡ unwrap_or got default → map now (all names) ≡ values_of name words
names_found {A = A} command words m name got default names all now is has found nothing are =
    ap (λ (a : A). map now (all a)) are ∙ names_given got default all now nothing
    ∙ ap (λ (o : Option (List Text)). unwrap_or o []) (found ∙ raw_values-rows (found_of m) name ∙ ap (all_of name) ((has (ap is_simple is ∙ options_simple)).0 ∙ ap (λ (a : App). matches_of a words) is))

fit_given : {A B C D : Type 0} (journals : List A) (forks : List B) (js : List C) (fs : List D) → length js ≡ length journals → length fs ≡ length forks → FitForks journals forks → FitForks js fs
fit_given journals forks js fs j f fit some = j ∙ fit (λ none. some (j ∙ none)) ∙ sym f

as_long : {B : Type 0} (names : List B) (now : B → Text) (texts : List Text) → map now names ≡ texts → length texts ≡ length names
as_long names now texts are = ap length (sym are) ∙ length-map names now

-- and so the words match the options, where files have these names
pub match_of : {B : Type 0} (words : List Text) (forks journals : List B) (now : B → Text) → faults words ≡ [] → map now forks ≡ forks_of words → map now journals ≡ journals_of words → length forks ≤ most_files → FitForks journals forks → Match words
match_of words forks journals now none are theirs few fit =
    let f = as_long forks now (forks_of words) are in
    (none, subst (λ (n : ℕ). n ≤ most_files) (sym f) few, fit_given journals forks (journals_of words) (forks_of words) (as_long journals now (journals_of words) theirs) f fit)

not_named : {B : Type 0} (words : List Text) (forks journals : List B) (e : NotAsked) → faults words ≡ [] → length (forks_of words) ≡ length forks → length (journals_of words) ≡ length journals → NotNamed forks journals e → Asks words (Err e)
not_named words forks journals TooManyForks none f j many = (none, subst (λ (n : ℕ). most_files < n) (sym f) many)
not_named words forks journals OtherJournals none f j others = (none, λ fit. others (fit_given (journals_of words) (forks_of words) journals forks (sym j) (sym f) fit))
not_named words forks journals HostFull none f j fault = tt
not_named words forks journals (Words fault) none f j other = absurd other
not_named words forks journals (NoNumber option) none f j other = absurd other
not_named words forks journals (Mode mode) none f j other = absurd other
not_named words forks journals (Spec fault) none f j other = absurd other

-- there are no files of the names that the words give
pub files_asks : {B : Type 0} (words : List Text) (r : Result Asked NotAsked) (e : NotAsked) (forks journals : List B) (now : B → Text) → IsErrAnd r (λ x. x ≡ e) → faults words ≡ [] → map now forks ≡ forks_of words → map now journals ≡ journals_of words → NotNamed forks journals e → Asks words r
files_asks words (Ok asked) e forks journals now fails none are theirs fault = absurd fails
files_asks words (Err x) e forks journals now fails none are theirs fault =
    subst (λ (y : NotAsked). Asks words (Err y)) (sym fails) (not_named words forks journals e none (as_long forks now (forks_of words) are) (as_long journals now (journals_of words) theirs) fault)

-- where the words match, they have no fault
pub matched : (command : Command) (words : List Text) → app_of command ≡ options → (is_simple_and_free (app_of command) ≡ true → fault_of (app_of command) words ≡ []) → faults words ≡ []
matched command words is none = ap (λ (a : App). fault_of a words) (sym is) ∙ none (ap is_simple_and_free is ∙ options_free)

-- a number that an option's value gives, as the words give it
pub number_found : (command : Command) (words : List Text) (m : ArgMatches) (name : Text) (got : Option Text) (default n : ℕ) → app_of command ≡ options → HasMatchesOf (app_of command) words m → got ≡ first_value (found_of m) name → IsNumberOf got default n → IsNumberOf (value_of name words) default n
number_found command words m name got default n is has found given = subst (λ (o : Option Text). IsNumberOf o default n) (value_found command words m name got is has found) given

-- a value that is no number, as the words give it
pub no_number_found : (command : Command) (words : List Text) (m : ArgMatches) (name : Text) (got : Option Text) → app_of command ≡ options → HasMatchesOf (app_of command) words m → got ≡ first_value (found_of m) name → IsNoNumber got → IsNoNumber (value_of name words)
no_number_found command words m name got is has found none = subst IsNoNumber (value_found command words m name got is has found) none

-- an error of the parse asks for help, or says that the words don't match
pub unmatched : (words : List Text) (e : Error) (r : Result Asked NotAsked) → HasKind (faults words) e → MeansNoRun (kind_of e) r → Asks words r
unmatched words e (Ok (Run sizes files)) has means = absurd means
unmatched words e (Ok (Help text)) (inl full) means = elim (means.0) [
  | inl is ↦ absurd (cc)
  | inr is ↦ absurd (cc)
]
unmatched words e (Ok (Help text)) (inr among) means = (subst (λ (k : ErrorKind). IsAmong k (faults words)) (sym means.1) among, subst IsShown (sym means.1) means.0)
unmatched words e (Err (Words fault)) (inl full) means = absurd (means.1 full)
unmatched words e (Err (Words fault)) (inr among) means = (subst (λ (k : ErrorKind). IsAmong k (faults words)) (sym means.2) among, λ shown. means.0 (subst IsShown means.2 shown))
unmatched words e (Err TooManyForks) has means = absurd means
unmatched words e (Err OtherJournals) has means = absurd means
unmatched words e (Err (NoNumber option)) has means = absurd means
unmatched words e (Err (Mode mode)) has means = absurd means
unmatched words e (Err (Spec fault)) has means = absurd means
unmatched words e (Err HostFull) has means = tt

pub error_kind : (command : Command) (words : List Text) (e : Error) → app_of command ≡ options → (is_simple_and_free (app_of command) ≡ true → HasKind (fault_of (app_of command) words) e) → HasKind (faults words) e
error_kind command words e is has = subst (λ (a : App). HasKind (fault_of a words) e) is (has (ap is_simple_and_free is ∙ options_free))

pub full_asks : (words : List Text) (r : Result Asked NotAsked) → IsErrAnd r (λ e. e ≡ HostFull) → Asks words r
full_asks words (Ok asked) full = absurd full
full_asks words (Err e) full = subst (λ (x : NotAsked). Asks words (Err x)) (sym full) tt

-- a value that is no number
pub no_number_asks : (words : List Text) (e : NotAsked) (name : Text) → IsNoNumberFault name e → GivesNoNumber words name → Asks words (Err e)
no_number_asks words (NoNumber option) name is none = subst (λ (t : Text). GivesNoNumber words t) (sym is) none
no_number_asks words (Words fault) name is none = absurd is
no_number_asks words TooManyForks name is none = absurd is
no_number_asks words OtherJournals name is none = absurd is
no_number_asks words (Mode mode) name is none = absurd is
no_number_asks words (Spec fault) name is none = absurd is
no_number_asks words HostFull name is none = absurd is

pub no_number_error : (words : List Text) (r : Result Asked NotAsked) (e : NotAsked) (name : Text) → IsErrAnd r (λ x. x ≡ e) → IsNoNumberFault name e → GivesNoNumber words name → Asks words r
no_number_error words (Ok asked) e name fails is none = absurd fails
no_number_error words (Err x) e name fails is none = subst (λ (y : NotAsked). Asks words (Err y)) (sym fails) (no_number_asks words e name is none)

is_digit : (c : ℕ) → digit_value c < 10 → is_ascii_digit c ≡ true
is_digit c small = let range = digit_from_value c small in grind (arith, nat_tests)

digits_are : (text : List ℕ) → AllDigits 10 text → list_all is_ascii_digit text ≡ true
digits_are [] all = refl
digits_are (c ∷ cs) all = rw (is_digit c all.0) (digits_are cs all.1)

-- a text with another byte than a digit is no number
pub no_digits : (text : List ℕ) → list_all is_ascii_digit text ≡ false → ¬ IsDecimal text
no_digits text other decimal = let all = digits_are text decimal.digits.1 in let both : true ≡ false = sym all ∙ other in cc
