-- What the words ask for, from what `clap` found in them.
use Rattle.std.proofs.Common.{◌≡◌, true, List, [], Option, Result, Ok, Err, refl, sym, ap, subst, ◌∙◌, inl, inr}
use Rattle.std.specs.Result.{IsErrAnd}
use Rattle.clap.specs.declared.builder.command.Command.{Command}
use Rattle.clap.specs.declared.error.Error.{Error}
use Rattle.clap.specs.declared.error.kind.ErrorKind.{ErrorKind}
use Rattle.clap.specs.declared.parser.matches.ArgMatches.{ArgMatches}
use Rattle.clap.specs.Words.{App, Text, HasKind, HasMatchesOf, IsAmong, app_of, fault_of, first_of, first_value, found_of, is_simple, is_simple_and_free, kind_of, matches_of}
use Rattle.clap.proofs.OnLiterals.{clap_on_literals}
use Rattle.clap.proofs.WalkLemmas.{first_value-rows}
use Rattle.zone_view.specs.declared.asked.NotAsked.{NotAsked}
use Rattle.zone_view.specs.declared.asked.NotAsked.TheVariants.{Words, Help, NoFile, NoNumber, Mode, Before, HostFull}
use Rattle.zone_view.specs.declared.asked.Request.{Request}
use Rattle.zone_view.specs.Options.{faults, options, value_of}
use Rattle.zone_view.specs.Asking.{Asks, GivesNoNumber, MeansNoLook, IsNoNumberFault}

options_free : is_simple_and_free options ≡ true
unfolding clap_on_literals
options_free = refl

options_simple : is_simple options ≡ true
unfolding clap_on_literals
options_simple = refl

-- what `get_str` gives is the value that the words give the option
pub value_found : (command : Command) (words : List Text) (m : ArgMatches) (name : Text) (got : Option Text) → app_of command ≡ options → HasMatchesOf (app_of command) words m → got ≡ first_value (found_of m) name → got ≡ value_of name words
value_found command words m name got is has found =
    found ∙ first_value-rows (found_of m) name ∙ ap (first_of name) ((has (ap is_simple is ∙ options_simple)).0 ∙ ap (λ (a : App). matches_of a words) is)

-- where the words match, they have no fault
pub matched : (command : Command) (words : List Text) → app_of command ≡ options → (is_simple_and_free (app_of command) ≡ true → fault_of (app_of command) words ≡ []) → faults words ≡ []
matched command words is none = ap (λ (a : App). fault_of a words) (sym is) ∙ none (ap is_simple_and_free is ∙ options_free)

-- an error of the parse asks for help, or says that the words don't match
unmatched : (words : List Text) (e : Error) (why : NotAsked) → HasKind (faults words) e → MeansNoLook (kind_of e) why → Asks words (Err why)
unmatched words e (Help text) (inl full) means = absurd (cc)
unmatched words e (Help text) (inr among) means = subst (λ (k : ErrorKind). IsAmong k (faults words)) means among
unmatched words e (Words fault) (inl full) means = absurd (means.1 full)
unmatched words e (Words fault) (inr among) means = (subst (λ (k : ErrorKind). IsAmong k (faults words)) (sym means.2) among, λ help. means.0 (sym means.2 ∙ help))
unmatched words e NoFile has means = absurd means
unmatched words e (NoNumber option) has means = absurd means
unmatched words e Mode has means = absurd means
unmatched words e Before has means = absurd means
unmatched words e HostFull has means = tt

pub error_asks : (command : Command) (words : List Text) (e : Error) (why : NotAsked) → app_of command ≡ options → (is_simple_and_free (app_of command) ≡ true → HasKind (fault_of (app_of command) words) e)
    → MeansNoLook (kind_of e) why → Asks words (Err why)
error_asks command words e why is has means = unmatched words e why (subst (λ (a : App). HasKind (fault_of a words) e) is (has (ap is_simple_and_free is ∙ options_free))) means

no_number_asks : (words : List Text) (e : NotAsked) (name : Text) → IsNoNumberFault name e → GivesNoNumber words name → Asks words (Err e)
no_number_asks words (NoNumber option) name is none = subst (λ (t : Text). GivesNoNumber words t) (sym is) none
no_number_asks words (Words fault) name is none = absurd is
no_number_asks words (Help text) name is none = absurd is
no_number_asks words NoFile name is none = absurd is
no_number_asks words Mode name is none = absurd is
no_number_asks words Before name is none = absurd is
no_number_asks words HostFull name is none = absurd is

-- a value that is no number
pub no_number_error : (words : List Text) (r : Result Request NotAsked) (e : NotAsked) (name : Text) → IsErrAnd r (λ x. x ≡ e) → IsNoNumberFault name e → GivesNoNumber words name → Asks words r
no_number_error words (Ok asked) e name fails is none = absurd fails
no_number_error words (Err x) e name fails is none = subst (λ (y : NotAsked). Asks words (Err y)) (sym fails) (no_number_asks words e name is none)
