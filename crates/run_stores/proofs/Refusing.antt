-- What refusals come of.
use Rattle.std.proofs.Common.{◌≡◌, ◌≢◌, Result, Ok, Err, List, [], ◌∷◌, arith, inl, inr, sym, subst}
use Rattle.std.specs.Prelude.{IfErr}
use Rattle.std.specs.Result.{IsErrAnd}
use Rattle.std.specs.declared.io.ErrorKind.TheVariants.{NotFound}
use Rattle.host_paths.specs.declared.host.Access.TheVariants.{Both}
use Rattle.host_paths.specs.declared.host.HostCall.TheVariants.{Open}
use Rattle.std.specs.declared.fs.File.{File}
use Rattle.std.specs.declared.io.ErrorKind.{ErrorKind}
use Rattle.clap.specs.Words.{Text}
use Rattle.host_paths.specs.Asked.{Log}
use Rattle.host_paths.specs.declared.host.Found.{Found}
use Rattle.run_stores.specs.Opening.{because}
use Rattle.run_stores.specs.Refusing.{CantClaim, CantMake, CantOpen, CantSettleName, CantSyncFolder, IsRefused, again, at_once, moved, to_make, to_read, unasked, unclaimed, unlocked, unopened, unsynced}
use Rattle.run_stores.specs.declared.claimed.Naming.{Naming}
use Rattle.run_stores.specs.declared.claimed.Naming.TheVariants.{Once}
use Rattle.run_stores.specs.declared.opened.NotOpened.{NotOpened}
use Rattle.run_stores.specs.declared.opened.NotOpened.TheVariants.{Twice}

never_twice : (kind : ErrorKind) → because kind ≢ Twice
never_twice kind is = grind arith

folder_once : (to : Text) (old new : Log) → ¬ CantSyncFolder to Twice old new
folder_once to old new (inl (kind, other, is, noted)) = never_twice kind (sym is)
folder_once to old new (inr (folder, kind, is, noted)) = never_twice kind (sym is)

name_once : (path : Text) (old new : Log) → ¬ CantSettleName path Twice old new
name_once path old new (inl (kind, cant, is)) = never_twice kind (sym is)
name_once path old new (inr (to, mid, follows, cant)) = folder_once to mid new cant

made_once : (path : Text) (old new : Log) → ¬ CantMake path Twice old new
made_once path old new (inl (kind, is, noted)) = never_twice kind (sym is)
made_once path old new (inr (file, cant)) = name_once path _ new cant

opened_once : (path : Text) (old new : Log) → ¬ CantOpen path Twice old new
opened_once path old new (at_once kind one two is noted) = never_twice kind (sym is)
opened_once path old new (to_read kind other one is noted) = never_twice kind (sym is)
opened_once path old new (to_make cant) = made_once path _ new cant

claimed_once : (path : Text) (file : File) (id : Found) (old new : Log) → ¬ CantClaim path file id Twice old new
claimed_once path file id old new (unlocked (inl (is, noted))) = cc
claimed_once path file id old new (unlocked (inr (kind, is, noted))) = never_twice kind (sym is)
claimed_once path file id old new (moved locked lock (inl (there, elsewhere, is, noted))) = cc
claimed_once path file id old new (moved locked lock (inr (kind, is, noted))) = never_twice kind (sym is)
claimed_once path file id old new (unsynced locked led kind lock leads is noted) = never_twice kind (sym is)

refused_once : (naming : Naming) (known : List Found) (path : Text) (calls : Log) → IsRefused naming known path Twice calls → naming ≡ Once
refused_once naming known path calls (unopened cant) = absurd (opened_once path [] calls cant)
refused_once naming known path calls (unasked file start kind opens is noted) = absurd (never_twice kind (sym is))
refused_once naming known path calls (again file start id opens is once twice noted) = once
refused_once naming known path calls (unclaimed file start id opens isnt regular cant) = absurd (claimed_once path file id _ calls cant)

-- a file that is refused as a second name may be named once
pub twice_once : (naming : Naming) (known : List Found) (path : Text) (why : NotOpened) (calls : Log) → IsRefused naming known path why calls → why ≡ Twice → naming ≡ Once
twice_once naming known path why calls refused twice = refused_once naming known path calls (subst (λ (w : NotOpened). IsRefused naming known path w calls) twice refused)

-- a missing file that can't be made can't be opened
pub cant_open_made : (path : Text) (r : Result File NotOpened) (kind : ErrorKind) (old mid new : Log) → mid ≡ Open Both path (Err kind) ∷ old → kind ≡ NotFound → IfErr r (λ why. CantMake path why mid new) → IfErr r (λ why. CantOpen path why old new)
cant_open_made path (Ok file) kind old mid new noted is cant = tt
cant_open_made path (Err why) kind old mid new noted is cant =
    to_make (subst (λ (k : ErrorKind). CantMake path why (Open Both path (Err k) ∷ old) new) is (subst (λ (m : Log). CantMake path why m new) noted cant))

-- what is so of a reason is so of the one that is handed on
pub handed_on : {T : Type 0} (r : Result T NotOpened) (why : NotOpened) (P : NotOpened → Type 0) → IsErrAnd r (λ x. x ≡ why) → P why → IfErr r P
handed_on (Ok value) why P is so = absurd is
handed_on (Err x) why P is so = subst P (sym is) so
