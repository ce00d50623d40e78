-- How what was asked for makes a look's end.
use Rattle.std.proofs.Common.{◌≡◌, ℕ, List, Option, Result, Ok, Err, refl, inl, inr}
use Rattle.std.specs.Result.{IsErrAnd}
use Rattle.clap.specs.Words.{Text, kind_of}
use Rattle.zone_view.specs.declared.asked.NotAsked.{NotAsked}
use Rattle.zone_view.specs.declared.asked.NotAsked.TheVariants.{Words, Help, NoFile, NoNumber, Mode, Before, HostFull}
use Rattle.zone_view.specs.Asking.{Asks}
use Rattle.zone_view.specs.Looking.{LookEnds, Refuses, Shows, ShowsZone, full_words, helped, refused}
use Rattle.zone_view.specs.Reading.{Acts}
use Rattle.zone_view.specs.Writing.{WritesFront}
use Rattle.zone_view.specs.declared.asked.Request.{Request}
use Rattle.zone_view.specs.declared.writing.NotWritten.{NotWritten}
use Rattle.zone_look.specs.declared.looking.Found.{Found}

-- nothing was looked at, since the words ask for nothing
pub was_refused : (words : List Text) (error : NotAsked) (acts : Acts) (old new : Option (List ℕ)) (silent : Type 0) (status : ℕ) → Asks words (Err error) → Refuses error old new silent status
    → LookEnds words acts acts old new silent status
was_refused words (Help text) acts old new silent status asks ends = helped asks refl ends
was_refused words (Words fault) acts old new silent status asks ends = refused (inl (kind_of fault, asks.0)) refl ends.0 ends.1
was_refused words NoFile acts old new silent status asks ends = refused (inr (inl asks)) refl ends.0 ends.1
was_refused words (NoNumber option) acts old new silent status asks ends = refused (inr (inr (inl (option.now, asks)))) refl ends.0 ends.1
was_refused words Mode acts old new silent status asks ends = refused (inr (inr (inr (inl asks)))) refl ends.0 ends.1
was_refused words Before acts old new silent status asks ends = refused (inr (inr (inr (inr asks)))) refl ends.0 ends.1
was_refused words HostFull acts old new silent status asks ends = full_words refl ends.0 ends.1

-- a front of what is found was written before an error
pub zone_fails : (asked : Request) (bytes : List ℕ) (old new : Option (List ℕ)) (r : Result ℕ NotWritten) (e : NotWritten) → IsErrAnd r (λ x. x ≡ e)
    → ((text : List ℕ) × (found : Found) × Shows asked bytes found text × WritesFront text old new) → ShowsZone asked bytes old new r
zone_fails asked bytes old new (Ok status) e is front = absurd is
zone_fails asked bytes old new (Err why) e is front = front
