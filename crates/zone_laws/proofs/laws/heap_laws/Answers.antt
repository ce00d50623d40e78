use Rattle.zone_laws.proofs.BetweenCalls.{answers_are_calls, made_again_is_exact, sparing_answers_suit}
use Rattle.zone_laws.proofs.CipheredActs.{ignores_contents, moves_contents, runs_ignore_contents, runs_move_contents}
use Rattle.zone_laws.proofs.Headline.{headline}
use Rattle.zone_laws.proofs.MadeAgain.{answers_between, asks_in_vain}
use Rattle.zone_laws.proofs.SameSource.{copies-brought}
use Rattle.zone_laws.proofs.laws.heap_laws.Goals as goal

pub returns : goal.returns
returns c = record {
  headline = headline;
  moves_contents = moves_contents;
  runs_move_contents = runs_move_contents;
  ignores_contents = ignores_contents;
  runs_ignore_contents = runs_ignore_contents;
  copies_are_brought = copies-brought;
  asks_in_vain = asks_in_vain;
  answers_are_calls = answers_are_calls;
  answers_between = answers_between;
  made_again_is_exact = made_again_is_exact;
  sparing_answers_suit = sparing_answers_suit;
}
