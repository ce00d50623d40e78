use Rattle.std.proofs.Common.{◌≡◌, length}
use Rattle.type_source.specs.Tokens.{TakesTokens}
use Rattle.type_source.proofs.lexing.tokens_of.Given as goal

abbrev pub invariant-loop-turn : goal.invariant-loop-turn
invariant-loop-turn l = record {
  tokens : TakesTokens l.tokens.items l.text l.rest;
  lefts : length l.lefts.items ≡ length l.tokens.items;
}
