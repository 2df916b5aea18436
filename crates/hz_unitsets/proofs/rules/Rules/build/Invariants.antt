use Rattle.std.proofs.Common.{◌≡◌, ◌++◌, map, All}
use Rattle.hz_unitsets.specs.RowRules.{statement_in, asked_statement, IsBounded, AreAsked}
use Rattle.hz_unitsets.proofs.rules.Rules.build.Given as goal

abbrev pub invariant-loop-rule : goal.invariant-loop-rule
invariant-loop-rule l = record {
  asked : AreAsked l.rules.items l.triggers;
  rest : All IsBounded l.rule-iterator;
  all : map asked_statement l.rules.items ++ map statement_in l.rule-iterator ≡ map statement_in l.initial.rule-iterator;
}
