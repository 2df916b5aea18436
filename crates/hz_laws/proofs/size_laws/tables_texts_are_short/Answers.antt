use Rattle.std.proofs.Common.{arith}
use Rattle.hz_laws.proofs.Sizes.TablesSizes.{tables_most}
use Rattle.hz_laws.proofs.size_laws.tables_texts_are_short.Goals as goal

pub returns-clause-size : goal.returns-clause-size
returns-clause-size c = λ bytes read d known m reports forms says nothing is machine hidden. tables_most d known m reports is bytes read forms says nothing machine hidden

pub returns-clause-limit : goal.returns-clause-limit
returns-clause-limit c = λ bytes read d known m reports few forms says nothing is machine hidden. omega (arith, few, tables_most d known m reports is bytes read forms says nothing machine hidden)
