use Rattle.std.proofs.Common.{refl}
use Rattle.std.specs.List.{flat_map}
use Rattle.hz_check.specs.Names.Held.{is_held}
use Rattle.hz_check.proofs.Tables.TableSteps.{all_held}
use Rattle.hz_check.proofs.faults.self_exclusion.names_in.Goals as goal

pub returns : goal.returns
returns c = λ q. all_held (flat_map (λ pattern. pattern.items)) c.args.patterns.now c.loop-pattern.pattern-index q (is_held c.loop-pattern.table q) refl c.loop-pattern-test.false (c.loop-pattern.invariant q)
