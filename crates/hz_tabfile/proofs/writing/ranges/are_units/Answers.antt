use Rattle.std.proofs.Common.{ℕ, List, subst, arith}
use Rattle.std.specs.Prelude.{All, IsTrue}
use Rattle.hz_base_model.specs.Names.{is_name}
use Rattle.hz_checked.specs.declared.checked.CheckedAutomaton.{CheckedAutomaton}
use Rattle.hz_tabfile.proofs.Ranges.{all_more, all_done}
use Rattle.hz_tabfile.proofs.writing.ranges.are_units.Goals as goal

pub loop-automaton-preserved : goal.loop-automaton-preserved
loop-automaton-preserved c = all_more (λ (automaton : CheckedAutomaton). All (λ name. IsTrue (is_name name)) automaton.units.items) c.args.automata.now c.loop-automaton.automaton-index c.automaton-item.result (omega arith) c.automaton-item.is c.loop-automaton.invariant (subst (λ (names : List (List ℕ)). All (λ (name : List ℕ). IsTrue (is_name name)) names) c.deref.ensures.value c.are_names.ensures)

pub returns : goal.returns
returns c = all_done (λ (automaton : CheckedAutomaton). All (λ name. IsTrue (is_name name)) automaton.units.items) c.args.automata.now c.loop-automaton.automaton-index (omega arith) c.loop-automaton.invariant
