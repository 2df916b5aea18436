use Rattle.std.proofs.Common.{ℕ, List, subst, arith}
use Rattle.std.specs.Prelude.{All, IsTrue}
use Rattle.hz_base_model.specs.Names.{is_name}
use Rattle.hz_tables.specs.declared.part.Part.{Part}
use Rattle.hz_tabfile.proofs.Ranges.{all_more, all_done}
use Rattle.hz_tabfile.proofs.writing.ranges.are_asked.Goals as goal

pub loop-part-preserved : goal.loop-part-preserved
loop-part-preserved c = all_more (λ (part : Part). All (λ name. IsTrue (is_name name)) part.asks.items) c.args.parts.now c.loop-part.part-index c.part-item.result (omega arith) c.part-item.is c.loop-part.invariant (subst (λ (names : List (List ℕ)). All (λ (name : List ℕ). IsTrue (is_name name)) names) c.deref.ensures.value c.are_names.ensures)

pub returns : goal.returns
returns c = all_done (λ (part : Part). All (λ name. IsTrue (is_name name)) part.asks.items) c.args.parts.now c.loop-part.part-index (omega arith) c.loop-part.invariant
