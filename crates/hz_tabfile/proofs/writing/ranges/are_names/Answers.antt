use Rattle.std.proofs.Common.{ℕ, List, arith}
use Rattle.std.specs.Prelude.{IsTrue}
use Rattle.hz_base_model.specs.Names.{is_name}
use Rattle.hz_tabfile.proofs.Ranges.{all_more, all_done}
use Rattle.hz_tabfile.proofs.writing.ranges.are_names.Goals as goal

pub loop-name-preserved : goal.loop-name-preserved
loop-name-preserved c = all_more (λ (name : List ℕ). IsTrue (is_name name)) c.args.names.now c.loop-name.name-index c.name-item.result (omega arith) c.name-item.is c.loop-name.invariant c.bytes-bytes.ensures.name

pub returns : goal.returns
returns c = all_done (λ (name : List ℕ). IsTrue (is_name name)) c.args.names.now c.loop-name.name-index (omega arith) c.loop-name.invariant
