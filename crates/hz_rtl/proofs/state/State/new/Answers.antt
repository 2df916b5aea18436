use Rattle.std.proofs.Common.{rules}
use Rattle.hz_rtl.proofs.StateLemmas.{all_zero, same_state}
use Rattle.hz_rtl.proofs.state.State.new.Goals as goal

pub returns : goal.returns
returns c = same_state _ _ (all_zero c.in_ok-vec.field-0.items c.new.result 256 (search rules) c.new.ensures.empty)
