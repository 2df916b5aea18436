use Rattle.std.proofs.Common.{map, ap, ◌∙◌}
use Rattle.hz_block_model.specs.Running.States.{State, all_stored}
use Rattle.hz_rtl.specs.Stores.{store}
use Rattle.hz_rtl.proofs.reading.state_reader.read_state.Goals as goal

pub returns-clause-reads : goal.returns-clause-reads
returns-clause-reads c = record {
  given = map store c.in_ok-stores.stores.items;
  says = c.in_ok-stores.ensures.ok;
  is = c.in_ok-state.ensures ∙ (ap (λ (s : State). all_stored s (map store c.deref.result.now)) c.in_ok-empty.ensures ∙ ap (λ stores. all_stored _ (map store stores)) c.deref.ensures.value);
}
