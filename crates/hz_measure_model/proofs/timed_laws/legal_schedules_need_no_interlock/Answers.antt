use Rattle.std.proofs.Common.{◌≡◌, ℕ, length, Result, Ok, sym, ap, ◌∙◌, subst}
use Rattle.std.proofs.lemmas.List.{length-map}
use Rattle.hz_block_model.specs.Dependences.Orders.{IsOrder}
use Rattle.hz_block_model.specs.Dependences.Classes.{ClassFault}
use Rattle.hz_block_model.specs.Scheduling.Schedules.{Node, places}
use Rattle.hz_block_model.specs.Scheduled.BlockGraphs.{timing_in, classes_of, class_in}
use Rattle.hz_measure_model.proofs.Exposed.TimedLaws.{exposed_is_source}
use Rattle.hz_measure_model.proofs.timed_laws.legal_schedules_need_no_interlock.Goals as goal

-- a class that is right
abbrev right : ℕ → Result ℕ ClassFault
right class = Ok class

pub returns-clause-of_a_timing : goal.returns-clause-of_a_timing
returns-clause-of_a_timing g c = λ block t graph slots start edges many legal. exposed_is_source block t graph slots start edges (subst (λ (n : ℕ). IsOrder n (places slots)) many legal.order) legal.kept

pub returns-clause-of_a_description : goal.returns-clause-of_a_description
returns-clause-of_a_description g c = λ d block graph slots start made legal.
    let many : length graph.nodes ≡ length block =
    sym (length-map graph.nodes (λ (n : Node). n.class))
    ∙ (sym (length-map (classes_of graph) right)
    ∙ (ap length made.classes ∙ length-map block (class_in d))) in
    exposed_is_source block (timing_in d (classes_of graph) block) graph slots start made.edges (subst (λ (n : ℕ). IsOrder n (places slots)) many legal.order) legal.kept
