use Rattle.std.proofs.Common.{◌≡◌, ◌+◌, ◌*◌, ◌≤◌, ◌∷◌, [], ◌++◌, ℕ, List, Option, length, refl, sym, ap, ◌∙◌, subst, arith}
use Rattle.std.proofs.Math.Nat.{mul-add}
use Rattle.hz_pipeline_model.specs.Accepting.Events as model
use Rattle.hz_pipeline_model.specs.Traces.Drills.{next_number, number_after, draw, IsTurn, Drawn}
use Rattle.hz_pipeline_model.proofs.Traces.DrillLaws.{number_more, draws_more}
use Rattle.hz_pipeline_model.specs.Tables.Machines.{Machine, parts_walk}
use Rattle.hz_replay.specs.Drilling.{WalksFrom}
use Rattle.hz_replay.specs.Lines.{event_of}
use Rattle.hz_replay.specs.Traces.{events_in, lines_in}
use Rattle.hz_replay.specs.declared.event.Event.{Event}
use Rattle.hz_replay.proofs.EventLemmas.{nothing_walked}
use Rattle.hz_replay.proofs.DrillLemmas.{turn_after, walked_after, events_push, lines_push, places_push}
use Rattle.hz_replay.proofs.drilling.drill_from.Goals as goal

pub loop-turn-init : goal.loop-turn-init
loop-turn-init g c =
    let none = c.in_ok-events.ensures.items in
    record {
      machine = refl;
      number = refl;
      drawn = ap events_in none;
      walked = ap (λ (es : List Event). parts_walk c.args.replayer.now.machine.parts c.args.replayer.now.states (events_in es)) none ∙ nothing_walked c.args.replayer.now.machine.parts c.args.replayer.now.states c.requires.each;
      lines = ap lines_in none;
      many = c.in_ok-events.ensures.len;
      room = omega (arith, c.in_ok-events.ensures.exact);
      cost = omega arith;
    }

-- the steps of one turn more
steps_turn : (parts turns from now next : ℕ) → now ≤ from + 8 * parts * turns → next ≤ now + 8 * parts → next ≤ from + 8 * parts * (turns + 1)
steps_turn parts turns from now next h k = let split = mul-add (8 * parts) turns 1 in omega (arith, split, h, k)

pub loop-turn-preserved : goal.loop-turn-preserved
loop-turn-preserved g c =
    let start = c.args.replayer.now in
    let now = c.loop-turn.replayer in
    let i = c.loop-turn.turn in
    let before = c.loop-turn.invariant in
    let t = events_in c.loop-turn.events.items in
    let e = event_of c.take_turn-what.result in
    let pushed = c.in_ok-push.ensures.items in
    let number : c.next_number-present.result ≡ next_number (number_after c.args.number i) = c.next_number-present.ensures ∙ ap next_number before.number in
    let drawn : c.draw.result ≡ draw c.args.classes (next_number (number_after c.args.number i)) = c.draw.ensures.drawn ∙ ap (draw c.args.classes) number in
    let turn = subst (λ (o : Option ℕ). IsTurn (WalksFrom start) t o e) drawn (turn_after start now t before.machine before.walked c.draw.result e c.take_turn-what.ensures.turn) in
    let events : events_in c.push.new.self.items ≡ t ++ e ∷ [] = ap events_in pushed ∙ events_push c.loop-turn.events.items _ in
    record {
      machine = c.take_turn-what.ensures.machine ∙ before.machine;
      number = number ∙ sym (number_more c.args.number i);
      drawn = subst (λ (es : List model.Event). Drawn (WalksFrom start) c.args.classes c.args.number (i + 1) es) (sym events) (draws_more (WalksFrom start) c.args.classes [] c.args.number i t e before.drawn turn);
      walked = ap (parts_walk start.machine.parts start.states) events ∙ walked_after start now t before.machine before.walked e c.take_turn-what.new.replayer.states c.take_turn-what.ensures.moved;
      lines = ap lines_in pushed ∙ (lines_push c.loop-turn.events.items _ ∙ (ap (λ (ks : List ℕ). ks ++ (i + 1) ∷ []) before.lines ∙ sym (places_push i (i + 1) refl)));
      many = omega (arith, c.in_ok-push.ensures.len, before.many);
      room = omega (arith, c.in_ok-push.ensures.capacity, before.room);
      cost = steps_turn (length start.machine.parts) i c.args.steps.now c.loop-turn.steps c.take_turn-what.new.steps before.cost
          (subst (λ (m : Machine). c.take_turn-what.new.steps ≤ c.loop-turn.steps + 8 * length m.parts) before.machine c.take_turn-what.ensures.cost);
    }

pub returns-in_err-push-clause-stays : goal.returns-in_err-push-clause-stays
returns-in_err-push-clause-stays g c = absurd (omega (arith, c.in_err-push.ensures.full, c.loop-turn.invariant.many, c.loop-turn.invariant.room, c.loop-turn-test.true))
