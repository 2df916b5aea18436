-- How much the turns of a body ask for, and how many cycles they have.
use Rattle.std.proofs.Common.{◌≡◌, ℕ, zero, suc, ◌+◌, ◌*◌, ◌<◌, ◌≤◌, ⊎_elim, List, [], ◌∷◌, length, get_or, sum_by, Contains, All, ap, ◌∙◌, arith, zero-add}
use Rattle.std.specs.List.{repeat}
use Rattle.std.proofs.lemmas.Bool.{cases_lt}
use Rattle.std.proofs.lemmas.List.{length-map, get_or_default}
use Rattle.std.proofs.lemmas.List.Sums.{sum_by-append}
use Rattle.std.proofs.lemmas.List.Elements.{All-nil, All-cons}
use Rattle.hz_base_model.proofs.Elements.{Contains-head, Contains-tail}
use Rattle.hz_pipeline_model.specs.Accepting.Events.{Event, cycles_of}
use Rattle.hz_block_model.specs.Running.Blocks.{Instruction}
use Rattle.hz_block_model.specs.Dependences.Dependences.{Timing}
use Rattle.hz_block_model.specs.Dependences.Graphs.{IsGraph}
use Rattle.hz_block_model.specs.Scheduling.Schedules.{Node, Graph, Slot, class_at, places, present, spell, Legal}
use Rattle.hz_block_model.specs.Scheduled.BlockGraphs.{classes_of}
use Rattle.hz_block_model.proofs.Scheduling.TraceLaws.{cycles_spelled, present_within}
use Rattle.hz_measure_model.specs.Kernels.Turns.{repeated, turns}
use Rattle.hz_measure_model.proofs.Bounds.Held.{asked}
use Rattle.hz_measure_model.proofs.Bounds.LoadLaws.{asked_spelled, sum_held}
use Rattle.hz_measure_model.proofs.Kernels.DepLaws.{more_copies}
use Rattle.hz_measure_model.proofs.Kernels.LegalLaws.{turns_order, turns_rise}
use Rattle.hz_measure_model.proofs.Kernels.RepeatLaws.{map-repeat}
use Rattle.hz_measure_model.proofs.Kernels.TurnLaws.{from_turns}
use Rattle.hz_measure_model.proofs.Kernels.UnrollLaws.{length-repeat}

-- what copies sum to
pub sum_repeat : (f : ℕ → ℕ) (n : ℕ) (xs : List ℕ) → sum_by f (repeat n xs) ≡ n * sum_by f xs
sum_repeat f zero xs = omega arith
sum_repeat f (suc n) xs = omega (arith, sum_by-append f xs (repeat n xs), sum_repeat f n xs)

-- what asks for more than its share of each interval runs out of room
pub no_more : (sum interval more : ℕ) → ((n : ℕ) → n * sum ≤ n * interval + more) → sum ≤ interval
no_more sum interval more each = ⊎_elim
    (λ (less : interval < sum).
    let one = each (suc more) in
    let two = more_copies (suc interval) sum (suc more) less in
    let three : suc interval * suc more ≡ suc more * interval + suc more = omega arith in
    let four : sum * suc more ≡ suc more * sum = omega arith in
    absurd (omega (arith, one, two, three, four)))
    (λ (le : sum ≤ interval). le)
    (cases_lt interval sum)

all_within : (limit : ℕ) (xs : List Slot) → ((x : Slot) → Contains xs x → x.cycle ≤ limit) → All (λ x. x.cycle ≤ limit) xs
all_within limit [] h = All-nil (λ x. x.cycle ≤ limit)
all_within limit (x ∷ xs) h = All-cons (λ x. x.cycle ≤ limit) x xs (h x (Contains-head x xs)) (all_within limit xs (λ y c. h y (Contains-tail x y xs c)))

-- the last cycle of so many turns
pub present_turns : (size interval : ℕ) (slots : List Slot) (n : ℕ) → present 0 (turns size interval slots n) ≤ n * interval + present 0 slots
present_turns size interval slots n =
    present_within (turns size interval slots n) 0 (n * interval + present 0 slots) (omega arith)
    (all_within (n * interval + present 0 slots) (turns size interval slots n) (λ x c. let (is, soon) = from_turns size interval slots n (n * interval + (present 0 slots + 1)) x c in omega (arith, soon)))

module _ (accepts : List Event → Type 0) (body : List Instruction) (t : Timing) (g : Graph) (graph : IsGraph body t g.edges) (many : length g.nodes ≡ length body) (slots : List Slot) (legal : Legal accepts g slots) (interval n : ℕ) where
  -- they have so many cycles
  pub cycles_of_turns : cycles_of (spell (repeated g n) (turns (length body) interval slots n)) ≤ n * interval + present 0 slots
  cycles_of_turns =
      let spelled = cycles_spelled (repeated g n) (turns (length body) interval slots n) (turns_rise accepts body t g graph many slots legal interval n) in
      let last = present_turns (length body) interval slots n in
      omega (arith, spelled, last)

  -- and ask for what each turn asks for
  pub asked_by_turns : (f : ℕ → ℕ) → n * sum_by f (classes_of g) ≤ asked f (spell (repeated g n) (turns (length body) interval slots n))
  asked_by_turns f =
      let order = turns_order accepts body t g graph many slots legal interval n in
      let copies : classes_of (repeated g n) ≡ repeat n (classes_of g) = map-repeat (λ (node : Node). node.class) n g.nodes in
      let long : length (classes_of (repeated g n)) ≡ n * length body =
      ap length copies ∙ (length-repeat n (classes_of g) ∙ ap (λ (k : ℕ). n * k) (length-map g.nodes (λ (node : Node). node.class) ∙ many)) in
      let held = sum_held f (classes_of (repeated g n)) 0 (class_at (repeated g n)) at (places (turns (length body) interval slots n)) (λ i lt. rw zero-add (order.each i (omega (arith, long, lt)))) in
      let all = asked_spelled f (repeated g n) 0 (turns (length body) interval slots n) in
      let sum = sum_repeat f n (classes_of g) in
      let same : sum_by f (classes_of (repeated g n)) ≡ sum_by f (repeat n (classes_of g)) = ap (sum_by f) copies in
      omega (arith, held, all, sum, same)
    where
      at : (i d : ℕ) → i < length (classes_of (repeated g n)) → class_at (repeated g n) (0 + i) ≡ get_or (classes_of (repeated g n)) i d
      at i d lt = rw zero-add (get_or_default (classes_of (repeated g n)) i 0 d lt)
