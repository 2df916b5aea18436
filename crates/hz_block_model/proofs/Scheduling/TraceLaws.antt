-- What the trace of slots counts.
use Rattle.std.proofs.Common.{◌≡◌, ℕ, ◌+◌, ◌*◌, ◌-◌, ◌≤◌, Bool, true, false, cond, List, [], ◌∷◌, ◌++◌, length, All, refl, ap, ◌∙◌, arith}
use Rattle.std.specs.Prelude.{nat_lt}
use Rattle.std.specs.List.{AllPairs}
use Rattle.std.proofs.lemmas.Bool.{ltb-false}
use Rattle.std.proofs.lemmas.List.{length-append}
use Rattle.std.proofs.lemmas.List.Elements.{All-head, All-tail}
use Rattle.hz_base_model.proofs.Ascending.{AllPairs-head, AllPairs-tail}
use Rattle.hz_pipeline_model.specs.Accepting.Events.{Event, issue, advance, issues_of, cycles_of}
use Rattle.hz_pipeline_model.specs.Accepting.Asking.{issues_and_advances}
use Rattle.hz_pipeline_model.proofs.Accepting.AskLaws.{without-append}
use Rattle.hz_pipeline_model.proofs.Accepting.ReplayLaws.{issues_of-append, cycles_of-append}
use Rattle.hz_block_model.specs.Scheduling.Schedules.{Graph, Slot, class_at, advance_to, spelled, spell, present}
use Rattle.hz_block_model.proofs.Scheduling.OneSchedule.{Rises}

-- an advance to a cycle issues nothing
no_issue : (cycle later : ℕ) → issues_of (advance_to cycle later) ≡ 0
no_issue cycle later = go (nat_lt cycle later)
  where
    go : (b : Bool) → issues_of (cond b (advance (later - cycle) ∷ []) []) ≡ 0
    go true = refl
    go false = refl

-- it advances to it
advances_to : (cycle later : ℕ) → cycle ≤ later → cycles_of (advance_to cycle later) + cycle ≡ later
advances_to cycle later le = go (nat_lt cycle later) refl
  where
    go : (b : Bool) → nat_lt cycle later ≡ b → cycles_of (cond b (advance (later - cycle) ∷ []) []) + cycle ≡ later
    go true h = omega arith
    go false h = let high = ltb-false cycle later h in omega arith

issues_from : (g : Graph) (cycle : ℕ) (slots : List Slot) → issues_of (spelled g cycle slots) ≡ length slots
issues_from g cycle [] = refl
issues_from g cycle (x ∷ slots) =
    let both = issues_of-append (advance_to cycle x.cycle) (issue (class_at g x.place) ∷ spelled g x.cycle slots) in
    omega (arith, both, no_issue cycle x.cycle, issues_from g x.cycle slots)

pub issues_spelled : (g : Graph) (slots : List Slot) → issues_of (spell g slots) ≡ length slots
issues_spelled g slots = issues_from g 0 slots

-- an advance to a cycle asks nothing
no_ask : (cycle later : ℕ) → issues_and_advances (advance_to cycle later) ≡ advance_to cycle later
no_ask cycle later = go (nat_lt cycle later)
  where
    go : (b : Bool) → issues_and_advances (cond b (advance (later - cycle) ∷ []) []) ≡ cond b (advance (later - cycle) ∷ []) []
    go true = refl
    go false = refl

asks_from : (g : Graph) (cycle : ℕ) (slots : List Slot) → issues_and_advances (spelled g cycle slots) ≡ spelled g cycle slots
asks_from g cycle [] = refl
asks_from g cycle (x ∷ slots) =
    let class = class_at g x.place in
    without-append (advance_to cycle x.cycle) (issue class ∷ spelled g x.cycle slots)
    ∙ (ap (λ (es : List Event). es ++ issue class ∷ issues_and_advances (spelled g x.cycle slots)) (no_ask cycle x.cycle)
    ∙ ap (λ (es : List Event). advance_to cycle x.cycle ++ issue class ∷ es) (asks_from g x.cycle slots))

pub asks_spelled : (g : Graph) (slots : List Slot) → issues_and_advances (spell g slots) ≡ spell g slots
asks_spelled g slots = asks_from g 0 slots

-- an advance to a cycle is one event at most
one_event : (cycle later : ℕ) → length (advance_to cycle later) ≤ 1
one_event cycle later = go (nat_lt cycle later)
  where
    go : (b : Bool) → length (cond b (advance (later - cycle) ∷ []) []) ≤ 1
    go true = omega arith
    go false = omega arith

few_from : (g : Graph) (cycle : ℕ) (slots : List Slot) → length (spelled g cycle slots) ≤ 2 * length slots
few_from g cycle [] = omega arith
few_from g cycle (x ∷ slots) =
    let both = length-append (advance_to cycle x.cycle) (issue (class_at g x.place) ∷ spelled g x.cycle slots) in
    omega (arith, both, one_event cycle x.cycle, few_from g x.cycle slots)

pub few_spelled : (g : Graph) (slots : List Slot) → length (spell g slots) ≤ 2 * length slots
few_spelled g slots = few_from g 0 slots

cycles_from : (g : Graph) (cycle : ℕ) (slots : List Slot) → All (λ x. cycle ≤ x.cycle) slots → AllPairs Rises slots → cycles_of (spelled g cycle slots) + cycle ≡ present cycle slots
cycles_from g cycle [] beyond rising = omega arith
cycles_from g cycle (x ∷ slots) beyond rising =
    let both = cycles_of-append (advance_to cycle x.cycle) (issue (class_at g x.place) ∷ spelled g x.cycle slots) in
    let first = advances_to cycle x.cycle (All-head (λ (y : Slot). cycle ≤ y.cycle) x slots beyond) in
    omega (arith, both, first, cycles_from g x.cycle slots (AllPairs-head Rises x slots rising) (AllPairs-tail Rises x slots rising))

pub cycles_spelled : (g : Graph) (slots : List Slot) → AllPairs Rises slots → cycles_of (spell g slots) ≡ present 0 slots
cycles_spelled g slots rising = omega (arith, cycles_from g 0 slots (λ i d lt. omega arith) rising)

-- the last cycle is within what bounds all
pub present_within : (slots : List Slot) (cycle limit : ℕ) → cycle ≤ limit → All (λ x. x.cycle ≤ limit) slots → present cycle slots ≤ limit
present_within [] cycle limit low all = low
present_within (x ∷ slots) cycle limit low all = present_within slots x.cycle limit (All-head (λ (y : Slot). y.cycle ≤ limit) x slots all) (All-tail (λ (y : Slot). y.cycle ≤ limit) x slots all)
