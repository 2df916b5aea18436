-- A graph has a schedule that is legal and greedy, where what is accepted can be reported and instructions fit after a while.
use Rattle.std.proofs.Common.{◌≡◌, ℕ, zero, suc, ◌+◌, ◌-◌, ◌<◌, ◌≤◌, ◌⊎◌, inl, inr, ⊎_elim, List, [], ◌∷◌, ◌++◌, length, Contains, sym, ap, subst, arith}
use Rattle.std.specs.List.{AllPairs, range_with_len}
use Rattle.std.proofs.lemmas.Bool.{cases_lt}
use Rattle.std.proofs.lemmas.List.FromFn.{length-range_with_len}
use Rattle.std.proofs.lemmas.List.Elements.{Contains-append_left, Contains-append_right}
use Rattle.hz_base_model.specs.Limits.{cycle_limit}
use Rattle.hz_base_model.proofs.Elements.{Contains-head, Contains-map, Contains-from_map, Contains-range}
use Rattle.hz_pipeline_model.specs.Accepting.Events.{Event, issue, advance}
use Rattle.hz_block_model.specs.Dependences.Graphs.{Edge}
use Rattle.hz_block_model.specs.Scheduling.Machines.{most_wait}
use Rattle.hz_block_model.specs.Scheduling.Schedules.{Graph, Slot, class_at, height_at, places, present, advance_to, spell, IsReady, GoesBefore, Legal, Greedy, IsCandidate, FollowsGreedily}
use Rattle.hz_block_model.proofs.Scheduling.OneSchedule.{Rises}
use Rattle.hz_block_model.proofs.Scheduling.GrowLaws.{greedy-push, legal_when_all}
use Rattle.hz_block_model.proofs.Schedulable.LeftLaws.{without}
use Rattle.hz_pipeline_model.proofs.Decidable.DecidedLaws.{IsDecided, same_reported, less_reported, low_reported, each_reported, some_reported, contained_reported}
use Rattle.hz_block_model.proofs.Scheduling.SlotLaws.{spelled-push, advances_later, below_present, rising-push, no_front}

-- numbers up to one
last_or_less : (n j : ℕ) → j < suc n → (j < n) ⊎ (n ≡ j)
last_or_less n j low = ⊎_elim (λ (less : j < n). inl less) (λ (high : n ≤ j). inr (omega arith)) (cases_lt j n)

module _ (accepts : List Event → Type 0) (reported : (t : List Event) → IsDecided (accepts t)) (g : Graph) where
  -- ---- candidates

  module _ (slots : List Slot) where
    edge_reported : (cycle j : ℕ) (e : Edge) → IsDecided (e.to ≡ j → (x : Slot) × Contains slots x × (x.place ≡ e.from) × (x.cycle + e.cost ≤ cycle))
    edge_reported cycle j e = ⊎_elim
        (λ (to : e.to ≡ j). ⊎_elim
        (λ (found : (x : Slot) × Contains slots x × ((x.place ≡ e.from) × (x.cycle + e.cost ≤ cycle))). inl (λ again. (found.0, found.1, (found.2).0, (found.2).1)))
        (λ (none : (x : Slot) → Contains slots x → (x.place ≡ e.from) × (x.cycle + e.cost ≤ cycle) → ⊥). inr (λ ready. let (x, there, place, late) = ready to in none x there (place, late)))
        (some_reported (λ x. (x.place ≡ e.from) × (x.cycle + e.cost ≤ cycle)) issue_reported slots))
        (λ (other : e.to ≡ j → ⊥). inl (λ to. absurd (other to)))
        (same_reported e.to j)
      where
        issue_reported : (x : Slot) → IsDecided ((x.place ≡ e.from) × (x.cycle + e.cost ≤ cycle))
        issue_reported x = go (same_reported x.place e.from) (low_reported (x.cycle + e.cost) cycle)
          where
            go : IsDecided (x.place ≡ e.from) → IsDecided (x.cycle + e.cost ≤ cycle) → IsDecided ((x.place ≡ e.from) × (x.cycle + e.cost ≤ cycle))
            go (inl a) (inl b) = inl (a, b)
            go (inl a) (inr b) = inr (λ both. b both.1)
            go (inr a) b = inr (λ both. a both.0)

    ready_reported : (cycle j : ℕ) → IsDecided (IsReady g slots cycle j)
    ready_reported cycle j = each_reported (λ e. e.to ≡ j → (x : Slot) × Contains slots x × (x.place ≡ e.from) × (x.cycle + e.cost ≤ cycle)) (edge_reported cycle j) g.edges

    candidate_reported : (cycle j : ℕ) → IsDecided (IsCandidate accepts g slots cycle j)
    candidate_reported cycle j = go (less_reported j (length g.nodes)) (contained_reported (places slots) j) (ready_reported cycle j) (reported (spell g slots ++ (advance_to (present 0 slots) cycle ++ issue (class_at g j) ∷ [])))
      where
        go : IsDecided (j < length g.nodes) → IsDecided (Contains (places slots) j) → IsDecided (IsReady g slots cycle j) → IsDecided (accepts (spell g slots ++ (advance_to (present 0 slots) cycle ++ issue (class_at g j) ∷ []))) → IsDecided (IsCandidate accepts g slots cycle j)
        go (inr not_so) b c d = inr (λ k. not_so k.within)
        go (inl a) (inl is) c d = inr (λ k. k.left is)
        go (inl a) (inr b) (inr not_so) d = inr (λ k. not_so k.ready)
        go (inl a) (inr b) (inl c) (inr not_so) = inr (λ k. not_so k.fits)
        go (inl a) (inr b) (inl c) (inl d) = inl (record { within = a; left = b; ready = c; fits = d })

    -- ---- the first of the candidates of a cycle

    -- A candidate that goes before all others below a number.
    record IsBest (cycle n place : ℕ) : Type 0 where
      low : place < n
      may : IsCandidate accepts g slots cycle place
      first : (j : ℕ) → j < n → IsCandidate accepts g slots cycle j → GoesBefore g place j

    higher_before : (n place j : ℕ) → height_at g place < height_at g n → GoesBefore g place j → GoesBefore g n j
    higher_before n place j more (inl h) = inl (omega (arith, h))
    higher_before n place j more (inr h) = inl (omega (arith, h.0))

    best_below : (cycle n : ℕ) → ((place : ℕ) × IsBest cycle n place) ⊎ ((j : ℕ) → j < n → IsCandidate accepts g slots cycle j → ⊥)
    best_below cycle zero = inr (λ j low c. omega (arith, low))
    best_below cycle (suc n) = go (candidate_reported cycle n) (best_below cycle n)
      where
        go : IsDecided (IsCandidate accepts g slots cycle n) → ((place : ℕ) × IsBest cycle n place) ⊎ ((j : ℕ) → j < n → IsCandidate accepts g slots cycle j → ⊥)
            → ((place : ℕ) × IsBest cycle (suc n) place) ⊎ ((j : ℕ) → j < suc n → IsCandidate accepts g slots cycle j → ⊥)
        go (inr not_so) (inr none) = inr (λ j low c. ⊎_elim
            (λ (less : j < n). none j less c)
            (λ (same : n ≡ j). not_so (subst (IsCandidate accepts g slots cycle) (sym same) c))
            (last_or_less n j low))
        go (inr not_so) (inl (place, best)) = let below = best.low in inl (
          place,
          record {
            low = omega arith;
            may = best.may;
            first = λ j low c. ⊎_elim
                (λ (less : j < n). best.first j less c)
                (λ (same : n ≡ j). absurd (not_so (subst (IsCandidate accepts g slots cycle) (sym same) c)))
                (last_or_less n j low);
          },
        )
        go (inl is) (inr none) = inl (
          n,
          record {
            low = omega arith;
            may = is;
            first = λ j low c. ⊎_elim
                (λ (less : j < n). absurd (none j less c))
                (λ (same : n ≡ j). inr (ap (height_at g) same, omega arith))
                (last_or_less n j low);
          },
        )
        go (inl is) (inl (place, best)) = let below = best.low in ⊎_elim
            (λ (more : height_at g place < height_at g n). inl (
              n,
              record {
                low = omega arith;
                may = is;
                first = λ j low c. ⊎_elim
                    (λ (less : j < n). higher_before n place j more (best.first j less c))
                    (λ (same : n ≡ j). inr (ap (height_at g) same, omega arith))
                    (last_or_less n j low);
              },
            ))
            (λ (most : height_at g n ≤ height_at g place). inl (
              place,
              record {
                low = omega arith;
                may = best.may;
                first = λ j low c. ⊎_elim
                    (λ (less : j < n). best.first j less c)
                    (λ (same : n ≡ j). subst (GoesBefore g place) same (before_last most below))
                    (last_or_less n j low);
              },
            ))
            (cases_lt (height_at g place) (height_at g n))
          where
            before_last : {place : ℕ} → height_at g n ≤ height_at g place → place < n → GoesBefore g place n
            before_last {place = place} most below = ⊎_elim
                (λ (more : height_at g n < height_at g place). inl more)
                (λ (same : height_at g place ≤ height_at g n). inr (omega (arith, same, most), omega (arith, below)))
                (cases_lt (height_at g n) (height_at g place))

    -- ---- the first cycle with a candidate

    -- no candidate stands from the present cycle up to, and without, this one
    abbrev IsBarren : ℕ → Type 0
    IsBarren c = (cycle j : ℕ) → present 0 slots ≤ cycle → cycle < c → IsCandidate accepts g slots cycle j → ⊥

    -- The slot that follows.
    abbrev Next : Type 0
    Next = (x : Slot) × FollowsGreedily accepts g slots x × (present 0 slots ≤ x.cycle)

    at_cycle : (c : ℕ) → present 0 slots ≤ c → IsBarren c → (place : ℕ) × IsBest c (length g.nodes) place → Next
    at_cycle c low barren (place, best) = (record { place = place; cycle = c }, record { may = best.may; first = λ j k. best.first j k.within k; soonest = barren }, low)

    barren_next : (c : ℕ) → IsBarren c → ((j : ℕ) → j < length g.nodes → IsCandidate accepts g slots c j → ⊥) → IsBarren (suc c)
    barren_next c barren none cycle j low high k = ⊎_elim
        (λ (less : cycle < c). barren cycle j low less k)
        (λ (same : c ≡ cycle). none j k.within (subst (λ (n : ℕ). IsCandidate accepts g slots n j) (sym same) k))
        (last_or_less c cycle high)

    soonest_from : (fuel c : ℕ) → present 0 slots ≤ c → IsBarren c → (j : ℕ) → IsCandidate accepts g slots (c + fuel) j → Next
    soonest_from zero c low barren j may = ⊎_elim
        (λ (best : (place : ℕ) × IsBest c (length g.nodes) place). at_cycle c low barren best)
        (λ (none : (i : ℕ) → i < length g.nodes → IsCandidate accepts g slots c i → ⊥).
        let same : c + 0 ≡ c = omega arith in
        absurd (none j may.within (subst (λ (n : ℕ). IsCandidate accepts g slots n j) same may)))
        (best_below c (length g.nodes))
    soonest_from (suc fuel) c low barren j may = ⊎_elim
        (λ (best : (place : ℕ) × IsBest c (length g.nodes) place). at_cycle c low barren best)
        (λ (none : (i : ℕ) → i < length g.nodes → IsCandidate accepts g slots c i → ⊥).
        let same : c + suc fuel ≡ suc c + fuel = omega arith in
        soonest_from fuel (suc c) (omega arith) (barren_next c barren none) j (subst (λ (n : ℕ). IsCandidate accepts g slots n j) same may))
        (best_below c (length g.nodes))

  -- ---- slots so far

  -- Slots that rise, are greedy and accepted.
  record IsGoing (slots : List Slot) : Type 0 where
    rising : AllPairs Rises slots
    greedy : Greedy accepts g slots
    accepted : accepts (spell g slots)

  going_more : (slots : List Slot) (x : Slot) → IsGoing slots → FollowsGreedily accepts g slots x → present 0 slots ≤ x.cycle → IsGoing (slots ++ x ∷ [])
  going_more slots x going follows late = record {
    rising = rising-push slots x going.rising late;
    greedy = greedy-push accepts g slots x going.greedy follows;
    accepted = subst accepts (sym (spelled-push g 0 slots x)) (follows.may).fits;
  }

  -- all places below a number are issued, or there is a least that is not
  least_left : (slots : List Slot) (n : ℕ) → ((j : ℕ) → j < n → Contains (places slots) j) ⊎ ((j : ℕ) × (j < n) × (Contains (places slots) j → ⊥) × ((i : ℕ) → i < j → Contains (places slots) i))
  least_left slots zero = inl (λ j low. absurd (omega (arith, low)))
  least_left slots (suc n) = go (least_left slots n) (contained_reported (places slots) n)
    where
      go : ((j : ℕ) → j < n → Contains (places slots) j) ⊎ ((j : ℕ) × (j < n) × (Contains (places slots) j → ⊥) × ((i : ℕ) → i < j → Contains (places slots) i)) → IsDecided (Contains (places slots) n)
          → ((j : ℕ) → j < suc n → Contains (places slots) j) ⊎ ((j : ℕ) × (j < suc n) × (Contains (places slots) j → ⊥) × ((i : ℕ) → i < j → Contains (places slots) i))
      go (inr (j, low, left, below)) reported_here = inr (j, omega (arith, low), left, below)
      go (inl all) (inr left) = inr (n, omega arith, left, all)
      go (inl all) (inl there) = inl (λ j low. ⊎_elim (λ (less : j < n). all j less) (λ (same : n ≡ j). subst (Contains (places slots)) same there) (last_or_less n j low))

  -- ---- an issue comes

  module _ (upward : (e : Edge) → Contains g.edges e → (e.from < e.to) × (e.to < length g.nodes) × (e.cost ≤ 1000))
      (alone : (j : ℕ) → j < length g.nodes → (t : List Event) (n : ℕ) → accepts t → cycle_limit ≤ n → accepts (t ++ advance n ∷ issue (class_at g j) ∷ [])) where
    comes : (slots : List Slot) → IsGoing slots → (j : ℕ) → j < length g.nodes → (Contains (places slots) j → ⊥) → ((i : ℕ) → i < j → Contains (places slots) i) → IsCandidate accepts g slots (present 0 slots + most_wait) j
    comes slots going j within left below = record { within = within; left = left; ready = ready; fits = fits }
      where
        ready : IsReady g slots (present 0 slots + most_wait) j
        ready e there to =
            let (up, inside, small) = upward e there in
            let (x, held, place) = Contains-from_map (λ (y : Slot). y.place) slots e.from (below e.from (omega arith)) in
            let low = below_present slots 0 going.rising x held in
            (x, held, place, omega arith)

        fits : accepts (spell g slots ++ (advance_to (present 0 slots) (present 0 slots + most_wait) ++ issue (class_at g j) ∷ []))
        fits = subst (λ (t : List Event). accepts (spell g slots ++ (t ++ issue (class_at g j) ∷ []))) (sym (advances_later (present 0 slots) (present 0 slots + most_wait) (omega arith)))
            (alone j within (spell g slots) ((present 0 slots + most_wait) - present 0 slots) going.accepted (omega arith))

    -- Slots with one more, and what is then left.
    record IsStep (slots : List Slot) (left : List ℕ) : Type 0 where
      slot : Slot
      rest : List ℕ
      shorter : suc (length rest) ≡ length left
      each : (j : ℕ) → j < length g.nodes → Contains (places (slots ++ slot ∷ [])) j ⊎ Contains rest j
      going : IsGoing (slots ++ slot ∷ [])

    step : (slots : List Slot) (left : List ℕ) → ((j : ℕ) → j < length g.nodes → Contains (places slots) j ⊎ Contains left j) → IsGoing slots → Next slots → IsStep slots left
    step slots left each going (x, follows, late) =
        let w = without left x.place (⊎_elim (λ (there : Contains (places slots) x.place). absurd ((follows.may).left there)) (λ (m : Contains left x.place). m) (each x.place (follows.may).within)) in
        record {
          slot = x;
          rest = w.rest;
          shorter = w.shorter;
          each = λ j low. ⊎_elim
              (λ (there : Contains (places slots) j). inl (old j there))
              (λ (m : Contains left j). ⊎_elim
              (λ (same : x.place ≡ j). inl (subst (Contains (places (slots ++ x ∷ []))) same new))
              (λ (k : Contains w.rest j). inr k)
              (w.others j m))
              (each j low);
          going = going_more slots x going follows late;
        }
      where
        old : (j : ℕ) → Contains (places slots) j → Contains (places (slots ++ x ∷ [])) j
        old j there =
            let (y, held, place) = Contains-from_map (λ (y : Slot). y.place) slots j there in
            subst (Contains (places (slots ++ x ∷ []))) place (Contains-map (λ (y : Slot). y.place) (slots ++ x ∷ []) y (Contains-append_left slots (x ∷ []) y held))

        new : Contains (places (slots ++ x ∷ [])) x.place
        new = Contains-map (λ (y : Slot). y.place) (slots ++ x ∷ []) x (Contains-append_right slots (x ∷ []) x (Contains-head x []))

    next : (slots : List Slot) → IsGoing slots → (j : ℕ) × (j < length g.nodes) × (Contains (places slots) j → ⊥) × ((i : ℕ) → i < j → Contains (places slots) i) → Next slots
    next slots going (j, within, left, below) =
        soonest_from slots most_wait (present 0 slots) (omega arith) (λ cycle i low high k. omega (arith, low, high)) j (comes slots going j within left below)

    -- A whole schedule.
    abbrev Whole : Type 0
    Whole = (s : List Slot) × Legal accepts g s × Greedy accepts g s

    all_of : (fuel : ℕ) (left : List ℕ) (slots : List Slot) → length left ≤ fuel → ((j : ℕ) → j < length g.nodes → Contains (places slots) j ⊎ Contains left j) → IsGoing slots → Whole
    all_of zero left slots few each going = ⊎_elim
        (λ (all : (j : ℕ) → j < length g.nodes → Contains (places slots) j). (slots, legal_when_all accepts g slots going.rising going.greedy going.accepted all, going.greedy))
        (λ (some : (j : ℕ) × (j < length g.nodes) × (Contains (places slots) j → ⊥) × ((i : ℕ) → i < j → Contains (places slots) i)).
        let s = step slots left each going (next slots going some) in
        absurd (omega (arith, s.shorter)))
        (least_left slots (length g.nodes))
    all_of (suc fuel) left slots few each going = ⊎_elim
        (λ (all : (j : ℕ) → j < length g.nodes → Contains (places slots) j). (slots, legal_when_all accepts g slots going.rising going.greedy going.accepted all, going.greedy))
        (λ (some : (j : ℕ) × (j < length g.nodes) × (Contains (places slots) j → ⊥) × ((i : ℕ) → i < j → Contains (places slots) i)).
        let s = step slots left each going (next slots going some) in
        all_of fuel s.rest (slots ++ s.slot ∷ []) (omega (arith, s.shorter)) s.each s.going)
        (least_left slots (length g.nodes))

    pub some_schedule : accepts [] → Whole
    some_schedule empty = all_of (length g.nodes) (range_with_len 0 (length g.nodes)) [] (omega (arith, length-range_with_len 0 (length g.nodes))) (λ j low. inr (Contains-range (length g.nodes) j low)) (record {
      rising = λ i j d lt inside. absurd (omega (arith, inside));
      greedy = λ before after x e. absurd (no_front before after x e);
      accepted = empty;
    })
