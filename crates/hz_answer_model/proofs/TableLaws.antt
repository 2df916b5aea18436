-- Walks of machines, and the tables of a description: there is one.
use Rattle.std.proofs.Common.{◌≡◌, ◌⊎◌, Bool, true, false, ℕ, zero, suc, add-one, ◌+◌, ◌<◌, ◌≤◌, ⊎_elim, inl, inr, arith, List, [], ◌∷◌, ◌++◌, take, drop, length, replicate, get_or, Option, Some, None, IsSome, slice_get, refl, sym, ap, ◌∙◌, subst}
use Rattle.std.specs.Option.{option_and_then}
use Rattle.std.proofs.lemmas.Bool.{cases_lt}
use Rattle.std.proofs.lemmas.List.{take_more, take_all, take-append-drop, take-take}
use Rattle.std.proofs.lemmas.Option.{none-some, same_Some, slice_get-get_or, slice_get_within, get_or_from_slice_get}
use Rattle.std.proofs.lemmas.List.Elements.{All-get_or}
use Rattle.hz_pipeline_model.specs.Accepting.Events.{Event, issue, advance, ask}
use Rattle.hz_pipeline_model.specs.Tables.Machines.{Machine, IsMachine, states_tell, IsPart, Part, part_walk, word_of, machine_walk, parts_walk, starts_of, advance_of}
use Rattle.hz_pipeline_model.specs.Tables.Tables.{Table, IsTable, walk, entry}
use Rattle.hz_pipeline_model.proofs.Tables.TableLaws.{walk-append, walk_stays}
use Rattle.hz_pipeline_model.proofs.Tables.MachineLaws.{machine_walk-ask, word_of-append, parts_walk-append, machine_walk-each, machine_walk-part, machine_walk-all}
use Rattle.hz_answer_model.specs.TableAnswers.{IsFirstUnwalked, IsIssueIn, reported_by}

module _ (m : Machine) where
  not_both : (t : List Event) → machine_walk m t ≡ None → IsSome (machine_walk m t) → ⊥
  not_both t none some = let bad = subst IsSome none some in absurd (cc)

  -- what is walked is walked up to each place
  pub prefix_walked : (s t : List Event) → IsSome (machine_walk m (s ++ t)) → IsSome (machine_walk m s)
  prefix_walked s t h = by_states (machine_walk m s) refl
    where
      by_states : (o : Option (List ℕ)) → machine_walk m s ≡ o → IsSome (machine_walk m s)
      by_states (Some states) e = subst IsSome (sym e) refl
      by_states None e =
          let gone : machine_walk m (s ++ t) ≡ None = parts_walk-append m.parts (starts_of m) s t ∙ ap (option_and_then (λ next. parts_walk m.parts next t)) e in
          absurd (not_both (s ++ t) gone h)

  shorter_walked : (t : List Event) (i j : ℕ) → i ≤ j → IsSome (machine_walk m (take j t)) → IsSome (machine_walk m (take i t))
  shorter_walked t i j few h =
      let both : take i (take j t) ≡ take i t = take-take i j t few in
      subst (λ (es : List Event). IsSome (machine_walk m es)) both
      (prefix_walked (take i (take j t)) (drop i (take j t)) (subst (λ (es : List Event). IsSome (machine_walk m es)) (sym (take-append-drop i (take j t))) h))

  pub one_unwalked : (events : List Event) (i j : ℕ) → IsFirstUnwalked m events i → IsFirstUnwalked m events j → i ≡ j
  one_unwalked events i j (before, stops) (before', stops') = ⊎_elim
      (λ (less : i < j). absurd (not_both (take (i + 1) events) stops (shorter_walked events (i + 1) j (omega (arith, less)) before')))
      (λ (high : j ≤ i). ⊎_elim
      (λ (less : j < i). absurd (not_both (take (j + 1) events) stops' (shorter_walked events (j + 1) i (omega (arith, less)) before)))
      (λ (low : i ≤ j). omega (arith, high, low))
      (cases_lt j i))
      (cases_lt i j)

  pub walked_or_not : (events : List Event) (i : ℕ) → IsSome (machine_walk m events) → IsFirstUnwalked m events i → ⊥
  walked_or_not events i h (before, stops) =
      not_both (take (i + 1) events) stops (prefix_walked (take (i + 1) events) (drop (i + 1) events) (subst (λ (es : List Event). IsSome (machine_walk m es)) (sym (take-append-drop (i + 1) events)) h))

  pub one_issue_in : (e : Option Event) (a b : List ℕ) → IsIssueIn m e a → IsIssueIn m e b → a ≡ b
  one_issue_in e a b (k, is, there) (l, is', there') =
      let same : k ≡ l = same_number k l (same_Some _ _ (sym is ∙ is')) in
      same_Some a b (sym there ∙ (ap (slice_get m.classes) same ∙ there'))
    where
      same_number : (k l : ℕ) → issue k ≡ issue l → k ≡ l
      same_number k l h = cc

-- An advance is always walked.

module _ (table : Table) (columns : ℕ) (is : IsTable table columns) where
  advances : (n state : ℕ) → state < length table → IsSome (walk table (Some state) (replicate n columns ++ []))
  advances zero state low = refl
  advances (suc n) state low = by_entry (entry table state columns) refl (advances n)
    where
      by_entry : (o : Option ℕ) → entry table state columns ≡ o → ((next : ℕ) → next < length table → IsSome (walk table (Some next) (replicate n columns ++ []))) → IsSome (walk table (entry table state columns) (replicate n columns ++ []))
      by_entry None e more = absurd (is.advances state low e)
      by_entry (Some next) e more = subst (λ (o : Option ℕ). IsSome (walk table o (replicate n columns ++ []))) (sym e) (more next (is.targets state columns next e))

module _ (m : Machine) (is : IsMachine m) (t : List Event) (n : ℕ) (h : IsSome (machine_walk m t)) where
  part_advances : (i : ℕ) (part : Part) → slice_get m.parts i ≡ Some part → IsSome (part_walk part 0 (t ++ advance n ∷ []))
  part_advances i part there = by_states (machine_walk m t) refl
    where
      is_part : IsPart (length m.classes) part
      is_part = subst (IsPart (length m.classes)) (get_or_from_slice_get m.parts i part part there) (All-get_or (IsPart (length m.classes)) m.parts i part (slice_get_within m.parts i part there) is.parts)

      by_states : (o : Option (List ℕ)) → machine_walk m t ≡ o → IsSome (part_walk part 0 (t ++ advance n ∷ []))
      by_states None e = absurd (not_both m t e h)
      by_states (Some states) e =
          let each = machine_walk-each m t states e in
          let within : i < length states = omega (arith, each, slice_get_within m.parts i part there) in
          let here : slice_get states i ≡ Some (get_or states i 0) = slice_get-get_or states i 0 within in
          let walked : part_walk part 0 t ≡ Some (get_or states i 0) = sym (machine_walk-part m t states e i part there) ∙ here in
          let low = walk_stays part.rows (advance_of part) is_part.table (Some 0) (λ state same. subst (λ (s : ℕ). s < length part.rows) (same_Some 0 state same) (is_part.table).start) (get_or states i 0) (word_of part t) walked in
          let whole : part_walk part 0 (t ++ advance n ∷ []) ≡ walk part.rows (Some (get_or states i 0)) (replicate n (advance_of part) ++ []) =
          ap (walk part.rows (Some 0)) (word_of-append part t (advance n ∷ [])) ∙ (walk-append part.rows (Some 0) (word_of part t) (replicate n (advance_of part) ++ []) ∙ ap (λ (o : Option ℕ). walk part.rows o (replicate n (advance_of part) ++ [])) walked) in
          subst IsSome (sym whole) (advances part.rows (advance_of part) is_part.table n (get_or states i 0) low)

  machine_advances : IsSome (machine_walk m (t ++ advance n ∷ []))
  machine_advances = machine_walk-all m (t ++ advance n ∷ []) part_advances

-- an event that is first not walked is an issue
pub unwalked_issue : (m : Machine) → IsMachine m → (events : List Event) (i : ℕ) → i < length events → IsFirstUnwalked m events i → (k : ℕ) × (slice_get events i ≡ Some (issue k))
unwalked_issue m is events i within (before, stops) = by_event (get_or events i (advance 0)) (slice_get-get_or events i (advance 0) within)
  where
    by_event : (e : Event) → slice_get events i ≡ Some e → (k : ℕ) × (slice_get events i ≡ Some (issue k))
    by_event (issue k) there = (k, there)
    by_event (ask a u) there =
        let here : get_or events i (advance 0) ≡ ask a u = same_Some _ _ (sym (slice_get-get_or events i (advance 0) within) ∙ there) in
        let front : take (i + 1) events ≡ take i events ++ ask a u ∷ [] = take_more events i (advance 0) within ∙ ap (λ (e : Event). take i events ++ e ∷ []) here in
        absurd (not_both m (take (i + 1) events) stops (subst (λ (es : List Event). IsSome (machine_walk m es)) (sym front) (subst IsSome (sym (machine_walk-ask m (take i events) a u)) before)))
    by_event (advance n) there =
        let here : get_or events i (advance 0) ≡ advance n = same_Some _ _ (sym (slice_get-get_or events i (advance 0) within) ∙ there) in
        let front : take (i + 1) events ≡ take i events ++ advance n ∷ [] = take_more events i (advance 0) within ∙ ap (λ (e : Event). take i events ++ e ∷ []) here in
        absurd (not_both m (take (i + 1) events) stops (subst (λ (es : List Event). IsSome (machine_walk m es)) (sym front) (machine_advances m is (take i events) n before)))

-- all events are walked, or one is the first that is not
pub walked_or_first : (m : Machine) (events : List Event) → IsSome (machine_walk m events) ⊎ ((i : ℕ) × (i < length events) × IsFirstUnwalked m events i)
walked_or_first m events = ⊎_elim
    (λ (h : IsSome (machine_walk m (take (length events) events))). inl (subst (λ (es : List Event). IsSome (machine_walk m es)) (take_all (length events) events (omega arith)) h))
    (λ found. inr found)
    (up_to (length events) (omega arith))
  where
    up_to : (n : ℕ) → n ≤ length events → IsSome (machine_walk m (take n events)) ⊎ ((i : ℕ) × (i < length events) × IsFirstUnwalked m events i)
    up_to zero few = inl (machine_walk-all m [] (λ i part there. refl))
    up_to (suc n) few = ⊎_elim
        (λ (before : IsSome (machine_walk m (take n events))). by_next before (machine_walk m (take (n + 1) events)) refl)
        (λ found. inr found)
        (up_to n (omega (arith, few)))
      where
        by_next : IsSome (machine_walk m (take n events)) → (o : Option (List ℕ)) → machine_walk m (take (n + 1) events) ≡ o → IsSome (machine_walk m (take (suc n) events)) ⊎ ((i : ℕ) × (i < length events) × IsFirstUnwalked m events i)
        by_next before (Some states) e = inl (subst (λ (k : ℕ). IsSome (machine_walk m (take k events))) (add-one n) (subst IsSome (sym e) refl))
        by_next before None e = inr (n, omega (arith, few), (before, e))

-- what the states of a machine tell is decided
pub reported_or_not : (m : Machine) (before : List Event) (a u : ℕ) → reported_by m before a u ⊎ (reported_by m before a u → ⊥)
reported_or_not m before a u = by_walk (machine_walk m before) refl
  where
    by_state : (states : List ℕ) → machine_walk m before ≡ Some states → (b : Bool) → states_tell m states a u ≡ b → reported_by m before a u ⊎ (reported_by m before a u → ⊥)
    by_state states is true e = inl (states, is, e)
    by_state states is false e =
        inr (λ (h : reported_by m before a u).
        let same : states ≡ h.0 = same_Some states h.0 (sym is ∙ h.1) in
        let tells : states_tell m states a u ≡ true = subst (λ (x : List ℕ). states_tell m x a u ≡ true) (sym same) h.2 in
        absurd (cc))

    by_walk : (o : Option (List ℕ)) → machine_walk m before ≡ o → reported_by m before a u ⊎ (reported_by m before a u → ⊥)
    by_walk None none = inr (λ (h : reported_by m before a u). none-some h.0 (sym none ∙ h.1))
    by_walk (Some states) is = by_state states is (states_tell m states a u) refl
