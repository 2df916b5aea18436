-- How far what issues hold extends: its last cycle, and its longest line.
use Rattle.std.proofs.Common.{◌≡◌, ℕ, suc, ◌+◌, ◌-◌, ◌≤◌, max, ⊎_elim, List, [], ◌∷◌, ◌++◌, map, length, Contains, refl, sym, ap, ◌∙◌, subst, arith}
use Rattle.std.specs.Prelude.{decimal}
use Rattle.std.specs.List.{flat_map}
use Rattle.std.proofs.lemmas.Bool.{le-leb}
use Rattle.hz_base_model.specs.Pairs.{Pair}
use Rattle.hz_base_model.proofs.Elements.{Contains-nil, Contains-head, Contains-tail, Contains-cons_cases, Contains-map, Contains-from_map, Contains-filter, Contains-from_filter}
use Rattle.hz_description_model.specs.Reservations.Automata.{UnitPlace}
use Rattle.hz_pipeline_model.specs.Accepting.Events.{Event, cycles_of}
use Rattle.hz_pipeline_model.specs.Accepting.Replay.{Pipeline, chosen}
use Rattle.hz_why_model.specs.Holders.{Entry, entries, entry_from, entries_from, pairs_in}
use Rattle.hz_why_model.specs.Pictures.{cycles_in, longest}
use Rattle.hz_reasons.specs.Holding.{most, age_of, held_by, IsHolder, AreHolders}
use Rattle.hz_reasons.specs.declared.holders.Holder.{Holder}

-- ---- the greatest of numbers

module _ {A : Type 0} (f : A → ℕ) where
  pub most-append : (xs ys : List A) → most f (xs ++ ys) ≡ max (most f xs) (most f ys)
  most-append [] ys = omega arith
  most-append (x ∷ xs) ys = let rest = most-append xs ys in omega arith

  pub most_within : (n : ℕ) (xs : List A) → ((x : A) → Contains xs x → f x ≤ n) → most f xs ≤ n
  most_within n [] h = omega arith
  most_within n (x ∷ xs) h =
      let first = h x (Contains-head x xs) in
      let rest = most_within n xs (λ y is. h y (Contains-tail x y xs is)) in
      omega arith

  pub most_reached : (xs : List A) (x : A) → Contains xs x → f x ≤ most f xs
  most_reached [] x h = absurd (Contains-nil x h)
  most_reached (y ∷ xs) x h = ⊎_elim
      (λ (e : y ≡ x). let same = ap f e in omega arith)
      (λ there. let rest = most_reached xs x there in omega arith)
      (Contains-cons_cases y x xs h)

-- the number that one item has, where no other has more
most_is : {A : Type 0} (f : A → ℕ) (n : ℕ) (xs : List A) → ((x : A) → Contains xs x → f x ≤ n) → (x : A) → Contains xs x → f x ≡ n → most f xs ≡ n
most_is f n xs within x there is = let above = most_within f n xs within in let below = most_reached f xs x there in omega arith

longest_by : {A : Type 0} (text : A → List ℕ) (xs : List A) → longest (map text xs) ≡ most (λ x. length (text x)) xs
longest_by text [] = refl
longest_by text (x ∷ xs) = ap (max (length (text x))) (longest_by text xs)

-- ---- what issues hold

module _ (m : Pipeline UnitPlace) where
  -- an entry that the issue holds, and the one of its last cycle
  held_entry : (h : Holder) (e : Entry UnitPlace) → Contains (held_by m h) e → (p : Pair UnitPlace) × Contains (chosen m h.class h.number) p × (entry_from (age_of h) (record { pair = p; line = h.line; class = h.class }) ≡ e)
  held_entry h e there =
      let moved = Contains-from_map (entry_from (age_of h)) _ e there in
      let kept = Contains-from_filter _ moved.0 _ moved.1 in
      let found = Contains-from_map _ (chosen m h.class h.number) moved.0 kept.0 in
      (found.0, found.1, ap (entry_from (age_of h)) found.2 ∙ moved.2)

  abbrev last_entry : Holder → Pair UnitPlace → Entry UnitPlace
  last_entry h p = entry_from (age_of h) (record { pair = p; line = h.line; class = h.class })

  is_last : (h : Holder) (is : IsHolder m h) → Contains (held_by m h) (last_entry h is.reached.0)
  is_last h is =
      let p = is.reached.0 in
      let last = is.reached.2 in
      let low : age_of h ≤ p.cycle = omega arith in
      let e : Entry UnitPlace = record { pair = p; line = h.line; class = h.class } in
      Contains-map (entry_from (age_of h)) _ e (Contains-filter _ e (le-leb (age_of h) p.cycle low) _ (Contains-map _ (chosen m h.class h.number) p is.reached.1))

  cycles_of_issue : (h : Holder) → IsHolder m h → most (λ e. suc e.pair.cycle) (held_by m h) ≡ h.left + 1
  cycles_of_issue h is = most_is (λ e. suc e.pair.cycle) (h.left + 1) (held_by m h)
      (λ e there.
      let (p, taken, same) = held_entry h e there in
      let within = is.within p taken in
      let order = is.order in
      let time : p.cycle - age_of h + 1 ≤ h.left + 1 = omega arith in
      subst (λ (x : Entry UnitPlace). suc x.pair.cycle ≤ h.left + 1) same (omega arith))
      (last_entry h is.reached.0) (is_last h is) (let last = is.reached.2 in let order = is.order in omega arith)

  line_of_issue : (h : Holder) → IsHolder m h → most (λ e. length (decimal e.line)) (held_by m h) ≡ length (decimal h.line)
  line_of_issue h is = most_is (λ e. length (decimal e.line)) (length (decimal h.line)) (held_by m h)
      (λ e there.
      let (p, taken, same) = held_entry h e there in
      subst (λ (x : Entry UnitPlace). length (decimal x.line) ≤ length (decimal h.line)) same (omega arith))
      (last_entry h is.reached.0) (is_last h is) refl

  -- of all of them
  most_of_issues : (f : Entry UnitPlace → ℕ) (g : Holder → ℕ) → ((h : Holder) → IsHolder m h → most f (held_by m h) ≡ g h) → (hs : List Holder) → ((h : Holder) → Contains hs h → IsHolder m h) → most f (flat_map (held_by m) hs) ≡ most g hs
  most_of_issues f g each [] are = refl
  most_of_issues f g each (h ∷ hs) are =
      let sum = most-append f (held_by m h) (flat_map (held_by m) hs) in
      let first = each h (are h (Contains-head h hs)) in
      let rest = most_of_issues f g each hs (λ x there. are x (Contains-tail h x hs there)) in
      omega arith

  cycles_by : (es : List (Entry UnitPlace)) → cycles_in (pairs_in es) ≡ most (λ e. suc e.pair.cycle) es
  cycles_by [] = refl
  cycles_by (e ∷ es) = ap (max (suc e.pair.cycle)) (cycles_by es)

  module _ (t : List Event) (lines choices : List ℕ) (issues : List Holder) (are : AreHolders m t lines choices issues) where
    pub cycles_held : most (λ h. h.left + 1) issues ≡ cycles_in (pairs_in (entries_from (cycles_of t) (entries m 0 t lines choices)))
    cycles_held =
        sym (most_of_issues (λ e. suc e.pair.cycle) (λ h. h.left + 1) cycles_of_issue issues are.each)
        ∙ ap (most (λ e. suc e.pair.cycle)) are.all ∙ sym (cycles_by (entries_from (cycles_of t) (entries m 0 t lines choices)))

    pub lines_held : longest (map (λ e. decimal e.line) (entries_from (cycles_of t) (entries m 0 t lines choices))) ≡ longest (map (λ h. decimal h.line) issues)
    lines_held =
        longest_by (λ e. decimal e.line) (entries_from (cycles_of t) (entries m 0 t lines choices))
        ∙ sym (ap (most (λ e. length (decimal e.line))) are.all)
        ∙ most_of_issues (λ e. length (decimal e.line)) (λ h. length (decimal h.line)) line_of_issue issues are.each
        ∙ sym (longest_by (λ h. decimal h.line) issues)
