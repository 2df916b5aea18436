-- The edges of a graph, turned round one after the other.
use Rattle.std.proofs.Common.{◌≡◌, ◌≢◌, ◌↔◌, ℕ, ◌+◌, ◌<◌, ◌≤◌, ◌⊎◌, inl, inr, ⊎_elim, List, [], ◌∷◌, ◌++◌, length, get_or, set, take, replicate, Contains, sym, ap, ◌∙◌, subst, arith, get_or-set_same, get_or-set_other, length-set}
use Rattle.std.proofs.lemmas.Bool.{cases_eq, cases_lt}
use Rattle.std.proofs.lemmas.List.{get_or_past, get_or-replicate, length-replicate, take_more}
use Rattle.std.proofs.lemmas.List.Elements.{Contains-append_left, Contains-push, Contains-push_cases}
use Rattle.hz_base_model.proofs.Elements.{Contains-nil}
use Rattle.hz_check_reservations.specs.Circles.{AddsStarts, IsTurned}
use Rattle.hz_check_reservations.specs.Graphs.{ends_in}

-- one more end
module _ (start : ℕ) (ends : List ℕ) (old mid : List (List ℕ)) (i : ℕ) (within : i < length ends) (small : get_or ends i 0 < length mid) (a : AddsStarts start (take i ends) old mid) where
  abbrev end : ℕ
  end = get_or ends i 0

  abbrev new : List (List ℕ)
  new = set mid end (ends_in mid end ++ start ∷ [])

  more : take (i + 1) ends ≡ take i ends ++ end ∷ []
  more = take_more ends i 0 within

  here : ends_in new end ≡ ends_in mid end ++ start ∷ []
  here = get_or-set_same mid end (ends_in mid end ++ start ∷ []) [] small

  there : (to : ℕ) → to ≢ end → ends_in new to ≡ ends_in mid to
  there to ne = get_or-set_other mid end to (ends_in mid end ++ start ∷ []) [] ne

  Result : ℕ → ℕ → Type 0
  Result from to = Contains (ends_in old to) from ⊎ ((from ≡ start) × Contains (take (i + 1) ends) to)

  from_mid : (from to : ℕ) → Contains (ends_in mid to) from → Contains (ends_in old to) from ⊎ ((from ≡ start) × Contains (take (i + 1) ends) to)
  from_mid from to h = ⊎_elim
      (λ (k : Contains (ends_in old to) from). inl k)
      (λ (k : (from ≡ start) × Contains (take i ends) to). inr (k.0, subst (λ (xs : List ℕ). Contains xs to) (sym more) (Contains-append_left (take i ends) (end ∷ []) to k.1)))
      ((a.each from to).0 h)

  forth : (from to : ℕ) → Contains (ends_in new to) from → Contains (ends_in old to) from ⊎ ((from ≡ start) × Contains (take (i + 1) ends) to)
  forth from to h = ⊎_elim
      (λ (e : to ≡ end). ⊎_elim
      (λ (k : Contains (ends_in mid end) from). from_mid from to (subst (λ (x : ℕ). Contains (ends_in mid x) from) (sym e) k))
      (λ (k : start ≡ from). inr (sym k, subst (λ (xs : List ℕ). Contains xs to) (sym more) (subst (Contains (take i ends ++ end ∷ [])) (sym e) (Contains-push (take i ends) end))))
      (Contains-push_cases (ends_in mid end) start from (subst (λ (xs : List ℕ). Contains xs from) (ap (ends_in new) e ∙ here) h)))
      (λ (ne : to ≢ end). from_mid from to (subst (λ (xs : List ℕ). Contains xs from) (there to ne) h))
      (cases_eq to end)

  -- what was there stays
  kept : (from to : ℕ) → Contains (ends_in mid to) from → Contains (ends_in new to) from
  kept from to h = ⊎_elim
      (λ (e : to ≡ end). subst (λ (xs : List ℕ). Contains xs from) (sym (ap (ends_in new) e ∙ here)) (Contains-append_left (ends_in mid end) (start ∷ []) from (subst (λ (x : ℕ). Contains (ends_in mid x) from) e h)))
      (λ (ne : to ≢ end). subst (λ (xs : List ℕ). Contains xs from) (sym (there to ne)) h)
      (cases_eq to end)

  back : (from to : ℕ) → Contains (ends_in old to) from ⊎ ((from ≡ start) × Contains (take (i + 1) ends) to) → Contains (ends_in new to) from
  back from to h = ⊎_elim
      (λ (k : Contains (ends_in old to) from). kept from to ((a.each from to).1 (inl k)))
      (λ (k : (from ≡ start) × Contains (take (i + 1) ends) to). ⊎_elim
      (λ (g : Contains (take i ends) to). kept from to ((a.each from to).1 (inr (k.0, g))))
      (λ (e : end ≡ to). subst (λ (xs : List ℕ). Contains xs from) (sym (ap (ends_in new) (sym e) ∙ here)) (subst (Contains (ends_in mid end ++ start ∷ [])) (sym k.0) (Contains-push (ends_in mid end) start)))
      (Contains-push_cases (take i ends) end to (subst (λ (xs : List ℕ). Contains xs to) more k.1)))
      h

  pub adds_more : AddsStarts start (take (i + 1) ends) old new
  adds_more = record { size = length-set mid end (ends_in mid end ++ start ∷ []) ∙ a.size; each = λ from to. (forth from to, back from to) }

-- the edges of the nodes below a number are turned round
pub record IsTurnedBelow (edges starts : List (List ℕ)) (count : ℕ) : Type 0 where
  pub size : length starts ≡ length edges
  pub each : (from to : ℕ) → Contains (ends_in starts to) from ↔ ((from < count) × Contains (ends_in edges from) to)

empty_list : (n to : ℕ) → ends_in (replicate n []) to ≡ []
empty_list n to = ⊎_elim
    (λ (k : to < n). get_or-replicate n to [] [] k)
    (λ (k : n ≤ to). get_or_past (replicate n []) to [] (omega (arith, length-replicate {A = List ℕ} n [])))
    (cases_lt to n)

pub turned_more : (edges mid new : List (List ℕ)) (i : ℕ) → IsTurnedBelow edges mid i → AddsStarts i (ends_in edges i) mid new → IsTurnedBelow edges new (i + 1)
turned_more edges mid new i t a = record {
  size = a.size ∙ t.size;
  each = λ from to. (
    λ h. ⊎_elim
        (λ (k : Contains (ends_in mid to) from). let old = (t.each from to).0 k in (omega (arith, old.0), old.1))
        (λ (k : (from ≡ i) × Contains (ends_in edges i) to). (omega (arith, k.0), subst (λ (x : ℕ). Contains (ends_in edges x) to) (sym k.0) k.1))
        ((a.each from to).0 h),
    λ h. ⊎_elim
        (λ (e : from ≡ i). (a.each from to).1 (inr (e, subst (λ (x : ℕ). Contains (ends_in edges x) to) e h.1)))
        (λ (ne : from ≢ i). (a.each from to).1 (inl ((t.each from to).1 (omega (arith, h.0), h.1))))
        (cases_eq from i),
  );
}

pub turned_all : (edges starts : List (List ℕ)) (count : ℕ) → length edges ≤ count → IsTurnedBelow edges starts count → IsTurned edges starts
turned_all edges starts count all t = record {
  size = t.size;
  each = λ from to. (
    λ h. ((t.each from to).0 h).1,
    λ h. ⊎_elim
        (λ (k : from < length edges). (t.each from to).1 (omega arith, h))
        (λ (k : length edges ≤ from). absurd (Contains-nil to (subst (λ (xs : List ℕ). Contains xs to) (get_or_past edges from [] k) h)))
        (cases_lt from (length edges)),
  );
}
