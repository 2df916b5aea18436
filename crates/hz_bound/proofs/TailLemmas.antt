-- Tails from the last place down, and the chain along them.
use Rattle.std.proofs.Common.{◌≡◌, ◌≢◌, ℕ, suc, ◌+◌, ◌-◌, ◌*◌, ◌<◌, ◌≤◌, ◌==◌, ◌⊎◌, inl, inr, ⊎_elim, Bool, true, false, cond, List, [], ◌∷◌, ◌++◌, map, length, get_or, set, Contains, Option, Some, None, refl, sym, ap, ◌∙◌, subst, append_assoc, arith}
use Rattle.std.specs.Prelude.{slice_index, min, position, nat_lt, All}
use Rattle.std.specs.List.{position_or_len}
use Rattle.std.proofs.lemmas.List.Sums.{fails_before_first}
use Rattle.std.proofs.lemmas.List.Quantifiers.{position-Some}
use Rattle.std.proofs.lemmas.List.Elements.{Contains-get_or}
use Rattle.std.specs.Option.{option_map_or}
use Rattle.std.proofs.lemmas.Bool.{eqb-true, eq-eqb, cases_lt, ltb-false}
use Rattle.std.proofs.lemmas.List.{length-set, get_or-set_same, get_or-set_other, get_or_default, append-nil}
use Rattle.hz_base_model.proofs.Elements.{Contains-nil, Contains-head, Contains-tail, Contains-cons_cases, Contains-from_map}
use Rattle.hz_measure_model.specs.Bounds.Paths.{greatest, IsLeast}
use Rattle.hz_measure_model.proofs.Bounds.WayLaws.{greatest_held}
use Rattle.hz_depend.specs.declared.parts.Edge.{Edge}
use Rattle.hz_description_model.specs.Reading.Limits.{latency_limit}
use Rattle.hz_block_model.specs.Running.Limits.{instruction_limit}
use Rattle.hz_bound.specs.Rows.{sum_of, Carries, lesser, least_in, IsChainOf, TailsFrom, LeadUp}
use Rattle.hz_bound.proofs.BegunChains.{IsBegun}

same_sums : (f h : Edge → ℕ) (row : List Edge) → ((e : Edge) → Contains row e → f e ≡ h e) → map f row ≡ map h row
same_sums f h [] same = refl
same_sums f h (e ∷ row) same = rw (same e (Contains-head e row), same_sums f h row (λ d there. same d (Contains-tail e d row there))) refl

greatest_within : (ns : List ℕ) (limit : ℕ) → ((n : ℕ) → Contains ns n → n ≤ limit) → greatest ns ≤ limit
greatest_within [] limit all = omega arith
greatest_within (n ∷ ns) limit all = let rest = greatest_within ns limit (λ m there. all m (Contains-tail n m ns there)) in let here = all n (Contains-head n ns) in omega (arith, rest, here)

module _ (rows : ℕ → List Edge) (n : ℕ) (leads : LeadUp rows n) where
  pub tails_more : (p : ℕ) (tails : List ℕ) (tail : ℕ) → p < n → TailsFrom rows n (suc p) tails → tail ≡ greatest (map (λ e. e.cost + slice_index tails e.to) (rows p)) → TailsFrom rows n p (set tails p tail)
  tails_more p tails tail lt from is = record { long = length-set tails p tail ∙ from.long; each = each; small = small }
    where
      here : slice_index (set tails p tail) p ≡ tail
      here = get_or-set_same tails p tail 0 (omega (arith, lt, from.long))

      other : (i : ℕ) → i ≢ p → slice_index (set tails p tail) i ≡ slice_index tails i
      other i ne = get_or-set_other tails p i tail 0 ne

      same : (i : ℕ) → p ≤ i → map (λ e. e.cost + slice_index (set tails p tail) e.to) (rows i) ≡ map (λ e. e.cost + slice_index tails e.to) (rows i)
      same i le = same_sums (sum_of (set tails p tail)) (sum_of tails) (rows i) (λ e there. let (up, low, small) = leads.up i e there in ap (λ (t : ℕ). e.cost + t) (other e.to (λ (q : e.to ≡ p). omega (arith, q, up, le))))

      each : (i : ℕ) → p ≤ i → i < n → slice_index (set tails p tail) i ≡ greatest (map (λ e. e.cost + slice_index (set tails p tail) e.to) (rows i))
      each i le low = ⊎_elim
          (λ (more : p < i). other i (λ (q : i ≡ p). omega (arith, q, more)) ∙ (from.each i more low ∙ ap greatest (sym (same i le))))
          (λ (less : i ≤ p). let e : p ≡ i = omega (arith, le, less) in subst (λ (i : ℕ). slice_index (set tails p tail) i ≡ greatest (map (λ e. e.cost + slice_index (set tails p tail) e.to) (rows i))) e (here ∙ (is ∙ ap greatest (sym (same p (omega arith))))))
          (cases_lt p i)

      bounded : tail + latency_limit * p ≤ latency_limit * n
      bounded =
          let most = greatest_within (map (sum_of tails) (rows p)) (latency_limit * n - latency_limit * p) (λ k there.
          let (e, held, q) = Contains-from_map (sum_of tails) (rows p) k there in
          let (up, low, cost) = leads.up p e held in
          let high = from.small e.to low in
          omega (arith, q, up, cost, high)) in
          omega (arith, is, most, lt)

      small : (i : ℕ) → i < n → slice_index (set tails p tail) i + latency_limit * i ≤ latency_limit * n
      small i low = ⊎_elim
          (λ (less : i < p). omega (arith, other i (λ (q : i ≡ p). omega (arith, q, less)), from.small i low))
          (λ (ge : p ≤ i). ⊎_elim
          (λ (more : p < i). omega (arith, other i (λ (q : i ≡ p). omega (arith, q, more)), from.small i low))
          (λ (le : i ≤ p). let e : p ≡ i = omega (arith, ge, le) in subst (λ (i : ℕ). slice_index (set tails p tail) i + latency_limit * i ≤ latency_limit * n) e (omega (arith, here, bounded)))
          (cases_lt p i))
          (cases_lt i p)

-- ---- the least place that carries on

abbrev pub IsThere : List Edge → List ℕ → ℕ → Option ℕ → ℕ → Type 0
IsThere row tails tail next k = Carries row tails tail k ⊎ (next ≡ Some k)

carries_later : (e : Edge) (row : List Edge) (tails : List ℕ) (tail k : ℕ) → Carries row tails tail k → Carries (e ∷ row) tails tail k
carries_later e row tails tail k c = record { by = c.by; there = Contains-tail e c.by row c.there; leads = c.leads; whole = c.whole }

carries_cases : (e : Edge) (row : List Edge) (tails : List ℕ) (tail k : ℕ) → Carries (e ∷ row) tails tail k → ((e.to ≡ k) × (tail ≡ e.cost + slice_index tails e.to)) ⊎ Carries row tails tail k
carries_cases e row tails tail k c = ⊎_elim
    (λ (same : e ≡ c.by). let to = ap (λ (f : Edge). f.to) same ∙ c.leads in inl (to, c.whole ∙ (ap (λ (f : Edge). f.cost + slice_index tails k) (sym same) ∙ ap (λ (j : ℕ). e.cost + slice_index tails j) (sym to))))
    (λ (m : Contains row c.by). inr (record { by = c.by; there = m; leads = c.leads; whole = c.whole }))
    (Contains-cons_cases e c.by row c.there)

-- What a search of a row answers, with what was there before.
pub record Answers (row : List Edge) (tails : List ℕ) (tail : ℕ) (next : Option ℕ) (answer : Option ℕ) : Type 0 where
  pub none : answer ≡ None → (k : ℕ) → IsThere row tails tail next k → ⊥
  pub some : (k : ℕ) → answer ≡ Some k → IsThere row tails tail next k × ((j : ℕ) → IsThere row tails tail next j → k ≤ j)

-- the step of one edge keeps what is there: its least is that of both
record Steps (e : Edge) (tails : List ℕ) (tail : ℕ) (next new : Option ℕ) : Type 0 where
  pub kept : (k : ℕ) → new ≡ Some k → (next ≡ Some k) ⊎ ((e.to ≡ k) × (tail ≡ e.cost + slice_index tails e.to))
  pub below : (j : ℕ) → (next ≡ Some j) ⊎ ((e.to ≡ j) × (tail ≡ e.cost + slice_index tails e.to)) → (k : ℕ) × (new ≡ Some k) × (k ≤ j)

same_some : (a b : ℕ) → Some a ≡ Some b → a ≡ b
same_some a b e = cc

step_one : (e : Edge) (tails : List ℕ) (tail : ℕ) (next : Option ℕ) (b : Bool) → (e.cost + slice_index tails e.to == tail) ≡ b → Steps e tails tail next (cond b (Some (option_map_or (λ least. min least e.to) next e.to)) next)
step_one e tails tail next false other = record {
  kept = λ k is. inl is;
  below = λ j is. ⊎_elim (λ (here : next ≡ Some j). (j, here, omega arith)) (λ (h : (e.to ≡ j) × (tail ≡ e.cost + slice_index tails e.to)). absurd (let yes = eq-eqb (e.cost + slice_index tails e.to) tail (sym h.1) in cc)) is;
}
step_one e tails tail None true same = record {
  kept = λ k is. inr (same_some e.to k is, sym (eqb-true (e.cost + slice_index tails e.to) tail same));
  below = λ j is. ⊎_elim (λ (here : None ≡ Some j). absurd (cc)) (λ (h : (e.to ≡ j) × (tail ≡ e.cost + slice_index tails e.to)). (e.to, refl, omega (arith, h.0))) is;
}
step_one e tails tail (Some m) true same = record {
  kept = λ k is. let least = same_some (min m e.to) k is in ⊎_elim
      (λ (lt : m < e.to). let q : m ≡ k = omega (arith, lt, least) in inl (ap (λ (z : ℕ). Some z) q))
      (λ (le : e.to ≤ m). inr (omega (arith, le, least), sym (eqb-true (e.cost + slice_index tails e.to) tail same)))
      (cases_lt m e.to);
  below = λ j is. (min m e.to, refl, ⊎_elim (λ (here : Some m ≡ Some j). let q = same_some m j here in omega (arith, q)) (λ (h : (e.to ≡ j) × (tail ≡ e.cost + slice_index tails e.to)). omega (arith, h.0)) is);
}

pub answers : (row : List Edge) (tails : List ℕ) (tail : ℕ) (next : Option ℕ) → Answers row tails tail next (least_in tails tail row next)
answers [] tails tail next = record {
  none = λ e k is. ⊎_elim (λ (c : Carries [] tails tail k). Contains-nil c.by c.there) (λ (h : next ≡ Some k). absurd (cc)) is;
  some = λ k e. (inr e, λ j is. ⊎_elim (λ (c : Carries [] tails tail j). absurd (Contains-nil c.by c.there)) (λ (h : next ≡ Some j). let q = same_some k j (sym e ∙ h) in omega (arith, q)) is);
}
answers (e ∷ row) tails tail next =
    let step = step_one e tails tail next (e.cost + slice_index tails e.to == tail) refl in
    let rest = answers row tails tail (lesser tails tail next e) in
    record {
      none = λ is k there. ⊎_elim
          (λ (c : Carries (e ∷ row) tails tail k). ⊎_elim
          (λ (h : (e.to ≡ k) × (tail ≡ e.cost + slice_index tails e.to)). let (l, new, low) = step.below k (inr h) in rest.none is l (inr new))
          (λ (c : Carries row tails tail k). rest.none is k (inl c))
          (carries_cases e row tails tail k c))
          (λ (h : next ≡ Some k). let (l, new, low) = step.below k (inl h) in rest.none is l (inr new))
          there;
      some = λ k is. let (there, least) = rest.some k is in (
        ⊎_elim
            (λ (c : Carries row tails tail k). inl (carries_later e row tails tail k c))
            (λ (new : lesser tails tail next e ≡ Some k). ⊎_elim
            (λ (h : next ≡ Some k). inr h)
            (λ (h : (e.to ≡ k) × (tail ≡ e.cost + slice_index tails e.to)). inl (record { by = e; there = Contains-head e row; leads = h.0; whole = h.1 ∙ ap (λ (j : ℕ). e.cost + slice_index tails j) h.0 }))
            (step.kept k new))
            there,
        λ j at. ⊎_elim
            (λ (c : Carries (e ∷ row) tails tail j). ⊎_elim
            (λ (h : (e.to ≡ j) × (tail ≡ e.cost + slice_index tails e.to)). let (l, new, low) = step.below j (inr h) in let le = least l (inr new) in omega (arith, low, le))
            (λ (c : Carries row tails tail j). least j (inl c))
            (carries_cases e row tails tail j c))
            (λ (h : next ≡ Some j). let (l, new, low) = step.below j (inl h) in let le = least l (inr new) in omega (arith, low, le))
            at,
      );
    }

pub next_is_least : (row : List Edge) (tails : List ℕ) (tail k : ℕ) → least_in tails tail row None ≡ Some k → IsLeast (Carries row tails tail) k
next_is_least row tails tail k e =
    let (there, least) = (answers row tails tail None).some k e in
    record {
      is = ⊎_elim (λ (c : Carries row tails tail k). c) (λ (h : None ≡ Some k). absurd (cc)) there;
      first = λ j lt c. let le = least j (inl c) in omega (arith, lt, le);
    }

-- ---- the chain

module _ (rows : ℕ → List Edge) (n : ℕ) (leads : LeadUp rows n) (tails : List ℕ) (from : TailsFrom rows n 0 tails) where
  pub begun_more : (j k : ℕ) (chain : List ℕ) → IsBegun rows tails j chain → 0 < slice_index tails j → least_in tails (slice_index tails j) (rows j) None ≡ Some k → IsBegun rows tails k (chain ++ k ∷ [])
  begun_more j k chain begun more e = record {
    goes = λ rest on. subst (IsChainOf rows tails) (sym (append_assoc chain (k ∷ []) rest)) (begun.goes (k ∷ rest) (more, next_is_least (rows j) tails (slice_index tails j) k e, on));
  }

  pub begun_ends : (j : ℕ) (chain : List ℕ) → IsBegun rows tails j chain → slice_index tails j ≡ 0 → IsChainOf rows tails chain
  begun_ends j chain begun e = subst (IsChainOf rows tails) (append-nil chain) (begun.goes [] e)

  -- where no edge carries a tail on, it is 0
  pub no_next : (j : ℕ) → j < n → least_in tails (slice_index tails j) (rows j) None ≡ None → slice_index tails j ≡ 0
  no_next j lt e = ⊎_elim
      (λ (more : 0 < slice_index tails j). absurd (
      let is = from.each j (omega arith) lt in
      let (edge, there, q) = Contains-from_map (sum_of tails) (rows j) (greatest (map (sum_of tails) (rows j))) (greatest_held (map (sum_of tails) (rows j)) (some_sum (map (sum_of tails) (rows j)) (omega (arith, is, more)))) in
      (answers (rows j) tails (slice_index tails j) None).none e edge.to (inl (record { by = edge; there = there; leads = refl; whole = is ∙ sym q }))))
      (λ (le : slice_index tails j ≤ 0). omega (arith, le))
      (cases_lt 0 (slice_index tails j))
    where
      some_sum : (ns : List ℕ) → 0 < greatest ns → 0 < length ns
      some_sum [] lt = absurd (omega (arith, lt))
      some_sum (m ∷ ns) lt = omega arith

  pub next_above : (j k : ℕ) → least_in tails (slice_index tails j) (rows j) None ≡ Some k → (j < k) × (k < n)
  next_above j k e =
      let c = (next_is_least (rows j) tails (slice_index tails j) k e).is in
      let (up, low, small) = leads.up j c.by c.there in
      let to = c.leads in
      (omega (arith, up, to), omega (arith, low, to))

-- ---- rows that are read

module _ (rows : ℕ → List Edge) (n : ℕ) (leads : LeadUp rows n) where
  pub row_inside : (i : ℕ) (row : List Edge) (long : ℕ) → row ≡ rows i → long ≡ n → All (λ e. (e.to < long) × (e.cost ≤ latency_limit)) row
  row_inside i row long is same k d lt =
      let (up, low, small) = leads.up i (get_or row k d) (subst (λ (r : List Edge). Contains r (get_or row k d)) is (Contains-get_or row k d lt)) in
      (omega (arith, low, same), small)

  pub tails_small : (p : ℕ) (tails : List ℕ) → TailsFrom rows n p tails → n ≤ instruction_limit → All (λ t. t ≤ latency_limit * instruction_limit) tails
  tails_small p tails from few k d lt = omega (arith, from.small k (omega (arith, lt, from.long)), few, get_or_default tails k d 0 lt)

-- the first place of the greatest begins a chain
pub chain_begins : (rows : ℕ → List Edge) (tails : List ℕ) (most first : ℕ) → most ≡ greatest tails → position (λ t. t == most) tails ≡ Some first → IsBegun rows tails first (first ∷ [])
chain_begins rows tails most first is e =
    let (inside, here, before) = position-Some (λ (t : ℕ). t == most) tails first 0 e in
    record {
      goes = λ rest on. (
        record {
          is = (inside, eqb-true (slice_index tails first) most here ∙ is);
          first = λ j lt at. let no_match = before j lt in let yes = eq-eqb (slice_index tails j) most (at.1 ∙ sym is) in absurd (cc);
        },
        on,
      );
    }

-- where no place has the greatest, there is none
pub no_chain : (tails : List ℕ) (most : ℕ) → most ≡ greatest tails → position (λ t. t == most) tails ≡ None → length tails ≡ 0
no_chain [] most is e = refl
no_chain (t ∷ tails) most is e = absurd (
    let held = greatest_held (t ∷ tails) (omega arith) in
    let k = held.0 in
    let no_match = not_there (λ (u : ℕ). u == most) (t ∷ tails) e k 0 held.1 in
    let yes = eq-eqb (get_or (t ∷ tails) k 0) most (get_or_default (t ∷ tails) k 0 (greatest (t ∷ tails)) held.1 ∙ (held.2 ∙ sym is)) in
    cc)
  where
    not_there : (p : ℕ → Bool) (xs : List ℕ) → position p xs ≡ None → (i d : ℕ) → i < length xs → p (get_or xs i d) ≡ false
    not_there p xs e i d lt = go (nat_lt (position_or_len p xs) (length xs)) refl e
      where
        go : (b : Bool) → nat_lt (position_or_len p xs) (length xs) ≡ b → cond b (Some (position_or_len p xs)) None ≡ None → p (get_or xs i d) ≡ false
        go true h e = absurd (cc)
        go false h e = let all = ltb-false (position_or_len p xs) (length xs) h in fails_before_first p xs i d (omega arith)

module _ (rows : ℕ → List Edge) (n : ℕ) (leads : LeadUp rows n) where
  pub tails_step : (place : ℕ) (tails : List ℕ) (tail : ℕ) (view : List ℕ) (row : List Edge) → view ≡ tails → row ≡ rows (place - 1) → tail ≡ greatest (map (λ e. e.cost + slice_index view e.to) row) → 0 < place → place ≤ n → TailsFrom rows n place tails → TailsFrom rows n (place - 1) (set tails (place - 1) tail)
  tails_step place tails tail view row seen is most some low from =
      let same : place ≡ suc (place - 1) = omega (arith, some) in
      tails_more rows n leads (place - 1) tails tail (omega (arith, some, low)) (subst (λ (p : ℕ). TailsFrom rows n p tails) same from)
      (most ∙ (ap (λ (v : List ℕ). greatest (map (λ (e : Edge). e.cost + slice_index v e.to) row)) seen ∙ ap (λ (r : List Edge). greatest (map (λ (e : Edge). e.cost + slice_index tails e.to) r)) is))

module _ (rows : ℕ → List Edge) (n : ℕ) (leads : LeadUp rows n) (tails : List ℕ) (from : TailsFrom rows n 0 tails) where
  pub ends_at_last : (j tail : ℕ) (row : List Edge) (chain : List ℕ) (answer : Option ℕ) → IsBegun rows tails j chain → j < length tails → tail ≡ slice_index tails j → row ≡ rows j → answer ≡ least_in tails tail row None → answer ≡ None → IsChainOf rows tails chain
  ends_at_last j tail row chain answer begun lt is same found none =
      begun_ends rows n leads tails from j chain begun (no_next rows n leads tails from j (omega (arith, lt, from.long)) (ap (λ (t : ℕ). least_in tails t (rows j) None) (sym is) ∙ (ap (λ (r : List Edge). least_in tails tail r None) (sym same) ∙ (sym found ∙ none))))

  pub goes_on : (j k tail : ℕ) (row : List Edge) (chain more : List ℕ) (answer : Option ℕ) → IsBegun rows tails j chain → tail ≡ slice_index tails j → row ≡ rows j → (tail ≡ 0 → ⊥) → answer ≡ least_in tails tail row None → answer ≡ Some k → more ≡ chain ++ k ∷ [] → (j < k) × (k < length tails) × IsBegun rows tails k more
  goes_on j k tail row chain more answer begun is same some found e longer =
      let at = ap (λ (t : ℕ). least_in tails t (rows j) None) (sym is) ∙ (ap (λ (r : List Edge). least_in tails tail r None) (sym same) ∙ (sym found ∙ e)) in
      let (up, low) = next_above rows n leads tails from j k at in
      (up, omega (arith, low, from.long), subst (IsBegun rows tails k) (sym longer) (begun_more rows n leads tails from j k chain begun (above (cases_lt 0 tail)) at))
    where
      above : (0 < tail) ⊎ (tail ≤ 0) → 0 < slice_index tails j
      above (inl lt) = omega (arith, lt, is)
      above (inr le) = absurd (some (omega (arith, le)))

pub starts_chain : (rows : ℕ → List Edge) (tails : List ℕ) (most first : ℕ) (chain : List ℕ) (answer : Option ℕ) → most ≡ greatest tails → answer ≡ position (λ t. t == most) tails → answer ≡ Some first → chain ≡ first ∷ [] → (first < length tails) × IsBegun rows tails first chain
starts_chain rows tails most first chain answer is found e begins =
    let at = sym found ∙ e in (
      (position-Some (λ (t : ℕ). t == most) tails first 0 at).0,
      subst (IsBegun rows tails first) (sym begins) (chain_begins rows tails most first is at),
    )

pub none_begins : (rows : ℕ → List Edge) (tails : List ℕ) (most : ℕ) (chain : List ℕ) (answer : Option ℕ) → most ≡ greatest tails → answer ≡ position (λ t. t == most) tails → answer ≡ None → chain ≡ [] → IsChainOf rows tails chain
none_begins rows tails most chain answer is found e empty = subst (IsChainOf rows tails) (sym empty) (no_chain tails most is (sym found ∙ e))

pub tails_seen : (rows : ℕ → List Edge) (n : ℕ) (leads : LeadUp rows n) (p : ℕ) (tails view : List ℕ) → view ≡ tails → TailsFrom rows n p tails → n ≤ instruction_limit → All (λ t. t ≤ latency_limit * instruction_limit) view
tails_seen rows n leads p tails view seen from few = subst (All (λ t. t ≤ latency_limit * instruction_limit)) (sym seen) (tails_small rows n leads p tails from few)
