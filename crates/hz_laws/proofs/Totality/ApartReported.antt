-- Whether states of a table are apart is reported: by the pairs of states to which columns lead from both.
use Rattle.std.proofs.Common.{◌≡◌, ◌≢◌, ℕ, zero, suc, ◌+◌, ◌<◌, ◌≤◌, inl, inr, ⊎_elim, List, [], ◌∷◌, ◌++◌, length, map, get_or, Option, Some, None, Contains, refl, sym, ap, ◌∙◌, subst, arith}
use Rattle.std.specs.Prelude.{is_some}
use Rattle.std.specs.List.{range_with_len, sum_by}
use Rattle.std.proofs.lemmas.Bool.{cases_lt}
use Rattle.std.proofs.lemmas.List.{get_or_past, get_or_default}
use Rattle.std.proofs.lemmas.List.Elements.{Contains-append_left, Contains-append_right, Contains-get_or}
use Rattle.std.proofs.lemmas.Option.{none-some}
use Rattle.hz_base_model.proofs.Elements.{Contains-map, Contains-range}
use Rattle.hz_pipeline_model.specs.Tables.Tables.{Table, row_of, entry, walk, IsTable}
use Rattle.hz_pipeline_model.specs.Tables.Apart.{Apart}
use Rattle.hz_pipeline_model.proofs.Tables.TableLaws.{walk-append}
use Rattle.hz_pipeline_model.proofs.Reaching.CountLaws.{weighs, sum_by_ones}
use Rattle.hz_pipeline_model.proofs.Decidable.DecidedLaws.{IsDecided, same_reported}
use Rattle.hz_laws.proofs.Leaving.ExploreLaws.{some_is_reported}
use Rattle.hz_laws.proofs.Totality.NumberingLaws.{Numbered, Finished, finished, all_led, all_different}

-- different items of a list are no more than all of it
pub no_more : {X : Type 0} (xs ys : List X) → ((i j : ℕ) (d : X) → i < j → j < length xs → get_or xs i d ≡ get_or xs j d → ⊥) → ((x : X) → Contains xs x → Contains ys x) → length xs ≤ length ys
no_more xs ys different within =
    let less : sum_by (λ _. 1) xs ≤ sum_by (λ _. 1) ys = weighs ◌≡◌ (λ _. 1) (λ x x' y a b. a ∙ sym b) xs ys different (λ x is. (x, within x is, refl)) (λ x y is same. omega arith) in
    omega (arith, less, sum_by_ones xs, sum_by_ones ys)

-- all pairs of numbers below two
all_pairs : (n m : ℕ) → (ps : List (ℕ × ℕ)) × ((a b : ℕ) → a < n → b < m → Contains ps (a, b))
all_pairs zero m = ([], λ a b low below. absurd (omega (arith, low)))
all_pairs (suc n) m =
    let (ps, each) = all_pairs n m in
    let row = map (λ (b : ℕ). let p : ℕ × ℕ = (n, b) in p) (range_with_len 0 m) in (
      ps ++ row,
      λ a b low below. ⊎_elim
          (λ (less : a < n). Contains-append_left ps row (a, b) (each a b less below))
          (λ (past : n ≤ a).
          let same : n ≡ a = omega (arith, low, past) in
          subst (λ k. Contains (ps ++ row) (k, b)) same (Contains-append_right ps row (n, b) (Contains-map (λ (b : ℕ). let p : ℕ × ℕ = (n, b) in p) (range_with_len 0 m) b (Contains-range m b below))))
          (cases_lt a n),
    )

pair_reported : (p q : ℕ × ℕ) → IsDecided (p ≡ q)
pair_reported p q = go (same_reported p.0 q.0) (same_reported p.1 q.1)
  where
    go : IsDecided (p.0 ≡ q.0) → IsDecided (p.1 ≡ q.1) → IsDecided (p ≡ q)
    go (inl e) (inl f) = inl (λ i. (e i, f i))
    go (inl e) (inr none) = inr (λ same. none (ap (λ (r : ℕ × ℕ). r.1) same))
    go (inr none) f = inr (λ same. none (ap (λ (r : ℕ × ℕ). r.0) same))

differ_reported : (o p : Option ℕ) → IsDecided (is_some o ≢ is_some p)
differ_reported None None = inr (λ differ. differ refl)
differ_reported None (Some b) = inl (λ e. cc)
differ_reported (Some a) None = inl (λ e. cc)
differ_reported (Some a) (Some b) = inr (λ differ. differ refl)

abbrev both : Option ℕ → Option ℕ → Option (ℕ × ℕ)
both None p = None
both (Some a) None = None
both (Some a) (Some b) = Some (a, b)

pub ended : (table : Table) (o : Option ℕ) → walk table o [] ≡ o
ended table None = refl
ended table (Some s) = refl

module _ (table : Table) (columns : ℕ) (is : IsTable table columns) where
  -- past the advance no entry is there
  pub none_past : (c s : ℕ) → columns < c → entry table s c ≡ None
  none_past c s high = ⊎_elim
      (λ (low : s < length table). let wide = is.width s low in get_or_past (row_of table s) c None (omega (arith, high, wide)))
      (λ (out : length table ≤ s). ap (λ (row : List (Option ℕ)). get_or row c None) (get_or_past table s [] out) ∙ get_or_past [] c None (omega arith))
      (cases_lt s (length table))

  abbrev next_pair : ℕ → ℕ × ℕ → Option (ℕ × ℕ)
  next_pair c p = both (entry table p.0 c) (entry table p.1 c)

  abbrev Differ : ℕ × ℕ → ℕ → Type 0
  Differ p c = is_some (entry table p.0 c) ≢ is_some (entry table p.1 c)

  module _ (one other : ℕ) where
    abbrev bound : ℕ
    bound = length table + (one + other + 1)

    abbrev Pairs : ℕ → ℕ → Type 0
    Pairs row column = Numbered ◌≡◌ columns next_pair (one, other) row column

    -- columns lead from the two to a pair
    abbrev IsFrom : ℕ × ℕ → Type 0
    IsFrom p = (w : List ℕ) × (walk table (Some one) w ≡ Some p.0) × (walk table (Some other) w ≡ Some p.1)

    abbrev IsLow : ℕ × ℕ → Type 0
    IsLow p = (p.0 < bound) × (p.1 < bound)

    both_is : (o o' : Option ℕ) (q : ℕ × ℕ) → both o o' ≡ Some q → (o ≡ Some q.0) × (o' ≡ Some q.1)
    both_is None p q e = absurd (none-some q e)
    both_is (Some a) None q e = absurd (none-some q e)
    both_is (Some a) (Some b) q e = (ap (λ (x : Option (ℕ × ℕ)). first x) e, ap (λ (x : Option (ℕ × ℕ)). second x) e)
      where
        first : Option (ℕ × ℕ) → Option ℕ
        first None = None
        first (Some r) = Some r.0

        second : Option (ℕ × ℕ) → Option ℕ
        second None = None
        second (Some r) = Some r.1

    from_more : (p q : ℕ × ℕ) (c : ℕ) → c ≤ columns → IsFrom p → next_pair c p ≡ Some q → IsFrom q
    from_more p q c few (w, e, f) led =
        let (to, also) = both_is (entry table p.0 c) (entry table p.1 c) q led in
        (w ++ c ∷ [], step one p.0 q.0 w c e to, step other p.1 q.1 w c f also)
      where
        step : (s a b : ℕ) (w : List ℕ) (c : ℕ) → walk table (Some s) w ≡ Some a → entry table a c ≡ Some b → walk table (Some s) (w ++ c ∷ []) ≡ Some b
        step s a b w c e f = walk-append table (Some s) w (c ∷ []) ∙ (ap (λ from. walk table from (c ∷ [])) e ∙ (ended table (entry table a c) ∙ f))

    low_more : (p q : ℕ × ℕ) (c : ℕ) → c ≤ columns → IsLow p → next_pair c p ≡ Some q → IsLow q
    low_more p q c few low led =
        let (to, also) = both_is (entry table p.0 c) (entry table p.1 c) q led in
        let there = is.targets p.0 c q.0 to in
        let there' = is.targets p.1 c q.1 also in
        (omega (arith, there), omega (arith, there'))

    few_pairs : (row : ℕ) (s : Pairs row 0) → length s.items ≤ length (all_pairs bound bound).0
    few_pairs row s =
        no_more s.items (all_pairs bound bound).0 (all_different ◌≡◌ columns next_pair (one, other) row 0 s)
        (λ p (k, low, at).
        let here : IsLow (get_or s.items k (one, other)) = all_led ◌≡◌ columns next_pair (one, other) IsLow (omega arith, omega arith) low_more row 0 s (suc k) k (omega arith) low in
        subst (Contains (all_pairs bound bound).0) (get_or_default s.items k (one, other) p low ∙ at) ((all_pairs bound bound).1 (get_or s.items k (one, other)).0 (get_or s.items k (one, other)).1 here.0 here.1))

    all_read : Finished ◌≡◌ columns next_pair (one, other) pair_reported (λ x. refl) (λ x y e. sym e)
    all_read = finished ◌≡◌ columns next_pair (one, other) pair_reported (λ x. refl) (λ x y e. sym e) (length (all_pairs bound bound).0) few_pairs

    module _ (n : ℕ) (s : Pairs n 0) (all : length s.items ≡ n) where
      abbrev pair : ℕ → ℕ × ℕ
      pair k = get_or s.items k (one, other)

      apart_by : (p : ℕ × ℕ) → Contains s.items p → (c : ℕ) → Differ p c → Apart table one other
      apart_by p (k, low, at) c differ =
          let from : IsFrom p = subst IsFrom (get_or_default s.items k (one, other) p low ∙ at) (all_led ◌≡◌ columns next_pair (one, other) IsFrom ([], refl, refl) from_more n 0 s (suc k) k (omega arith) low) in
          record {
            word = from.0 ++ c ∷ [];
            once = λ e. differ (sym (ends one p.0 from.0 from.1) ∙ (e ∙ ends other p.1 from.0 from.2));
          }
        where
          ends : (s a : ℕ) (w : List ℕ) → walk table (Some s) w ≡ Some a → is_some (walk table (Some s) (w ++ c ∷ [])) ≡ is_some (entry table a c)
          ends s a w e = ap is_some (walk-append table (Some s) w (c ∷ []) ∙ (ap (λ from. walk table from (c ∷ [])) e ∙ ended table (entry table a c)))

      -- where no pair differs, both walk the same
      walk_alike : ((p : ℕ × ℕ) → Contains s.items p → (c : ℕ) → c ≤ columns → Differ p c → ⊥) → (w : List ℕ) (k : ℕ) → k < n → is_some (walk table (Some (pair k).0) w) ≡ is_some (walk table (Some (pair k).1) w)
      walk_alike none [] k low = refl
      walk_alike none (c ∷ w) k low = ⊎_elim
          (λ (few : c < columns + 1). by_entries (λ j less. walk_alike none w j less) few (entry table (pair k).0 c) (entry table (pair k).1 c) refl refl)
          (λ (many : columns + 1 ≤ c).
          ap (λ o. is_some (walk table o w)) (none_past c (pair k).0 (omega (arith, many)))
          ∙ ap (λ o. is_some (walk table o w)) (sym (none_past c (pair k).1 (omega (arith, many)))))
          (cases_lt c (columns + 1))
        where
          here : Contains s.items (pair k)
          here = Contains-get_or s.items k (one, other) (omega (arith, low, all))

          by_entries : ((j : ℕ) → j < n → is_some (walk table (Some (pair j).0) w) ≡ is_some (walk table (Some (pair j).1) w)) → c < columns + 1 → (o o' : Option ℕ) → entry table (pair k).0 c ≡ o → entry table (pair k).1 c ≡ o' → is_some (walk table o w) ≡ is_some (walk table o' w)
          by_entries rest few None None e f = refl
          by_entries rest few None (Some b) e f = absurd (none (pair k) here c (omega (arith, few)) (λ same. let apart : is_some (let o : Option ℕ = None in o) ≡ is_some (Some b) = ap is_some (sym e) ∙ (same ∙ ap is_some f) in cc))
          by_entries rest few (Some a) None e f = absurd (none (pair k) here c (omega (arith, few)) (λ same. let apart : is_some (Some a) ≡ is_some (let o : Option ℕ = None in o) = ap is_some (sym e) ∙ (same ∙ ap is_some f) in cc))
          by_entries rest few (Some a) (Some b) e f =
              let led : next_pair c (pair k) ≡ Some (a, b) = ap (λ o. both o (entry table (pair k).1 c)) e ∙ ap (both (Some a)) f in
              let (j, less, same) = s.known k c (omega (arith, few)) (omega (arith, low, all)) (inl low) (a, b) led in
              subst (λ (p : ℕ × ℕ). is_some (walk table (Some p.0) w) ≡ is_some (walk table (Some p.1) w)) (sym same) (rest j (omega (arith, less, all)))

      decided : IsDecided (Apart table one other)
      decided = ⊎_elim
          (λ (found : (p : ℕ × ℕ) × Contains s.items p × ((c : ℕ) × Contains (range_with_len 0 (suc columns)) c × Differ p c)).
          inl (apart_by found.0 found.1 (found.2).0 (found.2).2))
          (λ none. inr (λ apart.
          let some = s.some in
          let low : 0 < n = omega (arith, some, all) in
          apart.once (subst (λ (p : ℕ × ℕ). is_some (walk table (Some p.0) apart.word) ≡ is_some (walk table (Some p.1) apart.word)) s.first
          (walk_alike (λ p there c few differ. none (p, there, (c, Contains-range (suc columns) c (omega (arith, few)), differ))) apart.word 0 low))))
          (some_is_reported (λ p. (c : ℕ) × Contains (range_with_len 0 (suc columns)) c × Differ p c) (λ p. some_is_reported (Differ p) (λ c. differ_reported (entry table p.0 c) (entry table p.1 c)) (range_with_len 0 (suc columns))) s.items)

    pub apart_reported : IsDecided (Apart table one other)
    apart_reported = let (n, s, all) = all_read in decided n s all
