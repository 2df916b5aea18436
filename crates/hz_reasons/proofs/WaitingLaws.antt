-- Cycles in which a class does not fit, and the cycle after the last.
use Rattle.std.proofs.Common.{◌≡◌, ◌≢◌, ℕ, ◌+◌, ◌<◌, ◌≤◌, max, min, ◌⊎◌, inl, inr, ⊎_elim, true, false, is_some, List, [], ◌∷◌, ◌++◌, All, length, get_or, map, replicate, Contains, Option, Some, None, refl, sym, ap, ◌∙◌, subst, arith}
use Rattle.std.specs.Prelude.{◌↔◌, slice_set}
use Rattle.std.proofs.lemmas.Bool.{cases_lt, cases_order}
use Rattle.std.proofs.lemmas.List.{length-replicate, length-set, get_or-set_same, get_or-set_other, get_or_past, get_or_default, get_or_read_under}
use Rattle.std.proofs.lemmas.List.Elements.{Contains-get_or, at_from_Contains, Contains-append_cases}
use Rattle.std.proofs.lemmas.Option.{slice_get_cases}
use Rattle.hz_base_model.specs.Pairs.{Pair, placed}
use Rattle.hz_base_model.proofs.Elements.{Contains-nil, Contains-head, Contains-tail, Contains-cons_cases, Contains-map, Contains-from_map}
use Rattle.hz_description_model.specs.Reservations.Automata.{UnitPlace}
use Rattle.hz_description_model.specs.Reservations.Sets.{Statement, Holds, AllowsIn, Fits}
use Rattle.hz_description_model.proofs.Reservations.FitLaws.{allows_same, holds_moved}
use Rattle.hz_grid.specs.Rows.{HasUnit}
use Rattle.hz_pipeline_model.specs.Accepting.Events.{Event}
use Rattle.hz_pipeline_model.specs.Accepting.Fitting.{IsUnbroken}
use Rattle.hz_pipeline_model.specs.Accepting.Replay.{Pipeline, State, FitsAt, left_by}
use Rattle.hz_pipeline_model.proofs.Accepting.FittingLaws.{allows_unadded, holds_append}
use Rattle.hz_why_model.specs.Waits.{after, MayFitLater, IsLeastWait}
use Rattle.hz_reasons.specs.Calendars.{at, AreUnbroken, IsFirstOf, AreLaterBy, parts_of, parts_at}
use Rattle.hz_reasons.specs.Frontiers.{Grids, Entry, IsFrontier}
use Rattle.hz_reasons.specs.Plans.{choices_at, IsPlanOf, Stands, in_automaton}
use Rattle.hz_reasons.specs.Waiting.{EndBefore, AreWithin, IsSteady, AreSteady, FitsSome, FitsAny, IsNext, AreNextUpTo, GoesOn, FitsThen, FitsNotBefore, IsLeastOf, HasWaited, HaveWaited}
use Rattle.hz_reasons.specs.declared.plan.Choice.{Choice}
use Rattle.hz_reasons.specs.declared.plan.Plan.{Plan}
use Rattle.hz_reasons.proofs.Reading.{read_at}
use Rattle.hz_reasons.proofs.Stepping.{moves_itself, moves_more}
use Rattle.hz_reasons.proofs.Meaning.{fits_means, none_means, first_means, stands_later, unbroken_later, empty_at}

-- ---- where pairs end

-- the pairs of so many grids are before a cycle
abbrev pub EndUpTo : (count cycles : ℕ) → Grids → Type 0
EndUpTo count cycles grids = (k : ℕ) → k < count → (p : Pair ℕ) → Contains (at grids k) p → p.cycle < cycles

pub ends_more : (grids : Grids) (i : ℕ) (grid : List (Pair ℕ)) (long cycles new : ℕ) → grid ≡ get_or grids i grid → i < length grids → new ≡ max long cycles → ((unit cycle : ℕ) → Contains grid (record { unit = unit; cycle = cycle }) → cycle < long)
    → EndUpTo i cycles grids → EndUpTo (i + 1) new grids
ends_more grids i grid long cycles new is low most inside so_far k lower p there = ⊎_elim
    (λ (below : k < i). let before = so_far k below p there in omega arith)
    (λ (over : i ≤ k).
    let e : k ≡ i = omega arith in
    let here = inside p.unit p.cycle (subst (λ (g : List (Pair ℕ)). Contains g p) (ap (at grids) e ∙ sym (read_at grids i grid is low)) there) in
    omega arith)
    (cases_lt k i)

pub ends_all : (grids : Grids) (i cycles : ℕ) → length grids ≤ i → EndUpTo i cycles grids → EndBefore cycles grids
ends_all grids i cycles all each a p there = ⊎_elim
    (λ (low : a < length grids). each a (omega arith) p there)
    (λ (past : length grids ≤ a). absurd (Contains-nil p (subst (λ (g : List (Pair ℕ)). Contains g p) (get_or_past grids a [] past) there)))
    (cases_lt a (length grids))

-- the same of what alternatives take
abbrev pub WithinUpTo : (count cycles : ℕ) → List Choice → Type 0
WithinUpTo count cycles choices = (k : ℕ) → k < count → EndBefore cycles (parts_at choices k)

end_later : (cycles new : ℕ) (grids : Grids) → cycles ≤ new → EndBefore cycles grids → EndBefore new grids
end_later cycles new grids le ends a p there = let low = ends a p there in omega arith

pub within_more : (choices : List Choice) (i : ℕ) (parts : Grids) (long cycles new : ℕ) → parts_at choices i ≡ parts → new ≡ max long cycles → EndBefore long parts → WithinUpTo i cycles choices → WithinUpTo (i + 1) new choices
within_more choices i parts long cycles new is most inside so_far k lower = ⊎_elim
    (λ (below : k < i). end_later cycles new (parts_at choices k) (omega arith) (so_far k below))
    (λ (over : i ≤ k).
    let e : k ≡ i = omega arith in
    end_later long new (parts_at choices k) (omega arith) (subst (EndBefore long) (sym (ap (parts_at choices) e ∙ is)) inside))
    (cases_lt k i)

no_parts : (choices : List Choice) (i : ℕ) → length choices ≤ i → parts_at choices i ≡ []
no_parts choices i past = ⊎_elim
    (λ found. let low = found.1 in absurd (omega arith))
    (λ none. ap parts_of none.1)
    (slice_get_cases choices i).1

pub within_all : (choices : List Choice) (i cycles : ℕ) → length choices ≤ i → WithinUpTo i cycles choices → AreWithin cycles choices
within_all choices i cycles all each k = ⊎_elim
    (λ (low : k < length choices). each k (omega arith))
    (λ (past : length choices ≤ k). subst (EndBefore cycles) (sym (no_parts choices k past)) (λ a p there. absurd (Contains-nil p (subst (λ (g : List (Pair ℕ)). Contains g p) (get_or_past [] a [] (omega arith)) there))))
    (cases_lt k (length choices))

-- and of what is reserved in entries
pub entries_more : (entries : List Grids) (i : ℕ) (grids : Grids) (long cycles new : ℕ) → grids ≡ get_or entries i grids → i < length entries → new ≡ max long cycles → EndBefore long grids
    → ((k : ℕ) → k < i → (d : Grids) → EndBefore cycles (get_or entries k d)) → (k : ℕ) → k < i + 1 → (d : Grids) → EndBefore new (get_or entries k d)
entries_more entries i grids long cycles new is low most inside so_far k lower d = ⊎_elim
    (λ (below : k < i). end_later cycles new (get_or entries k d) (omega arith) (so_far k below d))
    (λ (over : i ≤ k).
    let e : k ≡ i = omega arith in
    end_later long new (get_or entries k d) (omega arith) (subst (EndBefore long) (get_or_read_under entries i (length entries) grids d is low refl ∙ sym (ap (λ (n : ℕ). get_or entries n d) e)) inside))
    (cases_lt k i)

-- ---- where a cycle changes nothing

pub steady_more : (grid : List (Pair ℕ)) (n one other : ℕ) → ((unit : ℕ) → HasUnit one unit ↔ Contains grid (record { unit = unit; cycle = n })) → ((unit : ℕ) → HasUnit other unit ↔ Contains grid (record { unit = unit; cycle = n + 1 })) → one ≡ other
    → IsSteady n grid → IsSteady (n + 1) grid
steady_more grid n one other here next same so_far unit c low = ⊎_elim
    (λ (below : c < n). so_far unit c below)
    (λ (over : n ≤ c).
    let e : c ≡ n = omega arith in
    subst (λ (k : ℕ). Contains grid (record { unit = unit; cycle = k }) ↔ Contains grid (record { unit = unit; cycle = k + 1 })) (sym e) (
      λ h. (next unit).0 (subst (λ (row : ℕ). HasUnit row unit) same ((here unit).1 h)),
      λ h. (here unit).0 (subst (λ (row : ℕ). HasUnit row unit) (sym same) ((next unit).1 h)),
    ))
    (cases_lt c n)

pub steady_all : (grid : List (Pair ℕ)) (n long cycles : ℕ) → ((unit cycle : ℕ) → Contains grid (record { unit = unit; cycle = cycle }) → cycle < long) → min long cycles ≤ n → IsSteady n grid → IsSteady cycles grid
steady_all grid n long cycles above all so_far unit c low = ⊎_elim
    (λ (below : c < n). so_far unit c below)
    (λ (over : n ≤ c). (
      λ h. let under = above unit c h in absurd (omega arith),
      λ h. let under = above unit (c + 1) h in absurd (omega arith),
    ))
    (cases_lt c n)

module _ (statements : List (Statement ℕ)) (source other pairs : List (Pair ℕ)) (unbroken : IsUnbroken statements other)
    (alike : (p : Pair ℕ) → Contains pairs p → (u : ℕ) → Holds source p.cycle u ↔ Holds other p.cycle u) where
  added_here : (cycle u : ℕ) → Holds (placed 0 pairs) cycle u → Holds pairs cycle u
  added_here cycle u h =
      let time : 0 + cycle ≡ cycle = omega arith in
      (holds_moved 0 cycle pairs u).1 (subst (λ (c : ℕ). Holds (placed 0 pairs) c u) (sym time) h)

  equal_or_not : (a b : ℕ) → (a ≡ b) ⊎ (a ≡ b → ⊥)
  equal_or_not a b = ⊎_elim
      (λ (e : a ≡ b). inl e)
      (λ c. inr (λ e. ⊎_elim (λ (low : a < b). absurd (omega arith)) (λ (low : b < a). absurd (omega arith)) c))
      (cases_order a b)

  -- a pair is added in the cycle, or none is
  in_cycle : (cycle : ℕ) (ps : List (Pair ℕ)) → ((p : Pair ℕ) × Contains ps p × (p.cycle ≡ cycle)) ⊎ ((p : Pair ℕ) → Contains ps p → p.cycle ≡ cycle → ⊥)
  in_cycle cycle [] = inr (λ p is e. Contains-nil p is)
  in_cycle cycle (q ∷ ps) = ⊎_elim
      (λ (e : q.cycle ≡ cycle). inl (q, Contains-head q ps, e))
      (λ (apart : q.cycle ≡ cycle → ⊥). ⊎_elim
      (λ found. inl (found.0, Contains-tail q found.0 ps found.1, found.2))
      (λ none. inr (λ p is e. ⊎_elim
      (λ (same : q ≡ p). apart (ap (λ (r : Pair ℕ). r.cycle) same ∙ e))
      (λ there. none p there e)
      (Contains-cons_cases q p ps is)))
      (in_cycle cycle ps))
      (equal_or_not q.cycle cycle)

  -- a statement looks at no cycle but those in which something is added
  allowed_alike : Fits statements source pairs 0 → (s : Statement ℕ) → Contains statements s → (cycle : ℕ) → AllowsIn s (Holds other cycle) (Holds (placed 0 pairs) cycle) (Holds (other ++ placed 0 pairs) cycle)
  allowed_alike h s is cycle = ⊎_elim
      (λ found.
      let here = subst (λ (c : ℕ). (u : ℕ) → Holds source c u ↔ Holds other c u) found.2 (alike found.0 found.1) in
      allows_same s _ _ _ _ _ _ here (λ u. (λ x. x, λ x. x)) (holds_append source (placed 0 pairs) other (placed 0 pairs) cycle cycle here (λ u. (λ x. x, λ x. x))) (h.allowed s is cycle))
      (λ none.
      allows_unadded s _ _ _ (λ u x. none _ (added_here cycle u x) refl)
      (λ u x. ⊎_elim (λ l. l) (λ r. absurd (none _ (added_here cycle u r) refl)) (Contains-append_cases other (placed 0 pairs) _ x))
      (λ e. unbroken.excluded s is e cycle))
      (in_cycle cycle pairs)

  pub fits_alike : Fits statements source pairs 0 → Fits statements other pairs 0
  fits_alike h = record {
    apart = λ p x y.
        let here = added_here p.cycle p.unit y in
        h.apart p ((alike _ here p.unit).1 x) y;
    allowed = allowed_alike h;
  }

-- so where nothing changes that the alternatives may meet, none fits a cycle later
module _ (rules : List (List (Statement ℕ))) (choices : List Choice) (seen : ℕ) (old new : Grids) where
  pub none_next : AreWithin seen choices → length old ≡ length rules → AreUnbroken rules old → AreLaterBy 1 old new → AreSteady seen old → IsFirstOf rules old choices None → IsFirstOf rules new choices None
  none_next within each unbroken moves steady none i lt fits = none i lt (λ a low.
      let lower : a < length old = omega arith in
      fits_alike (at rules a) (at new a) (at old a) (at (parts_at choices i) a) (unbroken a low)
      (λ p is u.
      let here = steady a lower u p.cycle (within i a p is) in
      let moved = moves.moved a lower (record { unit = u; cycle = p.cycle }) in
      let time : 1 + p.cycle ≡ p.cycle + 1 = omega arith in
      let at_time = λ (c : ℕ). Contains (at old a) (record { unit = u; cycle = c }) in
      (λ h. here.1 (subst at_time time (moved.0 h)), λ h. moved.1 (subst at_time (sym time) (here.0 h))))
      (fits a low))

-- ---- some alternative fits

module _ (rules : List (List (Statement ℕ))) (choices : List Choice) where
  pub some_found : (grids : Grids) (found : Option ℕ) → IsFirstOf rules grids choices found → FitsSome rules choices grids (is_some found)
  some_found grids None h = h
  some_found grids (Some i) h = (i, h)

  pub next_start : (entries : List Grids) → AreNextUpTo rules choices 0 entries entries
  next_start entries = record { each = refl; done = λ i low. absurd (omega arith); left = λ i high. refl }

  -- an entry more is a cycle later
  pub next_more : (i : ℕ) (old new : List Grids) (item grids : Grids) → AreNextUpTo rules choices i old new → i < length new → item ≡ get_or new i item → IsNext rules choices item grids → AreNextUpTo rules choices (i + 1) old (slice_set new i grids)
  next_more i old new item grids h lt is next = record {
    each = length-set new i grids ∙ h.each;
    done = λ k low. ⊎_elim (below k) (λ (over : i ≤ k). let e : k ≡ i = omega arith in subst (λ (n : ℕ). IsNext rules choices (at old n) (at (slice_set new i grids) n)) (sym e) here) (cases_lt k i);
    left = λ k high. let ne : k ≢ i = omega arith in get_or-set_other new i k grids _ ne ∙ h.left k (omega arith);
  }
    where
      below : (k : ℕ) → k < i → IsNext rules choices (at old k) (at (slice_set new i grids) k)
      below k low =
          let ne : k ≢ i = omega arith in
          subst (λ (g : Grids). IsNext rules choices (at old k) g) (sym (get_or-set_other new i k grids _ ne)) (h.done k low)

      here : IsNext rules choices (at old i) (at (slice_set new i grids) i)
      here =
          let there : item ≡ at old i = read_at new i item is lt ∙ h.left i (omega arith) in
          subst (λ (g : Grids). IsNext rules choices (at old i) g) (sym (get_or-set_same new i grids _ lt)) (subst (λ (g : Grids). IsNext rules choices g grids) there next)

  -- the entry that is read is as it was
  pub next_read : (i : ℕ) (old new : List Grids) (item : Grids) → AreNextUpTo rules choices i old new → i < length new → item ≡ get_or new i item → item ≡ at old i
  next_read i old new item h lt is = read_at new i item is lt ∙ h.left i (omega arith)

  pub next_fits : (i : ℕ) (old new : List Grids) (item grids : Grids) → AreNextUpTo rules choices i old new → i < length new → item ≡ get_or new i item → AreLaterBy 1 item grids → FitsSome rules choices grids true → GoesOn rules choices old (slice_set new i grids) true
  next_fits i old new item grids h lt is moves fits =
      let each = h.each in (
        at old i,
        grids,
        Contains-get_or old i [] (omega arith),
        subst (λ (g : Grids). AreLaterBy 1 g grids) (next_read i old new item h lt is) moves,
        fits,
      )

  pub next_all : (i : ℕ) (old new : List Grids) → AreNextUpTo rules choices i old new → length new ≤ i → GoesOn rules choices old new false
  next_all i old new h all =
      let each = h.each in
      record { each = h.each; done = λ k low. h.done k (omega arith); left = λ k high. past k high }
    where
      past : (k : ℕ) → length old ≤ k → at new k ≡ at old k
      past k high = let each = h.each in get_or_past new k [] (omega arith) ∙ sym (get_or_past old k [] high)

-- ---- cycles in which nothing fits

-- an item is the same at each default
read_other : (entries : List Grids) (i : ℕ) (d : Grids) → i < length entries → at entries i ≡ get_or entries i d
read_other entries i d low = get_or_default entries i [] d low

module _ (plan : Plan) (k : ℕ) where
  module _ (old : Grids) (each : length old ≡ length plan.rules.items) where
    none_here : (n : ℕ) (middle : Grids) → AreLaterBy n old middle → IsFirstOf plan.rules.items middle (choices_at plan k) None → (m : Pipeline UnitPlace) (s : State UnitPlace) → IsPlanOf m plan → Stands m old s → (i : ℕ) → FitsAt m (after n s) k i → ⊥
    none_here n middle moves none m s is stands =
        none_means m plan is middle (moves.each ∙ each) (after n s) (stands_later m n old middle s moves stands) k none

    -- neither in the cycles before nor now
    none_yet : (n : ℕ) (middle : Grids) → HasWaited plan k n old middle → FitsNotBefore plan k old (n + 1)
    none_yet n middle waited m s is stands j low fits = ⊎_elim
        (λ (below : j < n). waited.before m s is stands j below fits)
        (λ (over : n ≤ j). let e : j ≡ n = omega arith in none_here n middle waited.moves waited.none m s is stands fits.0 (subst (λ (i : ℕ). FitsAt m (after i s) k fits.0) e fits.1))
        (cases_lt j n)

    waited_next : (n : ℕ) (middle new : Grids) → HasWaited plan k n old middle → IsNext plan.rules.items (choices_at plan k) middle new → HasWaited plan k (n + 1) old new
    waited_next n middle new waited next = record {
      moves = moves_more n old middle new waited.moves next.moves;
      unbroken = unbroken_later plan.rules.items 1 middle new (waited.moves.each ∙ each) next.moves waited.unbroken;
      none = next.none;
      before = none_yet n middle waited;
    }

    fits_then : (n i : ℕ) (new : Grids) → AreLaterBy n old new → IsFirstOf plan.rules.items new (choices_at plan k) (Some i) → FitsThen plan k old n
    fits_then n i new moves first m s is stands =
        let may = first_means m plan is new (moves.each ∙ each) (after n s) (stands_later m n old new s moves stands) k i first in
        (i, may.fits)

    -- what is reserved is past after its last cycle
    nothing_left : (last : ℕ) → EndBefore last old → (m : Pipeline UnitPlace) (s : State UnitPlace) → Stands m old s → (n : ℕ) → last ≤ n → Stands m (replicate (length old) []) (after n s)
    nothing_left last ends m s stands n past = record {
      future = λ a unit cycle low.
          let count = length-replicate {A = List (Pair ℕ)} (length old) [] in
          let lower : a < length old = omega arith in (
            λ h. absurd (Contains-nil _ (subst (λ (g : List (Pair ℕ)). Contains g (record { unit = unit; cycle = cycle })) (empty_at (length old) a) h)),
            λ h.
                let time : n + s.now + cycle ≡ s.now + (n + cycle) = omega arith in
                let there = (stands.future a unit (n + cycle) lower).1 (subst (λ (c : ℕ). Contains s.reserved (in_automaton a unit c)) time h) in
                let below = ends a _ there in
                absurd (omega arith),
          );
      unbroken = stands.unbroken;
    }

    waited_all : (last : ℕ) (middle : Grids) → EndBefore last old → HasWaited plan k last old middle → (n : ℕ) → FitsNotBefore plan k old n
    waited_all last middle ends waited n m s is stands j low fits = ⊎_elim
        (λ (early : j < last + 1). none_yet last middle waited m s is stands j early fits)
        (λ (late : last + 1 ≤ j).
        let empty = replicate (length old) [] in
        let count : length empty ≡ length plan.rules.items = length-replicate (length old) [] ∙ each in
        let i = fits.0 in
        let lt = fits.1.0 in
        let numbers = is.numbers k in
        let there = (fits_means m plan is empty count (after j s) (nothing_left last ends m s stands j (omega arith)) k i (omega arith)).1 fits.1 in
        let here = (fits_means m plan is empty count (after last s) (nothing_left last ends m s stands last (omega arith)) k i (omega arith)).0 there in
        none_yet last middle waited m s is stands last (omega arith) (i, here))
        (cases_lt j (last + 1))

  -- ---- of all entries

  module _ (old : List Grids) (each : All (λ g. length g ≡ length plan.rules.items) old) where
    -- what holds of the entry at each place holds of each entry
    of_each : (P : Grids → Type 0) → ((i : ℕ) → i < length old → P (at old i)) → (grids : Grids) → Contains old grids → P grids
    of_each P all grids there = let found = at_from_Contains old grids there in subst P (found.2 []) (all found.0 found.1)

    pub waited_start : All (AreUnbroken plan.rules.items) old → All (λ g. FitsSome plan.rules.items (choices_at plan k) g false) old → HaveWaited plan k 0 old old
    waited_start unbroken none = record {
      each = refl;
      waited = λ i low. record {
        moves = moves_itself (at old i);
        unbroken = unbroken i [] low;
        none = none i [] low;
        before = λ m s is stands j under. absurd (omega arith);
      };
    }

    pub waited_more : (n : ℕ) (middle new : List Grids) → HaveWaited plan k n old middle → GoesOn plan.rules.items (choices_at plan k) middle new false → HaveWaited plan k (n + 1) old new
    waited_more n middle new waited next =
        let long = waited.each in
        record {
          each = next.each ∙ waited.each;
          waited = λ i low. waited_next (at old i) (each i [] low) n (at middle i) (at new i) (waited.waited i low) (next.done i (omega arith));
        }

    pub least_now : FitsAny plan.rules.items (choices_at plan k) old true → IsLeastOf plan k old (Some 0)
    least_now (grids, there, (i, first)) = (
      (grids, there, fits_then grids (of_each (λ g. length g ≡ length plan.rules.items) (λ j low. each j [] low) grids there) 0 i grids (moves_itself grids) first),
      λ g is m s by stands j low. absurd (omega arith),
    )

    pub least_found : (n : ℕ) (middle new : List Grids) → HaveWaited plan k n old middle → GoesOn plan.rules.items (choices_at plan k) middle new true → IsLeastOf plan k old (Some (n + 1))
    least_found n middle new waited (grids, next, there, moves, (i, first)) =
        let long = waited.each in
        let found = at_from_Contains middle grids there in
        let p = found.0 in
        let lt = found.1 in
        let low : p < length old = omega arith in
        let before = waited.waited p low in
        let step = subst (λ (g : Grids). AreLaterBy 1 g next) (sym (found.2 [])) moves in (
          (at old p, Contains-get_or old p [] low, fits_then (at old p) (each p [] low) (n + 1) i next (moves_more n (at old p) (at middle p) next before.moves step) first),
          of_each (λ g. FitsNotBefore plan k g (n + 1)) (λ j under. none_yet (at old j) (each j [] under) n (at middle j) (waited.waited j under)),
        )

    pub least_none : (last : ℕ) (middle : List Grids) → All (EndBefore last) old → HaveWaited plan k last old middle → IsLeastOf plan k old None
    least_none last middle ends waited = of_each (λ g. (n : ℕ) → FitsNotBefore plan k g n)
        (λ i low. waited_all (at old i) (each i [] low) last (at middle i) (ends i [] low) (waited.waited i low))

    -- what is asked of the entries on the way
    pub waited_each : (n : ℕ) (middle : List Grids) → HaveWaited plan k n old middle → All (λ g. length g ≡ length plan.rules.items) middle
    waited_each n middle waited i d low =
        let long = waited.each in
        let under : i < length old = omega arith in
        subst (λ (g : Grids). length g ≡ length plan.rules.items) (read_other middle i d low) ((waited.waited i under).moves.each ∙ each i [] under)

    pub waited_unbroken : (n : ℕ) (middle : List Grids) → HaveWaited plan k n old middle → All (AreUnbroken plan.rules.items) middle
    waited_unbroken n middle waited i d low =
        let long = waited.each in
        subst (AreUnbroken plan.rules.items) (read_other middle i d low) (waited.waited i (omega arith)).unbroken

    pub waited_none : (n : ℕ) (middle : List Grids) → HaveWaited plan k n old middle → All (λ g. FitsSome plan.rules.items (choices_at plan k) g false) middle
    waited_none n middle waited i d low =
        let long = waited.each in
        subst (λ (g : Grids). IsFirstOf plan.rules.items g (choices_at plan k) None) (read_other middle i d low) (waited.waited i (omega arith)).none

-- ---- of the entries that some choices leave

module _ (m : Pipeline UnitPlace) (t : List Event) (plan : Plan) (is : IsPlanOf m plan) (k : ℕ) (entries : List Entry) (frontier : IsFrontier m t entries) where
  abbrev grids_of : Entry → Grids
  grids_of e = e.grids

  not_before : (n : ℕ) → ((g : Grids) → Contains (map grids_of entries) g → FitsNotBefore plan k g n) → (j : ℕ) → j < n → MayFitLater m t k j → ⊥
  not_before n none j low (others, by, fits) =
      let found = frontier.whole others by in
      none found.0.grids (Contains-map grids_of entries found.0 found.1) m (left_by m t others) is found.2.stands j low fits

  pub least_means : (wait : Option ℕ) → IsLeastOf plan k (map grids_of entries) wait → IsLeastWait m t k wait
  least_means None least = λ n. not_before (n + 1) (λ g there. least g there (n + 1)) n (omega arith)
  least_means (Some n) ((g, there, fits), none) =
      let found = Contains-from_map grids_of entries g there in
      let chosen = frontier.chosen found.0 found.1 in (
        (found.0.choices, chosen.choice, subst (λ (x : Grids). FitsThen plan k x n) (sym found.2) fits m (left_by m t found.0.choices) is chosen.stands),
        not_before n none,
      )
