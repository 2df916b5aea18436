-- A pipeline whose classes factor is its automata side by side.
use Rattle.std.proofs.Common.{◌≡◌, ℕ, ◌<◌, ◌≤◌, ◌⊎◌, ⊎_elim, List, [], length, map, Contains, get_or, Option, Some, None, refl, sym, ap, ◌∙◌, subst, arith, slice_get}
use Rattle.std.specs.Option.{option_map}
use Rattle.std.proofs.lemmas.Bool.{cases_lt, cases_eq, cases_order}
use Rattle.std.proofs.lemmas.Option.{slice_get-map, slice_get-get_or, get_or_from_slice_get}
use Rattle.std.proofs.lemmas.List.{length-map}
use Rattle.hz_base_model.specs.Pairs.{Pair, SamePairs, later, grid_eq}
use Rattle.hz_description_model.specs.Reservations.Alternatives.{Alternative}
use Rattle.hz_description_model.specs.Reservations.Automata.{UnitPlace, cut, list_in}
use Rattle.hz_description_model.specs.Reservations.Inside.{IsStatementOf}
use Rattle.hz_description_model.specs.Reservations.Sets.{Statement, Fits}
use Rattle.hz_pipeline_model.specs.Accepting.Replay.{Class, Pipeline, State, FitsAt, MayTake, alternatives_at, of_class, chosen, pairs_at, first_fit}
use Rattle.hz_pipeline_model.specs.Accepting.Restricted.{of_pairs, class_in, restricted}
use Rattle.hz_base_model.proofs.Elements.{Contains-nil, Contains-from_map}
use Rattle.hz_description_model.proofs.Reservations.ListInLaws.{Contains-list_in, apart_in_list}
use Rattle.hz_description_model.proofs.Reservations.SamePairsLaws.{fits_same}
use Rattle.hz_pipeline_model.specs.Pipelines.Factored.{state_in}
use Rattle.hz_pipeline_model.proofs.Pipelines.Choices.{Alt, At, there, within, one_item, Alike, Joined, Factors}
use Rattle.hz_pipeline_model.proofs.Pipelines.FirstItems.{FirstWith, first_with}
use Rattle.hz_pipeline_model.proofs.Accepting.InsideFits.{seen_cut, alike_cut, restricted_statements, fits_inside, allowed_outside, apart_outside}
use Rattle.hz_base_model.proofs.PairOrder.{grid_eq-Decides}

-- what is found for each number below a count, as a function of all numbers
pub settle : {X : Type 0} (P : ℕ → X → Type 0) (count : ℕ) (otherwise : X) → ((a : ℕ) → a < count → (x : X) × P a x) → (a : ℕ) → (x : X) × (a < count → P a x)
settle P count otherwise each a = ⊎_elim
    (λ (lt : a < count). let found = each a lt in (found.0, λ _. found.1))
    (λ (ge : count ≤ a). (otherwise, λ lt. absurd (omega arith)))
    (cases_lt a count)

-- the item of a number
at_number : {A : Type 0} (xs : List A) (n : ℕ) (d : A) → n < length xs → (x : At xs) × (x.number ≡ n)
at_number xs n d lt = (record { number = n; item = get_or xs n d; is = slice_get-get_or xs n d lt }, refl)

pub at_contained : {A : Type 0} (xs : List A) (x : A) → Contains xs x → (y : At xs) × (y.item ≡ x)
at_contained xs x h = (record { number = h.0; item = get_or xs h.0 x; is = slice_get-get_or xs h.0 x h.1 }, h.2)

-- what may be taken depends on the set of reserved pairs
pub may_same : {U : Type 0} (m : Pipeline U) (r q : State U) → SamePairs r.reserved q.reserved → r.now ≡ q.now → (k j : ℕ) → MayTake m r k j → MayTake m q k j
may_same {U} m r q same now k j may = record {
  fits = ((may.fits).0, into r q same now j (may.fits).1);
  first = λ t i lt fits. may.first t i lt (fits.0, into q r (λ p. let s = same p in (s.1, s.0)) (sym now) i fits.1);
}
  where
    into : (r q : State U) → SamePairs r.reserved q.reserved → r.now ≡ q.now → (j : ℕ) → Fits m.statements r.reserved (chosen m k j) r.now → Fits m.statements q.reserved (chosen m k j) q.now
    into r q same now j fits = subst (λ (n : ℕ). Fits m.statements q.reserved (chosen m k j) n) now
        (fits_same m.statements r.reserved q.reserved (chosen m k j) (chosen m k j) r.now same (λ p. (λ c. c, λ c. c)) fits)

-- a list has a grid or it is at another number
module _ (m : Pipeline UnitPlace) where
  abbrev pub grids : ℕ → ℕ → List (List (Pair ℕ))
  grids a k = list_in a (alternatives_at m k)

  restricted_at : (a k : ℕ) → alternatives_at (restricted a m) k ≡ map of_pairs (grids a k)
  restricted_at a k = ap (λ (c : Option (Class ℕ)). of_class c) (slice_get-map (class_in a) m.classes k) ∙ by_class (slice_get m.classes k)
    where
      by_class : (c : Option (Class UnitPlace)) → of_class (option_map (class_in a) c) ≡ map of_pairs (list_in a (of_class c))
      by_class None = refl
      by_class (Some c) = refl

  grid_count : (a k : ℕ) → length (alternatives_at (restricted a m) k) ≡ length (grids a k)
  grid_count a k = ap length (restricted_at a k) ∙ length-map (grids a k) of_pairs

  chosen_grid : (a k : ℕ) (g : At (grids a k)) → chosen (restricted a m) k g.number ≡ g.item
  chosen_grid a k g = ap (λ (xs : List (Alternative ℕ)). pairs_at (slice_get xs g.number)) (restricted_at a k) ∙ ap pairs_at (slice_get-map of_pairs (grids a k) g.number ∙ ap (option_map of_pairs) g.is)

  chosen_item : (k : ℕ) (x : At (alternatives_at m k)) → chosen m k x.number ≡ (x.item).pairs
  chosen_item k x = ap pairs_at x.is

  -- equal grids of a list have one number
  one_grid : (a k : ℕ) (g h : At (grids a k)) → g.item ≡ h.item → g.number ≡ h.number
  one_grid a k g h e = ⊎_elim
      (λ (same : g.number ≡ h.number). same)
      (λ (other : (g.number < h.number) ⊎ (h.number < g.number)). absurd (⊎_elim
      (λ (lt : g.number < h.number). differs g h lt e)
      (λ (lt : h.number < g.number). differs h g lt (sym e)) other))
      (cases_order g.number h.number)
    where
      differs : (g h : At (grids a k)) → g.number < h.number → g.item ≡ h.item → ⊥
      differs g h lt e = apart_in_list a (alternatives_at m k) g.number h.number [] lt (within (grids a k) h)
          (get_or_from_slice_get (grids a k) g.number g.item [] g.is ∙ (e ∙ sym (get_or_from_slice_get (grids a k) h.number h.item [] h.is)))

  -- the first alternative that has a grid; those before it have grids before it
  abbrev pub FirstOf : (a k : ℕ) → At (grids a k) → Type 0
  FirstOf a k g = FirstWith (λ (x : Alt). cut a x.pairs) grid_eq grid_eq-Decides (alternatives_at m k) g

  first_of : (a k : ℕ) (g : At (grids a k)) → FirstOf a k g
  first_of a k g = first_with (λ (x : Alt). cut a x.pairs) grid_eq grid_eq-Decides (alternatives_at m k) g

  -- the grid of an alternative
  grid_of : (a k : ℕ) (x : At (alternatives_at m k)) → (g : At (grids a k)) × (g.item ≡ cut a ((x.item).pairs))
  grid_of a k x = at_contained (grids a k) (cut a ((x.item).pairs)) (Contains-list_in a (alternatives_at m k) x.item (there (alternatives_at m k) x))

  -- an alternative that agrees with one of a grid stands at or after the first of that grid, and of each grid before it
  first_low : (a k : ℕ) (g h : At (grids a k)) (f : FirstOf a k g) → g.number ≤ h.number → (y : At (alternatives_at m k)) → cut a ((y.item).pairs) ≡ h.item → ((f.at).number) ≤ y.number
  first_low a k g h f low y same = ⊎_elim
      (λ (lt : y.number < (f.at).number).
      let found = f.before y lt in
      let early = found.1 in
      let number = one_grid a k found.0 h (found.2 ∙ same) in
      absurd (omega arith))
      (λ (le : (f.at).number ≤ y.number). le)
      (cases_lt y.number ((f.at).number))

  -- pairs fit what stands reserved in an automaton
  abbrev pub FitsIn : ℕ → State UnitPlace → List (Pair UnitPlace) → Type 0
  FitsIn a s pairs = Fits (restricted_statements a m.statements) (cut a s.reserved) (cut a pairs) s.now

  fits_part : (a : ℕ) (s : State UnitPlace) (pairs : List (Pair UnitPlace)) → Fits m.statements s.reserved pairs s.now → FitsIn a s pairs
  fits_part a s pairs fits = fits_inside a m.statements s.reserved pairs (cut a s.reserved) (cut a pairs) s.now (seen_cut a s.reserved) (seen_cut a pairs) fits

  fits_cut : (a : ℕ) (s : State UnitPlace) (x y : List (Pair UnitPlace)) → cut a x ≡ cut a y → FitsIn a s x → FitsIn a s y
  fits_cut a s x y e fits = subst (λ (g : List (Pair ℕ)). Fits (restricted_statements a m.statements) (cut a s.reserved) g s.now) e fits

-- Units and statements are of so many automata, and the alternatives of each class factor.
pub record IsJoint (count : ℕ) (m : Pipeline UnitPlace) : Type 0 where
  pub some : 0 < count
  pub pairs : (k : ℕ) (x : At (alternatives_at m k)) (p : Pair UnitPlace) → Contains ((x.item).pairs) p → p.unit.automaton < count
  pub statements : (s : Statement UnitPlace) → Contains m.statements s → (a : ℕ) × (a < count) × IsStatementOf a s
  pub factors : (k : ℕ) → Factors count (alternatives_at m k)

module _ (count : ℕ) (m : Pipeline UnitPlace) (joint : IsJoint count m) where
  pub chosen_low : (k i : ℕ) (p : Pair UnitPlace) → Contains (chosen m k i) p → p.unit.automaton < count
  chosen_low k i p h = by_item (slice_get (alternatives_at m k) i) refl h
    where
      by_item : (o : Option Alt) → slice_get (alternatives_at m k) i ≡ o → Contains (pairs_at o) p → p.unit.automaton < count
      by_item None e none = absurd (Contains-nil p none)
      by_item (Some x) e there = joint.pairs k (record { number = i; item = x; is = e }) p there

  -- what fits in each automaton fits
  fits_whole : (s : State UnitPlace) (pairs : List (Pair UnitPlace)) → ((p : Pair UnitPlace) → Contains pairs p → p.unit.automaton < count) → ((a : ℕ) → a < count → FitsIn m a s pairs) → Fits m.statements s.reserved pairs s.now
  fits_whole s pairs low each = record {
    apart = λ p x y.
        let found = Contains-from_map (later s.now) pairs p y in
        let lt = subst (λ (q : Pair UnitPlace). q.unit.automaton < count) found.2 (low found.0 found.1) in
        let a = p.unit.automaton in
        apart_outside a m.statements s.reserved pairs (cut a s.reserved) (cut a pairs) s.now (seen_cut a s.reserved) (seen_cut a pairs) (each a lt) p refl x y;
    allowed = λ t there cycle.
        let found = joint.statements t there in
        let a = found.0 in
        allowed_outside a m.statements s.reserved pairs (cut a s.reserved) (cut a pairs) s.now (seen_cut a s.reserved) (seen_cut a pairs) (each a found.1) t there found.2 cycle;
  }

  fits_at : (s : State UnitPlace) (k : ℕ) (x : At (alternatives_at m k)) → ((a : ℕ) → a < count → FitsIn m a s ((x.item).pairs)) → FitsAt m s k x.number
  fits_at s k x each = (within (alternatives_at m k) x, subst (λ (ps : List (Pair UnitPlace)). Fits m.statements s.reserved ps s.now) (sym (chosen_item m k x)) (fits_whole s ((x.item).pairs) (joint.pairs k x) each))

  from_fits_at : (s : State UnitPlace) (k : ℕ) (x : At (alternatives_at m k)) → FitsAt m s k x.number → (a : ℕ) → FitsIn m a s ((x.item).pairs)
  from_fits_at s k x fits a = fits_part m a s ((x.item).pairs) (subst (λ (ps : List (Pair UnitPlace)). Fits m.statements s.reserved ps s.now) (chosen_item m k x) fits.1)

  module _ (s : State UnitPlace) (k : ℕ) where
    grid_fits : (a : ℕ) (g : At (grids m a k)) → FitsAt (restricted a m) (state_in a s) k g.number → Fits (restricted_statements a m.statements) (cut a s.reserved) g.item s.now
    grid_fits a g fits = subst (λ (ps : List (Pair ℕ)). Fits (restricted_statements a m.statements) (cut a s.reserved) ps s.now) (chosen_grid m a k g) fits.1

    fits_grid : (a : ℕ) (g : At (grids m a k)) → Fits (restricted_statements a m.statements) (cut a s.reserved) g.item s.now → FitsAt (restricted a m) (state_in a s) k g.number
    fits_grid a g fits =
        let low = within (grids m a k) g in
        let count = grid_count m a k in
        (omega arith, subst (λ (ps : List (Pair ℕ)). Fits (restricted_statements a m.statements) (cut a s.reserved) ps s.now) (sym (chosen_grid m a k g)) fits)

    grid_at : (a j : ℕ) → FitsAt (restricted a m) (state_in a s) k j → (g : At (grids m a k)) × (g.number ≡ j)
    grid_at a j fits = let low = fits.0 in let count = grid_count m a k in at_number (grids m a k) j [] (omega arith)

    -- an alternative that has the grid which an automaton takes: it is the first that fits there
    pub record Taken (a j : ℕ) (x : At (alternatives_at m k)) : Type 0 where
      pub grid : chosen (restricted a m) k j ≡ cut a ((x.item).pairs)
      pub fits : FitsIn m a s ((x.item).pairs)
      pub first : m.treatment ≡ first_fit → (y : At (alternatives_at m k)) → y.number < x.number → FitsIn m a s ((y.item).pairs) → ⊥

    taken_in : (a j : ℕ) → MayTake (restricted a m) (state_in a s) k j → (x : At (alternatives_at m k)) × Taken a j x
    taken_in a j may =
        let found = grid_at a j may.fits in
        let g = found.0 in
        let f = first_of m a k g in
        let same = f.is in (
          f.at,
          record {
            grid = subst (λ (i : ℕ). chosen (restricted a m) k i ≡ cut a (((f.at).item).pairs)) found.1 (chosen_grid m a k g ∙ sym same);
            fits = subst (λ (ps : List (Pair ℕ)). Fits (restricted_statements a m.statements) (cut a s.reserved) ps s.now) (sym same) (grid_fits a g (subst (λ (i : ℕ). FitsAt (restricted a m) (state_in a s) k i) (sym found.1) may.fits));
            first = λ t y lt fits.
                let before = f.before y lt in
                let low = before.1 in
                let number = found.1 in
                may.first t ((before.0).number) (omega arith)
                (fits_grid a before.0 (subst (λ (ps : List (Pair ℕ)). Fits (restricted_statements a m.statements) (cut a s.reserved) ps s.now) (sym before.2) fits));
          },
        )

    -- what each automaton may take, all may take together
    module _ (choices : ℕ → ℕ) (may : (a : ℕ) → a < count → MayTake (restricted a m) (state_in a s) k (choices a)) where
      settled : (a : ℕ) → (x : At (alternatives_at m k)) × (a < count → Taken a (choices a) x)
      settled = settle (λ a x. Taken a (choices a) x) count ((taken_in 0 (choices 0) (may 0 joint.some)).0) (λ a lt. taken_in a (choices a) (may a lt))

      abbrev items : ℕ → At (alternatives_at m k)
      items a = (settled a).0

      joined : Joined count (alternatives_at m k) items
      joined = (joint.factors k).join items

      abbrev whole : At (alternatives_at m k)
      whole = joined.at

      joined_cut : (a : ℕ) → a < count → cut a (((items a).item).pairs) ≡ cut a ((whole.item).pairs)
      joined_cut a lt = sym (alike_cut a ((whole.item).pairs) (((items a).item).pairs) (joined.joins a lt))

      whole_first : m.treatment ≡ first_fit → (j : ℕ) → j < whole.number → FitsAt m s k j → ⊥
      whole_first t j lt fits =
          let found = at_number (alternatives_at m k) j (record { pairs = []; cycles = 0 }) fits.0 in
          let x = found.0 in
          let number = found.1 in
          let low = joined.early x (λ a below y alike. ⊎_elim
          (λ (early : y.number < (items a).number).
          absurd (((settled a).1 below).first t y early
          (fits_cut m a s ((x.item).pairs) ((y.item).pairs) (sym (alike_cut a ((y.item).pairs) ((x.item).pairs) alike)) (from_fits_at s k x (subst (λ (i : ℕ). FitsAt m s k i) (sym number) fits) a))))
          (λ (le : (items a).number ≤ y.number). le)
          (cases_lt y.number ((items a).number))) in
          omega arith

      pub taken_whole : (i : ℕ) × MayTake m s k i × ((a : ℕ) → a < count → chosen (restricted a m) k (choices a) ≡ cut a (chosen m k i))
      taken_whole = (
        whole.number,
        record {
          fits = fits_at s k whole (λ a lt. fits_cut m a s (((items a).item).pairs) ((whole.item).pairs) (joined_cut a lt) (((settled a).1 lt).fits));
          first = whole_first;
        },
        λ a lt. ((settled a).1 lt).grid ∙ (joined_cut a lt ∙ ap (cut a) (sym (chosen_item m k whole))),
      )

    -- what all may take, each automaton may take
    module _ (i : ℕ) (may : MayTake m s k i) where
      taken : (x : At (alternatives_at m k)) × (x.number ≡ i)
      taken = at_number (alternatives_at m k) i (record { pairs = []; cycles = 0 }) (may.fits).0

      abbrev item : At (alternatives_at m k)
      item = taken.0

      item_fits : (a : ℕ) → FitsIn m a s ((item.item).pairs)
      item_fits = from_fits_at s k item (subst (λ (j : ℕ). FitsAt m s k j) (sym taken.1) may.fits)

      abbrev here : (a : ℕ) → (g : At (grids m a k)) × (g.item ≡ cut a ((item.item).pairs))
      here a = grid_of m a k item

      -- of an automaton whose list has a grid before that fits
      module _ (t : m.treatment ≡ first_fit) (a : ℕ) (lt : a < count) (g : At (grids m a k)) (before : g.number < ((here a).0).number) (fits : Fits (restricted_statements a m.statements) (cut a s.reserved) g.item s.now) where
        -- what stands for each automaton in place of the item
        record Instead (b : ℕ) (x : At (alternatives_at m k)) : Type 0 where
          suits : FitsIn m b s ((x.item).pairs)
          early : (y : At (alternatives_at m k)) → Alike b ((y.item).pairs) ((item.item).pairs) → x.number ≤ y.number
          here : b ≡ a → cut b ((x.item).pairs) ≡ g.item

        instead_here : (x : At (alternatives_at m k)) × Instead a x
        instead_here =
            let f = first_of m a k g in (
              f.at,
              record {
                suits = subst (λ (ps : List (Pair ℕ)). Fits (restricted_statements a m.statements) (cut a s.reserved) ps s.now) (sym f.is) fits;
                early = λ y alike. first_low m a k g ((here a).0) f (omega arith) y (alike_cut a ((y.item).pairs) ((item.item).pairs) alike ∙ sym (here a).1);
                here = λ _. f.is;
              },
            )

        instead_other : (b : ℕ) → (b ≡ a → ⊥) → (x : At (alternatives_at m k)) × Instead b x
        instead_other b other =
            let h = (here b).0 in
            let f = first_of m b k h in (
              f.at,
              record {
                suits = fits_cut m b s ((item.item).pairs) (((f.at).item).pairs) (sym (here b).1 ∙ sym f.is) (item_fits b);
                early = λ y alike. first_low m b k h h f (omega arith) y (alike_cut b ((y.item).pairs) ((item.item).pairs) alike ∙ sym (here b).1);
                here = λ e. absurd (other e);
              },
            )

        instead : (b : ℕ) → (x : At (alternatives_at m k)) × Instead b x
        instead b = ⊎_elim
            (λ (e : b ≡ a). subst (λ (c : ℕ). (x : At (alternatives_at m k)) × Instead c x) (sym e) instead_here)
            (λ (other : b ≡ a → ⊥). instead_other b other)
            (cases_eq b a)

        others : Joined count (alternatives_at m k) (λ b. (instead b).0)
        others = (joint.factors k).join (λ b. (instead b).0)

        others_fit : FitsAt m s k ((others.at).number)
        others_fit = fits_at s k others.at (λ b low. fits_cut m b s (((((instead b).0)).item).pairs) (((others.at).item).pairs)
            (sym (alike_cut b (((others.at).item).pairs) (((((instead b).0)).item).pairs) (others.joins b low))) (((instead b).1).suits))

        no_grid_before : ⊥
        no_grid_before =
            let number = taken.1 in
            let low = others.early item (λ b _ y alike. ((instead b).1).early y alike) in
            ⊎_elim
            (λ (less : (others.at).number < i). may.first t ((others.at).number) less others_fit)
            (λ (le : i ≤ (others.at).number).
            let same = one_item (alternatives_at m k) others.at item (omega arith) in
            let grid = alike_cut a (((others.at).item).pairs) (((((instead a).0)).item).pairs) (others.joins a lt) in
            let one = one_grid m a k g ((here a).0) (sym (((instead a).1).here refl) ∙ (sym grid ∙ (ap (λ (x : Alt). cut a x.pairs) same ∙ sym (here a).1))) in
            omega arith)
            (cases_lt ((others.at).number) i)

      pub taken_part : (a : ℕ) → a < count → (j : ℕ) × MayTake (restricted a m) (state_in a s) k j × (chosen (restricted a m) k j ≡ cut a (chosen m k i))
      taken_part a lt =
          let h = (here a).0 in (
            h.number,
            record {
              fits = fits_grid a h (subst (λ (ps : List (Pair ℕ)). Fits (restricted_statements a m.statements) (cut a s.reserved) ps s.now) (sym (here a).1) (item_fits a));
              first = λ t j less fits.
                  let found = grid_at a j fits in
                  let number = found.1 in
                  no_grid_before t a lt found.0 (omega arith) (grid_fits a found.0 (subst (λ (i : ℕ). FitsAt (restricted a m) (state_in a s) k i) (sym found.1) fits));
            },
            chosen_grid m a k h ∙ ((here a).1 ∙ ap (cut a) (sym (chosen_item m k item) ∙ ap (chosen m k) taken.1)),
          )
