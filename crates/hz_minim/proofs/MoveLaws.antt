-- States that move, one after the other.
use Rattle.std.proofs.Common.{◌≡◌, ◌≢◌, ℕ, ◌+◌, ◌<◌, inl, inr, ⊎_elim, List, [], ◌∷◌, ◌++◌, length, replicate, get_or, set, take, Contains, sym, ap, ◌∙◌, subst, arith, get_or-set_same, get_or-set_other, length-set}
use Rattle.std.proofs.lemmas.Bool.{cases_eq}
use Rattle.std.proofs.lemmas.Bool.Decides.{nat_tests}
use Rattle.std.proofs.lemmas.List.{take_more, get_or-replicate, length-replicate}
use Rattle.std.proofs.lemmas.List.Elements.{Contains-append_left, Contains-push, Contains-push_cases}
use Rattle.std.specs.List.{range_with_len}
use Rattle.hz_base_model.proofs.Elements.{Contains-range, Contains-from_range}
use Rattle.hz_pipeline_model.specs.Least.Blocks.{block_of}
use Rattle.hz_minim.specs.declared.marks.Mark.{Mark}
use Rattle.hz_minim.specs.Lists.{list_at, added}
use Rattle.hz_minim.specs.Moves.{IsListed, IsMoved, goes_to}
use Rattle.hz_minim.proofs.ListLaws.{added-holds, added-kept, added-only, place_within}

-- a block that has gone goes no further
pub goes_once : (marks : List Mark) (old block : ℕ) → goes_to marks old (goes_to marks old block) ≡ goes_to marks old block
goes_once marks old block = grind (arith, nat_tests)

pub goes_within : (marks : List Mark) (old block : ℕ) → block < length marks → goes_to marks old block < length marks
goes_within marks old block within = grind (arith, nat_tests)

-- one state more
module _ (goes : ℕ → ℕ) (once : (block : ℕ) → goes (goes block) ≡ goes block) (states before mid : List ℕ) (i : ℕ) (within : i < length states) (there : get_or states i 0 < length before) (moved : IsMoved goes (take i states) before mid) where
  abbrev here : ℕ
  here = get_or states i 0

  abbrev after : List ℕ
  after = set mid here (goes (block_of mid here))

  more : take (i + 1) states ≡ take i states ++ here ∷ []
  more = take_more states i 0 within

  holds : Contains (take (i + 1) states) here
  holds = subst (λ (xs : List ℕ). Contains xs here) (sym more) (Contains-push (take i states) here)

  keeps : (state : ℕ) → Contains (take i states) state → Contains (take (i + 1) states) state
  keeps state h = subst (λ (xs : List ℕ). Contains xs state) (sym more) (Contains-append_left (take i states) (here ∷ []) state h)

  lacks : (state : ℕ) → state ≢ here → (Contains (take i states) state → ⊥) → Contains (take (i + 1) states) state → ⊥
  lacks state ne out h = ⊎_elim out (λ (e : here ≡ state). ne (sym e)) (Contains-push_cases (take i states) here state (subst (λ (xs : List ℕ). Contains xs state) more h))

  at_here : block_of after here ≡ goes (block_of before here)
  at_here =
      let each = moved.each in
      get_or-set_same mid here (goes (block_of mid here)) 0 (omega arith)
      ∙ ⊎_elim
      (λ (went : Contains (take i states) here × (block_of mid here ≡ goes (block_of before here))). ap goes went.1 ∙ once (block_of before here))
      (λ (stays : (Contains (take i states) here → ⊥) × (block_of mid here ≡ block_of before here)). ap goes stays.1)
      (moved.at here there)

  at_other : (state : ℕ) → state ≢ here → block_of after state ≡ block_of mid state
  at_other state ne = get_or-set_other mid here state (goes (block_of mid here)) 0 ne

  pub moved_more : IsMoved goes (take (i + 1) states) before after
  moved_more = record {
    each = length-set mid here (goes (block_of mid here)) ∙ moved.each;
    at = λ state inside. ⊎_elim
        (λ (e : state ≡ here). inl (subst (Contains (take (i + 1) states)) (sym e) holds, ap (block_of after) e ∙ at_here ∙ ap (λ (n : ℕ). goes (block_of before n)) (sym e)))
        (λ (ne : state ≢ here). ⊎_elim
        (λ (went : Contains (take i states) state × (block_of mid state ≡ goes (block_of before state))). inl (keeps state went.0, at_other state ne ∙ went.1))
        (λ (stays : (Contains (take i states) state → ⊥) × (block_of mid state ≡ block_of before state)). inr (lacks state ne stays.0, at_other state ne ∙ stays.1))
        (moved.at state inside))
        (cases_eq state here);
  }

-- A state that moves is listed where it goes.
pub listed_moved : (blocks : List ℕ) (members : List (List ℕ)) (state to : ℕ) → state < length blocks → to < length members → IsListed blocks members → IsListed (set blocks state to) (added to state members)
listed_moved blocks members state to within inside listed =
    let size = length-set blocks state to in
    record {
      there = λ other lt. ⊎_elim
          (λ (e : other ≡ state).
          let block : block_of (set blocks state to) other ≡ to = ap (block_of (set blocks state to)) e ∙ get_or-set_same blocks state to 0 within in
          subst (λ (b : ℕ). Contains (list_at (added to state members) b) other) (sym block)
          (subst (Contains (list_at (added to state members) to)) (sym e) (added-holds to state members inside)))
          (λ (ne : other ≢ state).
          let block : block_of (set blocks state to) other ≡ block_of blocks other = get_or-set_other blocks state other to 0 ne in
          subst (λ (b : ℕ). Contains (list_at (added to state members) b) other) (sym block)
          (added-kept to state members (block_of blocks other) other (listed.there other (omega arith))))
          (cases_eq other state);
      states = λ block other h. ⊎_elim
          (λ (old : Contains (list_at members block) other). let low = listed.states block other old in omega arith)
          (λ (new : (block ≡ to) × (state ≡ other)). let same = new.1 in omega arith)
          (added-only to state members block other h);
    }

-- lists that hold the same list the same states
pub listed_same : (blocks : List ℕ) (first second : List (List ℕ)) → ((place : ℕ) → list_at second place ≡ list_at first place) → IsListed blocks first → IsListed blocks second
listed_same blocks first second same listed = record {
  there = λ state within. subst (λ (xs : List ℕ). Contains xs state) (sym (same (block_of blocks state))) (listed.there state within);
  states = λ block state h. listed.states block state (subst (λ (xs : List ℕ). Contains xs state) (same block) h);
}

-- one block lists all states
pub listed_whole : (count : ℕ) (blocks states : List ℕ) → blocks ≡ replicate count 0 → states ≡ range_with_len 0 count → IsListed blocks (states ∷ [])
listed_whole count blocks states e all =
    let long : length blocks ≡ count = ap length e ∙ length-replicate count 0 in
    record {
      there = λ state within.
          let below : state < count = omega arith in
          let block : block_of blocks state ≡ 0 = ap (λ (xs : List ℕ). block_of xs state) e ∙ get_or-replicate count state 0 0 below in
          subst (λ (b : ℕ). Contains (list_at (states ∷ []) b) state) (sym block) (subst (λ (xs : List ℕ). Contains xs state) (sym all) (Contains-range count state below));
      states = λ block state h.
          let first : block < 1 = place_within (states ∷ []) block state h in
          let zeroth : block ≡ 0 = omega arith in
          let there : Contains states state = subst (λ (b : ℕ). Contains (list_at (states ∷ []) b) state) zeroth h in
          let below = Contains-from_range count state (subst (λ (xs : List ℕ). Contains xs state) all there) in
          omega arith;
    }
