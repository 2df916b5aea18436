-- Every state that a block leaves has a text.
use Rattle.std.proofs.Common.{◌≡◌, ◌≢◌, ℕ, ◌+◌, ◌<◌, ◌≤◌, ◌==◌, Bool, true, false, cond, not, List, [], ◌∷◌, map, filter, get_or, slice_get, Option, Some, None, Contains, refl, ap, ◌∙◌, subst, arith, ⊎_elim}
use Rattle.std.proofs.lemmas.Bool.{cases_Bool, cases_lt, eqb-true}
use Rattle.std.proofs.lemmas.List.{length-map, get_or-map}
use Rattle.std.proofs.lemmas.List.FromFn.{length-range_with_len, get_or-range_with_len}
use Rattle.std.proofs.lemmas.List.Kept.{AllPairs-filter}
use Rattle.std.specs.List.{AllPairs, range_with_len}
use Rattle.std.specs.Prelude.{slice_index}
use Rattle.hz_base_model.proofs.Ascending.{AllPairs-map, AllPairs-range}
use Rattle.hz_base_model.proofs.Elements.{Contains-filter, Contains-from_filter, Contains-map, Contains-from_map, Contains-range}
use Rattle.hz_block_model.specs.Running.Blocks.{Instruction}
use Rattle.hz_block_model.specs.Running.States.{Place, reg, cell, State, Store, stored, all_stored, stores_of, after_place, run}
use Rattle.hz_block_model.specs.Texts.Operands.{register_count}
use Rattle.hz_block_model.specs.Texts.StateForms.{empty_state}
use Rattle.hz_block_model.specs.Texts.StateTexts.{Listing, IsListing, IsText, listing_text}

-- all cells from some address on are 0
abbrev pub IsFinite : State → Type 0
IsFinite s = (n : ℕ) × ((address : ℕ) → n ≤ address → s (cell address) ≡ 0)

finite_store : (s : State) (place : Place) (word : ℕ) → IsFinite s → IsFinite (stored s (record { place = place; word = word }))
finite_store s (reg k) word (n, zero) = (n, zero)
finite_store s (cell b) word (n, zero) = (
  n + b + 1,
  λ address most. ⊎_elim
      (λ (h : (b == address) ≡ true). let same = eqb-true b address h in absurd (omega (arith, same, most)))
      (λ (h : (b == address) ≡ false). ap (λ (t : Bool). cond t word (s (cell address))) h ∙ zero address (omega (arith, most)))
      (cases_Bool (b == address)),
)

finite_stores : (s : State) (stores : List Store) → IsFinite s → IsFinite (all_stored s stores)
finite_stores s [] h = h
finite_stores s (store ∷ stores) h = finite_stores (stored s store) stores (finite_store s store.place store.word h)

pub finite_empty : IsFinite empty_state
finite_empty = (0, λ address most. refl)

pub finite_given : (stores : List Store) → IsFinite (all_stored empty_state stores)
finite_given stores = finite_stores empty_state stores finite_empty

finite_after : (place : Option Instruction) (s : State) → IsFinite s → IsFinite (after_place place s)
finite_after None s h = h
finite_after (Some i) s h = finite_stores s (stores_of i s) h

pub finite_run : (block : List Instruction) (order : List ℕ) (s : State) → IsFinite s → IsFinite (run block order s)
finite_run block [] s h = h
finite_run block (place ∷ order) s h = finite_run block order (after_place (slice_get block place) s) (finite_after (slice_get block place) s h)

module _ (s : State) where
  abbrev is_some : ℕ × ℕ → Bool
  is_some e = not (e.1 == 0)

  abbrev cell_of : ℕ → ℕ × ℕ
  cell_of address = (address, s (cell address))

  abbrev cells_below : ℕ → List (ℕ × ℕ)
  cells_below n = filter is_some (map cell_of (range_with_len 0 n))

  abbrev words_of : List ℕ
  words_of = map (λ n. s (reg n)) (range_with_len 0 register_count)

  some_is : (w : ℕ) → not (w == 0) ≡ true → w ≢ 0
  some_is w h z = let here : not (0 == 0) ≡ true = subst (λ (v : ℕ). not (v == 0) ≡ true) z h in absurd (cc)

  is_some_of : (w : ℕ) → w ≢ 0 → not (w == 0) ≡ true
  is_some_of w h = ⊎_elim
      (λ (e : (w == 0) ≡ true). absurd (h (eqb-true w 0 e)))
      (λ (e : (w == 0) ≡ false). ap not e)
      (cases_Bool (w == 0))

  ascending : (n : ℕ) → AllPairs (λ a b. a.0 < b.0) (cells_below n)
  ascending n = AllPairs-filter (λ (a b : ℕ × ℕ). a.0 < b.0) is_some (map cell_of (range_with_len 0 n))
      (AllPairs-map (λ (a b : ℕ). a < b) (λ (a b : ℕ × ℕ). a.0 < b.0) cell_of (λ a b h. h) 0 (range_with_len 0 n) (AllPairs-range n))

  held : (n : ℕ) (e : ℕ × ℕ) → Contains (cells_below n) e → (e.1 ≡ s (cell e.0)) × (e.1 ≢ 0)
  held n e c =
      let kept = Contains-from_filter is_some e (map cell_of (range_with_len 0 n)) c in
      let found = Contains-from_map cell_of (range_with_len 0 n) e kept.0 in
      (subst (λ (f : ℕ × ℕ). f.1 ≡ s (cell f.0)) found.2 refl, some_is e.1 kept.1)

  complete : (n : ℕ) (address : ℕ) → address < n → s (cell address) ≢ 0 → Contains (cells_below n) (address, s (cell address))
  complete n address low some =
      Contains-filter is_some (cell_of address) (is_some_of (s (cell address)) some) (map cell_of (range_with_len 0 n)) (Contains-map cell_of (range_with_len 0 n) address (Contains-range n address low))

  register_word : (n : ℕ) → n < register_count → slice_index words_of n ≡ s (reg n)
  register_word n low =
      let long = length-range_with_len 0 register_count in
      let at : get_or (range_with_len 0 register_count) n 0 ≡ n = omega (arith, get_or-range_with_len 0 register_count n 0 low) in
      get_or-map (λ (k : ℕ). s (reg k)) (range_with_len 0 register_count) n 0 0 (omega (arith, long, low)) ∙ ap (λ (k : ℕ). s (reg k)) at

  abbrev pub listing_of : IsFinite s → Listing
  listing_of (n, zero) = record { registers = words_of; cells = cells_below n }

  pub is_listing_of : (finite : IsFinite s) → IsListing s (listing_of finite)
  is_listing_of (n, zero) = record {
    count = length-map (range_with_len 0 register_count) (λ (k : ℕ). s (reg k)) ∙ length-range_with_len 0 register_count;
    words = register_word;
    ascending = ascending n;
    held = held n;
    complete = λ address some. ⊎_elim
        (λ (low : address < n). complete n address low some)
        (λ (most : n ≤ address). absurd (some (zero address most)))
        (cases_lt address n);
  }

  pub has_text : IsFinite s → (text : List ℕ) × IsText s text
  has_text finite = (listing_text (listing_of finite), record { listing = listing_of finite; is_listing = is_listing_of finite; text_is = refl })
