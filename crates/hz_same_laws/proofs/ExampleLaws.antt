-- Machines that are compared by computing: pairs that are closed under all symbols, and traces that are walked.
use Rattle.std.proofs.Common.{◌≡◌, ℕ, zero, suc, ◌<◌, ◌≤◌, ⊎_elim, Bool, true, false, cond, List, [], ◌∷◌, All, Some, bytes_eq, refl, sym, ap, ◌∙◌, subst, arith}
use Rattle.std.specs.Prelude.{◌&&◌}
use Rattle.std.specs.Cmp.Lexicographic.{bytes_decides}
use Rattle.std.proofs.lemmas.Bool.{cases_lt}
use Rattle.std.proofs.lemmas.List.Elements.{All-head, All-tail}
use Rattle.hz_pipeline_model.specs.Tables.Machines.{Machine, machine_walk}
use Rattle.hz_same_model.specs.Common.{common_of, event_at, events_at}
use Rattle.hz_same_model.specs.Telling.{answer_in, TellsApart, AnswerTheSame}
use Rattle.hz_same_model.specs.Products.{Product, Move, goes, stops, differs, led_to, reach, HasNoDifference, move_of, start_of, product_of}
use Rattle.hz_same_model.proofs.ProductLaws.{difference_of_trace}

no_yes : false ≡ true → ⊥
no_yes h = cc

both : (a b : Bool) → a && b ≡ true → (a ≡ true) × (b ≡ true)
both true b h = (refl, h)
both false b h = absurd (no_yes h)

same_list : (xs ys : List ℕ) → bytes_eq xs ys ≡ true → xs ≡ ys
same_list xs ys h = (bytes_decides xs ys).0 h

-- ---- closed pairs

abbrev all_below : ℕ → (ℕ → Bool) → Bool
all_below zero test = true
all_below (suc n) test = test n && all_below n test

below : (n : ℕ) (test : ℕ → Bool) → all_below n test ≡ true → (i : ℕ) → i < n → test i ≡ true
below zero test h i low = absurd (omega (arith, low))
below (suc n) test h i low = ⊎_elim
    (λ (less : i < n). below n test (both (test n) (all_below n test) h).1 i less)
    (λ (most : n ≤ i). let is : n ≡ i = omega (arith, low, most) in sym (ap test is) ∙ (both (test n) (all_below n test) h).0)
    (cases_lt i n)

abbrev all_in : List (List ℕ) → (List ℕ → Bool) → Bool
all_in [] test = true
all_in (x ∷ xs) test = test x && all_in xs test

abbrev is_in : List (List ℕ) → List ℕ → Bool
is_in [] pair = false
is_in (x ∷ xs) pair = cond (bytes_eq x pair) true (is_in xs pair)

inside : (pairs : List (List ℕ)) (test : List ℕ → Bool) (pair : List ℕ) → all_in pairs test ≡ true → is_in pairs pair ≡ true → test pair ≡ true
inside [] test pair all is = absurd (no_yes is)
inside (x ∷ xs) test pair all is =
    let parts = both (test x) (all_in xs test) all in
    by_test (bytes_eq x pair) refl is parts.0 (λ rest. inside xs test pair parts.1 rest)
  where
    by_test : (t : Bool) → bytes_eq x pair ≡ t → cond t true (is_in xs pair) ≡ true → test x ≡ true → (is_in xs pair ≡ true → test pair ≡ true) → test pair ≡ true
    by_test true e h own on = sym (ap test (same_list x pair e)) ∙ own
    by_test false e h own on = on h

-- a symbol leads to a pair of these, or nowhere
abbrev passes : List (List ℕ) → Move → Bool
passes pairs (goes pair) = is_in pairs pair
passes pairs stops = true
passes pairs differs = false

abbrev pub closed : Product → List (List ℕ) → Bool
closed p pairs = is_in pairs (start_of p) && all_in pairs (λ pair. all_below p.symbols (λ symbol. passes pairs (move_of p pair symbol)))

module _ (p : Product) (pairs : List (List ℕ)) (h : closed p pairs ≡ true) where
  parts : (is_in pairs (start_of p) ≡ true) × (all_in pairs (λ pair. all_below p.symbols (λ symbol. passes pairs (move_of p pair symbol))) ≡ true)
  parts = both (is_in pairs (start_of p)) (all_in pairs (λ pair. all_below p.symbols (λ symbol. passes pairs (move_of p pair symbol)))) h

  passed : (pair : List ℕ) → is_in pairs pair ≡ true → (symbol : ℕ) → symbol < p.symbols → passes pairs (move_of p pair symbol) ≡ true
  passed pair is symbol low =
      below p.symbols (λ s. passes pairs (move_of p pair s)) (inside pairs (λ q. all_below p.symbols (λ s. passes pairs (move_of p q s))) pair parts.1 is) symbol low

  stays : (word pair next : List ℕ) → All (λ s. s < p.symbols) word → is_in pairs pair ≡ true → reach (move_of p) (Some pair) word ≡ Some next → is_in pairs next ≡ true
  stays [] pair next all is r = let same : pair ≡ next = cc in subst (λ (q : List ℕ). is_in pairs q ≡ true) same is
  stays (symbol ∷ word) pair next all is r = by_move (move_of p pair symbol) (passed pair is symbol (All-head (λ (s : ℕ). s < p.symbols) symbol word all)) r
      (λ q. stays word q next (All-tail (λ (s : ℕ). s < p.symbols) symbol word all))
    where
      by_move : (m : Move) → passes pairs m ≡ true → reach (move_of p) (led_to m) word ≡ Some next → ((q : List ℕ) → is_in pairs q ≡ true → reach (move_of p) (Some q) word ≡ Some next → is_in pairs next ≡ true) → is_in pairs next ≡ true
      by_move (goes q) ok r on = on q ok r
      by_move stops ok r on = cc
      by_move differs ok r on = cc

  no_difference : HasNoDifference (move_of p) p.symbols (start_of p)
  no_difference before last d = by_move (move_of p d.pair last) (passed d.pair (stays before (start_of p) d.pair d.are parts.0 d.reached) last d.there) d.differs
    where
      by_move : (m : Move) → passes pairs m ≡ true → m ≡ differs → ⊥
      by_move (goes q) ok is = cc
      by_move stops ok is = cc
      by_move differs ok is = no_yes ok

pub answer_same : (first second : Machine) (pairs : List (List ℕ)) → closed (product_of first second) pairs ≡ true → AnswerTheSame first second
answer_same first second pairs h before last t = no_difference (product_of first second) pairs h before last (difference_of_trace first second before last t)

-- ---- traces

same_states : (xs ys : List ℕ) → Some xs ≡ Some ys → xs ≡ ys
same_states xs ys h = cc

pub not_apart : (first second : Machine) (before : List ℕ) (last : ℕ) (states others : List ℕ) → machine_walk first (events_at (common_of first second) first before) ≡ Some states → machine_walk second (events_at (common_of first second) second before) ≡ Some others
    → answer_in first states (event_at (common_of first second) first last) ≡ answer_in second others (event_at (common_of first second) second last) → TellsApart first second before last → ⊥
not_apart first second before last states others one other same t =
    t.otherwise
    (ap (λ (xs : List ℕ). answer_in first xs (event_at (common_of first second) first last)) (same_states t.states states (sym t.one ∙ one))
    ∙ (same ∙ ap (λ (xs : List ℕ). answer_in second xs (event_at (common_of first second) second last)) (same_states others t.others (sym other ∙ t.other))))
