-- Being the same goes from one machine to another, and on.
use Rattle.std.proofs.Common.{◌≡◌, ℕ, Bool, true, false, cond, List, [], ◌∷◌, ◌++◌, map, get_or, filter, All, Contains, Option, Some, None, is_some, not, refl, sym, ap, ◌∙◌, subst}
use Rattle.std.specs.Prelude.{◌≢◌, option_and_then}
use Rattle.std.proofs.lemmas.List.{append-nil, append_assoc, map-append}
use Rattle.std.proofs.lemmas.List.Elements.{All-nil, All-cons, All-append, All-head, All-tail, All-from_get_or, Contains-get_or}
use Rattle.hz_base_model.proofs.Elements.{Contains-nil}
use Rattle.hz_pipeline_model.specs.Tables.Machines.{Machine, parts_walk, machine_walk, starts_of, names_of}
use Rattle.hz_pipeline_model.proofs.Tables.MachineLaws.{parts_walk-append}
use Rattle.hz_same_model.specs.Common.{has_class, has_ask, classes_alone, asks_alone}
use Rattle.hz_same_model.specs.Telling.{answer_in, AnswerTheSame, AreSame}
use Rattle.hz_same_model.proofs.ProductLaws.{has_own, walked_nothing, length-starts, first_step}
use Rattle.hz_same_model.proofs.TellingLaws.{answers_itself}
use Rattle.hz_same_model.proofs.NamedTraces.{Named, of_class, cycle, of_ask, event_named, has_named, is_leading, kept, class_there, name_there, has_own_class, ApartByName, by_name, by_symbol, turned}

pub answers_turned : (first second : Machine) → AnswerTheSame first second → AnswerTheSame second first
answers_turned first second same before last t =
    let a = by_name second first before last t in
    let b = by_symbol first second a.0 a.1 (turned second first a.0 a.1 a.2) in
    same b.0 b.1 b.2

pub same_turned : (first second : Machine) → AreSame first second → AreSame second first
same_turned first second same = record {
  classes = same.other_classes;
  other_classes = same.classes;
  asks = same.other_asks;
  other_asks = same.asks;
  answers = answers_turned first second same.answers;
}

-- ---- and on

same_bool : (x y : Bool) → ((x ≢ y) → ⊥) → x ≡ y
same_bool true true h = refl
same_bool false false h = refl
same_bool true false h = absurd (h (λ (e : true ≡ false). cc))
same_bool false true h = absurd (h (λ (e : false ≡ true). cc))

none_kept : (p : List ℕ → Bool) (xs : List (List ℕ)) → All (λ x. p x ≡ false) xs → filter p xs ≡ []
none_kept p [] none = refl
none_kept p (x ∷ xs) none =
    ap (λ (t : Bool). cond t (x ∷ filter p xs) (filter p xs)) (All-head (λ (y : List ℕ). p y ≡ false) x xs none) ∙ none_kept p xs (All-tail (λ (y : List ℕ). p y ≡ false) x xs none)

-- what is not alone is of the other too
has_too : (p : List ℕ → Bool) (xs : List (List ℕ)) (x : List ℕ) → Contains xs x → filter (λ y. not (p y)) xs ≡ [] → p x ≡ true
has_too p xs x there alone = by_test (p x) refl
  where
    by_test : (t : Bool) → p x ≡ t → p x ≡ true
    by_test true e = e
    by_test false e = absurd (Contains-nil x (subst (λ (ys : List (List ℕ)). Contains ys x) alone (kept (λ y. not (p y)) xs x there (ap not e))))

has_on : (first second : Machine) → AreSame first second → (n : Named) → has_named first n ≡ true → has_named second n ≡ true
has_on first second same (of_class name) h = has_too (has_class second) first.classes name (class_there first name h) same.classes
has_on first second same cycle h = refl
has_on first second same (of_ask name) h = has_too (has_ask second) (names_of first.parts) name (name_there first name h) same.asks

all_on : (first second : Machine) → AreSame first second → (names : List Named) → All (λ n. has_named first n ≡ true) names → All (λ n. has_named second n ≡ true) names
all_on first second same [] own = All-nil (λ (n : Named). has_named second n ≡ true)
all_on first second same (n ∷ names) own =
    All-cons (λ (x : Named). has_named second x ≡ true) n names (has_on first second same n (All-head (λ (x : Named). has_named first x ≡ true) n names own))
    (all_on first second same names (All-tail (λ (x : Named). has_named first x ≡ true) n names own))

answer_leads : (m : Machine) (states : List ℕ) (n : Named) → is_leading n ≡ true → answer_in m states (event_named m n) ≡ is_some (parts_walk m.parts states (event_named m n ∷ []))
answer_leads m states (of_class name) leads = refl
answer_leads m states cycle leads = refl
answer_leads m states (of_ask name) leads = cc

one_more : (P : Named → Type 0) (u : List Named) (n : Named) → All P u → P n → All P (u ++ n ∷ [])
one_more P u n all here = All-append P u (n ∷ []) all (All-cons P n [] here (All-nil P))

walked_more : (m : Machine) (u : List Named) (n : Named) (states next : List ℕ) → machine_walk m (map (event_named m) u) ≡ Some states → parts_walk m.parts states (event_named m n ∷ []) ≡ Some next → machine_walk m (map (event_named m) (u ++ n ∷ [])) ≡ Some next
walked_more m u n states next one more =
    ap (machine_walk m) (map-append (event_named m) u (n ∷ []))
    ∙ (parts_walk-append m.parts (starts_of m) (map (event_named m) u) (event_named m n ∷ [])
    ∙ (ap (option_and_then (λ next. parts_walk m.parts next (event_named m n ∷ []))) one ∙ more))

-- what one machine walks is walked by another that answers the same
along : (first second : Machine) → AnswerTheSame first second → (u w : List Named) (states others final : List ℕ)
    → All (λ n. is_leading n ≡ true) u → All (λ n. has_named first n ≡ true) u → All (λ n. has_named second n ≡ true) u
    → All (λ n. is_leading n ≡ true) w → All (λ n. has_named first n ≡ true) w → All (λ n. has_named second n ≡ true) w
    → machine_walk first (map (event_named first) u) ≡ Some states → machine_walk second (map (event_named second) u) ≡ Some others
    → parts_walk first.parts states (map (event_named first) w) ≡ Some final
    → (next : List ℕ) × (machine_walk second (map (event_named second) (u ++ w)) ≡ Some next)
along first second same u [] states others final leads own shared leads' own' shared' one other rest =
    (others, ap (λ (x : List Named). machine_walk second (map (event_named second) x)) (append-nil u) ∙ other)
along first second same u (n ∷ w) states others final leads own shared leads' own' shared' one other rest =
    by_step (parts_walk second.parts others (event_named second n ∷ [])) refl
    (λ next goes. along first second same (u ++ n ∷ []) w go.0 next final
    (one_more (λ (x : Named). is_leading x ≡ true) u n leads leading)
    (one_more (λ (x : Named). has_named first x ≡ true) u n own (All-head (λ (x : Named). has_named first x ≡ true) n w own'))
    (one_more (λ (x : Named). has_named second x ≡ true) u n shared (All-head (λ (x : Named). has_named second x ≡ true) n w shared'))
    (All-tail (λ (x : Named). is_leading x ≡ true) n w leads') (All-tail (λ (x : Named). has_named first x ≡ true) n w own') (All-tail (λ (x : Named). has_named second x ≡ true) n w shared')
    (walked_more first u n states go.0 one go.1) (walked_more second u n others next other goes) go.2)
  where
    leading : is_leading n ≡ true
    leading = All-head (λ (x : Named). is_leading x ≡ true) n w leads'

    go : (middle : List ℕ) × (parts_walk first.parts states (event_named first n ∷ []) ≡ Some middle) × (parts_walk first.parts middle (map (event_named first) w) ≡ Some final)
    go = first_step first.parts states (event_named first n) (map (event_named first) w) final rest

    refused : parts_walk second.parts others (event_named second n ∷ []) ≡ None → ⊥
    refused stops =
        let a : ApartByName first second u n = record {
          leading = leads;
          own = own;
          shared = shared;
          there = All-head (λ (x : Named). has_named first x ≡ true) n w own';
          there' = All-head (λ (x : Named). has_named second x ≡ true) n w shared';
          states = states;
          others = others;
          one = one;
          other = other;
          otherwise = λ equal. no_yes (sym (answer_leads first states n leading ∙ ap is_some go.1) ∙ (equal ∙ (answer_leads second others n leading ∙ ap is_some stops)));
        } in
        let found = by_symbol first second u n a in
        same found.0 found.1 found.2
      where
        no_yes : true ≡ false → ⊥
        no_yes h = cc

    by_step : (o : Option (List ℕ)) → parts_walk second.parts others (event_named second n ∷ []) ≡ o
        → ((next : List ℕ) → parts_walk second.parts others (event_named second n ∷ []) ≡ Some next → (last : List ℕ) × (machine_walk second (map (event_named second) ((u ++ n ∷ []) ++ w)) ≡ Some last))
        → (last : List ℕ) × (machine_walk second (map (event_named second) (u ++ n ∷ w)) ≡ Some last)
    by_step None is on = absurd (refused is)
    by_step (Some next) is on =
        let found = on next is in
        (found.0, ap (λ (x : List Named). machine_walk second (map (event_named second) x)) (sym (append_assoc u (n ∷ []) w)) ∙ found.1)

pub answers_on : (first second third : Machine) → AreSame first second → AreSame second third → AnswerTheSame first third
answers_on first second third one other before last t =
    let x = by_name first third before last t in
    let names = x.0 in
    let name = x.1 in
    let a = x.2 in
    let middle : All (λ n. has_named second n ≡ true) names = all_on first second one names a.own in
    let there : has_named second name ≡ true = has_on first second one name a.there in
    let walked = along first second one.answers [] names (starts_of first) (starts_of second) a.states
    (All-nil (λ (n : Named). is_leading n ≡ true)) (All-nil (λ (n : Named). has_named first n ≡ true)) (All-nil (λ (n : Named). has_named second n ≡ true))
    a.leading a.own middle (walked_nothing first.parts (starts_of first) (length-starts first)) (walked_nothing second.parts (starts_of second) (length-starts second)) a.one in
    a.otherwise
    (same_bool (answer_in first a.states (event_named first name)) (answer_in second walked.0 (event_named second name))
    (λ apart. let found = by_symbol first second names name (record { leading = a.leading; own = a.own; shared = middle; there = a.there; there' = there; states = a.states; others = walked.0; one = a.one; other = walked.1; otherwise = apart }) in
    one.answers found.0 found.1 found.2)
    ∙ same_bool (answer_in second walked.0 (event_named second name)) (answer_in third a.others (event_named third name))
    (λ apart. let found = by_symbol second third names name (record { leading = a.leading; own = middle; shared = a.shared; there = there; there' = a.there'; states = walked.0; others = a.others; one = walked.1; other = a.other; otherwise = apart }) in
    other.answers found.0 found.1 found.2))

classes_on : (first second third : Machine) → AreSame first second → AreSame second third → classes_alone first third ≡ []
classes_on first second third one other =
    none_kept (λ n. not (has_class third n)) first.classes
    (All-from_get_or (λ n. not (has_class third n) ≡ false) first.classes []
    (λ i low.
    let name = get_or first.classes i [] in
    ap not (has_on second third other (of_class name) (has_on first second one (of_class name) (has_own_class first name (Contains-get_or first.classes i [] low))))))

asks_on : (first second third : Machine) → AreSame first second → AreSame second third → asks_alone first third ≡ []
asks_on first second third one other =
    none_kept (λ n. not (has_ask third n)) (names_of first.parts)
    (All-from_get_or (λ n. not (has_ask third n) ≡ false) (names_of first.parts) []
    (λ i low.
    let name = get_or (names_of first.parts) i [] in
    ap not (has_on second third other (of_ask name) (has_on first second one (of_ask name) (has_own first name (Contains-get_or (names_of first.parts) i [] low))))))

pub same_on : (first second third : Machine) → AreSame first second → AreSame second third → AreSame first third
same_on first second third one other = record {
  classes = classes_on first second third one other;
  other_classes = classes_on third second first (same_turned second third other) (same_turned first second one);
  asks = asks_on first second third one other;
  other_asks = asks_on third second first (same_turned second third other) (same_turned first second one);
  answers = answers_on first second third one other;
}

-- a machine is the same as itself
pub same_itself : (m : Machine) → AreSame m m
same_itself m = record { classes = classes; other_classes = classes; asks = asks; other_asks = asks; answers = answers_itself m }
  where
    classes : classes_alone m m ≡ []
    classes =
        none_kept (λ n. not (has_class m n)) m.classes
        (All-from_get_or (λ n. not (has_class m n) ≡ false) m.classes [] (λ i low. ap not (has_own_class m (get_or m.classes i []) (Contains-get_or m.classes i [] low))))

    asks : asks_alone m m ≡ []
    asks =
        none_kept (λ n. not (has_ask m n)) (names_of m.parts)
        (All-from_get_or (λ n. not (has_ask m n) ≡ false) (names_of m.parts) [] (λ i low. ap not (has_own m (get_or (names_of m.parts) i []) (Contains-get_or (names_of m.parts) i [] low))))
