-- Equal statements stand once.
use denote.Enum.Bare.{sameb, same_true}
use Rattle.std.proofs.Common.{◌≡◌, ◌≢◌, inl, inr, ℕ, ◌+◌, ◌<◌, Bool, true, false, true≢false, List, [], ◌∷◌, ◌++◌, length, get_or, map, take, All, Contains, refl, sym, ap, ◌∙◌, subst, if◌then◌else◌, ⊎_elim, rules}
use Rattle.std.specs.Prelude.{◌==◌, ◌||◌, nat_eq}
use Rattle.std.specs.List.{AllPairs, list_any}
use Rattle.std.specs.Bool.{Decides}
use Rattle.std.specs.Cmp.Lexicographic.{pointwise, pointwise_decides, bytes_decides}
use Rattle.std.proofs.lemmas.Bool.{and_parts, and_from, eqb-true, eq-eqb}
use Rattle.std.proofs.lemmas.List.{map_push, take_more}
use Rattle.std.proofs.lemmas.List.Elements.{All-contains, All-head, All-tail, All-push, Contains-append_left, Contains-push, Contains-push_cases, Contains-get_or}
use Rattle.std.proofs.lemmas.List.Folds.{Any-from_list_any, list_any-from_Any}
use Rattle.std.proofs.lemmas.List.Quantifiers.{all_pairs_push}
use Rattle.indexmap.specs.IndexSet.{insert_key}
use Rattle.hz_base_model.proofs.Elements.{Contains-map, Contains-from_map}
use Rattle.hz_description_model.specs.Reservations.Sets.{Statement}
use Rattle.hz_description_model.specs.Reservations.Sets as model
use Rattle.hz_pipeline_model.specs.Accepting.Fitting.{AskTheSame}
use Rattle.hz_grid.proofs.Units.{same_from_units}
use Rattle.hz_unitsets.specs.declared.set_rules.SetKind.{SetKind}
use Rattle.hz_unitsets.specs.declared.set_rules.SetKind.TheVariants.{Exclusion, Presence, FinalPresence, Absence, FinalAbsence}
use Rattle.hz_unitsets.specs.declared.set_rules.SetRule.{SetRule}
use Rattle.hz_unitsets.specs.declared.row_rules.Rule.{Rule}
use Rattle.hz_unitsets.specs.contracts.row_rules.RulePartialEq.TheImpl.{eq-value}
use Rattle.hz_unitsets.specs.contracts.set_rules.SetKind.{the_type}
use Rattle.hz_unitsets.specs.SetRules.{kind_of, statement_of, statements_of, IsInRange, in_order, each_once, ordered}
use Rattle.hz_unitsets.proofs.Once.{same, each_once-push}
use Rattle.std.proofs.lemmas.Bool.Decides.{same_from_decides}
use Rattle.hz_unitsets.specs.RowRules.{statement_in, IsRow, IsBounded, IsKept, AreSame}
use Rattle.hz_unitsets.proofs.InOrder.{rules_ask_the_same}
use Rattle.hz_unitsets.proofs.RowUnits.{Contains-units_of, unit_from_units_in}
use Rattle.hz_grid.specs.Stored.{units_of}

-- ---- a rule is known by its statement

abbrev equal : Rule → Rule → Bool
equal = eq-value.it

same_row : (one other : ℕ) → IsRow one → IsRow other → units_of one ≡ units_of other → one ≡ other
same_row one other is_one is_other e = same_from_units one other (λ unit. (
  λ h. unit_from_units_in other unit (subst (λ (units : List ℕ). Contains units unit) e (Contains-units_of one unit is_one h)),
  λ h. unit_from_units_in one unit (subst (λ (units : List ℕ). Contains units unit) (sym e) (Contains-units_of other unit is_other h)),
))

same_rows : (xs ys : List ℕ) → All IsRow xs → All IsRow ys → map units_of xs ≡ map units_of ys → xs ≡ ys
same_rows [] [] are_xs are_ys e = refl
same_rows [] (y ∷ ys) are_xs are_ys e = absurd (cc)
same_rows (x ∷ xs) [] are_xs are_ys e = absurd (cc)
same_rows (x ∷ xs) (y ∷ ys) are_xs are_ys e =
    let head : units_of x ≡ units_of y = cc in
    let tail : map units_of xs ≡ map units_of ys = cc in
    let first = same_row x y (All-head IsRow x xs are_xs) (All-head IsRow y ys are_ys) head in
    let rest = same_rows xs ys (All-tail IsRow x xs are_xs) (All-tail IsRow y ys are_ys) tail in
    ap (λ r. r ∷ xs) first ∙ ap (λ rs. y ∷ rs) rest

rows_decide : (xs ys : List ℕ) → Decides (pointwise (λ a b. a == b) xs ys) (xs ≡ ys)
rows_decide = pointwise_decides (λ a b. (eqb-true a b, eq-eqb a b))

-- ---- rows of which each stands once

same_key : (row key : ℕ) → IsRow row → IsRow key → nat_eq row key ≡ same (units_of row) (units_of key)
same_key row key is_row is_key =
    let units = bytes_decides (units_of row) (units_of key) in
    same_from_decides {P = row ≡ key} _ _ (eqb-true row key, eq-eqb row key) (λ t. same_row row key is_row is_key (units.0 t), λ e. units.1 (ap units_of e))

among_rows : (row : ℕ) (keys : List ℕ) → IsRow row → All IsRow keys → list_any (nat_eq row) keys ≡ list_any (same (units_of row)) (map units_of keys)
among_rows row [] is are = refl
among_rows row (key ∷ keys) is are =
    ap (λ b. b || list_any (nat_eq row) keys) (same_key row key is (All-head IsRow key keys are))
    ∙ ap (λ b. same (units_of row) (units_of key) || b) (among_rows row keys is (All-tail IsRow key keys are))

pub units_inserted : (keys : List ℕ) (row : ℕ) → IsRow row → All IsRow keys → map units_of (insert_key nat_eq keys row) ≡ insert_key same (map units_of keys) (units_of row)
units_inserted keys row is are = by (list_any (nat_eq row) keys) refl
  where
    among : list_any (nat_eq row) keys ≡ list_any (same (units_of row)) (map units_of keys)
    among = among_rows row keys is are

    by : (b : Bool) → list_any (nat_eq row) keys ≡ b → map units_of (insert_key nat_eq keys row) ≡ insert_key same (map units_of keys) (units_of row)
    by true e = ap (λ b. map units_of (if b then keys else keys ++ row ∷ [])) e ∙ sym (ap (λ b. if b then map units_of keys else map units_of keys ++ units_of row ∷ []) (sym among ∙ e))
    by false e = ap (λ b. map units_of (if b then keys else keys ++ row ∷ [])) e ∙ map_push units_of keys row ∙ sym (ap (λ b. if b then map units_of keys else map units_of keys ++ units_of row ∷ []) (sym among ∙ e))

pub rows_inserted : (keys : List ℕ) (row : ℕ) → IsRow row → All IsRow keys → All IsRow (insert_key nat_eq keys row)
rows_inserted keys row is are = by (list_any (nat_eq row) keys) refl
  where
    by : (b : Bool) → list_any (nat_eq row) keys ≡ b → All IsRow (insert_key nat_eq keys row)
    by true e = subst (All IsRow) (sym (ap (λ b. if b then keys else keys ++ row ∷ []) e)) are
    by false e = subst (All IsRow) (sym (ap (λ b. if b then keys else keys ++ row ∷ []) e)) (All-push IsRow keys row are is)

-- one more pattern
pub once_more_row : (patterns : List (List ℕ)) (pattern : List ℕ) (keys new : List ℕ) (row : ℕ) → new ≡ insert_key nat_eq keys row → IsRow row → All IsRow keys → units_of row ≡ in_order pattern → map units_of keys ≡ each_once (map in_order patterns) → map units_of new ≡ each_once (map in_order (patterns ++ pattern ∷ []))
once_more_row patterns pattern keys new row inserted is are units so_far =
    ap (map units_of) inserted
    ∙ units_inserted keys row is are
    ∙ ap (λ (ks : List (List ℕ)). insert_key same ks (units_of row)) so_far
    ∙ ap (insert_key same (each_once (map in_order patterns))) units
    ∙ sym (each_once-push (map in_order patterns) (in_order pattern))
    ∙ ap each_once (sym (map_push in_order patterns pattern))

kind_from : model.SetKind → SetKind
kind_from model.exclusion = Exclusion
kind_from model.presence = Presence
kind_from model.final_presence = FinalPresence
kind_from model.absence = Absence
kind_from model.final_absence = FinalAbsence

kind_again : (kind : SetKind) → kind_from (kind_of kind) ≡ kind
unfolding kind_from
kind_again Exclusion = refl
kind_again Presence = refl
kind_again FinalPresence = refl
kind_again Absence = refl
kind_again FinalAbsence = refl

kind_itself : (kind : SetKind) → sameb the_type kind kind ≡ true
kind_itself Exclusion = refl
kind_itself Presence = refl
kind_itself FinalPresence = refl
kind_itself Absence = refl
kind_itself FinalAbsence = refl

statement_of_equal : (x y : Rule) → equal x y ≡ true → statement_in x ≡ statement_in y
statement_of_equal x y e =
    let parts = and_parts _ _ e in
    let rows = and_parts _ _ parts.1 in
    let kind : x.kind ≡ y.kind = same_true the_type (search rules) _ _ parts.0 in
    let units = eqb-true x.units y.units rows.0 in
    let patterns = (rows_decide x.patterns.items y.patterns.items).0 rows.1 in
    λ i. record { kind = kind_of (kind i); units = units_of (units i); patterns = map units_of (patterns i) }

equal_by_statement : (x y : Rule) → IsBounded x → IsBounded y → statement_in x ≡ statement_in y → equal x y ≡ true
equal_by_statement x y is_x is_y e =
    let kind : x.kind ≡ y.kind = sym (kind_again x.kind) ∙ ap (λ (s : Statement ℕ). kind_from s.kind) e ∙ kind_again y.kind in
    let units = same_row x.units y.units is_x.units is_y.units (ap (λ (s : Statement ℕ). s.units) e) in
    let patterns = same_rows x.patterns.items y.patterns.items is_x.patterns is_y.patterns (ap (λ (s : Statement ℕ). s.patterns) e) in
    and_from _ _ (subst (λ k. sameb the_type x.kind k ≡ true) kind (kind_itself x.kind)) (and_from _ _ (eq-eqb _ _ units) ((rows_decide x.patterns.items y.patterns.items).1 patterns))

-- ---- a rule that is kept

pub kept : (old : List Rule) (rule : Rule) → All IsBounded old → IsBounded rule → IsKept (map statement_in old) (statement_in rule) (map statement_in (insert_key equal old rule))
kept old rule are is = by (list_any (equal rule) old) refl
  where
    by : (b : Bool) → list_any (equal rule) old ≡ b → IsKept (map statement_in old) (statement_in rule) (map statement_in (insert_key equal old rule))
    by true e =
        let found = Any-from_list_any (equal rule) old e in
        let there = Contains-map statement_in old found.1 (found.0, found.2, found.3) in
        inl (subst (Contains (map statement_in old)) (sym (statement_of_equal rule found.1 found.4)) there, ap (λ b. map statement_in (if b then old else old ++ rule ∷ [])) e)
    by false e = inr (
      λ h.
          let found = Contains-from_map statement_in old (statement_in rule) h in
          let same = equal_by_statement rule found.0 is (All-contains IsBounded old found.0 are found.1) (sym found.2) in
          true≢false (sym (list_any-from_Any (equal rule) old (found.1.0, found.0, found.1.1, found.1.2, same)) ∙ e),
      ap (λ b. map statement_in (if b then old else old ++ rule ∷ [])) e ∙ map_push statement_in old rule,
    )

pub bounded_kept : (old : List Rule) (rule : Rule) → All IsBounded old → IsBounded rule → All IsBounded (insert_key equal old rule)
bounded_kept old rule are is = by (list_any (equal rule) old) refl
  where
    by : (b : Bool) → list_any (equal rule) old ≡ b → All IsBounded (insert_key equal old rule)
    by true e = subst (All IsBounded) (sym (ap (λ b. if b then old else old ++ rule ∷ []) e)) are
    by false e = subst (All IsBounded) (sym (ap (λ b. if b then old else old ++ rule ∷ []) e)) (All-push IsBounded old rule are is)

-- ---- rules of sets

-- the rules are those of the sets, each once
pub record AreRulesOf (sets : List SetRule) (rules : List Rule) : Type 0 where
  pub bounded : All IsBounded rules
  pub same : AreSame (map statement_in rules) (map ordered (map statement_of sets))
  pub once : AllPairs (λ one other. one ≢ other) (map statement_in rules)

-- one more item
module _ (old new others : List (Statement ℕ)) (s other : Statement ℕ) (is : IsKept old s new) (e : s ≡ other) where
  same_more : AreSame old others → AreSame new (others ++ other ∷ [])
  same_more same = record {
    there = λ r h. ⊎_elim
        (λ stays. Contains-append_left others (other ∷ []) r (same.there r (subst (λ (xs : List (Statement ℕ)). Contains xs r) stays.1 h)))
        (λ more. ⊎_elim
        (λ before. Contains-append_left others (other ∷ []) r (same.there r before))
        (λ last. subst (Contains (others ++ other ∷ [])) (sym e ∙ last) (Contains-push others other))
        (Contains-push_cases old s r (subst (λ (xs : List (Statement ℕ)). Contains xs r) more.1 h)))
        is;
    back = λ r h. ⊎_elim
        (λ before. old_stays r (same.back r before))
        (λ last. subst (Contains new) (e ∙ last) s_stands)
        (Contains-push_cases others other r h);
  }
    where
      old_stays : (r : Statement ℕ) → Contains old r → Contains new r
      old_stays r h = ⊎_elim
          (λ stays. subst (λ (xs : List (Statement ℕ)). Contains xs r) (sym stays.1) h)
          (λ more. subst (λ (xs : List (Statement ℕ)). Contains xs r) (sym more.1) (Contains-append_left old (s ∷ []) r h))
          is

      s_stands : Contains new s
      s_stands = ⊎_elim
          (λ stays. subst (λ (xs : List (Statement ℕ)). Contains xs s) (sym stays.1) stays.0)
          (λ more. subst (λ (xs : List (Statement ℕ)). Contains xs s) (sym more.1) (Contains-push old s))
          is

  once_more : AllPairs (λ a b. a ≢ b) old → AllPairs (λ a b. a ≢ b) new
  once_more once = ⊎_elim
      (λ stays. subst (AllPairs (λ (a b : Statement ℕ). a ≢ b)) (sym stays.1) once)
      (λ more. subst (AllPairs (λ (a b : Statement ℕ). a ≢ b)) (sym more.1) (all_pairs_push (λ a b. a ≢ b) old s once (λ k d within same. more.0 (subst (Contains old) same (Contains-get_or old k d within)))))
      is

-- lists with the same statements ask the same
pub same_ask : (first second : List (Statement ℕ)) → AreSame first second → AskTheSame first second
same_ask first second same source pairs now = (
  λ h. record { apart = h.apart; allowed = λ s is. h.allowed s (same.back s is) },
  λ h. record { apart = h.apart; allowed = λ s is. h.allowed s (same.there s is) },
)

pub sets_ask : (sets : List SetRule) (statements : List (Statement ℕ)) → All IsInRange sets → AreSame statements (map ordered (statements_of sets)) → AskTheSame statements (statements_of sets)
sets_ask sets statements small same source pairs now =
    let one = same_ask _ _ same source pairs now in
    let two = rules_ask_the_same sets small source pairs now in
    (λ h. two.0 (one.0 h), λ h. one.1 (two.1 h))

pub more_rules : (sets : List SetRule) (i : ℕ) (d : SetRule) (old new : List Rule) (rule : Rule) → i < length sets → AreRulesOf (take i sets) old
    → statement_in rule ≡ ordered (statement_of (get_or sets i d)) → All IsBounded new → IsKept (map statement_in old) (statement_in rule) (map statement_in new) → AreRulesOf (take (i + 1) sets) new
more_rules sets i d old new rule within so_far e bounded is =
    let more : map ordered (map statement_of (take (i + 1) sets)) ≡ map ordered (map statement_of (take i sets)) ++ ordered (statement_of (get_or sets i d)) ∷ [] = rw (take_more sets i d within, map_push, map_push) refl in
    record {
      bounded = bounded;
      same = subst (AreSame (map statement_in new)) (sym more) (same_more _ _ _ _ _ is e so_far.same);
      once = once_more _ _ [] _ _ is refl so_far.once;
    }
