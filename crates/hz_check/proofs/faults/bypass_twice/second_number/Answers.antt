use Rattle.std.proofs.Common.{◌≡◌, ℕ, List, ◌<◌, ◌≤◌, ◌+◌, ◌==◌, ◌&&◌, cond, Bool, Option, ◌∷◌, ◌++◌, [], false, Some, None, All, not, Vec, Global, filter, map, take, drop, get_or, length, arith, sym, ap, subst, ◌∙◌}
use Rattle.std.proofs.lemmas.List.{get_or-map, length-map}
use Rattle.std.proofs.lemmas.List.Elements.{All-filter, filter-append}
use Rattle.std.specs.List.{list_any, AllPairs, drop-map}
use Rattle.hz_mdread.specs.declared.items.BypassItem.{BypassItem as StoredBypass}
use Rattle.hz_mdread.specs.declared.items.ClassItem.{ClassItem as StoredClass}
use Rattle.hz_mdread.specs.declared.description.Description.{Description as StoredDescription}
use Rattle.hz_mdread.specs.Shape.{description, bypass_item, class_item}
use Rattle.hz_checked.specs.NumberRows.{rows_of, number_at, is_other}
use Rattle.hz_check.proofs.HeldNumbers.{HoldsNumbers}
use Rattle.hz_check.specs.Names.First.{first_of}
use Rattle.hz_check.proofs.Telling.BypassSteps.{reported_here, not_here, holds_next}
use Rattle.hz_checked.proofs.RowSteps.{AllPairs-drop}
use Rattle.hz_check.proofs.Tables.KnownNames.{known_bypass, first_holds, item_at}
use Rattle.hz_check.proofs.Lists.Next.{drop_next, done_next}
use Rattle.hz_base_model.proofs.Ascending.{AllPairs-head}
use Rattle.hz_description_model.specs.Check.CheckFaults.{unknown_names, is_class, renumbered_after}
use Rattle.hz_description_model.specs.Check.Places.{class_names}
use Rattle.hz_description_model.specs.Check.Sites.{earliest}
use Rattle.hz_description_model.specs.Check.CheckedParts.{class_numbers}
use Rattle.hz_description_model.specs.Reading.Descriptions.{BypassItem, unguarded}
use Rattle.hz_check.proofs.faults.bypass_twice.second_number.Goals as goal

-- the bypasses that are left are of later forms
later_forms : (items : List StoredBypass) (i : ℕ) (item : StoredBypass) → item ≡ get_or items i item → i < length items → AllPairs (λ a b. a.form ≤ b.form) (map bypass_item items)
    → All (λ c. item.form ≤ c.form) (map bypass_item (drop (i + 1) items))
later_forms items i item is lt ordered =
    let rest : List BypassItem = map bypass_item (drop (i + 1) items) in
    let here : AllPairs (λ a b. a.form ≤ b.form) (bypass_item item ∷ rest) =
    subst (λ (bs : List BypassItem). AllPairs (λ a b. a.form ≤ b.form) bs) (drop-map bypass_item i items ∙ ap (map bypass_item) (drop_next items i item is lt)) (AllPairs-drop (λ a b. a.form ≤ b.form) i (map bypass_item items) ordered) in
    λ k d within. omega (arith, AllPairs-head (λ a b. a.form ≤ b.form) (bypass_item item) rest here k d within)

module _ (items : List StoredBypass) (i : ℕ) (item : StoredBypass) (is : item ≡ get_or items i item) (lt : i < length items) where
  abbrev before : List BypassItem
  before = map bypass_item (take i items)

  abbrev after : List BypassItem
  after = map bypass_item (drop (i + 1) items)

  left_by : unguarded (map bypass_item (drop i items)) ≡ cond (not item.guard) (bypass_item item ∷ unguarded after) (unguarded after)
  left_by = ap (λ (xs : List StoredBypass). unguarded (map bypass_item xs)) (drop_next items i item is lt)

  done_by : unguarded (map bypass_item (take (i + 1) items)) ≡ unguarded before ++ cond (not item.guard) (bypass_item item ∷ []) []
  done_by = ap unguarded (done_next bypass_item items i item is lt) ∙ filter-append (λ (b : BypassItem). not b.guard) before (bypass_item item ∷ [])

  -- a bypass without the guard is the next of those that are left
  left_plain : item.guard ≡ false → unguarded (map bypass_item (drop i items)) ≡ bypass_item item ∷ unguarded after
  left_plain e = left_by ∙ ap (λ (g : Bool). cond (not g) (bypass_item item ∷ unguarded after) (unguarded after)) e

  -- the same of those that are done
  done_plain : item.guard ≡ false → unguarded (map bypass_item (take (i + 1) items)) ≡ unguarded before ++ bypass_item item ∷ []
  done_plain e = done_by ∙ ap (λ (g : Bool). unguarded before ++ cond (not g) (bypass_item item ∷ []) []) e

pub index-requires : goal.index-requires
index-requires c =
    let stored = c.args.names.now.desc.now in
    first_holds (λ o. o < stored.classes.len) _ c.deref-in-loop-bypass-3.result.now c.in-Some.out (subst (λ os. All (λ o. o < stored.classes.len) os) (sym c.deref-in-loop-bypass-3.ensures.value) c.in_ok-outs.ensures.within) c.in-Some.ensures

-- the first producing class with another number
abbrev first_by : ℕ → List (Vec (Option ℕ) Global) → List ℕ → List ℕ → Option ℕ
first_by number rows outs ins = first_of (filter (λ o. list_any (λ i. is_other (number_at (rows_of rows) o i) number) ins) outs)

first_same : (number : ℕ) (rows rows' : List (Vec (Option ℕ) Global)) (outs outs' ins ins' : List ℕ) → rows ≡ rows' → outs ≡ outs' → ins ≡ ins' → first_by number rows outs ins ≡ first_by number rows' outs' ins'
first_same number rows rows' outs outs' ins ins' e f g =
    ap (λ (rs : List (Vec (Option ℕ) Global)). first_by number rs outs ins) e ∙ (ap (λ (os : List ℕ). first_by number rows' os ins) f ∙ ap (first_by number rows' outs') g)

-- a bypass of a description without unknown names
known_at : (stored : StoredDescription) (slice : List StoredBypass) (i : ℕ) (item : StoredBypass) → slice ≡ stored.bypasses.items → item ≡ get_or slice i item → i < length slice → earliest (unknown_names (description stored)) ≡ None
    → (filter (λ name. not (is_class (description stored) name)) item.outs.items ≡ []) × (filter (λ name. not (is_class (description stored) name)) item.ins.items ≡ [])
known_at stored slice i item same is lt none =
    known_bypass (description stored) i (bypass_item item) none
    (omega (arith, ap length same, length-map stored.bypasses.items bypass_item))
    (subst (λ (xs : List StoredBypass). bypass_item item ≡ get_or (map bypass_item xs) i (bypass_item item)) same (item_at bypass_item slice i item is lt))

-- the name of a class by its number
class_name : (stored : StoredDescription) (out : ℕ) (class : StoredClass) → out < stored.classes.len → class ≡ get_or stored.classes.items out class → get_or (class_names (description stored)) out [] ≡ class.name
class_name stored out class lt is =
    let within : out < length stored.classes.items = omega (arith, stored.classes.ok.0) in
    get_or-map (λ k. k.name) (map class_item stored.classes.items) out (class_item class) [] (omega (arith, length-map stored.classes.items class_item))
    ∙ ap (λ k. k.name) (sym (item_at class_item stored.classes.items out class is within))

pub returns-in-Some : goal.returns-in-Some
returns-in-Some c =
    let stored = c.args.names.now.desc.now in
    let d = description stored in
    let items = c.deref-bypass-items.result.now in
    let i = c.loop-bypass.bypass-index in
    let item = c.bypass-item.result in
    let outs = c.in_ok-outs.outs.items in
    let ins = c.in_ok-ins.ins.items in
    let out = c.in-Some.out in
    let rows = c.loop-bypass.rows.items in
    let known = known_at stored items i item c.deref-bypass-items.ensures.value c.bypass-item.is c.loop-bypass-test.true c.requires.known in
    let found = sym (c.in-Some.ensures ∙ first_same item.number _ rows _ outs _ ins c.deref-in-loop-bypass-2.ensures.value c.deref-in-loop-bypass-3.ensures.value c.deref-in-loop-bypass-4.ensures.value) in
    let ordered = subst (λ (xs : List StoredBypass). AllPairs (λ a b. a.form ≤ b.form) (map bypass_item xs)) (sym c.deref-bypass-items.ensures.value) c.requires.ordered in
    let within = first_holds (λ o. o < stored.classes.len) _ c.deref-in-loop-bypass-3.result.now out (subst (λ os. All (λ o. o < stored.classes.len) os) (sym c.deref-in-loop-bypass-3.ensures.value) c.in_ok-outs.ensures.within) c.in-Some.ensures in
    ap (λ name. Some (record { line = item.line; form = item.form; name = name })) (sym (class_name stored out c.index.result.now within c.index.ensures))
    ∙ (reported_here d (rows_of rows) (unguarded (map bypass_item (take i items))) (bypass_item item) outs ins c.loop-bypass.invariant.numbers known.0 known.1
    (λ p. c.in_ok-outs.ensures.firsts p ∙ ap (λ names. first_of (filter p (class_numbers d names))) c.deref.ensures.value)
    (λ p. c.in_ok-ins.ensures.firsts p ∙ ap (λ names. first_of (filter p (class_numbers d names))) c.deref-in-loop-bypass.ensures.value)
    out (unguarded (map bypass_item (drop (i + 1) items))) found (All-filter (λ (b : BypassItem). not b.guard) (λ b. item.form ≤ b.form) (map bypass_item (drop (i + 1) items)) (later_forms items i item c.bypass-item.is c.loop-bypass-test.true ordered))
    ∙ sym (c.loop-bypass.invariant.rest ∙ ap (λ bs. earliest (renumbered_after (unguarded (map bypass_item (take i items))) bs)) (left_plain items i item c.bypass-item.is c.loop-bypass-test.true c.if-bypass.false)))

pub loop-bypass-preserved : goal.loop-bypass-preserved
loop-bypass-preserved c =
    let stored = c.args.names.now.desc.now in
    let d = description stored in
    let items = c.deref-bypass-items.result.now in
    let i = c.loop-bypass.bypass-index in
    let item = c.bypass-item.result in
    let outs = c.in_ok-outs.outs.items in
    let ins = c.in_ok-ins.ins.items in
    let rows = c.loop-bypass.rows.items in
    let before = unguarded (map bypass_item (take i items)) in
    let known = known_at stored items i item c.deref-bypass-items.ensures.value c.bypass-item.is c.loop-bypass-test.true c.requires.known in
    let none = sym (c.in_default.ensures ∙ first_same item.number _ rows _ outs _ ins c.deref-in-loop-bypass-2.ensures.value c.deref-in-loop-bypass-3.ensures.value c.deref-in-loop-bypass-4.ensures.value) in
    let first_outs = λ (p : ℕ → Bool). c.in_ok-outs.ensures.firsts p ∙ ap (λ names. first_of (filter p (class_numbers d names))) c.deref.ensures.value in
    let first_ins = λ (p : ℕ → Bool). c.in_ok-ins.ensures.firsts p ∙ ap (λ names. first_of (filter p (class_numbers d names))) c.deref-in-loop-bypass.ensures.value in
    let done = done_plain items i item c.bypass-item.is c.loop-bypass-test.true c.if-bypass.false in
    record {
      len = c.in_ok-give_all.ensures.len ∙ c.loop-bypass.invariant.len;
      numbers = subst (HoldsNumbers d (rows_of c.give_all.new.rows.items)) (sym done)
          (holds_next d (rows_of rows) before (bypass_item item) outs ins c.loop-bypass.invariant.numbers known.0 known.1 first_outs first_ins (rows_of c.give_all.new.rows.items) none
          (λ o j. c.in_ok-give_all.ensures.numbers o j
          ∙ (ap (λ os. cond (list_any (λ p. p == o) os && list_any (λ k. k == j) c.deref-in-loop-bypass-6.result.now) (Some item.number) (number_at (rows_of rows) o j)) c.deref-in-loop-bypass-5.ensures.value
          ∙ ap (λ is. cond (list_any (λ p. p == o) outs && list_any (λ k. k == j) is) (Some item.number) (number_at (rows_of rows) o j)) c.deref-in-loop-bypass-6.ensures.value)));
      rest = c.loop-bypass.invariant.rest
          ∙ (ap (λ bs. earliest (renumbered_after before bs)) (left_plain items i item c.bypass-item.is c.loop-bypass-test.true c.if-bypass.false)
          ∙ (not_here d (rows_of rows) before (bypass_item item) outs ins c.loop-bypass.invariant.numbers known.0 known.1 first_outs first_ins (unguarded (map bypass_item (drop (i + 1) items))) none
          ∙ ap (λ done. earliest (renumbered_after done (unguarded (map bypass_item (drop (i + 1) items))))) (sym done)));
    }
