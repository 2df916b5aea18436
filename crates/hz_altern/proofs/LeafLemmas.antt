-- What expressions with one alternative are taken apart into.
use Rattle.std.proofs.Common.{◌≡◌, ◌↔◌, ◌⊎◌, inl, inr, ℕ, ◌+◌, ◌*◌, ◌≤◌, max, ⊎_elim, Bool, true, false, cond, List, [], ◌∷◌, ◌++◌, length, take, drop, slice_get, Option, Some, Contains, refl, sym, ap, ◌∙◌, subst, arith, zero-add, if◌then◌else◌}
use Rattle.std.proofs.lemmas.List.{append-nil, map-append, take_more, take-append-drop}
use Rattle.std.proofs.lemmas.List.Elements.{Contains-append_left, Contains-append_right, Contains-append_cases}
use Rattle.std.proofs.lemmas.Option.{slice_get_within, get_or_from_slice_get}
use Rattle.std.specs.Map.{lookup}
use Rattle.indexmap.specs.IndexMap.{insert_entry}
use Rattle.hz_base_model.specs.Pairs.{Pair, placed, later}
use Rattle.hz_base_model.proofs.Elements.{Contains-nil}
use Rattle.hz_grid.specs.Sets.{HasCycle, IsLater, IsCopied}
use Rattle.hz_grid.specs.declared.cycles.Cycles.{Cycles}
use Rattle.hz_altern.specs.declared.known.Known.{Known}
use Rattle.hz_altern.specs.declared.listing.leaves.Leaves.{Leaves}
use Rattle.hz_altern.specs.Leaves.{all_pairs, BeginsIn, Begins, BeginsToo, BeginsInCopy, AddsCopies, HasIn, TakesIn, Takes, EndsBy, IsGathered}
use Rattle.hz_altern.specs.Tables.{known_alternatives}
use Rattle.hz_altern.proofs.Lengths.{greatest-followed, greatest-beside}
use Rattle.hz_description_model.specs.Reservations.Alternatives.{Alternative, followed_by, beside, each_choice}
use Rattle.hz_description_model.specs.Reservations.AlternativeLists.{greatest_length}
use Rattle.hz_description_model.specs.Reservations.Automata.{UnitPlace}

abbrev Pairs : Type 0
Pairs = List (Pair UnitPlace)

abbrev Alternatives : Type 0
Alternatives = List (Alternative UnitPlace)

abbrev Entries : Type 0
Entries = List (List ℕ × Cycles)

-- ---- entries

module _ (name : List ℕ) (cycle : ℕ) where
  pub begins_front : (es fs : Entries) → BeginsIn es name cycle → BeginsIn (es ++ fs) name cycle
  begins_front [] fs b = absurd b
  begins_front (e ∷ es) fs (inl here) = inl here
  begins_front (e ∷ es) fs (inr there) = inr (begins_front es fs there)

  pub begins_back : (es fs : Entries) → BeginsIn fs name cycle → BeginsIn (es ++ fs) name cycle
  begins_back [] fs b = b
  begins_back (e ∷ es) fs b = inr (begins_back es fs b)

  pub begins_cases : (es fs : Entries) → BeginsIn (es ++ fs) name cycle → BeginsIn es name cycle ⊎ BeginsIn fs name cycle
  begins_cases [] fs b = inr b
  begins_cases (e ∷ es) fs (inl here) = inl (inl here)
  begins_cases (e ∷ es) fs (inr there) = ⊎_elim (λ (b : BeginsIn es name cycle). inl (inr b)) (λ (b : BeginsIn fs name cycle). inr b) (begins_cases es fs there)

-- the cycles of a name with further ones, in the place of those that it had
module _ (eq : List ℕ → List ℕ → Bool) (same : (x y : List ℕ) → eq x y ≡ true → x ≡ y) (name : List ℕ) (more all : Cycles) where
  abbrev pub Joined : Option Cycles → Type 0
  Joined before = (cycle : ℕ) → HasCycle all cycle ↔ (HasIn before cycle ⊎ HasCycle more cycle)

  abbrev pub More : (old new : Entries) → Type 0
  More old new = (other : List ℕ) (cycle : ℕ) → BeginsIn new other cycle ↔ (BeginsIn old other cycle ⊎ ((name ≡ other) × HasCycle more cycle))

  here_more : (e : List ℕ × Cycles) (es : Entries) → name ≡ e.0 → Joined (Some e.1) → More (e ∷ es) ((e.0, all) ∷ es)
  here_more e es is joined other cycle = (there, back)
    where
      there : BeginsIn ((e.0, all) ∷ es) other cycle → BeginsIn (e ∷ es) other cycle ⊎ ((name ≡ other) × HasCycle more cycle)
      there (inl h) = ⊎_elim (λ (old : HasCycle e.1 cycle). inl (inl (h.0, old))) (λ (new : HasCycle more cycle). inr (is ∙ h.0, new)) ((joined cycle).0 h.1)
      there (inr b) = inl (inr b)

      back : BeginsIn (e ∷ es) other cycle ⊎ ((name ≡ other) × HasCycle more cycle) → BeginsIn ((e.0, all) ∷ es) other cycle
      back (inl (inl h)) = inl (h.0, (joined cycle).1 (inl h.1))
      back (inl (inr b)) = inr b
      back (inr h) = inl (sym is ∙ h.0, (joined cycle).1 (inr h.1))

  there_more : (e : List ℕ × Cycles) (es fs : Entries) → More es fs → More (e ∷ es) (e ∷ fs)
  there_more e es fs rest other cycle = (there, back)
    where
      there : BeginsIn (e ∷ fs) other cycle → BeginsIn (e ∷ es) other cycle ⊎ ((name ≡ other) × HasCycle more cycle)
      there (inl h) = inl (inl h)
      there (inr b) = ⊎_elim (λ (old : BeginsIn es other cycle). inl (inr old)) (λ (new : (name ≡ other) × HasCycle more cycle). inr new) ((rest other cycle).0 b)

      back : BeginsIn (e ∷ es) other cycle ⊎ ((name ≡ other) × HasCycle more cycle) → BeginsIn (e ∷ fs) other cycle
      back (inl (inl h)) = inl h
      back (inl (inr b)) = inr ((rest other cycle).1 (inl b))
      back (inr h) = inr ((rest other cycle).1 (inr h))

  pub inserted : (es : Entries) → Joined (lookup (eq name) es) → More es (insert_entry eq es name all)
  inserted [] joined = λ other cycle. (there other cycle, back other cycle)
    where
      there : (other : List ℕ) (cycle : ℕ) → BeginsIn ((name, all) ∷ []) other cycle → BeginsIn [] other cycle ⊎ ((name ≡ other) × HasCycle more cycle)
      there other cycle (inl h) = ⊎_elim (λ (none : ⊥). absurd none) (λ (new : HasCycle more cycle). inr (h.0, new)) ((joined cycle).0 h.1)
      there other cycle (inr b) = absurd b

      back : (other : List ℕ) (cycle : ℕ) → BeginsIn [] other cycle ⊎ ((name ≡ other) × HasCycle more cycle) → BeginsIn ((name, all) ∷ []) other cycle
      back other cycle (inl b) = absurd b
      back other cycle (inr h) = inl (h.0, (joined cycle).1 (inr h.1))
  inserted (e ∷ es) joined = by (eq name e.0) refl (inserted es) joined
    where
      by : (b : Bool) → eq name e.0 ≡ b → (Joined (lookup (eq name) es) → More es (insert_entry eq es name all)) → Joined (cond b (Some e.1) (lookup (eq name) es)) → More (e ∷ es) (if b then (e.0, all) ∷ es else e ∷ insert_entry eq es name all)
      by true is rest joined = here_more e es (same name e.0 is) joined
      by false is rest joined = there_more e es (insert_entry eq es name all) (rest joined)

-- the entries up to one at a place
pub next_entry : (es : Entries) (i : ℕ) (e : List ℕ × Cycles) → slice_get es i ≡ Some e → take (i + 1) es ≡ take i es ++ e ∷ []
next_entry es i e at = take_more es i e (slice_get_within es i e at) ∙ ap (λ (f : List ℕ × Cycles). take i es ++ f ∷ []) (get_or_from_slice_get es i e e at)

-- an entry at a place is among all
pub begins_at : (es : Entries) (i : ℕ) (e : List ℕ × Cycles) (cycle : ℕ) → slice_get es i ≡ Some e → HasCycle e.1 cycle → BeginsIn es e.0 cycle
begins_at es i e cycle at has =
    subst (λ (fs : Entries). BeginsIn fs e.0 cycle) (take-append-drop (i + 1) es)
    (begins_front e.0 cycle (take (i + 1) es) (drop (i + 1) es)
    (subst (λ (fs : Entries). BeginsIn fs e.0 cycle) (sym (next_entry es i e at)) (begins_back e.0 cycle (take i es) (e ∷ []) (inl (refl, has)))))

-- ---- copies of entries

module _ (times apart start : ℕ) (name : List ℕ) (cycle : ℕ) where
  abbrev InCopy : Entries → Type 0
  InCopy es = BeginsInCopy es times apart start name cycle

  copy_of : (es fs : Entries) → ((c : ℕ) → BeginsIn es name c → BeginsIn fs name c) → InCopy es → InCopy fs
  copy_of es fs more b = record { inside = b.inside; copy = b.copy; within = b.within; earlier = b.earlier; begins = more b.earlier b.begins; later = b.later }

  copy_cases : (es fs : Entries) → InCopy (es ++ fs) → InCopy es ⊎ InCopy fs
  copy_cases es fs b = ⊎_elim
      (λ (h : BeginsIn es name b.earlier). inl (record { inside = b.inside; copy = b.copy; within = b.within; earlier = b.earlier; begins = h; later = b.later }))
      (λ (h : BeginsIn fs name b.earlier). inr (record { inside = b.inside; copy = b.copy; within = b.within; earlier = b.earlier; begins = h; later = b.later }))
      (begins_cases name b.earlier es fs b.begins)

  module _ (owner : List ℕ) (cycles copied placed_later : Cycles) (are_copied : (c : ℕ) → HasCycle copied c ↔ IsCopied cycles times apart c) (are_later : (c : ℕ) → HasCycle placed_later c ↔ IsLater copied start c) where
    copy_there : (owner ≡ name) × HasCycle placed_later cycle → InCopy ((owner, cycles) ∷ [])
    copy_there h =
        let l = (are_later cycle).0 h.1 in
        let k = (are_copied l.1).0 l.2 in
        let below = k.0 in
        let from = k.5 in
        let to = l.3 in
        record { inside = l.0; copy = k.1; within = k.2; earlier = k.3; begins = inl (h.0, k.4); later = omega arith }

    copy_back : InCopy ((owner, cycles) ∷ []) → (owner ≡ name) × HasCycle placed_later cycle
    copy_back b = by b.begins
      where
        by : BeginsIn ((owner, cycles) ∷ []) name b.earlier → (owner ≡ name) × HasCycle placed_later cycle
        by (inr none) = absurd none
        by (inl h) =
            let is = b.later in
            let small = b.inside in
            (h.0, (are_later cycle).1 (b.inside, b.copy * apart + b.earlier, (are_copied (b.copy * apart + b.earlier)).1 (omega arith, b.copy, b.within, b.earlier, h.1, refl), is))

-- one more entry is added in the cycles of all copies
pub copies_more : (es : Entries) (times apart start i : ℕ) (old mid new : Leaves) (owner : List ℕ) (cycles copied placed_later : Cycles) → slice_get es i ≡ Some (owner, cycles)
    → ((c : ℕ) → HasCycle copied c ↔ IsCopied cycles times apart c) → ((c : ℕ) → HasCycle placed_later c ↔ IsLater copied start c) → BeginsToo mid new owner placed_later
    → AddsCopies (take i es) times apart start old mid → AddsCopies (take (i + 1) es) times apart start old new
copies_more es times apart start i old mid new owner cycles copied placed_later at are_copied are_later begins before = subst (λ (fs : Entries). AddsCopies fs times apart start old new) (sym (next_entry es i (owner, cycles) at)) (λ name cycle. (there name cycle, back name cycle))
  where
    front : Entries
    front = take i es

    there : (name : List ℕ) (cycle : ℕ) → Begins new name cycle → Begins old name cycle ⊎ BeginsInCopy (front ++ (owner, cycles) ∷ []) times apart start name cycle
    there name cycle b = ⊎_elim
        (λ (h : Begins mid name cycle). ⊎_elim
        (λ (o : Begins old name cycle). inl o)
        (λ (f : BeginsInCopy front times apart start name cycle). inr (copy_of times apart start name cycle front (front ++ (owner, cycles) ∷ []) (λ c. begins_front name c front ((owner, cycles) ∷ [])) f))
        ((before name cycle).0 h))
        (λ (h : (owner ≡ name) × HasCycle placed_later cycle). inr (copy_of times apart start name cycle ((owner, cycles) ∷ []) (front ++ (owner, cycles) ∷ []) (λ c. begins_back name c front ((owner, cycles) ∷ []))
        (copy_there times apart start name cycle owner cycles copied placed_later are_copied are_later h)))
        ((begins name cycle).0 b)

    back : (name : List ℕ) (cycle : ℕ) → Begins old name cycle ⊎ BeginsInCopy (front ++ (owner, cycles) ∷ []) times apart start name cycle → Begins new name cycle
    back name cycle (inl o) = (begins name cycle).1 (inl ((before name cycle).1 (inl o)))
    back name cycle (inr b) = ⊎_elim
        (λ (f : BeginsInCopy front times apart start name cycle). (begins name cycle).1 (inl ((before name cycle).1 (inr f))))
        (λ (l : BeginsInCopy ((owner, cycles) ∷ []) times apart start name cycle). (begins name cycle).1 (inr (copy_back times apart start name cycle owner cycles copied placed_later are_copied are_later l)))
        (copy_cases times apart start name cycle front ((owner, cycles) ∷ []) b)

pub no_copies : (times apart start : ℕ) (old : Leaves) → AddsCopies [] times apart start old old
no_copies times apart start old name cycle = (λ b. inl b, λ c. ⊎_elim (λ (b : Begins old name cycle). b) (λ (b : BeginsInCopy [] times apart start name cycle). absurd b.begins) c)

-- ---- pairs from some cycle on

pub placed_again : (m n : ℕ) (ps : Pairs) → placed m (placed n ps) ≡ placed (m + n) ps
placed_again m n [] = refl
placed_again m n (p ∷ ps) = let e : m + (n + p.cycle) ≡ (m + n) + p.cycle = omega arith in rw (e, placed_again m n ps) refl

pub placed_now : (ps : Pairs) → placed 0 ps ≡ ps
placed_now [] = refl
placed_now (p ∷ ps) = rw (zero-add p.cycle, placed_now ps) refl

pub only : (xs : Alternatives) → length xs ≡ 1 → (a : Alternative UnitPlace) × (xs ≡ a ∷ [])
only [] h = absurd (omega arith)
only (a ∷ []) h = (a, refl)
only (a ∷ b ∷ xs) h = absurd (omega arith)

-- the pairs of two alternatives as one, from some cycle on
pairs_of_two : (start : ℕ) (a b : Alternative UnitPlace) → placed start (all_pairs (each_choice followed_by (a ∷ []) (b ∷ []))) ≡ placed start (all_pairs (a ∷ [])) ++ placed (start + greatest_length (a ∷ [])) (all_pairs (b ∷ []))
pairs_of_two start a b =
    let most : max a.cycles 0 ≡ a.cycles = omega arith in
    rw (append-nil a.pairs, append-nil b.pairs, append-nil (a.pairs ++ placed a.cycles b.pairs), most)
    (map-append (later start) a.pairs (placed a.cycles b.pairs) ∙ ap (λ ps. placed start a.pairs ++ ps) (placed_again start a.cycles b.pairs))

pub pairs_followed : (start : ℕ) (xs ys : Alternatives) → length xs ≡ 1 → length ys ≡ 1 → placed start (all_pairs (each_choice followed_by xs ys)) ≡ placed start (all_pairs xs) ++ placed (start + greatest_length xs) (all_pairs ys)
pairs_followed start xs ys one other =
    let (a, is) = only xs one in
    let (b, also) = only ys other in
    rw (is, also) (pairs_of_two start a b)

pairs_of_both : (start : ℕ) (a b : Alternative UnitPlace) → placed start (all_pairs (each_choice beside (a ∷ []) (b ∷ []))) ≡ placed start (all_pairs (a ∷ [])) ++ placed start (all_pairs (b ∷ []))
pairs_of_both start a b = rw (append-nil a.pairs, append-nil b.pairs, append-nil (a.pairs ++ b.pairs)) (map-append (later start) a.pairs b.pairs)

pairs_beside : (start : ℕ) (xs ys : Alternatives) → length xs ≡ 1 → length ys ≡ 1 → placed start (all_pairs (each_choice beside xs ys)) ≡ placed start (all_pairs xs) ++ placed start (all_pairs ys)
pairs_beside start xs ys one other =
    let (a, is) = only xs one in
    let (b, also) = only ys other in
    rw (is, also) (pairs_of_both start a b)

-- ---- leaves

pub taken_again : (known : Known) (es fs : Entries) (p : Pair UnitPlace) → ((name : List ℕ) (cycle : ℕ) → BeginsIn es name cycle → BeginsIn fs name cycle) → TakesIn known es p → TakesIn known fs p
taken_again known es fs p more t = record { name = t.name; start = t.start; begins = more t.name t.start t.begins; taken = t.taken }

module _ (known : Known) where
  -- a name with one alternative
  pub name_gathered : (name : List ℕ) (start : ℕ) (cycles : Cycles) (old new : Leaves) → ((cycle : ℕ) → HasCycle cycles cycle ↔ (cycle ≡ start)) → length (known_alternatives known name) ≡ 1 → BeginsToo old new name cycles
      → IsGathered known start (known_alternatives known name) old new
  name_gathered name start cycles old new has one begins = record {
    pairs = λ p. (there p, back p);
    ends = λ most low each other cycle b. ⊎_elim (λ (h : Begins old other cycle). each other cycle h) (λ (h : (name ≡ other) × HasCycle cycles cycle). ends most low other cycle h) ((begins other cycle).0 b);
  }
    where
      These : Pair UnitPlace → Type 0
      These p = Contains (placed start (all_pairs (known_alternatives known name))) p

      there : (p : Pair UnitPlace) → Takes known new p → Takes known old p ⊎ These p
      there p t = ⊎_elim
          (λ (h : Begins old t.name t.start). inl (record { name = t.name; start = t.start; begins = h; taken = t.taken }))
          (λ (h : (name ≡ t.name) × HasCycle cycles t.start). inr (subst (λ (n : List ℕ). Contains (placed start (all_pairs (known_alternatives known n))) p) (sym h.0)
          (subst (λ (s : ℕ). Contains (placed s (all_pairs (known_alternatives known t.name))) p) ((has t.start).0 h.1) t.taken)))
          ((begins t.name t.start).0 t.begins)

      back : (p : Pair UnitPlace) → Takes known old p ⊎ These p → Takes known new p
      back p (inl t) = taken_again known old.names.entries new.names.entries p (λ n c b. (begins n c).1 (inl b)) t
      back p (inr c) = record { name = name; start = start; begins = (begins name start).1 (inr (refl, (has start).1 refl)); taken = c }

      ends : (most : ℕ) → start + greatest_length (known_alternatives known name) ≤ most → (other : List ℕ) (cycle : ℕ) → (name ≡ other) × HasCycle cycles cycle → EndsBy known most other cycle
      ends most low other cycle h = subst (λ (n : List ℕ). EndsBy known most n cycle) h.0 (record { one = one; ends = (let is = (has cycle).0 h.1 in omega arith) })

  -- nothing is gathered for no pair
  pub none_gathered : (start : ℕ) (these : Alternatives) (old : Leaves) → all_pairs these ≡ [] → IsGathered known start these old old
  none_gathered start these old none = record {
    pairs = λ p. (λ t. inl t, λ c. ⊎_elim (λ (t : Takes known old p). t) (λ (m : Contains (placed start (all_pairs these)) p). absurd (Contains-nil p (subst (λ (ps : Pairs). Contains (placed start ps) p) none m))) c);
    ends = λ most low each. each;
  }

  -- pairs that are gathered after others
  both_gathered : (old mid new : Leaves) (xs ys zs : Pairs) → zs ≡ xs ++ ys → ((p : Pair UnitPlace) → Takes known mid p ↔ (Takes known old p ⊎ Contains xs p)) → ((p : Pair UnitPlace) → Takes known new p ↔ (Takes known mid p ⊎ Contains ys p))
      → (p : Pair UnitPlace) → Takes known new p ↔ (Takes known old p ⊎ Contains zs p)
  both_gathered old mid new xs ys zs is first second p = (there, back)
    where
      with_first : Takes known mid p → Takes known old p ⊎ Contains zs p
      with_first t = ⊎_elim (λ (o : Takes known old p). inl o) (λ (c : Contains xs p). inr (subst (λ (ps : Pairs). Contains ps p) (sym is) (Contains-append_left xs ys p c))) ((first p).0 t)

      there : Takes known new p → Takes known old p ⊎ Contains zs p
      there t = ⊎_elim with_first (λ (c : Contains ys p). inr (subst (λ (ps : Pairs). Contains ps p) (sym is) (Contains-append_right xs ys p c))) ((second p).0 t)

      back : Takes known old p ⊎ Contains zs p → Takes known new p
      back (inl t) = (second p).1 (inl ((first p).1 (inl t)))
      back (inr c) = ⊎_elim (λ (f : Contains xs p). (second p).1 (inl ((first p).1 (inr f)))) (λ (s : Contains ys p). (second p).1 (inr s)) (Contains-append_cases xs ys p (subst (λ (ps : Pairs). Contains ps p) is c))

  -- what begins where the first ends
  pub sequence_gathered : (start : ℕ) (xs ys : Alternatives) (old mid new : Leaves) → length xs ≡ 1 → length ys ≡ 1 → IsGathered known start xs old mid → IsGathered known (start + greatest_length xs) ys mid new
      → IsGathered known start (each_choice followed_by xs ys) old new
  sequence_gathered start xs ys old mid new one other first second = record {
    pairs = both_gathered old mid new _ _ _ (pairs_followed start xs ys one other) first.pairs second.pairs;
    ends = λ most low each.
        let long = greatest-followed xs ys (omega arith) (omega arith) in
        second.ends most (omega arith) (first.ends most (omega arith) each);
  }

  -- what begins in the same cycle
  pub together_gathered : (start : ℕ) (xs ys : Alternatives) (old mid new : Leaves) → length xs ≡ 1 → length ys ≡ 1 → IsGathered known start xs old mid → IsGathered known start ys mid new
      → IsGathered known start (each_choice beside xs ys) old new
  together_gathered start xs ys old mid new one other first second = record {
    pairs = both_gathered old mid new _ _ _ (pairs_beside start xs ys one other) first.pairs second.pairs;
    ends = λ most low each.
        let long = greatest-beside xs ys (omega arith) (omega arith) in
        second.ends most (omega arith) (first.ends most (omega arith) each);
  }
