-- Laying a row, entry by entry.
use Rattle.std.proofs.Common.{◌≡◌, ◌≢◌, ℕ, ◌+◌, ◌-◌, ◌<◌, ◌≤◌, ◌==◌, ◌&&◌, ◌||◌, not, nat_le, nat_lt, if◌then◌else◌, is_some, List, [], ◌∷◌, ◌++◌, replicate, length, slice_index, Option, None, Some, IfSome, Bool, true, false, ◌⊎◌, inl, inr, ⊎_elim, refl, sym, ap, ◌∙◌, subst, arith}
use Rattle.std.proofs.lemmas.Bool.{cases_Bool, eqb-true, eqb-false, ltb-true, ltb-false, eq-eqb, ne_eqb}
use Rattle.std.proofs.lemmas.List.{length-append, length-replicate, get_or_append_left, get_or-append-add, get_or-replicate, get_or_push}
use Rattle.std.proofs.lemmas.Bool.Decides.{nat_tests}
use Rattle.std.proofs.lemmas.List.Sums.{AllPass-from_list_all}
use Rattle.std.specs.List.{Contains, list_all}
use Rattle.hz_pipeline_model.specs.Tables.Tables.{Table, entry}
use Rattle.hz_pipeline_model.specs.Combs.Combs.{Comb, place_at, laid_at, laid}
use Rattle.hz_tables.specs.Laying.{is_free, is_laid, Lays, IsLaid}

laid_before : (row : ℕ → Option ℕ) (count base : ℕ) → is_laid row count base (base + count) ≡ false
laid_before row count base = grind (arith, nat_tests)

laid_here : (row : ℕ → Option ℕ) (count base : ℕ) → is_laid row (count + 1) base (base + count) ≡ is_some (row count)
laid_here row count base =
    let same : (base + count) - base ≡ count = omega arith in
    shape (is_some (row ((base + count) - base))) ∙ ap (λ n. is_some (row n)) same
  where
    shape : (b : Bool) → (nat_le base (base + count) && (nat_lt ((base + count) - base) (count + 1) && b)) ≡ b
    shape b = grind (arith, nat_tests)

laid_other : (row : ℕ → Option ℕ) (count base place : ℕ) → place ≢ base + count → is_laid row (count + 1) base place ≡ is_laid row count base place
laid_other row count base place other = shape (is_some (row (place - base)))
  where
    shape : (b : Bool) → (nat_le base place && (nat_lt (place - base) (count + 1) && b)) ≡ (nat_le base place && (nat_lt (place - base) count && b))
    shape b = grind (arith, nat_tests)

lay_owner : (test some now was : Bool) (state first old new : ℕ) → old ≡ (if was then state else first) → new ≡ (if test && some then state else old)
    → (test ≡ true → (now ≡ some) × (was ≡ false)) → (test ≡ false → now ≡ was) → new ≡ (if now then state else first)
lay_owner false some now was state first old new before after here there = after ∙ before ∙ ap (λ b. if b then state else first) (sym (there refl))
lay_owner true some now was state first old new before after here there =
    after
    ∙ ap (λ x. if some then state else x) (before ∙ ap (λ b. if b then state else first) (here refl).1)
    ∙ ap (λ b. if b then state else first) (sym (here refl).0)

-- one entry more is laid
pub lays_more : (row : ℕ → Option ℕ) (count base state : ℕ) (owners targets owners_1 targets_1 owners_2 targets_2 : List ℕ)
    → Lays row count base state owners targets owners_1 targets_1
    → (next : Option ℕ) → next ≡ row count
    → ((p : ℕ) → slice_index owners_2 p ≡ (if (p == base + count) && is_some next then state else slice_index owners_1 p))
    → IfSome next (λ target. slice_index targets_2 (base + count) ≡ target)
    → ((p : ℕ) → ((p == base + count) && is_some next) ≡ false → slice_index targets_2 p ≡ slice_index targets_1 p)
    → length owners_2 ≡ length owners_1 → length targets_2 ≡ length targets_1
    → Lays row (count + 1) base state owners targets owners_2 targets_2
lays_more row count base state owners targets owners_1 targets_1 owners_2 targets_2 lays next_read read owner target others each same = record {
  each = each ∙ lays.each;
  same = same ∙ lays.same;
  owner = λ place. lay_owner (place == base + count) (is_some (row count)) (is_laid row (count + 1) base place) (is_laid row count base place)
      state (slice_index owners place) (slice_index owners_1 place) (slice_index owners_2 place) (lays.owner place) (owner place ∙ ap (λ n. if (place == base + count) && is_some n then state else slice_index owners_1 place) read)
      (λ e. let at : place ≡ base + count = eqb-true place (base + count) e in
      (ap (is_laid row (count + 1) base) at ∙ laid_here row count base, ap (is_laid row count base) at ∙ laid_before row count base))
      (λ e. laid_other row count base place (eqb-false place (base + count) e));
  target = λ place next laid there. target_at place next laid there (place == base + count) refl;
  other = λ place none. other_at place none (place == base + count) refl;
}
  where
    target_at : (place next : ℕ) → is_laid row (count + 1) base place ≡ true → row (place - base) ≡ Some next → (test : Bool) → (place == base + count) ≡ test → slice_index targets_2 place ≡ next
    target_at place next laid there true e =
        let at : place ≡ base + count = eqb-true place (base + count) e in
        let off : place - base ≡ count = omega arith in
        ap (slice_index targets_2) at ∙ subst (λ o. IfSome o (λ target. slice_index targets_2 (base + count) ≡ target)) (read ∙ (ap row (sym off) ∙ there)) target
    target_at place next laid there false e =
        let before = sym (laid_other row count base place (eqb-false place (base + count) e)) ∙ laid in
        others place (ap (λ b. b && is_some next_read) e) ∙ lays.target place next before there

    other_at : (place : ℕ) → is_laid row (count + 1) base place ≡ false → (test : Bool) → (place == base + count) ≡ test → slice_index targets_2 place ≡ slice_index targets place
    other_at place none true e =
        let at : place ≡ base + count = eqb-true place (base + count) e in
        let empty : is_some (row count) ≡ false = sym (ap (is_laid row (count + 1) base) at ∙ laid_here row count base) ∙ none in
        others place (ap (λ b. b && is_some next_read) e ∙ (ap is_some read ∙ empty)) ∙ lays.other place (ap (is_laid row count base) at ∙ laid_before row count base)
    other_at place none false e =
        others place (ap (λ b. b && is_some next_read) e) ∙ lays.other place (sym (laid_other row count base place (eqb-false place (base + count) e)) ∙ none)

-- ---- what is free

free_at : (owners : List ℕ) (free place : ℕ) → is_free owners free place ≡ true → place < length owners → slice_index owners place ≡ free
free_at owners free place is within = grind (arith, nat_tests)

pub free_past : (owners : List ℕ) (free place : ℕ) → length owners ≤ place → is_free owners free place ≡ true
free_past owners free place past = shape (slice_index owners place == free)
  where
    shape : (b : Bool) → (not (nat_lt place (length owners)) || b) ≡ true
    shape b = grind (arith, nat_tests)

pub all_past : (owners : List ℕ) (free base : ℕ) (columns : List ℕ) → length owners ≤ base → list_all (λ column. is_free owners free (base + column)) columns ≡ true
all_past owners free base [] past = refl
all_past owners free base (column ∷ columns) past =
    ap (λ b. b && list_all (λ c. is_free owners free (base + c)) columns) (free_past owners free (base + column) (omega arith)) ∙ all_past owners free base columns past

-- ---- one row more

-- what is grown has no owner at its new places
pub grown_at : (xs : List ℕ) (n d place : ℕ) → place < length xs → slice_index (xs ++ replicate n d) place ≡ slice_index xs place
grown_at xs n d place within = get_or_append_left xs (replicate n d) 0 place within

pub grown_past : (xs : List ℕ) (n d place : ℕ) → length xs ≤ place → place < length xs + n → slice_index (xs ++ replicate n d) place ≡ d
grown_past xs n d place past within =
    let at : place ≡ length xs + (place - length xs) = omega arith in
    ap (slice_index (xs ++ replicate n d)) at ∙ get_or-append-add xs (replicate n d) (place - length xs) 0 ∙ get_or-replicate n (place - length xs) d 0 (omega arith)

-- places without an owner change nothing of what is laid
pub laid_grown : (table : Table) (comb : Comb) (n : ℕ) → 0 < length table → IsLaid table comb
    → IsLaid table (record { columns = comb.columns; bases = comb.bases; owners = comb.owners ++ replicate n (length table); targets = comb.targets ++ replicate n 0 })
laid_grown table comb n some is =
    let long = length-append comb.owners (replicate n (length table)) in
    let long_targets = length-append comb.targets (replicate n 0) in
    let more = length-replicate n (length table) in
    let more_targets : length (replicate {A = ℕ} n 0) ≡ n = length-replicate {A = ℕ} n 0 in
    let same = is.places.same in record {
      places = record {
        same = omega arith;
        within = λ state within. let place = is.places.within state within in omega arith;
      };
      few = is.few;
      owners = λ place within. owner place within (cases_Bool (nat_lt place (length comb.owners)));
      targets = λ place within. target place within (cases_Bool (nat_lt place (length comb.owners)));
      entries = λ state column within among.
          let place = is.places.within state within in
          let at = place_at comb state column in
          let own = grown_at comb.owners n (length table) at (omega arith) in
          let next = grown_at comb.targets n 0 at (omega arith) in
          (λ i. if own i == state then Some (next i) else None) ∙ is.entries state column within among;
    }
  where
    owner : (place : ℕ) → place < length (comb.owners ++ replicate n (length table)) → (nat_lt place (length comb.owners) ≡ true) ⊎ (nat_lt place (length comb.owners) ≡ false)
        → (slice_index (comb.owners ++ replicate n (length table)) place < length comb.bases) ⊎ (slice_index (comb.owners ++ replicate n (length table)) place ≡ length table)
    owner place within (inl here) =
        let same = grown_at comb.owners n (length table) place (ltb-true place (length comb.owners) here) in
        subst (λ o. (o < length comb.bases) ⊎ (o ≡ length table)) (sym same) (is.owners place (ltb-true place (length comb.owners) here))
    owner place within (inr past) =
        let long = length-append comb.owners (replicate n (length table)) in
        let more = length-replicate n (length table) in
        let beyond = ltb-false place (length comb.owners) past in
        inr (grown_past comb.owners n (length table) place (omega arith) (omega arith))

    target : (place : ℕ) → place < length (comb.owners ++ replicate n (length table)) → (nat_lt place (length comb.owners) ≡ true) ⊎ (nat_lt place (length comb.owners) ≡ false)
        → slice_index (comb.targets ++ replicate n 0) place < length table
    target place within (inl here) =
        let lower = ltb-true place (length comb.owners) here in
        let same = is.places.same in
        let is_same = grown_at comb.targets n 0 place (omega arith) in
        let low = is.targets place lower in
        omega arith
    target place within (inr past) =
        let long = length-append comb.owners (replicate n (length table)) in
        let more = length-replicate n (length table) in
        let beyond = ltb-false place (length comb.owners) past in
        let same = is.places.same in
        let is_zero = grown_past comb.targets n 0 place (omega arith) (omega arith) in
        omega arith

owned_by : (owners targets : List ℕ) (state place : ℕ) → slice_index owners place ≡ state → laid_at owners targets state place ≡ Some (slice_index targets place)
owned_by owners targets state place e = ap (λ b. if b then Some (slice_index targets place) else None) (eq-eqb (slice_index owners place) state e)

not_owned_by : (owners targets : List ℕ) (state place : ℕ) → slice_index owners place ≢ state → laid_at owners targets state place ≡ None
not_owned_by owners targets state place other = ap (λ b. if b then Some (slice_index targets place) else None) (ne_eqb (slice_index owners place) state other)

is_some_of : (next : Option ℕ) → is_some next ≡ true → (target : ℕ) × (next ≡ Some target)
is_some_of None h = cc
is_some_of (Some target) h = (target, refl)

none_of : (next : Option ℕ) → is_some next ≡ false → next ≡ None
none_of None h = refl
none_of (Some target) h = cc

laid_within : (row : ℕ → Option ℕ) (count base place : ℕ) → is_laid row count base place ≡ true → (base ≤ place) × ((place - base < count) × (is_some (row (place - base)) ≡ true))
laid_within row count base place h = parts (is_some (row (place - base))) h
  where
    parts : (b : Bool) → (nat_le base place && (nat_lt (place - base) count && b)) ≡ true → (base ≤ place) × ((place - base < count) × (b ≡ true))
    parts b e = grind (arith, nat_tests)

laid_in : (row : ℕ → Option ℕ) (count base column : ℕ) → column < count → is_laid row count base (base + column) ≡ is_some (row column)
laid_in row count base column within =
    let same : (base + column) - base ≡ column = omega arith in
    shape (is_some (row ((base + column) - base))) ∙ ap (λ n. is_some (row n)) same
  where
    shape : (b : Bool) → (nat_le base (base + column) && (nat_lt ((base + column) - base) count && b)) ≡ b
    shape b = grind (arith, nat_tests)

-- Where the places of the entries have no owner, the row of the next state is laid as well.
pub laid_more : (table : Table) (comb : Comb) (base : ℕ) (owners targets : List ℕ)
    → ((row column next : ℕ) → entry table row column ≡ Some next → next < length table)
    → IsLaid table comb → length comb.bases < length table → base + comb.columns < length comb.owners
    → ((column : ℕ) → column ≤ comb.columns → entry table (length comb.bases) column ≢ None → slice_index comb.owners (base + column) ≡ length table)
    → Lays (entry table (length comb.bases)) (comb.columns + 1) base (length comb.bases) comb.owners comb.targets owners targets
    → IsLaid table (record { columns = comb.columns; bases = comb.bases ++ base ∷ []; owners = owners; targets = targets })
laid_more table comb base owners targets within_table is next room free lays =
    let state = length comb.bases in
    let long = length-append comb.bases (base ∷ []) in
    let each = lays.each in
    let each_target = lays.same in
    let same = is.places.same in record {
      places = record {
        same = omega arith;
        within = λ s among. place_within s (omega arith) (cases_Bool (nat_lt s state));
      };
      few = omega arith;
      owners = λ place among. owner place (omega arith) (cases_Bool (row_at place));
      targets = λ place among. target place (omega arith) (cases_Bool (row_at place));
      entries = λ s column among in_row. entry_at s column (omega arith) in_row (cases_Bool (nat_lt s state));
    }
  where
    row_at : ℕ → Bool
    row_at place = is_laid (entry table (length comb.bases)) (comb.columns + 1) base place

    place_within : (s : ℕ) → s < length comb.bases + 1 → (nat_lt s (length comb.bases) ≡ true) ⊎ (nat_lt s (length comb.bases) ≡ false) → slice_index (comb.bases ++ base ∷ []) s + comb.columns < length owners
    place_within s among (inl h) =
        let lower = ltb-true s (length comb.bases) h in
        let same = get_or_append_left comb.bases (base ∷ []) 0 s lower in
        let old = is.places.within s lower in
        let each = lays.each in
        omega arith
    place_within s among (inr h) =
        let beyond = ltb-false s (length comb.bases) h in
        let at : s ≡ length comb.bases = omega arith in
        let same = get_or_push comb.bases base 0 s (sym at) in
        let each = lays.each in
        omega arith

    owner : (place : ℕ) → place < length comb.owners → (row_at place ≡ true) ⊎ (row_at place ≡ false) → (slice_index owners place < length (comb.bases ++ base ∷ [])) ⊎ (slice_index owners place ≡ length table)
    owner place among (inl h) =
        let long = length-append comb.bases (base ∷ []) in
        let own : slice_index owners place ≡ length comb.bases = lays.owner place ∙ ap (λ b. if b then length comb.bases else slice_index comb.owners place) h in
        inl (omega arith)
    owner place among (inr h) =
        let long = length-append comb.bases (base ∷ []) in
        let own : slice_index owners place ≡ slice_index comb.owners place = lays.owner place ∙ ap (λ b. if b then length comb.bases else slice_index comb.owners place) h in
        ⊎_elim (λ low. inl (omega (arith, own, low))) (λ e. inr (own ∙ e)) (is.owners place among)

    target : (place : ℕ) → place < length comb.owners → (row_at place ≡ true) ⊎ (row_at place ≡ false) → slice_index targets place < length table
    target place among (inl h) =
        let parts = laid_within (entry table (length comb.bases)) (comb.columns + 1) base place h in
        let there = is_some_of (entry table (length comb.bases) (place - base)) (parts.1).1 in
        let is_there = lays.target place there.0 h there.1 in
        let low = within_table (length comb.bases) (place - base) there.0 there.1 in
        omega arith
    target place among (inr h) = let same = lays.other place h in let low = is.targets place among in omega arith

    older : (s column : ℕ) → s < length comb.bases → column ≤ comb.columns → (row_at (place_at comb s column) ≡ true) ⊎ (row_at (place_at comb s column) ≡ false)
        → laid_at owners targets s (place_at comb s column) ≡ entry table s column
    older s column lower in_row (inl h) =
        let place = place_at comb s column in
        let own : slice_index owners place ≡ length comb.bases = lays.owner place ∙ ap (λ b. if b then length comb.bases else slice_index comb.owners place) h in
        let parts = laid_within (entry table (length comb.bases)) (comb.columns + 1) base place h in
        let there = is_some_of (entry table (length comb.bases) (place - base)) (parts.1).1 in
        let at : base + (place - base) ≡ place = omega (arith, parts.0) in
        let was : slice_index comb.owners place ≡ length table = ap (slice_index comb.owners) (sym at) ∙ free (place - base) (omega (arith, (parts.1).0)) (λ none. let e = there.1 in cc) in
        not_owned_by owners targets s place (λ e. omega (arith, own, e, lower))
        ∙ sym (not_owned_by comb.owners comb.targets s place (λ e. let few = is.few in omega (arith, was, e, lower, few)))
        ∙ is.entries s column lower in_row
    older s column lower in_row (inr h) =
        let place = place_at comb s column in
        let own : slice_index owners place ≡ slice_index comb.owners place = lays.owner place ∙ ap (λ b. if b then length comb.bases else slice_index comb.owners place) h in
        let same = lays.other place h in
        (λ i. if own i == s then Some (same i) else None) ∙ is.entries s column lower in_row

    newest : (column : ℕ) → column ≤ comb.columns → (is_some (entry table (length comb.bases) column) ≡ true) ⊎ (is_some (entry table (length comb.bases) column) ≡ false)
        → laid_at owners targets (length comb.bases) (base + column) ≡ entry table (length comb.bases) column
    newest column in_row (inl h) =
        let laid_there = laid_in (entry table (length comb.bases)) (comb.columns + 1) base column (omega arith) ∙ h in
        let there = is_some_of (entry table (length comb.bases) column) h in
        let off : (base + column) - base ≡ column = omega arith in
        let own : slice_index owners (base + column) ≡ length comb.bases = lays.owner (base + column) ∙ ap (λ b. if b then length comb.bases else slice_index comb.owners (base + column)) laid_there in
        let is_there = lays.target (base + column) there.0 laid_there (ap (entry table (length comb.bases)) off ∙ there.1) in
        owned_by owners targets (length comb.bases) (base + column) own ∙ ap Some is_there ∙ sym there.1
    newest column in_row (inr h) =
        let not_laid = laid_in (entry table (length comb.bases)) (comb.columns + 1) base column (omega arith) ∙ h in
        let own : slice_index owners (base + column) ≡ slice_index comb.owners (base + column) = lays.owner (base + column) ∙ ap (λ b. if b then length comb.bases else slice_index comb.owners (base + column)) not_laid in
        not_owned_by owners targets (length comb.bases) (base + column)
        (λ e. ⊎_elim (λ low. omega (arith, own, e, low)) (λ is_free. omega (arith, own, e, is_free, next)) (is.owners (base + column) (omega arith)))
        ∙ sym (none_of (entry table (length comb.bases) column) h)

    entry_at : (s column : ℕ) → s < length comb.bases + 1 → column ≤ comb.columns → (nat_lt s (length comb.bases) ≡ true) ⊎ (nat_lt s (length comb.bases) ≡ false)
        → laid_at owners targets s (slice_index (comb.bases ++ base ∷ []) s + column) ≡ entry table s column
    entry_at s column among in_row (inl h) =
        let lower = ltb-true s (length comb.bases) h in
        let same = get_or_append_left comb.bases (base ∷ []) 0 s lower in
        ap (λ b. laid_at owners targets s (b + column)) same ∙ older s column lower in_row (cases_Bool (row_at (place_at comb s column)))
    entry_at s column among in_row (inr h) =
        let beyond = ltb-false s (length comb.bases) h in
        let at : s ≡ length comb.bases = omega arith in
        let same = get_or_push comb.bases base 0 s (sym at) in
        ap (λ b. laid_at owners targets s (b + column)) same ∙ ap (λ n. laid_at owners targets n (base + column)) at
        ∙ newest column in_row (cases_Bool (is_some (entry table (length comb.bases) column))) ∙ ap (λ n. entry table n column) (sym at)

pub laid_none : (table : Table) (columns : ℕ) (bases owners targets : List ℕ) → bases ≡ [] → owners ≡ [] → targets ≡ [] → IsLaid table (record { columns = columns; bases = bases; owners = owners; targets = targets })
laid_none table columns bases owners targets no_bases no_owners no_targets =
    let none = ap length no_bases in
    let nowhere = ap length no_owners in
    let nothing = ap length no_targets in record {
      places = record { same = omega arith; within = λ state among. absurd (omega arith) };
      few = omega arith;
      owners = λ place among. absurd (omega arith);
      targets = λ place among. absurd (omega arith);
      entries = λ state column among in_row. absurd (omega arith);
    }

each_passes : (p : ℕ → Bool) (xs : List ℕ) (x : ℕ) → list_all p xs ≡ true → Contains xs x → p x ≡ true
each_passes p xs x all (k, within, at) = ap p (sym at) ∙ AllPass-from_list_all p xs all k x within

-- The places of listed columns are free among those that are grown.
free_grown : (owners : List ℕ) (n free base column : ℕ) (listed : List ℕ) → list_all (λ c. is_free owners free (base + c)) listed ≡ true → Contains listed column
    → base + column < length owners + n → slice_index (owners ++ replicate n free) (base + column) ≡ free
free_grown owners n free base column listed all there within = ⊎_elim
    (λ h. let lower = ltb-true (base + column) (length owners) h in
    grown_at owners n free (base + column) lower ∙ free_at owners free (base + column) (each_passes (λ c. is_free owners free (base + c)) listed column all there) lower)
    (λ h. grown_past owners n free (base + column) (ltb-false (base + column) (length owners) h) within)
    (cases_Bool (nat_lt (base + column) (length owners)))

-- One row more is laid: places for it are made, and its entries are laid where nothing is.
pub row_more : (table : Table) (columns state free base places : ℕ) (bases owners targets listed grown_owners grown_targets new_bases new_owners new_targets : List ℕ)
    → ((row column next : ℕ) → entry table row column ≡ Some next → next < length table)
    → IsLaid table (record { columns = columns; bases = bases; owners = owners; targets = targets })
    → length bases ≡ state → state < length table → free ≡ length table → base ≤ length owners → places ≡ base + columns + 1
    → list_all (λ column. is_free owners free (base + column)) listed ≡ true
    → ((column : ℕ) → column ≤ columns → entry table state column ≢ None → Contains listed column)
    → grown_owners ≡ owners ++ replicate (places - length owners) free
    → grown_targets ≡ targets ++ replicate (places - length owners) 0
    → Lays (entry table state) (columns + 1) base state grown_owners grown_targets new_owners new_targets
    → new_bases ≡ bases ++ base ∷ []
    → IsLaid table (record { columns = columns; bases = new_bases; owners = new_owners; targets = new_targets })
row_more table columns state free base places bases owners targets listed grown_owners grown_targets new_bases new_owners new_targets
    within is next low all low_base sum fits listed_all owners_grown targets_grown lays pushed =
    let n = places - length owners in
    let long = length-append owners (replicate n (length table)) in
    let more = length-replicate n (length table) in
    let fits_all : list_all (λ column. is_free owners (length table) (base + column)) listed ≡ true = subst (λ f. list_all (λ column. is_free owners f (base + column)) listed ≡ true) all fits in
    let lays_1 : Lays (entry table (length bases)) (columns + 1) base (length bases) grown_owners grown_targets new_owners new_targets =
    subst (λ s. Lays (entry table s) (columns + 1) base s grown_owners grown_targets new_owners new_targets) (sym next) lays in
    let lays_2 : Lays (entry table (length bases)) (columns + 1) base (length bases) (owners ++ replicate n (length table)) grown_targets new_owners new_targets =
    subst (λ xs. Lays (entry table (length bases)) (columns + 1) base (length bases) xs grown_targets new_owners new_targets) (owners_grown ∙ ap (λ f. owners ++ replicate n f) all) lays_1 in
    let lays_3 : Lays (entry table (length bases)) (columns + 1) base (length bases) (owners ++ replicate n (length table)) (targets ++ replicate n 0) new_owners new_targets =
    subst (λ xs. Lays (entry table (length bases)) (columns + 1) base (length bases) (owners ++ replicate n (length table)) xs new_owners new_targets) targets_grown lays_2 in
    subst (λ xs. IsLaid table (record { columns = columns; bases = xs; owners = new_owners; targets = new_targets })) (sym pushed)
    (laid_more table (record { columns = columns; bases = bases; owners = owners ++ replicate n (length table); targets = targets ++ replicate n 0 }) base new_owners new_targets
    within
    (laid_grown table (record { columns = columns; bases = bases; owners = owners; targets = targets }) n (omega arith) is)
    (omega arith)
    (omega arith)
    (λ column among there. free_grown owners n (length table) base column listed fits_all (listed_all column among (λ none. there (ap (λ s. entry table s column) next ∙ none))) (omega arith))
    lays_3)
