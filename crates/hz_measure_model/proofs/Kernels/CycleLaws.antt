-- The trace of slots cycle by cycle: the issues of each cycle and one advance. A machine walks it as the trace that is spelled.
use Rattle.std.proofs.Common.{◌≡◌, ℕ, zero, suc, ◌+◌, ◌-◌, Bool, true, false, cond, List, [], ◌∷◌, ◌++◌, map, replicate, Some, refl, sym, ap, ◌∙◌, append-nil, append_assoc, arith}
use Rattle.std.specs.Prelude.{nat_lt}
use Rattle.std.specs.List.{flat_map, range_with_len}
use Rattle.std.proofs.lemmas.Bool.{ltb-false}
use Rattle.hz_pipeline_model.specs.Accepting.Events.{Event, issue, advance}
use Rattle.hz_pipeline_model.specs.Tables.Tables.{walk}
use Rattle.hz_pipeline_model.specs.Tables.Machines.{Part, column_of, word_of, onto_states, parts_walk, advance_of}
use Rattle.hz_pipeline_model.proofs.Tables.MachineLaws.{word_of-append}
use Rattle.hz_block_model.specs.Scheduling.Schedules.{Graph, Slot, class_at, present, advance_to, spelled}

-- the events of a cycle that issues these classes
abbrev pub events_of : List ℕ → List Event
events_of classes = map issue classes ++ advance 1 ∷ []

-- the events of so many cycles from one on, of which each issues these classes
abbrev pub by_cycles : (ℕ → List ℕ) → ℕ → ℕ → List Event
by_cycles classes from n = flat_map (λ c. events_of (classes c)) (range_with_len from n)

-- a place that is issued at a cycle
abbrev pub slot_at : ℕ → ℕ → Slot
slot_at cycle place = record { place = place; cycle = cycle }

-- the slots of so many cycles from one on, of which each issues these places
abbrev pub slots_from : (ℕ → List ℕ) → ℕ → ℕ → List Slot
slots_from row from n = flat_map (λ c. map (slot_at c) (row c)) (range_with_len from n)

-- ---- words of advances

module _ (part : Part) where
  columns : ℕ
  columns = (advance_of part)

  pub word_advance : (from gap to : ℕ) → from + gap ≡ to → word_of part (advance_to from to) ≡ replicate gap (advance_of part)
  word_advance from gap to is = go (nat_lt from to) refl
    where
      go : (b : Bool) → nat_lt from to ≡ b → word_of part (cond b (advance (to - from) ∷ []) []) ≡ replicate gap (advance_of part)
      go true e = let same : to - from ≡ gap = omega (arith, is) in append-nil (replicate (to - from) (advance_of part)) ∙ ap (λ (n : ℕ). replicate n (advance_of part)) same
      go false e = let high = ltb-false from to e in let none : zero ≡ gap = omega (arith, is) in ap (λ (n : ℕ). replicate n (advance_of part)) none

  replicate-more : (n m : ℕ) → replicate (n + m) (advance_of part) ≡ replicate n (advance_of part) ++ replicate m (advance_of part)
  replicate-more zero m = let same : 0 + m ≡ m = omega arith in ap (λ (k : ℕ). replicate k (advance_of part)) same
  replicate-more (suc n) m = let same : suc n + m ≡ suc (n + m) = omega arith in ap (λ (k : ℕ). replicate k (advance_of part)) same ∙ ap (λ (w : List ℕ). (advance_of part) ∷ w) (replicate-more n m)

  module _ (g : Graph) where
    abbrev issued : List ℕ → List ℕ
    issued places = map (class_at g) places

    -- The word of slots and of the advance to a cycle, after an earlier cycle: first the advances from there.
    abbrev Says : List Slot → ℕ → ℕ → List ℕ → Type 0
    Says slots begin end w = (cycle gap : ℕ) → cycle + gap ≡ begin → word_of part (spelled g cycle slots ++ advance_to (present cycle slots) end) ≡ replicate gap (advance_of part) ++ w

    row_says : (places : List ℕ) (from end : ℕ) (rest : List Slot) (w : List ℕ) → Says rest (from + 1) end w → Says (map (slot_at from) places ++ rest) from end (word_of part (events_of (issued places)) ++ w)
    row_says [] from end rest w says cycle gap is =
        let one : replicate (gap + 1) (advance_of part) ≡ replicate gap (advance_of part) ++ ((advance_of part) ∷ []) = replicate-more gap 1 in
        says cycle (gap + 1) (omega (arith, is)) ∙ (ap (λ (v : List ℕ). v ++ w) one ∙ append_assoc (replicate gap (advance_of part)) ((advance_of part) ∷ []) w)
    row_says (place ∷ places) from end rest w says cycle gap is =
        ap (word_of part) (append_assoc (advance_to cycle from) (issue (class_at g place) ∷ spelled g from (map (slot_at from) places ++ rest)) (advance_to (present from (map (slot_at from) places ++ rest)) end))
        ∙ (word_of-append part (advance_to cycle from) (issue (class_at g place) ∷ (spelled g from (map (slot_at from) places ++ rest) ++ advance_to (present from (map (slot_at from) places ++ rest)) end))
        ∙ (ap (λ (v : List ℕ). v ++ (column_of part (class_at g place) ∷ word_of part (spelled g from (map (slot_at from) places ++ rest) ++ advance_to (present from (map (slot_at from) places ++ rest)) end))) (word_advance cycle gap from is)
        ∙ ap (λ (v : List ℕ). replicate gap (advance_of part) ++ (column_of part (class_at g place) ∷ v)) (row_says places from end rest w says from 0 (omega arith))))

    all_say : (row : ℕ → List ℕ) (n from end : ℕ) → from + n ≡ end → Says (slots_from row from n) from end (word_of part (by_cycles (λ c. issued (row c)) from n))
    all_say row zero from end is cycle gap at = word_advance cycle gap end (omega (arith, is, at)) ∙ sym (append-nil (replicate gap (advance_of part)))
    all_say row (suc n) from end is cycle gap at =
        row_says (row from) from end (slots_from row (from + 1) n) (word_of part (by_cycles (λ c. issued (row c)) (from + 1) n)) (all_say row n (from + 1) end (omega (arith, is))) cycle gap at
        ∙ ap (λ (v : List ℕ). replicate gap (advance_of part) ++ v) (sym (word_of-append part (events_of (issued (row from))) (by_cycles (λ c. issued (row c)) (from + 1) n)))

    pub words_by_cycles : (row : ℕ → List ℕ) (n : ℕ) → word_of part (spelled g 0 (slots_from row 0 n) ++ advance_to (present 0 (slots_from row 0 n)) n) ≡ word_of part (by_cycles (λ c. issued (row c)) 0 n)
    words_by_cycles row n = all_say row n 0 n (omega arith) 0 0 (omega arith)

-- ---- walks of equal words

pub walks_alike : (parts : List Part) (states : List ℕ) (s t : List Event) → ((part : Part) → word_of part s ≡ word_of part t) → parts_walk parts states s ≡ parts_walk parts states t
walks_alike [] states s t same = refl
walks_alike (part ∷ parts) [] s t same = refl
walks_alike (part ∷ parts) (state ∷ states) s t same = λ i. onto_states (walk part.rows (Some state) (same part i)) (walks_alike parts states s t same i)

-- slots are walked cycle by cycle
pub walk_by_cycles : (parts : List Part) (states : List ℕ) (g : Graph) (row : ℕ → List ℕ) (n : ℕ)
    → parts_walk parts states (spelled g 0 (slots_from row 0 n) ++ advance_to (present 0 (slots_from row 0 n)) n) ≡ parts_walk parts states (by_cycles (λ c. map (class_at g) (row c)) 0 n)
walk_by_cycles parts states g row n = walks_alike parts states _ _ (λ part. words_by_cycles part g row n)
