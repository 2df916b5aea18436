-- What slots left, as one list of words that were written, the oldest first.
use Rattle.std.proofs.Common.{◌≡◌, ℕ, Bool, true, false, ◌&&◌, ◌||◌, cond, List, [], ◌∷◌, ◌++◌, map, Option, Some, None, refl, sym, ap, ◌∙◌}
use Rattle.std.specs.List.{list_any}
use Rattle.std.specs.Option.{option_map}
use Rattle.std.proofs.Math.Path.{fun_ext}
use Rattle.hz_block_model.specs.Running.States.{Place, same_place, State, Store, stored, all_stored}
use Rattle.hz_block_model.proofs.Dependences.StoreLaws.{congruent, touched, untouched}
use Rattle.hz_timed.specs.Notes.{Note, note, notes_of}
use Rattle.hz_measure_model.specs.Exposed.Exposed.{Left, is_stored_to, newest, word_left, left_state}

abbrev pub or_first : Option Note → Option Note → Option Note
or_first (Some n) other = Some n
or_first None other = other

-- the last that passes
abbrev pub last_of : (Note → Bool) → List Note → Option Note
last_of test [] = None
last_of test (n ∷ notes) = or_first (last_of test notes) (cond (test n) (Some n) None)

last-append : (test : Note → Bool) (xs ys : List Note) → last_of test (xs ++ ys) ≡ or_first (last_of test ys) (last_of test xs)
last-append test [] ys = go (last_of test ys)
  where
    go : (o : Option Note) → o ≡ or_first o None
    go (Some n) = refl
    go None = refl
last-append test (x ∷ xs) ys = ap (λ (o : Option Note). or_first o (cond (test x) (Some x) None)) (last-append test xs ys) ∙ go (last_of test ys) (last_of test xs) (cond (test x) (Some x) None)
  where
    go : (a b c : Option Note) → or_first (or_first a b) c ≡ or_first a (or_first b c)
    go (Some n) b c = refl
    go None b c = refl

-- where the word comes from, and what it is, if there is none the one of a state
abbrev pub word_of : Option Note → ℕ → ℕ
word_of (Some n) w = n.word
word_of None w = w

-- A test that looks at the instruction and the cycle.
module _ (passes : ℕ → ℕ → Bool) (p : Place) where
  abbrev pub test : Note → Bool
  test n = passes n.place n.cycle && same_place n.at p

  abbrev pub of_left : Left → Bool
  of_left l = passes l.place l.cycle

  -- of one slot's stores
  none_passes : (l : Left) (stores : List Store) → passes l.place l.cycle ≡ false → last_of test (map (note l) stores) ≡ None
  none_passes l [] is = refl
  none_passes l (st ∷ stores) is =
      ap (λ (b : Bool). or_first (last_of test (map (note l) stores)) (cond (b && same_place st.place p) (Some (note l st)) None)) is
      ∙ ap (λ (o : Option Note). or_first o None) (none_passes l stores is)

  none_stored : (l : Left) (stores : List Store) → is_stored_to stores p ≡ false → last_of test (map (note l) stores) ≡ None
  none_stored l [] is = refl
  none_stored l (st ∷ stores) is = go (same_place st.place p) (passes l.place l.cycle) is (none_stored l stores)
    where
      go : (b c : Bool) → (b || is_stored_to stores p) ≡ false → (is_stored_to stores p ≡ false → last_of test (map (note l) stores) ≡ None) → or_first (last_of test (map (note l) stores)) (cond (c && b) (Some (note l st)) None) ≡ None
      go true c h further = absurd (cc)
      go false true h further = ap (λ (o : Option Note). or_first o None) (further h)
      go false false h further = ap (λ (o : Option Note). or_first o None) (further h)

  -- A slot that passes and stored there: its last store of the place.
  record Found (l : Left) (stores : List Store) (s : State) : Type 0 where
    pub found : Note
    pub is : last_of test (map (note l) stores) ≡ Some found
    pub place : found.place ≡ l.place
    pub word : found.word ≡ all_stored s stores p

  some_stored : (l : Left) (stores : List Store) (s : State) → passes l.place l.cycle ≡ true → is_stored_to stores p ≡ true → Found l stores s
  some_stored l [] s ok is = absurd (cc)
  some_stored l (st ∷ stores) s ok is = go (is_stored_to stores p) refl (some_stored l stores (stored s st) ok) (same_place st.place p) refl is
    where
      go : (b : Bool) → is_stored_to stores p ≡ b → (is_stored_to stores p ≡ true → Found l stores (stored s st)) → (a : Bool) → same_place st.place p ≡ a → (a || is_stored_to stores p) ≡ true → Found l (st ∷ stores) s
      go true hit further a at h =
          let f = further hit in
          record { found = f.found; is = ap (λ (o : Option Note). or_first o (cond (passes l.place l.cycle && same_place st.place p) (Some (note l st)) None)) f.is; place = f.place; word = f.word }
      go false miss further false at h = absurd (cc)
      go false miss further true at h = record {
        found = note l st;
        is = ap (λ (o : Option Note). or_first o (cond (passes l.place l.cycle && same_place st.place p) (Some (note l st)) None)) (none_stored l stores miss)
            ∙ (ap (λ (b : Bool). cond (b && same_place st.place p) (Some (note l st)) None) ok ∙ ap (λ (b : Bool). cond b (Some (note l st)) None) at);
        place = refl;
        word = sym (untouched stores (stored s st) p miss ∙ ap (λ (b : Bool). cond b st.word (s p)) at);
      }

  -- What the last note that passes tells, and what the newest slot that passes left, are the same.
  pub record Same (lefts : List Left) (s : State) : Type 0 where
    pub place : option_map (λ n. n.place) (last_of test (notes_of lefts)) ≡ option_map (λ l. l.place) (newest of_left lefts p)
    pub word : word_of (last_of test (notes_of lefts)) (s p) ≡ word_left s (newest of_left lefts p) p

  pub same : (lefts : List Left) (s : State) → Same lefts s
  same [] s = record { place = refl; word = refl }
  same (l ∷ lefts) s = go (passes l.place l.cycle) refl (is_stored_to l.stores p) refl (same lefts s)
    where
      rest : last_of test (notes_of (l ∷ lefts)) ≡ or_first (last_of test (map (note l) l.stores)) (last_of test (notes_of lefts))
      rest = last-append test (notes_of lefts) (map (note l) l.stores)

      none : last_of test (map (note l) l.stores) ≡ None → last_of test (notes_of (l ∷ lefts)) ≡ last_of test (notes_of lefts)
      none is = rest ∙ ap (λ (o : Option Note). or_first o (last_of test (notes_of lefts))) is

      misses : newest of_left (l ∷ lefts) p ≡ newest of_left lefts p → last_of test (notes_of (l ∷ lefts)) ≡ last_of test (notes_of lefts) → Same lefts s → Same (l ∷ lefts) s
      misses new old h = record {
        place = ap (λ (o : Option Note). option_map (λ n. n.place) o) old ∙ (h.place ∙ sym (ap (λ (o : Option Left). option_map (λ k. k.place) o) new));
        word = ap (λ (o : Option Note). word_of o (s p)) old ∙ (h.word ∙ sym (ap (λ (o : Option Left). word_left s o p) new));
      }

      go : (a : Bool) → passes l.place l.cycle ≡ a → (b : Bool) → is_stored_to l.stores p ≡ b → Same lefts s → Same (l ∷ lefts) s
      go false out b at h = misses (ap (λ (c : Bool). cond (c && is_stored_to l.stores p) (Some l) (newest of_left lefts p)) out) (none (none_passes l l.stores out)) h
      go true ok false at h = misses (ap (λ (c : Bool). cond (c && is_stored_to l.stores p) (Some l) (newest of_left lefts p)) ok ∙ ap (λ (c : Bool). cond c (Some l) (newest of_left lefts p)) at) (none (none_stored l l.stores at)) h
      go true ok true at h = hits (some_stored l l.stores s ok at)
        where
          new : newest of_left (l ∷ lefts) p ≡ Some l
          new = ap (λ (c : Bool). cond (c && is_stored_to l.stores p) (Some l) (newest of_left lefts p)) ok ∙ ap (λ (c : Bool). cond c (Some l) (newest of_left lefts p)) at

          hits : Found l l.stores s → Same (l ∷ lefts) s
          hits f =
              let old : last_of test (notes_of (l ∷ lefts)) ≡ Some f.found = rest ∙ ap (λ (o : Option Note). or_first o (last_of test (notes_of lefts))) f.is in
              record {
                place = ap (λ (o : Option Note). option_map (λ n. n.place) o) old ∙ (ap Some f.place ∙ sym (ap (λ (o : Option Left). option_map (λ k. k.place) o) new));
                word = ap (λ (o : Option Note). word_of o (s p)) old ∙ (f.word ∙ sym (ap (λ (o : Option Left). word_left s o p) new));
              }

-- the state that is left grows slot by slot
pub left_more : (s : State) (l : Left) (lefts : List Left) → left_state s (l ∷ lefts) ≡ all_stored (left_state s lefts) l.stores
left_more s l lefts = fun_ext (λ p. go p (is_stored_to l.stores p) refl)
  where
    go : (p : Place) (b : Bool) → is_stored_to l.stores p ≡ b → left_state s (l ∷ lefts) p ≡ all_stored (left_state s lefts) l.stores p
    go p true is = ap (λ (c : Bool). word_left s (cond c (Some l) (newest (λ (k : Left). true) lefts p)) p) is ∙ touched l.stores s (left_state s lefts) p is
    go p false is = ap (λ (c : Bool). word_left s (cond c (Some l) (newest (λ (k : Left). true) lefts p)) p) is ∙ sym (untouched l.stores (left_state s lefts) p is)
