-- Lines as they are written: the first word, and each other field after a space.
use Rattle.std.proofs.Common.{◌≡◌, ℕ, List, [], ◌∷◌, ◌++◌, map, Option, Result, ap, sym, subst, ◌∙◌}
use Rattle.std.specs.List.{flat_map, join_with_byte}
use Rattle.std.proofs.lemmas.List.{append-nil, append_assoc}
use Rattle.hz_tabtext_model.specs.Texts.{joined, line_text}
use Rattle.std.proofs.lemmas.List.Folds.{flat_map-map}
use Rattle.hz_io.specs.Pages.{Added, Stopped, Adds}
use Rattle.hz_tabfile.specs.Spaced.{spaced}
use Rattle.hz_io.proofs.Adding.{added_then_stopped, stopped_before, adds_then}

-- fields, each after a space
abbrev pub all_spaced : List (List ℕ) → List ℕ
all_spaced fields = flat_map spaced fields

by_spaces : (word : List ℕ) (fields : List (List ℕ)) → join_with_byte 32 (word ∷ fields) ≡ word ++ all_spaced fields
by_spaces word [] = sym (append-nil word)
by_spaces word (field ∷ fields) = ap (λ (bytes : List ℕ). word ++ (32 ∷ bytes)) (by_spaces field fields)

-- a line is its first word, the other fields after spaces, and a line feed
pub line_spaced : (word : List ℕ) (fields : List (List ℕ)) → line_text (word ∷ fields) ≡ word ++ (all_spaced fields ++ 10 ∷ [])
unfolding joined
line_spaced word fields = ap (λ (bytes : List ℕ). bytes ++ 10 ∷ []) (by_spaces word fields) ∙ append_assoc word (all_spaced fields) (10 ∷ [])

-- a line of a word and a field
pub line_one : (word a f : List ℕ) → a ≡ f → word ++ (32 ∷ (a ++ 10 ∷ [])) ≡ line_text (word ∷ f ∷ [])
line_one word a f is = ap (λ (bytes : List ℕ). word ++ (32 ∷ (bytes ++ 10 ∷ []))) (is ∙ sym (append-nil f)) ∙ sym (line_spaced word (f ∷ []))

two_spaced : (word f h : List ℕ) → word ++ (32 ∷ (f ++ (32 ∷ (h ++ 10 ∷ [])))) ≡ line_text (word ∷ f ∷ h ∷ [])
two_spaced word f h =
    ap (λ (bytes : List ℕ). word ++ (32 ∷ (f ++ (32 ∷ (bytes ++ 10 ∷ []))))) (sym (append-nil h))
    ∙ (ap (λ (bytes : List ℕ). word ++ (32 ∷ bytes)) (sym (append_assoc f (32 ∷ (h ++ [])) (10 ∷ []))) ∙ sym (line_spaced word (f ∷ h ∷ [])))

-- a line of a word and two fields
pub line_two : (word a b f h : List ℕ) → a ≡ f → b ≡ h → word ++ (32 ∷ (a ++ (32 ∷ (b ++ 10 ∷ [])))) ≡ line_text (word ∷ f ∷ h ∷ [])
line_two word a b f h is is_too =
    ap (λ (bytes : List ℕ). word ++ (32 ∷ (bytes ++ (32 ∷ (b ++ 10 ∷ []))))) is ∙ (ap (λ (bytes : List ℕ). word ++ (32 ∷ (f ++ (32 ∷ (bytes ++ 10 ∷ []))))) is_too ∙ two_spaced word f h)

three_spaced : (word f h k : List ℕ) → word ++ (32 ∷ (f ++ (32 ∷ (h ++ (32 ∷ (k ++ 10 ∷ [])))))) ≡ line_text (word ∷ f ∷ h ∷ k ∷ [])
three_spaced word f h k =
    ap (λ (bytes : List ℕ). word ++ (32 ∷ (f ++ (32 ∷ (h ++ (32 ∷ (bytes ++ 10 ∷ []))))))) (sym (append-nil k))
    ∙ (ap (λ (bytes : List ℕ). word ++ (32 ∷ (f ++ (32 ∷ bytes)))) (sym (append_assoc h (32 ∷ (k ++ [])) (10 ∷ [])))
    ∙ (ap (λ (bytes : List ℕ). word ++ (32 ∷ bytes)) (sym (append_assoc f (32 ∷ (h ++ (32 ∷ (k ++ [])))) (10 ∷ []))) ∙ sym (line_spaced word (f ∷ h ∷ k ∷ []))))

-- a line of a word and three fields
pub line_three : (word a b d f h k : List ℕ) → a ≡ f → b ≡ h → d ≡ k → word ++ (32 ∷ (a ++ (32 ∷ (b ++ (32 ∷ (d ++ 10 ∷ [])))))) ≡ line_text (word ∷ f ∷ h ∷ k ∷ [])
line_three word a b d f h k is is_too is_last =
    ap (λ (bytes : List ℕ). word ++ (32 ∷ (bytes ++ (32 ∷ (b ++ (32 ∷ (d ++ 10 ∷ []))))))) is
    ∙ (ap (λ (bytes : List ℕ). word ++ (32 ∷ (f ++ (32 ∷ (bytes ++ (32 ∷ (d ++ 10 ∷ []))))))) is_too
    ∙ (ap (λ (bytes : List ℕ). word ++ (32 ∷ (f ++ (32 ∷ (h ++ (32 ∷ (bytes ++ 10 ∷ []))))))) is_last ∙ three_spaced word f h k))

-- fields that are made one by one
pub spaced_fields : {X : Type 0} (word : List ℕ) (field : X → List ℕ) (xs : List X) → word ++ (flat_map (λ x. spaced (field x)) xs ++ 10 ∷ []) ≡ line_text (word ∷ map field xs)
spaced_fields word field xs = ap (λ (bytes : List ℕ). word ++ (bytes ++ 10 ∷ [])) (sym (flat_map-map spaced field xs)) ∙ sym (line_spaced word (map field xs))

-- a line that is added as a word, fields and its end
module _ {S : Type 0} {written : S → Option (List ℕ)} {room : S → Option ℕ} {faults : S → ℕ} where
  pub line_word_stopped : {X : Type 0} {old new : S} {before : List ℕ} (word : List ℕ) (field : X → List ℕ) (xs : List X) → Stopped written room faults old new before word → Stopped written room faults old new before (line_text (word ∷ map field xs))
  line_word_stopped {old = old} {new = new} {before = before} word field xs a =
      subst (λ (bytes : List ℕ). Stopped written room faults old new before bytes) (spaced_fields word field xs) (stopped_before (flat_map (λ x. spaced (field x)) xs ++ 10 ∷ []) a)

  pub line_fields_stopped : {X : Type 0} {old middle new : S} {before held : List ℕ} (word : List ℕ) (field : X → List ℕ) (xs : List X) → Added written room faults old middle before held word → Stopped written room faults middle new held (flat_map (λ x. spaced (field x)) xs) → Stopped written room faults old new before (line_text (word ∷ map field xs))
  line_fields_stopped {old = old} {new = new} {before = before} word field xs a b =
      subst (λ (bytes : List ℕ). Stopped written room faults old new before bytes) (spaced_fields word field xs) (added_then_stopped a (stopped_before (10 ∷ []) b))

  pub line_added : {X T E : Type 0} {old middle last : S} {before held kept : List ℕ} (word : List ℕ) (field : X → List ℕ) (xs : List X) (new : S) (after : List ℕ) (result : Result T E) → Added written room faults old middle before held word → Added written room faults middle last held kept (flat_map (λ x. spaced (field x)) xs) → Adds written room faults last new kept after (10 ∷ []) result → Adds written room faults old new before after (line_text (word ∷ map field xs)) result
  line_added {old = old} {before = before} word field xs new after result a b d =
      subst (λ (bytes : List ℕ). Adds written room faults old new before after bytes result) (spaced_fields word field xs) (adds_then new after _ result a (adds_then new after (10 ∷ []) result b d))
