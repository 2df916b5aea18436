-- Lists of names, patterns, tests and options with any white space are read so, and no others are.
use Rattle.std.proofs.Common.{◌≡◌, ◌↔◌, ◌⊎◌, inl, inr, ⊎_elim, ℕ, ◌==◌, Bool, true, false, cond, not, List, [], ◌∷◌, ◌++◌, take, drop, filter, All, Option, Some, None, Ok, codes, refl, sym, ap, ◌∙◌, subst, arith, length, append_assoc}
use Rattle.std.specs.Char.{is_ascii_whitespace}
use Rattle.std.specs.List.{slice_split, onto_first, prefix_len, list_all}
use Rattle.std.specs.Option.{option_map, option_map_or, option_and_then, ok_or}
use Rattle.std.specs.Str.{bytes_eq}
use Rattle.std.proofs.lemmas.Bool.{and_parts, or_cases, eqb-true, ne_eqb}
use Rattle.std.proofs.lemmas.List.{append-nil, take-append-drop}
use Rattle.std.proofs.lemmas.List.Elements.{All-nil, All-cons, All-head, All-tail, All-append}
use Rattle.std.proofs.lemmas.List.Splits.{slice_split_none, slice_split_at, slice_split-cons_yes, slice_split-cons_no}
use Rattle.std.proofs.lemmas.Slice.Eq.{bytes_eq-Decides}
use Rattle.std.proofs.Math.Seq.{drop-append_seam}
use Rattle.hz_base_model.specs.Lines.{trimmed, separated}
use Rattle.hz_base_model.specs.Names.{is_name}
use Rattle.hz_base_model.specs.Forms.Trees.{Tree, list, atom, quoted, none, more}
use Rattle.hz_description_model.specs.Reading.DescriptionForms.{unknown_option, Said, options, and_then, kept, is_empty, words, patterns_of, names_of, names_in, patterns_in, without_blanks, after_mark, test_after, test_of, condition_in, is_silent, with_option, with_options, form_says}
use Rattle.hz_description_model.specs.Reading.DescriptionShape.{are_names, are_patterns}
use Rattle.hz_description_model.specs.Reading.Descriptions.{Condition, matches, Options, no_options}
use Rattle.hz_laws.proofs.Written.NamesBack.{IsPlain, plain}
use Rattle.hz_claims_laws.specs.Blanks.{is_blank, AreBlank, WritesName, a_name, WritesPattern, one_name, and_names, the_last, and_more, ListsNames, ListsPatterns, IsUnmarked, WritesTest, has_one, has_none, GivesOption, ndfa, no_minimization, stats, verbose, no_comb_vect, time, progress, warnings, GiveOptions, no_option, one_option}
use Rattle.hz_claims_laws.proofs.BlankTexts.{space_is, no_comma, blank_is, front_skipped, no_front, front_blank, name_there, IsRead, name_back, list_there, list_back, all_right}

-- ---- a value that is kept is the value, and it is right

pub kept_is : {A : Type 0} (good : Bool) (x y : A) → kept good x ≡ Some y → (good ≡ true) × (x ≡ y)
kept_is true x y e = (refl, cc)
kept_is false x y e = absurd (cc)

-- ---- names

some_names : (names : List (List ℕ)) → are_names names ≡ true → list_all is_name names ≡ true
some_names [] h = absurd (cc)
some_names (name ∷ names) h = h

are_some : (text : List ℕ) (names : List (List ℕ)) → ListsNames text names → list_all is_name names ≡ true → are_names names ≡ true
are_some text names (the_last piece name w) h = h
are_some text names (and_more piece name rest others w ws) h = h

pub names_there : (text : List ℕ) (names : List (List ℕ)) → names_of text ≡ Some names → ListsNames text names
names_there text names e =
    let is = kept_is (are_names (separated text)) (separated text) names e in
    subst (ListsNames text) is.1 (list_there WritesName trimmed is_name name_there text (some_names (separated text) is.0))

pub names_back : (text : List ℕ) (names : List (List ℕ)) → ListsNames text names → names_of text ≡ Some names
names_back text names w =
    let same : separated text ≡ names = list_back WritesName trimmed is_name name_back text names w in
    let right = are_some text names w (all_right WritesName trimmed is_name name_back text names w) in
    ap (λ (ns : List (List ℕ)). kept (are_names ns) ns) same ∙ ap (λ (t : Bool). kept t names) right

pub names_are : (line : ℕ) (text : List ℕ) (names : List (List ℕ)) → names_in (quoted line text) ≡ Some names ↔ ListsNames text names
names_are line text names = (names_there text names, names_back text names)

-- ---- the words of a pattern

-- a text in pieces between white space
data IsCut : List ℕ → List (List ℕ) → Type 0 where
  last_piece : (piece : List ℕ) → All (λ b. is_ascii_whitespace b ≡ false) piece → IsCut piece (piece ∷ [])
  one_piece : (piece : List ℕ) (blank : ℕ) (text : List ℕ) (pieces : List (List ℕ)) → All (λ b. is_ascii_whitespace b ≡ false) piece → is_ascii_whitespace blank ≡ true → IsCut text pieces
      → IsCut (piece ++ blank ∷ text) (piece ∷ pieces)

longer : (b : ℕ) (text : List ℕ) (pieces : List (List ℕ)) → is_ascii_whitespace b ≡ false → IsCut text pieces → IsCut (b ∷ text) (onto_first b pieces)
longer b text pieces h (last_piece piece all) = last_piece (b ∷ piece) (All-cons (λ b. is_ascii_whitespace b ≡ false) b piece h all)
longer b text pieces h (one_piece piece blank rest others all is more_pieces) = one_piece (b ∷ piece) blank rest others (All-cons (λ b. is_ascii_whitespace b ≡ false) b piece h all) is more_pieces

cut_so : (text : List ℕ) → IsCut text (slice_split is_ascii_whitespace text)
cut_so [] = last_piece [] (All-nil (λ b. is_ascii_whitespace b ≡ false))
cut_so (b ∷ text) = by_test (is_ascii_whitespace b) refl (cut_so text)
  where
    by_test : (t : Bool) → is_ascii_whitespace b ≡ t → IsCut text (slice_split is_ascii_whitespace text) → IsCut (b ∷ text) (slice_split is_ascii_whitespace (b ∷ text))
    by_test true e rest = subst (IsCut (b ∷ text)) (sym (slice_split-cons_yes is_ascii_whitespace b text e)) (one_piece [] b text (slice_split is_ascii_whitespace text) (All-nil (λ b. is_ascii_whitespace b ≡ false)) e rest)
    by_test false e rest = subst (IsCut (b ∷ text)) (sym (slice_split-cons_no is_ascii_whitespace b text e)) (longer b text (slice_split is_ascii_whitespace text) e rest)

-- the pieces that have a byte
abbrev filled : List (List ℕ) → List (List ℕ)
filled pieces = filter (λ part. not (is_empty part)) pieces

-- white space before a pattern
pub after_blank : (b : ℕ) (text : List ℕ) (names : List (List ℕ)) → is_blank b ≡ true → WritesPattern text names → WritesPattern (b ∷ text) names
after_blank b text names h (one_name (a_name before name after blank is after_is)) = one_name (a_name (b ∷ before) name after (All-cons (λ b. is_blank b ≡ true) b before h blank) is after_is)
after_blank b text names h (and_names before name gap rest others blank is gap_is more_names) =
    and_names (b ∷ before) name gap rest others (All-cons (λ b. is_blank b ≡ true) b before h blank) is gap_is more_names

-- a name at the end
alone : (name after : List ℕ) → is_name name ≡ true → AreBlank after → WritesPattern (name ++ after) (name ∷ [])
alone name after is blank = one_name (a_name [] name after (All-nil (λ b. is_blank b ≡ true)) is blank)

-- pieces of which each is a name are a pattern, or there is none
abbrev Says : List ℕ → List (List ℕ) → Type 0
Says text names = (AreBlank text × (names ≡ [])) ⊎ WritesPattern text names

says_last : (piece : List ℕ) → list_all is_name (filled (piece ∷ [])) ≡ true → Says piece (filled (piece ∷ []))
says_last [] h = inl (All-nil (λ b. is_blank b ≡ true), refl)
says_last (b ∷ bytes) h =
    inr (subst (λ (text : List ℕ). WritesPattern text ((b ∷ bytes) ∷ [])) (append-nil (b ∷ bytes)) (alone (b ∷ bytes) [] (and_parts (is_name (b ∷ bytes)) true h).0 (All-nil (λ b. is_blank b ≡ true))))

says_more : (piece : List ℕ) (blank : ℕ) (text : List ℕ) (pieces : List (List ℕ)) → is_blank blank ≡ true → list_all is_name (filled (piece ∷ pieces)) ≡ true
    → (list_all is_name (filled pieces) ≡ true → Says text (filled pieces)) → Says (piece ++ blank ∷ text) (filled (piece ∷ pieces))
says_more [] blank text pieces is h rest =
    ⊎_elim
    (λ (no_names : AreBlank text × (filled pieces ≡ [])). inl (All-cons (λ b. is_blank b ≡ true) blank text is no_names.0, no_names.1))
    (λ (w : WritesPattern text (filled pieces)). inr (after_blank blank text (filled pieces) is w))
    (rest h)
says_more (b ∷ bytes) blank text pieces is h rest =
    let parts = and_parts (is_name (b ∷ bytes)) (list_all is_name (filled pieces)) h in
    ⊎_elim
    (λ (no_names : AreBlank text × (filled pieces ≡ [])).
    inr (subst (λ (names : List (List ℕ)). WritesPattern ((b ∷ bytes) ++ blank ∷ text) ((b ∷ bytes) ∷ names)) (sym no_names.1) (alone (b ∷ bytes) (blank ∷ text) parts.0 (All-cons (λ b. is_blank b ≡ true) blank text is no_names.0))))
    (λ (w : WritesPattern text (filled pieces)). inr (and_names [] (b ∷ bytes) blank text (filled pieces) (All-nil (λ b. is_blank b ≡ true)) parts.0 is w))
    (rest parts.1)

says_cut : (text : List ℕ) (pieces : List (List ℕ)) → IsCut text pieces → list_all is_name (filled pieces) ≡ true → Says text (filled pieces)
says_cut text pieces (last_piece piece all) h = says_last piece h
says_cut text pieces (one_piece piece blank rest others all is more_pieces) h = says_more piece blank rest others (blank_is blank is) h (says_cut rest others more_pieces)

pattern_there : (text : List ℕ) → are_names (words text) ≡ true → WritesPattern text (words text)
pattern_there text h =
    ⊎_elim
    (λ (no_names : AreBlank text × (words text ≡ [])). absurd (let never : are_names [] ≡ true = subst (λ (ns : List (List ℕ)). are_names ns ≡ true) no_names.1 h in cc))
    (λ (w : WritesPattern text (words text)). w)
    (says_cut text (slice_split is_ascii_whitespace text) (cut_so text) (some_names (words text) h))

-- ---- words of what is written

words_after : (blanks text : List ℕ) → AreBlank blanks → words (blanks ++ text) ≡ words text
words_after [] text h = refl
words_after (b ∷ blanks) text h =
    ap filled (slice_split-cons_yes is_ascii_whitespace b (blanks ++ text) (space_is b (All-head (λ b. is_blank b ≡ true) b blanks h)))
    ∙ words_after blanks text (All-tail (λ b. is_blank b ≡ true) b blanks h)

filled_first : (name : List ℕ) (pieces : List (List ℕ)) → IsPlain name → filled (name ∷ pieces) ≡ name ∷ filled pieces
filled_first [] pieces h = absurd (let some = h.some in omega (arith, some))
filled_first (b ∷ name) pieces h = refl

words_alone : (name after : List ℕ) → IsPlain name → AreBlank after → words (name ++ after) ≡ name ∷ []
words_alone name [] h blank =
    ap words (append-nil name) ∙ ap filled (slice_split_none is_ascii_whitespace name h.spaces) ∙ filled_first name [] h
words_alone name (b ∷ after) h blank =
    ap filled (slice_split_at is_ascii_whitespace name b after h.spaces (space_is b (All-head (λ b. is_blank b ≡ true) b after blank)))
    ∙ filled_first name (slice_split is_ascii_whitespace after) h
    ∙ ap (λ (names : List (List ℕ)). name ∷ names) (ap words (sym (append-nil after)) ∙ words_after after [] (All-tail (λ b. is_blank b ≡ true) b after blank))

no_commas : (blanks : List ℕ) → AreBlank blanks → All (λ b. (b == 44) ≡ false) blanks
no_commas blanks h = λ k d within. no_comma _ (h k d within)

pattern_back : (text : List ℕ) (names : List (List ℕ)) → WritesPattern text names → IsRead words are_names text names
pattern_back text names (one_name (a_name before name after blank is after_blank)) =
    let p = plain name is in
    record {
      is = words_after before (name ++ after) blank ∙ words_alone name after p after_blank;
      right = rw is refl;
      commas = All-append (λ b. (b == 44) ≡ false) before (name ++ after) (no_commas before blank) (All-append (λ b. (b == 44) ≡ false) name after p.commas (no_commas after after_blank));
    }
pattern_back text names (and_names before name gap rest others blank is gap_is more_names) =
    let p = plain name is in
    let later = pattern_back rest others more_names in
    record {
      is = words_after before (name ++ gap ∷ rest) blank
          ∙ ap filled (slice_split_at is_ascii_whitespace name gap rest p.spaces (space_is gap gap_is))
          ∙ filled_first name (slice_split is_ascii_whitespace rest) p
          ∙ ap (λ (ns : List (List ℕ)). name ∷ ns) later.is;
      right = rw is (some_names others later.right);
      commas = All-append (λ b. (b == 44) ≡ false) before (name ++ gap ∷ rest) (no_commas before blank)
          (All-append (λ b. (b == 44) ≡ false) name (gap ∷ rest) p.commas (All-cons (λ b. (b == 44) ≡ false) gap rest (no_comma gap gap_is) later.commas));
    }

-- ---- patterns

some_patterns : (patterns : List (List (List ℕ))) → are_patterns patterns ≡ true → list_all are_names patterns ≡ true
some_patterns [] h = absurd (cc)
some_patterns (pattern ∷ patterns) h = h

are_some_patterns : (text : List ℕ) (patterns : List (List (List ℕ))) → ListsPatterns text patterns → list_all are_names patterns ≡ true → are_patterns patterns ≡ true
are_some_patterns text patterns (the_last piece pattern w) h = h
are_some_patterns text patterns (and_more piece pattern rest others w ws) h = h

pub patterns_there : (line : ℕ) (text : List ℕ) (patterns : List (List (List ℕ))) → patterns_in (quoted line text) ≡ Some patterns → ListsPatterns text patterns
patterns_there line text patterns e =
    let is = kept_is (are_patterns (patterns_of text)) (patterns_of text) patterns e in
    subst (ListsPatterns text) is.1 (list_there WritesPattern words are_names pattern_there text (some_patterns (patterns_of text) is.0))

pub patterns_back : (line : ℕ) (text : List ℕ) (patterns : List (List (List ℕ))) → ListsPatterns text patterns → patterns_in (quoted line text) ≡ Some patterns
patterns_back line text patterns w =
    let same : patterns_of text ≡ patterns = list_back WritesPattern words are_names pattern_back text patterns w in
    let right = are_some_patterns text patterns w (all_right WritesPattern words are_names pattern_back text patterns w) in
    ap (λ (ps : List (List (List ℕ))). kept (are_patterns ps) ps) same ∙ ap (λ (t : Bool). kept t patterns) right

pub patterns_are : (line : ℕ) (text : List ℕ) (patterns : List (List (List ℕ))) → patterns_in (quoted line text) ≡ Some patterns ↔ ListsPatterns text patterns
patterns_are line text patterns = (patterns_there line text patterns, patterns_back line text patterns)

-- ---- tests

-- without the white space at the front a list begins with the first byte of its first name
record Begins (text : List ℕ) (names : List (List ℕ)) : Type 0 where
  first : ℕ
  rest : List ℕ
  name : List ℕ
  others : List (List ℕ)
  bytes : without_blanks text ≡ first ∷ rest
  names_are : names ≡ (first ∷ name) ∷ others

begins_so : (before name after : List ℕ) (others : List (List ℕ)) → AreBlank before → IsPlain name → Begins (before ++ (name ++ after)) (name ∷ others)
begins_so before [] after others blank h = absurd (let some = h.some in omega (arith, some))
begins_so before (b ∷ name) after others blank h = record {
  first = b;
  rest = name ++ after;
  name = name;
  others = others;
  bytes =
      let skipped : prefix_len is_ascii_whitespace (before ++ (b ∷ (name ++ after))) ≡ length before =
      omega (arith, front_skipped before (b ∷ (name ++ after)) blank, no_front b (name ++ after) (All-head (λ b. is_ascii_whitespace b ≡ false) b name h.spaces)) in
      ap (λ (n : ℕ). drop n (before ++ (b ∷ (name ++ after)))) skipped ∙ drop-append_seam before (b ∷ (name ++ after));
  names_are = refl;
}

more_text : (before name after text : List ℕ) → (before ++ (name ++ after)) ++ text ≡ before ++ (name ++ (after ++ text))
more_text before name after text = append_assoc before (name ++ after) text ∙ ap (λ (bytes : List ℕ). before ++ bytes) (append_assoc name after text)

begins : (text : List ℕ) (names : List (List ℕ)) → ListsNames text names → Begins text names
begins text names (the_last piece word (a_name before name after blank h after_is)) = begins_so before name after [] blank (plain name h)
begins text names (and_more piece word rest others (a_name before name after blank h after_is) ws) =
    subst (λ (bytes : List ℕ). Begins bytes (name ∷ others)) (sym (more_text before name after (44 ∷ rest))) (begins_so before name (after ++ 44 ∷ rest) others blank (plain name h))

-- what a list says after a mark or none
tested : (attribute : List ℕ) (negated : Bool) (text : List ℕ) (test : Condition) → test_after attribute negated text ≡ Some test → (values : List (List ℕ)) × ListsNames text values × (matches attribute values negated ≡ test)
tested attribute negated text test e = of (names_of text) refl e
  where
    of : (o : Option (List (List ℕ))) → names_of text ≡ o → option_map (λ values. matches attribute values negated) o ≡ Some test → (values : List (List ℕ)) × ListsNames text values × (matches attribute values negated ≡ test)
    of None is k = absurd (cc)
    of (Some values) is k = (values, names_there text values is, cc)

pub test_back : (attribute text : List ℕ) (test : Condition) → WritesTest attribute text test → test_of attribute text ≡ Some test
test_back attribute bytes test (has_one text values w unmarked) =
    let b = begins text values w in
    let not_mark : b.first ≡ 33 → ⊥ = subst IsUnmarked b.names_are unmarked in
    let no_mark : after_mark (without_blanks text) ≡ None = ap after_mark b.bytes ∙ ap (λ (t : Bool). cond t (Some b.rest) None) (ne_eqb b.first 33 not_mark) in
    ap (λ (o : Option (List ℕ)). option_map_or (test_after attribute true) o (test_after attribute false text)) no_mark
    ∙ ap (option_map (λ values. matches attribute values false)) (names_back text values w)
test_back attribute text test (has_none before rest values blank w) =
    let skipped : prefix_len is_ascii_whitespace (before ++ 33 ∷ rest) ≡ length before = omega (arith, front_skipped before (33 ∷ rest) blank, no_front 33 rest refl) in
    let bytes : without_blanks (before ++ 33 ∷ rest) ≡ 33 ∷ rest = ap (λ (n : ℕ). drop n (before ++ 33 ∷ rest)) skipped ∙ drop-append_seam before (33 ∷ rest) in
    ap (λ (bytes : List ℕ). option_map_or (test_after attribute true) (after_mark bytes) (test_after attribute false (before ++ 33 ∷ rest))) bytes
    ∙ ap (option_map (λ values. matches attribute values true)) (names_back rest values w)

-- a list that begins with no mark
unmarked_list : (attribute text rest : List ℕ) (test : Condition) → without_blanks text ≡ rest → after_mark rest ≡ None → test_after attribute false text ≡ Some test → WritesTest attribute text test
unmarked_list attribute text rest test is no_mark e =
    let said = tested attribute false text test e in
    let b = begins text said.0 said.1 in
    let not_mark : b.first ≡ 33 → ⊥ = λ same.
    let marked : after_mark (b.first ∷ b.rest) ≡ Some b.rest = subst (λ (n : ℕ). after_mark (n ∷ b.rest) ≡ Some b.rest) (sym same) refl in
    let none_there : after_mark (b.first ∷ b.rest) ≡ None = subst (λ (bytes : List ℕ). after_mark bytes ≡ None) (sym is ∙ b.bytes) no_mark in
    absurd (let never : Some b.rest ≡ None = sym marked ∙ none_there in cc) in
    subst (WritesTest attribute text) said.2 (has_one text said.0 said.1 (subst IsUnmarked (sym b.names_are) not_mark))

pub test_there : (attribute text : List ℕ) (test : Condition) → test_of attribute text ≡ Some test → WritesTest attribute text test
test_there attribute text test e = of (without_blanks text) refl e
  where
    of : (rest : List ℕ) → without_blanks text ≡ rest → option_map_or (test_after attribute true) (after_mark rest) (test_after attribute false text) ≡ Some test → WritesTest attribute text test
    of [] is k = unmarked_list attribute text [] test is refl k
    of (b ∷ rest) is k = by_test (b == 33) refl k
      where
        by_test : (t : Bool) → (b == 33) ≡ t → option_map_or (test_after attribute true) (cond t (Some rest) None) (test_after attribute false text) ≡ Some test → WritesTest attribute text test
        by_test true mark q =
            let said = tested attribute true rest test q in
            let parts : take (prefix_len is_ascii_whitespace text) text ++ 33 ∷ rest ≡ text =
            ap (λ (n : ℕ). take (prefix_len is_ascii_whitespace text) text ++ n ∷ rest) (sym (eqb-true b 33 mark))
            ∙ ap (λ (bytes : List ℕ). take (prefix_len is_ascii_whitespace text) text ++ bytes) (sym is)
            ∙ take-append-drop (prefix_len is_ascii_whitespace text) text in
            subst (WritesTest attribute text) said.2
            (subst (λ (bytes : List ℕ). WritesTest attribute bytes (matches attribute said.0 true)) parts (has_none (take (prefix_len is_ascii_whitespace text) text) rest said.0 (front_blank text) said.1))
        by_test false no_mark q = unmarked_list attribute text (b ∷ rest) test is (ap (λ (t : Bool). cond t (Some rest) None) no_mark) q

abbrev test_form : (line word name_line text_line : ℕ) (name text : List ℕ) → Tree
test_form line word name_line text_line name text = list line (more (atom word (codes "eq_attr")) (more (quoted name_line name) (more (quoted text_line text) none)))

named_test : (name text : List ℕ) (test : Condition) → option_and_then (λ n. test_of n text) (kept (is_name name) name) ≡ Some test → (is_name name ≡ true) × (test_of name text ≡ Some test)
named_test name text test e = of (is_name name) refl e
  where
    of : (t : Bool) → is_name name ≡ t → option_and_then (λ n. test_of n text) (kept t name) ≡ Some test → (is_name name ≡ true) × (test_of name text ≡ Some test)
    of true is k = (is, k)
    of false is k = absurd (cc)

pub tests_are : (line word name_line text_line : ℕ) (name text : List ℕ) (test : Condition) → condition_in (test_form line word name_line text_line name text) ≡ Some test ↔ ((is_name name ≡ true) × WritesTest name text test)
tests_are line word name_line text_line name text test = (
  λ e. let is = named_test name text test e in (is.0, test_there name text test is.1),
  λ h. rw (h.0) (test_back name text test h.1),
)

-- ---- options

-- an option by its word, or one of the others
by_word : (word name : List ℕ) (o p q : Options) (others : Option Options) → ((word ≡ name) → (p ≡ q) → GivesOption word o q) → (others ≡ Some q → GivesOption word o q) → cond (bytes_eq word name) (Some p) others ≡ Some q → GivesOption word o q
by_word word name o p q others this another e = of (bytes_eq word name) refl e
  where
    of : (t : Bool) → bytes_eq word name ≡ t → cond t (Some p) others ≡ Some q → GivesOption word o q
    of true is k = this ((bytes_eq-Decides word name).0 is) cc
    of false is k = another k

-- an option that is this word is given so
given_so : (word name : List ℕ) (o p q : Options) → GivesOption name o p → word ≡ name → p ≡ q → GivesOption word o q
given_so word name o p q w is same = subst (GivesOption word o) same (subst (λ (bytes : List ℕ). GivesOption bytes o p) (sym is) w)

silent_there : (word : List ℕ) (o q : Options) → kept (is_silent word) o ≡ Some q → GivesOption word o q
silent_there word o q e =
    let is = kept_is (is_silent word) o q e in
    ⊎_elim
    (λ x. ⊎_elim
    (λ y. given_so word (codes "time") o o q (time o) ((bytes_eq-Decides word (codes "time")).0 y) is.1)
    (λ y. given_so word (codes "progress") o o q (progress o) ((bytes_eq-Decides word (codes "progress")).0 y) is.1)
    (or_cases (bytes_eq word (codes "time")) (bytes_eq word (codes "progress")) x))
    (λ x. given_so word (codes "w") o o q (warnings o) ((bytes_eq-Decides word (codes "w")).0 x) is.1)
    (or_cases _ (bytes_eq word (codes "w")) is.0)

option_there : (word : List ℕ) (o q : Options) → with_option o word ≡ Some q → GivesOption word o q
option_there word o q e =
    by_word word (codes "ndfa") o (record o { ndfa = true }) q _ (given_so word (codes "ndfa") o (record o { ndfa = true }) q (ndfa o)) (λ k.
    by_word word (codes "no-minimization") o (record o { no_minimization = true }) q _ (given_so word (codes "no-minimization") o (record o { no_minimization = true }) q (no_minimization o)) (λ k.
    by_word word (codes "stats") o (record o { stats = true }) q _ (given_so word (codes "stats") o (record o { stats = true }) q (stats o)) (λ k.
    by_word word (codes "v") o (record o { verbose = true }) q _ (given_so word (codes "v") o (record o { verbose = true }) q (verbose o)) (λ k.
    by_word word (codes "no-comb-vect") o (record o { no_comb_vect = true }) q _ (given_so word (codes "no-comb-vect") o (record o { no_comb_vect = true }) q (no_comb_vect o)) (λ k.
    silent_there word o q k) k) k) k) k) e

option_back : (word : List ℕ) (o q : Options) → GivesOption word o q → with_option o word ≡ Some q
option_back word o q (ndfa p) = refl
option_back word o q (no_minimization p) = refl
option_back word o q (stats p) = refl
option_back word o q (verbose p) = refl
option_back word o q (no_comb_vect p) = refl
option_back word o q (time p) = refl
option_back word o q (progress p) = refl
option_back word o q (warnings p) = refl

given_there : (words : List (List ℕ)) (o q : Options) → with_options o words ≡ Some q → GiveOptions words o q
given_there [] o q e = let same : o ≡ q = cc in subst (GiveOptions [] o) same (no_option o)
given_there (word ∷ words) o q e = of (λ p k. given_there words p q k) (with_option o word) refl e
  where
    of : ((p : Options) → with_options p words ≡ Some q → GiveOptions words p q) → (found : Option Options) → with_option o word ≡ found → option_and_then (λ p. with_options p words) found ≡ Some q → GiveOptions (word ∷ words) o q
    of again None is k = absurd (cc)
    of again (Some p) is k = one_option word words o p q (option_there word o p is) (again p k)

given_back : (words : List (List ℕ)) (o q : Options) → GiveOptions words o q → with_options o words ≡ Some q
given_back words o q (no_option p) = refl
given_back words o q (one_option word others first p last w ws) = rw (option_back word first p w) (given_back others p last ws)

-- an option is a name
option_name : (word : List ℕ) (o q : Options) → GivesOption word o q → is_name word ≡ true
option_name word o q (ndfa p) = refl
option_name word o q (no_minimization p) = refl
option_name word o q (stats p) = refl
option_name word o q (verbose p) = refl
option_name word o q (no_comb_vect p) = refl
option_name word o q (time p) = refl
option_name word o q (progress p) = refl
option_name word o q (warnings p) = refl

option_names : (words : List (List ℕ)) (o q : Options) → GiveOptions words o q → list_all is_name words ≡ true
option_names words o q (no_option p) = refl
option_names words o q (one_option word others first p last w ws) = rw (option_name word first p w) (option_names others p last ws)

abbrev options_in : (line word text_line : ℕ) → List ℕ → Tree
options_in line word text_line text = list line (more (atom word (codes "automata_option")) (more (quoted text_line text) none))

said_options : (o : Option Options) (p : Options) → and_then (ok_or o unknown_option) (λ o. Ok (options o)) ≡ Ok (options p) → o ≡ Some p
said_options None p e = absurd (cc)
said_options (Some o) p e = let same : o ≡ p = cc in ap Some same

pub options_back : (words : List (List ℕ)) (o : Options) (text : List ℕ) → ListsNames text words → GiveOptions words no_options o → with_options no_options (separated text) ≡ Some o
options_back words o text w g =
    let same : separated text ≡ words = list_back WritesName trimmed is_name name_back text words w in
    ap (with_options no_options) same ∙ given_back words no_options o g

pub options_there : (text : List ℕ) (o : Options) → with_options no_options (separated text) ≡ Some o → (words : List (List ℕ)) × ListsNames text words × GiveOptions words no_options o
options_there text o e =
    let given = given_there (separated text) no_options o e in
    (separated text, list_there WritesName trimmed is_name name_there text (option_names (separated text) no_options o given), given)

pub options_are : (read : List ℕ → Said) (n line word text_line : ℕ) (text : List ℕ) (o : Options) → form_says read n (options_in line word text_line text) ≡ Ok (options o)
    ↔ ((words : List (List ℕ)) × ListsNames text words × GiveOptions words no_options o)
options_are read n line word text_line text o = (
  λ e. options_there text o (said_options (with_options no_options (separated text)) o e),
  λ h. rw (options_back h.0 o text h.1 h.2) refl,
)
