-- What a trace line is made of: margins, words and gaps.
use Rattle.std.proofs.Common.{◌≡◌, ℕ, ◌-◌, ◌<◌, ◌≤◌, ◌==◌, Bool, true, false, cond, List, [], ◌∷◌, ◌++◌, length, take, drop, reverse, Option, Some, None, refl, sym, ap, ◌∙◌, subst, append_assoc, arith}
use Rattle.std.specs.Prelude.{codes, not, nat_le, ◌&&◌, IsTrue, ◌↔◌}
use Rattle.std.specs.List.{list_all, prefix_len, suffix_len, position_or_len}
use Rattle.std.specs.Option.{option_map_or}
use Rattle.std.specs.Str.{bytes_eq}
use Rattle.std.proofs.Math.Seq.{take-append_seam, drop-append_seam}
use Rattle.std.proofs.lemmas.List.{append-nil, reverse-append, reverse-reverse, length-append, length-reverse}
use Rattle.std.specs.Char.{is_ascii_digit}
use Rattle.std.proofs.lemmas.Bool.{eqb-true, ne_eqb, leb-true}
use Rattle.std.proofs.lemmas.List.Folds.{list_all-append}
use Rattle.std.proofs.lemmas.Slice.Eq.{bytes_eq-Decides}
use Rattle.hz_base_model.specs.Names.{is_name, is_name_byte, is_separator}
use Rattle.hz_base_model.specs.Lines.{number_of, number_from, place_of}
use Rattle.hz_pipeline_model.specs.Accepting.Events.{issue, advance, ask}
use Rattle.hz_pipeline_model.specs.Traces.TraceNames.{TraceNames, query_place}
use Rattle.hz_pipeline_model.specs.Traces.Traces.{Line, skipped, says, wrong, bad_line, unknown_class, unknown_unit, is_margin, is_gap, without_margin, first_word, operand, says_issue, says_advance, says_ask, says_words, says_content, line_says}
use Rattle.hz_pipeline_model.specs.Traces.TraceLines.{IsWords, IsSkipped, is_blank, is_comment}

-- ---- a front of bytes that pass a test

-- the first byte, if there is one, does not pass
abbrev Stops : (ℕ → Bool) → List ℕ → Type 0
Stops p [] = Unit {0}
Stops p (b ∷ bs) = p b ≡ false

record Front (p : ℕ → Bool) (xs : List ℕ) : Type 0 where
  front : List ℕ
  rest : List ℕ
  parts : xs ≡ front ++ rest
  passes : list_all p front ≡ true
  stops : Stops p rest

front_of : (p : ℕ → Bool) (xs : List ℕ) → Front p xs
front_of p [] = record { front = []; rest = []; parts = refl; passes = refl; stops = tt }
front_of p (b ∷ bs) = by_test (p b) refl (front_of p bs)
  where
    by_test : (t : Bool) → p b ≡ t → Front p bs → Front p (b ∷ bs)
    by_test true e f = record { front = b ∷ f.front; rest = f.rest; parts = ap (λ (xs : List ℕ). b ∷ xs) f.parts; passes = rw e f.passes; stops = f.stops }
    by_test false e f = record { front = []; rest = b ∷ bs; parts = refl; passes = refl; stops = e }

both_true : (a b : Bool) → (a && b) ≡ true → (a ≡ true) × (b ≡ true)
both_true true b h = (refl, h)
both_true false b h = absurd (cc)

front_long : (p : ℕ → Bool) (front rest : List ℕ) → list_all p front ≡ true → Stops p rest → prefix_len p (front ++ rest) ≡ length front
front_long p [] [] all stops = refl
front_long p [] (b ∷ bs) all stops = rw stops refl
front_long p (b ∷ front) rest all stops =
    let (here, further) = both_true (p b) (list_all p front) all in
    let more = front_long p front rest further stops in
    rw here (omega (arith, more))

front_taken : (p : ℕ → Bool) (front rest : List ℕ) → list_all p front ≡ true → Stops p rest → take (prefix_len p (front ++ rest)) (front ++ rest) ≡ front
front_taken p front rest all stops = rw (front_long p front rest all stops) (take-append_seam front rest)

front_dropped : (p : ℕ → Bool) (front rest : List ℕ) → list_all p front ≡ true → Stops p rest → drop (prefix_len p (front ++ rest)) (front ++ rest) ≡ rest
front_dropped p front rest all stops = rw (front_long p front rest all stops) (drop-append_seam front rest)

-- ---- the margin at the end

all_reversed : (p : ℕ → Bool) (xs : List ℕ) → list_all p xs ≡ true → list_all p (reverse xs) ≡ true
all_reversed p [] h = refl
all_reversed p (b ∷ bs) h =
    let (here, further) = both_true (p b) (list_all p bs) h in
    let whole : reverse (b ∷ bs) ≡ reverse bs ++ b ∷ [] = reverse-append (b ∷ []) bs in
    rw (whole, list_all-append p (reverse bs) (b ∷ []), all_reversed p bs further, here) refl

-- a list that does not end with a byte that passes
abbrev Ends : (ℕ → Bool) → List ℕ → Type 0
Ends p xs = Stops p (reverse xs)

after_long : (p : ℕ → Bool) (xs right : List ℕ) → Ends p xs → list_all p right ≡ true → suffix_len p (xs ++ right) ≡ length right
after_long p xs right ends all =
    rw (reverse-append xs right) (front_long p (reverse right) (reverse xs) (all_reversed p right all) ends ∙ length-reverse right)

after_dropped : (p : ℕ → Bool) (xs right : List ℕ) → Ends p xs → list_all p right ≡ true → take (length (xs ++ right) - suffix_len p (xs ++ right)) (xs ++ right) ≡ xs
after_dropped p xs right ends all =
    let left : length (xs ++ right) - suffix_len p (xs ++ right) ≡ length xs = omega (arith, after_long p xs right ends all, length-append xs right) in
    rw left (take-append_seam xs right)

-- ---- a line without its margins

record Middle (line middle : List ℕ) : Type 0 where
  left : List ℕ
  right : List ℕ
  parts : line ≡ left ++ (middle ++ right)
  margin_left : list_all is_margin left ≡ true
  begins : Stops is_margin middle
  ends : Ends is_margin middle
  margin_right : list_all is_margin right ≡ true

-- where something stands between the margins, it is what is left
middle_is : (left : List ℕ) (b : ℕ) (bs right : List ℕ) → list_all is_margin left ≡ true → is_margin b ≡ false → Ends is_margin (b ∷ bs) → list_all is_margin right ≡ true
    → without_margin (left ++ ((b ∷ bs) ++ right)) ≡ b ∷ bs
middle_is left b bs right before begins ends beyond =
    ap (λ (rest : List ℕ). take (length rest - suffix_len is_margin rest) rest) (front_dropped is_margin left ((b ∷ bs) ++ right) before begins)
    ∙ after_dropped is_margin (b ∷ bs) right ends beyond

blank_is : (line : List ℕ) → list_all is_margin line ≡ true → without_margin line ≡ []
blank_is line all =
    let same : line ++ [] ≡ line = append-nil line in
    ap (λ (rest : List ℕ). take (length rest - suffix_len is_margin rest) rest)
    (ap (λ (xs : List ℕ). drop (prefix_len is_margin xs) xs) (sym same) ∙ front_dropped is_margin line [] all tt)

first_stays : (b : ℕ) (bs middle right : List ℕ) → b ∷ bs ≡ middle ++ right → is_margin b ≡ false → Stops is_margin middle
first_stays b bs [] right e stops = tt
first_stays b bs (c ∷ middle) right e stops = let same : b ≡ c = cc in subst (λ (x : ℕ). is_margin x ≡ false) same stops

middle_of : (line : List ℕ) → Middle line (without_margin line)
middle_of line = go (front_of is_margin line)
  where
    go : Front is_margin line → Middle line (without_margin line)
    go f = by_rest f.rest f.parts f.stops
      where
        by_rest : (rest : List ℕ) → line ≡ f.front ++ rest → Stops is_margin rest → Middle line (without_margin line)
        by_rest [] parts stops =
            let same : line ≡ f.front = parts ∙ append-nil f.front in
            let all : list_all is_margin line ≡ true = ap (list_all is_margin) same ∙ f.passes in
            rw (blank_is line all) (record { left = line; right = []; parts = sym (append-nil line); margin_left = all; begins = tt; ends = tt; margin_right = refl })
        by_rest (b ∷ bs) parts stops = by_back (front_of is_margin (reverse (b ∷ bs)))
          where
            by_back : Front is_margin (reverse (b ∷ bs)) → Middle line (without_margin line)
            by_back g =
                let middle : List ℕ = reverse g.rest in
                let right : List ℕ = reverse g.front in
                let whole : b ∷ bs ≡ middle ++ right = sym (reverse-reverse (b ∷ bs)) ∙ (ap reverse g.parts ∙ reverse-append g.front g.rest) in
                let ends : Ends is_margin middle = subst (Stops is_margin) (sym (reverse-reverse g.rest)) g.stops in
                let beyond : list_all is_margin right ≡ true = all_reversed is_margin g.front g.passes in
                let line_is : line ≡ f.front ++ (middle ++ right) = parts ∙ ap (λ (xs : List ℕ). f.front ++ xs) whole in
                let left : without_margin line ≡ middle =
                ap (λ (rest : List ℕ). take (length rest - suffix_len is_margin rest) rest)
                (ap (λ (xs : List ℕ). drop (prefix_len is_margin xs) xs) parts ∙ (front_dropped is_margin f.front (b ∷ bs) f.passes stops ∙ whole))
                ∙ after_dropped is_margin middle right ends beyond in
                rw left (record { left = f.front; right = right; parts = line_is; margin_left = f.passes; begins = first_stays b bs middle right whole stops; ends = ends; margin_right = beyond })

marked_line : (left rest : List ℕ) → list_all is_margin left ≡ true → without_margin (left ++ 59 ∷ rest) ≡ take (length (59 ∷ rest) - suffix_len is_margin (59 ∷ rest)) (59 ∷ rest)
marked_line left rest all = ap (λ (xs : List ℕ). take (length xs - suffix_len is_margin xs) xs) (front_dropped is_margin left (59 ∷ rest) all refl)

-- ---- a word, a gap and an operand

all_not : (p : ℕ → Bool) (q : ℕ → Bool) → ((b : ℕ) → p b ≡ true → q b ≡ false) → (xs : List ℕ) → list_all p xs ≡ true → list_all (λ b. not (q b)) xs ≡ true
all_not p q other [] h = refl
all_not p q other (b ∷ bs) h =
    let (here, further) = both_true (p b) (list_all p bs) h in
    rw (other b here, all_not p q other bs further) refl

not_true : (t : Bool) → not t ≡ true → t ≡ false
not_true true h = absurd (cc)
not_true false h = refl

opposite : (t : Bool) → t ≡ false → not t ≡ false → ⊥
opposite true h k = absurd (cc)
opposite false h k = absurd (cc)

-- a list of one byte or more that don't pass neither begins nor ends with one that passes
ends_so : (q : ℕ → Bool) (b : ℕ) (bs : List ℕ) → list_all (λ b. not (q b)) (b ∷ bs) ≡ true → (front : List ℕ) → Ends q (front ++ b ∷ bs)
ends_so q b bs all front = rw (reverse-append front (b ∷ bs)) (by_first (reverse (b ∷ bs)) refl)
  where
    by_first : (xs : List ℕ) → reverse (b ∷ bs) ≡ xs → Stops q (xs ++ reverse front)
    by_first [] e = let none : b ∷ bs ≡ [] = sym (reverse-reverse (b ∷ bs)) ∙ ap reverse e in absurd (cc)
    by_first (c ∷ cs) e =
        let there : list_all (λ b. not (q b)) (c ∷ cs) ≡ true = ap (list_all (λ b. not (q b))) (sym e) ∙ all_reversed (λ b. not (q b)) (b ∷ bs) all in
        not_true (q c) (both_true (not (q c)) (list_all (λ b. not (q b)) cs) there).0

begins_so : (q : ℕ → Bool) (xs : List ℕ) → list_all (λ b. not (q b)) xs ≡ true → Stops q xs
begins_so q [] h = tt
begins_so q (b ∷ bs) h = not_true (q b) (both_true (not (q b)) (list_all (λ b. not (q b)) bs) h).0

gap_there : (gap other rest : List ℕ) → rest ≡ gap ++ other → Stops (λ b. not (is_gap b)) rest → Stops is_gap other → 0 < length other → 0 < length gap
gap_there (b ∷ gap) other rest e h k long = omega arith
gap_there [] [] rest e h k long = absurd (omega arith)
gap_there [] (b ∷ other) rest e h k long =
    let there : not (is_gap b) ≡ false = subst (Stops (λ b. not (is_gap b))) e h in
    absurd (opposite (is_gap b) k there)

record Words (content word operand : List ℕ) : Type 0 where
  gap : List ℕ
  parts : content ≡ word ++ (gap ++ operand)
  gap_between : list_all is_gap gap ≡ true
  some_gap : 0 < length operand → 0 < length gap

-- what a line is made of
words_of : (content : List ℕ) → Words content (first_word content) (operand content)
words_of content = go (front_of (λ b. not (is_gap b)) content)
  where
    go : Front (λ b. not (is_gap b)) content → Words content (first_word content) (operand content)
    go f = by_gap (front_of is_gap f.rest)
      where
        word_is : first_word content ≡ f.front
        word_is = ap first_word f.parts ∙ front_taken (λ b. not (is_gap b)) f.front f.rest f.passes f.stops

        by_gap : Front is_gap f.rest → Words content (first_word content) (operand content)
        by_gap g =
            let beyond : drop (position_or_len is_gap content) content ≡ f.rest = ap (λ (xs : List ℕ). drop (position_or_len is_gap xs) xs) f.parts ∙ front_dropped (λ b. not (is_gap b)) f.front f.rest f.passes f.stops in
            let operand_is : operand content ≡ g.rest =
            ap (λ (xs : List ℕ). drop (prefix_len is_gap xs) xs) (beyond ∙ g.parts) ∙ front_dropped is_gap g.front g.rest g.passes g.stops in
            rw (word_is, operand_is) (record {
              gap = g.front;
              parts = f.parts ∙ ap (λ (xs : List ℕ). f.front ++ xs) g.parts;
              gap_between = g.passes;
              some_gap = gap_there g.front g.rest f.rest g.parts f.stops g.stops;
            })

-- where a word, a gap and an operand stand, they are the word and the operand
word_is : (word : List ℕ) (g : ℕ) (gap name : List ℕ) → list_all (λ b. not (is_gap b)) word ≡ true → is_gap g ≡ true → first_word (word ++ ((g ∷ gap) ++ name)) ≡ word
word_is word g gap name all blank = front_taken (λ b. not (is_gap b)) word ((g ∷ gap) ++ name) all (ap not blank)

operand_is : (word : List ℕ) (g : ℕ) (gap name : List ℕ) → list_all (λ b. not (is_gap b)) word ≡ true → list_all is_gap (g ∷ gap) ≡ true → Stops is_gap name → operand (word ++ ((g ∷ gap) ++ name)) ≡ name
operand_is word g gap name all blanks stops =
    ap (λ (xs : List ℕ). drop (prefix_len is_gap xs) xs) (front_dropped (λ b. not (is_gap b)) word ((g ∷ gap) ++ name) all (ap not (both_true (is_gap g) (list_all is_gap gap) blanks).0))
    ∙ front_dropped is_gap (g ∷ gap) name blanks stops

-- ---- bytes of names and digits

no_blank : (b : ℕ) → 33 ≤ b → (is_margin b ≡ false) × (is_gap b ≡ false)
no_blank b h =
    let space : (b == 32) ≡ false = ne_eqb b 32 (λ e. absurd (omega (arith, e, h))) in
    let tab : (b == 9) ≡ false = ne_eqb b 9 (λ e. absurd (omega (arith, e, h))) in
    let return : (b == 13) ≡ false = ne_eqb b 13 (λ e. absurd (omega (arith, e, h))) in
    (rw (space, tab, return) refl, rw (space, tab) refl)

name_byte : (b : ℕ) → is_name_byte b ≡ true → 33 ≤ b
name_byte b h = leb-true 33 b (both_true (nat_le 33 b) (nat_le b 126) (both_true (nat_le 33 b && nat_le b 126) (not (is_separator b)) h).0).0

digit_byte : (b : ℕ) → is_ascii_digit b ≡ true → 33 ≤ b
digit_byte b h = let low : 48 ≤ b = leb-true 48 b (both_true (nat_le 48 b) (nat_le b 57) h).0 in omega (arith, low)

-- an operand: one byte or more, none of which is a blank
record Solid (xs : List ℕ) : Type 0 where
  some : 0 < length xs
  no_margin : list_all (λ b. not (is_margin b)) xs ≡ true
  no_gap : list_all (λ b. not (is_gap b)) xs ≡ true

solid_name : (name : List ℕ) → is_name name ≡ true → Solid name
solid_name [] h = absurd (cc)
solid_name (b ∷ bs) h = record {
  some = omega arith;
  no_margin = all_not is_name_byte is_margin (λ x k. (no_blank x (name_byte x k)).0) (b ∷ bs) h;
  no_gap = all_not is_name_byte is_gap (λ x k. (no_blank x (name_byte x k)).1) (b ∷ bs) h;
}

solid_digits : (digits : List ℕ) (n : ℕ) → number_of digits ≡ Some n → Solid digits
solid_digits [] n h = absurd (cc)
solid_digits (b ∷ bs) n h = go (list_all is_ascii_digit (b ∷ bs)) refl h
  where
    go : (t : Bool) → list_all is_ascii_digit (b ∷ bs) ≡ t → cond t (Some (number_from 0 (b ∷ bs))) None ≡ Some n → Solid (b ∷ bs)
    go true e k = record {
      some = omega arith;
      no_margin = all_not is_ascii_digit is_margin (λ x k. (no_blank x (digit_byte x k)).0) (b ∷ bs) e;
      no_gap = all_not is_ascii_digit is_gap (λ x k. (no_blank x (digit_byte x k)).1) (b ∷ bs) e;
    }
    go false e k = absurd (cc)

-- ---- what a line says, and what it is made of

module _ (names : TraceNames) where
  data LineIs (line : List ℕ) : Line → Type 0 where
    an_empty : IsSkipped line → LineIs line skipped
    an_issue : (name : List ℕ) (class : ℕ) → IsWords line (codes "issue") name → IsTrue (is_name name) → place_of name names.classes ≡ Some class → LineIs line (says (issue class))
    an_advance : (digits : List ℕ) (cycles : ℕ) → IsWords line (codes "advance") digits → number_of digits ≡ Some cycles → LineIs line (says (advance cycles))
    an_unknown : (name : List ℕ) → IsWords line (codes "issue") name → IsTrue (is_name name) → place_of name names.classes ≡ None → LineIs line (wrong unknown_class)
    an_ask : (name : List ℕ) (automaton query : ℕ) → IsWords line (codes "ask") name → IsTrue (is_name name) → query_place names name ≡ Some (automaton, query) → LineIs line (says (ask automaton query))
    no_query : (name : List ℕ) → IsWords line (codes "ask") name → IsTrue (is_name name) → query_place names name ≡ None → LineIs line (wrong unknown_unit)
    a_bad : LineIs line (wrong bad_line)

  -- by the word and the operand
  issue_view : (line name : List ℕ) → (0 < length name → IsWords line (codes "issue") name) → LineIs line (says_issue names.classes name)
  issue_view line name words = by_name (is_name name) refl
    where
      by_name : (t : Bool) → is_name name ≡ t → LineIs line (cond t (option_map_or (λ k. says (issue k)) (place_of name names.classes) (wrong unknown_class)) (wrong bad_line))
      by_name true e = by_place (place_of name names.classes) refl
        where
          by_place : (o : Option ℕ) → place_of name names.classes ≡ o → LineIs line (option_map_or (λ k. says (issue k)) o (wrong unknown_class))
          by_place (Some k) p = an_issue name k (words (solid_name name e).some) e p
          by_place None p = an_unknown name (words (solid_name name e).some) e p
      by_name false e = a_bad

  advance_view : (line digits : List ℕ) → (0 < length digits → IsWords line (codes "advance") digits) → LineIs line (says_advance digits)
  advance_view line digits words = by_number (number_of digits) refl
    where
      by_number : (o : Option ℕ) → number_of digits ≡ o → LineIs line (option_map_or (λ n. says (advance n)) o (wrong bad_line))
      by_number (Some n) p = an_advance digits n (words (solid_digits digits n p).some) p
      by_number None p = a_bad

  ask_view : (line name : List ℕ) → (0 < length name → IsWords line (codes "ask") name) → LineIs line (says_ask names name)
  ask_view line name words = by_name (is_name name) refl
    where
      by_name : (t : Bool) → is_name name ≡ t → LineIs line (cond t (option_map_or (λ (place : ℕ × ℕ). says (ask place.0 place.1)) (query_place names name) (wrong unknown_unit)) (wrong bad_line))
      by_name true e = by_place (query_place names name) refl
        where
          by_place : (o : Option (ℕ × ℕ)) → query_place names name ≡ o → LineIs line (option_map_or (λ (place : ℕ × ℕ). says (ask place.0 place.1)) o (wrong unknown_unit))
          by_place (Some place) p = an_ask name place.0 place.1 (words (solid_name name e).some) e p
          by_place None p = no_query name (words (solid_name name e).some) e p
      by_name false e = a_bad

  words_view : (line word operand : List ℕ) → (0 < length operand → IsWords line word operand) → LineIs line (says_words names word operand)
  words_view line word operand words = by_word (bytes_eq word (codes "issue")) (bytes_eq word (codes "advance")) (bytes_eq word (codes "ask")) refl refl refl
    where
      so : (other : List ℕ) → bytes_eq word other ≡ true → 0 < length operand → IsWords line other operand
      so other e some = subst (λ (w : List ℕ). IsWords line w operand) ((bytes_eq-Decides word other).0 e) (words some)

      by_word : (s t u : Bool) → bytes_eq word (codes "issue") ≡ s → bytes_eq word (codes "advance") ≡ t → bytes_eq word (codes "ask") ≡ u
          → LineIs line (cond s (says_issue names.classes operand) (cond t (says_advance operand) (cond u (says_ask names operand) (wrong bad_line))))
      by_word true t u e f g = issue_view line operand (so (codes "issue") e)
      by_word false true u e f g = advance_view line operand (so (codes "advance") f)
      by_word false false true e f g = ask_view line operand (so (codes "ask") g)
      by_word false false false e f g = a_bad

  whole_words : (line content : List ℕ) → Middle line content → 0 < length (operand content) → IsWords line (first_word content) (operand content)
  whole_words line content m some =
      let w = words_of content in
      record {
        left = m.left;
        gap = w.gap;
        right = m.right;
        parts = m.parts ∙ (ap (λ (xs : List ℕ). m.left ++ (xs ++ m.right)) w.parts ∙ simp append_assoc);
        margin_left = m.margin_left;
        some_gap = w.some_gap some;
        gap_between = w.gap_between;
        margin_right = m.margin_right;
      }

  content_view : (line content : List ℕ) → Middle line content → LineIs line (says_content names content)
  content_view line [] m =
      let all : list_all is_margin line ≡ true = ap (list_all is_margin) m.parts ∙ (list_all-append is_margin m.left m.right ∙ rw (m.margin_left, m.margin_right) refl) in
      an_empty (is_blank line all)
  content_view line (b ∷ bs) m = by_mark (b == 59) refl
    where
      by_mark : (t : Bool) → (b == 59) ≡ t → LineIs line (cond t skipped (says_words names (first_word (b ∷ bs)) (operand (b ∷ bs))))
      by_mark true e =
          let mark : b ≡ 59 = eqb-true b 59 e in
          let parts : m.left ++ 59 ∷ (bs ++ m.right) ≡ line = ap (λ (x : ℕ). m.left ++ x ∷ (bs ++ m.right)) (sym mark) ∙ sym m.parts in
          an_empty (subst IsSkipped parts (is_comment m.left (bs ++ m.right) (m.margin_left)))
      by_mark false e = words_view line (first_word (b ∷ bs)) (operand (b ∷ bs)) (whole_words line (b ∷ bs) m)

  line_view : (line : List ℕ) → LineIs line (line_says names line)
  line_view line = content_view line (without_margin line) (middle_of line)

  -- where a line is made so, it says so
  content_of : (line word operand_ : List ℕ) (b : ℕ) (bs : List ℕ) → word ≡ b ∷ bs → is_margin b ≡ false → list_all (λ b. not (is_gap b)) word ≡ true → IsWords line word operand_ → Solid operand_
      → (content : List ℕ) × (without_margin line ≡ b ∷ content) × (first_word (b ∷ content) ≡ word) × (operand (b ∷ content) ≡ operand_)
  content_of line word name b bs first no_margin no_gap w s = by_gap w.gap refl
    where
      by_gap : (gap : List ℕ) → w.gap ≡ gap → (content : List ℕ) × (without_margin line ≡ b ∷ content) × (first_word (b ∷ content) ≡ word) × (operand (b ∷ content) ≡ name)
      by_gap [] e = absurd (let some : 0 < length w.gap = w.some_gap in let none : length w.gap ≡ 0 = ap length e in omega (arith, some, none))
      by_gap (g ∷ gap) e = by_name name refl
        where
          by_name : (xs : List ℕ) → name ≡ xs → (content : List ℕ) × (without_margin line ≡ b ∷ content) × (first_word (b ∷ content) ≡ word) × (operand (b ∷ content) ≡ name)
          by_name [] f = absurd (let some : 0 < length name = s.some in let none : length name ≡ 0 = ap length f in omega (arith, some, none))
          by_name (c ∷ cs) f =
              let content : List ℕ = bs ++ ((g ∷ gap) ++ name) in
              let blanks : list_all is_gap (g ∷ gap) ≡ true = ap (list_all is_gap) (sym e) ∙ w.gap_between in
              let whole : b ∷ content ≡ word ++ ((g ∷ gap) ++ name) = ap (λ (xs : List ℕ). xs ++ ((g ∷ gap) ++ name)) (sym first) in
              let ends : Ends is_margin (b ∷ content) =
              subst (Ends is_margin) (append_assoc (b ∷ bs) (g ∷ gap) name) (subst (λ (xs : List ℕ). Ends is_margin (((b ∷ bs) ++ (g ∷ gap)) ++ xs)) (sym f)
              (ends_so is_margin c cs (ap (list_all (λ b. not (is_margin b))) (sym f) ∙ s.no_margin) ((b ∷ bs) ++ (g ∷ gap)))) in
              let line_is : line ≡ w.left ++ ((b ∷ content) ++ w.right) =
              w.parts ∙ (ap (λ (xs : List ℕ). (((w.left ++ word) ++ xs) ++ name) ++ w.right) e ∙ (ap (λ (xs : List ℕ). (((w.left ++ xs) ++ (g ∷ gap)) ++ name) ++ w.right) first ∙ simp append_assoc)) in (
                content,
                ap without_margin line_is ∙ middle_is w.left b content w.right w.margin_left no_margin ends w.margin_right,
                ap first_word whole ∙ word_is word g gap name no_gap (both_true (is_gap g) (list_all is_gap gap) blanks).0,
                ap operand whole ∙ operand_is word g gap name no_gap blanks (begins_so is_gap name s.no_gap),
              )

  issue_says : (line name : List ℕ) → IsWords line (codes "issue") name → IsTrue (is_name name) → line_says names line ≡ says_issue names.classes name
  issue_says line name w is =
      let made = content_of line (codes "issue") name 105 (codes "ssue") refl refl refl w (solid_name name is) in
      ap (says_content names) made.1 ∙ (ap (λ (word : List ℕ). says_words names word (operand (105 ∷ made.0))) made.2 ∙ ap (says_words names (codes "issue")) made.3)

  advance_says : (line digits : List ℕ) (n : ℕ) → IsWords line (codes "advance") digits → number_of digits ≡ Some n → line_says names line ≡ says_advance digits
  advance_says line digits n w is =
      let made = content_of line (codes "advance") digits 97 (codes "dvance") refl refl refl w (solid_digits digits n is) in
      ap (says_content names) made.1 ∙ (ap (λ (word : List ℕ). says_words names word (operand (97 ∷ made.0))) made.2 ∙ ap (says_words names (codes "advance")) made.3)

  ask_says : (line name : List ℕ) → IsWords line (codes "ask") name → IsTrue (is_name name) → line_says names line ≡ says_ask names name
  ask_says line name w is =
      let made = content_of line (codes "ask") name 97 (codes "sk") refl refl refl w (solid_name name is) in
      ap (says_content names) made.1 ∙ (ap (λ (word : List ℕ). says_words names word (operand (97 ∷ made.0))) made.2 ∙ ap (says_words names (codes "ask")) made.3)

  -- a line that begins with `;` after its margin
  marked_content : (rest : List ℕ) → says_content names (take (length (59 ∷ rest) - suffix_len is_margin (59 ∷ rest)) (59 ∷ rest)) ≡ skipped
  marked_content rest = by_back (front_of is_margin (reverse (59 ∷ rest)))
    where
      by_first : (middle right : List ℕ) → 59 ∷ rest ≡ middle ++ right → list_all is_margin right ≡ true → says_content names middle ≡ skipped
      by_first [] right e all = absurd (let f : list_all is_margin (59 ∷ rest) ≡ true = ap (list_all is_margin) e ∙ all in cc)
      by_first (b ∷ bs) right e all =
          let same : b ≡ 59 = cc in
          ap (λ (x : ℕ). says_content names (x ∷ bs)) same

      by_back : Front is_margin (reverse (59 ∷ rest)) → says_content names (take (length (59 ∷ rest) - suffix_len is_margin (59 ∷ rest)) (59 ∷ rest)) ≡ skipped
      by_back g =
          let whole : 59 ∷ rest ≡ reverse g.rest ++ reverse g.front = sym (reverse-reverse (59 ∷ rest)) ∙ (ap reverse g.parts ∙ reverse-append g.front g.rest) in
          let beyond : list_all is_margin (reverse g.front) ≡ true = all_reversed is_margin g.front g.passes in
          let left = after_dropped is_margin (reverse g.rest) (reverse g.front) (subst (Stops is_margin) (sym (reverse-reverse g.rest)) g.stops) beyond in
          ap (says_content names) (ap (λ (xs : List ℕ). take (length xs - suffix_len is_margin xs) xs) whole ∙ left) ∙ by_first (reverse g.rest) (reverse g.front) whole beyond

  -- the laws
  pub issue_line : (line : List ℕ) (class : ℕ) → (line_says names line ≡ says (issue class)) ↔ ((name : List ℕ) × IsWords line (codes "issue") name × IsTrue (is_name name) × (place_of name names.classes ≡ Some class))
  issue_line line class = (
    λ e. made (subst (LineIs line) e (line_view line)),
    λ h. issue_says line h.0 h.1 h.2 ∙ rw (h.2, h.3) refl,
  )
    where
      made : LineIs line (says (issue class)) → (name : List ℕ) × IsWords line (codes "issue") name × IsTrue (is_name name) × (place_of name names.classes ≡ Some class)
      made (an_issue name _ words is place) = (name, words, is, place)

  pub advance_line : (line : List ℕ) (cycles : ℕ) → (line_says names line ≡ says (advance cycles)) ↔ ((digits : List ℕ) × IsWords line (codes "advance") digits × (number_of digits ≡ Some cycles))
  advance_line line cycles = (
    λ e. made (subst (LineIs line) e (line_view line)),
    λ h. advance_says line h.0 cycles h.1 h.2 ∙ rw h.2 refl,
  )
    where
      made : LineIs line (says (advance cycles)) → (digits : List ℕ) × IsWords line (codes "advance") digits × (number_of digits ≡ Some cycles)
      made (an_advance digits _ words is) = (digits, words, is)

  pub unknown_line : (line : List ℕ) → (line_says names line ≡ wrong unknown_class) ↔ ((name : List ℕ) × IsWords line (codes "issue") name × IsTrue (is_name name) × (place_of name names.classes ≡ None))
  unknown_line line = (
    λ e. made (subst (LineIs line) e (line_view line)),
    λ h. issue_says line h.0 h.1 h.2 ∙ rw (h.2, h.3) refl,
  )
    where
      made : LineIs line (wrong unknown_class) → (name : List ℕ) × IsWords line (codes "issue") name × IsTrue (is_name name) × (place_of name names.classes ≡ None)
      made (an_unknown name words is place) = (name, words, is, place)

  pub ask_line : (line : List ℕ) (automaton query : ℕ) → (line_says names line ≡ says (ask automaton query)) ↔ ((name : List ℕ) × IsWords line (codes "ask") name × IsTrue (is_name name) × (query_place names name ≡ Some (automaton, query)))
  ask_line line automaton query = (
    λ e. made (subst (LineIs line) e (line_view line)),
    λ h. ask_says line h.0 h.1 h.2 ∙ rw (h.2, h.3) refl,
  )
    where
      made : LineIs line (says (ask automaton query)) → (name : List ℕ) × IsWords line (codes "ask") name × IsTrue (is_name name) × (query_place names name ≡ Some (automaton, query))
      made (an_ask name _ _ words is at) = (name, words, is, at)

  pub no_query_line : (line : List ℕ) → (line_says names line ≡ wrong unknown_unit) ↔ ((name : List ℕ) × IsWords line (codes "ask") name × IsTrue (is_name name) × (query_place names name ≡ None))
  no_query_line line = (
    λ e. made (subst (LineIs line) e (line_view line)),
    λ h. ask_says line h.0 h.1 h.2 ∙ rw (h.2, h.3) refl,
  )
    where
      made : LineIs line (wrong unknown_unit) → (name : List ℕ) × IsWords line (codes "ask") name × IsTrue (is_name name) × (query_place names name ≡ None)
      made (no_query name words is at) = (name, words, is, at)

  pub skipped_line : (line : List ℕ) → (line_says names line ≡ skipped) ↔ IsSkipped line
  skipped_line line = (λ e. made (subst (LineIs line) e (line_view line)), comes line)
    where
      made : LineIs line skipped → IsSkipped line
      made (an_empty is) = is

      comes : (line : List ℕ) → IsSkipped line → line_says names line ≡ skipped
      comes line (is_blank _ all) = ap (says_content names) (blank_is line all)
      comes _ (is_comment left rest all) = ap (says_content names) (marked_line left rest all) ∙ marked_content rest
