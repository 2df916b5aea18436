-- The tokens at the front of a text, and the numbers that digits spell.
use Rattle.std.proofs.Common.{◌≡◌, ℕ, suc, ◌+◌, ◌-◌, ◌*◌, ◌<◌, Bool, true, false, cond, not, min, ltb, List, [], ◌∷◌, length, get_or, take, drop, Option, Some, None, unwrap_or, refl, ap, sym, ◌∙◌, arith, inl, inr, nat_le}
use Rattle.std.specs.Char.{is_ascii_whitespace}
use Rattle.std.specs.List.{list_all, prefix_len, position_or_len}
use Rattle.std.proofs.lemmas.Bool.{cases_Bool, ltb-false}
use Rattle.std.proofs.lemmas.List.{nil_from_length, take_more}
use Rattle.hz_base_model.specs.Lines.{number_from}
use Rattle.hz_base_model.proofs.LineLaws.{number_from_more}
use Rattle.std.proofs.lemmas.Bool.Decides.{nat_tests}
use Rattle.std.proofs.lemmas.List.Sums.{prefix_len-le-length}
use Rattle.hz_description_model.specs.Grammar.ExpressionTexts.{word, tokens_from, lone_token}
use Rattle.hz_base_model.specs.Names.{is_name, is_name_byte}

twice_not : (p : ℕ → Bool) (xs : List ℕ) → prefix_len (λ x. not (not (p x))) xs ≡ prefix_len p xs
twice_not p [] = refl
twice_not p (x ∷ xs) = rw (twice_not p xs) (elim (p x) as (λ t. cond (not (not t)) (1 + prefix_len p xs) 0 ≡ cond t (1 + prefix_len p xs) 0) [ true ↦ refl | false ↦ refl ])

-- the first byte that fails ends those that pass
pub first_failing : (p : ℕ → Bool) (xs : List ℕ) (found : Option ℕ) → found ≡ cond (ltb (position_or_len (λ x. not (p x)) xs) (length xs)) (Some (position_or_len (λ x. not (p x)) xs)) None
    → unwrap_or found (length xs) ≡ prefix_len p xs
first_failing p xs found e = ap (λ f. unwrap_or f (length xs)) e ∙ (go _ refl ∙ twice_not p xs)
  where
    go : (t : Bool) → ltb (prefix_len (λ x. not (not (p x))) xs) (length xs) ≡ t → unwrap_or (cond t (Some (prefix_len (λ x. not (not (p x))) xs)) None) (length xs) ≡ prefix_len (λ x. not (not (p x))) xs
    go true h = refl
    go false h = let past = ltb-false (prefix_len (λ x. not (not (p x))) xs) (length xs) h in let within = prefix_len-le-length (λ x. not (not (p x))) xs in omega arith

pub blank_is_no_name : (b : ℕ) → is_ascii_whitespace b ≡ true → is_name_byte b ≡ false
blank_is_no_name b h = let low : nat_le 33 b ≡ false = grind (arith, nat_tests) in rw low refl

-- white space gives no token
pub after_blanks : (at : ℕ) (text : List ℕ) → tokens_from false at text ≡ tokens_from false (at + prefix_len is_ascii_whitespace text) (drop (prefix_len is_ascii_whitespace text) text)
after_blanks at [] = refl
after_blanks at (b ∷ text) = elim (cases_Bool (is_ascii_whitespace b)) [
  | inl h ↦ let n : ℕ = prefix_len is_ascii_whitespace text in
      let one : 1 + n ≡ suc n = omega arith in
      let next : at + suc n ≡ at + 1 + n = omega arith in
      rw (blank_is_no_name b h, h, one, next) (after_blanks (at + 1) text)
  | inr h ↦ let none : prefix_len is_ascii_whitespace (b ∷ text) ≡ 0 = rw h refl in let next : at ≡ at + 0 = omega arith in rw none (ap (λ n. tokens_from false n (b ∷ text)) next)
]

-- the bytes of a name that is open give no further token
inside_name : (at : ℕ) (text : List ℕ) → tokens_from true at text ≡ tokens_from false (at + prefix_len is_name_byte text) (drop (prefix_len is_name_byte text) text)
inside_name at [] = refl
inside_name at (b ∷ text) = elim (cases_Bool (is_name_byte b)) [
  | inl h ↦ let n : ℕ = prefix_len is_name_byte text in
      let one : 1 + n ≡ suc n = omega arith in
      let next : at + suc n ≡ at + 1 + n = omega arith in
      rw (h, one, next) (inside_name (at + 1) text)
  | inr h ↦ let none : prefix_len is_name_byte (b ∷ text) ≡ 0 = rw h refl in let next : at + 0 ≡ at = omega arith in rw (none, h, next) refl
]

-- a word at the front
pub word_first : (at b : ℕ) (text : List ℕ) → is_name_byte b ≡ true
    → tokens_from false at (b ∷ text) ≡ word at (take (prefix_len is_name_byte (b ∷ text)) (b ∷ text)) ∷ tokens_from false (at + prefix_len is_name_byte (b ∷ text)) (drop (prefix_len is_name_byte (b ∷ text)) (b ∷ text))
word_first at b text h =
    let n : ℕ = prefix_len is_name_byte text in
    let one : 1 + n ≡ suc n = omega arith in
    let next : at + suc n ≡ at + 1 + n = omega arith in
    rw (h, one, next) (ap (λ ts. word at (b ∷ take n text) ∷ ts) (inside_name (at + 1) text))

-- another byte at the front
pub lone_first : (at b : ℕ) (text : List ℕ) → is_name_byte b ≡ false → is_ascii_whitespace b ≡ false → tokens_from false at (b ∷ text) ≡ lone_token at b ∷ tokens_from false (at + 1) text
lone_first at b text h k = rw (h, k) refl

-- the first byte after those that pass fails
pub stops_at : (p : ℕ → Bool) (xs : List ℕ) (b : ℕ) (rest : List ℕ) → drop (prefix_len p xs) xs ≡ b ∷ rest → p b ≡ false
stops_at p [] b rest e = absurd (cc)
stops_at p (x ∷ xs) b rest e = elim (cases_Bool (p x)) [
  | inl h ↦ let n : ℕ = prefix_len p xs in let one : 1 + n ≡ suc n = omega arith in stops_at p xs b rest (rw (h, one) at e)
  | inr h ↦ let same : x ≡ b = (let f = rw h at e in cc) in rw (← same) h
]

all_pass : (p : ℕ → Bool) (xs : List ℕ) → list_all p (take (prefix_len p xs) xs) ≡ true
all_pass p [] = refl
all_pass p (x ∷ xs) = elim (cases_Bool (p x)) [
  | inl h ↦ let n : ℕ = prefix_len p xs in let one : 1 + n ≡ suc n = omega arith in rw (h, one, h) (all_pass p xs)
  | inr h ↦ rw h refl
]

-- a word is a name
pub word_named : (b : ℕ) (text : List ℕ) → is_name_byte b ≡ true → is_name (take (prefix_len is_name_byte (b ∷ text)) (b ∷ text)) ≡ true
word_named b text h =
    let n : ℕ = prefix_len is_name_byte text in
    let one : 1 + n ≡ suc n = omega arith in
    rw (h, one, h) (all_pass is_name_byte text)

-- the next token of a text: after the white space there is none, a lone byte's, or a word
module _ (at here_at : ℕ) (text here : List ℕ) (same : here ≡ drop (prefix_len is_ascii_whitespace text) text) (here_is : here_at ≡ at + prefix_len is_ascii_whitespace text) where
  from_here : tokens_from false at text ≡ tokens_from false here_at here
  from_here = rw (same, here_is) (after_blanks at text)

  pub no_token : length here ≡ 0 → tokens_from false at text ≡ []
  no_token e = from_here ∙ ap (λ xs. tokens_from false here_at xs) (nil_from_length here e)

  pub next_lone : (b : ℕ) (rest : List ℕ) → here ≡ b ∷ rest → is_name_byte b ≡ false → tokens_from false at text ≡ lone_token here_at b ∷ tokens_from false (here_at + 1) (drop 1 here)
  next_lone b rest e h = from_here ∙ rw e (lone_first here_at b rest h (stops_at is_ascii_whitespace text b rest (sym same ∙ e)))

  pub next_word : (b : ℕ) (rest : List ℕ) (n : ℕ) → here ≡ b ∷ rest → is_name_byte b ≡ true → n ≡ prefix_len is_name_byte here → tokens_from false at text ≡ word here_at (take n here) ∷ tokens_from false (here_at + n) (drop n here)
  next_word b rest n e h k = from_here ∙ rw (k, e) (word_first here_at b rest h)

pub front_named : (here : List ℕ) (b : ℕ) (rest : List ℕ) (n : ℕ) → here ≡ b ∷ rest → is_name_byte b ≡ true → n ≡ prefix_len is_name_byte here → is_name (take n here) ≡ true
front_named here b rest n e h k = rw (k, e) (word_named b rest h)

-- one more digit, where greater numbers are cut
pub cut_digit : (bytes : List ℕ) (i number : ℕ) → i < length bytes → number ≡ min 65536 (number_from 0 (take i bytes))
    → min (number * 10 + (get_or bytes i 0 - 48)) 65536 ≡ min 65536 (number_from 0 (take (i + 1) bytes))
cut_digit bytes i number h e = rw (take_more bytes i 0 h, number_from_more 0 (take i bytes) (get_or bytes i 0)) (omega arith)
