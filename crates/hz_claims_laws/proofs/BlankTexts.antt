-- What white space is, names with white space round them, and items between commas.
use Rattle.std.proofs.Common.{◌≡◌, ℕ, suc, ◌+◌, ◌-◌, ◌<◌, ◌≤◌, ◌==◌, Bool, true, false, List, [], ◌∷◌, ◌++◌, cond, length, map, take, drop, get_or, reverse, All, refl, sym, ap, ◌∙◌, subst, arith, ⊎_elim, nat_le}
use Rattle.std.specs.Char.{is_ascii_whitespace}
use Rattle.std.specs.Int.{is_in_range}
use Rattle.std.specs.List.{slice_split, join_with_byte, prefix_len, suffix_len, list_all}
use Rattle.std.proofs.lemmas.Bool.{and_parts, or_cases, leb-true, eqb-true, cases_lt}
use Rattle.std.proofs.lemmas.List.{length-append, length-drop, length-reverse, get_or-reverse, get_or-drop, take-append-drop}
use Rattle.std.proofs.lemmas.List.Elements.{All-nil, All-cons, All-head, All-tail, All-append}
use Rattle.std.proofs.lemmas.List.Splits.{slice_split_none, slice_split_at, join_with_byte-slice_split, length-slice_split}
use Rattle.std.proofs.lemmas.List.Sums.{prefix_len_passes, suffix_len-le-length, suffix_len_is}
use Rattle.std.proofs.Math.Seq.{take-append_seam, drop-append_seam, get_or-append_right}
use Rattle.std.proofs.Math.ListN.{get_or-append}
use Rattle.hz_base_model.specs.Lines.{trimmed}
use Rattle.hz_base_model.specs.Names.{is_name}
use Rattle.hz_laws.proofs.Written.NamesBack.{IsPlain, plain}
use Rattle.hz_claims_laws.specs.Blanks.{is_blank, AreBlank, WritesName, a_name, Lists, the_last, and_more}

-- ---- bytes

-- what holds of each byte of white space holds of a blank
pub by_byte : (P : ℕ → Type 0) → P 32 → P 9 → P 10 → P 12 → P 13 → (b : ℕ) → is_blank b ≡ true → P b
by_byte P space tab feed form return b h =
    ⊎_elim
    (λ x. ⊎_elim
    (λ y. ⊎_elim
    (λ z. ⊎_elim
    (λ w. subst P (sym (eqb-true b 32 w)) space)
    (λ w. subst P (sym (eqb-true b 9 w)) tab)
    (or_cases (b == 32) (b == 9) z))
    (λ z. subst P (sym (eqb-true b 10 z)) feed)
    (or_cases _ (b == 10) y))
    (λ y. subst P (sym (eqb-true b 12 y)) form)
    (or_cases _ (b == 12) x))
    (λ x. subst P (sym (eqb-true b 13 x)) return)
    (or_cases _ (b == 13) h)

pub space_is : (b : ℕ) → is_blank b ≡ true → is_ascii_whitespace b ≡ true
space_is b h = by_byte (λ b. is_ascii_whitespace b ≡ true) refl refl refl refl refl b h

pub no_comma : (b : ℕ) → is_blank b ≡ true → (b == 44) ≡ false
no_comma b h = by_byte (λ b. (b == 44) ≡ false) refl refl refl refl refl b h

-- one of two numbers side by side, or a number by itself
one_of_two : (P : ℕ → Type 0) (low high b : ℕ) → high ≤ low + 1 → P low → P high → is_in_range low high b ≡ true → P b
one_of_two P low high b near p q h =
    let parts = and_parts (nat_le low b) (nat_le b high) h in
    let above = leb-true low b parts.0 in
    let below = leb-true b high parts.1 in
    ⊎_elim
    (λ (less : b < high). let e : low ≡ b = omega (arith, near, above, less) in subst P e p)
    (λ (more : high ≤ b). let e : high ≡ b = omega (arith, below, more) in subst P e q)
    (cases_lt b high)

pub blank_is : (b : ℕ) → is_ascii_whitespace b ≡ true → is_blank b ≡ true
blank_is b h =
    ⊎_elim
    (λ x. ⊎_elim
    (one_of_two (λ b. is_blank b ≡ true) 9 10 b (omega arith) refl refl)
    (one_of_two (λ b. is_blank b ≡ true) 12 13 b (omega arith) refl refl)
    (or_cases (is_in_range 9 10 b) (is_in_range 12 13 b) x))
    (one_of_two (λ b. is_blank b ≡ true) 32 32 b (omega arith) refl refl)
    (or_cases _ (is_in_range 32 32 b) h)

-- ---- white space at the front

-- the white space at the front is before what follows it
pub front_skipped : (before rest : List ℕ) → AreBlank before → prefix_len is_ascii_whitespace (before ++ rest) ≡ length before + prefix_len is_ascii_whitespace rest
front_skipped [] rest h = omega arith
front_skipped (b ∷ before) rest h =
    let more = front_skipped before rest (All-tail (λ b. is_blank b ≡ true) b before h) in
    rw (space_is b (All-head (λ b. is_blank b ≡ true) b before h)) (omega (arith, more))

pub no_front : (b : ℕ) (rest : List ℕ) → is_ascii_whitespace b ≡ false → prefix_len is_ascii_whitespace (b ∷ rest) ≡ 0
no_front b rest h = rw h refl

-- the front of white space is white space
pub front_blank : (bytes : List ℕ) → AreBlank (take (prefix_len is_ascii_whitespace bytes) bytes)
front_blank [] = All-nil (λ b. is_blank b ≡ true)
front_blank (b ∷ bytes) = by_test (is_ascii_whitespace b) refl (front_blank bytes)
  where
    by_test : (t : Bool) → is_ascii_whitespace b ≡ t → AreBlank (take (prefix_len is_ascii_whitespace bytes) bytes) → AreBlank (take (cond t (1 + prefix_len is_ascii_whitespace bytes) 0) (b ∷ bytes))
    by_test true e rest =
        let count : 1 + prefix_len is_ascii_whitespace bytes ≡ suc (prefix_len is_ascii_whitespace bytes) = omega arith in
        let one_more : take (1 + prefix_len is_ascii_whitespace bytes) (b ∷ bytes) ≡ b ∷ take (prefix_len is_ascii_whitespace bytes) bytes = ap (λ (n : ℕ). take n (b ∷ bytes)) count in
        subst AreBlank (sym one_more) (All-cons (λ b. is_blank b ≡ true) b (take (prefix_len is_ascii_whitespace bytes) bytes) (blank_is b e) rest)
    by_test false e rest = All-nil (λ b. is_blank b ≡ true)

-- ---- names with white space round them

module _ (bytes : List ℕ) where
  abbrev cut : ℕ
  cut = length bytes - suffix_len is_ascii_whitespace bytes

  -- the white space at the end is white space
  pub end_blank : AreBlank (drop cut bytes)
  end_blank k d within =
      let most = suffix_len-le-length is_ascii_whitespace bytes in
      let long = length-drop cut bytes in
      let around = length-reverse bytes in
      let low : k < suffix_len is_ascii_whitespace bytes = omega (arith, within, long, most) in
      let from : length bytes - 1 - (suffix_len is_ascii_whitespace bytes - 1 - k) ≡ cut + k = omega (arith, low, most) in
      let inside : suffix_len is_ascii_whitespace bytes - 1 - k < length bytes = omega (arith, low, most) in
      let passes = prefix_len_passes is_ascii_whitespace (reverse bytes) (suffix_len is_ascii_whitespace bytes - 1 - k) d (omega (arith, low)) in
      let there : get_or (reverse bytes) (suffix_len is_ascii_whitespace bytes - 1 - k) d ≡ get_or (drop cut bytes) k d =
      get_or-reverse bytes (suffix_len is_ascii_whitespace bytes - 1 - k) d inside ∙ ap (λ (n : ℕ). get_or bytes n d) from ∙ sym (get_or-drop cut bytes k d) in
      blank_is (get_or (drop cut bytes) k d) (subst (λ (b : ℕ). is_ascii_whitespace b ≡ true) there passes)

-- a name that is left when white space is dropped is written so
pub name_there : (text : List ℕ) → is_name (trimmed text) ≡ true → WritesName text (trimmed text)
name_there text h =
    let rest = drop (prefix_len is_ascii_whitespace text) text in
    let parts : take (prefix_len is_ascii_whitespace text) text ++ (trimmed text ++ drop (cut rest) rest) ≡ text =
    ap (λ (bytes : List ℕ). take (prefix_len is_ascii_whitespace text) text ++ bytes) (take-append-drop (cut rest) rest) ∙ take-append-drop (prefix_len is_ascii_whitespace text) text in
    subst (λ (bytes : List ℕ). WritesName bytes (trimmed text)) parts
    (a_name (take (prefix_len is_ascii_whitespace text) text) (trimmed text) (drop (cut rest) rest) (front_blank text) h (end_blank rest))

-- what is read of a name with white space round it, and what it has not
pub record IsRead {A : Type 0} (read : List ℕ → A) (good : A → Bool) (text : List ℕ) (item : A) : Type 0 where
  pub is : read text ≡ item
  pub right : good item ≡ true
  pub commas : All (λ b. (b == 44) ≡ false) text

no_commas : (blanks : List ℕ) → AreBlank blanks → All (λ b. (b == 44) ≡ false) blanks
no_commas blanks h = λ k d within. no_comma (get_or blanks k d) (h k d within)

starts : (name after : List ℕ) → IsPlain name → prefix_len is_ascii_whitespace (name ++ after) ≡ 0
starts [] after h = absurd (let some = h.some in omega (arith, some))
starts (b ∷ name) after h = no_front b (name ++ after) (All-head (λ b. is_ascii_whitespace b ≡ false) b name h.spaces)

ends : (name after : List ℕ) → IsPlain name → AreBlank after → suffix_len is_ascii_whitespace (name ++ after) ≡ length (name ++ after) - length name
ends name after h blank =
    let long = length-append name after in
    suffix_len_is is_ascii_whitespace (name ++ after) (length name) 0 (omega (arith, long))
    (λ k low high.
    let there = get_or-append_right name after k 0 low in
    let passes = space_is (get_or after (k - length name) 0) (blank (k - length name) 0 (omega (arith, low, high, long))) in
    ap is_ascii_whitespace there ∙ passes)
    (λ some.
    let inside : length name - 1 < length name = omega (arith, some) in
    ap is_ascii_whitespace (get_or-append name after 0 (length name - 1) inside) ∙ h.spaces (length name - 1) 0 inside)

only_name : (name after : List ℕ) → IsPlain name → AreBlank after → take (length (name ++ after) - suffix_len is_ascii_whitespace (name ++ after)) (name ++ after) ≡ name
only_name name after h blank =
    let all : length (name ++ after) - suffix_len is_ascii_whitespace (name ++ after) ≡ length name = omega (arith, ends name after h blank, length-append name after) in
    ap (λ (n : ℕ). take n (name ++ after)) all ∙ take-append_seam name after

pub name_back : (text name : List ℕ) → WritesName text name → IsRead trimmed is_name text name
name_back text word (a_name before name after blank h after_blank) =
    let is = plain name h in
    let skipped : prefix_len is_ascii_whitespace (before ++ (name ++ after)) ≡ length before =
    omega (arith, front_skipped before (name ++ after) blank, starts name after is) in
    let rest : drop (prefix_len is_ascii_whitespace (before ++ (name ++ after))) (before ++ (name ++ after)) ≡ name ++ after =
    ap (λ (n : ℕ). drop n (before ++ (name ++ after))) skipped ∙ drop-append_seam before (name ++ after) in
    record {
      is = ap (λ (bytes : List ℕ). take (length bytes - suffix_len is_ascii_whitespace bytes) bytes) rest ∙ only_name name after is after_blank;
      right = h;
      commas = All-append (λ b. (b == 44) ≡ false) before (name ++ after) (no_commas before blank)
          (All-append (λ b. (b == 44) ≡ false) name after is.commas (no_commas after after_blank));
    }

-- ---- items between commas

abbrev pub pieces_of : List ℕ → List (List ℕ)
pieces_of text = slice_split (λ b. b == 44) text

module _ {A : Type 0} (Writes : List ℕ → A → Type 0) (read : List ℕ → A) (good : A → Bool) where
  -- each item that is read and right is written so
  from_pieces : ((piece : List ℕ) → good (read piece) ≡ true → Writes piece (read piece)) → (piece : List ℕ) (pieces : List (List ℕ)) → list_all good (map read (piece ∷ pieces)) ≡ true
      → Lists Writes (join_with_byte 44 (piece ∷ pieces)) (map read (piece ∷ pieces))
  from_pieces each piece [] h = the_last piece (read piece) (each piece (and_parts (good (read piece)) true h).0)
  from_pieces each piece (next ∷ pieces) h =
      let parts = and_parts (good (read piece)) (list_all good (map read (next ∷ pieces))) h in
      and_more piece (read piece) (join_with_byte 44 (next ∷ pieces)) (map read (next ∷ pieces)) (each piece parts.0) (from_pieces each next pieces parts.1)

  pub list_there : ((piece : List ℕ) → good (read piece) ≡ true → Writes piece (read piece)) → (text : List ℕ) → list_all good (map read (pieces_of text)) ≡ true → Lists Writes text (map read (pieces_of text))
  list_there each text h = of (pieces_of text) refl
    where
      of : (pieces : List (List ℕ)) → pieces_of text ≡ pieces → Lists Writes text (map read (pieces_of text))
      of [] e = absurd (let count = length-slice_split (λ b. b == 44) text in let none : length (pieces_of text) ≡ 0 = ap length e in omega (arith, count, none))
      of (piece ∷ pieces) e =
          let right = subst (λ (ps : List (List ℕ)). list_all good (map read ps) ≡ true) e h in
          let whole : join_with_byte 44 (piece ∷ pieces) ≡ text = ap (join_with_byte 44) (sym e) ∙ join_with_byte-slice_split 44 text in
          subst (λ (ps : List (List ℕ)). Lists Writes text (map read ps)) (sym e)
          (subst (λ (bytes : List ℕ). Lists Writes bytes (map read (piece ∷ pieces))) whole (from_pieces each piece pieces right))

  -- what is written so is read
  pub list_back : ((piece : List ℕ) (item : A) → Writes piece item → IsRead read good piece item) → (text : List ℕ) (items : List A) → Lists Writes text items → map read (pieces_of text) ≡ items
  list_back each text items (the_last piece item w) =
      let is = each piece item w in
      ap (map read) (slice_split_none (λ b. b == 44) piece is.commas) ∙ ap (λ (x : A). x ∷ []) is.is
  list_back each text items (and_more piece item rest others w ws) =
      let is = each piece item w in
      ap (map read) (slice_split_at (λ b. b == 44) piece 44 rest is.commas refl)
      ∙ ap (λ (x : A). x ∷ map read (pieces_of rest)) is.is
      ∙ ap (λ (xs : List A). item ∷ xs) (list_back each rest others ws)

  pub all_right : ((piece : List ℕ) (item : A) → Writes piece item → IsRead read good piece item) → (text : List ℕ) (items : List A) → Lists Writes text items → list_all good items ≡ true
  all_right each text items (the_last piece item w) = rw ((each piece item w).right) refl
  all_right each text items (and_more piece item rest others w ws) = rw ((each piece item w).right) (all_right each rest others ws)
