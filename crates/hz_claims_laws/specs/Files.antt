-- A plain writer of files of forms on any lines, and what descriptions that are so written say. It is written from
-- docs/FORMATS.md, 'Forms' and 'Descriptions', and not from the readers' definitions. Laws: `files_say_the_forms_that_they_write`,
-- `files_say_the_descriptions_that_they_write`.
use Rattle.std.specs.Prelude.{◌≡◌, ℕ, zero, suc, ◌+◌, ◌-◌, ◌≤◌, ◌==◌, max, replicate, ℤ, pos, negsuc, Bool, false, ◌&&◌, ◌||◌, not, nat_le, if◌then◌else◌, is_none, List, [], ◌∷◌, ◌++◌, decimal, IsTrue}
use Rattle.std.specs.List.{list_all, list_any, flat_map}
use Rattle.hz_base_model.specs.Forms.Forms.{is_letter, integer_of, is_in_range}
use Rattle.hz_base_model.specs.Forms.Trees.{Tree, Trees, list, vector, atom, quoted, number, none, more, line_of}
use Rattle.hz_description_model.specs.Reading.DescriptionForms.{Said, Addition, options}
use Rattle.hz_description_model.specs.Reading.Descriptions.{Options}
use Rattle.hz_claims_laws.specs.FreeForms.{WritesFreely}

-- ---- the text of forms

-- a byte of a string: a quote and a backslash have a backslash before them
abbrev pub string_text : ℕ → List ℕ
string_text b = if b == 34 || b == 92 then 92 ∷ b ∷ [] else b ∷ []

-- a number, with `-` before it if it is less than 0
abbrev pub integer_text : ℤ → List ℕ
integer_text (pos n) = decimal n
integer_text (negsuc n) = 45 ∷ decimal (suc n)

-- so many line feeds, and a space in the place of none
abbrev pub gap : ℕ → List ℕ
gap zero = 32 ∷ []
gap (suc n) = replicate (suc n) 10

-- the line on which a form ends, and several after a line
abbrev mutual
  pub end_of : Tree → ℕ
  end_of (list line forms) = end_of_all line forms
  end_of (vector line forms) = end_of_all line forms
  end_of (atom line bytes) = line
  end_of (quoted line bytes) = line
  end_of (number line value) = line

  pub end_of_all : ℕ → Trees → ℕ
  end_of_all line none = line
  end_of_all line (more first others) = end_of_all (end_of first) others

-- Brackets round forms, a quote before and after a string. Between two forms there are as many line feeds as their lines are apart, or a
-- space.
abbrev mutual
  pub form_text : Tree → List ℕ
  form_text (list line forms) = 40 ∷ (forms_text line forms ++ 41 ∷ [])
  form_text (vector line forms) = 91 ∷ (forms_text line forms ++ 93 ∷ [])
  form_text (atom line bytes) = bytes
  form_text (quoted line bytes) = 34 ∷ (flat_map string_text bytes ++ 34 ∷ [])
  form_text (number line value) = integer_text value

  -- forms from a line on
  pub forms_text : ℕ → Trees → List ℕ
  forms_text line none = []
  forms_text line (more first others) = replicate (line_of first - line) 10 ++ (form_text first ++ others_text (end_of first) others)

  -- forms after one that ends on a line
  pub others_text : ℕ → Trees → List ℕ
  others_text line none = []
  others_text line (more first others) = gap (line_of first - line) ++ (form_text first ++ others_text (end_of first) others)

-- forms from the first line on
abbrev pub file_text : Trees → List ℕ
file_text forms = forms_text 1 forms ++ 10 ∷ []

-- ---- forms that can be so written

-- a letter that begins no comment
abbrev pub is_word_byte : ℕ → Bool
is_word_byte b = is_letter b && not (b == 47)

-- one of them or more, and no number
abbrev pub is_word : List ℕ → Bool
is_word [] = false
is_word (b ∷ bytes) = list_all is_word_byte (b ∷ bytes) && is_none (integer_of (b ∷ bytes))

-- a byte from the space to `~`
abbrev pub is_printable : ℕ → Bool
is_printable b = nat_le 32 b && nat_le b 126

-- The form begins on this line or later, and no line in it comes before an earlier one. Its atoms are words, its strings printable, and its
-- numbers in their range.
mutual
  pub data IsFrom : ℕ → Tree → Type 0 where
    a_list : {now line : ℕ} {forms : Trees} → now ≤ line → AreFrom line forms → IsFrom now (list line forms)
    a_vector : {now line : ℕ} {forms : Trees} → now ≤ line → AreFrom line forms → IsFrom now (vector line forms)
    an_atom : {now line : ℕ} {bytes : List ℕ} → now ≤ line → IsTrue (is_word bytes) → IsFrom now (atom line bytes)
    a_string : {now line : ℕ} {bytes : List ℕ} → now ≤ line → IsTrue (list_all is_printable bytes) → IsFrom now (quoted line bytes)
    a_number : {now line : ℕ} {value : ℤ} → now ≤ line → IsTrue (is_in_range value) → IsFrom now (number line value)

  pub data AreFrom : ℕ → Trees → Type 0 where
    no_form : {now : ℕ} → AreFrom now none
    one_more : {now : ℕ} {first : Tree} {others : Trees} → IsFrom now first → AreFrom (end_of first) others → AreFrom now (more first others)

-- how many brackets are open in the innermost ones
abbrev mutual
  pub depth : Tree → ℕ
  depth (list line forms) = suc (greatest_depth forms)
  depth (vector line forms) = suc (greatest_depth forms)
  depth (atom line bytes) = 0
  depth (quoted line bytes) = 0
  depth (number line value) = 0

  pub greatest_depth : Trees → ℕ
  greatest_depth none = 0
  greatest_depth (more first others) = max (depth first) (greatest_depth others)

-- ---- descriptions

-- each form writes what it adds, as the form of its number; so many forms come before the first
pub data WriteEach (read : List ℕ → Said) : ℕ → Trees → List Addition → Type 0 where
  nothing_more : {n : ℕ} → WriteEach read n none []
  one_form : {n : ℕ} {form : Tree} {others : Trees} {addition : Addition} {additions : List Addition} → WritesFreely read n form addition → WriteEach read (n + 1) others additions
      → WriteEach read n (more form others) (addition ∷ additions)

-- a form of options has an option
abbrev pub gives : (Options → Bool) → Addition → Bool
gives has (options o) = has o
gives has _ = false

-- an option is on exactly if some form has it
pub record HasGiven (o : Options) (additions : List Addition) : Type 0 where
  pub ndfa : o.ndfa ≡ list_any (gives (λ p. p.ndfa)) additions
  pub no_minimization : o.no_minimization ≡ list_any (gives (λ p. p.no_minimization)) additions
  pub stats : o.stats ≡ list_any (gives (λ p. p.stats)) additions
  pub verbose : o.verbose ≡ list_any (gives (λ p. p.verbose)) additions
  pub no_comb_vect : o.no_comb_vect ≡ list_any (gives (λ p. p.no_comb_vect)) additions
