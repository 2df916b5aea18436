-- Lists of names and patterns: there is always a piece.
use Rattle.std.proofs.Common.{◌≡◌, ℕ, ◌<◌, ◌≤◌, ◌==◌, Bool, true, false, cond, List, [], ◌∷◌, length, get_or, drop, map, Option, Some, None, Result, Ok, Err, IfOk, refl, sym, ap, ◌∙◌, subst}
use Rattle.std.specs.Prelude.{IsTrue, IsFalse, IsErrOf}
use Rattle.std.specs.Option.{option_map}
use Rattle.std.specs.declared.alloc.Global.{Global}
use Rattle.std.specs.declared.vec.Vec.{Vec}
use Rattle.std.specs.Borrow.{Bor}
use Rattle.std.proofs.lemmas.List.{drop_more, drop_all}
use Rattle.std.specs.List.{list_all, slice_split, onto_first}
use Rattle.hz_description_model.specs.Reading.Descriptions.{Options}
use Rattle.hz_description_model.specs.Reading.DescriptionForms.{names_of, kept, with_option, with_options}
use Rattle.hz_description_model.specs.Reading.DescriptionShape.{are_names}
use Rattle.hz_base_model.specs.Lines.{separated, trimmed}
use Rattle.hz_base_model.specs.Names.{is_name}
use Rattle.hz_regexp.specs.declared.lists.NamesFault.{NamesFault}
use Rattle.hz_regexp.specs.declared.lists.NamesFault.TheVariants.{BadList, NoMemory}
use Rattle.hz_mdread.specs.Faults.{IsListIfRead}

-- a text has a first part, whatever splits it
pub some_part : (p : ℕ → Bool) (text : List ℕ) → (first : List ℕ) × (others : List (List ℕ)) × (slice_split p text ≡ first ∷ others)
some_part p [] = ([], [], refl)
some_part p (b ∷ text) = go (p b) (slice_split p text)
  where
    go : (t : Bool) (parts : List (List ℕ)) → (first : List ℕ) × (others : List (List ℕ)) × (cond t ([] ∷ parts) (onto_first b parts) ≡ first ∷ others)
    go true parts = ([], parts, refl)
    go false [] = (b ∷ [], [], refl)
    go false (part ∷ parts) = (b ∷ part, parts, refl)

all_names : (parts : List (List ℕ)) → ((first : List ℕ) × (others : List (List ℕ)) × (parts ≡ first ∷ others)) → are_names (map trimmed parts) ≡ list_all is_name (map trimmed parts)
all_names parts (first, others, e) = rw e refl

-- so a list of names is one where each piece is a name
pub list_is : (text : List ℕ) → names_of text ≡ kept (list_all is_name (separated text)) (separated text)
list_is text = ap (λ (t : Bool). kept t (separated text)) (all_names (slice_split _ text) (some_part _ text))

pub list_good : (text : List ℕ) (names : List (List ℕ)) → names ≡ separated text → list_all is_name (separated text) ≡ true → Some names ≡ names_of text
list_good text names e h = rw (list_is text, h, e) refl

-- the pieces that are borrowed, without the white space round them
abbrev pub trimmed_all : List (Bor (List ℕ)) → List (List ℕ)
trimmed_all pieces = map (λ p. trimmed p.now) pieces

trimmed_now : (pieces : List (Bor (List ℕ))) → trimmed_all pieces ≡ map trimmed (map (λ p. p.now) pieces)
trimmed_now [] = refl
trimmed_now (p ∷ pieces) = ap (λ ps. trimmed p.now ∷ ps) (trimmed_now pieces)

-- they are those of the text
pub separated_are : (pieces items : List (Bor (List ℕ))) (text : List ℕ) → map (λ p. p.now) items ≡ slice_split (λ b. b == 44) text → pieces ≡ items → trimmed_all pieces ≡ separated text
separated_are pieces items text e same = rw same (trimmed_now items ∙ ap (map trimmed) e)

-- one that is no option
pub option_fails : (o : Options) (pieces : List (Bor (List ℕ))) (i : ℕ) (d : Bor (List ℕ)) → i < length pieces → with_option o (trimmed (get_or pieces i d).now) ≡ None → with_options o (trimmed_all (drop i pieces)) ≡ None
option_fails o pieces i d inside e = rw (drop_more pieces i d inside, e) refl

-- all of them are options
pub options_end : (o : Options) (pieces : List (Bor (List ℕ))) (i : ℕ) → length pieces ≤ i → with_options o (trimmed_all (drop i pieces)) ≡ Some o
options_end o pieces i past = rw (drop_all i pieces past) refl

-- what is answered of a text is its list of names, if it is one
pub list_reported : {E : Type 0} (text : List ℕ) (read : Result (Vec (List ℕ) Global) NamesFault) (list : Result (Option (Vec (List ℕ) Global)) E)
    → IfOk read (λ names. names.items ≡ separated text) → IfOk read (λ names. IsTrue (list_all is_name (separated text))) → (IsErrOf read BadList → IsFalse (list_all is_name (separated text)))
    → IsListIfRead read list → IfOk list (λ found. option_map (λ names. names.items) found ≡ names_of text)
list_reported text (Ok names) list items good bad is = subst (λ l. IfOk l (λ found. option_map (λ names. names.items) found ≡ names_of text)) (sym is) (list_good text names.items items good)
list_reported text (Err BadList) list items good bad is = subst (λ l. IfOk l (λ found. option_map (λ names. names.items) found ≡ names_of text)) (sym is) (rw (list_is text, bad refl) refl)
list_reported text (Err NoMemory) (Ok found) items good bad is = absurd (let e : false ≡ true = is in cc)
list_reported text (Err NoMemory) (Err e) items good bad is = tt
