-- What is answered of two machines is answered in one way.
use Rattle.std.proofs.Common.{◌≡◌, ℕ, List, [], ◌∷◌, ◌++◌, inl, inr, Option, Some, None, MatchOption, refl, sym, ap, ◌∙◌, subst}
use Rattle.hz_base_model.specs.Names.{Held}
use Rattle.hz_pipeline_model.specs.Tables.Machines.{Machine, machine_walk}
use Rattle.hz_tabtext_model.specs.Judging.{tables_word, Fault}
use Rattle.hz_tabtext_model.specs.Texts.{TableText}
use Rattle.hz_tabtext_model.proofs.Steps.{ok_is}
use Rattle.hz_tabtext_model.proofs.TextAgain.{tables_again}
use Rattle.hz_front_model.specs.Phases.{Says, Next}
use Rattle.hz_front_model.specs.Texts.{fault_line}
use Rattle.hz_front_model.proofs.SingleLaws.{IsSingle, says_single, says_same, files_single}
use Rattle.hz_answer_model.specs.TableAnswers.{tables_limit, HasTables}
use Rattle.hz_same_model.specs.Common.{Common, common_of, event_at, events_at}
use Rattle.hz_same_model.specs.Telling.{answer_in}
use Rattle.hz_same_model.proofs.TellingLaws.{one_least, no_least}
use Rattle.hz_same_model.proofs.WordLaws.{same_front}
use Rattle.hz_same_model.specs.Answers.{SaysDifference, Compares, JudgesTables, ComparesFiles, SameAnswer, same_files, same_usage}
use Rattle.hz_same_model.specs.Texts.{same_line, names_alone, else_line, difference_text}

some_same : (xs ys : List ℕ) → Some xs ≡ Some ys → xs ≡ ys
some_same xs ys h = cc

-- ---- of two machines

module _ (file other_file : List ℕ) (first second : Machine) where
  abbrev common : Common
  common = common_of first second

  one_difference : (text other : List ℕ) → SaysDifference file other_file first second text → SaysDifference file other_file first second other → text ≡ other
  one_difference text other a b =
      let trace : a.trace ≡ b.trace = one_least first second a.trace b.trace a.least b.least in
      let parts = same_front a.least.before b.least.before a.least.last b.least.last (sym a.least.is ∙ (trace ∙ b.least.is)) in
      let front : a.least.before ≡ b.least.before = parts.0 in
      let last : a.least.last ≡ b.least.last = parts.1 in
      let states : a.least.tells.states ≡ b.least.tells.states =
      some_same a.least.tells.states b.least.tells.states (sym a.least.tells.one ∙ (ap (λ (w : List ℕ). machine_walk first (events_at common first w)) front ∙ b.least.tells.one)) in
      a.says
      ∙ ((λ i. names_alone file other_file first second ++ difference_text file other_file common (trace i) (last i) (answer_in first (states i) (event_at common first (last i))))
      ∙ sym b.says)

  pub compares_single : IsSingle (Compares file other_file first second)
  compares_single s s' t t' (inl (same, a)) (inl (also, b)) = says_single 0 same_line s s' t t' a b
  compares_single s s' t t' (inl (same, a)) (inr (inl (differ, answers, b))) = absurd (differ same)
  compares_single s s' t t' (inl (same, a)) (inr (inr (one, b))) = absurd (no_least first second b.trace same.answers b.least)
  compares_single s s' t t' (inr (inl (differ, answers, a))) (inl (same, b)) = absurd (differ same)
  compares_single s s' t t' (inr (inl (differ, answers, a))) (inr (inl (differ', answers', b))) = says_single 1 (names_alone file other_file first second ++ else_line) s s' t t' a b
  compares_single s s' t t' (inr (inl (differ, answers, a))) (inr (inr (one, b))) = absurd (no_least first second b.trace answers b.least)
  compares_single s s' t t' (inr (inr (one, a))) (inl (same, b)) = absurd (no_least first second a.trace same.answers a.least)
  compares_single s s' t t' (inr (inr (one, a))) (inr (inl (differ, answers, b))) = absurd (no_least first second a.trace answers a.least)
  compares_single s s' t t' (inr (inr (one, a))) (inr (inr (one', b))) = (one ∙ sym one', one_difference t t' a b)

-- ---- of two texts

-- a text has one machine
pub one_machine : (bytes : List ℕ) (m n : Machine) → TableText bytes m → TableText bytes n → m ≡ n
one_machine bytes m n is also = ok_is {E = Fault} m n (sym (tables_again bytes m is) ∙ tables_again bytes n also)

pub tables_single : (name bytes : List ℕ) (next : Next Machine) → ((m : Machine) → IsSingle (next m)) → IsSingle (HasTables name bytes next)
tables_single name bytes next single s s' t t' (inl (m, is, a)) (inl (other, also, b)) =
    single m s s' t t' a (subst (λ (x : Machine). next x s' t') (sym (one_machine bytes m other is also)) b)
tables_single name bytes next single s s' t t' (inl (m, is, a)) (inr (kind, line, wrong, b)) = let read = tables_again bytes m is in absurd (cc)
tables_single name bytes next single s s' t t' (inr (kind, line, wrong, a)) (inl (m, is, b)) = let read = tables_again bytes m is in absurd (cc)
tables_single name bytes next single s s' t t' (inr (kind, line, wrong, a)) (inr (other, place, also, b)) =
    let fault : Fault = record { kind = kind; line = line } in
    let second : Fault = record { kind = other; line = place } in
    let same : fault ≡ second = cc in
    says_same 2 2 (fault_line name line (tables_word kind ∷ [])) (fault_line name place (tables_word other ∷ [])) refl (ap (λ (f : Fault). fault_line name f.line (tables_word f.kind ∷ [])) same) s s' t t' a b

texts_single : (file other_file text other : List ℕ) → IsSingle (JudgesTables file other_file (text ∷ other ∷ []))
texts_single file other_file text other =
    tables_single file text (λ first. HasTables other_file other (Compares file other_file first)) (λ first.
    tables_single other_file other (Compares file other_file first) (λ second. compares_single file other_file first second))

-- ---- of the words

both_single : (held : Held) (files : List ℕ × List ℕ) → IsSingle (ComparesFiles held files)
both_single held files =
    files_single held (record { name = files.0; most = tables_limit } ∷ record { name = files.1; most = tables_limit } ∷ []) (JudgesTables files.0 files.1)
    (λ text other. texts_single files.0 files.1 text other)

-- the words and what is held have one answer at most
pub same_single : (words : List (List ℕ)) (held : Held) → IsSingle (SameAnswer words held)
same_single words held = by_files (same_files words)
  where
    by_files : (files : Option (List ℕ × List ℕ)) → IsSingle (λ s t. MatchOption files (Says 4 same_usage s t) (λ files. ComparesFiles held files s t))
    by_files None = says_single 4 same_usage
    by_files (Some files) = both_single held files
