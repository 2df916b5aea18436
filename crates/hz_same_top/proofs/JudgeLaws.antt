-- What is refused in the phases of judging is what is to be answered, and what is found after them.
use Rattle.std.proofs.Common.{◌≡◌, ◌⊎◌, ℕ, ◌<◌, ◌≤◌, false, true, List, [], ◌∷◌, length, inl, inr, Option, Some, None, MatchOption, nat_lt, refl, sym, ◌∙◌, subst, ⊎_elim}
use Rattle.std.proofs.lemmas.Bool.{cases_lt, lt-ltb}
use Rattle.hz_base_model.specs.Names.{Held}
use Rattle.hz_pipeline_model.specs.Tables.Machines.{Machine}
use Rattle.hz_tabtext_model.specs.Judging.{tables_word}
use Rattle.hz_tabtext_model.specs.Texts.{TableText}
use Rattle.hz_front_model.specs.Phases.{FileWord, Says, TellsFault}
use Rattle.hz_answer_model.specs.TableAnswers.{tables_limit, HasTables, TablesFaultAt}
use Rattle.hz_front.specs.Reading.{AreRead, IsUnread}
use Rattle.hz_front.specs.Refusals.{Agrees, Answers, Decided, done}
use Rattle.hz_front.specs.declared.refusal.Refusal.{Refusal}
use Rattle.hz_front.proofs.AnswerLemmas.{agrees_weaker, answers_weaker}
use Rattle.hz_front.proofs.ReadLemmas.{reads_all, refuses_all}
use Rattle.hz_same_model.proofs.DecidingLaws.{decides, may_exact}
use Rattle.hz_front.specs.Endings.{Completes}
use Rattle.hz_same_model.specs.Answers.{AreCompared, Decides, Compares, ComparesFiles, JudgesTables, MayAnswer, PassPairs, PassesPairs, SameAnswer, same_files, same_usage}
use Rattle.hz_same_top.specs.Telling.{MayCompare, Or}
use Rattle.hz_same_top.specs.Deciding.{MayCompareFiles, MayCompareWith, MayJudge, MayJudgeAll, TextsPass}

or_map : (answers others : ℕ → List ℕ → Type 0) (pass after : Type 0) (s : ℕ) (t : List ℕ) → (answers s t → others s t) → (pass → after) → Or answers pass s t → Or others after s t
or_map answers others pass after s t f g (inl h) = inl (f h)
or_map answers others pass after s t f g (inr (p, says)) = inr (g p, says)

module _ (file other_file : List ℕ) where
  -- the second text
  pub with_found : (first second : Machine) (other : List ℕ) (decided : Decided) → TableText other second → Answers (MayCompare file other_file first second) decided → Answers (MayCompareWith file other_file other first) decided
  with_found first second other decided is =
      answers_weaker (MayCompare file other_file first second) (MayCompareWith file other_file other first)
      (λ s t. or_map (Compares file other_file first second) (HasTables other_file other (Compares file other_file first)) (PassPairs first second) ((n : Machine) × TableText other n × PassPairs first n) s t
      (λ h. inl (second, is, h)) (λ p. (second, is, p)))
      decided

  pub with_refused : (first : Machine) (other : List ℕ) (refusal : Refusal) → Agrees (TellsFault tables_word (TablesFaultAt other) other_file) refusal → Agrees (MayCompareWith file other_file other first) refusal
  with_refused first other = agrees_weaker (TellsFault tables_word (TablesFaultAt other) other_file) (MayCompareWith file other_file other first) (λ s t h. inl (inr h))

  -- the first text
  pub texts_found : (first : Machine) (text other : List ℕ) (decided : Decided) → TableText text first → Answers (MayCompareWith file other_file other first) decided → Answers (MayJudge file other_file text other) decided
  texts_found first text other decided is =
      answers_weaker (MayCompareWith file other_file other first) (MayJudge file other_file text other)
      (λ s t. or_map (HasTables other_file other (Compares file other_file first)) (JudgesTables file other_file (text ∷ other ∷ [])) ((n : Machine) × TableText other n × PassPairs first n) (TextsPass text other) s t
      (λ h. inl (first, is, h)) (λ p. record { first = first; second = p.0; tables = is; other_tables = p.1; pass = p.2 }))
      decided

  pub texts_refused : (text other : List ℕ) (refusal : Refusal) → Agrees (TellsFault tables_word (TablesFaultAt text) file) refusal → Agrees (MayJudge file other_file text other) refusal
  texts_refused text other = agrees_weaker (TellsFault tables_word (TablesFaultAt text) file) (MayJudge file other_file text other) (λ s t h. inl (inr h))

-- ---- the files

few : (most n : ℕ) → nat_lt most n ≡ false → n ≤ most
few most n fits = ⊎_elim (λ (more : most < n). absurd (no_both (sym (lt-ltb most n more) ∙ fits))) (λ (le : n ≤ most). le) (cases_lt most n)
  where
    no_both : true ≡ false → ⊥
    no_both h = cc

module _ (held : Held) (files : List ℕ × List ℕ) where
  abbrev words_of : List FileWord
  words_of = record { name = files.0; most = tables_limit } ∷ record { name = files.1; most = tables_limit } ∷ []

  read_on : (texts : List (List ℕ)) → AreRead held words_of texts → (s : ℕ) (t : List ℕ) → MayJudgeAll files.0 files.1 texts s t → MayCompareFiles held files s t
  read_on [] read s t h = absurd h
  read_on (text ∷ []) read s t h = absurd h
  read_on (text ∷ other ∷ third ∷ texts) read s t h = absurd h
  read_on (text ∷ other ∷ []) read s t (inl h) = inl (reads_all held words_of (text ∷ other ∷ []) (JudgesTables files.0 files.1) (done s t) read h)
  read_on (text ∷ other ∷ []) (holds, fits, (holds', fits', end)) s t (inr (p, says)) =
      inr (record { text = text; other = other; holds = holds; other_holds = holds'; short = few tables_limit (length text) fits; other_short = few tables_limit (length other) fits'; pass = p }, says)

  pub files_found : (texts : List (List ℕ)) (decided : Decided) → AreRead held words_of texts → Answers (MayJudgeAll files.0 files.1 texts) decided → Answers (MayCompareFiles held files) decided
  files_found texts decided read = answers_weaker (MayJudgeAll files.0 files.1 texts) (MayCompareFiles held files) (read_on texts read) decided

  pub files_refused : (refusal : Refusal) → Agrees (IsUnread held words_of) refusal → Agrees (MayCompareFiles held files) refusal
  files_refused refusal h =
      agrees_weaker (ComparesFiles held files) (MayCompareFiles held files) (λ s t a. inl a) refusal (refuses_all held words_of (JudgesTables files.0 files.1) refusal h)

-- ---- the words

module _ (words : List (List ℕ)) (held : Held) where
  abbrev by_words : Option (List ℕ × List ℕ) → ℕ → List ℕ → Type 0
  by_words o s t = MatchOption o (Says 4 same_usage s t) (λ files. ComparesFiles held files s t)

  named_on : (files : List ℕ × List ℕ) → same_files words ≡ Some files → (s : ℕ) (t : List ℕ) → MayCompareFiles held files s t → MayAnswer words held s t
  named_on files named s t (inl h) = inl (subst (λ (o : Option (List ℕ × List ℕ)). by_words o s t) (sym named) h)
  named_on files named s t (inr (p, says)) =
      inr (
        record {
          first = p.pass.first;
          second = p.pass.second;
          compared = record {
            files = files;
            named = named;
            text = p.text;
            other = p.other;
            holds = p.holds;
            other_holds = p.other_holds;
            short = p.short;
            other_short = p.other_short;
            tables = p.pass.tables;
            other_tables = p.pass.other_tables;
          };
          pass = p.pass.pass;
        },
        says,
      )

  pub words_found : (files : List ℕ × List ℕ) (decided : Decided) → same_files words ≡ Some files → Answers (MayCompareFiles held files) decided → Answers (MayAnswer words held) decided
  words_found files decided named = answers_weaker (MayCompareFiles held files) (MayAnswer words held) (named_on files named) decided

  pub words_refused : same_files words ≡ None → MayAnswer words held 4 same_usage
  words_refused none = inl (subst (λ (o : Option (List ℕ × List ℕ)). by_words o 4 same_usage) (sym none) (refl, refl))

-- ---- what is written

-- an answer has the status of what is written, unless pairs pass or memory ran out
pub exact_of : (words : List (List ℕ)) (held : Held) (s status : ℕ) (text : List ℕ) → SameAnswer words held status text → (old new : Option (List ℕ)) → Completes (MayAnswer words held) s old new → (s ≡ status) ⊎ ((s ≡ 3) × PassesPairs words held) ⊎ (s ≡ 5)
exact_of words held s status text answer old new (inl five) = inr (inr five)
exact_of words held s status text answer old new (inr (t, h, appended)) = may_exact words held s status t text h answer

-- the status decides of the machines
pub decides_of : (words : List (List ℕ)) (held : Held) (first second : Machine) → AreCompared words held first second → (s : ℕ) (old new : Option (List ℕ)) → Completes (MayAnswer words held) s old new → Decides first second s
decides_of words held first second are s old new (inl five) = decides words held first second are s (inl five)
decides_of words held first second are s old new (inr (t, h, appended)) = decides words held first second are s (inr (t, h))
