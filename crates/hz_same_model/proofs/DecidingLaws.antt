-- What a status says of two machines that are compared.
use Rattle.std.proofs.Common.{◌≡◌, ◌⊎◌, ℕ, ◌≤◌, Bool, List, [], ◌∷◌, length, inl, inr, Option, Some, MatchOption, MatchBool, nat_lt, sym, ap, ◌∙◌, subst, arith}
use Rattle.std.proofs.lemmas.Bool.{le-ltb}
use Rattle.hz_base_model.specs.Names.{Held}
use Rattle.hz_pipeline_model.specs.Tables.Machines.{Machine}
use Rattle.hz_tabtext_model.specs.Texts.{TableText}
use Rattle.hz_tabtext_model.proofs.TextAgain.{tables_again}
use Rattle.hz_front_model.specs.Phases.{Says, Next, Opens}
use Rattle.hz_front_model.specs.Texts.{file_line, limit_line}
use Rattle.hz_answer_model.specs.TableAnswers.{tables_limit, HasTables}
use Rattle.hz_same_model.proofs.TellingLaws.{no_least}
use Rattle.hz_same_model.specs.Answers.{AreCompared, Compares, ComparesFiles, Decides, JudgesTables, MayAnswer, PassPairs, PassesPairs, SameAnswer, same_usage}
use Rattle.hz_same_model.proofs.SingleLaws.{one_machine, same_single}

-- ---- what follows what is read

opened : (held : Held) (name : List ℕ) (most : ℕ) (bytes : List ℕ) (next : Next (List ℕ)) (s : ℕ) (t : List ℕ) → held name ≡ Some bytes → length bytes ≤ most → Opens held name most next s t → next bytes s t
opened held name most bytes next s t there short h =
    subst (λ (b : Bool). MatchBool b (Says 3 (limit_line name) s t) (next bytes s t)) (le-ltb most (length bytes) short)
    (subst (λ (o : Option (List ℕ)). MatchOption o (Says 6 (file_line name) s t) (λ bytes. MatchBool (nat_lt most (length bytes)) (Says 3 (limit_line name) s t) (next bytes s t))) there h)

pub judged : (name bytes : List ℕ) (m : Machine) (next : Next Machine) (s : ℕ) (t : List ℕ) → TableText bytes m → HasTables name bytes next s t → next m s t
judged name bytes m next s t is (inl (other, also, h)) = subst (λ (x : Machine). next x s t) (one_machine bytes other m also is) h
judged name bytes m next s t is (inr (kind, line, wrong, says)) = let read = tables_again bytes m is in absurd (cc)

module _ (words : List (List ℕ)) (held : Held) (first second : Machine) (are : AreCompared words held first second) where
  -- the answer is that of the machines
  pub compares : (s : ℕ) (t : List ℕ) → SameAnswer words held s t → Compares are.files.0 are.files.1 first second s t
  compares s t h =
      let files : ComparesFiles held are.files s t = subst (λ (o : Option (List ℕ × List ℕ)). MatchOption o (Says 4 same_usage s t) (λ files. ComparesFiles held files s t)) are.named h in
      let one = opened held are.files.0 tables_limit are.text (λ text. Opens held are.files.1 tables_limit (λ other. JudgesTables are.files.0 are.files.1 (text ∷ other ∷ []))) s t are.holds are.short files in
      let both = opened held are.files.1 tables_limit are.other (λ other. JudgesTables are.files.0 are.files.1 (are.text ∷ other ∷ [])) s t are.other_holds are.other_short one in
      judged are.files.1 are.other second (Compares are.files.0 are.files.1 first) s t are.other_tables
      (judged are.files.0 are.text first (λ m. HasTables are.files.1 are.other (Compares are.files.0 are.files.1 m)) s t are.tables both)

  some_files : (a b : List ℕ × List ℕ) → Some a ≡ Some b → a ≡ b
  some_files a b h = cc

  some_bytes : (a b : List ℕ) → Some a ≡ Some b → a ≡ b
  some_bytes a b h = cc

  -- whose pairs pass are these machines
  passes : PassesPairs words held → PassPairs first second
  passes p =
      let files : p.compared.files ≡ are.files = some_files p.compared.files are.files (sym p.compared.named ∙ are.named) in
      let text : p.compared.text ≡ are.text = some_bytes p.compared.text are.text (sym p.compared.holds ∙ (ap (λ (f : List ℕ × List ℕ). held f.0) files ∙ are.holds)) in
      let other : p.compared.other ≡ are.other = some_bytes p.compared.other are.other (sym p.compared.other_holds ∙ (ap (λ (f : List ℕ × List ℕ). held f.1) files ∙ are.other_holds)) in
      let one : p.first ≡ first = one_machine are.text p.first first (subst (λ (b : List ℕ). TableText b p.first) text p.compared.tables) are.tables in
      let two : p.second ≡ second = one_machine are.other p.second second (subst (λ (b : List ℕ). TableText b p.second) other p.compared.other_tables) are.other_tables in
      subst (λ (n : Machine). PassPairs first n) two (subst (λ (m : Machine). PassPairs m p.second) one p.pass)

  by_answer : (s : ℕ) (t : List ℕ) → Compares are.files.0 are.files.1 first second s t → Decides first second s
  by_answer s t (inl (same, says)) = let zero : s ≡ 0 = says.0 in record { same = λ e. same; differ = λ one. absurd (omega (arith, zero, one)); other = inl zero }
  by_answer s t (inr (inl (differ, answers, says))) = let one : s ≡ 1 = says.0 in record { same = λ zero. absurd (omega (arith, zero, one)); differ = λ e. differ; other = inr (inl one) }
  by_answer s t (inr (inr (one, says))) = record {
    same = λ zero. absurd (omega (arith, zero, one));
    differ = λ e same. no_least first second says.trace same.answers says.least;
    other = inr (inl one);
  }

  by_may : (s : ℕ) (t : List ℕ) → MayAnswer words held s t → Decides first second s
  by_may s t (inl h) = by_answer s t (compares s t h)
  by_may s t (inr (p, says)) = let three : s ≡ 3 = says.0 in record {
    same = λ zero. absurd (omega (arith, zero, three));
    differ = λ one. absurd (omega (arith, one, three));
    other = inr (inr (inl (three, passes p)));
  }

  -- or memory ran out
  pub decides : (s : ℕ) → (s ≡ 5) ⊎ ((t : List ℕ) × MayAnswer words held s t) → Decides first second s
  decides s (inl five) = record { same = λ zero. absurd (omega (arith, zero, five)); differ = λ one. absurd (omega (arith, one, five)); other = inr (inr (inr five)) }
  decides s (inr (t, h)) = by_may s t h

-- whatever may be answered, an answer has the same status, or pairs pass their limit
pub may_exact : (words : List (List ℕ)) (held : Held) (s s' : ℕ) (t t' : List ℕ) → MayAnswer words held s t → SameAnswer words held s' t' → (s ≡ s') ⊎ ((s ≡ 3) × PassesPairs words held) ⊎ (s ≡ 5)
may_exact words held s s' t t' (inl a) b = inl (same_single words held s s' t t' a b).0
may_exact words held s s' t t' (inr (p, says)) b = inr (inl (says.0, p))
