use Rattle.std.proofs.Common.{◌≡◌, ℕ, List, [], Some, None, get_or, sym, ◌∙◌, arith}
use Rattle.std.specs.Borrow.{Bor}
use Rattle.hz_base_model.specs.Names.{name_of}
use Rattle.hz_mdread.proofs.PatternLemmas.{names_fail, name_more, names_kept}
use Rattle.hz_mdread.proofs.patterns.names_of_words.Goals as goal

pub returns-in-None : goal.returns-in-None
returns-in-None c =
    let words = c.args.words.now in
    let i = c.loop-word.word-index in
    let d : Bor (List ℕ) = record { ref_ptr = (0, 0); now = [] } in
    let none : name_of (get_or words i d).now ≡ None = sym c.in_ok-name.ensures.named ∙ c.in-None.is in
    sym (names_fail c.loop-word.names.items words i d _ (omega arith) c.loop-word.invariant.all none)

pub loop-word-preserved : goal.loop-word-preserved
loop-word-preserved c =
    let words = c.args.words.now in
    let i = c.loop-word.word-index in
    let d : Bor (List ℕ) = record { ref_ptr = (0, 0); now = [] } in
    let found : name_of (get_or words i d).now ≡ Some c.in-Some.name = sym c.in_ok-name.ensures.named ∙ c.in-Some.is in
    let more = name_more c.loop-word.names.items words i d c.in-Some.name _ (omega arith) found c.loop-word.invariant.all c.loop-word.invariant.good in
    rw c.in_ok-push-in-Some.ensures.items (record { all = more.0; good = more.1 })

pub returns : goal.returns
returns c = names_kept c.loop-word.names.items c.args.words.now c.loop-word.word-index (omega arith) c.loop-word.invariant.all c.loop-word.invariant.good
