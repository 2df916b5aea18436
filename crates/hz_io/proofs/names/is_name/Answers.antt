use Rattle.std.proofs.Common.{◌≡◌, ℕ, List, [], ◌∷◌, length, refl, ◌∙◌, arith, rules, tests}
use Rattle.std.proofs.lemmas.Bool.Decides.{nat_tests}
use Rattle.std.proofs.lemmas.Iterator.{YieldsList-from_slice}
use Rattle.std.proofs.lemmas.Iterator.Search.{all_from_yields_List}
use Rattle.std.specs.List.{list_all}
use Rattle.hz_base_model.specs.Names.{is_name, is_name_byte}
use Rattle.hz_io.proofs.names.is_name.Goals as goal

all_is_name : (bytes : List ℕ) → (length bytes ≡ 0 → ⊥) → list_all is_name_byte bytes ≡ is_name bytes
all_is_name [] some = absurd (some refl)
all_is_name (b ∷ bs) some = refl

pub returns-then-not-is_empty : goal.returns-then-not-is_empty
returns-then-not-is_empty c =
    let bytes = c.args.bytes.now in
    let some : length bytes ≡ 0 → ⊥ = grind (arith, nat_tests) in
    all_from_yields_List is_name_byte _ _ _ c.all.ensures.ran (YieldsList-from_slice bytes cc) (λ x b q k. search (rules, tests))
    ∙ all_is_name bytes some
