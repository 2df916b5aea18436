use Rattle.std.proofs.Common.{◌≡◌, rules, refl, Some, ◌∷◌, [], inl, inr}
use Rattle.hz_base_model.specs.Forms.Forms.{Faulty, escaped}
use Rattle.hz_sexp.proofs.Parts.{part_escape, no_escape}
use Rattle.hz_sexp.proofs.string.escape.Goals as goal

pub returns-in_default-clause-err : goal.returns-in_default-clause-err
returns-in_default-clause-err c = λ opened b text bytes e part. Faulty.cut_string e (rw c.in_default.ensures at part)

pub returns-then-b-eq10-clause-ok : goal.returns-then-b-eq10-clause-ok
returns-then-b-eq10-clause-ok c = part_escape _ _ c.in-Some.b _ _ [] c.in-Some.ensures.0 (rw (← c.requires) c.in-Some.ensures.1) (rw c.if-b-eq10.true refl)

pub returns-then-b-eq92-clause-ok : goal.returns-then-b-eq92-clause-ok
returns-then-b-eq92-clause-ok c =
    let one : escaped c.in-Some.b ≡ Some (c.in-Some.b ∷ []) = elim c.if-b-eq92.either [ inl e ↦ rw e refl | inr e ↦ rw e.1 refl ] in
    part_escape _ _ c.in-Some.b _ _ (c.in-Some.b ∷ []) c.in-Some.ensures.0 (rw (← c.requires) c.in-Some.ensures.1) one

pub returns-else-b-eq92-clause-err : goal.returns-else-b-eq92-clause-err
returns-else-b-eq92-clause-err c = λ opened b text bytes e part. Faulty.wrong_escape e (rw c.in-Some.ensures.0 at part) (no_escape c.in-Some.b c.if-b-eq10.false (search rules) (search rules))
