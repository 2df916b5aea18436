use Rattle.std.proofs.Common.{◌∷◌, [], ℕ, List, codes, subst, ◌∙◌}
use Rattle.std.specs.List.{concat}
use Rattle.hz_io.specs.Sink.{Writes}
use Rattle.hz_report.proofs.outcomes.put_refused.Goals as goal

pub returns : goal.returns
returns g c =
    subst (λ (digits : List ℕ). Writes g.S.Sink.written g.S.Sink.room g.S.Sink.faults c.args.out.now c.put_all.new.out (concat (codes "refused line " ∷ digits ∷ codes " " ∷ c.args.class.now ∷ codes "\n" ∷ [])) c.put_all.result) (c.as_bytes.ensures.value ∙ c.format.ensures.text)
    (subst (λ (name : List ℕ). Writes g.S.Sink.written g.S.Sink.room g.S.Sink.faults c.args.out.now c.put_all.new.out (concat (codes "refused line " ∷ c.as_bytes.result.now ∷ codes " " ∷ name ∷ codes "\n" ∷ [])) c.put_all.result) c.bytes.ensures.value
    c.put_all.ensures)
