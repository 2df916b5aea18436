use Rattle.std.proofs.Common.{◌≡◌, ◌<◌, ◌+◌, [], ◌∷◌, map, length, inl, inr, ⊎_elim, sym, ap, ◌∙◌, subst, arith}
use Rattle.std.specs.Prelude.{Contains, All, ◌^◌}
use Rattle.std.proofs.lemmas.List.Elements.{All-push, All-get_or}
use Rattle.std.proofs.lemmas.List.{length-append, length-take}
use Rattle.hz_front.proofs.ReadLemmas.{named_at, read_weaker, refused_at, read_next, some_file}
use Rattle.hz_front.specs.Reading.{texts_in, wanted_in}
use Rattle.hz_front.proofs.reading.read_all.Goals as goal

pub returns-in-Err-clause-kind : goal.returns-in-Err-clause-kind
returns-in-Err-clause-kind g c =
    let wanted = c.args.wanted.now in
    read_weaker _ (Contains (map (λ file. file.name) (wanted_in wanted)))
    (λ name same. subst (Contains (map (λ file. file.name) (wanted_in wanted))) (sym same) (named_at wanted c.loop-file.file-index _ (omega arith))) c.in-Err.refusal c.in-Err.ensures.kind

pub returns-in-Err-clause-refused : goal.returns-in-Err-clause-refused
returns-in-Err-clause-refused g c = λ held reported known.
    let before = c.loop-file.invariant in
    refused_at held c.args.wanted.now c.loop-file.file-index _ (texts_in c.loop-file.texts.items) c.in-Err.refusal (omega arith) (before.read held reported) c.in-Err.ensures.kind
    (c.in-Err.ensures.tells held (before.kept ∙ reported) (⊎_elim (λ same. inl (same ∙ sym before.same)) (λ steady. inr (before.still steady)) known))

pub loop-file-preserved : goal.loop-file-preserved
loop-file-preserved g c =
    let before = c.loop-file.invariant in
    let wanted = c.args.wanted.now in
    let within : c.loop-file.file-index < length wanted = omega arith in
    let text = c.in-Ok.text in
    let few = c.in-Ok.ensures.length in
    let long : text.len ≡ length text.items = text.ok.0 in
    let most = All-get_or (λ file. file.most < 2 ^ 32) wanted c.loop-file.file-index some_file within c.requires.low in
    let items = c.in-Ok-push.ensures.items in
    record {
      same = c.in-Ok.ensures.counts ∙ before.same;
      kept = c.in-Ok.ensures.held ∙ before.kept;
      still = λ steady. c.in-Ok.ensures.steady (before.still steady);
      read = λ held reported. read_next held wanted c.loop-file.file-index _ c.loop-file.texts.items c.push.new.self.items text within items (before.read held reported) (c.in-Ok.ensures.tells held (before.kept ∙ reported) (inl c.in-Ok.ensures.counts)) (omega (arith, few, long));
      long = omega (arith, before.long, ap length items, length-append c.loop-file.texts.items (text ∷ []), length-take c.loop-file.file-index wanted, length-take (c.loop-file.file-index + 1) wanted, within);
      short = subst (All (λ text. length text.items < 2 ^ 32)) (sym items) (All-push (λ text. length text.items < 2 ^ 32) c.loop-file.texts.items text before.short (omega (arith, few, long, most)));
    }
