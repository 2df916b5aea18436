use Rattle.std.proofs.Common.{◌≤◌, ℕ, List, ◌++◌, map, filter, length, All, refl, sym, ap, subst, ◌∙◌, arith}
use Rattle.std.proofs.lemmas.List.{append-nil}
use Rattle.hz_check_reservations.specs.Shape.{place_of}
use Rattle.hz_explain.specs.Drawing.{picture_text}
use Rattle.hz_explain.specs.Showing.{is_shown, holders_of, longest_shown, shown_in, shown_of, shown_held}
use Rattle.hz_explain.specs.declared.drawing.Row.{Row}
use Rattle.hz_explain.proofs.GatherLaws.{shown_same}
use Rattle.hz_explain.proofs.ShowLaws.{map_alike, picture_is, picture_none, rows_wide}
use Rattle.hz_explain.proofs.picture.add_shown.Goals as goal

pub returns-then-cycles-eq0 : goal.returns-then-cycles-eq0
returns-then-cycles-eq0 c = λ m t lines choices pairs is are ask.
    let none = sym c.cycles_of-cycles.ensures ∙ c.if-cycles-eq0.true in
    sym (append-nil c.args.text.now.items)
    ∙ ap (λ (l : List ℕ). c.args.text.now.items ++ l) (sym (picture_none m c.args.plan.now is t lines choices c.args.issues.now are c.args.parts.now (map place_of c.args.parts.now.places.items) c.args.asked.now pairs ask none))

pub add_picture-requires-clause-wide : goal.add_picture-requires-clause-wide
add_picture-requires-clause-wide c =
    let plan = c.args.plan.now in
    let issues = c.args.issues.now in
    subst (λ (k : ℕ). All (λ (row : Row). k ≤ length row.lines.items) c.deref.result.now) c.cycles_drawn-shown.ensures
    (rows_wide c.args.parts.now plan (holders_of plan issues) c.cycles_drawn-shown.result (filter (is_shown plan issues c.args.asked.now) (map place_of c.args.parts.now.places.items)) c.deref.result.now
    (ap (map shown_in) c.deref.ensures.value ∙ c.in_ok-rows.ensures))

pub returns : goal.returns
returns c = λ m t lines choices pairs is are ask.
    let parts = c.args.parts.now in
    let plan = c.args.plan.now in
    let issues = c.args.issues.now in
    let asked = c.args.asked.now in
    let n = c.cycles_drawn-shown.result in
    let rows = c.deref.result.now in
    let units = map place_of parts.places.items in
    let drawn = ap (map shown_in) c.deref.ensures.value ∙ (c.in_ok-rows.ensures ∙ map_alike (shown_held parts plan issues n) (shown_of parts plan issues n) (shown_same m plan is parts n issues) (filter (is_shown plan issues asked) units)) in
    c.in_ok-add_picture.ensures
    ∙ ap (λ (l : List ℕ). c.args.text.now.items ++ l)
    (ap (λ (l : ℕ). picture_text c.cycles_of-cycles.result l rows) c.longest_cell.ensures
    ∙ (ap (λ (k : ℕ). picture_text k (longest_shown issues k) rows) c.cycles_of-cycles.ensures
    ∙ picture_is m plan is t lines choices issues are parts units asked pairs ask (is_shown plan issues asked) (λ u. refl) n (omega (arith, c.cycles_of-cycles.ensures, c.cycles_drawn-shown.ensures)) rows drawn))
