use Rattle.std.proofs.Common.{◌≡◌, length, sym, ◌∙◌, arith}
use Rattle.std.proofs.lemmas.List.{length-map}
use Rattle.hz_altern.specs.Shapes.{alternative_of, alternatives}
use Rattle.hz_altern.proofs.SequenceWeights.{product_fits, held_weighs}
use Rattle.hz_altern.proofs.listing.Listing.size_before.Goals as goal

pub overflow_mul-result : goal.overflow_mul-result
overflow_mul-result c =
    let ys = c.others.inside.alts.items in
    let each = rw (← c.others.view_is) at c.requires.others in
    let long : c.len.result ≡ length (alternatives ys) = c.len.ensures ∙ (c.others.inside.alts.ok.0 ∙ sym (length-map ys alternative_of)) in
    let fits = product_fits c.self.inside.size c.len.result (alternatives ys) long each c.self.invariant.1 (omega (arith, c.others.invariant.0, c.others.invariant.1)) in
    omega (arith, fits)

pub overflow_mul-result-2 : goal.overflow_mul-result-2
overflow_mul-result-2 c =
    let xs = c.self.inside.alts.items in
    let each = rw (← c.self.view_is) at c.requires.each in
    let long : c.len-2.result ≡ length (alternatives xs) = c.len-2.ensures ∙ (c.self.inside.alts.ok.0 ∙ sym (length-map xs alternative_of)) in
    let fits = product_fits c.others.inside.size c.len-2.result (alternatives xs) long each c.others.invariant.1 (omega (arith, c.self.invariant.0, c.self.invariant.1)) in
    omega (arith, fits)

pub overflow_add-result : goal.overflow_add-result
overflow_add-result c =
    let xs = c.self.inside.alts.items in
    let ys = c.others.inside.alts.items in
    let long : c.len.result ≡ length (alternatives ys) = c.len.ensures ∙ (c.others.inside.alts.ok.0 ∙ sym (length-map ys alternative_of)) in
    let short : c.len-2.result ≡ length (alternatives xs) = c.len-2.ensures ∙ (c.self.inside.alts.ok.0 ∙ sym (length-map xs alternative_of)) in
    let first = product_fits c.self.inside.size c.len.result (alternatives ys) long (rw (← c.others.view_is) at c.requires.others) c.self.invariant.1 (omega (arith, c.others.invariant.0, c.others.invariant.1)) in
    let second = product_fits c.others.inside.size c.len-2.result (alternatives xs) short (rw (← c.self.view_is) at c.requires.each) c.others.invariant.1 (omega (arith, c.self.invariant.0, c.self.invariant.1)) in
    omega (arith, first, second)

pub returns : goal.returns
returns c =
    let xs = c.self.inside.alts.items in
    let ys = c.others.inside.alts.items in
    let long : c.len.result ≡ length (alternatives ys) = c.len.ensures ∙ (c.others.inside.alts.ok.0 ∙ sym (length-map ys alternative_of)) in
    let short : c.len-2.result ≡ length (alternatives xs) = c.len-2.ensures ∙ (c.self.inside.alts.ok.0 ∙ sym (length-map xs alternative_of)) in
    rw (← c.self.view_is, ← c.others.view_is) (held_weighs c.self.inside.size c.others.inside.size c.len.result c.len-2.result (alternatives xs) (alternatives ys) c.self.invariant.0 c.others.invariant.0 long short)
