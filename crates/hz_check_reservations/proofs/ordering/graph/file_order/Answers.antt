use Rattle.std.proofs.Common.{ℕ, ◌+◌, ◌<◌, ◌⊎◌, inl, inr, List, [], ◌∷◌, ◌++◌, length, subst, sym, ap, ◌∙◌}
use Rattle.std.proofs.lemmas.List.{append-nil, append_assoc}
use Rattle.hz_check_reservations.specs.Orders.{Numbered, class_reservings_of, reservings_of}
use Rattle.hz_check_reservations.proofs.FileOrder.{reservation_comes, class_comes, nothing_rests, comes_first_within, comes_second_within}
use Rattle.hz_check_reservations.proofs.ordering.graph.file_order.Goals as goal
use Rattle.hz_check_reservations.proofs.ordering.graph.file_order.Goals.{then-i-reservations, else-i-reservations+then-j-classes}

pub loop-i-preserved-then-comes_first : goal.loop-i-preserved-then-comes_first
loop-i-preserved-then-comes_first c =
    let rs = c.args.reservations.now in
    let cs = c.args.classes.now in
    record {
      first = comes_first_within rs cs c.loop-i.i c.loop-i.j (sym c.if-comes_first.ensures);
      second = c.loop-i.invariant.second;
      rest = λ rest h. subst (Numbered (reservings_of rs) (class_reservings_of cs) 0 (length rs))
          (sym (ap (λ (xs : List ℕ). xs ++ rest) c.in_ok-push.ensures.items ∙ append_assoc c.loop-i.file.items (c.loop-i.i ∷ []) rest))
          (c.loop-i.invariant.rest (c.loop-i.i ∷ rest) (reservation_comes rs cs c.loop-i.i c.loop-i.j rest (sym c.if-comes_first.ensures) h));
    }

pub loop-i-preserved : goal.loop-i-preserved
loop-i-preserved c =
    let rs = c.args.reservations.now in
    let cs = c.args.classes.now in
    let some : (c.loop-i.i < length rs) ⊎ (c.loop-i.j < length cs) = elim c.if-i-reservations.branch [
      | then-i-reservations w ↦ inl w.if-i-reservations.true
      | else-i-reservations+then-j-classes w ↦ inr w.if-j-classes.true
    ] in
    record {
      first = c.loop-i.invariant.first;
      second = comes_second_within rs cs c.loop-i.i c.loop-i.j some (sym c.if-comes_first.ensures);
      rest = λ rest h. subst (Numbered (reservings_of rs) (class_reservings_of cs) 0 (length rs))
          (sym (ap (λ (xs : List ℕ). xs ++ rest) c.in_ok-push-2.ensures.items ∙ append_assoc c.loop-i.file.items ((length rs + c.loop-i.j) ∷ []) rest))
          (c.loop-i.invariant.rest ((length rs + c.loop-i.j) ∷ rest) (class_comes rs cs c.loop-i.i c.loop-i.j rest some (sym c.if-comes_first.ensures) h));
    }

pub returns : goal.returns
returns c =
    let rs = c.args.reservations.now in
    let cs = c.args.classes.now in
    subst (Numbered (reservings_of rs) (class_reservings_of cs) 0 (length rs)) (append-nil c.loop-i.file.items)
    (c.loop-i.invariant.rest [] (nothing_rests rs cs c.loop-i.i c.loop-i.j c.if-i-reservations.false c.if-j-classes.false))
