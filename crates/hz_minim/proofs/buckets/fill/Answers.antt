use Rattle.std.proofs.Common.{◌≡◌, ℕ, ◌+◌, ◌<◌, List, length, get_or, take, Contains, sym, ap, ◌∙◌, subst, arith, vec_len}
use Rattle.std.specs.declared.alloc.Global.{Global}
use Rattle.std.specs.declared.vec.Vec.{Vec}
use Rattle.std.proofs.lemmas.List.{get_or_default, get_or_read, take_all}
use Rattle.std.proofs.lemmas.List.Elements.{Contains-get_or}
use Rattle.hz_pipeline_model.specs.Least.Blocks.{block_of}
use Rattle.hz_minim.specs.declared.arrows.Arrow.{Arrow}
use Rattle.hz_minim.specs.declared.partition.Partition.{Partition}
use Rattle.hz_minim.specs.Buckets.{AddsArrows}
use Rattle.hz_minim.specs.Lists.{list_at, lists_of}
use Rattle.hz_minim.specs.Moves.{IsListed}
use Rattle.hz_minim.proofs.BucketLaws.{AreFilled, filled_all, filled_more, filled_skipped}
use Rattle.hz_minim.proofs.ListLaws.{length-lists_of}
use Rattle.hz_minim.proofs.buckets.fill.Goals as goal
use Rattle.hz_minim.proofs.buckets.fill.Goals.{then-index-block+in_ok-add_arrows, else-index-block}

-- a member of a block is a state
member_within : (p : Partition) (block i : ℕ) (states : List ℕ) → IsListed p.blocks.items (lists_of p.members.items) → states ≡ list_at (lists_of p.members.items) block → i < length states → get_or states i 0 < length p.blocks.items
member_within p block i states listed is within = listed.states block (get_or states i 0) (subst (λ (xs : List ℕ). Contains xs (get_or states i 0)) is (Contains-get_or states i 0 within))

pub index-requires : goal.index-requires
index-requires c =
    let p = c.args.partition.now in
    let is = c.at-state-items.ensures ∙ ap (λ members. list_at (lists_of members) c.args.block) c.deref.ensures.value in
    let below = member_within p c.args.block c.loop-state.state-index c.at-state-items.result.now c.requires.listed is c.loop-state-test.true in
    omega (arith, p.blocks.ok.0)

pub add_arrows-requires : goal.add_arrows-requires
add_arrows-requires c = λ arrow h.
    let below = c.requires.columns (get_or c.at-state-items.result.now c.loop-state.state-index 0) arrow (subst (λ (xs : List Arrow). Contains xs arrow) c.at.ensures h) in
    omega (arith, c.loop-state.invariant.size, c.clear_all.ensures.size)

pub loop-state-preserved : goal.loop-state-preserved
loop-state-preserved c =
    let p = c.args.partition.now in
    let blocks = p.blocks.items in
    let arrows = lists_of c.args.arrows.now in
    let states = c.at-state-items.result.now in
    let i = c.loop-state.state-index in
    let here : ℕ = get_or states i 0 in
    let before = lists_of c.loop-state.buckets.items in
    let same = get_or_default states i 0 here c.loop-state-test.true in
    let is = c.at-state-items.ensures ∙ ap (λ members. list_at (lists_of members) c.args.block) c.deref.ensures.value in
    let below = member_within p c.args.block i states c.requires.listed is c.loop-state-test.true in
    let read : c.index.result.now ≡ block_of blocks here = get_or_read blocks here c.index.result.now below c.index.ensures 0 in
    let Filled = λ (v : Vec (Vec ℕ Global) Global). AreFilled arrows blocks c.args.block (take (i + 1) states) (lists_of v.items) in
    elim c.if-index-block.branch [
      | then-index-block+in_ok-add_arrows w ↦
          let adds = subst (λ (xs : List Arrow). AddsArrows xs before (lists_of w.add_arrows.new.buckets.items)) w.at.ensures w.in_ok-add_arrows.ensures in
          record {
            size = ap (λ (v : Vec (Vec ℕ Global) Global). vec_len v) w.buckets-is
                ∙ omega (arith, adds.size, length-lists_of c.loop-state.buckets.items, length-lists_of w.add_arrows.new.buckets.items, c.loop-state.buckets.ok.0, w.add_arrows.new.buckets.ok.0, c.loop-state.invariant.size);
            filled = subst Filled (sym w.buckets-is) (filled_more arrows blocks c.args.block states i here c.loop-state-test.true same before c.loop-state.invariant.filled below (sym read ∙ w.if-index-block.true) (lists_of w.add_arrows.new.buckets.items) adds);
          }
      | else-index-block w ↦
          record {
            size = ap (λ (v : Vec (Vec ℕ Global) Global). vec_len v) w.buckets-is ∙ c.loop-state.invariant.size;
            filled = subst Filled (sym w.buckets-is) (filled_skipped arrows blocks c.args.block states i here c.loop-state-test.true same before c.loop-state.invariant.filled (λ e. w.if-index-block.false (read ∙ e)));
          }
    ]

pub returns-clause-buckets : goal.returns-clause-buckets
returns-clause-buckets c =
    let p = c.args.partition.now in
    let states = c.at-state-items.result.now in
    let is = c.at-state-items.ensures ∙ ap (λ members. list_at (lists_of members) c.args.block) c.deref.ensures.value in
    filled_all (lists_of c.args.arrows.now) p.blocks.items c.args.block (lists_of p.members.items) (lists_of c.loop-state.buckets.items) c.requires.listed
    (subst (λ (xs : List ℕ). AreFilled (lists_of c.args.arrows.now) p.blocks.items c.args.block xs (lists_of c.loop-state.buckets.items)) (take_all c.loop-state.state-index states c.loop-state-test.false ∙ is) c.loop-state.invariant.filled)
