use Rattle.std.proofs.Common.{◌≡◌, ℕ, ◌<◌, List, length, get_or, set, sym, subst, arith, vec_len}
use Rattle.std.proofs.lemmas.List.{get_or_read}
use Rattle.hz_pipeline_model.specs.Least.Blocks.{block_of}
use Rattle.hz_minim.specs.declared.marks.Mark.{Mark}
use Rattle.hz_minim.specs.declared.partition.Partition.{Partition}
use Rattle.hz_minim.specs.Lists.{lists_of}
use Rattle.hz_minim.specs.Moves.{IsListed}
use Rattle.hz_minim.proofs.ApartLaws.{block_within}
use Rattle.hz_minim.proofs.ListLaws.{length-lists_of}
use Rattle.hz_minim.proofs.MoveLaws.{goes_within, listed_moved}
use Rattle.hz_minim.proofs.partition.Partition.move_one.Goals as goal

-- a state's block has a mark
below : (p : Partition) (marks : List Mark) (state block : ℕ) → IsListed p.blocks.items (lists_of p.members.items) → length marks ≡ vec_len p.members → state < length p.blocks.items → block ≡ get_or p.blocks.items state block → block < length marks
below p marks state block listed marked within e =
    let read : block ≡ block_of p.blocks.items state = get_or_read p.blocks.items state block within e 0 in
    let there = block_within p.blocks.items (lists_of p.members.items) listed state within in
    omega (arith, length-lists_of p.members.items, p.members.ok.0)

pub target-to-requires : goal.target-to-requires
target-to-requires c = below c.args.self.now c.args.marks.now c.args.state c.index-block.result.now c.requires.listed c.requires.marks c.requires.state c.index-block.ensures

pub returns-clause-listed : goal.returns-clause-listed
returns-clause-listed c =
    let blocks = c.args.self.now.blocks.items in
    let members = c.args.self.now.members in
    let inside = below c.args.self.now c.args.marks.now c.args.state c.index-block.result.now c.requires.listed c.requires.marks c.requires.state c.index-block.ensures in
    let goes : c.target-to.result < length c.args.marks.now = subst (λ n. n < length c.args.marks.now) (sym c.target-to.ensures) (goes_within c.args.marks.now c.args.old c.index-block.result.now inside) in
    subst (IsListed (set blocks c.args.state c.target-to.result)) (sym c.in_ok-add.ensures)
    (listed_moved blocks (lists_of members.items) c.args.state c.target-to.result c.requires.state (omega (arith, length-lists_of members.items, members.ok.0, c.requires.marks)) c.requires.listed)
