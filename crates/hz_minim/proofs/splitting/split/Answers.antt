use Rattle.std.proofs.Common.{length, ap, arith}
use Rattle.hz_minim.specs.Lists.{lists_of}
use Rattle.hz_minim.specs.Moves.{goes_to}
use Rattle.hz_minim.proofs.ApartLaws.{moved_apart}
use Rattle.hz_minim.proofs.MoveLaws.{listed_same}
use Rattle.hz_minim.proofs.splitting.split.Goals as goal

pub count_all-requires : goal.count_all-requires
count_all-requires c = λ state h. let below = c.requires.states state h in omega (arith, ap length c.deref.ensures.value)

pub move_all-requires-clause-listed : goal.move_all-requires-clause-listed
move_all-requires-clause-listed c =
    listed_same c.args.partition.now.blocks.items (lists_of c.args.partition.now.members.items) (lists_of c.grow.new.lists.items) c.in_ok-grow.ensures.same c.requires.kept.listed

pub returns-clause-kept : goal.returns-clause-kept
returns-clause-kept c = record {
  each = c.in_ok-move_all.ensures.moved.each;
  listed = c.in_ok-move_all.ensures.listed;
  marked = omega (arith, c.in_ok-move_all.ensures.members, c.in_ok-grow.ensures.size, c.len.ensures);
  few = c.in_ok-settle_all.ensures.few;
}

pub returns-clause-apart : goal.returns-clause-apart
returns-clause-apart c = λ table separate keeps.
    moved_apart table (goes_to c.deref-2.result.now c.len-old.result) c.args.states.now c.args.partition.now.blocks.items c.move_all.new.self.blocks.items separate keeps c.in_ok-move_all.ensures.moved
