use Rattle.std.proofs.Common.{◌≡◌, ◌+◌, Some, sym, subst, arith}
use Rattle.std.specs.declared.alloc.Global.{Global}
use Rattle.std.specs.declared.vec.Vec.{Vec}
use Rattle.hz_pipeline_model.specs.Tables.Tables.{entry}
use Rattle.hz_minim.specs.declared.arrows.Arrow.{Arrow}
use Rattle.hz_minim.specs.Arrows.{HasRead}
use Rattle.hz_minim.specs.Lists.{lists_of}
use Rattle.hz_minim.proofs.ArrowLaws.{read_more, read_row, read_skipped}
use Rattle.hz_minim.proofs.arrows.add_row.Goals as goal
use Rattle.hz_minim.proofs.arrows.add_row.Goals.{in-Some+in_ok-add-in-Some, in-None}

pub loop-column-preserved : goal.loop-column-preserved
loop-column-preserved c =
    let table = c.args.plain.now.rows in
    let Read = λ (v : Vec (Vec Arrow Global) Global). HasRead table c.args.state (c.loop-column.column + 1) (lists_of v.items) in
    elim c.match-step.branch [
      | in-Some+in_ok-add-in-Some w ↦
          let there : entry table c.args.state c.loop-column.column ≡ Some w.in-Some.target = sym w.in-Some.ensures in
          subst Read (sym w.arrows-is)
          (subst (HasRead table c.args.state (c.loop-column.column + 1)) (sym w.in_ok-add-in-Some.ensures)
          (read_more table c.args.state c.loop-column.column (lists_of c.loop-column.arrows.items) c.loop-column.invariant w.in-Some.target (c.requires.table.targets c.args.state c.loop-column.column w.in-Some.target there) there))
      | in-None w ↦ subst Read (sym w.arrows-is) (read_skipped table c.args.state c.loop-column.column (lists_of c.loop-column.arrows.items) c.loop-column.invariant (sym w.in-None.ensures))
    ]

pub returns : goal.returns
returns c =
    let all : c.loop-column.column ≡ c.args.plain.now.columns + 1 = omega (arith, c.columns-column-end.ensures.columns) in
    read_row c.args.plain.now.rows c.args.plain.now.columns c.args.state (lists_of c.loop-column.arrows.items) c.requires.table
    (subst (λ n. HasRead c.args.plain.now.rows c.args.state n (lists_of c.loop-column.arrows.items)) all c.loop-column.invariant)
