use Rattle.hz_timed.proofs.WordLemmas.{memory_word, memory_registers, memory_cells, unary_holds, unary_registers, unary_cells, binary_holds, binary_registers, binary_cells, choice_of_zero, choice_of_more, choice_registers, choice_cells}
use Rattle.hz_timed.proofs.evaluating.+word_of.Goals as goal

pub returns-in_ok-push-in-Mem-clause-word : goal.returns-in_ok-push-in-Mem-clause-word
returns-in_ok-push-in-Mem-clause-word g t c = memory_word c.args.from.now c.in-Mem.address c.deref.result.now c.in-Mem.is c.deref.ensures (g.S.Sight.seen c.args.sight.now) c.in_ok-cell-in-Mem.cell c.word-in-Mem.result c.word-in-Mem.ensures c.in_ok-cell-in-Mem.ensures.word

pub returns-in_ok-push-in-Mem-clause-registers : goal.returns-in_ok-push-in-Mem-clause-registers
returns-in_ok-push-in-Mem-clause-registers g t c = memory_registers c.args.from.now c.in-Mem.address c.deref.result.now c.in-Mem.is c.deref.ensures c.args.asked.now.registers.items c.word_of.new.asked.registers.items c.in_ok-cell-in-Mem.ensures.registers

pub returns-in_ok-push-in-Mem-clause-cells : goal.returns-in_ok-push-in-Mem-clause-cells
returns-in_ok-push-in-Mem-clause-cells g t c = memory_cells c.args.from.now c.in-Mem.address c.deref.result.now c.in-Mem.is c.deref.ensures (g.S.Sight.seen c.args.sight.now) c.args.asked.now.cells.items c.word_of.new.asked.cells.items c.push-in-Mem.new.self.items c.in_ok-cell-in-Mem.cell c.in_ok-cell-in-Mem.ensures.cells c.in_ok-push-in-Mem.ensures.items c.in_ok-cell-in-Mem.ensures.word

pub returns-in_ok-word-in-Unary-clause-word : goal.returns-in_ok-word-in-Unary-clause-word
returns-in_ok-word-in-Unary-clause-word g t c = unary_holds c.args.from.now c.in-Unary.operator c.in-Unary.operand c.deref-in-Unary.result.now c.in-Unary.is c.deref-in-Unary.ensures (g.S.Sight.seen c.args.sight.now) c.in_ok-word-in-Unary.word c.unary_word.result c.unary_word.ensures c.in_ok-word-in-Unary.ensures.word

pub returns-in_ok-word-in-Unary-clause-registers : goal.returns-in_ok-word-in-Unary-clause-registers
returns-in_ok-word-in-Unary-clause-registers g t c = unary_registers c.args.from.now c.in-Unary.operator c.in-Unary.operand c.deref-in-Unary.result.now c.in-Unary.is c.deref-in-Unary.ensures c.args.asked.now.registers.items c.word_of-in-Unary.new.asked.registers.items c.in_ok-word-in-Unary.ensures.registers

pub returns-in_ok-word-in-Unary-clause-cells : goal.returns-in_ok-word-in-Unary-clause-cells
returns-in_ok-word-in-Unary-clause-cells g t c = unary_cells c.args.from.now c.in-Unary.operator c.in-Unary.operand c.deref-in-Unary.result.now c.in-Unary.is c.deref-in-Unary.ensures (g.S.Sight.seen c.args.sight.now) c.args.asked.now.cells.items c.word_of-in-Unary.new.asked.cells.items c.in_ok-word-in-Unary.ensures.cells

pub returns-in_ok-second-in-Binary-clause-word : goal.returns-in_ok-second-in-Binary-clause-word
returns-in_ok-second-in-Binary-clause-word g t c = binary_holds c.args.from.now c.in-Binary.operator c.in-Binary.left c.in-Binary.right c.deref-in-Binary.result.now c.deref-in-Binary-2.result.now c.in-Binary.is c.deref-in-Binary.ensures c.deref-in-Binary-2.ensures (g.S.Sight.seen c.args.sight.now) c.in_ok-first-in-Binary.first c.in_ok-second-in-Binary.second c.binary_word.result c.binary_word.ensures c.in_ok-first-in-Binary.ensures.word c.in_ok-second-in-Binary.ensures.word

pub returns-in_ok-second-in-Binary-clause-registers : goal.returns-in_ok-second-in-Binary-clause-registers
returns-in_ok-second-in-Binary-clause-registers g t c = binary_registers c.args.from.now c.in-Binary.operator c.in-Binary.left c.in-Binary.right c.deref-in-Binary.result.now c.deref-in-Binary-2.result.now c.in-Binary.is c.deref-in-Binary.ensures c.deref-in-Binary-2.ensures c.args.asked.now.registers.items c.word_of-in-Binary.new.asked.registers.items c.word_of-in-Binary-2.new.asked.registers.items c.in_ok-first-in-Binary.ensures.registers c.in_ok-second-in-Binary.ensures.registers

pub returns-in_ok-second-in-Binary-clause-cells : goal.returns-in_ok-second-in-Binary-clause-cells
returns-in_ok-second-in-Binary-clause-cells g t c = binary_cells c.args.from.now c.in-Binary.operator c.in-Binary.left c.in-Binary.right c.deref-in-Binary.result.now c.deref-in-Binary-2.result.now c.in-Binary.is c.deref-in-Binary.ensures c.deref-in-Binary-2.ensures (g.S.Sight.seen c.args.sight.now) c.args.asked.now.cells.items c.word_of-in-Binary.new.asked.cells.items c.word_of-in-Binary-2.new.asked.cells.items c.in_ok-first-in-Binary.ensures.cells c.in_ok-second-in-Binary.ensures.cells

pub returns-then-test-eq0-clause-word : goal.returns-then-test-eq0-clause-word
returns-then-test-eq0-clause-word g t c = choice_of_zero c.args.from.now c.in-Choice.test c.in-Choice.first c.in-Choice.second c.deref-in-Choice.result.now c.deref-in-Choice-2.result.now c.deref-in-Choice-3.result.now c.in-Choice.is c.deref-in-Choice.ensures c.deref-in-Choice-2.ensures c.deref-in-Choice-3.ensures (g.S.Sight.seen c.args.sight.now) c.in_ok-test-in-Choice.test c.in_ok-second-in-Choice.second c.in_ok-test-in-Choice.ensures.word c.if-test-eq0.true c.in_ok-second-in-Choice.ensures.word

pub returns-then-test-eq0-clause-registers : goal.returns-then-test-eq0-clause-registers
returns-then-test-eq0-clause-registers g t c = choice_registers c.args.from.now c.in-Choice.test c.in-Choice.first c.in-Choice.second c.deref-in-Choice.result.now c.deref-in-Choice-2.result.now c.deref-in-Choice-3.result.now c.in-Choice.is c.deref-in-Choice.ensures c.deref-in-Choice-2.ensures c.deref-in-Choice-3.ensures c.args.asked.now.registers.items c.word_of-in-Choice.new.asked.registers.items c.word_of-in-Choice-2.new.asked.registers.items c.word_of-in-Choice-3.new.asked.registers.items c.in_ok-test-in-Choice.ensures.registers c.in_ok-first-in-Choice.ensures.registers c.in_ok-second-in-Choice.ensures.registers

pub returns-then-test-eq0-clause-cells : goal.returns-then-test-eq0-clause-cells
returns-then-test-eq0-clause-cells g t c = choice_cells c.args.from.now c.in-Choice.test c.in-Choice.first c.in-Choice.second c.deref-in-Choice.result.now c.deref-in-Choice-2.result.now c.deref-in-Choice-3.result.now c.in-Choice.is c.deref-in-Choice.ensures c.deref-in-Choice-2.ensures c.deref-in-Choice-3.ensures (g.S.Sight.seen c.args.sight.now) c.args.asked.now.cells.items c.word_of-in-Choice.new.asked.cells.items c.word_of-in-Choice-2.new.asked.cells.items c.word_of-in-Choice-3.new.asked.cells.items c.in_ok-test-in-Choice.ensures.cells c.in_ok-first-in-Choice.ensures.cells c.in_ok-second-in-Choice.ensures.cells

pub returns-else-test-eq0-clause-word : goal.returns-else-test-eq0-clause-word
returns-else-test-eq0-clause-word g t c = choice_of_more c.args.from.now c.in-Choice.test c.in-Choice.first c.in-Choice.second c.deref-in-Choice.result.now c.deref-in-Choice-2.result.now c.deref-in-Choice-3.result.now c.in-Choice.is c.deref-in-Choice.ensures c.deref-in-Choice-2.ensures c.deref-in-Choice-3.ensures (g.S.Sight.seen c.args.sight.now) c.in_ok-test-in-Choice.test c.in_ok-first-in-Choice.first c.in_ok-test-in-Choice.ensures.word c.if-test-eq0.false c.in_ok-first-in-Choice.ensures.word

pub returns-else-test-eq0-clause-registers : goal.returns-else-test-eq0-clause-registers
returns-else-test-eq0-clause-registers g t c = choice_registers c.args.from.now c.in-Choice.test c.in-Choice.first c.in-Choice.second c.deref-in-Choice.result.now c.deref-in-Choice-2.result.now c.deref-in-Choice-3.result.now c.in-Choice.is c.deref-in-Choice.ensures c.deref-in-Choice-2.ensures c.deref-in-Choice-3.ensures c.args.asked.now.registers.items c.word_of-in-Choice.new.asked.registers.items c.word_of-in-Choice-2.new.asked.registers.items c.word_of-in-Choice-3.new.asked.registers.items c.in_ok-test-in-Choice.ensures.registers c.in_ok-first-in-Choice.ensures.registers c.in_ok-second-in-Choice.ensures.registers

pub returns-else-test-eq0-clause-cells : goal.returns-else-test-eq0-clause-cells
returns-else-test-eq0-clause-cells g t c = choice_cells c.args.from.now c.in-Choice.test c.in-Choice.first c.in-Choice.second c.deref-in-Choice.result.now c.deref-in-Choice-2.result.now c.deref-in-Choice-3.result.now c.in-Choice.is c.deref-in-Choice.ensures c.deref-in-Choice-2.ensures c.deref-in-Choice-3.ensures (g.S.Sight.seen c.args.sight.now) c.args.asked.now.cells.items c.word_of-in-Choice.new.asked.cells.items c.word_of-in-Choice-2.new.asked.cells.items c.word_of-in-Choice-3.new.asked.cells.items c.in_ok-test-in-Choice.ensures.cells c.in_ok-first-in-Choice.ensures.cells c.in_ok-second-in-Choice.ensures.cells
