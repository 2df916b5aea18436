use Rattle.std.proofs.Common.{arith}
use Rattle.hz_bound.proofs.PathLemmas.{view_leads, path_made}
use Rattle.hz_bound.proofs.bounding.path_of.Goals as goal

pub tails_of-requires-clause-upward : goal.tails_of-requires-clause-upward
tails_of-requires-clause-upward c =
    view_leads c.args.graph.now c.deref.result.now c.in_ok-rows.rows.items c.len.result c.deref.ensures.value c.in_ok-rows.ensures.rows c.in_ok-rows.ensures.size (omega (arith, c.len.ensures, c.args.graph.now.insns.ok.0)) c.requires.edges
    c.deref-2.result.now c.deref-2.ensures.value

pub chain_of-requires-clause-upward : goal.chain_of-requires-clause-upward
chain_of-requires-clause-upward c =
    view_leads c.args.graph.now c.deref.result.now c.in_ok-rows.rows.items c.len.result c.deref.ensures.value c.in_ok-rows.ensures.rows c.in_ok-rows.ensures.size (omega (arith, c.len.ensures, c.args.graph.now.insns.ok.0)) c.requires.edges
    c.deref-3.result.now c.deref-3.ensures.value

pub returns : goal.returns
returns c =
    path_made c.args.graph.now c.deref.result.now c.in_ok-rows.rows.items c.len.result c.deref.ensures.value c.in_ok-rows.ensures.rows c.in_ok-rows.ensures.size (omega (arith, c.len.ensures, c.args.graph.now.insns.ok.0)) c.requires.edges
    c.deref-2.result.now c.deref-3.result.now c.in_ok-tails.tails.items c.deref-4.result.now c.deref-5.result.now c.in_ok-chain.chain.items c.greatest_of.result
    c.deref-2.ensures.value c.deref-3.ensures.value c.deref-4.ensures.value c.deref-5.ensures.value c.in_ok-tails.ensures c.in_ok-chain.ensures c.greatest_of.ensures
