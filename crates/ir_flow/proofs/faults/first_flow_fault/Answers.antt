use Rattle.std.proofs.Common.{length, refl, arith}
use Rattle.std.proofs.lemmas.Option.{slice_get_read}
use Rattle.ir_flow.proofs.AtPlace.{function_is_known}
use Rattle.ir_flow.proofs.Looked.{first_found}
use Rattle.ir_flow.proofs.Everywhere.{none_found}
use Rattle.ir_flow.proofs.faults.first_flow_fault.Goals as goal

pub look_at_function-requires-clause-around : goal.look_at_function-requires-clause-around
look_at_function-requires-clause-around c =
    let m = c.args.p.now.«module» in
    let at = c.loop-at.at in
    let f = c.index-function.result.now in
    let table = c.index-names.result.now in
    let functions = m.functions.items in
    let tables = c.args.scopes.now.functions.items in
    let many = c.requires.scopes.inside.long in
    let there = slice_get_read functions (length functions) at f refl (omega (arith, c.len-at-end.ensures)) c.index-function.ensures in
    let here = slice_get_read tables (length tables) at table refl (omega (arith, many, c.len-at-end.ensures)) c.index-names.ensures in
    let known = function_is_known m at f c.requires.known (omega (arith, c.len-at-end.ensures)) c.index-function.ensures in
    let names = c.requires.scopes.inside.each at f table there here in
    record { distinct = c.requires.scopes.outside.distinct; known = known; names = names; edges = c.in_ok-edges.ensures m.names names known }

pub look_at_function-requires-clause-here : goal.look_at_function-requires-clause-here
look_at_function-requires-clause-here c =
    let functions = c.args.p.now.«module».functions.items in
    record {
      within = refl;
      function =
          slice_get_read functions (length functions) c.loop-at.at c.index-function.result.now refl (omega (arith, c.len-at-end.ensures))
          c.index-function.ensures;
    }

pub returns-clause-first : goal.returns-clause-first
returns-clause-first c = first_found c.args.p.now c.loop-at.at c.loop-at.found (omega (arith, c.len-at-end.ensures)) c.loop-at.invariant

pub returns-clause-none : goal.returns-clause-none
returns-clause-none c = none_found c.args.p.now c.loop-at.at c.loop-at.found (omega (arith, c.len-at-end.ensures)) c.loop-at.invariant
