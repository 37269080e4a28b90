use Rattle.std.proofs.Common.{length, refl, arith}
use Rattle.std.proofs.lemmas.Option.{slice_get_read}
use Rattle.ir_types.specs.Looks.{IsInFunction}
use Rattle.ir_types.proofs.Looking.{below_none, below_more}
use Rattle.ir_types.proofs.EachInst.{functions_all, function_is_known}
use Rattle.ir_types.proofs.instructions.first_of_instructions.Goals as goal

pub loop-at-init : goal.loop-at-init
loop-at-init c = below_none c.args.p.now _

pub first_of_function-requires : goal.first_of_function-requires
first_of_function-requires c =
    let p = c.args.p.now in
    let at = c.loop-at.at in
    let functions = p.«module».functions.items in
    let tables = c.args.scopes.now.functions.items in
    let many = c.requires.scopes.inside.long in
    let there = slice_get_read functions (length functions) at c.index.result.now refl (omega arith) c.index.ensures in
    let table = slice_get_read tables (length tables) at c.index-in-loop-at.result.now refl (omega arith) c.index-in-loop-at.ensures in
    record {
      around = record {
        module_names = c.requires.known;
        function_names = function_is_known p.«module» at c.index.result.now c.requires.known (omega arith) c.index.ensures;
        types = c.requires.tables;
        names = c.requires.scopes.outside;
        values = c.requires.scopes.inside.each at c.index.result.now c.index-in-loop-at.result.now there table;
      };
      here = record { within = refl; function = there };
    }

pub loop-at-preserved : goal.loop-at-preserved
loop-at-preserved c =
    below_more c.args.p.now IsInFunction c.loop-at.at c.loop-at.found c.in_ok-first_of_function.field-0 c.first_of-found.result
    c.first_of-found.ensures c.loop-at.invariant c.in_ok-first_of_function.ensures

pub returns : goal.returns
returns c = functions_all c.args.p.now c.loop-at.at c.loop-at.found (omega arith) c.loop-at.invariant
