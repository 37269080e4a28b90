use Rattle.std.proofs.Common.{◌≡◌, ℕ, ◌+◌, List, length, map, Option, Vec, arith, sym, ◌∙◌, ap, subst}
use Rattle.std.specs.declared.alloc.Global.{Global}
use Rattle.ir_rules.specs.Faults.{IsFirst}
use Rattle.ir_repeats.specs.Given.{given_ids, IsGivenAgain}
use Rattle.ir_repeats.proofs.GivenPlaces.{IsRepeatedBelow, function_read, below_more, below_all}
use Rattle.ir_repeats.proofs.given.first_repeat.Goals as goal

pub repeat_in-requires : goal.repeat_in-requires
repeat_in-requires c =
    let read = function_read c.args.p.now c.loop-at.at c.index.result.now c.index-in-loop-at.result.now c.index-in-loop-at-2.result.now (omega arith)
    c.index.ensures c.index-in-loop-at.ensures c.index-in-loop-at-2.ensures in
    record { spotted = ap (map (λ (s : Vec ℕ Global). length s.items)) c.deref.ensures.value ∙ read.long }

pub loop-at-preserved : goal.loop-at-preserved
loop-at-preserved c =
    let f = c.index.result.now in
    let spot = c.index-in-loop-at.result.now in
    let spots = c.index-in-loop-at-2.result.now in
    let read = function_read c.args.p.now c.loop-at.at f spot spots (omega arith) c.index.ensures c.index-in-loop-at.ensures c.index-in-loop-at-2.ensures in
    let repeat = subst (λ (lines : List (Vec ℕ Global)). IsFirst (IsGivenAgain (given_ids f spot lines)) c.in_ok-repeat.repeat) c.deref.ensures.value
    c.in_ok-repeat.ensures in
    subst (λ (o : Option ℕ). IsFirst (IsRepeatedBelow c.args.p.now (c.loop-at.at + 1)) o) (sym c.first_of-first.ensures)
    (below_more c.args.p.now c.requires.known c.len-names.ensures.distinct c.loop-at.at f spot spots read c.loop-at.first c.in_ok-repeat.repeat
    c.loop-at.invariant repeat)

pub returns : goal.returns
returns c =
    let all : c.loop-at.at ≡ length c.args.p.now.«module».functions.items = omega arith in
    below_all c.args.p.now c.loop-at.first (subst (λ (n : ℕ). IsFirst (IsRepeatedBelow c.args.p.now n) c.loop-at.first) all c.loop-at.invariant)
