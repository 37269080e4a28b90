use Rattle.std.proofs.Common.{◌≡◌, ◌∙◌, Option, Some, None, ap, arith, rules}
use Rattle.std.proofs.lemmas.Option.{slice_get-get_or}
use Rattle.ir_repeats.proofs.Firsts.{first_with}
use Rattle.ir_repeats.proofs.Clashing.{clashes_there, fine_there, first_is, share_first, unshare_first}
use Rattle.ir_repeats.proofs.clashes.clash_of.Goals as goal

pub bounds-entries-first : goal.bounds-entries-first
bounds-entries-first c =
    first_is c.args.entries.now c.args.firsts.now c.args.entry c.in-Some.first c.requires.firsts c.requires.among
    (slice_get-get_or c.args.firsts.now c.args.entry.name.0 None c.requires.below ∙ ap Some c.in-Some.is)

pub offset_bounds-entries-first : goal.offset_bounds-entries-first
offset_bounds-entries-first c =
    let inside = bounds-entries-first c in
    grind (arith, inside)

pub returns-in-None-clause-fine : goal.returns-in-None-clause-fine
returns-in-None-clause-fine c =
    let w = first_with c.args.entries.now c.args.firsts.now c.args.entry None c.requires.firsts c.requires.among
    (slice_get-get_or c.args.firsts.now c.args.entry.name.0 None c.requires.below ∙ ap Some c.in-None.is) in
    let no : ◌≡◌ {A = Option _} None (Some w.i) = w.is in
    cc

pub returns-then-may_share-clause-fine : goal.returns-then-may_share-clause-fine
returns-then-may_share-clause-fine c =
    let got = slice_get-get_or c.args.firsts.now c.args.entry.name.0 None c.requires.below ∙ ap Some c.in-Some.is in
    let w = first_with c.args.entries.now c.args.firsts.now c.args.entry (Some c.in-Some.first) c.requires.firsts c.requires.among got in
    let shares = (rw c.if-may_share.true at c.may_share.ensures).0 (search rules) in
    fine_there c.args.m.now c.args.entries.now c.args.firsts.now c.args.entry (Some c.in-Some.first) w
    (share_first c.args.m.now c.args.entries.now c.args.firsts.now c.args.entry c.in-Some.first w _ shares)

pub returns-else-may_share-clause-clash : goal.returns-else-may_share-clause-clash
returns-else-may_share-clause-clash c =
    let got = slice_get-get_or c.args.firsts.now c.args.entry.name.0 None c.requires.below ∙ ap Some c.in-Some.is in
    let w = first_with c.args.entries.now c.args.firsts.now c.args.entry (Some c.in-Some.first) c.requires.firsts c.requires.among got in
    let told = rw c.if-may_share.false at c.may_share.ensures in
    clashes_there c.args.m.now c.args.entries.now c.args.firsts.now c.args.entry (Some c.in-Some.first) c.requires.among w
    (λ shares. let wrong = told.1 (unshare_first c.args.m.now c.args.entries.now c.args.firsts.now c.args.entry c.in-Some.first w _ shares) in absurd (search rules))
