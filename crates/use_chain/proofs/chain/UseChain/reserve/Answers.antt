use Rattle.std.proofs.Common.{◌≡◌, ℕ, ◌+◌, ◌-◌, ◌^◌, ◌<◌, ◌≤◌, ◌++◌, length, get_or, take, drop, arith, sym, ap, ap₂, ◌∙◌, subst}
use Rattle.std.specs.List.{sum_by}
use Rattle.std.proofs.lemmas.List.{get_or_default, take_at}
use Rattle.use_chain.specs.Links.{no_link, link_at}
use Rattle.use_chain.specs.Lists.{AreLists, members}
use Rattle.use_chain.proofs.Grown.{lists_grown, Freed, lists_freed, kept_freed, spare_freed}
use Rattle.use_chain.proofs.chain.UseChain.reserve.Goals as goal

pub free_links-requires-clause-lists : goal.free_links-requires-clause-lists
free_links-requires-clause-lists c =
    let i = c.self.inside in
    let links = i.links.items in
    let counts = i.counts.items in
    let kept = c.self.invariant in
    let some = kept.some in
    let grown = c.resize.new.self.items in
    let start : c.len-start.result ≡ length links = omega (arith, c.len-start.ensures, i.links.ok.0) in
    let many : c.len.result ≡ length counts = omega (arith, c.len.ensures, i.counts.ok.0) in
    let spare : c.index-spare.result.now ≡ get_or counts (length counts - 1) 0 =
    c.index-spare.ensures ∙ get_or_default counts (c.len.result - 1) c.index-spare.result.now 0 (omega arith) ∙ ap (λ z. get_or counts (z - 1) 0) many in
    let less = c.if-more-spare.false in
    let wide : length grown ≡ c.len-start.result + (c.args.more - c.index-spare.result.now) = omega (
      arith,
      c.in_ok-resize.ensures.len,
      c.resize.new.self.ok.0,
    ) in
    let long : length links ≤ length grown = omega arith in
    let same : (j : ℕ) → j < length links → link_at grown j ≡ link_at links j =
    λ j h. c.in_ok-resize.ensures.by_index.0 j no_link (omega arith) (omega (arith, h, i.links.ok.0)) in
    let had = c.deref_mut-2.result.now in
    subst (λ d. AreLists d had c.len-start.result) (sym c.deref_mut.ensures.value)
    (subst (λ d. AreLists grown d c.len-start.result) (sym c.deref_mut-2.ensures.value)
    (subst (λ z. AreLists grown counts z) (sym start) (lists_grown links grown counts kept.lists long same)))

pub invariant_of-self-2 : goal.invariant_of-self-2
invariant_of-self-2 c =
    let i = c.self.inside in
    let links = i.links.items in
    let counts = i.counts.items in
    let kept = c.self.invariant in
    let some = kept.some in
    let grown = c.resize.new.self.items in
    let start : c.len-start.result ≡ length links = omega (arith, c.len-start.ensures, i.links.ok.0) in
    let many : c.len.result ≡ length counts = omega (arith, c.len.ensures, i.counts.ok.0) in
    let spare : c.index-spare.result.now ≡ get_or counts (length counts - 1) 0 =
    c.index-spare.ensures ∙ get_or_default counts (c.len.result - 1) c.index-spare.result.now 0 (omega arith) ∙ ap (λ z. get_or counts (z - 1) 0) many in
    let less = c.if-more-spare.false in
    let wide : length grown ≡ c.len-start.result + (c.args.more - c.index-spare.result.now) = omega (
      arith,
      c.in_ok-resize.ensures.len,
      c.resize.new.self.ok.0,
    ) in
    let long : length links ≤ length grown = omega arith in
    let same : (j : ℕ) → j < length links → link_at grown j ≡ link_at links j =
    λ j h. c.in_ok-resize.ensures.by_index.0 j no_link (omega arith) (omega (arith, h, i.links.ok.0)) in
    let new = c.free_links.new.links in
    let now = c.free_links.new.counts in
    let e = c.free_links.ensures in
    let first = c.deref_mut.ensures.value in
    let second = c.deref_mut-2.ensures.value in
    let had = c.deref_mut-2.result.now in
    let gained : get_or now (length had - 1) 0 + length links ≡ get_or had (length had - 1) 0 + length new = let f = e.free in omega arith in
    let freed : Freed links grown counts new now = record {
      long = long;
      same = same;
      heads = c.free_links.auto.counts ∙ ap length second;
      size = c.free_links.auto.links ∙ ap length first;
      lists = e.lists;
      all = e.total;
      others = λ v h. e.members v (subst (λ z. v + 1 < length z) (sym second) h) ∙ ap₂ (λ d z. members d z v) first second;
      uses = λ j h. e.uses j (omega arith) ∙ ap (λ d. (link_at d j).at) first;
      free = subst (λ z. get_or now (length z - 1) 0 + length links ≡ get_or z (length z - 1) 0 + length new) second gained;
    } in
    let grows : length grown ≡ length links + (c.args.more - get_or counts (length counts - 1) 0) =
    wide ∙ ap₂ (λ x y. x + (c.args.more - y)) start spare in
    let over : get_or counts (length counts - 1) 0 < c.args.more = omega arith in
    let all : length new ≡ c.resize.new.self.len = freed.size ∙ omega (arith, c.resize.new.self.ok.0) in
    let every : length now ≡ i.counts.len = freed.heads ∙ omega (arith, i.counts.ok.0) in
    let written : take c.resize.new.self.len (new ++ drop (length new) grown) ≡ new = take_at new (drop (length new) grown) c.resize.new.self.len all in
    let counted : take i.counts.len (now ++ drop (length now) counts) ≡ now = take_at now (drop (length now) counts) i.counts.len every in
    rw (written, counted) (kept_freed links grown counts new now kept freed c.args.more
    (subst (λ ch. sum_by length ch.lists + c.args.more < 2 ^ 32) (sym c.self.view_is) c.requires) grows over)

pub returns-clause-lists : goal.returns-clause-lists
returns-clause-lists c =
    let i = c.self.inside in
    let links = i.links.items in
    let counts = i.counts.items in
    let kept = c.self.invariant in
    let some = kept.some in
    let grown = c.resize.new.self.items in
    let start : c.len-start.result ≡ length links = omega (arith, c.len-start.ensures, i.links.ok.0) in
    let many : c.len.result ≡ length counts = omega (arith, c.len.ensures, i.counts.ok.0) in
    let spare : c.index-spare.result.now ≡ get_or counts (length counts - 1) 0 =
    c.index-spare.ensures ∙ get_or_default counts (c.len.result - 1) c.index-spare.result.now 0 (omega arith) ∙ ap (λ z. get_or counts (z - 1) 0) many in
    let less = c.if-more-spare.false in
    let wide : length grown ≡ c.len-start.result + (c.args.more - c.index-spare.result.now) = omega (
      arith,
      c.in_ok-resize.ensures.len,
      c.resize.new.self.ok.0,
    ) in
    let long : length links ≤ length grown = omega arith in
    let same : (j : ℕ) → j < length links → link_at grown j ≡ link_at links j =
    λ j h. c.in_ok-resize.ensures.by_index.0 j no_link (omega arith) (omega (arith, h, i.links.ok.0)) in
    let new = c.free_links.new.links in
    let now = c.free_links.new.counts in
    let e = c.free_links.ensures in
    let first = c.deref_mut.ensures.value in
    let second = c.deref_mut-2.ensures.value in
    let had = c.deref_mut-2.result.now in
    let gained : get_or now (length had - 1) 0 + length links ≡ get_or had (length had - 1) 0 + length new = let f = e.free in omega arith in
    let freed : Freed links grown counts new now = record {
      long = long;
      same = same;
      heads = c.free_links.auto.counts ∙ ap length second;
      size = c.free_links.auto.links ∙ ap length first;
      lists = e.lists;
      all = e.total;
      others = λ v h. e.members v (subst (λ z. v + 1 < length z) (sym second) h) ∙ ap₂ (λ d z. members d z v) first second;
      uses = λ j h. e.uses j (omega arith) ∙ ap (λ d. (link_at d j).at) first;
      free = subst (λ z. get_or now (length z - 1) 0 + length links ≡ get_or z (length z - 1) 0 + length new) second gained;
    } in
    let grows : length grown ≡ length links + (c.args.more - get_or counts (length counts - 1) 0) =
    wide ∙ ap₂ (λ x y. x + (c.args.more - y)) start spare in
    let over : get_or counts (length counts - 1) 0 < c.args.more = omega arith in
    let all : length new ≡ c.resize.new.self.len = freed.size ∙ omega (arith, c.resize.new.self.ok.0) in
    let every : length now ≡ i.counts.len = freed.heads ∙ omega (arith, i.counts.ok.0) in
    let written : take c.resize.new.self.len (new ++ drop (length new) grown) ≡ new = take_at new (drop (length new) grown) c.resize.new.self.len all in
    let counted : take i.counts.len (now ++ drop (length now) counts) ≡ now = take_at now (drop (length now) counts) i.counts.len every in
    rw (written, counted) (lists_freed links grown counts new now kept freed ∙ ap (λ ch. ch.lists) c.self.view_is)

pub returns-clause-spare : goal.returns-clause-spare
returns-clause-spare c =
    let i = c.self.inside in
    let links = i.links.items in
    let counts = i.counts.items in
    let kept = c.self.invariant in
    let some = kept.some in
    let grown = c.resize.new.self.items in
    let start : c.len-start.result ≡ length links = omega (arith, c.len-start.ensures, i.links.ok.0) in
    let many : c.len.result ≡ length counts = omega (arith, c.len.ensures, i.counts.ok.0) in
    let spare : c.index-spare.result.now ≡ get_or counts (length counts - 1) 0 =
    c.index-spare.ensures ∙ get_or_default counts (c.len.result - 1) c.index-spare.result.now 0 (omega arith) ∙ ap (λ z. get_or counts (z - 1) 0) many in
    let less = c.if-more-spare.false in
    let wide : length grown ≡ c.len-start.result + (c.args.more - c.index-spare.result.now) = omega (
      arith,
      c.in_ok-resize.ensures.len,
      c.resize.new.self.ok.0,
    ) in
    let long : length links ≤ length grown = omega arith in
    let same : (j : ℕ) → j < length links → link_at grown j ≡ link_at links j =
    λ j h. c.in_ok-resize.ensures.by_index.0 j no_link (omega arith) (omega (arith, h, i.links.ok.0)) in
    let new = c.free_links.new.links in
    let now = c.free_links.new.counts in
    let e = c.free_links.ensures in
    let first = c.deref_mut.ensures.value in
    let second = c.deref_mut-2.ensures.value in
    let had = c.deref_mut-2.result.now in
    let gained : get_or now (length had - 1) 0 + length links ≡ get_or had (length had - 1) 0 + length new = let f = e.free in omega arith in
    let freed : Freed links grown counts new now = record {
      long = long;
      same = same;
      heads = c.free_links.auto.counts ∙ ap length second;
      size = c.free_links.auto.links ∙ ap length first;
      lists = e.lists;
      all = e.total;
      others = λ v h. e.members v (subst (λ z. v + 1 < length z) (sym second) h) ∙ ap₂ (λ d z. members d z v) first second;
      uses = λ j h. e.uses j (omega arith) ∙ ap (λ d. (link_at d j).at) first;
      free = subst (λ z. get_or now (length z - 1) 0 + length links ≡ get_or z (length z - 1) 0 + length new) second gained;
    } in
    let grows : length grown ≡ length links + (c.args.more - get_or counts (length counts - 1) 0) =
    wide ∙ ap₂ (λ x y. x + (c.args.more - y)) start spare in
    let over : get_or counts (length counts - 1) 0 < c.args.more = omega arith in
    let all : length new ≡ c.resize.new.self.len = freed.size ∙ omega (arith, c.resize.new.self.ok.0) in
    let every : length now ≡ i.counts.len = freed.heads ∙ omega (arith, i.counts.ok.0) in
    let written : take c.resize.new.self.len (new ++ drop (length new) grown) ≡ new = take_at new (drop (length new) grown) c.resize.new.self.len all in
    let counted : take i.counts.len (now ++ drop (length now) counts) ≡ now = take_at now (drop (length now) counts) i.counts.len every in
    rw counted (spare_freed links grown counts new now kept freed c.args.more grows over)
