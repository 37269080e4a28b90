-- Chains with more links.
use Rattle.std.proofs.Common.{◌≡◌, ℕ, zero, suc, ◌+◌, ◌-◌, ◌^◌, ◌<◌, ◌≤◌, List, [], ◌∷◌, map, length, get_or, take, refl, sym, ap, ap₂, ◌∙◌, subst, arith}
use Rattle.std.specs.List.{AllByRecursion, range_with_len, sum_by}
use Rattle.std.proofs.lemmas.List.{take_more, take_all}
use Rattle.std.proofs.lemmas.List.Sums.{sum_by-append}
use Rattle.std.proofs.lemmas.List.FromFn.{sum_by-map-range_with_len_more}
use Rattle.use_chain.specs.Links.{link_at}
use Rattle.use_chain.specs.Lists.{members, IsUse, IsListOf, AreLists}
use Rattle.use_chain.specs.Kept.{total, use_at_link, list_uses, chain_of, IsKept}
use Rattle.use_chain.specs.Uses.{Use}
use Rattle.use_chain.specs.declared.link.Link.{Link}
use Rattle.use_chain.proofs.Elements.{all_weaker}
use Rattle.use_chain.proofs.Chains.{chain_kept}
use Rattle.use_chain.proofs.Moves.{member_is}
use Rattle.use_chain.proofs.Values.{lists_by, uses_at, length-lists, length-list_uses}

sums : (f : ℕ → List Use) (counts : List ℕ) → ((v : ℕ) → length (f v) ≡ get_or counts v 0) → (m : ℕ) → m ≤ length counts
    → sum_by length (map f (range_with_len 0 m)) ≡ sum_by (λ n. n) (take m counts)
sums f counts lengths zero h = refl
sums f counts lengths (suc m) h =
    let one : m + 1 ≡ suc m = omega arith in
    let before : sum_by length (map f (range_with_len 0 m)) ≡ sum_by (λ n. n) (take m counts) = sums f counts lengths m (omega arith) in
    let more = sum_by-map-range_with_len_more length f 0 m m (omega arith) in
    let taken = ap (sum_by (λ (n : ℕ). n)) (take_more counts m 0 (omega arith)) in
    let parts = sum_by-append (λ (n : ℕ). n) (take m counts) (get_or counts m 0 ∷ []) in
    let here = lengths m in
    subst (λ z. sum_by length (map f (range_with_len 0 z)) ≡ sum_by (λ n. n) (take z counts)) one (omega arith)

-- the uses and the free links are all
pub live_total : (links : List Link) (counts : List ℕ) → 0 < length counts
    → sum_by length (chain_of links counts).lists + get_or counts (length counts - 1) 0 ≡ total counts
live_total links counts some =
    let last = length counts - 1 in
    let live : sum_by length (map (list_uses links counts) (range_with_len 0 last)) ≡ sum_by (λ n. n) (take last counts) =
    sums (list_uses links counts) counts (length-list_uses links counts) last (omega arith) in
    let taken = ap (sum_by (λ (n : ℕ). n)) (take_more counts last 0 (omega arith)) in
    let parts = sum_by-append (λ (n : ℕ). n) (take last counts) (get_or counts last 0 ∷ []) in
    let whole = ap (sum_by (λ (n : ℕ). n)) (take_all (last + 1) counts (omega arith)) in
    omega arith

module _ (links grown : List Link) (counts : List ℕ) (are : AreLists links counts (length links)) (long : length links ≤ length grown)
    (same : (j : ℕ) → j < length links → link_at grown j ≡ link_at links j) where
  list_grown : (v : ℕ) → v < length counts → IsListOf grown (get_or counts v 0) (length counts) (length links) v (members links counts v)
  list_grown v h =
      let l = are.lists v h in
      let ks = members links counts v in
      let room = are.room in
      let below : AllByRecursion (λ j. j < length links) (v ∷ ks) =
      (omega arith, all_weaker (IsUse links (length counts) (length links) v) (λ j. j < length links) (λ j u. u.below) ks l.uses) in
      record {
        ring = chain_kept links grown v ks v l.ring
            (all_weaker (λ j. j < length links) (λ j. (link_at grown j).next ≡ (link_at links j).next) (λ j b. ap (λ z. z.next) (same j b)) (v ∷ ks) below)
            (all_weaker (λ j. j < length links) (λ j. (link_at grown j).prev ≡ (link_at links j).prev) (λ j b. ap (λ z. z.prev) (same j b)) ks below.1)
            (ap (λ z. z.prev) (same v below.0));
        uses = all_weaker (IsUse links (length counts) (length links) v) (IsUse grown (length counts) (length links) v)
            (λ j u. record { above = u.above; below = u.below; home = ap (λ z. z.list) (same j u.below) ∙ u.home }) ks l.uses;
        apart = l.apart;
        counted = l.counted;
      }

  pub members_grown : (v : ℕ) → v < length counts → members grown counts v ≡ members links counts v
  members_grown v h = member_is grown counts (length counts) (length links) v (members links counts v) (list_grown v h)

  pub lists_grown : AreLists grown counts (length links)
  lists_grown = record {
    lists = λ v h. subst (λ ks. IsListOf grown (get_or counts v 0) (length counts) (length links) v ks) (sym (members_grown v h)) (list_grown v h);
    heads = λ v h. let room = are.room in ap (λ z. z.list) (same v (omega arith)) ∙ are.heads v h;
    room = are.room;
    within = long;
  }

uses_same : (links new : List Link) (n : ℕ) (ks : List ℕ) → AllByRecursion (λ j. j < length links) ks
    → ((j : ℕ) → j < length links → (link_at new j).at ≡ (link_at links j).at) → map (use_at_link new n) ks ≡ map (use_at_link links n) ks
uses_same links new n [] all same = refl
uses_same links new n (j ∷ js) all same =
    ap₂ (λ a us. record { site = j - n; at = a } ∷ us) (same j all.0) (uses_same links new n js all.1 same)

-- what came of a chain where there are more links and those were put into the list of the free ones
pub record Freed (links grown : List Link) (counts : List ℕ) (new : List Link) (now : List ℕ) : Type 0 where
  pub long : length links ≤ length grown
  pub same : (j : ℕ) → j < length links → link_at grown j ≡ link_at links j
  pub heads : length now ≡ length counts
  pub size : length new ≡ length grown
  pub lists : AreLists new now (length new)
  pub all : length new ≡ length now + total now
  pub others : (v : ℕ) → v + 1 < length counts → members new now v ≡ members grown counts v
  pub uses : (j : ℕ) → j < length links → (link_at new j).at ≡ (link_at grown j).at
  pub free : get_or now (length counts - 1) 0 + length links ≡ get_or counts (length counts - 1) 0 + length new

module _ (links grown : List Link) (counts : List ℕ) (new : List Link) (now : List ℕ) (kept : IsKept links counts) (f : Freed links grown counts new now) where
  freed : (v : ℕ) → v < length counts - 1 → list_uses new now v ≡ list_uses links counts v
  freed v h =
      let in_all : v < length counts = omega arith in
      ap₂ (λ z ks. map (use_at_link new z) ks) f.heads (f.others v (omega arith) ∙ members_grown links grown counts kept.lists f.long f.same v in_all)
      ∙ uses_same links new (length counts) (members links counts v)
      (all_weaker (IsUse links (length counts) (length links) v) (λ j. j < length links) (λ j u. u.below) (members links counts v) (kept.lists.lists
      v in_all).uses)
      (λ j b. f.uses j b ∙ ap (λ z. z.at) (f.same j b))

  pub lists_freed : (chain_of new now).lists ≡ (chain_of links counts).lists
  lists_freed =
      lists_by new now (length counts - 1) (chain_of links counts).lists (ap (λ z. z - 1) f.heads) (length-lists links counts)
      (λ v h. uses_at links counts v h ∙ sym (freed v h))

  pub kept_freed : (more : ℕ) → sum_by length (chain_of links counts).lists + more < 2 ^ 32
      → length grown ≡ length links + (more - get_or counts (length counts - 1) 0) → get_or counts (length counts - 1) 0 < more → IsKept new now
  kept_freed more few long less =
      let live = live_total links counts kept.some in
      let before = kept.all in
      let after = f.all in
      let heads = f.heads in
      let size = f.size in
      let some = kept.some in
      record { lists = f.lists; all = f.all; some = omega arith; few = omega arith }

  pub spare_freed : (more : ℕ) → length grown ≡ length links + (more - get_or counts (length counts - 1) 0) → get_or counts (length counts - 1) 0 < more
      → more ≤ get_or now (length now - 1) 0
  spare_freed more long less =
      let free = f.free in
      let size = f.size in
      subst (λ z. more ≤ get_or now (z - 1) 0) (sym f.heads) (omega arith)
