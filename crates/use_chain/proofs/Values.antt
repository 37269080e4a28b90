-- What is seen of a chain, by its links.
use Rattle.std.proofs.Common.{◌≡◌, ◌≢◌, ℕ, zero, suc, ◌+◌, ◌-◌, ◌<◌, ◌≤◌, Bool, true, false, not, cond, eqb, List, [], ◌∷◌, ◌++◌, map, length, get_or, refl, sym, ap, ap₂, ◌∙◌, subst, arith, get_or-set_same, get_or-set_other, length-set, length-append, inl, inr, Some, None, slice_get, option_map}
use Rattle.std.specs.List.{AllByRecursion, Contains}
use Rattle.std.proofs.lemmas.List.{length-map, map-append, get_or_default, get_or_past}
use Rattle.std.proofs.lemmas.List.FromFn.{length-map-range_with_len, get_or-map-range_with_len, fill_by_all}
use Rattle.std.proofs.lemmas.Option.{slice_get-map, slice_get-get_or, slice_get_past}
use Rattle.std.proofs.lemmas.Bool.{cases_eq, cases_lt}
use Rattle.std.proofs.lemmas.Bool.Decides.{eqb_tells}
use Rattle.use_chain.specs.Links.{no_link, link_at}
use Rattle.use_chain.specs.Lists.{links_from, members, others, joined, AreApart, IsUse, AreLists}
use Rattle.use_chain.specs.Kept.{use_at_link, list_uses, chain_of, IsKept, Moved}
use Rattle.use_chain.specs.Uses.{Use, Chain, uses_of, HasUse, IsLive, without, all_without, with_use}
use Rattle.use_chain.specs.declared.link.Link.{Link}
use Rattle.use_chain.specs.declared.uses.UseAt.{UseAt}
use Rattle.use_chain.proofs.Elements.{all_weaker, all_at, split_at, others_same, others_split, others_other}
use Rattle.use_chain.proofs.Moves.{use_of_member, strange}

length-links_from : (links : List Link) (n k : ℕ) → length (links_from links n k) ≡ n
length-links_from links zero k = refl
length-links_from links (suc n) k = ap suc (length-links_from links n (link_at links k).next)

-- a list has as many links as its count says
pub length-members : (links : List Link) (counts : List ℕ) (v : ℕ) → length (members links counts v) ≡ get_or counts v 0
length-members links counts v = length-links_from links (get_or counts v 0) (link_at links v).next

pub map_at : {X Y : Type 0} (f : X → Y) (xs : List X) (i : ℕ) (d : Y) (e : X) → i < length xs → get_or (map f xs) i d ≡ f (get_or xs i e)
map_at f [] i d e h = absurd (omega arith)
map_at f (x ∷ xs) zero d e h = refl
map_at f (x ∷ xs) (suc i) d e h = map_at f xs i d e (omega arith)

pub length-lists : (links : List Link) (counts : List ℕ) → length (chain_of links counts).lists ≡ length counts - 1
length-lists links counts = length-map-range_with_len (list_uses links counts) 0 (length counts - 1)

-- the list of a value
pub uses_at : (links : List Link) (counts : List ℕ) (v : ℕ) → v < length counts - 1 → get_or (chain_of links counts).lists v [] ≡ list_uses links counts v
uses_at links counts v h = get_or-map-range_with_len (list_uses links counts) 0 (length counts - 1) v v [] h (omega arith)

pub value_in : (links : List Link) (counts : List ℕ) (chain : Chain) (v : ℕ) → chain_of links counts ≡ chain → v < length chain.lists → v < length counts - 1
value_in links counts chain v e h = subst (λ m. v < m) (length-lists links counts) (subst (λ ch. v < length ch.lists) (sym e) h)

pub uses_are : (links : List Link) (counts : List ℕ) (chain : Chain) (v : ℕ) → chain_of links counts ≡ chain → v < length counts - 1
    → uses_of chain v ≡ list_uses links counts v
uses_are links counts chain v e h = ap (λ ch. uses_of ch v) (sym e) ∙ uses_at links counts v h

pub length-list_uses : (links : List Link) (counts : List ℕ) (v : ℕ) → length (list_uses links counts v) ≡ get_or counts v 0
length-list_uses links counts v = length-map (members links counts v) (use_at_link links (length counts)) ∙ length-members links counts v

-- the link of a use
pub record Found (links : List Link) (counts : List ℕ) (v site : ℕ) (at : UseAt) : Type 0 where
  pub member : Contains (members links counts v) (length counts + site)
  pub there : (link_at links (length counts + site)).at ≡ at
  pub used : IsUse links (length counts) (length links) v (length counts + site)

pub found : (links : List Link) (counts : List ℕ) (v site : ℕ) (at : UseAt) → AreLists links counts (length links) → v < length counts
    → Contains (list_uses links counts v) (record { site = site; at = at }) → Found links counts v site at
found links counts v site at are v_in has =
    let ks = members links counts v in
    let n = length counts in
    let f = use_at_link links n in
    let h : has.0 < length ks = subst (λ m. has.0 < m) (length-map ks f) has.1 in
    let j = get_or ks has.0 (n + site) in
    let is : f j ≡ record { site = site; at = at } = sym (map_at f ks has.0 (record { site = site; at = at }) (n + site) h) ∙ has.2 in
    let one = all_at (IsUse links n (length links) v) ks has.0 (n + site) h (are.lists v v_in).uses in
    let above = one.above in
    let number : j - n ≡ site = ap (λ u. u.site) is in
    let j_is : j ≡ n + site = omega arith in
    record {
      member = (has.0, h, j_is);
      there = ap (λ z. (link_at links z).at) (sym j_is) ∙ ap (λ u. u.at) is;
      used = subst (IsUse links n (length links) v) j_is one;
    }

eqb-minus : (n j k : ℕ) → n ≤ j → n ≤ k → eqb (j - n) (k - n) ≡ eqb j k
eqb-minus n j k a b =
    elim (eqb_tells j k) [
      | inl t ↦ elim (eqb_tells (j - n) (k - n)) [ inl u ↦ u.0 ∙ sym t.0 | inr u ↦ absurd (u.1 (ap (λ z. z - n) t.1)) ]
      | inr f ↦ elim (eqb_tells (j - n) (k - n)) [ inl u ↦ (let w = u.1 in absurd (f.1 (omega arith))) | inr u ↦ u.0 ∙ sym f.0 ]
    ]

map-cond : (f : ℕ → Use) (b : Bool) (j : ℕ) (js : List ℕ) (us : List Use) → map f js ≡ us → map f (cond b (j ∷ js) js) ≡ cond b (f j ∷ us) us
map-cond f true j js us e = ap (λ z. f j ∷ z) e
map-cond f false j js us e = e

-- the uses of a list without a link are those without the link's site
pub uses_others : (links : List Link) (n k : ℕ) (ks : List ℕ) → n ≤ k → AllByRecursion (λ j. n ≤ j) ks
    → map (use_at_link links n) (others k ks) ≡ without (k - n) (map (use_at_link links n) ks)
uses_others links n k [] h all = refl
uses_others links n k (j ∷ js) h all =
    map-cond (use_at_link links n) (not (eqb j k)) j (others k js) (without (k - n) (map (use_at_link links n) js)) (uses_others links n k js h all.1)
    ∙ ap (λ b. cond (not b) (use_at_link links n j ∷ without (k - n) (map (use_at_link links n) js)) (without (k - n) (map (use_at_link links n) js)))
    (sym (eqb-minus n j k all.0 h))

-- uses of links that stay
pub uses_kept : (links new : List Link) (n k : ℕ) (ks : List ℕ) → AllByRecursion (λ j. j ≢ k) ks
    → ((j : ℕ) → j ≢ k → (link_at new j).at ≡ (link_at links j).at) → map (use_at_link new n) ks ≡ map (use_at_link links n) ks
uses_kept links new n k [] no_k same = refl
uses_kept links new n k (j ∷ js) no_k same =
    ap₂ (λ a us. record { site = j - n; at = a } ∷ us) (same j no_k.0) (uses_kept links new n k js no_k.1 same)

-- one of different numbers is gone
pub length-others : (ks : List ℕ) (k : ℕ) → AreApart ks → Contains ks k → length (others k ks) + 1 ≡ length ks
length-others ks k apart has =
    let s = split_at ks k has in
    let a = length-append s.0 s.1 in
    let b = length-append s.0 (k ∷ s.1) in
    let c = ap length s.2 in
    let d = ap length (ap (others k) s.2 ∙ others_split s.0 s.1 k (subst AreApart s.2 apart)) in
    omega arith

module _ (links : List Link) (counts : List ℕ) (new : List Link) (now : List ℕ) (k to : ℕ) (at : UseAt)
    (kept : IsKept links counts) (m : Moved links counts new now k to at) (high : length counts ≤ k) where
  abbrev n : ℕ
  n = length counts

  high_all : (v : ℕ) → v < n → AllByRecursion (λ j. n ≤ j) (members links counts v)
  high_all v h = all_weaker (IsUse links n (length links) v) (λ j. n ≤ j) (λ j u. u.above) (members links counts v) (kept.lists.lists v h).uses

  rest : (v : ℕ) → v < n → map (use_at_link new n) (others k (members links counts v)) ≡ without (k - n) (list_uses links counts v)
  rest v h = uses_kept links new n k (others k (members links counts v)) (others_other k (members links counts v)) m.elsewhere
      ∙ uses_others links n k (members links counts v) high (high_all v h)

  by_links : (v : ℕ) → v < n → list_uses new now v ≡ map (use_at_link new n) (joined k to v (others k (members links counts v)))
  by_links v h = ap₂ (λ z ks. map (use_at_link new z) ks) m.heads (m.lists v h)

  -- the list that the link went to
  pub list_to : to < n → list_uses new now to ≡ without (k - n) (list_uses links counts to) ++ record { site = k - n; at = at } ∷ []
  list_to h =
      let ks = others k (members links counts to) in
      by_links to h
      ∙ elim (eqb_tells to to) [
        | inl t ↦ ap (λ b. map (use_at_link new n) (cond b (ks ++ k ∷ []) ks)) t.0
        | inr f ↦ absurd (f.1 refl)
      ]
      ∙ map-append (use_at_link new n) ks (k ∷ [])
      ∙ ap₂ (λ us a. us ++ record { site = k - n; at = a } ∷ []) (rest to h) m.here

  -- the other lists
  pub list_else : (v : ℕ) → v < n → v ≢ to → list_uses new now v ≡ without (k - n) (list_uses links counts v)
  list_else v h ne =
      let ks = others k (members links counts v) in
      by_links v h
      ∙ elim (eqb_tells v to) [
        | inl t ↦ absurd (ne t.1)
        | inr f ↦ ap (λ b. map (use_at_link new n) (cond b (ks ++ k ∷ []) ks)) f.0
      ]
      ∙ rest v h

  -- a list without the link's site, where the link is in another list
  pub list_without : (v w : ℕ) → v < n → v ≢ w → (link_at links k).list ≡ w → without (k - n) (list_uses links counts v) ≡ list_uses links counts v
  list_without v w h ne home =
      sym (uses_others links n k (members links counts v) high (high_all v h))
      ∙ ap (map (use_at_link links n)) (others_same k (members links counts v)
      (all_weaker (IsUse links n (length links) v) (λ j. j ≢ k) (λ j u. strange links w v j k u.home home ne) (members links counts v)
      (kept.lists.lists v h).uses))

  -- how many links a list has
  pub count_is : (v : ℕ) → v < n → get_or now v 0 ≡ length (joined k to v (others k (members links counts v)))
  count_is v h = sym (length-members new now v) ∙ ap length (m.lists v h)

joined_here : (k v : ℕ) (ks : List ℕ) → joined k v v ks ≡ ks ++ k ∷ []
joined_here k v ks = elim (eqb_tells v v) [ inl t ↦ ap (λ b. cond b (ks ++ k ∷ []) ks) t.0 | inr f ↦ absurd (f.1 refl) ]

pub joined_else : (k to v : ℕ) (ks : List ℕ) → v ≢ to → joined k to v ks ≡ ks
joined_else k to v ks ne = elim (eqb_tells v to) [ inl t ↦ absurd (ne t.1) | inr f ↦ ap (λ b. cond b (ks ++ k ∷ []) ks) f.0 ]

-- lists told one by one
pub lists_by : (links : List Link) (counts : List ℕ) (m : ℕ) (xs : List (List Use)) → length counts - 1 ≡ m → length xs ≡ m
    → ((v : ℕ) → v < m → get_or xs v [] ≡ list_uses links counts v) → (chain_of links counts).lists ≡ xs
lists_by links counts m xs few long each =
    sym (fill_by_all (list_uses links counts) xs (length counts - 1) [] (long ∙ sym few) (λ v h. each v (subst (λ z. v < z) few h)))

module _ (links : List Link) (counts : List ℕ) (new : List Link) (now : List ℕ) (k to site : ℕ) (at : UseAt)
    (kept : IsKept links counts) (m : Moved links counts new now k to at) (high : length counts ≤ k) (s : k - length counts ≡ site) where
  abbrev last : ℕ
  last = length counts - 1

  below : (v : ℕ) → v < last → v < length counts
  below v h = omega arith

  last_below : last < length counts
  last_below = let p = kept.some in omega arith

  no_last : (v : ℕ) → v < last → v ≢ last
  no_last v h e = omega arith

  now_last : length now - 1 ≡ last
  now_last = ap (λ z. z - 1) m.heads

  -- a list without the site
  list_gone : (v : ℕ) → v < length counts → v ≢ to → list_uses new now v ≡ without site (list_uses links counts v)
  list_gone v h ne =
      list_else links counts new now k to at kept m high v h ne ∙ ap (λ z. without z (list_uses links counts v)) s

  list_grown : to < length counts → list_uses new now to ≡ without site (list_uses links counts to) ++ record { site = site; at = at } ∷ []
  list_grown h =
      list_to links counts new now k to at kept m high h ∙ ap (λ z. without z (list_uses links counts to) ++ record { site = z; at = at } ∷ []) s

  list_whole : (v w : ℕ) → v < length counts → v ≢ w → (link_at links k).list ≡ w → without site (list_uses links counts v) ≡ list_uses links counts v
  list_whole v w h ne home =
      ap (λ z. without z (list_uses links counts v)) (sym s) ∙ list_without links counts new now k to at kept m high v w h ne home

  pub lists_added : to < last → (link_at links k).list ≡ last → (chain_of new now).lists ≡ with_use (chain_of links counts).lists to site at
  lists_added h home =
      let lists = (chain_of links counts).lists in
      let more = get_or lists to [] ++ record { site = site; at = at } ∷ [] in
      let long = length-lists links counts in
      lists_by new now last (with_use lists to site at) now_last (length-set lists to more ∙ long) (λ v v_in.
      elim (cases_eq v to) [
        | inl e ↦
            ap (λ z. get_or (with_use lists to site at) z []) e
            ∙ get_or-set_same lists to more [] (subst (λ z. to < z) (sym long) h)
            ∙ ap (λ us. us ++ record { site = site; at = at } ∷ []) (uses_at links counts to h ∙ sym (list_whole to last (below to h) (no_last to h) home))
            ∙ sym (list_grown (below to h))
            ∙ ap (list_uses new now) (sym e)
        | inr ne ↦
            get_or-set_other lists to v more [] ne
            ∙ uses_at links counts v v_in
            ∙ sym (list_whole v last (below v v_in) (no_last v v_in) home)
            ∙ sym (list_gone v (below v v_in) ne)
      ])

  gone_at : (v : ℕ) → v < last → get_or (all_without site (chain_of links counts).lists) v [] ≡ without site (list_uses links counts v)
  gone_at v h =
      map_at (without site) (chain_of links counts).lists v [] [] (subst (λ z. v < z) (sym (length-lists links counts)) h)
      ∙ ap (without site) (uses_at links counts v h)

  long_gone : length (all_without site (chain_of links counts).lists) ≡ last
  long_gone = length-map (chain_of links counts).lists (without site) ∙ length-lists links counts

  pub lists_dropped : to ≡ last → (chain_of new now).lists ≡ all_without site (chain_of links counts).lists
  lists_dropped is =
      lists_by new now last (all_without site (chain_of links counts).lists) now_last long_gone (λ v h.
      gone_at v h ∙ sym (list_gone v (below v h) (λ e. no_last v h (e ∙ is))))

  pub lists_moved : to < last → (chain_of new now).lists ≡ with_use (all_without site (chain_of links counts).lists) to site at
  lists_moved h =
      let lists = all_without site (chain_of links counts).lists in
      let more = get_or lists to [] ++ record { site = site; at = at } ∷ [] in
      lists_by new now last (with_use lists to site at) now_last (length-set lists to more ∙ long_gone) (λ v v_in.
      elim (cases_eq v to) [
        | inl e ↦
            ap (λ z. get_or (with_use lists to site at) z []) e
            ∙ get_or-set_same lists to more [] (subst (λ z. to < z) (sym long_gone) h)
            ∙ ap (λ us. us ++ record { site = site; at = at } ∷ []) (gone_at to h)
            ∙ sym (list_grown (below to h))
            ∙ ap (list_uses new now) (sym e)
        | inr ne ↦ get_or-set_other lists to v more [] ne ∙ gone_at v v_in ∙ sym (list_gone v (below v v_in) ne)
      ])

  spare_is : (chain_of new now).spare ≡ length (joined k to last (others k (members links counts last)))
  spare_is = ap (λ z. get_or now z 0) now_last ∙ count_is links counts new now k to at kept m high last last_below

  spare_same : (w : ℕ) → w < last → (link_at links k).list ≡ w → others k (members links counts last) ≡ members links counts last
  spare_same w h home =
      others_same k (members links counts last)
      (all_weaker (IsUse links (length counts) (length links) last) (λ j. j ≢ k) (λ j u. strange links w last j k u.home home (λ e. no_last w h (sym e)))
      (members links counts last) (kept.lists.lists last last_below).uses)

  pub spare_added : to < last → Contains (members links counts last) k → (chain_of new now).spare + 1 ≡ (chain_of links counts).spare
  spare_added h has =
      ap (λ z. z + 1) (spare_is ∙ ap length (joined_else k to last (others k (members links counts last)) (λ e. no_last to h (sym e))))
      ∙ length-others (members links counts last) k (kept.lists.lists last last_below).apart has
      ∙ length-members links counts last

  pub spare_dropped : (w : ℕ) → w < last → (link_at links k).list ≡ w → to ≡ last → (chain_of new now).spare ≡ (chain_of links counts).spare + 1
  spare_dropped w h home is =
      let ks = members links counts last in
      spare_is
      ∙ ap length (ap (λ z. joined k z last (others k ks)) is ∙ joined_here k last (others k ks) ∙ ap (λ z. z ++ k ∷ []) (spare_same w h home))
      ∙ length-append ks (k ∷ [])
      ∙ ap (λ z. z + 1) (length-members links counts last)

  pub spare_moved : (w : ℕ) → w < last → (link_at links k).list ≡ w → to < last → (chain_of new now).spare ≡ (chain_of links counts).spare
  spare_moved w h home to_in =
      let ks = members links counts last in
      spare_is
      ∙ ap length (joined_else k to last (others k ks) (λ e. no_last to to_in (sym e)) ∙ spare_same w h home)
      ∙ length-members links counts last

first_in : (links : List Link) (m k : ℕ) → 0 < m → Contains (links_from links m k) k
first_in links zero k h = absurd (omega arith)
first_in links (suc m) k h = (0, omega arith, refl)

-- the first link that is free
pub first_free : (links : List Link) (counts : List ℕ) → 0 < get_or counts (length counts - 1) 0
    → Contains (members links counts (length counts - 1)) (link_at links (length counts - 1)).next
first_free links counts h = first_in links (get_or counts (length counts - 1) 0) (link_at links (length counts - 1)).next h

-- a link that is free
pub record Free (links : List Link) (counts : List ℕ) (k : ℕ) : Type 0 where
  pub has : Contains (members links counts (length counts - 1)) k
  pub used : IsUse links (length counts) (length links) (length counts - 1) k

pub free_link : (links : List Link) (counts : List ℕ) → IsKept links counts → (chain : Chain) → chain_of links counts ≡ chain → 0 < chain.spare
    → (heads : ℕ) → heads ≡ length counts → (link : Link) → link ≡ get_or links (heads - 1) link → Free links counts link.next
free_link links counts kept chain e spare heads many link is =
    let some = kept.some in
    let room = kept.lists.room in
    let last_in : length counts - 1 < length counts = omega arith in
    let there : link ≡ link_at links (length counts - 1) =
    is ∙ get_or_default links (heads - 1) link no_link (omega arith) ∙ ap (λ h. link_at links (h - 1)) many in
    let has : Contains (members links counts (length counts - 1)) link.next =
    subst (λ l. Contains (members links counts (length counts - 1)) l.next) (sym there)
    (first_free links counts (subst (λ ch. 0 < ch.spare) (sym e) spare)) in
    record { has = has; used = use_of_member links counts (length links) (length counts - 1) link.next kept.lists last_in has }

-- a link that is for a use
pub record Live (links : List Link) (counts : List ℕ) (site : ℕ) : Type 0 where
  pub value : ℕ
  pub at : UseAt
  pub below : value < length counts - 1
  pub place : Found links counts value site at

pub live_link : (links : List Link) (counts : List ℕ) → IsKept links counts → (chain : Chain) → chain_of links counts ≡ chain → (site : ℕ) → IsLive chain site
    → Live links counts site
live_link links counts kept chain e site live =
    let v = live.value in
    let v_in = value_in links counts chain v e live.below in
    record {
      value = v;
      at = live.at;
      below = v_in;
      place = found links counts v site live.at kept.lists (omega arith)
          (subst (λ us. Contains us (record { site = site; at = live.at })) (uses_are links counts chain v e v_in) live.there);
    }

-- the use of a site
pub use_is : (links : List Link) (counts : List ℕ) → IsKept links counts → (chain : Chain) → chain_of links counts ≡ chain → (v site : ℕ) (at : UseAt)
    → HasUse chain v site at → (link_at links (length counts + site)).at ≡ at
use_is links counts kept chain e v site at has =
    elim (cases_lt v (length counts - 1)) [
      | inl h ↦
          (let in_all : v < length counts = omega arith in
          (found links counts v site at kept.lists in_all
          (subst (λ us. Contains us (record { site = site; at = at })) (uses_are links counts chain v e h) has)).there)
      | inr h ↦
          (let none : uses_of chain v ≡ [] = ap (λ ch. uses_of ch v) (sym e)
          ∙ get_or_past (chain_of links counts).lists v [] (subst (λ z. z ≤ v) (sym (length-lists links counts)) h) in
          let no : has.0 < 0 = subst (λ us. has.0 < length us) none has.1 in
          absurd (omega arith))
    ]

-- the only link of a list
pub only_member : (links : List Link) (counts : List ℕ) (v : ℕ) → get_or counts v 0 ≡ 1 → members links counts v ≡ (link_at links v).next ∷ []
only_member links counts v e = ap (λ m. links_from links m (link_at links v).next) e

pub only_below : (links : List Link) (counts : List ℕ) (v : ℕ) → IsKept links counts → v < length counts → get_or counts v 0 ≡ 1
    → (link_at links v).next < length links
only_below links counts v kept h e =
    (use_of_member links counts (length links) v (link_at links v).next kept.lists h
    (subst (λ ks. Contains ks (link_at links v).next) (sym (only_member links counts v e)) (0, omega arith, refl))).below

first_from : (links : List Link) (m k : ℕ) → 0 < m → get_or (links_from links m k) 0 0 ≡ k
first_from links zero k h = absurd (omega arith)
first_from links (suc m) k h = refl

next_from : (links : List Link) (m k i : ℕ) → suc i < m → (link_at links (get_or (links_from links m k) i 0)).next ≡ get_or (links_from links m k) (suc i) 0
next_from links zero k i h = absurd (omega arith)
next_from links (suc m) k zero h = sym (first_from links m (link_at links k).next (omega arith))
next_from links (suc m) k (suc i) h = next_from links m (link_at links k).next i (omega arith)

-- the first link of a list
pub member_first : (links : List Link) (counts : List ℕ) (v : ℕ) → 0 < get_or counts v 0 → get_or (members links counts v) 0 0 ≡ (link_at links v).next
member_first links counts v h = first_from links (get_or counts v 0) (link_at links v).next h

-- the link after one of a list
pub member_next : (links : List Link) (counts : List ℕ) (v i : ℕ) → i + 1 < get_or counts v 0
    → (link_at links (get_or (members links counts v) i 0)).next ≡ get_or (members links counts v) (i + 1) 0
member_next links counts v i h =
    let one : suc i ≡ i + 1 = omega arith in
    next_from links (get_or counts v 0) (link_at links v).next i (omega arith) ∙ ap (λ z. get_or (members links counts v) z 0) one

-- a link of a list is there
pub member_below : (links : List Link) (counts : List ℕ) (last v i : ℕ) → AreLists links counts last → v < length counts → i < get_or counts v 0
    → get_or (members links counts v) i 0 < last
member_below links counts last v i are v_in h =
    (all_at (IsUse links (length counts) last v) (members links counts v) i 0 (subst (λ z. i < z) (sym (length-members links counts v)) h) (are.lists
    v v_in).uses).below

-- the use of a number of a list
pub use_of_member_at : (links : List Link) (counts : List ℕ) (v i : ℕ) → i < get_or counts v 0
    → option_map (λ u. u.at) (slice_get (list_uses links counts v) i) ≡ Some (link_at links (get_or (members links counts v) i 0)).at
use_of_member_at links counts v i h =
    let ks = members links counts v in
    let f = use_at_link links (length counts) in
    let in_it : i < length ks = subst (λ z. i < z) (sym (length-members links counts v)) h in
    ap (option_map (λ u. u.at)) (slice_get-map f ks i ∙ ap (option_map f) (slice_get-get_or ks i 0 in_it))

pub no_use_at : (links : List Link) (counts : List ℕ) (v i : ℕ) → get_or counts v 0 ≤ i → option_map (λ u. u.at) (slice_get (list_uses links counts v) i) ≡ None
no_use_at links counts v i h =
    ap (option_map (λ u. u.at)) (slice_get_past (list_uses links counts v) i (subst (λ z. z ≤ i) (sym (length-list_uses links counts v)) h))
