-- Lists after a use was taken out of one, and after one was put last in one.
use Rattle.std.proofs.Common.{◌≡◌, ◌≢◌, ℕ, ◌+◌, ◌-◌, ◌<◌, ◌≤◌, List, [], ◌∷◌, ◌++◌, length, get_or, set, sym, ap, ◌∙◌, subst, arith, get_or-set_same, get_or-set_other, length-set, length-append, inl, inr, cond}
use Rattle.std.specs.List.{AllByRecursion, Contains}
use Rattle.std.proofs.lemmas.Bool.{cases_eq}
use Rattle.std.proofs.lemmas.Bool.Decides.{eqb_tells}
use Rattle.use_chain.specs.Links.{link_at, without_link, with_last_link}
use Rattle.use_chain.specs.Lists.{IsChain, links_from, members, others, joined, AreApart, IsUse, IsListOf, AreLists}
use Rattle.use_chain.specs.declared.link.Link.{Link}
use Rattle.use_chain.specs.declared.uses.UseAt.{UseAt}
use Rattle.use_chain.proofs.Elements.{all_weaker, all_left, all_right, all_join, all_both, all_at, apart_without, apart_left, apart_front, apart_back, apart_across, apart_back_across, apart_push, others_same, others_split}
use Rattle.use_chain.proofs.Chains.{prev_in, next_in, chain_left, chain_right, chain_join, chain_kept, chain_to, chain_past, links_from-chain}
use Rattle.use_chain.proofs.Changes.{list-without_link, next-without_link, prev-without_link, length-without_link, at-without_link, past_it, length-with_last_link, last_here, list-with_last_link, next-with_last_link, prev-with_last_link, before_head, on_to_it, at-with_last_link}

-- the members of a list are what fits it
pub member_is : (links : List Link) (counts : List ℕ) (heads last v : ℕ) (ks : List ℕ) → IsListOf links (get_or counts v 0) heads last v ks
    → members links counts v ≡ ks
member_is links counts heads last v ks l =
    ap (λ n. links_from links n (link_at links v).next) (sym l.counted) ∙ links_from-chain links v ks v l.ring

no_head : (h v j : ℕ) → v < h → h ≤ j → j ≡ v → ⊥
no_head h v j a b e = omega arith

-- no use of a list is its head, or one of another list
no_heads : (links : List Link) (heads last v w : ℕ) (ks : List ℕ) → w < heads → AllByRecursion (IsUse links heads last v) ks → AllByRecursion (λ j. j ≢ w) ks
no_heads links heads last v w ks h = all_weaker (IsUse links heads last v) (λ j. j ≢ w) (λ j u. no_head heads w j h u.above) ks

homes : (links : List Link) (heads last v : ℕ) (ks : List ℕ) → AllByRecursion (IsUse links heads last v) ks
    → AllByRecursion (λ j. (link_at links j).list ≡ v) ks
homes links heads last v ks = all_weaker (IsUse links heads last v) (λ j. (link_at links j).list ≡ v) (λ j u. u.home) ks

bounds : (links : List Link) (heads last v m : ℕ) (ks : List ℕ) → last ≤ m → AllByRecursion (IsUse links heads last v) ks → AllByRecursion (λ j. j < m) ks
bounds links heads last v m ks h = all_weaker (IsUse links heads last v) (λ j. j < m) (λ j u. let b = u.below in omega arith) ks

-- a use of another list isn't one of this list
pub strange : (links : List Link) (v w j k : ℕ) → (link_at links j).list ≡ w → (link_at links k).list ≡ v → w ≢ v → j ≢ k
strange links v w j k here there ne e = ne (sym here ∙ ap (λ i. (link_at links i).list) e ∙ there)

-- a member of a list is a use of it
pub use_of_member : (links : List Link) (counts : List ℕ) (last v k : ℕ) → AreLists links counts last → v < length counts → Contains (members links counts v) k
    → IsUse links (length counts) last v k
use_of_member links counts last v k are v_in member =
    let ks = members links counts v in
    subst (IsUse links (length counts) last v) member.2 (all_at (IsUse links (length counts) last v) ks member.0 k member.1 (are.lists v v_in).uses)

-- there may be more links
pub lists_weaker : (links : List Link) (counts : List ℕ) (last more : ℕ) → AreLists links counts last → last ≤ more → more ≤ length links
    → AreLists links counts more
lists_weaker links counts last more are h long = record {
  lists = λ v v_in. let l = are.lists v v_in in record {
    ring = l.ring;
    uses = all_weaker (IsUse links (length counts) last v) (IsUse links (length counts) more v)
        (λ j u. let b = u.below in record { above = u.above; below = omega arith; home = u.home }) (members links counts v) l.uses;
    apart = l.apart;
    counted = l.counted;
  };
  heads = are.heads;
  room = let a = are.room in omega arith;
  within = long;
}

module _ (links : List Link) (counts : List ℕ) (last k : ℕ) (are : AreLists links counts last) (v : ℕ) (v_in : v < length counts) (xs ys : List ℕ)
    (is : members links counts v ≡ xs ++ k ∷ ys) where
  abbrev out : List Link
  out = without_link links k

  abbrev pub fewer : List ℕ
  fewer = set counts v (get_or counts v 0 - 1)

  was : IsListOf links (get_or counts v 0) (length counts) last v (xs ++ k ∷ ys)
  was = subst (λ ks. IsListOf links (get_or counts v 0) (length counts) last v ks) is (are.lists v v_in)

  uses_x : AllByRecursion (IsUse links (length counts) last v) xs
  uses_x = all_left (IsUse links (length counts) last v) xs (k ∷ ys) was.uses

  use_k : IsUse links (length counts) last v k
  use_k = (all_right (IsUse links (length counts) last v) xs (k ∷ ys) was.uses).0

  uses_y : AllByRecursion (IsUse links (length counts) last v) ys
  uses_y = (all_right (IsUse links (length counts) last v) xs (k ∷ ys) was.uses).1

  to_k : IsChain links v xs k
  to_k = chain_left links v xs ys k v was.ring

  from_k : IsChain links k ys v
  from_k = chain_right links v xs ys k v was.ring

  v_long : v < length links
  v_long = let a = are.room in let b = are.within in omega arith

  p_in : (link_at links k).prev < length links
  p_in = prev_in (λ j. j < length links) links v xs k to_k v_long (bounds links (length counts) last v (length links) xs are.within uses_x)

  n_in : (link_at links k).next < length links
  n_in = next_in (λ j. j < length links) links k ys v from_k (bounds links (length counts) last v (length links) ys are.within uses_y) v_long

  p_home : (link_at links (link_at links k).prev).list ≡ v
  p_home = prev_in (λ j. (link_at links j).list ≡ v) links v xs k to_k (are.heads v v_in) (homes links (length counts) last v xs uses_x)

  n_home : (link_at links (link_at links k).next).list ≡ v
  n_home = next_in (λ j. (link_at links j).list ≡ v) links k ys v from_k (homes links (length counts) last v ys uses_y) (are.heads v v_in)

  no_v_x : AllByRecursion (λ j. j ≢ v) xs
  no_v_x = no_heads links (length counts) last v v xs v_in uses_x

  no_v_y : AllByRecursion (λ j. j ≢ v) ys
  no_v_y = no_heads links (length counts) last v v ys v_in uses_y

  v_no_k : v ≢ k
  v_no_k e = no_head (length counts) v k v_in use_k.above (sym e)

  pair : AreApart (xs ++ ys)
  pair = apart_without xs ys k was.apart

  no_n_x : AllByRecursion (λ j. j ≢ (link_at links k).next) xs
  no_n_x = next_in (λ z. AllByRecursion (λ j. j ≢ z) xs) links k ys v from_k (apart_across xs ys pair) no_v_x

  no_p_y : AllByRecursion (λ j. j ≢ (link_at links k).prev) ys
  no_p_y = prev_in (λ z. AllByRecursion (λ j. j ≢ z) ys) links v xs k to_k no_v_y (apart_back_across xs ys pair)

  ring_out : IsChain out v (xs ++ ys) v
  ring_out =
      chain_past links out v k xs ys v
      (chain_to links out v xs k (link_at links k).next k to_k (past_it links k p_in n_in) (no_v_x, apart_front xs (k ∷ ys) was.apart)
      (v_no_k, apart_left xs ys k was.apart) (apart_left xs ys k was.apart) no_n_x)
      from_k (next-without_link links k p_in n_in) (prev-without_link links k p_in n_in) no_p_y (apart_back xs ys pair) no_v_y

  use_kept : (w j : ℕ) → IsUse links (length counts) last w j → IsUse out (length counts) last w j
  use_kept w j u = record { above = u.above; below = u.below; home = list-without_link links k p_in n_in j ∙ u.home }

  uses_kept : (w : ℕ) (ks : List ℕ) → AllByRecursion (IsUse links (length counts) last w) ks → AllByRecursion (IsUse out (length counts) last w) ks
  uses_kept w = all_weaker (IsUse links (length counts) last w) (IsUse out (length counts) last w) (use_kept w)

  -- the list without the use
  its_list : IsListOf out (get_or fewer v 0) (length counts) last v (xs ++ ys)
  its_list = record {
    ring = ring_out;
    uses = uses_kept v (xs ++ ys) (all_join (IsUse links (length counts) last v) xs ys uses_x uses_y);
    apart = pair;
    counted = let c = was.counted in let a = length-append xs ys in let b = length-append xs (k ∷ ys) in
        omega (arith, get_or-set_same counts v (get_or counts v 0 - 1) 0 v_in);
  }

  -- another list
  other_list : (w : ℕ) (ks : List ℕ) → w < length counts → w ≢ v → IsListOf links (get_or counts w 0) (length counts) last w ks
      → IsListOf out (get_or fewer w 0) (length counts) last w ks
  other_list w ks w_in ne l =
      let home : AllByRecursion (λ j. (link_at links j).list ≡ w) (w ∷ ks) = (are.heads w w_in, homes links (length counts) last w ks l.uses) in
      record {
        ring = chain_kept links out w ks w l.ring
            (all_weaker (λ j. (link_at links j).list ≡ w) (λ j. (link_at out j).next ≡ (link_at links j).next)
            (λ j h. next-without_link links k p_in n_in j (strange links v w j (link_at links k).prev h p_home ne)) (w ∷ ks) home)
            (all_weaker (λ j. (link_at links j).list ≡ w) (λ j. (link_at out j).prev ≡ (link_at links j).prev)
            (λ j h. prev-without_link links k p_in n_in j (strange links v w j (link_at links k).next h n_home ne)) ks home.1)
            (prev-without_link links k p_in n_in w (strange links v w w (link_at links k).next home.0 n_home ne));
        uses = uses_kept w ks l.uses;
        apart = l.apart;
        counted = l.counted ∙ sym (get_or-set_other counts v w (get_or counts v 0 - 1) 0 ne);
      }

  -- each list without the use
  list_out : (w : ℕ) → w < length counts → IsListOf out (get_or fewer w 0) (length counts) last w (others k (members links counts w))
  list_out w w_in =
      elim (cases_eq w v) [
        | inl e ↦
            subst (λ z. IsListOf out (get_or fewer z 0) (length counts) last z (others k (members links counts z))) (sym e)
            (subst (λ ks. IsListOf out (get_or fewer v 0) (length counts) last v ks) (sym (ap (others k) is ∙ others_split xs ys k was.apart)) its_list)
        | inr ne ↦
            subst (λ ks. IsListOf out (get_or fewer w 0) (length counts) last w ks)
            (sym (others_same k (members links counts w)
            (all_weaker (λ j. (link_at links j).list ≡ w) (λ j. j ≢ k) (λ j h. strange links v w j k h use_k.home ne) (members links counts w)
            (homes links (length counts) last w (members links counts w) (are.lists w w_in).uses))))
            (other_list w (members links counts w) w_in ne (are.lists w w_in))
      ]

  pub members_out : (w : ℕ) → w < length counts → members out fewer w ≡ others k (members links counts w)
  members_out w w_in = member_is out fewer (length counts) last w (others k (members links counts w)) (list_out w w_in)

  same_length : length fewer ≡ length counts
  same_length = length-set counts v (get_or counts v 0 - 1)

  pub lists_out : AreLists out fewer last
  lists_out = record {
    lists = λ w h. let w_in : w < length counts = subst (λ n. w < n) same_length h in
        subst (λ n. IsListOf out (get_or fewer w 0) n last w (members out fewer w)) (sym same_length)
        (subst (λ ks. IsListOf out (get_or fewer w 0) (length counts) last w ks) (sym (members_out w w_in)) (list_out w w_in));
    heads = λ w h. list-without_link links k p_in n_in w ∙ are.heads w (subst (λ n. w < n) same_length h);
    room = let a = are.room in omega (arith, same_length);
    within = let a = are.within in omega (arith, length-without_link links k p_in n_in);
  }

  -- the uses stay
  pub uses_out : (j : ℕ) → (link_at out j).at ≡ (link_at links j).at
  uses_out = at-without_link links k p_in n_in

  pub length_out : length out ≡ length links
  length_out = length-without_link links k p_in n_in

  pub prev_in_range : (link_at links k).prev < length links
  prev_in_range = p_in

  pub next_in_range : (link_at links k).next < length links
  next_in_range = n_in

module _ (links : List Link) (counts : List ℕ) (last k : ℕ) (are : AreLists links counts last) (v : ℕ) (at : UseAt) (v_in : v < length counts)
    (k_high : length counts ≤ k) (k_in : k < last) (absent : (w : ℕ) → w < length counts → AllByRecursion (λ j. j ≢ k) (members links counts w)) where
  abbrev into : List Link
  into = with_last_link links k v at

  abbrev more : List ℕ
  more = set counts v (get_or counts v 0 + 1)

  abbrev ks : List ℕ
  ks = members links counts v

  now : IsListOf links (get_or counts v 0) (length counts) last v ks
  now = are.lists v v_in

  k_long : k < length links
  k_long = let b = are.within in omega arith

  v_there : v < length links
  v_there = let a = are.room in let b = are.within in omega arith

  e_in : (link_at links v).prev < length links
  e_in = prev_in (λ j. j < length links) links v ks v now.ring v_there (bounds links (length counts) last v (length links) ks are.within now.uses)

  e_home : (link_at links (link_at links v).prev).list ≡ v
  e_home = prev_in (λ j. (link_at links j).list ≡ v) links v ks v now.ring (are.heads v v_in) (homes links (length counts) last v ks now.uses)

  head_no_k : (w : ℕ) → w < length counts → w ≢ k
  head_no_k w h e = no_head (length counts) w k h k_high (sym e)

  e_no_k : (link_at links v).prev ≢ k
  e_no_k = prev_in (λ j. j ≢ k) links v ks v now.ring (head_no_k v v_in) (absent v v_in)

  no_v : AllByRecursion (λ j. j ≢ v) ks
  no_v = no_heads links (length counts) last v v ks v_in now.uses

  ring_in : IsChain into v (ks ++ k ∷ []) v
  ring_in =
      chain_join into v ks [] k v
      (chain_to links into v ks v k k now.ring (on_to_it links k v at k_long v_there e_in e_no_k) (no_v, now.apart) (head_no_k v v_in, absent v v_in)
      no_v (absent v v_in))
      (ap (λ l. l.next) (last_here links k v at k_long v_there e_in), before_head links k v at k_long v_there e_in (head_no_k v v_in))

  uses_in : (w : ℕ) (js : List ℕ) → AllByRecursion (λ j. j ≢ k) js → AllByRecursion (IsUse links (length counts) last w) js
      → AllByRecursion (IsUse into (length counts) last w) js
  uses_in w js no_k uses =
      all_weaker (λ j. IsUse links (length counts) last w j × (j ≢ k)) (IsUse into (length counts) last w)
      (λ j u. record { above = u.0.above; below = u.0.below; home = list-with_last_link links k v at k_long v_there e_in j u.1 ∙ u.0.home }) js
      (all_both (IsUse links (length counts) last w) (λ j. j ≢ k) js uses no_k)

  -- the list with the use
  list_with : IsListOf into (get_or more v 0) (length counts) last v (ks ++ k ∷ [])
  list_with = record {
    ring = ring_in;
    uses = all_join (IsUse into (length counts) last v) ks (k ∷ []) (uses_in v ks (absent v v_in) now.uses)
        (record { above = k_high; below = k_in; home = ap (λ l. l.list) (last_here links k v at k_long v_there e_in) }, tt);
    apart = apart_push ks k now.apart (absent v v_in);
    counted = let c = now.counted in let a = length-append ks (k ∷ []) in omega (arith, get_or-set_same counts v (get_or counts v 0 + 1) 0 v_in);
  }

  -- another list
  list_beside : (w : ℕ) → w < length counts → w ≢ v → IsListOf into (get_or more w 0) (length counts) last w (members links counts w)
  list_beside w w_in ne =
      let l = are.lists w w_in in
      let js = members links counts w in
      let home : AllByRecursion (λ j. ((link_at links j).list ≡ w) × (j ≢ k)) (w ∷ js) = (
        (are.heads w w_in, head_no_k w w_in),
        all_both (λ j. (link_at links j).list ≡ w) (λ j. j ≢ k) js (homes links (length counts) last w js l.uses) (absent w w_in),
      ) in
      record {
        ring = chain_kept links into w js w l.ring
            (all_weaker (λ j. ((link_at links j).list ≡ w) × (j ≢ k)) (λ j. (link_at into j).next ≡ (link_at links j).next)
            (λ j h. next-with_last_link links k v at k_long v_there e_in j (strange links v w j (link_at links v).prev h.0 e_home ne) h.1) (w ∷ js) home)
            (all_weaker (λ j. ((link_at links j).list ≡ w) × (j ≢ k)) (λ j. (link_at into j).prev ≡ (link_at links j).prev)
            (λ j h. prev-with_last_link links k v at k_long v_there e_in j (strange links v w j v h.0 (are.heads v v_in) ne) h.1) js home.1)
            (prev-with_last_link links k v at k_long v_there e_in w ne home.0.1);
        uses = uses_in w js (absent w w_in) l.uses;
        apart = l.apart;
        counted = l.counted ∙ sym (get_or-set_other counts v w (get_or counts v 0 + 1) 0 ne);
      }

  -- each list
  list_in : (w : ℕ) → w < length counts → IsListOf into (get_or more w 0) (length counts) last w (joined k v w (members links counts w))
  list_in w w_in =
      elim (eqb_tells w v) [
        | inl t ↦
            subst (λ z. IsListOf into (get_or more w 0) (length counts) last w (cond z (members links counts w ++ k ∷ []) (members links counts w))) (sym t.0)
            (subst (λ z. IsListOf into (get_or more z 0) (length counts) last z (members links counts z ++ k ∷ [])) (sym t.1) list_with)
        | inr f ↦
            subst (λ z. IsListOf into (get_or more w 0) (length counts) last w (cond z (members links counts w ++ k ∷ []) (members links counts w))) (sym f.0)
            (list_beside w w_in f.1)
      ]

  pub members_in : (w : ℕ) → w < length counts → members into more w ≡ joined k v w (members links counts w)
  members_in w w_in = member_is into more (length counts) last w (joined k v w (members links counts w)) (list_in w w_in)

  one_length : length more ≡ length counts
  one_length = length-set counts v (get_or counts v 0 + 1)

  pub lists_in : AreLists into more last
  lists_in = record {
    lists = λ w h. let w_in : w < length counts = subst (λ n. w < n) one_length h in
        subst (λ n. IsListOf into (get_or more w 0) n last w (members into more w)) (sym one_length)
        (subst (λ js. IsListOf into (get_or more w 0) (length counts) last w js) (sym (members_in w w_in)) (list_in w w_in));
    heads = λ w h. let w_in : w < length counts = subst (λ n. w < n) one_length h in
        list-with_last_link links k v at k_long v_there e_in w (head_no_k w w_in) ∙ are.heads w w_in;
    room = let a = are.room in omega (arith, one_length);
    within = let a = are.within in omega (arith, length-with_last_link links k v at k_long v_there e_in);
  }

  -- the use at the link, and at others
  pub use_here : (link_at into k).at ≡ at
  use_here = ap (λ l. l.at) (last_here links k v at k_long v_there e_in)

  pub use_beside : (j : ℕ) → j ≢ k → (link_at into j).at ≡ (link_at links j).at
  use_beside = at-with_last_link links k v at k_long v_there e_in

  pub last_in_range : (link_at links v).prev < length links
  last_in_range = e_in
