-- An empty chain.
use Rattle.std.proofs.Common.{◌≡◌, ℕ, zero, suc, ◌+◌, ◌^◌, ◌<◌, List, [], map, length, get_or, take, replicate, refl, sym, ap, ◌∙◌, subst, arith}
use Rattle.std.specs.List.{range_with_len}
use Rattle.std.proofs.lemmas.List.{get_or-replicate, length-replicate}
use Rattle.std.proofs.lemmas.List.Folds.{sum_by-replicate}
use Rattle.std.proofs.lemmas.List.FromFn.{length-map-range_with_len, get_or-map-range_with_len}
use Rattle.use_chain.specs.Links.{no_link, link_at}
use Rattle.use_chain.specs.Lists.{links_from, IsListOf}
use Rattle.use_chain.specs.Kept.{lone_head, total, use_at_link, chain_of, IsKept}
use Rattle.use_chain.specs.declared.link.Link.{Link}
use Rattle.use_chain.proofs.Values.{lists_by}

pub take_none : (n : ℕ) → take {A = ℕ} n [] ≡ []
take_none zero = refl
take_none (suc n) = refl

module _ (n : ℕ) where
  abbrev links : List Link
  links = map lone_head (range_with_len 0 n)

  abbrev counts : List ℕ
  counts = replicate n 0

  long : length links ≡ n
  long = length-map-range_with_len lone_head 0 n

  many : length counts ≡ n
  many = length-replicate n 0

  head : (v : ℕ) → v < n → link_at links v ≡ lone_head v
  head v h = get_or-map-range_with_len lone_head 0 n v v no_link h (omega arith)

  none : (v : ℕ) → v < n → get_or counts v 0 ≡ 0
  none v h = get_or-replicate n v 0 0 h

  no_total : total counts ≡ 0
  no_total = sum_by-replicate (λ m. m) n 0 ∙ omega arith

  pub kept_new : 0 < n → IsKept links counts
  kept_new some = record {
    lists = record {
      lists = λ v h. let v_in : v < n = subst (λ z. v < z) many h in
          subst (λ m. IsListOf links m (length counts) (length links) v (links_from links m (link_at links v).next)) (sym (none v v_in))
          (record { ring = (ap (λ l. l.next) (head v v_in), ap (λ l. l.prev) (head v v_in)); uses = tt; apart = tt; counted = refl });
      heads = λ v h. ap (λ l. l.list) (head v (subst (λ z. v < z) many h));
      room = omega (arith, long, many);
      within = omega arith;
    };
    all = omega (arith, long, many, no_total);
    some = subst (λ z. 0 < z) (sym many) some;
    few = subst (λ z. z < 2 ^ 32) (sym no_total) (omega arith);
  }

  pub lists_new : (values : ℕ) → n ≡ values + 1 → (chain_of links counts).lists ≡ replicate values []
  lists_new values e =
      lists_by links counts values (replicate values []) (omega (arith, many)) (length-replicate values []) (λ v h.
      get_or-replicate values v [] [] h
      ∙ sym (ap (λ m. map (use_at_link links (length counts)) (links_from links m (link_at links v).next)) (none v (omega arith))))
