-- What links are after one was written, after one was taken out and after one was put last.
use Rattle.std.proofs.Common.{◌≡◌, ◌≢◌, ℕ, ◌<◌, List, length, set, refl, sym, ap, ◌∙◌, subst, get_or-set_same, get_or-set_other, length-set, inl, inr}
use Rattle.std.proofs.lemmas.Bool.{cases_eq}
use Rattle.use_chain.specs.Links.{no_link, link_at, with_next, with_prev, without_link, placed, with_last_link}
use Rattle.use_chain.specs.declared.link.Link.{Link}
use Rattle.use_chain.specs.declared.uses.UseAt.{UseAt}
use Rattle.use_chain.proofs.Chains.{Leads_on}

-- the written link
pub here : (links : List Link) (k : ℕ) (link : Link) → k < length links → link_at (set links k link) k ≡ link
here links k link h = get_or-set_same links k link no_link h

-- another link
pub else_at : (links : List Link) (k j : ℕ) (link : Link) → j ≢ k → link_at (set links k link) j ≡ link_at links j
else_at links k j link h = get_or-set_other links k j link no_link h

-- what the writing left alone
pub kept : {X : Type 0} (f : Link → X) (links : List Link) (k j : ℕ) (link : Link) → k < length links → f link ≡ f (link_at links k)
    → f (link_at (set links k link) j) ≡ f (link_at links j)
kept f links k j link h e =
    elim (cases_eq j k) [
      | inl is ↦ subst (λ z. f (link_at (set links k link) z) ≡ f (link_at links z)) (sym is) (ap f (here links k link h) ∙ e)
      | inr other ↦ ap f (else_at links k j link other)
    ]

module _ (links : List Link) (k : ℕ) (p_in : (link_at links k).prev < length links) (n_in : (link_at links k).next < length links) where
  abbrev p : ℕ
  p = (link_at links k).prev

  abbrev n : ℕ
  n = (link_at links k).next

  abbrev first : List Link
  first = with_next links p n

  n_there : n < length first
  n_there = subst (λ z. n < z) (sym (length-set links p (record (link_at links p) { next = n }))) n_in

  -- the length
  pub length-without_link : length (without_link links k) ≡ length links
  unfolding without_link
  length-without_link = length-set first n (record (link_at first n) { prev = p }) ∙ length-set links p (record (link_at links p) { next = n })

  -- the lists that links are in, and the uses
  pub list-without_link : (j : ℕ) → (link_at (without_link links k) j).list ≡ (link_at links j).list
  unfolding without_link
  list-without_link j =
      kept (λ l. l.list) first n j (record (link_at first n) { prev = p }) n_there refl
      ∙ kept (λ l. l.list) links p j (record (link_at links p) { next = n }) p_in refl

  pub at-without_link : (j : ℕ) → (link_at (without_link links k) j).at ≡ (link_at links j).at
  unfolding without_link
  at-without_link j =
      kept (λ l. l.at) first n j (record (link_at first n) { prev = p }) n_there refl
      ∙ kept (λ l. l.at) links p j (record (link_at links p) { next = n }) p_in refl

  pub next-without_link : (j : ℕ) → j ≢ p → (link_at (without_link links k) j).next ≡ (link_at links j).next
  unfolding without_link
  next-without_link j other =
      kept (λ l. l.next) first n j (record (link_at first n) { prev = p }) n_there refl
      ∙ ap (λ l. l.next) (else_at links p j (record (link_at links p) { next = n }) other)

  pub prev-without_link : (j : ℕ) → j ≢ n → (link_at (without_link links k) j).prev ≡ (link_at links j).prev
  unfolding without_link
  prev-without_link j other =
      ap (λ l. l.prev) (else_at first n j (record (link_at first n) { prev = p }) other)
      ∙ kept (λ l. l.prev) links p j (record (link_at links p) { next = n }) p_in refl

  -- what led to the link leads on to the next
  pub past_it : Leads_on links (without_link links k) k n k
  unfolding without_link
  past_it = record {
    next_here = kept (λ l. l.next) first n p (record (link_at first n) { prev = p }) n_there refl
        ∙ ap (λ l. l.next) (here links p (record (link_at links p) { next = n }) p_in);
    prev_here = ap (λ l. l.prev) (here first n (record (link_at first n) { prev = p }) n_there);
    next_else = λ j other good. next-without_link j other;
    prev_else = λ j no_z other. prev-without_link j other;
  }

module _ (links : List Link) (k v : ℕ) (at : UseAt) (k_in : k < length links) (v_in : v < length links) (e_in : (link_at links v).prev < length links) where
  abbrev e : ℕ
  e = (link_at links v).prev

  abbrev one : List Link
  one = with_next links e k

  abbrev two : List Link
  two = with_prev one v k

  abbrev three : List Link
  three = placed two k e v at

  long_one : length one ≡ length links
  long_one = length-set links e (record (link_at links e) { next = k })

  long_two : length two ≡ length links
  long_two = length-set one v (record (link_at one v) { prev = k }) ∙ long_one

  v_one : v < length one
  v_one = subst (λ z. v < z) (sym long_one) v_in

  k_two : k < length two
  k_two = subst (λ z. k < z) (sym long_two) k_in

  pub length-with_last_link : length (with_last_link links k v at) ≡ length links
  unfolding with_last_link
  length-with_last_link = length-set two k (record { prev = e; next = v; list = v; at = at }) ∙ long_two

  pub at-with_last_link : (j : ℕ) → j ≢ k → (link_at (with_last_link links k v at) j).at ≡ (link_at links j).at
  unfolding with_last_link
  at-with_last_link j other =
      ap (λ l. l.at) (else_at two k j (record { prev = e; next = v; list = v; at = at }) other)
      ∙ kept (λ l. l.at) one v j (record (link_at one v) { prev = k }) v_one refl
      ∙ kept (λ l. l.at) links e j (record (link_at links e) { next = k }) e_in refl

  -- the link itself
  pub last_here : link_at (with_last_link links k v at) k ≡ record { prev = e; next = v; list = v; at = at }
  unfolding with_last_link
  last_here = here two k (record { prev = e; next = v; list = v; at = at }) k_two

  -- the other links
  pub list-with_last_link : (j : ℕ) → j ≢ k → (link_at (with_last_link links k v at) j).list ≡ (link_at links j).list
  unfolding with_last_link
  list-with_last_link j other =
      ap (λ l. l.list) (else_at two k j (record { prev = e; next = v; list = v; at = at }) other)
      ∙ kept (λ l. l.list) one v j (record (link_at one v) { prev = k }) v_one refl
      ∙ kept (λ l. l.list) links e j (record (link_at links e) { next = k }) e_in refl

  pub next-with_last_link : (j : ℕ) → j ≢ e → j ≢ k → (link_at (with_last_link links k v at) j).next ≡ (link_at links j).next
  unfolding with_last_link
  next-with_last_link j no_e other =
      ap (λ l. l.next) (else_at two k j (record { prev = e; next = v; list = v; at = at }) other)
      ∙ kept (λ l. l.next) one v j (record (link_at one v) { prev = k }) v_one refl
      ∙ ap (λ l. l.next) (else_at links e j (record (link_at links e) { next = k }) no_e)

  pub prev-with_last_link : (j : ℕ) → j ≢ v → j ≢ k → (link_at (with_last_link links k v at) j).prev ≡ (link_at links j).prev
  unfolding with_last_link
  prev-with_last_link j no_v other =
      ap (λ l. l.prev) (else_at two k j (record { prev = e; next = v; list = v; at = at }) other)
      ∙ ap (λ l. l.prev) (else_at one v j (record (link_at one v) { prev = k }) no_v)
      ∙ kept (λ l. l.prev) links e j (record (link_at links e) { next = k }) e_in refl

  -- the head has it before itself
  pub before_head : v ≢ k → (link_at (with_last_link links k v at) v).prev ≡ k
  unfolding with_last_link
  before_head other =
      ap (λ l. l.prev) (else_at two k v (record { prev = e; next = v; list = v; at = at }) other)
      ∙ ap (λ l. l.prev) (here one v (record (link_at one v) { prev = k }) v_one)

  -- what led to the head leads to the link
  pub on_to_it : e ≢ k → Leads_on links (with_last_link links k v at) v k k
  unfolding with_last_link
  on_to_it no_k = record {
    next_here = ap (λ l. l.next) (else_at two k e (record { prev = e; next = v; list = v; at = at }) no_k)
        ∙ kept (λ l. l.next) one v e (record (link_at one v) { prev = k }) v_one refl
        ∙ ap (λ l. l.next) (here links e (record (link_at links e) { next = k }) e_in);
    prev_here = ap (λ l. l.prev) last_here;
    next_else = next-with_last_link;
    prev_else = prev-with_last_link;
  }
