-- Chains of links: their parts, and what a change of links leaves of them.
use Rattle.std.proofs.Common.{◌≡◌, ◌≢◌, ℕ, List, [], ◌∷◌, ◌++◌, length, refl, sym, ap, ◌∙◌, subst}
use Rattle.std.specs.List.{AllByRecursion}
use Rattle.std.proofs.lemmas.List.{append-nil}
use Rattle.use_chain.specs.Links.{link_at}
use Rattle.use_chain.specs.Lists.{IsChain, links_from, AreApart}
use Rattle.use_chain.specs.declared.link.Link.{Link}
use Rattle.use_chain.proofs.Elements.{all_weaker}

-- the one before the last is one of the others
pub prev_in : (P : ℕ → Type 0) (links : List Link) (a : ℕ) (ks : List ℕ) (z : ℕ) → IsChain links a ks z → P a → AllByRecursion P ks → P (link_at links z).prev
prev_in P links a [] z c first all = subst P (sym c.1) first
prev_in P links a (k ∷ ks) z c first all = prev_in P links k ks z c.1 all.0 all.1

-- the one after the first is one of the others
pub next_in : (P : ℕ → Type 0) (links : List Link) (a : ℕ) (ks : List ℕ) (z : ℕ) → IsChain links a ks z → AllByRecursion P ks → P z → P (link_at links a).next
next_in P links a [] z c all last = subst P (sym c.0) last
next_in P links a (k ∷ ks) z c all last = subst P (sym c.0.0) all.0

pub chain_left : (links : List Link) (a : ℕ) (xs ys : List ℕ) (k z : ℕ) → IsChain links a (xs ++ k ∷ ys) z → IsChain links a xs k
chain_left links a [] ys k z c = c.0
chain_left links a (x ∷ xs) ys k z c = (c.0, chain_left links x xs ys k z c.1)

pub chain_right : (links : List Link) (a : ℕ) (xs ys : List ℕ) (k z : ℕ) → IsChain links a (xs ++ k ∷ ys) z → IsChain links k ys z
chain_right links a [] ys k z c = c.1
chain_right links a (x ∷ xs) ys k z c = chain_right links x xs ys k z c.1

pub chain_join : (links : List Link) (a : ℕ) (xs ys : List ℕ) (k z : ℕ) → IsChain links a xs k → IsChain links k ys z → IsChain links a (xs ++ k ∷ ys) z
chain_join links a [] ys k z c d = (c, d)
chain_join links a (x ∷ xs) ys k z c d = (c.0, chain_join links x xs ys k z c.1 d)

-- the links of a chain are those that come in a row after its first
pub links_from-chain : (links : List Link) (a : ℕ) (ks : List ℕ) (z : ℕ) → IsChain links a ks z → links_from links (length ks) (link_at links a).next ≡ ks
links_from-chain links a [] z c = refl
links_from-chain links a (k ∷ ks) z c =
    ap (λ j. j ∷ links_from links (length ks) (link_at links j).next) c.0.0 ∙ ap (λ js. k ∷ js) (links_from-chain links k ks z c.1)

-- a change of other links leaves a chain
pub chain_kept : (links new : List Link) (a : ℕ) (ks : List ℕ) (z : ℕ) → IsChain links a ks z
    → AllByRecursion (λ j. (link_at new j).next ≡ (link_at links j).next) (a ∷ ks)
    → AllByRecursion (λ j. (link_at new j).prev ≡ (link_at links j).prev) ks
    → (link_at new z).prev ≡ (link_at links z).prev → IsChain new a ks z
chain_kept links new a [] z c nexts prevs last = (nexts.0 ∙ c.0, last ∙ c.1)
chain_kept links new a (k ∷ ks) z c nexts prevs last =
    ((nexts.0 ∙ c.0.0, prevs.0 ∙ c.0.1), chain_kept links new k ks z c.1 nexts.1 prevs.1 last)

-- what a chain's new last one asks of a change of links; `bad` is a link that the chain doesn't have
pub record Leads_on (links new : List Link) (z e bad : ℕ) : Type 0 where
  pub next_here : (link_at new (link_at links z).prev).next ≡ e
  pub prev_here : (link_at new e).prev ≡ (link_at links z).prev
  pub next_else : (j : ℕ) → j ≢ (link_at links z).prev → j ≢ bad → (link_at new j).next ≡ (link_at links j).next
  pub prev_else : (j : ℕ) → j ≢ z → j ≢ e → (link_at new j).prev ≡ (link_at links j).prev

-- the chain leads to another last one
pub chain_to : (links new : List Link) (a : ℕ) (ks : List ℕ) (z e bad : ℕ) → IsChain links a ks z → Leads_on links new z e bad
    → AreApart (a ∷ ks) → AllByRecursion (λ j. j ≢ bad) (a ∷ ks) → AllByRecursion (λ j. j ≢ z) ks → AllByRecursion (λ j. j ≢ e) ks
    → IsChain new a ks e
chain_to links new a [] z e bad c l apart good no_z no_e = (
  subst (λ j. (link_at new j).next ≡ e) c.1 l.next_here,
  l.prev_here ∙ c.1,
)
chain_to links new a (k ∷ ks) z e bad c l apart good no_z no_e = (
  (
    l.next_else a (λ is. prev_in (λ j. j ≢ a) links k ks z c.1 apart.0.0 apart.0.1 (sym is)) good.0 ∙ c.0.0,
    l.prev_else k no_z.0 no_e.0 ∙ c.0.1,
  ),
  chain_to links new k ks z e bad c.1 l apart.1 good.1 no_z.1 no_e.1,
)

-- the chain that leads on past a link
pub chain_past : (links new : List Link) (v k : ℕ) (xs ys : List ℕ) (z : ℕ) → IsChain new v xs (link_at links k).next → IsChain links k ys z
    → ((j : ℕ) → j ≢ (link_at links k).prev → (link_at new j).next ≡ (link_at links j).next)
    → ((j : ℕ) → j ≢ (link_at links k).next → (link_at new j).prev ≡ (link_at links j).prev)
    → AllByRecursion (λ j. j ≢ (link_at links k).prev) ys → AreApart ys → AllByRecursion (λ j. j ≢ z) ys
    → IsChain new v (xs ++ ys) z
chain_past links new v k xs [] z toward c nexts prevs no_p apart no_z =
    subst (λ l. IsChain new v l z) (sym (append-nil xs)) (subst (λ e. IsChain new v xs e) c.0 toward)
chain_past links new v k xs (y ∷ ys) z toward c nexts prevs no_p apart no_z =
    chain_join new v xs ys y z (subst (λ e. IsChain new v xs e) c.0.0 toward)
    (chain_kept links new y ys z c.1
    (all_weaker (λ j. j ≢ (link_at links k).prev) (λ j. (link_at new j).next ≡ (link_at links j).next) nexts (y ∷ ys) no_p)
    (all_weaker (λ j. j ≢ y) (λ j. (link_at new j).prev ≡ (link_at links j).prev) (λ j ne. prevs j (λ e. ne (e ∙ c.0.0))) ys apart.0)
    (prevs z (λ e. no_z.0 (sym (e ∙ c.0.0)))))
