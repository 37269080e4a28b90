-- Rows that got a node, and rows that are the edges of a graph turned round.
use Rattle.std.proofs.Common.{◌≡◌, ◌↔◌, ◌⊎◌, ℕ, zero, suc, ◌+◌, ◌<◌, ◌≤◌, List, [], ◌∷◌, ◌++◌, Option, Some, inl, inr, Contains, length, map, take, get_or, slice_get, refl, sym, ◌∙◌, ap, subst, arith}
use Rattle.std.proofs.Math.ListN.{set}
use Rattle.std.proofs.lemmas.Bool.{cases_eq}
use Rattle.std.proofs.lemmas.List.{length-set, length-map, map-set, take_more}
use Rattle.std.proofs.lemmas.List.Elements.{Contains-append_left, Contains-append_right, Contains-append_cases}
use Rattle.std.proofs.lemmas.Option.{slice_get_within, slice_get-map, slice_get_read}
use Rattle.std.specs.Option.{option_map}
use Rattle.graph_paths.specs.Paths.{Leads}
use Rattle.ir_layout.proofs.Slices.{get_set_same, get_set_other}
use Rattle.ir_edges.specs.Tables.{ArePredecessors, HaveNoted}

contains_one : (x y : ℕ) → Contains (x ∷ []) y → x ≡ y
contains_one x y (zero, within, is) = is
contains_one x y (suc k, within, is) = absurd (omega arith)

one_contains : (x : ℕ) → Contains (x ∷ []) x
one_contains x = (0, omega arith, refl)

nil_contains : (x : ℕ) → Contains [] x → ⊥
nil_contains x (k, within, is) = omega arith

some_is : {X : Type 0} (x y : X) → Some x ≡ Some y → x ≡ y
some_is x y e = cc

-- the edges out of a node are those to the nodes of its row
row_leads : (rows : List (List ℕ)) (node x : ℕ) (row : List ℕ) → slice_get rows node ≡ Some row → Leads rows node x → Contains row x
row_leads rows node x row is (r, at, has) = subst (λ (z : List ℕ). Contains z x) (some_is r row (sym at ∙ is)) has

-- the edges out of other nodes than that whose row was written
other_led : (rows : List (List ℕ)) (to node x : ℕ) (new : List ℕ) → (to ≡ node → ⊥) → Leads (set rows to new) node x → Leads rows node x
other_led rows to node x new other (r, at, has) = (r, sym (get_set_other rows to node new other) ∙ at, has)

other_leads : (rows : List (List ℕ)) (to node x : ℕ) (new : List ℕ) → (to ≡ node → ⊥) → Leads rows node x → Leads (set rows to new) node x
other_leads rows to node x new other (r, at, has) = (r, get_set_other rows to node new other ∙ at, has)

-- the node that was noted, at the row that got it
noted_here : (from to x : ℕ) (rows : List (List ℕ)) (row new : List ℕ) → slice_get rows to ≡ Some row → (Contains new x ↔ (Contains row x ⊎ (x ≡ from)))
    → Leads (set rows to new) to x ↔ (Leads rows to x ⊎ ((x ≡ from) × Contains (to ∷ []) to))
noted_here from to x rows row new is says =
    let written : slice_get (set rows to new) to ≡ Some new = get_set_same rows to new (slice_get_within rows to row is) in (
      (λ leads. elim (says.0 (row_leads (set rows to new) to x new written leads)) [
        | inl old ↦ inl (row, is, old)
        | inr same ↦ inr (same, one_contains to)
      ]),
      (λ either. elim either [
        | inl old ↦ (new, written, says.1 (inl (row_leads rows to x row is old)))
        | inr noted ↦ (new, written, says.1 (inr noted.0))
      ]),
    )

-- and at the others
noted_other : (from to node x : ℕ) (rows : List (List ℕ)) (new : List ℕ) → (to ≡ node → ⊥)
    → Leads (set rows to new) node x ↔ (Leads rows node x ⊎ ((x ≡ from) × Contains (to ∷ []) node))
noted_other from to node x rows new other = (
  (λ leads. inl (other_led rows to node x new other leads)),
  (λ either. elim either [
    | inl old ↦ other_leads rows to node x new other old
    | inr noted ↦ absurd (other (contains_one to node noted.1))
  ]),
)

-- a row that got a node
pub noted_edge : (from to : ℕ) (rows : List (List ℕ)) (row new : List ℕ) → slice_get rows to ≡ Some row
    → ((x : ℕ) → Contains new x ↔ (Contains row x ⊎ (x ≡ from))) → HaveNoted from (to ∷ []) rows (set rows to new)
noted_edge from to rows row new is says = record {
  long = length-set rows to new;
  each = λ node x within. elim (cases_eq to node) [
    | inl same ↦
        subst (λ (z : ℕ). Leads (set rows to new) z x ↔ (Leads rows z x ⊎ ((x ≡ from) × Contains (to ∷ []) z))) same
        (noted_here from to x rows row new is (says x))
    | inr other ↦ noted_other from to node x rows new other
  ];
}

-- a row of a list, as it was read
row_at : {V : Type 0} (items : V → List ℕ) (rows : List V) (node : ℕ) (row : V) → node < length rows → row ≡ get_or rows node row
    → slice_get (map items rows) node ≡ Some (items row)
row_at {V} items rows node row within read =
    slice_get-map items rows node ∙ ap (λ (z : Option V). option_map items z) (slice_get_read rows (length rows) node row refl within read)

-- the same, of the list whose rows they are
pub noted_at : {V : Type 0} (items : V → List ℕ) (from to : ℕ) (rows : List V) (row new : V) → to < length rows → row ≡ get_or rows to row
    → ((x : ℕ) → Contains (items new) x ↔ (Contains (items row) x ⊎ (x ≡ from))) → HaveNoted from (to ∷ []) (map items rows) (map items (set rows to new))
noted_at items from to rows row new within read says =
    subst (λ (z : List (List ℕ)). HaveNoted from (to ∷ []) (map items rows) z) (sym (map-set items rows to new))
    (noted_edge from to (map items rows) (items row) (items new) (row_at items rows to row within read) says)

-- an edge out of the rows is noted nowhere
pub noted_out : (from to : ℕ) (rows : List (List ℕ)) → length rows ≤ to → HaveNoted from (to ∷ []) rows rows
noted_out from to rows out = record {
  long = refl;
  each = λ node x within. (
    (λ leads. inl leads),
    (λ either. elim either [
      | inl old ↦ old
      | inr noted ↦ let same : to ≡ node = contains_one to node noted.1 in absurd (omega arith)
    ]),
  );
}

-- nothing is noted
pub noted_none : (from : ℕ) (rows : List (List ℕ)) → HaveNoted from [] rows rows
noted_none from rows = record {
  long = refl;
  each = λ node x within.
      ((λ leads. inl leads), (λ either. elim either [ inl old ↦ old | inr noted ↦ absurd (nil_contains node noted.1) ]));
}

-- some edges are noted, and then others
pub noted_both : (from : ℕ) (xs ys : List ℕ) (a b c : List (List ℕ)) → HaveNoted from xs a b → HaveNoted from ys b c → HaveNoted from (xs ++ ys) a c
noted_both from xs ys a b c one two = record {
  long = two.long ∙ one.long;
  each = λ node x within.
      let long : length b ≡ length a = one.long in
      let first : Leads b node x ↔ (Leads a node x ⊎ ((x ≡ from) × Contains xs node)) = one.each node x within in
      let second : Leads c node x ↔ (Leads b node x ⊎ ((x ≡ from) × Contains ys node)) = two.each node x (omega arith) in (
        (λ leads. elim (second.0 leads) [
          | inl mid ↦ elim (first.0 mid) [ inl old ↦ inl old | inr noted ↦ inr (noted.0, Contains-append_left xs ys node noted.1) ]
          | inr noted ↦ inr (noted.0, Contains-append_right xs ys node noted.1)
        ]),
        (λ either. elim either [
          | inl old ↦ second.1 (inl (first.1 (inl old)))
          | inr noted ↦ elim (Contains-append_cases xs ys node noted.1) [
            | inl has ↦ second.1 (inl (first.1 (inr (noted.0, has))))
            | inr has ↦ second.1 (inr (noted.0, has))
          ]
        ]),
      );
}

-- one edge more
pub noted_more : (from : ℕ) (to : List ℕ) (i d : ℕ) (a b c : List (List ℕ)) → i < length to → HaveNoted from (take i to) a b
    → HaveNoted from (get_or to i d ∷ []) b c → HaveNoted from (take (i + 1) to) a c
noted_more from to i d a b c within one two =
    subst (λ (z : List ℕ). HaveNoted from z a c) (sym (take_more to i d within)) (noted_both from (take i to) (get_or to i d ∷ []) a b c one two)

-- rows have the edges out of the nodes below a number, turned round
pub record TurnedBelow (graph rows : List (List ℕ)) (n : ℕ) : Type 0 where
  pub long : length rows ≡ length graph
  pub each : (to from : ℕ) → to < length graph → Leads rows to from ↔ ((from < n) × Leads graph from to)

-- the row of the next node
pub turned_more : (graph rows next : List (List ℕ)) (n : ℕ) (row : List ℕ) → slice_get graph n ≡ Some row → TurnedBelow graph rows n
    → HaveNoted n row rows next → TurnedBelow graph next (n + 1)
turned_more graph rows next n row is turned noted = record {
  long = noted.long ∙ turned.long;
  each = λ to from within.
      let long : length rows ≡ length graph = turned.long in
      let before : Leads rows to from ↔ ((from < n) × Leads graph from to) = turned.each to from within in
      let step : Leads next to from ↔ (Leads rows to from ⊎ ((from ≡ n) × Contains row to)) = noted.each to from (omega arith) in (
        (λ leads. elim (step.0 leads) [
          | inl old ↦ let less : from < n = (before.0 old).0 in (omega arith, (before.0 old).1)
          | inr here ↦ let same : from ≡ n = here.0 in (omega arith, subst (λ (z : ℕ). Leads graph z to) (sym same) (row, is, here.1))
        ]),
        (λ edge. let less : from < n + 1 = edge.0 in elim (cases_eq from n) [
          | inl same ↦ step.1 (inr (same, row_leads graph n to row is (subst (λ (z : ℕ). Leads graph z to) same edge.1)))
          | inr other ↦ step.1 (inl (before.1 (omega arith, edge.1)))
        ]),
      );
}

-- all rows
pub turned_all : (graph rows : List (List ℕ)) (n : ℕ) → length graph ≤ n → TurnedBelow graph rows n → ArePredecessors graph rows
turned_all graph rows n all turned = record {
  long = turned.long;
  each = λ to from within. (
    (λ leads. ((turned.each to from within).0 leads).1),
    (λ edge. let less : from < length graph = slice_get_within graph from edge.0 edge.1 in (turned.each to from within).1 (omega arith, edge)),
  );
}

-- the same of lists whose rows they are
pub turned_next : {V : Type 0} (items : V → List ℕ) (graph rows next : List V) (n : ℕ) (row : V) (to : List ℕ) → n < length graph → row ≡ get_or graph n row
    → to ≡ items row → TurnedBelow (map items graph) (map items rows) n → HaveNoted n to (map items rows) (map items next)
    → TurnedBelow (map items graph) (map items next) (n + 1)
turned_next items graph rows next n row to within read same turned noted =
    turned_more (map items graph) (map items rows) (map items next) n (items row) (row_at items graph n row within read) turned
    (subst (λ (z : List ℕ). HaveNoted n z (map items rows) (map items next)) same noted)

pub turned_end : {V : Type 0} (items : V → List ℕ) (graph rows : List V) (n : ℕ) → length graph ≤ n → TurnedBelow (map items graph) (map items rows) n
    → ArePredecessors (map items graph) (map items rows)
turned_end items graph rows n all turned = turned_all (map items graph) (map items rows) n (omega (arith, length-map graph items)) turned
