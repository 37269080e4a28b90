-- Entries that clash with the first ones of their names, and with any.
use Rattle.std.proofs.Common.{◌≡◌, ℕ, ◌+◌, ◌<◌, ◌≤◌, min, inl, inr, ◌⊎◌, List, length, Option, Some, None, refl, sym, ◌∙◌, ap, subst, arith, slice_get, get_or}
use Rattle.std.proofs.lemmas.Option.{slice_get_within, get_or_from_slice_get}
use Rattle.std.proofs.lemmas.Bool.Decides.{eqb_tells, leb_tells}
use Rattle.ir_tree.specs.Shape.{DeclareShape, ModuleShape}
use Rattle.ir_tree.specs.ShapeOf.{module_shape}
use Rattle.ir_tree.specs.declared.module.Module.{Module}
use Rattle.ir_rules.specs.Places.{Place}
use Rattle.ir_rules.specs.NameRules.{AreTwins, declared_at}
use Rattle.ir_rules.specs.Faults.{IsFirst}
use Rattle.ir_repeats.specs.declared.entries.Entry.{Entry}
use Rattle.ir_repeats.specs.declared.entries.Item.{Item}
use Rattle.ir_repeats.specs.Least.{least_of}
use Rattle.ir_repeats.specs.Entries.{place_of, EntryClash, IsAmong, MayShare, IsFine, AreEarliest}
use Rattle.ir_repeats.proofs.Firsts.{FirstWith, first_with}

one_of : {X : Type 0} (o : Option X) (x y : X) → o ≡ Some x → o ≡ Some y → x ≡ y
one_of o x y e f =
    let same : ◌≡◌ {A = Option _} (Some x) (Some y) = sym e ∙ f in
    cc

-- two declared functions at places are twins exactly where their types are the same
pub twins_of : (m : ModuleShape) (x y : Place) (a b : DeclareShape) → Some a ≡ declared_at m x → Some b ≡ declared_at m y → (a.ret ≡ b.ret) × (a.params ≡ b.params)
    → AreTwins m x y
twins_of m x y a b at_x at_y same = (a, b, sym at_x, sym at_y, same.0, same.1)

pub alike_of : (m : ModuleShape) (x y : Place) (a b : DeclareShape) → Some a ≡ declared_at m x → Some b ≡ declared_at m y → AreTwins m x y
    → (a.ret ≡ b.ret) × (a.params ≡ b.params)
alike_of m x y a b at_x at_y t =
    let one : a ≡ t.0 = one_of _ _ _ (sym at_x) t.2 in
    let other : b ≡ t.1 = one_of _ _ _ (sym at_y) t.3 in
    (rw (one, other) t.4, rw (one, other) t.5)

pub twins_turn : (m : ModuleShape) (x y : Place) → AreTwins m x y → AreTwins m y x
twins_turn m x y t = (t.1, t.0, t.3, t.2, sym t.4, sym t.5)

pub twins_join : (m : ModuleShape) (x y z : Place) → AreTwins m x y → AreTwins m y z → AreTwins m x z
twins_join m x y z t u =
    let declared : t.1 ≡ u.0 = one_of _ _ _ t.3 u.2 in
    let ret : t.1.ret ≡ u.0.ret = ap (λ (d : DeclareShape). d.ret) declared in
    let params : t.1.params ≡ u.0.params = ap (λ (d : DeclareShape). d.params) declared in
    (t.0, u.1, t.2, u.3, t.4 ∙ ret ∙ u.4, t.5 ∙ params ∙ u.5)

-- entries that are each the first one of the name or its twin don't clash
pub fine_apart : (m : Module) (entries : List Entry) (firsts : List (Option ℕ)) (d e : Entry) → d.name.0 ≡ e.name.0 → IsFine m entries firsts d
    → IsFine m entries firsts e → (d.item ≡ e.item → ⊥) → AreTwins (module_shape m) (place_of d.item) (place_of e.item)
fine_apart m entries firsts d e named f g apart =
    let number : ◌≡◌ {A = Option ℕ} (Some f.i) (Some g.i) =
    one_of _ _ _ f.is_first (subst (λ (k : ℕ). slice_get firsts k ≡ Some (Some g.i)) (sym named) g.is_first) in
    let index : f.i ≡ g.i = cc in
    let first : f.first ≡ g.first = one_of _ _ _ f.at (subst (λ (k : ℕ). slice_get entries k ≡ Some g.first) (sym index) g.at) in
    let item : f.first.item ≡ g.first.item = ap (λ (z : Entry). z.item) first in
    let twins = λ (x y : Item). AreTwins (module_shape m) (place_of x) (place_of y) in
    elim f.fine [
      | inl a ↦ elim g.fine [
        | inl b ↦ absurd (apart (sym a ∙ item ∙ b))
        | inr b ↦ subst (λ (x : Item). AreTwins (module_shape m) (place_of x) (place_of e.item)) (sym item ∙ a) b
      ]
      | inr a ↦
          let turned = subst (λ (x : Item). AreTwins (module_shape m) (place_of d.item) (place_of x)) item (twins_turn (module_shape m) _ _ a) in
          elim g.fine [
            | inl b ↦ subst (λ (x : Item). AreTwins (module_shape m) (place_of d.item) (place_of x)) b turned
            | inr b ↦ twins_join (module_shape m) _ _ _ turned b
          ]
    ]

-- an entry that may not share its name with the first one clashes with it, at its own offset
pub clashes_there : (m : Module) (entries : List Entry) (firsts : List (Option ℕ)) (d : Entry) (first : Option ℕ) → IsAmong entries d
    → (w : FirstWith entries firsts d first) → (MayShare m w.e.item d.item → ⊥) → EntryClash m entries d.spot
clashes_there m entries firsts d first among w differs =
    record {
      i = w.i;
      j = among.0;
      one = w.e;
      other = d;
      is_one = w.at;
      is_other = among.1;
      same = w.named;
      apart = λ e. differs (inl e);
      no_twins = λ t. differs (inr t);
      later = omega (arith, w.before);
    }

pub fine_there : (m : Module) (entries : List Entry) (firsts : List (Option ℕ)) (d : Entry) (first : Option ℕ)
    → (w : FirstWith entries firsts d first) → MayShare m w.e.item d.item → IsFine m entries firsts d
fine_there m entries firsts d first w shares = record { i = w.i; first = w.e; is_first = w.in_table; at = w.at; fine = shares }

-- what was found among the entries below a place: a clash, and nothing stands before it that isn't fine
pub record HasFound (m : Module) (entries : List Entry) (firsts : List (Option ℕ)) (below : ℕ) (found : Option ℕ) : Type 0 where
  pub clash : (s : ℕ) → found ≡ Some s → EntryClash m entries s
  pub least : (j : ℕ) (d : Entry) → j < below → slice_get entries j ≡ Some d → IsFine m entries firsts d ⊎ ((s : ℕ) × (found ≡ Some s) × (s ≤ d.spot))

pub found_first : (m : Module) (entries : List Entry) (firsts : List (Option ℕ)) (found : Option ℕ) → HasFound m entries firsts (length entries) found
    → IsFirst (EntryClash m entries) found
found_first m entries firsts found h = all found h
  where
    within : (xs : List Entry) (j : ℕ) (d : Entry) → slice_get xs j ≡ Some d → j < length xs
    within xs j d e = slice_get_within xs j d e

    bound : (f : Option ℕ) → HasFound m entries firsts (length entries) f → (at : ℕ) → EntryClash m entries at → (s : ℕ) × (f ≡ Some s) × (s ≤ at)
    bound f g at c =
        elim (g.least c.i c.one (within entries c.i c.one c.is_one) c.is_one) [
          | inr a ↦ (a.0, a.1, omega (arith, a.2, c.later))
          | inl a ↦ elim (g.least c.j c.other (within entries c.j c.other c.is_other) c.is_other) [
            | inr b ↦ (b.0, b.1, omega (arith, b.2, c.later))
            | inl b ↦ absurd (c.no_twins (fine_apart m entries firsts c.one c.other c.same a b c.apart))
          ]
        ]

    all : (f : Option ℕ) → HasFound m entries firsts (length entries) f → IsFirst (EntryClash m entries) f
    all None g = λ at c. let wrong = bound None g at c in let no : ◌≡◌ {A = Option ℕ} None (Some wrong.0) = wrong.1 in cc
    all (Some s) g = (
      g.clash s refl,
      λ other c.
          let low = bound (Some s) g other c in
          let no : ◌≡◌ {A = Option ℕ} (Some s) (Some low.0) = low.1 in
          let is : s ≡ low.0 = cc in
          omega (arith, is, low.2),
    )

pub first_is : (entries : List Entry) (firsts : List (Option ℕ)) (d : Entry) (i : ℕ) → AreEarliest entries (length entries) firsts → IsAmong entries d
    → slice_get firsts d.name.0 ≡ Some (Some i) → i < length entries
first_is entries firsts d i are among got =
    let w = first_with entries firsts d (Some i) are among got in
    let same : ◌≡◌ {A = Option ℕ} (Some i) (Some w.i) = w.is in
    let index : i ≡ w.i = cc in
    omega (arith, index, w.within)

-- the first entry with the name stands at its index
at_index : (entries : List Entry) (firsts : List (Option ℕ)) (d : Entry) (i : ℕ) (w : FirstWith entries firsts d (Some i)) (default : Entry)
    → get_or entries i default ≡ w.e
at_index entries firsts d i w default =
    let same : ◌≡◌ {A = Option ℕ} (Some i) (Some w.i) = w.is in
    let index : i ≡ w.i = cc in
    get_or_from_slice_get entries i w.e default (subst (λ (k : ℕ). slice_get entries k ≡ Some w.e) (sym index) w.at)

pub share_first : (m : Module) (entries : List Entry) (firsts : List (Option ℕ)) (d : Entry) (i : ℕ) (w : FirstWith entries firsts d (Some i)) (default : Entry)
    → MayShare m (get_or entries i default).item d.item → MayShare m w.e.item d.item
share_first m entries firsts d i w default = subst (λ (z : Entry). MayShare m z.item d.item) (at_index entries firsts d i w default)

pub unshare_first : (m : Module) (entries : List Entry) (firsts : List (Option ℕ)) (d : Entry) (i : ℕ) (w : FirstWith entries firsts d (Some i)) (default : Entry)
    → MayShare m w.e.item d.item → MayShare m (get_or entries i default).item d.item
unshare_first m entries firsts d i w default = subst (λ (z : Entry). MayShare m z.item d.item) (sym (at_index entries firsts d i w default))

-- nothing was looked at yet
pub none_found : (m : Module) (entries : List Entry) (firsts : List (Option ℕ)) → HasFound m entries firsts 0 None
none_found m entries firsts = record { clash = λ s e. cc; least = λ j d below here. absurd (omega (arith, below)) }

-- one entry more, which is fine
pub found_fine : (m : Module) (entries : List Entry) (firsts : List (Option ℕ)) (at : ℕ) (found : Option ℕ) (d : Entry) → slice_get entries at ≡ Some d
    → IsFine m entries firsts d → HasFound m entries firsts at found → HasFound m entries firsts (at + 1) found
found_fine m entries firsts at found d here fine h =
    record {
      clash = h.clash;
      least = λ j e below there.
          elim (eqb_tells j at) [
            | inl same ↦
                let is : d ≡ e = one_of _ _ _ here (subst (λ (k : ℕ). slice_get entries k ≡ Some e) same.1 there) in
                inl (subst (λ (z : Entry). IsFine m entries firsts z) is fine)
            | inr other ↦ h.least j e (omega (arith, below, other.1)) there
          ];
    }

least_below : (found : Option ℕ) (s t : ℕ) → found ≡ Some t → least_of found s ≤ t
least_below None s t e = cc
least_below (Some u) s t e =
    let same : u ≡ t = cc in
    omega (arith, same)

least_at : (found : Option ℕ) (s : ℕ) → least_of found s ≤ s
least_at None s = omega arith
least_at (Some u) s = omega arith

least_clash : (m : Module) (entries : List Entry) (found : Option ℕ) (s : ℕ) → ((t : ℕ) → found ≡ Some t → EntryClash m entries t) → EntryClash m entries s
    → EntryClash m entries (least_of found s)
least_clash m entries None s before clash = clash
least_clash m entries (Some u) s before clash =
    elim (min_is u s) [
      | inl e ↦ subst (λ (n : ℕ). EntryClash m entries n) (sym e) (before u refl)
      | inr e ↦ subst (λ (n : ℕ). EntryClash m entries n) (sym e) clash
    ]
  where
    min_is : (u s : ℕ) → (min u s ≡ u) ⊎ (min u s ≡ s)
    min_is u s = elim (leb_tells u s) [
      | inl h ↦ inl (omega (arith, h.1))
      | inr h ↦ inr (omega (arith, h.1))
    ]

-- one entry more, which clashes
pub found_clash : (m : Module) (entries : List Entry) (firsts : List (Option ℕ)) (at : ℕ) (found : Option ℕ) (d : Entry) (s : ℕ) → slice_get entries at ≡ Some d
    → EntryClash m entries s → s ≡ d.spot → HasFound m entries firsts at found → HasFound m entries firsts (at + 1) (Some (least_of found s))
found_clash m entries firsts at found d s here clash spot h =
    record {
      clash = λ t e.
          let same : least_of found s ≡ t = cc in
          subst (λ (n : ℕ). EntryClash m entries n) same (least_clash m entries found s h.clash clash);
      least = λ j e below there.
          elim (eqb_tells j at) [
            | inl same ↦
                let is : d ≡ e = one_of _ _ _ here (subst (λ (k : ℕ). slice_get entries k ≡ Some e) same.1 there) in
                let at_spot : d.spot ≡ e.spot = ap (λ (z : Entry). z.spot) is in
                inr (least_of found s, refl, omega (arith, spot, at_spot, least_at found s))
            | inr other ↦ elim (h.least j e (omega (arith, below, other.1)) there) [
              | inl fine ↦ inl fine
              | inr low ↦ inr (least_of found s, refl, omega (arith, low.2, least_below found s low.0 low.1))
            ]
          ];
    }
