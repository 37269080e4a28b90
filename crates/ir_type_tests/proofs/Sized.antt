-- That a type is sized, by the layout that was found.
use Rattle.std.proofs.Common.{◌≡◌, ℤ, ◌*◌, ◌≤◌, Bool, List, Option, Some, None, refl, sym, subst}
use Rattle.std.specs.Prelude.{◌↔◌, IsTrue, is_some}
use Rattle.ir_tree.specs.Shape.{TyShape, NamedTyShape}
use Rattle.ir_layout.specs.declared.sizes.Layout.{Layout}
use Rattle.ir_layout.specs.Layout.{most_size}
use Rattle.ir_layout.specs.Rules.{HasLayout, IsSized}
use Rattle.ir_rules.specs.Instructions.{HasRoom}
use Rattle.ir_type_tests.specs.Parts.{AreSmall}

pub sized : (ts : List NamedTyShape) (t : TyShape) (o : Option Layout) → ((l : Layout) → (o ≡ Some l) ↔ HasLayout ts t l)
    → IsTrue (is_some o) ↔ IsSized ts t
sized ts t None h = (λ no. cc, λ s. let e : ◌≡◌ {A = Option Layout} None (Some s.0) = (h s.0).1 s.1 in cc)
sized ts t (Some l) h = (λ yes. (l, (h l).0 refl), λ s. refl)

pub room_none : (ts : List NamedTyShape) (t : TyShape) (count : ℤ) → ((l : Layout) → (None ≡ Some l) ↔ HasLayout ts t l) → HasRoom ts t count → ⊥
room_none ts t count h (n, l, is, has, small) = let e : ◌≡◌ {A = Option Layout} None (Some l) = (h l).1 has in cc

pub room_some : (ts : List NamedTyShape) (t : TyShape) (count : ℤ) (l : Layout) → ((k : Layout) → (Some l ≡ Some k) ↔ HasLayout ts t k)
    → (b : Bool) → IsTrue b ↔ AreSmall l.size count → IsTrue b ↔ HasRoom ts t count
room_some ts t count l h b both = (
  λ yes. let s = both.0 yes in (s.0, l, s.1, (h l).0 refl, s.2),
  λ room.
      let e : ◌≡◌ {A = Option Layout} (Some l) (Some room.1) = (h room.1).1 room.3 in
      let same : l ≡ room.1 = cc in
      both.1 (room.0, room.2, subst (λ (k : Layout). room.0 * k.size ≤ most_size) (sym same) room.4),
)
