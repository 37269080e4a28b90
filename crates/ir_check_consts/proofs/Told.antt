-- What tests of its parts tell of a constant.
use Rattle.std.proofs.Common.{◌≡◌, ℕ, ℤ, Bool, false, List, length, sym, subst}
use Rattle.std.specs.Prelude.{◌↔◌, IsTrue}
use Rattle.ir_tree.specs.Shape.{TyShape, TyShapes, integer, pointer, array, structure, ConstShape, number, boolean, null, undef, poison, zero_value, text, elements, fields, global, address, TypedShape, typed, TypedShapes, NamedTyShape}
use Rattle.ir_layout.specs.Rules.{IsSized}
use Rattle.ir_type_tests.proofs.Both.{never}
use Rattle.ir_rules.specs.Constants.{IsLiteral, Opens, IsAddress, HasConst, HaveElements, HaveFields, HasTyped, HasBase, AreNumbers, WalksBehind, row_numbers}
use Rattle.ir_openings.proofs.Once.{opens_once}

-- a test tells a fact
abbrev pub Tells : Bool → Type 0 → Type 0
Tells b P = IsTrue b ↔ P

-- of a constant with an equal shape
pub same_told : (ts : List NamedTyShape) (c d : ConstShape) (t : TyShape) (b : Bool) → c ≡ d → Tells b (HasConst ts d t) → Tells b (HasConst ts c t)
same_told ts c d t b e tells = subst (λ (z : ConstShape). Tells b (HasConst ts z t)) (sym e) tells

pub number_told : (ts : List NamedTyShape) (value : ℤ) (t : TyShape) (b : Bool) → Tells b (IsLiteral value t) → Tells b (HasConst ts (number value) t)
unfolding HasConst
number_told ts value t b tells = tells

pub boolean_told : (ts : List NamedTyShape) (value : Bool) (t : TyShape) (b : Bool) → Tells b (t ≡ integer 1) → Tells b (HasConst ts (boolean value) t)
unfolding HasConst
boolean_told ts value t b tells = tells

pub null_told : (ts : List NamedTyShape) (t : TyShape) (b : Bool) → Tells b (t ≡ pointer) → Tells b (HasConst ts null t)
unfolding HasConst
null_told ts t b tells = tells

pub global_told : (ts : List NamedTyShape) (name : List ℕ) (t : TyShape) (b : Bool) → Tells b (t ≡ pointer) → Tells b (HasConst ts (global name) t)
unfolding HasConst
global_told ts name t b tells = tells

pub undef_told : (ts : List NamedTyShape) (t : TyShape) (b : Bool) → Tells b (IsSized ts t) → Tells b (HasConst ts undef t)
unfolding HasConst
undef_told ts t b tells = tells

pub poison_told : (ts : List NamedTyShape) (t : TyShape) (b : Bool) → Tells b (IsSized ts t) → Tells b (HasConst ts poison t)
unfolding HasConst
poison_told ts t b tells = tells

pub zero_told : (ts : List NamedTyShape) (t : TyShape) (b : Bool) → Tells b (IsSized ts t) → Tells b (HasConst ts zero_value t)
unfolding HasConst
zero_told ts t b tells = tells

parts_equal : (count n : ℕ) (e f : TyShape) → array count e ≡ array n f → (count ≡ n) × (e ≡ f)
parts_equal count n e f same = (cc, cc)

-- a string
pub text_told : (ts : List NamedTyShape) (t e : TyShape) (count : ℕ) (bytes : List ℕ) (b : Bool) → Opens ts t (array count e) → count ≡ length bytes
    → Tells b (e ≡ integer 8) → Tells b (HasConst ts (text bytes) t)
unfolding HasConst
text_told ts t e count bytes b opens long tells = (
  λ yes.
      let byte = tells.0 yes in
      let same : array count e ≡ array (length bytes) (integer 8) = cc in
      subst (λ (z : TyShape). Opens ts t z) same opens,
  λ has. tells.1 (parts_equal count (length bytes) e (integer 8) (opens_once ts t (array count e) (array (length bytes) (integer 8)) opens has)).1,
)

pub other_long_text : (ts : List NamedTyShape) (t e : TyShape) (count : ℕ) (bytes : List ℕ) (b : Bool) → b ≡ false → Opens ts t (array count e)
    → (count ≡ length bytes → ⊥) → Tells b (HasConst ts (text bytes) t)
unfolding HasConst
other_long_text ts t e count bytes b is opens other =
    never (HasConst ts (text bytes) t) b is
    (λ has. other (parts_equal count (length bytes) e (integer 8) (opens_once ts t (array count e) (array (length bytes) (integer 8)) opens has)).0)

-- where a type is no array, it has no string and no array
pub no_text : (ts : List NamedTyShape) (t : TyShape) (bytes : List ℕ) (b : Bool) → b ≡ false
    → ((count : ℕ) (element : TyShape) → Opens ts t (array count element) → ⊥) → Tells b (HasConst ts (text bytes) t)
unfolding HasConst
no_text ts t bytes b is none = never (HasConst ts (text bytes) t) b is (λ has. none (length bytes) (integer 8) has)

pub no_elements : (ts : List NamedTyShape) (t : TyShape) (vs : TypedShapes) (b : Bool) → b ≡ false
    → ((count : ℕ) (element : TyShape) → Opens ts t (array count element) → ⊥) → Tells b (HasConst ts (elements vs) t)
unfolding HasConst
no_elements ts t vs b is none = never (HasConst ts (elements vs) t) b is (λ has. none has.0 has.1 has.2)

-- an array
pub elements_told : (ts : List NamedTyShape) (t e : TyShape) (count : ℕ) (vs : TypedShapes) (b : Bool) → Opens ts t (array count e)
    → Tells b (HaveElements ts vs count e) → Tells b (HasConst ts (elements vs) t)
unfolding HasConst
elements_told ts t e count vs b opens tells = (
  λ yes. (count, e, opens, tells.0 yes),
  λ has.
      let same = parts_equal has.0 count has.1 e (opens_once ts t (array has.0 has.1) (array count e) has.2 opens) in
      tells.1 (subst (λ (n : ℕ). HaveElements ts vs n e) same.0 (subst (λ (z : TyShape). HaveElements ts vs has.0 z) same.1 has.3)),
)

rows_equal : (row r : TyShapes) (packed p : Bool) → structure row packed ≡ structure r p → (row ≡ r) × (packed ≡ p)
rows_equal row r packed p same = (cc, cc)

-- a structure
pub fields_told : (ts : List NamedTyShape) (t : TyShape) (row : TyShapes) (packed tight : Bool) (vs : TypedShapes) (b : Bool) → Opens ts t (structure row tight)
    → packed ≡ tight → Tells b (HaveFields ts vs row) → Tells b (HasConst ts (fields vs packed) t)
unfolding HasConst
fields_told ts t row packed tight vs b opens alike tells = (
  λ yes. (row, subst (λ (p : Bool). Opens ts t (structure row p)) (sym alike) opens, tells.0 yes),
  λ has.
      let same = rows_equal has.0 row packed tight (opens_once ts t (structure has.0 packed) (structure row tight) has.1 opens) in
      tells.1 (subst (λ (z : TyShapes). HaveFields ts vs z) same.0 has.2),
)

pub other_packed : (ts : List NamedTyShape) (t : TyShape) (row : TyShapes) (packed tight : Bool) (vs : TypedShapes) (b : Bool) → b ≡ false
    → Opens ts t (structure row tight) → (packed ≡ tight → ⊥) → Tells b (HasConst ts (fields vs packed) t)
unfolding HasConst
other_packed ts t row packed tight vs b is opens other =
    never (HasConst ts (fields vs packed) t) b is
    (λ has. other (rows_equal has.0 row packed tight (opens_once ts t (structure has.0 packed) (structure row tight) has.1 opens)).1)

pub no_fields : (ts : List NamedTyShape) (t : TyShape) (packed : Bool) (vs : TypedShapes) (b : Bool) → b ≡ false
    → ((row : TyShapes) (tight : Bool) → Opens ts t (structure row tight) → ⊥) → Tells b (HasConst ts (fields vs packed) t)
unfolding HasConst
no_fields ts t packed vs b is none = never (HasConst ts (fields vs packed) t) b is (λ has. none has.0 packed has.1)

-- what an address steps through and by
abbrev pub AreSteps : List NamedTyShape → TyShape → TypedShapes → Type 0
AreSteps ts u indices = IsSized ts u × AreNumbers indices × WalksBehind ts u (row_numbers indices)

pub address_told : (ts : List NamedTyShape) (inbounds : Bool) (u t : TyShape) (base : TypedShape) (indices : TypedShapes) (b : Bool) → t ≡ pointer
    → HasBase ts base → Tells b (AreSteps ts u indices) → Tells b (HasConst ts (address inbounds u base indices) t)
unfolding HasConst
address_told ts inbounds u t base indices b is has tells = (
  λ yes. let parts = tells.0 yes in (is, parts.0, has, parts.1, parts.2),
  λ all. tells.1 (all.1, all.3, all.4),
)

pub no_address : (ts : List NamedTyShape) (inbounds : Bool) (u t : TyShape) (base : TypedShape) (indices : TypedShapes) (b : Bool) → b ≡ false
    → (t ≡ pointer → HasBase ts base → ⊥) → Tells b (HasConst ts (address inbounds u base indices) t)
unfolding HasConst
no_address ts inbounds u t base indices b unmet none = never (HasConst ts (address inbounds u base indices) t) b unmet (λ all. none all.0 all.2)

-- a constant with its type
pub typed_told : (ts : List NamedTyShape) (u t : TyShape) (c : ConstShape) (v : TypedShape) (b : Bool) → v ≡ typed u c → u ≡ t → Tells b (HasConst ts c t)
    → Tells b (HasTyped ts v t)
unfolding HasConst HasTyped
typed_told ts u t c v b is same tells =
    subst (λ (z : TypedShape). Tells b (HasTyped ts z t)) (sym is) ((λ yes. (same, tells.0 yes)), λ has. tells.1 has.1)

pub other_typed : (ts : List NamedTyShape) (u t : TyShape) (c : ConstShape) (v : TypedShape) (b : Bool) → b ≡ false → v ≡ typed u c → (u ≡ t → ⊥)
    → Tells b (HasTyped ts v t)
unfolding HasConst HasTyped
other_typed ts u t c v b unmet is other =
    subst (λ (z : TypedShape). Tells b (HasTyped ts z t)) (sym is) (never (HasTyped ts (typed u c) t) b unmet (λ has. other has.0))

-- a base
pub base_told : (ts : List NamedTyShape) (u : TyShape) (c : ConstShape) (v : TypedShape) (b : Bool) → v ≡ typed u c → u ≡ pointer → IsAddress c
    → Tells b (HasConst ts c u) → Tells b (HasBase ts v)
unfolding HasConst HasBase
base_told ts u c v b is same at tells =
    subst (λ (z : TypedShape). Tells b (HasBase ts z)) (sym is)
    ((λ yes. (same, at, subst (λ (z : TyShape). HasConst ts c z) same (tells.0 yes))), λ has. tells.1 (subst (λ (z : TyShape). HasConst ts c z) (sym same) has.2))

pub other_base : (ts : List NamedTyShape) (u : TyShape) (c : ConstShape) (v : TypedShape) (b : Bool) → b ≡ false → v ≡ typed u c
    → (u ≡ pointer → IsAddress c → ⊥) → Tells b (HasBase ts v)
unfolding HasConst HasBase
other_base ts u c v b unmet is other =
    subst (λ (z : TypedShape). Tells b (HasBase ts z)) (sym is) (never (HasBase ts (typed u c)) b unmet (λ has. other has.0 has.1))

-- three facts at once
pub three_told : (P Q R : Type 0) (b : Bool) → P → Q → Tells b R → Tells b (P × Q × R)
three_told P Q R b p q tells = ((λ yes. (p, q, tells.0 yes)), λ all. tells.1 all.2)

pub three_fail : (P Q R : Type 0) (b : Bool) → b ≡ false → (P → Q → ⊥) → Tells b (P × Q × R)
three_fail P Q R b unmet none = never (P × Q × R) b unmet (λ all. none all.0 all.1)
