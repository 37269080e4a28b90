-- The operands of an instruction, by the names that code has of them.
use Rattle.std.proofs.Common.{◌≡◌, ℕ, Bool, false, List, map, Option, Some, None, Vec, Contains, refl, sym, ◌∙◌, ap, subst}
use Rattle.std.specs.Prelude.{◌↔◌, IsTrue, is_some}
use Rattle.ir_tree.specs.Shape.{local, PhiInShape, BodyShape, InstShape, FunctionShape}
use Rattle.ir_tree.specs.NameTable.{text_of}
use Rattle.ir_tree.specs.ShapeOf.{val_shape, phi_in_shape, body_shape}
use Rattle.ir_tree.specs.declared.names.NameId.{NameId}
use Rattle.ir_tree.specs.declared.module.Val.TheVariants.{Local}
use Rattle.ir_tree.specs.declared.module.Body.{Body}
use Rattle.ir_tree.specs.declared.module.Body.TheVariants.{Phi}
use Rattle.ir_tree.specs.declared.types.Ty.{Ty}
use Rattle.std.specs.declared.alloc.Global.{Global}
use Rattle.ir_tree.specs.declared.module.PhiIn.{PhiIn}
use Rattle.ir_rules.specs.declared.Site.{Site}
use Rattle.ir_rules.specs.Values.{block_of}
use Rattle.ir_edges.specs.Locals.{operand_names}
use Rattle.ir_edges.proofs.Uses.{used_operands}
use Rattle.ir_proper.specs.Edges.{targets}
use Rattle.ir_proper.specs.Availability.{site_of, IsThere, IsThereAtEnd}
use Rattle.ir_proper.specs.FlowRules.{ComeFromPredecessors, AreThereAt, AreThereAtEnds, phi_inputs, HasOperands, HasProperFlow}
use Rattle.ir_flow.specs.Phis.{IsInputThere}
use Rattle.ir_flow.proofs.OneByOne.{HoldsOfAll, mapped_of, mapped_to}

-- the names of the operands are those of the values that are used
pub operands_there : (f : FunctionShape) (b i : ℕ) (body : BodyShape) (names : List (List ℕ)) (W : Type 0) → names ≡ operand_names body
    → W ↔ ((name : List ℕ) (site : Site) → Contains names name → site_of f name ≡ Some site → IsThere f site b i) → W ↔ AreThereAt f b i body
operands_there f b i body names W same tells = (
  λ w name site used given.
      tells.0 w name site (subst (λ (z : List (List ℕ)). Contains z name) (sym same) ((used_operands body name).1 used)) given,
  λ all. tells.1 (λ name site there given.
      all name site ((used_operands body name).0 (subst (λ (z : List (List ℕ)). Contains z name) same there)) given),
)

-- each input's value is there
pub ends_by_each : (names : List (List ℕ)) (f : FunctionShape) (inputs : List PhiIn) → HoldsOfAll (λ x. IsInputThere f (phi_in_shape names x)) inputs
    → AreThereAtEnds f (map (phi_in_shape names) inputs)
ends_by_each names f inputs all = λ k from x name site e is given stands.
    let y = mapped_of (phi_in_shape names) inputs k x e in
    subst (λ (z : PhiInShape). IsInputThere f z) y.2 (all k y.0 y.1) from name site is given stands

pub each_by_ends : (names : List (List ℕ)) (f : FunctionShape) (inputs : List PhiIn) → AreThereAtEnds f (map (phi_in_shape names) inputs)
    → HoldsOfAll (λ x. IsInputThere f (phi_in_shape names x)) inputs
each_by_ends names f inputs ends = λ k y e from name site is given stands.
    ends k from (phi_in_shape names y) name site (mapped_to (phi_in_shape names) inputs k y e) is given stands

pub is_no_phi : (o : Option (List PhiInShape)) (inputs : List PhiInShape) → is_some o ≡ false → o ≡ Some inputs → ⊥
is_no_phi None inputs e is = cc
is_no_phi (Some x) inputs e is = cc

-- what leads on, and has no phi in the first block, is proper where its operands are
pub flow_by_operands : (f : FunctionShape) (b i : ℕ) (x : InstShape) (W : Type 0)
    → ((name : List ℕ) → Contains (targets x.body) name → block_of f name ≡ Some 0 → ⊥)
    → ((inputs : List PhiInShape) → phi_inputs x.body ≡ Some inputs → b ≡ 0 → ⊥) → W ↔ HasOperands f b i x.body (phi_inputs x.body) → W ↔ HasProperFlow f b i x
flow_by_operands f b i x W not_back no_first tells = (
  λ w. record { not_back = not_back; no_first_phi = no_first; operands = tells.0 w },
  λ flow. tells.1 flow.operands,
)

-- an input that is a local value
pub input_by_local : (names : List (List ℕ)) (f : FunctionShape) (input : PhiIn) (id : NameId) (W : Type 0) → input.val ≡ Local id
    → W ↔ ((site : Site) (from : ℕ) → site_of f (text_of names id.0) ≡ Some site → block_of f (text_of names input.from.0) ≡ Some from
    → IsThereAtEnd f site from)
    → W ↔ IsInputThere f (phi_in_shape names input)
input_by_local names f input id W e tells =
    let shape : val_shape names input.val ≡ local (text_of names id.0) = ap (val_shape names) e in (
      λ w from name site is given stands.
          let same : text_of names id.0 ≡ name = cc in
          tells.0 w site from (ap (site_of f) same ∙ given) stands,
      λ all. tells.1 (λ site from given stands. all from (text_of names id.0) site shape given stands),
    )

-- the operands of a phi are its inputs
pub phi_operands : (names : List (List ℕ)) (f : FunctionShape) (b i : ℕ) (body : Body) (ty : Ty) (inputs : Vec PhiIn Global) (ones others : List PhiIn)
    (test : Bool) → body ≡ Phi ty inputs → ones ≡ inputs.items → others ≡ inputs.items → ComeFromPredecessors f b (map (phi_in_shape names) ones)
    → IsTrue test ↔ AreThereAtEnds f (map (phi_in_shape names) others)
    → IsTrue test ↔ HasOperands f b i (body_shape names body) (phi_inputs (body_shape names body))
phi_operands names f b i body ty inputs ones others test is one other come tells =
    let comes = subst (λ (z : List PhiIn). ComeFromPredecessors f b (map (phi_in_shape names) z)) one come in
    let ends = subst (λ (z : List PhiIn). IsTrue test ↔ AreThereAtEnds f (map (phi_in_shape names) z)) other tells in
    subst (λ (x : Body). IsTrue test ↔ HasOperands f b i (body_shape names x) (phi_inputs (body_shape names x))) (sym is)
    (λ t. (comes, ends.0 t), λ has. ends.1 has.1)

-- an instruction that is no phi has no inputs
pub no_inputs : (names : List (List ℕ)) (body : Body) → ((ty : Ty) (inputs : Vec PhiIn Global) → body ≡ Phi ty inputs → ⊥)
    → phi_inputs (body_shape names body) ≡ None
no_inputs names (Phi ty inputs) not = absurd (not ty inputs refl)
no_inputs names body not = refl
