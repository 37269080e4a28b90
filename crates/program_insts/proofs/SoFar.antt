-- Blocks that are made so far.
use Rattle.std.proofs.Common.{◌≡◌, ◌<◌, ◌≤◌, ◌+◌, ℕ, zero, suc, Bool, false, List, [], ◌∷◌, ◌++◌, map, drop, length, get_or, Some, refl, sym, ap, ap₂, subst, ◌∙◌, append_assoc, append-nil}
use Rattle.std.proofs.lemmas.List.{drop_more, drop_all}
use Rattle.std.specs.Prelude.{slice_get, if◌then◌else◌}
use Rattle.std.specs.List.{AllByRecursion}
use Rattle.ir_tree.specs.Shape.{TyShape, InstShape, BlockShape}
use Rattle.ir_tree.specs.ShapeOf.{phi_in_shape}
use Rattle.ir_tree.specs.declared.module.PhiIn.{PhiIn}
use Rattle.ir_rules.specs.Instructions.{Around as Surroundings, HasTy}
use Rattle.ir_model.specs.Programs.{Instruction, Phi, Block}
use Rattle.ir_program.specs.ProgramOf.{phi_of}
use Rattle.program_steps.proofs.Alike.{item_there}
use Rattle.program_actions.specs.declared.around.Around.{Around}
use Rattle.program_actions.specs.Around.{around_of, names_around}
use Rattle.program_insts.specs.Numbers.{AreInputs, with_inst, others_of, number_by, next_by, after, phis_by, others_by, block_by, blocks_by, after_all}

-- what is left of a list from a place on
pub rest_at : {X Y : Type 0} (f : X → Y) (xs : List X) (k : ℕ) (x : X) → k < length xs → get_or xs k x ≡ x → map f (drop k xs) ≡ f x ∷ map f (drop (k + 1) xs)
rest_at {X} f xs k x lt is = ap (map f) (drop_more xs k x lt ∙ ap (λ (z : X). z ∷ drop (k + 1) xs) is)

pub rest_none : {X Y : Type 0} (f : X → Y) (xs : List X) (k : ℕ) → length xs ≤ k → map f (drop k xs) ≡ []
rest_none f xs k past = ap (map f) (drop_all k xs past)

-- what stands at a place of a list, told of a list that is the same
pub item_of : {X : Type 0} (xs ys : List X) (k : ℕ) (x : X) → ys ≡ xs → k < length ys → x ≡ get_or ys k x → (k < length xs) × (get_or xs k x ≡ x)
item_of {X} xs ys k x same lt is = (subst (λ (z : List X). k < length z) same lt, subst (λ (z : List X). get_or z k x ≡ x) same (sym is))

-- what all of a mapped list are, the one at a place is
there : {X Y : Type 0} (f : X → Y) (P : Y → Type 0) (xs : List X) (k : ℕ) (x : X) → AllByRecursion P (map f xs) → slice_get xs k ≡ Some x → P (f x)
there f P [] k x all at = cc
there f P (y ∷ xs) zero x all at =
    let same : y ≡ x = cc in
    subst (λ z. P (f z)) same all.0
there f P (y ∷ xs) (suc k) x all at = there f P xs k x all.1 at

pub mapped_one : {X Y : Type 0} (f : X → Y) (P : Y → Type 0) (xs : List X) (k : ℕ) (x : X) → AllByRecursion P (map f xs) → k < length xs → get_or xs k x ≡ x → P (f x)
mapped_one f P xs k x all lt is = there f P xs k x all (item_there xs k x lt is)

-- what a phi takes
pub inputs_fit : (a : Around) (t : TyShape) (row : List PhiIn) → AllByRecursion (λ i. HasTy (around_of a) i.val t) (map (phi_in_shape (names_around a)) row) → AreInputs a t row
inputs_fit a t [] all = tt
inputs_fit a t (x ∷ row) all = (all.0, inputs_fit a t row all.1)

-- a block so far, where these instructions are left and the next value has this number
pub record SoFar (a : Surroundings) (start : ℕ) (all left : List InstShape) (next : ℕ) (b : Block) : Type 0 where
  pub phis : b.phis ++ phis_by a next left ≡ phis_by a start all
  pub others : b.body ++ others_by a next left ≡ others_by a start all
  pub after : after next left ≡ after start all

pub begun : (a : Surroundings) (start : ℕ) (all : List InstShape) → SoFar a start all all start (record { phis = []; body = [] })
begun a start all = record { phis = refl; others = refl; after = refl }

pub gone_on : (a : Surroundings) (start : ℕ) (all before left : List InstShape) (next more : ℕ) (x : InstShape) (b c : Block) → SoFar a start all before next b
    → before ≡ x ∷ left → c ≡ with_inst a (number_by next x) x.body b → more ≡ next_by next x → SoFar a start all left more c
gone_on a start all before left next more x b c s cut is counted = record {
  phis = ap₂ (λ (z : Block) (n : ℕ). z.phis ++ phis_by a n left) is counted
      ∙ append_assoc b.phis (phi_of a (number_by next x) x.body) (phis_by a (next_by next x) left)
      ∙ ap (λ (z : List InstShape). b.phis ++ phis_by a next z) (sym cut) ∙ s.phis;
  others = ap₂ (λ (z : Block) (n : ℕ). z.body ++ others_by a n left) is counted
      ∙ append_assoc b.body (others_of a (number_by next x) x.body) (others_by a (next_by next x) left)
      ∙ ap (λ (z : List InstShape). b.body ++ others_by a next z) (sym cut) ∙ s.others;
  after = ap (λ (n : ℕ). after n left) counted ∙ ap (after next) (sym cut) ∙ s.after;
}

pub ended : (a : Surroundings) (start : ℕ) (source : BlockShape) (left : List InstShape) (next : ℕ) (b : Block) → SoFar a start source.insts left next b → left ≡ []
    → b ≡ block_by a start source
ended a start source left next b s none =
    ap₂ (λ (ps : List Phi) (os : List Instruction). record { phis = ps; body = os })
    (sym (append-nil b.phis) ∙ ap (λ (z : List InstShape). b.phis ++ phis_by a next z) (sym none) ∙ s.phis)
    (sym (append-nil b.body) ∙ ap (λ (z : List InstShape). b.body ++ others_by a next z) (sym none) ∙ s.others)

pub ended_after : (a : Surroundings) (start : ℕ) (all left : List InstShape) (next : ℕ) (b : Block) → SoFar a start all left next b → left ≡ [] → next ≡ after start all
ended_after a start all left next b s none = ap (after next) (sym none) ∙ s.after

-- blocks so far
pub record AllSoFar (a : Surroundings) (start : ℕ) (all left : List BlockShape) (next : ℕ) (bs : List Block) : Type 0 where
  pub blocks : bs ++ blocks_by a next left ≡ blocks_by a start all
  pub after : after_all next left ≡ after_all start all

pub all_begun : (a : Surroundings) (start : ℕ) (all : List BlockShape) → AllSoFar a start all all start []
all_begun a start all = record { blocks = refl; after = refl }

pub all_gone_on : (a : Surroundings) (start : ℕ) (all before left : List BlockShape) (next more : ℕ) (x : BlockShape) (bs cs : List Block) → AllSoFar a start all before next bs
    → before ≡ x ∷ left → cs ≡ bs ++ block_by a next x ∷ [] → more ≡ after next x.insts → AllSoFar a start all left more cs
all_gone_on a start all before left next more x bs cs s cut is counted = record {
  blocks = ap₂ (λ (z : List Block) (n : ℕ). z ++ blocks_by a n left) is counted
      ∙ append_assoc bs (block_by a next x ∷ []) (blocks_by a (after next x.insts) left)
      ∙ ap (λ (z : List BlockShape). bs ++ blocks_by a next z) (sym cut) ∙ s.blocks;
  after = ap (λ (n : ℕ). after_all n left) counted ∙ ap (after_all next) (sym cut) ∙ s.after;
}

pub all_ended : (a : Surroundings) (start : ℕ) (all left : List BlockShape) (next : ℕ) (bs : List Block) → AllSoFar a start all left next bs → left ≡ []
    → bs ≡ blocks_by a start all
all_ended a start all left next bs s none = sym (append-nil bs) ∙ ap (λ (z : List BlockShape). bs ++ blocks_by a next z) (sym none) ∙ s.blocks

-- an instruction more that is no phi
pub others_more : (phi : Bool) (x : Instruction) → phi ≡ false → (if phi then [] else x ∷ []) ≡ x ∷ []
others_more phi x no_phi = ap (λ (b : Bool). if b then [] else x ∷ []) no_phi
