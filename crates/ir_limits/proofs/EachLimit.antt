-- What is looked up for a limit is the first of its counts that is too great.
use Rattle.std.proofs.Common.{◌≡◌, ℕ, Option, List, [], ◌∷◌, ◌++◌, length, refl, sym, ◌∙◌, ap}
use Rattle.std.specs.Prelude.{flat_map}
use Rattle.std.proofs.lemmas.List.{length-map}
use Rattle.std.proofs.lemmas.List.Concat.{flat_map-append, flat_map_single}
use Rattle.ir_tree.specs.Shape.{InstShape, BlockShape, FunctionShape, ModuleShape}
use Rattle.ir_tree.specs.ShapeOf.{function_shape, module_shape}
use Rattle.ir_tree.specs.declared.module.Module.{Module}
use Rattle.ir_proper.specs.declared.Which.{Which}
use Rattle.ir_proper.specs.declared.Which.TheVariants.{Functions, Params, Results, Cases, Globals, Weight}
use Rattle.ir_proper.specs.Limits.{capped, all_insts, result_count, case_counts, weight_of, most_of, AreCounts}
use Rattle.ir_limits.specs.Sums.{HaveSum, IsTold}
use Rattle.ir_limits.specs.Globals.{GlobalTakes}
use Rattle.ir_limits.specs.Passing.{first_above}
use Rattle.ir_limits.proofs.OneCount.{one_globals, globals_take}

-- an answer for a limit is the first of its counts that is too great
abbrev pub IsAnswer : ModuleShape → Option ℕ → Which → Type 0
IsAnswer m r which = (counts : List ℕ) → AreCounts m which counts → r ≡ first_above (most_of which) counts

pub by_functions : (m : Module) (n : ℕ) (r : Option ℕ) → n ≡ length m.functions.items → r ≡ first_above (most_of Functions) (n ∷ [])
    → IsAnswer (module_shape m) r Functions
by_functions m n r long is counts are =
    is ∙ ap (λ (k : ℕ). first_above (most_of Functions) (k ∷ [])) (long ∙ sym (length-map m.functions.items (function_shape m.names)))
    ∙ ap (first_above (most_of Functions)) (sym are)

pub by_params : (m : ModuleShape) (r : Option ℕ) → r ≡ first_above (most_of Params) (flat_map (λ f. length f.params ∷ []) m.functions) → IsAnswer m r Params
by_params m r is counts are =
    is ∙ ap (first_above (most_of Params)) (flat_map_single (λ (f : FunctionShape). length f.params) m.functions ∙ sym are)

pub by_results : (m : ModuleShape) (r : Option ℕ) → r ≡ first_above (most_of Results) (flat_map (λ f. capped (result_count f) ∷ []) m.functions)
    → IsAnswer m r Results
by_results m r is counts are =
    is ∙ ap (first_above (most_of Results)) (flat_map_single (λ (f : FunctionShape). capped (result_count f)) m.functions ∙ sym are)

in_blocks : (bs : List BlockShape)
    → flat_map (λ b. flat_map (λ x. case_counts x.body) b.insts) bs ≡ flat_map (λ x. case_counts x.body) (flat_map (λ b. b.insts) bs)
in_blocks [] = refl
in_blocks (b ∷ bs) =
    ap (λ (ns : List ℕ). flat_map (λ (x : InstShape). case_counts x.body) b.insts ++ ns) (in_blocks bs)
    ∙ sym (flat_map-append (λ (x : InstShape). case_counts x.body) b.insts (flat_map (λ b. b.insts) bs))

in_functions : (fs : List FunctionShape)
    → flat_map (λ f. flat_map (λ b. flat_map (λ x. case_counts x.body) b.insts) f.blocks) fs
    ≡ flat_map (λ f. flat_map (λ x. case_counts x.body) (all_insts f)) fs
in_functions [] = refl
in_functions (f ∷ fs) =
    ap (λ (ns : List ℕ). ns ++ flat_map (λ (f : FunctionShape). flat_map (λ b. flat_map (λ x. case_counts x.body) b.insts) f.blocks) fs) (in_blocks f.blocks)
    ∙ ap (λ (ns : List ℕ). flat_map (λ (x : InstShape). case_counts x.body) (all_insts f) ++ ns) (in_functions fs)

pub by_cases : (m : ModuleShape) (r : Option ℕ)
    → r ≡ first_above (most_of Cases) (flat_map (λ f. flat_map (λ b. flat_map (λ x. case_counts x.body) b.insts) f.blocks) m.functions) → IsAnswer m r Cases
by_cases m r is counts are = is ∙ ap (first_above (most_of Cases)) (in_functions m.functions ∙ sym are)

pub by_globals : (m : ModuleShape) (n : ℕ) (r : Option ℕ) → IsTold (HaveSum (GlobalTakes m.types) m.globals) n → r ≡ first_above (most_of Globals) (n ∷ [])
    → IsAnswer m r Globals
by_globals m n r (room, sum, told) is counts (all, has, are) =
    let same = one_globals m.types m.globals room all (globals_take m.types m.globals room sum) has in
    is ∙ ap (λ (k : ℕ). first_above (most_of Globals) (k ∷ [])) (told ∙ ap capped same) ∙ ap (first_above (most_of Globals)) (sym are)

pub by_weight : (m : ModuleShape) (n : ℕ) (r : Option ℕ) → n ≡ weight_of m → r ≡ first_above (most_of Weight) (n ∷ []) → IsAnswer m r Weight
by_weight m n r told is counts are =
    is ∙ ap (λ (k : ℕ). first_above (most_of Weight) (k ∷ [])) told ∙ ap (first_above (most_of Weight)) (sym are)
