-- The form of blocks, functions and modules.
use Rattle.std.specs.Prelude.{◌≡◌, ◌≤◌, true, false, List, [], ◌∷◌, ◌++◌, None, length}
use Rattle.std.specs.List.{AllByRecursion}
use Rattle.ir_tree.specs.Shape.{InstShape, BlockShape, ParamShape, FunctionShape, GlobalShape, DeclareShape, NamedTyShape, ModuleShape}
use Rattle.ir_forms.specs.Types.{HasTyForm, HasConstForm}
use Rattle.ir_forms.specs.Instructions.{is_phi, is_terminator, HasBodyForm}

-- an instruction is neither a phi nor a terminator
pub record IsInner (x : InstShape) : Type 0 where
  pub no_phi : is_phi x.body ≡ false
  pub no_terminator : is_terminator x.body ≡ false

-- the form of a block: some phis, then instructions that are neither phis nor terminators, then exactly one terminator, which has no name
pub record HasBlockForm (b : BlockShape) : Type 0 where
  pub phis : List InstShape
  pub inner : List InstShape
  pub last : InstShape
  pub cut : b.insts ≡ phis ++ (inner ++ (last ∷ []))
  pub are_phis : AllByRecursion (λ x. is_phi x.body ≡ true) phis
  pub are_inner : AllByRecursion IsInner inner
  pub is_last : is_terminator last.body ≡ true
  pub no_name : last.result ≡ None
  pub bodies : AllByRecursion (λ x. HasBodyForm x.body) b.insts

-- the form of a parameter is that of its type
abbrev pub HasParamForm : ParamShape → Type 0
HasParamForm p = HasTyForm p.ty

-- the form of a defined function: it has at least one block
pub record HasFunctionForm (f : FunctionShape) : Type 0 where
  pub ret : HasTyForm f.ret
  pub params : AllByRecursion HasParamForm f.params
  pub has_block : 1 ≤ length f.blocks
  pub blocks : AllByRecursion HasBlockForm f.blocks

-- the form of a declared function
pub record HasDeclareForm (d : DeclareShape) : Type 0 where
  pub ret : HasTyForm d.ret
  pub params : AllByRecursion HasTyForm d.params

-- the form of a global
pub record HasGlobalForm (g : GlobalShape) : Type 0 where
  pub ty : HasTyForm g.ty
  pub init : HasConstForm g.init

-- the form of a named type
abbrev pub HasNamedTyForm : NamedTyShape → Type 0
HasNamedTyForm t = HasTyForm t.ty

-- the form of a module that a text spells
pub record HasForm (m : ModuleShape) : Type 0 where
  pub types : AllByRecursion HasNamedTyForm m.types
  pub globals : AllByRecursion HasGlobalForm m.globals
  pub declares : AllByRecursion HasDeclareForm m.declares
  pub functions : AllByRecursion HasFunctionForm m.functions
