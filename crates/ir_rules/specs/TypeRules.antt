-- When the types at each place of a module are proper.
use Rattle.std.specs.Prelude.{◌≡◌, ℕ, Bool, true, false, List, [], ◌∷◌, Some, None, slice_get, codes}
use Rattle.std.specs.List.{AllByRecursion}
use Rattle.ir_tree.specs.Shape.{TyShape, integer, pointer, void, array, structure, named, BodyShape, phi, binary, icmp, select, convert, freeze, alloca, load, store, get_element, call, jump, branch, switch, return_void, return_value, unreachable, InstShape, FunctionShape, GlobalShape, DeclareShape, NamedTyShape, ModuleShape}
use Rattle.ir_layout.specs.Rules.{IsSized}
use Rattle.ir_rules.specs.Values.{result_ty, inst_at}
use Rattle.ir_rules.specs.Constants.{IsScalar, HasConst}
use Rattle.ir_rules.specs.Instructions.{Around, IsWellTyped}
use Rattle.ir_rules.specs.Places.{Place, type_at, global_at, declare_at, function_at, inst_at_place}

-- what a function may return: an integer, an address, or nothing
abbrev pub IsReturned : TyShape → Type 0
IsReturned (integer bits) = IsScalar (integer bits)
IsReturned pointer = Unit {0}
IsReturned void = Unit {0}
IsReturned (array count element) = ⊥
IsReturned (structure row packed) = ⊥
IsReturned (named name) = ⊥

-- a global has a sized type, and a content of that type
abbrev pub IsProperGlobal : List NamedTyShape → GlobalShape → Type 0
IsProperGlobal ts g = IsSized ts g.ty × HasConst ts g.init g.ty

-- `putchar` takes and returns an `i32`, `getchar` returns one
abbrev pub HasOutsideTypes : DeclareShape → Type 0
HasOutsideTypes d =
    (d.name ≡ codes "putchar" → (d.ret ≡ integer 32) × (d.params ≡ integer 32 ∷ []))
    × (d.name ≡ codes "getchar" → (d.ret ≡ integer 32) × (d.params ≡ []))

-- a declared function takes integers and addresses, and returns one or nothing
abbrev pub IsProperDeclare : DeclareShape → Type 0
IsProperDeclare d = IsReturned d.ret × AllByRecursion IsScalar d.params × HasOutsideTypes d

-- a defined function does the same
abbrev pub IsProperHead : FunctionShape → Type 0
IsProperHead f = IsReturned f.ret × AllByRecursion (λ p. IsScalar p.ty) f.params

-- an instruction makes room
abbrev pub is_alloca : BodyShape → Bool
is_alloca (phi ty inputs) = false
is_alloca (binary operation flags ty left right) = false
is_alloca (icmp predicate ty left right) = false
is_alloca (select condition met unmet) = false
is_alloca (convert conversion ty val to) = false
is_alloca (freeze ty val) = false
is_alloca (alloca ty count) = true
is_alloca (load ty at) = false
is_alloca (store value at) = false
is_alloca (get_element inbounds ty base indices) = false
is_alloca (call ret callee arguments) = false
is_alloca (jump to) = false
is_alloca (branch condition met unmet) = false
is_alloca (switch value otherwise cases) = false
is_alloca return_void = false
is_alloca (return_value value) = false
is_alloca unreachable = false

-- an instruction is proper in the block of this number: an alloca stands in the first block, a name is given to a value, and what it does is
-- well typed
pub record IsProperInst (a : Around) (block : ℕ) (x : InstShape) : Type 0 where
  pub in_entry : is_alloca x.body ≡ true → block ≡ 0
  pub names_value : result_ty x.body ≡ void → x.result ≡ None
  pub typed : IsWellTyped a x.body

-- what is at a place is proper, or nothing is there
abbrev pub HasProperTypes : ModuleShape → Place → Type 0
HasProperTypes m (type_at k) = (t : NamedTyShape) → slice_get m.types k ≡ Some t → IsSized m.types t.ty
HasProperTypes m (global_at k) = (g : GlobalShape) → slice_get m.globals k ≡ Some g → IsProperGlobal m.types g
HasProperTypes m (declare_at k) = (d : DeclareShape) → slice_get m.declares k ≡ Some d → IsProperDeclare d
HasProperTypes m (function_at k) = (f : FunctionShape) → slice_get m.functions k ≡ Some f → IsProperHead f
HasProperTypes m (inst_at_place k b i) = (f : FunctionShape) (x : InstShape) → slice_get m.functions k ≡ Some f → inst_at f b i ≡ Some x
    → IsProperInst (record { within = m; function = f }) b x

-- the types of a module are proper at each place
abbrev pub HasTypes : ModuleShape → Type 0
HasTypes m = (place : Place) → HasProperTypes m place
