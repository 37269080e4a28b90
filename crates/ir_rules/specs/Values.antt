-- The values and the blocks of a function, by number, and what its names stand for.
use Rattle.std.specs.Prelude.{ℕ, ◌+◌, Bool, true, false, ◌||◌, not, if◌then◌else◌, List, [], ◌∷◌, ◌++◌, Option, Some, None, is_some, slice_get}
use Rattle.std.specs.Option.{option_map, option_and_then}
use Rattle.std.specs.List.{position_from}
use Rattle.std.specs.Str.{bytes_eq}
use Rattle.ir_tree.specs.Shape.{TyShape, integer, pointer, void, array, structure, named, BodyShape, phi, binary, icmp, select, convert, freeze, alloca, load, store, get_element, call, jump, branch, switch, return_void, return_value, unreachable, InstShape, BlockShape, ParamShape, FunctionShape}
use Rattle.ir_rules.specs.declared.Site.{Site}
use Rattle.ir_rules.specs.declared.Site.TheVariants.{Param, Inst}

-- the type of what an instruction gives, as it states it; one that gives nothing has `void`
abbrev pub result_ty : BodyShape → TyShape
result_ty (phi ty inputs) = ty
result_ty (binary operation flags ty left right) = ty
result_ty (icmp predicate ty left right) = integer 1
result_ty (select condition met unmet) = met.ty
result_ty (convert conversion ty val to) = to
result_ty (freeze ty val) = ty
result_ty (alloca ty count) = pointer
result_ty (load ty at) = ty
result_ty (store value at) = void
result_ty (get_element inbounds ty base indices) = pointer
result_ty (call ret callee arguments) = ret
result_ty (jump to) = void
result_ty (branch condition met unmet) = void
result_ty (switch value otherwise cases) = void
result_ty return_void = void
result_ty (return_value value) = void
result_ty unreachable = void

-- whether a type is that of nothing
abbrev pub is_void : TyShape → Bool
is_void (integer bits) = false
is_void pointer = false
is_void void = true
is_void (array count element) = false
is_void (structure fields packed) = false
is_void (named name) = false

-- an instruction gives a value where it has a name, or a type other than `void`
abbrev pub gives_value : InstShape → Bool
gives_value x = is_some x.result || not (is_void (result_ty x.body))

-- a value of a function: its name if it has one, and what gives it
pub record ValueShape : Type 0 where
  pub name : Option (List ℕ)
  pub site : Site

-- the parameters, where the first has this number
abbrev pub params_from : ℕ → List ParamShape → List ValueShape
params_from k [] = []
params_from k (p ∷ ps) = record { name = p.name; site = Param k } ∷ params_from (k + 1) ps

-- what an instruction gives, of these numbers of a block and in it
abbrev pub results_of : ℕ → ℕ → InstShape → List ValueShape
results_of b i x = if gives_value x then record { name = x.result; site = Inst b i } ∷ [] else []

-- what the instructions of a block give, where the first has this number
abbrev pub results_from : ℕ → ℕ → List InstShape → List ValueShape
results_from b i [] = []
results_from b i (x ∷ xs) = results_of b i x ++ results_from b (i + 1) xs

-- what the instructions of blocks give, where the first block has this number
abbrev pub all_results_from : ℕ → List BlockShape → List ValueShape
all_results_from b [] = []
all_results_from b (x ∷ xs) = results_from b 0 x.insts ++ all_results_from (b + 1) xs

-- the values of a function: its parameters, then what its instructions give, in the order of the text
abbrev pub values : FunctionShape → List ValueShape
values f = params_from 0 f.params ++ all_results_from 0 f.blocks

-- whether there is a name, and it is this one
abbrev pub has_name : List ℕ → Option (List ℕ) → Bool
has_name name None = false
has_name name (Some other) = bytes_eq other name

-- which value a name stands for: the first one with it
abbrev pub value_of : FunctionShape → List ℕ → Option ℕ
value_of f name = position_from (λ v. has_name name v.name) 0 (values f)

-- which block a name stands for: the first one with it
abbrev pub block_of : FunctionShape → List ℕ → Option ℕ
block_of f name = position_from (λ b. bytes_eq b.name name) 0 f.blocks

-- the instruction of the second number in the block of the first
abbrev pub inst_at : FunctionShape → ℕ → ℕ → Option InstShape
inst_at f b i = option_and_then (λ x. slice_get x.insts i) (slice_get f.blocks b)

-- the type of the value that something gives
abbrev pub site_ty : FunctionShape → Site → Option TyShape
site_ty f (Param k) = option_map (λ p. p.ty) (slice_get f.params k)
site_ty f (Inst b i) = option_map (λ x. result_ty x.body) (inst_at f b i)

-- the type of the value that a name stands for
abbrev pub value_ty : FunctionShape → List ℕ → Option TyShape
value_ty f name = option_and_then (λ v. site_ty f v.site) (option_and_then (slice_get (values f)) (value_of f name))
