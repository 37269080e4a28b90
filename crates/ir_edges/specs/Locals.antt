-- The values that an instruction uses, by name and in the order of the text.
use Rattle.std.specs.Prelude.{ℕ, List, [], ◌∷◌, ◌++◌}
use Rattle.ir_tree.specs.Shape.{ValShape, local, fixed, TyValShape, PhiInShape, BodyShape, phi, binary, icmp, select, convert, freeze, alloca, load, store, get_element, call, jump, branch, switch, return_void, return_value, unreachable}

-- the name of an operand that is a value
abbrev pub val_names : ValShape → List (List ℕ)
val_names (local name) = name ∷ []
val_names (fixed c) = []

-- those of operands with their types
abbrev pub ty_val_names : List TyValShape → List (List ℕ)
ty_val_names [] = []
ty_val_names (x ∷ xs) = val_names x.val ++ ty_val_names xs

-- those of a phi's inputs
abbrev pub input_names : List PhiInShape → List (List ℕ)
input_names [] = []
input_names (x ∷ xs) = val_names x.val ++ input_names xs

-- those of the operands of an instruction, as often as it has them
abbrev pub operand_names : BodyShape → List (List ℕ)
operand_names (phi ty inputs) = input_names inputs
operand_names (binary operation flags ty left right) = val_names left ++ val_names right
operand_names (icmp predicate ty left right) = val_names left ++ val_names right
operand_names (select condition met unmet) = val_names condition.val ++ val_names met.val ++ val_names unmet.val
operand_names (convert conversion ty val to) = val_names val
operand_names (freeze ty val) = val_names val
operand_names (alloca ty count) = []
operand_names (load ty at) = val_names at.val
operand_names (store value at) = val_names value.val ++ val_names at.val
operand_names (get_element inbounds ty base indices) = val_names base.val ++ ty_val_names indices
operand_names (call ret callee arguments) = val_names callee ++ ty_val_names arguments
operand_names (jump to) = []
operand_names (branch condition met unmet) = val_names condition.val
operand_names (switch value otherwise cases) = val_names value.val
operand_names return_void = []
operand_names (return_value value) = val_names value.val
operand_names unreachable = []
