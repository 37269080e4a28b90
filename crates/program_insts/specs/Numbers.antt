-- The numbers of values as they are counted: the next value that an instruction gives has the next number.
use Rattle.std.specs.Prelude.{ℕ, suc, if◌then◌else◌, List, [], ◌∷◌, ◌++◌, Option, Some, None}
use Rattle.std.specs.List.{AllByRecursion}
use Rattle.ir_tree.specs.Shape.{TyShape, BodyShape, InstShape, BlockShape}
use Rattle.ir_tree.specs.ShapeOf.{phi_in_shape}
use Rattle.ir_tree.specs.declared.module.PhiIn.{PhiIn}
use Rattle.ir_rules.specs.Values.{gives_value}
use Rattle.ir_rules.specs.Instructions.{Around as Surroundings, HasTy, IsWellTyped}
use Rattle.ir_model.specs.Programs.{Instruction, Phi, Block}
use Rattle.ir_forms.specs.Instructions.{is_phi}
use Rattle.ir_program.specs.Operands.{action_of, operands_of}
use Rattle.ir_program.specs.ProgramOf.{phi_of}
use Rattle.program_actions.specs.declared.around.Around.{Around}
use Rattle.program_actions.specs.Around.{around_of, names_around}

-- what a phi takes has its type
abbrev pub AreInputs : Around → TyShape → List PhiIn → Type 0
AreInputs a t row = AllByRecursion (λ x. HasTy (around_of a) (phi_in_shape (names_around a) x).val t) row

-- the instructions of a block are well typed
abbrev pub IsBlockTyped : Surroundings → BlockShape → Type 0
IsBlockTyped a b = AllByRecursion (λ x. IsWellTyped a x.body) b.insts

-- an instruction that is no phi, and gives the value of a number or none
abbrev pub numbered : Surroundings → Option ℕ → BodyShape → Instruction
numbered a result body = record { result = result; action = action_of a body; operands = operands_of a body }

-- the same as a list, which is empty for a phi
abbrev pub others_of : Surroundings → Option ℕ → BodyShape → List Instruction
others_of a result body = if is_phi body then [] else numbered a result body ∷ []

-- a block with one instruction more, which gives the value of a number or none
abbrev pub with_inst : Surroundings → Option ℕ → BodyShape → Block → Block
with_inst a result body b = record { phis = b.phis ++ phi_of a result body; body = b.body ++ others_of a result body }

-- the number of what an instruction gives, where the next value has this number
abbrev pub number_by : ℕ → InstShape → Option ℕ
number_by n x = if gives_value x then Some n else None

-- the number of the value after it
abbrev pub next_by : ℕ → InstShape → ℕ
next_by n x = if gives_value x then suc n else n

-- the number of the value after those that instructions give
abbrev pub after : ℕ → List InstShape → ℕ
after n [] = n
after n (x ∷ xs) = after (next_by n x) xs

-- the phis among instructions
abbrev pub phis_by : Surroundings → ℕ → List InstShape → List Phi
phis_by a n [] = []
phis_by a n (x ∷ xs) = phi_of a (number_by n x) x.body ++ phis_by a (next_by n x) xs

-- the others among them
abbrev pub others_by : Surroundings → ℕ → List InstShape → List Instruction
others_by a n [] = []
others_by a n (x ∷ xs) = others_of a (number_by n x) x.body ++ others_by a (next_by n x) xs

-- a block
abbrev pub block_by : Surroundings → ℕ → BlockShape → Block
block_by a n b = record { phis = phis_by a n b.insts; body = others_by a n b.insts }

-- blocks
abbrev pub blocks_by : Surroundings → ℕ → List BlockShape → List Block
blocks_by a n [] = []
blocks_by a n (b ∷ bs) = block_by a n b ∷ blocks_by a (after n b.insts) bs

-- the number of the value after those of blocks
abbrev pub after_all : ℕ → List BlockShape → ℕ
after_all n [] = n
after_all n (b ∷ bs) = after_all (after n b.insts) bs
