-- A small program: it counts through memory and calls.
use Rattle.std.specs.Prelude.{ℕ, true, false, List, [], ◌∷◌, Some, None}
use Rattle.ir_tree.specs.declared.module.Bin.{Bin}
use Rattle.ir_tree.specs.declared.module.Bin.TheVariants.{Add}
use Rattle.ir_tree.specs.declared.module.Pred.TheVariants.{Slt}
use Rattle.ir_tree.specs.declared.module.Flags.{Flags}
use Rattle.ir_model.specs.declared.Access.TheVariants.{I64}
use Rattle.ir_model.specs.Values.{Integer}
use Rattle.ir_model.specs.Operations.{Binary, Compare, Convert}
use Rattle.ir_tree.specs.declared.module.Conv.TheVariants.{Trunc}
use Rattle.ir_model.specs.Programs.{Operand, Local, Fixed, Action, Compute, Alloca, Load, Store, Call, Jump, Branch, Return, Instruction, Phi, Block, Program}

abbrev pub flags : Flags
flags = record { nuw = false; nsw = true; exact = false }

abbrev pub binary : Bin → Action
binary operation = Compute (Binary operation flags 64)

abbrev pub number : ℕ → Operand
number n = Fixed (Integer 64 n)

abbrev pub plain : Action → List Operand → Instruction
plain action operands = record { result = None; action = action; operands = operands }

abbrev pub giving : ℕ → Action → List Operand → Instruction
giving id action operands = record { result = Some id; action = action; operands = operands }

abbrev pub phi : ℕ → ℕ → Phi
phi id next = record { result = id; inputs = record { from = 0; operand = number 0 } ∷ record { from = 1; operand = Local next } ∷ [] }

abbrev pub last : Block
last = record { phis = []; body = giving 5 (Compute (Convert Trunc 64 32)) (Local 1 ∷ []) ∷ plain Return (Local 5 ∷ []) ∷ [] }

abbrev pub entry_room : Block
entry_room = record { phis = []; body = giving 6 (Alloca 8) [] ∷ plain (Jump 1) [] ∷ [] }

abbrev pub body_room : ℕ → Block
body_room n = record {
  phis = phi 0 1 ∷ [];
  body =
      plain (Store I64) (Local 0 ∷ Local 6 ∷ [])
      ∷ giving 3 (Load I64) (Local 6 ∷ [])
      ∷ giving 1 (Call 1) (Local 3 ∷ [])
      ∷ giving 2 (Compute (Compare Slt)) (Local 1 ∷ number n ∷ [])
      ∷ plain (Branch 1 2) (Local 2 ∷ [])
      ∷ [];
}

abbrev pub inner : Block
inner = record { phis = []; body = giving 1 (Compute (Binary Add flags 64)) (Local 0 ∷ number 1 ∷ []) ∷ plain Return (Local 1 ∷ []) ∷ [] }

abbrev pub roomed : ℕ → Program
roomed n = record {
  globals = [];
  functions = record { params = 0; values = 7; frame = 0; blocks = entry_room ∷ body_room n ∷ last ∷ [] }
      ∷ record { params = 1; values = 2; frame = 0; blocks = inner ∷ [] }
      ∷ [];
  main = 0;
}
