-- What holds of each instruction of a function holds of those of its program.
use Rattle.std.proofs.Common.{◌≡◌, ℕ, suc, ◌+◌, Bool, true, false, List, [], ◌∷◌, length, Some, refl, ap, subst, ◌∙◌, arith, slice_get}
use Rattle.std.specs.Prelude.{if◌then◌else◌}
use Rattle.std.specs.Option.{option_and_then}
use Rattle.std.specs.List.{AllByRecursion}
use Rattle.ir_tree.specs.Shape.{InstShape, BlockShape, FunctionShape}
use Rattle.ir_rules.specs.Values.{inst_at}
use Rattle.ir_rules.specs.Instructions.{Around}
use Rattle.ir_forms.specs.Instructions.{is_phi}
use Rattle.ir_model.specs.Programs.{Instruction, Block}
use Rattle.ir_program.specs.ProgramOf.{phis_from, instruction_of, body_from, blocks_from}

-- instructions are those of a block from a number on
abbrev pub StandAt : FunctionShape → ℕ → ℕ → List InstShape → Type 0
StandAt f b i xs = (j : ℕ) (x : InstShape) → slice_get xs j ≡ Some x → inst_at f b (i + j) ≡ Some x

pub first_stands : (f : FunctionShape) (b i : ℕ) (x : InstShape) (xs : List InstShape) → StandAt f b i (x ∷ xs) → inst_at f b i ≡ Some x
first_stands f b i x xs stand = subst (λ (n : ℕ). inst_at f b n ≡ Some x) (omega arith) (stand 0 x refl)

pub rest_stands : (f : FunctionShape) (b i : ℕ) (x : InstShape) (xs : List InstShape) → StandAt f b i (x ∷ xs) → StandAt f b (i + 1) xs
rest_stands f b i x xs stand = λ j y is. subst (λ (n : ℕ). inst_at f b n ≡ Some y) (omega arith) (stand (suc j) y is)

pub block_stands : (f : FunctionShape) (b : ℕ) (block : BlockShape) → slice_get f.blocks b ≡ Some block → StandAt f b 0 block.insts
block_stands f b block at = λ j x is.
    ap (option_and_then (λ (y : BlockShape). slice_get y.insts (0 + j))) at ∙ subst (λ (n : ℕ). slice_get block.insts n ≡ Some x) (omega arith) is

-- blocks are those of a function from a number on
abbrev pub BlocksAt : FunctionShape → ℕ → List BlockShape → Type 0
BlocksAt f b xs = (j : ℕ) (x : BlockShape) → slice_get xs j ≡ Some x → slice_get f.blocks (b + j) ≡ Some x

pub first_block : (f : FunctionShape) (b : ℕ) (x : BlockShape) (xs : List BlockShape) → BlocksAt f b (x ∷ xs) → slice_get f.blocks b ≡ Some x
first_block f b x xs stand = subst (λ (n : ℕ). slice_get f.blocks n ≡ Some x) (omega arith) (stand 0 x refl)

pub rest_blocks : (f : FunctionShape) (b : ℕ) (x : BlockShape) (xs : List BlockShape) → BlocksAt f b (x ∷ xs) → BlocksAt f (b + 1) xs
rest_blocks f b x xs stand = λ j y is. subst (λ (n : ℕ). slice_get f.blocks n ≡ Some y) (omega arith) (stand (suc j) y is)

pub all_blocks : (f : FunctionShape) → BlocksAt f 0 f.blocks
all_blocks f = λ j x is. subst (λ (n : ℕ). slice_get f.blocks n ≡ Some x) (omega arith) is

module _ (a : Around) where
  either : (P : Instruction → Type 0) (phi : Bool) (x : Instruction) (rest : List Instruction) → P x → AllByRecursion P rest
      → AllByRecursion P (if phi then rest else x ∷ rest)
  either P true x rest has all = all
  either P false x rest has all = (has, all)

  -- what each instruction has that stands in a block, those of its body have
  pub body_has : (P : Instruction → Type 0) (b : ℕ) → ((i : ℕ) (x : InstShape) → inst_at a.function b i ≡ Some x → P (instruction_of a b i x))
      → (i : ℕ) (xs : List InstShape) → StandAt a.function b i xs → AllByRecursion P (body_from a b i xs)
  body_has P b each i [] stand = tt
  body_has P b each i (x ∷ xs) stand =
      either P (is_phi x.body) (instruction_of a b i x) (body_from a b (i + 1) xs) (each i x (first_stands a.function b i x xs stand))
      (body_has P b each (i + 1) xs (rest_stands a.function b i x xs stand))

  -- what each block has, the program's have
  pub blocks_have : (P : Block → Type 0)
      → ((b : ℕ) (x : BlockShape) → slice_get a.function.blocks b ≡ Some x → P (record { phis = phis_from a b 0 x.insts; body = body_from a b 0 x.insts }))
      → (b : ℕ) (xs : List BlockShape) → BlocksAt a.function b xs → AllByRecursion P (blocks_from a b xs)
  blocks_have P each b [] stand = tt
  blocks_have P each b (x ∷ xs) stand =
      (each b x (first_block a.function b x xs stand), blocks_have P each (b + 1) xs (rest_blocks a.function b x xs stand))

  pub as_many_blocks : (b : ℕ) (xs : List BlockShape) → length (blocks_from a b xs) ≡ length xs
  as_many_blocks b [] = refl
  as_many_blocks b (x ∷ xs) = ap suc (as_many_blocks (b + 1) xs)
