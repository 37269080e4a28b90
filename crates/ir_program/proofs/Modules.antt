-- Modules that are turned into programs and run.
use Rattle.std.specs.Prelude.{◌≡◌, refl, ℕ, pos, true, false, List, [], ◌∷◌, Some, None, map, replicate, codes}
use Rattle.ir_tree.specs.declared.module.Bin.TheVariants.{Add, Mul}
use Rattle.ir_tree.specs.declared.module.Flags.{Flags}
use Rattle.ir_tree.specs.declared.module.Pred.TheVariants.{Eq}
use Rattle.ir_tree.specs.Shape.{TyShape, integer, pointer, array, structure, named, ty_row, ConstShape, number, zero_value, fields, elements, global, address, typed, typed_row, ValShape, local, fixed, BodyShape, phi, binary, icmp, load, get_element, jump, branch, return_value, InstShape, BlockShape, FunctionShape, GlobalShape, ModuleShape}
use Rattle.ir_model.specs.Values.{Address, Unknown, Byte}
use Rattle.ir_model.specs.Operations.{compute}
use Rattle.ir_model.specs.States.{begun}
use Rattle.ir_model.specs.Steps.{act, step}
use Rattle.ir_model.specs.Runs.{HasEnded, run}
use Rattle.ir_program.specs.Sizes.{laid_by, name_layout, opened_within}
use Rattle.ir_program.specs.Constants.{const_value, const_cells}
use Rattle.ir_program.specs.ProgramOf.{program_of}

-- no promise about a result
abbrev pub plain : Flags
plain = record { nuw = false; nsw = false; exact = false }

-- an integer of 32 bits, and an operand of that type
abbrev pub i32 : TyShape
i32 = integer 32

abbrev pub int : ℕ → ValShape
int n = fixed (number (pos n))

-- an instruction whose result has a name, and one that gives none
abbrev pub gives : List ℕ → BodyShape → InstShape
gives name body = record { result = Some name; body = body }

abbrev pub does : BodyShape → InstShape
does body = record { result = None; body = body }

-- a phi that takes one value from `entry` and another from `loop`
abbrev pub takes : List ℕ → ValShape → ValShape → InstShape
takes name first later = gives name (phi i32 (record { val = first; from = codes "entry" } ∷ record { val = later; from = codes "loop" } ∷ []))

-- `main` of these blocks
abbrev pub main_of : List BlockShape → FunctionShape
main_of blocks = record { name = codes "main"; ret = i32; params = []; blocks = blocks }

-- a, b = 1, 2; three times round, of which each but the first swaps a and b; then 10 * a + b
abbrev pub swaps : ModuleShape
swaps = record {
  types = [];
  globals = [];
  declares = [];
  functions = main_of (
      record { name = codes "entry"; insts = does (jump (codes "loop")) ∷ [] }
      ∷ record {
        name = codes "loop";
        insts =
            takes (codes "a") (int 1) (local (codes "b"))
            ∷ takes (codes "b") (int 2) (local (codes "a"))
            ∷ takes (codes "i") (int 0) (local (codes "j"))
            ∷ gives (codes "j") (binary Add (record plain { nsw = true }) i32 (local (codes "i")) (int 1))
            ∷ gives (codes "d") (icmp Eq i32 (local (codes "j")) (int 3))
            ∷ does (branch (record { ty = integer 1; val = local (codes "d") }) (codes "out") (codes "loop"))
            ∷ [];
      }
      ∷ record {
        name = codes "out";
        insts =
            gives (codes "t") (binary Mul plain i32 (local (codes "a")) (int 10))
            ∷ gives (codes "s") (binary Add plain i32 (local (codes "t")) (local (codes "b")))
            ∷ does (return_value (record { ty = i32; val = local (codes "s") }))
            ∷ [];
      }
      ∷ []) ∷ [];
}

pub phis_swap : run 13 (program_of swaps) (begun (program_of swaps) []) ≡ HasEnded [] 12 13
unfolding run step act compute program_of const_value
phis_swap = refl

-- its frame: 64 bytes, seven values, three phis
pub frame_of_swaps : map (λ f. f.frame) (program_of swaps).functions ≡ 416 ∷ []
unfolding program_of
frame_of_swaps = refl

-- two pairs of a byte and a number, with a gap in each: one written out and one that is zero
abbrev pub pair : TyShape
pair = named (codes "pair")

abbrev pub pairs : GlobalShape
pairs = record {
  name = codes "g";
  constant = true;
  ty = array 2 pair;
  init = elements (typed_row (
      typed pair (fields (typed_row (typed (integer 8) (number (pos 1)) ∷ typed i32 (number (pos 258)) ∷ [])) false)
      ∷ typed pair zero_value
      ∷ []));
}

-- the address of the number in the first pair, and a load from it
abbrev pub second : ConstShape
second = address true pair (typed pointer (global (codes "g"))) (typed_row (typed (integer 64) (number (pos 0)) ∷ typed i32 (number (pos 1)) ∷ []))

abbrev pub reads : ModuleShape
reads = record {
  types = record { name = codes "pair"; ty = structure (ty_row (integer 8 ∷ i32 ∷ [])) false } ∷ [];
  globals = pairs ∷ [];
  declares = [];
  functions = main_of (record {
    name = codes "0";
    insts =
        gives (codes "p") (get_element true (array 2 pair) (record { ty = pointer; val = fixed (global (codes "g")) }) (
        record { ty = integer 64; val = int 0 } ∷ record { ty = integer 64; val = int 0 } ∷ record { ty = i32; val = int 1 } ∷ []))
        ∷ gives (codes "x") (load i32 (record { ty = pointer; val = local (codes "p") }))
        ∷ gives (codes "y") (load i32 (record { ty = pointer; val = fixed second }))
        ∷ gives (codes "s") (binary Add plain i32 (local (codes "x")) (local (codes "y")))
        ∷ does (return_value (record { ty = i32; val = local (codes "s") }))
        ∷ [];
  } ∷ []) ∷ [];
}

-- its gaps are poison where it is written out, and zero where it is zero
pub bytes_of_pairs : (program_of reads).globals
    ≡ (Byte 1 ∷ Unknown ∷ Unknown ∷ Unknown ∷ Byte 2 ∷ Byte 1 ∷ Byte 0 ∷ Byte 0 ∷ replicate 8 (Byte 0)) ∷ []
unfolding program_of const_cells const_value laid_by name_layout
bytes_of_pairs = refl

-- a constant address
pub address_of_second : const_value reads pointer second ≡ Address (record { block = 1; offset = 4 })
unfolding const_value laid_by name_layout opened_within
address_of_second = refl

-- 258 is read twice, by an instruction's steps and by a constant's; the status is the lowest byte of the sum
pub fields_are_read : run 5 (program_of reads) (begun (program_of reads) []) ≡ HasEnded [] 4 5
unfolding run step act compute program_of const_cells const_value laid_by name_layout opened_within
fields_are_read = refl
