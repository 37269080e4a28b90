-- Lists of words that compute, on versions with one tag.
use Rattle.std.specs.Prelude.{ℕ, ◌==◌, ◌&&◌, ◌||◌, Bool, IsTrue, List, [], ◌∷◌, Option, Some, None, if◌then◌else◌}
use Rattle.std.specs.List.{list_all}
use Rattle.rv_inst.specs.declared.instruction.Form.{Form}
use Rattle.rv_inst.specs.declared.table.Group.{Group}
use Rattle.rv_inst.specs.declared.table.Group.TheVariants.{Constants, Immediates, Registers}
use Rattle.rv_inst.specs.declared.table.Kind.{Kind}
use Rattle.rv_inst.specs.declared.table.Operands.{Operands}
use Rattle.rv_inst.specs.Forms.{kind_of, operands_of}
use Rattle.rv_inst.specs.Groups.{group_of}
use Rattle.rv_model.specs.Operations.{bits64, upper_value, operation}
use Rattle.flip_words.specs.Words.{only_computes}
use Rattle.flip_frames.specs.Views.{is_scratch, View, Runs, with_value}

-- the value in a register that an operand is read from: x0 is 0
abbrev pub operand_in : (ℕ → Option ℕ) → ℕ → Option ℕ
operand_in file r = if r == 0 then Some 0 else file r

-- what is computed of two values, where both are known
abbrev pub of_both : (ℕ → ℕ → ℕ) → Option ℕ → Option ℕ → Option ℕ
of_both f (Some v) (Some w) = Some (f v w)
of_both f (Some v) None = None
of_both f None w = None

-- what a word of the group computes, by the machine's table of operations
abbrev pub computed_by : Group → Kind → Operands → (ℕ → Option ℕ) → Option ℕ
computed_by Constants k o file = Some (upper_value o.imm)
computed_by Immediates k o file = of_both (operation k) (operand_in file o.rs1) (Some (bits64 o.imm))
computed_by Registers k o file = of_both (operation k) (operand_in file o.rs1) (operand_in file o.rs2)
computed_by _ k o file = None

abbrev pub computed : Form → (ℕ → Option ℕ) → Option ℕ
computed i file = computed_by (group_of (kind_of i)) (kind_of i) (operands_of i) file

-- the values after the words
abbrev pub effect_of : List Form → (ℕ → Option ℕ) → ℕ → Option ℕ
effect_of [] file = file
effect_of (i ∷ is) file = effect_of is (with_value file (operands_of i).rd (computed i file))

-- a register that an operand may be read from
abbrev pub is_operand : ℕ → Bool
is_operand r = r == 0 || is_scratch r

-- the instruction computes, of scratch registers and x0, into a scratch register
abbrev pub is_pure : Form → Bool
is_pure i = only_computes i && (is_scratch (operands_of i).rd && (is_operand (operands_of i).rs1 && is_operand (operands_of i).rs2))

-- words that compute give of versions with one tag versions with that tag
abbrev pub ComputingRuns : Type 0
ComputingRuns = (words : List ℕ) (code : List Form) (v : View) → IsTrue (list_all is_pure code)
    → Runs words code v (record v { file = effect_of code v.file })
