-- Accesses to memory by their size (RISC-V Unprivileged ISA, "Load and Store Instructions").
use Rattle.std.specs.Prelude.{ℕ, ◌^◌, pos}
use Rattle.rv_inst.specs.declared.instruction.Form.{Form}
use Rattle.rv_inst.specs.declared.instruction.Form.TheVariants.{LB, LH, LW, LD, SB, SH, SW, SD}
use Rattle.rv_model.specs.Operations.{sign_extended}

-- one, two, four or eight bytes
pub data AccessSize : Type 0 where
  OneByte : AccessSize
  TwoBytes : AccessSize
  FourBytes : AccessSize
  EightBytes : AccessSize

-- how many
abbrev pub bytes_of : AccessSize → ℕ
bytes_of OneByte = 1
bytes_of TwoBytes = 2
bytes_of FourBytes = 4
bytes_of EightBytes = 8

-- the load into register d by the address in register a
abbrev pub load_at : AccessSize → ℕ → ℕ → Form
load_at OneByte d a = LB d a (pos 0)
load_at TwoBytes d a = LH d a (pos 0)
load_at FourBytes d a = LW d a (pos 0)
load_at EightBytes d a = LD d a (pos 0)

-- the store of register r at the address in register a
abbrev pub store_at : AccessSize → ℕ → ℕ → Form
store_at OneByte a r = SB a r (pos 0)
store_at TwoBytes a r = SH a r (pos 0)
store_at FourBytes a r = SW a r (pos 0)
store_at EightBytes a r = SD a r (pos 0)

-- what a load makes of the number of its bytes: it is extended by its sign
abbrev pub loaded_value : AccessSize → ℕ → ℕ
loaded_value OneByte n = sign_extended (2 ^ 7) n
loaded_value TwoBytes n = sign_extended (2 ^ 15) n
loaded_value FourBytes n = sign_extended (2 ^ 31) n
loaded_value EightBytes n = n
