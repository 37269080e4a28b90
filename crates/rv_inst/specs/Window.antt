-- Window points of a text: the places between the word that brings a value into a register, or checks it there, and the word that
-- uses it. A flip of that register there can't be seen by any check. Only the words are looked at, and nothing of values.
use Rattle.std.specs.Prelude.{◌≡◌, ℕ, ◌+◌, ◌*◌, ◌%◌, ◌^◌, ◌≤◌, ℤ, pos, negsuc, Bool, true, false, IsTrue, not, ◌==◌, nat_lt, ◌&&◌, ◌||◌, ◌⊎◌, List, [], ◌∷◌, ◌++◌, length, Option, Some, None, slice_get, All, Any}
use Rattle.rv_inst.specs.declared.instruction.Form.{Form}
use Rattle.rv_inst.specs.declared.instruction.Form.TheVariants.{LUI, JAL, BEQ, BNE, ADDI, ECALL}
use Rattle.rv_inst.specs.declared.table.Group.TheVariants.{RegisterJumps, Branches, Loads, Stores, Calls}
use Rattle.rv_inst.specs.Forms.{kind_of}
use Rattle.rv_inst.specs.Groups.{is_same_group, group_of}
use Rattle.rv_inst.specs.Format.{bits_of}
use Rattle.rv_inst.specs.Word.{form_at}
use Rattle.rv_inst.specs.Registers.{reads, writes}

-- an address of the text with what its word says, which may be no instruction
pub record Place : Type 0 where
  pub address : ℕ
  pub instruction : Option Form

-- the word there, of a text that begins at the base, says so
pub record IsPlace (words : List ℕ) (base : ℕ) (p : Place) : Type 0 where
  pub index : ℕ
  pub word : ℕ
  pub address : p.address ≡ base + 4 * index
  pub found : slice_get words index ≡ Some word
  pub instruction : form_at word ≡ p.instruction

-- the address at this offset from another
abbrev pub offset_from : ℕ → ℤ → ℕ
offset_from address offset = (address + bits_of (2 ^ 63) offset) % 2 ^ 64

-- where the path goes on that no fault leaves: from BEQ and JAL to the target, from any other word to the next
abbrev pub quiet_next : Place → ℕ
quiet_next p = quiet_after p.address p.instruction
  where
    quiet_after : ℕ → Option Form → ℕ
    quiet_after address (Some (BEQ rs1 rs2 offset)) = offset_from address offset
    quiet_after address (Some (JAL rd offset)) = offset_from address offset
    quiet_after address _ = address + 4

-- places of the text, each of which the one before it quietly goes on to
abbrev pub IsQuietPath : List ℕ → ℕ → List Place → Type 0
IsQuietPath words base [] = Unit {0}
IsQuietPath words base (p ∷ []) = IsPlace words base p
IsQuietPath words base (p ∷ q ∷ path) = IsPlace words base p × (quiet_next p ≡ q.address) × IsQuietPath words base (q ∷ path)

-- a load
abbrev pub is_load : Form → Bool
is_load i = is_same_group Loads (group_of (kind_of i))

-- a store
abbrev pub is_store : Form → Bool
is_store i = is_same_group Stores (group_of (kind_of i))

-- a branch
abbrev pub is_branch : Form → Bool
is_branch i = is_same_group Branches (group_of (kind_of i))

-- a jump to where a register points
abbrev pub is_register_jump : Form → Bool
is_register_jump i = is_same_group RegisterJumps (group_of (kind_of i))

-- a call of the environment
abbrev pub is_ecall : Form → Bool
is_ecall i = is_same_group Calls (group_of (kind_of i))

-- the immediate is this number
abbrev pub is_number : ℕ → ℤ → Bool
is_number n (pos k) = k == n
is_number n (negsuc k) = false

-- r is compared with another register that isn't x0
abbrev pub compares : ℕ → ℕ → ℕ → Bool
compares r a b = a == r && (nat_lt 0 b && not (b == r)) || b == r && (nat_lt 0 a && not (a == r))

-- a check of r: BEQ or BNE compares it with another register, and goes elsewhere than to the next word
abbrev pub checks : ℕ → Form → Bool
checks r (BEQ rs1 rs2 offset) = compares r rs1 rs2 && not (is_number 4 offset)
checks r (BNE rs1 rs2 offset) = compares r rs1 rs2 && not (is_number 4 offset)
checks r _ = false

-- what it writes comes from memory, from constants or from outside: a load, LUI, ADDI from x0, JAL, ECALL
abbrev pub is_source : Form → Bool
is_source (LUI rd imm) = true
is_source (JAL rd offset) = true
is_source (ADDI rd rs1 imm) = rs1 == 0
is_source ECALL = true
is_source i = is_load i

-- the instruction brings a value into r, or checks the one there
abbrev pub begins : ℕ → Form → Bool
begins r i = is_source i && writes i r || checks r i

-- a copy of r
abbrev pub copies : ℕ → Form → Bool
copies r (ADDI rd rs1 imm) = rs1 == r && is_number 0 imm
copies r _ = false

-- a use of what r holds: an access to memory, a jump to a register, a call of the environment, a branch that doesn't check r; and a
-- copy of r where the value came by a load
abbrev pub may_use : ℕ → Form → Form → Bool
may_use r first i =
    is_load i || is_store i || is_register_jump i || is_ecall i || is_branch i && not (checks r i) || copies r i && is_load first

-- a word between leaves r as it is, and if it reads r, it uses it; nothing is known after a jump to a register
abbrev pub passes : ℕ → Form → Option Form → Bool
passes r first None = true
passes r first (Some i) = not (writes i r) && not (is_register_jump i) && (not (reads i r) || may_use r first i)

-- the registers that hold operands between their check and their use
abbrev pub is_operand_register : ℕ → Bool
is_operand_register r =
    r == 1 || r == 2 || r == 5 || r == 6 || r == 7 || r == 28 || r == 29 || r == 30 || r == 31

-- r can have a window between these two instructions
abbrev pub has_window : ℕ → Form → Form → Bool
has_window r first last =
    is_operand_register r || r == 10 && (is_ecall first || is_ecall last) || (r == 11 || r == 12 || r == 17) && is_ecall last

-- a flip of r at the address can come between a value and its use: a quiet path of at most 32 words leads from an instruction that
-- brings or checks r to one that uses it, the words between let the value pass, and the address is that of a word after the first
pub record IsWindowPoint (words : List ℕ) (base address r : ℕ) : Type 0 where
  pub from : ℕ
  pub first : Form
  pub between : List Place
  pub to : ℕ
  pub last : Form
  pub quiet : IsQuietPath words base (record { address = from; instruction = Some first } ∷ (between ++ record { address = to; instruction = Some last } ∷ []))
  pub short : length between + 2 ≤ 32
  pub on_path : (address ≡ to) ⊎ Any (λ p. p.address ≡ address) between
  pub let_pass : All (λ p. IsTrue (passes r first p.instruction)) between
  pub brought : IsTrue (begins r first)
  pub read : IsTrue (reads last r)
  pub used : IsTrue (may_use r first last)
  pub window : IsTrue (has_window r first last)
