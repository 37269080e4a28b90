-- The words that compute operations of the language on values of a width, each kept in a register as its bits extended by their sign. The operands
-- stand in x5 and x6, and the result comes into x5.
use Rattle.std.specs.Prelude.{ℕ, ◌-◌, ◌==◌, if◌then◌else◌, pos, negsuc, List, [], ◌∷◌, ◌++◌}
use Rattle.ir_tree.specs.declared.module.Bin.{Bin}
use Rattle.ir_tree.specs.declared.module.Bin.TheVariants.{Add, Sub, Mul, Shl, Udiv, Sdiv, Lshr, Ashr, Urem, Srem, And, Or, Xor}
use Rattle.ir_tree.specs.declared.module.Pred.{Pred}
use Rattle.ir_tree.specs.declared.module.Pred.TheVariants.{Eq, Ne, Ugt, Uge, Ult, Ule, Sgt, Sge, Slt, Sle}
use Rattle.ir_tree.specs.declared.module.Conv.{Conv}
use Rattle.ir_tree.specs.declared.module.Conv.TheVariants.{Zext, Sext, Trunc}
use Rattle.rv_inst.specs.declared.instruction.Form.{Form}
use Rattle.rv_inst.specs.declared.instruction.Form.TheVariants as rv

-- x5 is cut to its low bits, as many as the width has, and extended by their sign
abbrev pub narrowed : ℕ → List Form
narrowed width = if width == 64 then [] else rv.SLLI 5 5 (pos (64 - width)) ∷ rv.SRAI 5 5 (pos (64 - width)) ∷ []

-- an operation whose low bits come of those of its operands: 32 bits have instructions of their own, and 64 need no cut
abbrev pub cut : ℕ → (short whole : Form) → List Form
cut width short whole = if width == 32 then short ∷ [] else whole ∷ narrowed width

-- a value at the top of its register, with zeros below
abbrev pub raised : ℕ → List Form
raised width = if width == 64 then [] else rv.SLLI 5 5 (pos (64 - width)) ∷ []

-- two values at the top of theirs
abbrev pub both_raised : ℕ → List Form
both_raised width = if width == 64 then [] else rv.SLLI 5 5 (pos (64 - width)) ∷ rv.SLLI 6 6 (pos (64 - width)) ∷ []

-- back from the top
abbrev pub lowered : ℕ → List Form
lowered width = if width == 64 then [] else rv.SRAI 5 5 (pos (64 - width)) ∷ []

-- a binary operation, a line each
abbrev pub binary_words : Bin → ℕ → List Form
binary_words Add width = cut width (rv.ADDW 5 5 6) (rv.ADD 5 5 6)
binary_words Sub width = cut width (rv.SUBW 5 5 6) (rv.SUB 5 5 6)
binary_words Mul width = cut width (rv.MULW 5 5 6) (rv.MUL 5 5 6)
binary_words Shl width = cut width (rv.SLLW 5 5 6) (rv.SLL 5 5 6)
binary_words Udiv width = both_raised width ++ (rv.DIVU 5 5 6 ∷ narrowed width)
binary_words Sdiv width = rv.DIV 5 5 6 ∷ []
binary_words Lshr width = raised width ++ (rv.SRL 5 5 6 ∷ lowered width)
binary_words Ashr width = rv.SRA 5 5 6 ∷ []
binary_words Urem width = both_raised width ++ (rv.REMU 5 5 6 ∷ lowered width)
binary_words Srem width = rv.REM 5 5 6 ∷ []
binary_words And width = rv.AND 5 5 6 ∷ []
binary_words Or width = rv.OR 5 5 6 ∷ []
binary_words Xor width = rv.XOR 5 5 6 ∷ []

-- 1 becomes all ones, the `i1` that is true, and 0 stays
abbrev pub as_truth : Form
as_truth = rv.SUB 5 0 5

-- 1 becomes 0, and 0 all ones
abbrev pub as_opposite : Form
as_opposite = rv.ADDI 5 5 (negsuc 0)

-- a comparison of two values of one width, whichever it is
abbrev pub compare_words : Pred → List Form
compare_words Eq = rv.SUB 5 5 6 ∷ rv.SLTU 5 0 5 ∷ as_opposite ∷ []
compare_words Ne = rv.SUB 5 5 6 ∷ rv.SLTU 5 0 5 ∷ as_truth ∷ []
compare_words Ugt = rv.SLTU 5 6 5 ∷ as_truth ∷ []
compare_words Uge = rv.SLTU 5 5 6 ∷ as_opposite ∷ []
compare_words Ult = rv.SLTU 5 5 6 ∷ as_truth ∷ []
compare_words Ule = rv.SLTU 5 6 5 ∷ as_opposite ∷ []
compare_words Sgt = rv.SLT 5 6 5 ∷ as_truth ∷ []
compare_words Sge = rv.SLT 5 5 6 ∷ as_opposite ∷ []
compare_words Slt = rv.SLT 5 5 6 ∷ as_truth ∷ []
compare_words Sle = rv.SLT 5 6 5 ∷ as_opposite ∷ []

-- a conversion from one width to another. What is extended by its sign is kept so already
abbrev pub convert_words : Conv → ℕ → ℕ → List Form
convert_words Zext from to = rv.SLLI 5 5 (pos (64 - from)) ∷ rv.SRLI 5 5 (pos (64 - from)) ∷ []
convert_words Sext from to = []
convert_words Trunc from to = if to == 32 then rv.ADDIW 5 5 (pos 0) ∷ [] else narrowed to
