-- The words that end a program, and the points of a program of these words alone at which a flip can do harm.
use Rattle.std.specs.Prelude.{ℕ, ℤ, pos, List, [], ◌∷◌}
use Rattle.rv_inst.specs.declared.instruction.Form.{Form}
use Rattle.rv_inst.specs.declared.instruction.Form.TheVariants.{ADDI, ECALL}

-- the status comes into x10 and the number of the ending call into x17, and the environment is called
abbrev pub ending_words : ℤ → List Form
ending_words status = ADDI 10 0 status ∷ ADDI 17 0 (pos 93) ∷ ECALL ∷ []

-- x10 from the second word on, and x17 at the call
abbrev pub ending_points : List (ℕ × ℕ)
ending_points = (65540, 10) ∷ (65544, 10) ∷ (65544, 17) ∷ []
