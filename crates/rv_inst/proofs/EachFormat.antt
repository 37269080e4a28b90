-- Fields and operands, both ways.
use Rattle.std.proofs.Common.{◌≡◌, ℕ, suc, ◌+◌, ◌-◌, ◌*◌, ◌/◌, ◌%◌, ◌^◌, ◌<◌, Bool, true, false, refl, sym, ◌∙◌, ap, arith, cond}
use Rattle.std.specs.Prelude.{ℤ, pos, negsuc, nat_lt, ◌==◌, ◌&&◌}
use Rattle.std.proofs.lemmas.Bool.Decides.{nat_tests}
use Rattle.rv_inst.specs.declared.table.Format.{Format}
use Rattle.rv_inst.specs.declared.table.Format.TheVariants.{Upper, Jump, Immediate, Branch, Store, Register, Shift, ShiftWord, System}
use Rattle.rv_inst.specs.declared.table.Row.{Row}
use Rattle.rv_inst.specs.declared.table.Operands.{Operands}
use Rattle.rv_inst.specs.declared.table.Fields.{Fields}
use Rattle.rv_inst.specs.Format.{IsCut, IsRow, number, fields_at, bits_of, unsigned, signed_at, fields_of, operands_in, tests}
use Rattle.rv_inst.specs.Word.{IsBelow, IsSigned, IsEven, FitsFormat}
use Rattle.rv_inst.proofs.EachKind.{trim}

-- fields are equal where each is
pub same_fields : (f g : Fields) → f.opcode ≡ g.opcode → f.rd ≡ g.rd → f.funct3 ≡ g.funct3 → f.rs1 ≡ g.rs1 → f.rs2 ≡ g.rs2 → f.bit25 ≡ g.bit25 → f.top6 ≡ g.top6 → f ≡ g
same_fields f g a b c d e h k = λ i. record { opcode = a i; rd = b i; funct3 = c i; rs1 = d i; rs2 = e i; bit25 = h i; top6 = k i }

pub same_operands : (o p : Operands) → o.rd ≡ p.rd → o.rs1 ≡ p.rs1 → o.rs2 ≡ p.rs2 → o.imm ≡ p.imm → o ≡ p
same_operands o p a b c d = λ i. record { rd = a i; rs1 = b i; rs2 = c i; imm = d i }

pub number-fields_at : (w : ℕ) → w < 2 ^ 32 → number (fields_at w) ≡ w
number-fields_at w h = omega arith

pub cut-fields_at : (w : ℕ) → w < 2 ^ 32 → IsCut (fields_at w)
cut-fields_at w h = record { opcode = omega arith; rd = omega arith; funct3 = omega arith; rs1 = omega arith; rs2 = omega arith; bit25 = omega arith; top6 = omega arith }

pub number_fits : (f : Fields) → IsCut f → number f < 2 ^ 32
number_fits f c = omega arith

pub fields_at-number : (f : Fields) → IsCut f → fields_at (number f) ≡ f
fields_at-number f c = same_fields _ f (omega arith) (omega arith) (omega arith) (omega arith) (omega arith) (omega arith) (omega arith)

bits_fit : (half : ℕ) (z : ℤ) → IsSigned half z → bits_of half z < 2 * half
bits_fit half (pos n) h = omega arith
bits_fit half (negsuc n) h = omega arith

signed_at-bits_of : (half : ℕ) (z : ℤ) → IsSigned half z → signed_at half (bits_of half z) ≡ z
signed_at-bits_of half (pos n) h = by_test (nat_lt n half) refl
  where
    by_test : (b : Bool) → nat_lt n half ≡ b → cond b (pos n) (negsuc (2 * half - suc n)) ≡ pos n
    by_test true e = refl
    by_test false e = absurd (grind (arith, nat_tests))
signed_at-bits_of half (negsuc n) h = by_test (nat_lt (2 * half - suc n) half) refl
  where
    by_test : (b : Bool) → nat_lt (2 * half - suc n) half ≡ b → cond b (pos (2 * half - suc n)) (negsuc (2 * half - suc (2 * half - suc n))) ≡ negsuc n
    by_test true e = absurd (grind (arith, nat_tests))
    by_test false e = let k : 2 * half - suc (2 * half - suc n) ≡ n = omega arith in ap negsuc k

bits_of-signed_at : (half n : ℕ) → n < 2 * half → bits_of half (signed_at half n) ≡ n
bits_of-signed_at half n h = by_test (nat_lt n half)
  where
    by_test : (b : Bool) → bits_of half (cond b (pos n) (negsuc (2 * half - suc n))) ≡ n
    by_test true = refl
    by_test false = omega arith

signed-signed_at : (half n : ℕ) → n < 2 * half → IsSigned half (signed_at half n)
signed-signed_at half n h = by_test (nat_lt n half) refl
  where
    by_test : (b : Bool) → nat_lt n half ≡ b → IsSigned half (cond b (pos n) (negsuc (2 * half - suc n)))
    by_test true e = grind (arith, nat_tests)
    by_test false e = let k : half < suc n = grind (arith, nat_tests) in omega arith

even-signed_at : (half n : ℕ) → n < 2 * half → n % 2 ≡ 0 → IsEven (signed_at half n)
even-signed_at half n h e = by_test (nat_lt n half)
  where
    by_test : (b : Bool) → IsEven (cond b (pos n) (negsuc (2 * half - suc n)))
    by_test true = e
    by_test false = omega arith

bits_even : (half : ℕ) (z : ℤ) → IsSigned half z → IsEven z → bits_of half z % 2 ≡ 0
bits_even half (pos n) h e = e
bits_even half (negsuc n) h e = omega arith

pub operands_in-fields_of : (format : Format) (r : Row) (o : Operands) → FitsFormat format o → operands_in format (fields_of format r o) ≡ trim format o
operands_in-fields_of Upper r o h = same_operands _ _ refl refl refl (unsigned_kept (o.imm) h.1)
  where
    unsigned_kept : (z : ℤ) → IsBelow (2 ^ 20) z → (operands_in Upper (fields_of Upper r (record { rd = o.rd; rs1 = 0; rs2 = 0; imm = z }))).imm ≡ z
    unsigned_kept (pos n) k = ap pos (omega arith)
    unsigned_kept (negsuc n) k = absurd k
operands_in-fields_of Jump r o h = let small = bits_fit (2 ^ 20) (o.imm) h.1 in let even = bits_even (2 ^ 20) (o.imm) h.1 h.2 in
    same_operands _ _ refl refl refl (ap (signed_at (2 ^ 20)) (omega arith) ∙ signed_at-bits_of (2 ^ 20) (o.imm) h.1)
operands_in-fields_of Immediate r o h = let small = bits_fit (2 ^ 11) (o.imm) h.2 in
    same_operands _ _ refl refl refl (ap (signed_at (2 ^ 11)) (omega arith) ∙ signed_at-bits_of (2 ^ 11) (o.imm) h.2)
operands_in-fields_of Branch r o h = let small = bits_fit (2 ^ 12) (o.imm) h.2 in let even = bits_even (2 ^ 12) (o.imm) h.2 h.3 in
    same_operands _ _ refl refl refl (ap (signed_at (2 ^ 12)) (omega arith) ∙ signed_at-bits_of (2 ^ 12) (o.imm) h.2)
operands_in-fields_of Store r o h = let small = bits_fit (2 ^ 11) (o.imm) h.2 in
    same_operands _ _ refl refl refl (ap (signed_at (2 ^ 11)) (omega arith) ∙ signed_at-bits_of (2 ^ 11) (o.imm) h.2)
operands_in-fields_of Register r o h = refl
operands_in-fields_of Shift r o h = same_operands _ _ refl refl refl (amount_kept (o.imm) h.2)
  where
    amount_kept : (z : ℤ) → IsBelow 64 z → pos (unsigned z % 2 ^ 5 + 2 ^ 5 * (unsigned z / 2 ^ 5)) ≡ z
    amount_kept (pos n) k = ap pos (omega arith)
    amount_kept (negsuc n) k = absurd k
operands_in-fields_of ShiftWord r o h = same_operands _ _ refl refl refl (amount_kept (o.imm) h.2)
  where
    amount_kept : (z : ℤ) → IsBelow 32 z → pos (unsigned z) ≡ z
    amount_kept (pos n) k = refl
    amount_kept (negsuc n) k = absurd k
operands_in-fields_of System r o h = refl

pub fits-operands_in : (format : Format) (f : Fields) → IsCut f → FitsFormat format (operands_in format f)
fits-operands_in Upper f c = (omega arith, omega arith)
fits-operands_in Jump f c = (omega arith, signed-signed_at (2 ^ 20) _ (omega arith), even-signed_at (2 ^ 20) _ (omega arith) (omega arith))
fits-operands_in Immediate f c = (omega arith, omega arith, signed-signed_at (2 ^ 11) _ (omega arith))
fits-operands_in Branch f c = (omega arith, omega arith, signed-signed_at (2 ^ 12) _ (omega arith), even-signed_at (2 ^ 12) _ (omega arith) (omega arith))
fits-operands_in Store f c = (omega arith, omega arith, signed-signed_at (2 ^ 11) _ (omega arith))
fits-operands_in Register f c = (omega arith, omega arith, omega arith)
fits-operands_in Shift f c = (omega arith, omega arith, omega arith)
fits-operands_in ShiftWord f c = (omega arith, omega arith, omega arith)
fits-operands_in System f c = tt

pub cut-fields_of : (format : Format) (r : Row) (o : Operands) → IsRow r → FitsFormat format o → IsCut (fields_of format r o)
cut-fields_of Upper r o c h = small (o.imm) h.1
  where
    small : (z : ℤ) → IsBelow (2 ^ 20) z → IsCut (fields_of Upper r (record { rd = o.rd; rs1 = 0; rs2 = 0; imm = z }))
    small (pos n) k = record { opcode = omega arith; rd = omega arith; funct3 = omega arith; rs1 = omega arith; rs2 = omega arith; bit25 = omega arith; top6 = omega arith }
    small (negsuc n) k = absurd k
cut-fields_of Jump r o c h = let small = bits_fit (2 ^ 20) (o.imm) h.1 in
    record { opcode = omega arith; rd = omega arith; funct3 = omega arith; rs1 = omega arith; rs2 = omega arith; bit25 = omega arith; top6 = omega arith }
cut-fields_of Immediate r o c h = let small = bits_fit (2 ^ 11) (o.imm) h.2 in
    record { opcode = omega arith; rd = omega arith; funct3 = omega arith; rs1 = omega arith; rs2 = omega arith; bit25 = omega arith; top6 = omega arith }
cut-fields_of Branch r o c h = let small = bits_fit (2 ^ 12) (o.imm) h.2 in
    record { opcode = omega arith; rd = omega arith; funct3 = omega arith; rs1 = omega arith; rs2 = omega arith; bit25 = omega arith; top6 = omega arith }
cut-fields_of Store r o c h = let small = bits_fit (2 ^ 11) (o.imm) h.2 in
    record { opcode = omega arith; rd = omega arith; funct3 = omega arith; rs1 = omega arith; rs2 = omega arith; bit25 = omega arith; top6 = omega arith }
cut-fields_of Register r o c h = record { opcode = omega arith; rd = omega arith; funct3 = omega arith; rs1 = omega arith; rs2 = omega arith; bit25 = omega arith; top6 = omega arith }
cut-fields_of Shift r o c h = small (o.imm) h.2
  where
    small : (z : ℤ) → IsBelow 64 z → IsCut (fields_of Shift r (record { rd = o.rd; rs1 = o.rs1; rs2 = 0; imm = z }))
    small (pos n) k = record { opcode = omega arith; rd = omega arith; funct3 = omega arith; rs1 = omega arith; rs2 = omega arith; bit25 = omega arith; top6 = omega arith }
    small (negsuc n) k = absurd k
cut-fields_of ShiftWord r o c h = small (o.imm) h.2
  where
    small : (z : ℤ) → IsBelow 32 z → IsCut (fields_of ShiftWord r (record { rd = o.rd; rs1 = o.rs1; rs2 = 0; imm = z }))
    small (pos n) k = record { opcode = omega arith; rd = omega arith; funct3 = omega arith; rs1 = omega arith; rs2 = omega arith; bit25 = omega arith; top6 = omega arith }
    small (negsuc n) k = absurd k
cut-fields_of System r o c h = record { opcode = omega arith; rd = omega arith; funct3 = omega arith; rs1 = omega arith; rs2 = omega arith; bit25 = omega arith; top6 = omega arith }

-- a test of several parts
and_true : (a b : Bool) → (a && b) ≡ true → (a ≡ true) × (b ≡ true)
and_true true b e = (refl, e)
and_true false b e = (e, absurd (cc))

eq_true : (a b : ℕ) → (a == b) ≡ true → a ≡ b
eq_true a b e = grind (arith, nat_tests)

-- fields that match a row are those of their operands
pub fields_of-operands_in : (format : Format) (r : Row) (f : Fields) → IsCut f → tests format r f ≡ true → fields_of format r (operands_in format f) ≡ f
fields_of-operands_in Upper r f c e = same_fields _ f (sym (eq_true _ _ e)) refl (omega arith) (omega arith) (omega arith) (omega arith) (omega arith)
fields_of-operands_in Jump r f c e = let b = bits_of-signed_at (2 ^ 20) (2 * (f.rs2 / 2) + 2 ^ 5 * f.bit25 + 2 ^ 6 * (f.top6 % 2 ^ 5) + 2 ^ 11 * (f.rs2 % 2) + 2 ^ 12 * f.funct3 + 2 ^ 15 * f.rs1 + 2 ^ 20 * (f.top6 / 2 ^ 5)) (omega arith) in
    same_fields _ f (sym (eq_true _ _ e)) refl (omega arith) (omega arith) (omega arith) (omega arith) (omega arith)
fields_of-operands_in Immediate r f c e = let t = and_true _ _ e in let b = bits_of-signed_at (2 ^ 11) (f.rs2 + 2 ^ 5 * f.bit25 + 2 ^ 6 * f.top6) (omega arith) in
    same_fields _ f (sym (eq_true _ _ t.0)) refl (sym (eq_true _ _ t.1)) refl (omega arith) (omega arith) (omega arith)
fields_of-operands_in Branch r f c e = let t = and_true _ _ e in let b = bits_of-signed_at (2 ^ 12) (2 * (f.rd / 2) + 2 ^ 5 * f.bit25 + 2 ^ 6 * (f.top6 % 2 ^ 5) + 2 ^ 11 * (f.rd % 2) + 2 ^ 12 * (f.top6 / 2 ^ 5)) (omega arith) in
    same_fields _ f (sym (eq_true _ _ t.0)) (omega arith) (sym (eq_true _ _ t.1)) refl refl (omega arith) (omega arith)
fields_of-operands_in Store r f c e = let t = and_true _ _ e in let b = bits_of-signed_at (2 ^ 11) (f.rd + 2 ^ 5 * f.bit25 + 2 ^ 6 * f.top6) (omega arith) in
    same_fields _ f (sym (eq_true _ _ t.0)) (omega arith) (sym (eq_true _ _ t.1)) refl refl (omega arith) (omega arith)
fields_of-operands_in Register r f c e = let t = and_true _ _ e in let u = and_true _ _ t.1 in let v = and_true _ _ u.1 in
    same_fields _ f (sym (eq_true _ _ t.0)) refl (sym (eq_true _ _ u.0)) refl refl (sym (eq_true _ _ v.0)) (sym (eq_true _ _ v.1))
fields_of-operands_in Shift r f c e = let t = and_true _ _ e in let u = and_true _ _ t.1 in
    same_fields _ f (sym (eq_true _ _ t.0)) refl (sym (eq_true _ _ u.0)) refl (omega arith) (omega arith) (sym (eq_true _ _ u.1))
fields_of-operands_in ShiftWord r f c e = let t = and_true _ _ e in let u = and_true _ _ t.1 in let v = and_true _ _ u.1 in
    same_fields _ f (sym (eq_true _ _ t.0)) refl (sym (eq_true _ _ u.0)) refl refl (sym (eq_true _ _ v.0)) (sym (eq_true _ _ v.1))
fields_of-operands_in System r f c e =
    let t = and_true _ _ e in let u = and_true _ _ t.1 in let v = and_true _ _ u.1 in let x = and_true _ _ v.1 in let y = and_true _ _ x.1 in let z = and_true _ _ y.1 in
    same_fields _ f (sym (eq_true _ _ t.0)) (sym (eq_true _ _ v.0)) (sym (eq_true _ _ u.0)) (sym (eq_true _ _ x.0)) (sym (eq_true _ _ y.0)) (sym (eq_true _ _ z.0)) (sym (eq_true _ _ z.1))
