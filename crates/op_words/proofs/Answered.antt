-- The words of each binary operation leave what the operation answers, and all words are pure.
use Rattle.std.proofs.Common.{◌≡◌, ◌≢◌, ◌≤◌, ◌<◌, ℕ, zero, suc, ◌-◌, ◌^◌, ◌==◌, pos, Bool, true, false, if◌then◌else◌, List, [], ◌∷◌, ◌++◌, Some, None, refl, ap, sym, ◌∙◌, arith}
use Rattle.std.specs.Prelude.{IsTrue, ◌&&◌}
use Rattle.std.specs.List.{list_all}
use Rattle.std.proofs.lemmas.Bool.Decides.{nat_tests}
use Rattle.ir_tree.specs.declared.module.Bin.{Bin}
use Rattle.ir_tree.specs.declared.module.Bin.TheVariants.{Add, Sub, Mul, Shl, Udiv, Sdiv, Lshr, Ashr, Urem, Srem, And, Or, Xor}
use Rattle.ir_tree.specs.declared.module.Pred.{Pred}
use Rattle.ir_tree.specs.declared.module.Pred.TheVariants.{Eq, Ne, Ugt, Uge, Ult, Ule, Sgt, Sge, Slt, Sle}
use Rattle.ir_tree.specs.declared.module.Conv.{Conv}
use Rattle.ir_tree.specs.declared.module.Conv.TheVariants.{Zext, Sext, Trunc}
use Rattle.ir_tree.specs.declared.module.Flags.{Flags}
use Rattle.ir_model.specs.declared.Why.TheVariants as why
use Rattle.ir_model.specs.Values.{Integer, Answer, Gives, Fails}
use Rattle.ir_model.specs.Integers.{computed, has_no_quotient, binary, holds, truth}
use Rattle.ir_model.specs.Pointers.{extended}
use Rattle.rv_inst.specs.declared.instruction.Form.{Form}
use Rattle.rv_inst.specs.declared.instruction.Form.TheVariants as rv
use Rattle.flip_frames.specs.Computing.{is_pure}
use Rattle.flip_versions.specs.Operations.{Leaves}
use Rattle.op_words.specs.Words.{narrowed, cut, raised, both_raised, lowered, binary_words, compare_words, convert_words}
use Rattle.op_words.specs.Laws.{BinaryWordsCompute, ComparisonWordsCompute, ConversionWordsCompute, WordsArePure}
use Rattle.op_words.proofs.Powers.{width}
use Rattle.op_words.proofs.Binaries.{Kept, kept_of, Two, not_far, add_leaves, sub_leaves, mul_leaves, shl_leaves}
use Rattle.op_words.proofs.Bitwise.{and_leaves, or_leaves, xor_leaves}
use Rattle.op_words.proofs.Divisions.{udiv_leaves, sdiv_leaves, urem_leaves, srem_leaves, lshr_leaves, ashr_leaves}
use Rattle.op_words.proofs.Comparisons.{bit, compare_leaves}
use Rattle.op_words.proofs.Conversions.{convert_leaves}

-- a division that gives a number
pub record Divides (operation : Bin) (flags : Flags) (w a b v : ℕ) : Type 0 where
  pub some : b ≢ 0
  pub quotient_there : has_no_quotient operation w a b ≡ false
  pub kept : Kept operation flags w a b v

divides_by : (operation : Bin) (flags : Flags) (w a b v : ℕ) (zero_test none : Bool) → (b == 0) ≡ zero_test → has_no_quotient operation w a b ≡ none
    → (if zero_test then Fails why.Divide else (if none then Fails why.Divide else Gives (computed operation flags w a b))) ≡ Gives (Integer w v)
    → Divides operation flags w a b v
divides_by operation flags w a b v true none is other gives = cc
divides_by operation flags w a b v false true is other gives = cc
divides_by operation flags w a b v false false is other gives =
    record { some = λ e. grind (arith, nat_tests); quotient_there = other; kept = kept_of operation flags w a b v gives }

pub divides : (operation : Bin) (flags : Flags) (w a b v : ℕ)
    → (if b == 0 then Fails why.Divide else (if has_no_quotient operation w a b then Fails why.Divide else Gives (computed operation flags w a b)))
    ≡ Gives (Integer w v) → Divides operation flags w a b v
divides operation flags w a b v gives = divides_by operation flags w a b v (b == 0) (has_no_quotient operation w a b) refl refl gives

pub binaries : BinaryWordsCompute
binaries Add flags w a b v some most la lb gives =
    add_leaves w a b (record { is = width w some most; left = la; right = lb }) v (kept_of Add flags w a b v gives).result
binaries Sub flags w a b v some most la lb gives =
    sub_leaves w a b (record { is = width w some most; left = la; right = lb }) v (kept_of Sub flags w a b v gives).result
binaries Mul flags w a b v some most la lb gives =
    mul_leaves w a b (record { is = width w some most; left = la; right = lb }) v (kept_of Mul flags w a b v gives).result
binaries Shl flags w a b v some most la lb gives =
    let kept = kept_of Shl flags w a b v gives in
    shl_leaves w a b (record { is = width w some most; left = la; right = lb }) flags v kept.kept kept.result
binaries Udiv flags w a b v some most la lb gives =
    let d = divides Udiv flags w a b v gives in
    udiv_leaves w a b (record { is = width w some most; left = la; right = lb }) v d.some d.kept.result
binaries Sdiv flags w a b v some most la lb gives =
    let d = divides Sdiv flags w a b v gives in
    sdiv_leaves w a b (record { is = width w some most; left = la; right = lb }) v d.some d.quotient_there d.kept.result
binaries Lshr flags w a b v some most la lb gives =
    let kept = kept_of Lshr flags w a b v gives in
    lshr_leaves w a b (record { is = width w some most; left = la; right = lb }) v (not_far w b _ kept.kept) kept.result
binaries Ashr flags w a b v some most la lb gives =
    let kept = kept_of Ashr flags w a b v gives in
    ashr_leaves w a b (record { is = width w some most; left = la; right = lb }) v (not_far w b _ kept.kept) kept.result
binaries Urem flags w a b v some most la lb gives =
    let d = divides Urem flags w a b v gives in
    urem_leaves w a b (record { is = width w some most; left = la; right = lb }) v d.some d.kept.result
binaries Srem flags w a b v some most la lb gives =
    let d = divides Srem flags w a b v gives in
    srem_leaves w a b (record { is = width w some most; left = la; right = lb }) v d.some d.kept.result
binaries And flags w a b v some most la lb gives =
    and_leaves w a b (record { is = width w some most; left = la; right = lb }) v (kept_of And flags w a b v gives).result
binaries Or flags w a b v some most la lb gives =
    or_leaves w a b (record { is = width w some most; left = la; right = lb }) v (kept_of Or flags w a b v gives).result
binaries Xor flags w a b v some most la lb gives =
    xor_leaves w a b (record { is = width w some most; left = la; right = lb }) v (kept_of Xor flags w a b v gives).result

bit_is : (test : Bool) (v : ℕ) → truth test ≡ Integer 1 v → bit test ≡ v
bit_is test v e = grind arith

pub comparisons : ComparisonWordsCompute
comparisons predicate w a b v some most la lb is =
    compare_leaves predicate w a b (record { is = width w some most; left = la; right = lb })
    ∙ ap (λ (n : ℕ). Some (extended 1 n)) (bit_is (holds predicate w a b) v is)

pub conversions : ConversionWordsCompute
conversions conversion from to n some most many fits leads lt = convert_leaves conversion from to n (width from some most) (width to many fits) leads lt

-- ---- purity
either : (b : Bool) (xs ys : List Form) → list_all is_pure xs ≡ true → list_all is_pure ys ≡ true → list_all is_pure (if b then xs else ys) ≡ true
either true xs ys px py = px
either false xs ys px py = py

narrowed_pure : (w : ℕ) → list_all is_pure (narrowed w) ≡ true
narrowed_pure w = either (w == 64) [] (rv.SLLI 5 5 (pos (64 - w)) ∷ rv.SRAI 5 5 (pos (64 - w)) ∷ []) refl refl

both : (xs ys : List Form) → list_all is_pure xs ≡ true → list_all is_pure ys ≡ true → list_all is_pure (xs ++ ys) ≡ true
both [] ys px py = py
both (x ∷ xs) ys px py = first (is_pure x) (list_all is_pure xs) px (λ rest. both xs ys rest py)
  where
    first : (p q : Bool) → (p && q) ≡ true → (q ≡ true → list_all is_pure (xs ++ ys) ≡ true) → (p && list_all is_pure (xs ++ ys)) ≡ true
    first true true e later = later refl
    first true false e later = cc
    first false q e later = cc

cut_pure : (w : ℕ) (short whole : Form) → is_pure short ≡ true → is_pure whole ≡ true → list_all is_pure (cut w short whole) ≡ true
cut_pure w short whole one other =
    either (w == 32) (short ∷ []) (whole ∷ narrowed w) (ap (λ (p : Bool). p && true) one)
    (ap (λ (p : Bool). p && list_all is_pure (narrowed w)) other ∙ narrowed_pure w)

pub binaries_pure : (operation : Bin) (w : ℕ) → IsTrue (list_all is_pure (binary_words operation w))
binaries_pure Add w = cut_pure w (rv.ADDW 5 5 6) (rv.ADD 5 5 6) refl refl
binaries_pure Sub w = cut_pure w (rv.SUBW 5 5 6) (rv.SUB 5 5 6) refl refl
binaries_pure Mul w = cut_pure w (rv.MULW 5 5 6) (rv.MUL 5 5 6) refl refl
binaries_pure Shl w = cut_pure w (rv.SLLW 5 5 6) (rv.SLL 5 5 6) refl refl
binaries_pure Udiv w =
    both (both_raised w) (rv.DIVU 5 5 6 ∷ narrowed w)
    (either (w == 64) [] (rv.SLLI 5 5 (pos (64 - w)) ∷ rv.SLLI 6 6 (pos (64 - w)) ∷ []) refl refl) (narrowed_pure w)
binaries_pure Sdiv w = refl
binaries_pure Lshr w =
    both (raised w) (rv.SRL 5 5 6 ∷ lowered w) (either (w == 64) [] (rv.SLLI 5 5 (pos (64 - w)) ∷ []) refl refl)
    (either (w == 64) [] (rv.SRAI 5 5 (pos (64 - w)) ∷ []) refl refl)
binaries_pure Ashr w = refl
binaries_pure Urem w =
    both (both_raised w) (rv.REMU 5 5 6 ∷ lowered w)
    (either (w == 64) [] (rv.SLLI 5 5 (pos (64 - w)) ∷ rv.SLLI 6 6 (pos (64 - w)) ∷ []) refl refl)
    (either (w == 64) [] (rv.SRAI 5 5 (pos (64 - w)) ∷ []) refl refl)
binaries_pure Srem w = refl
binaries_pure And w = refl
binaries_pure Or w = refl
binaries_pure Xor w = refl

comparisons_pure : (predicate : Pred) → IsTrue (list_all is_pure (compare_words predicate))
comparisons_pure Eq = refl
comparisons_pure Ne = refl
comparisons_pure Ugt = refl
comparisons_pure Uge = refl
comparisons_pure Ult = refl
comparisons_pure Ule = refl
comparisons_pure Sgt = refl
comparisons_pure Sge = refl
comparisons_pure Slt = refl
comparisons_pure Sle = refl

conversions_pure : (conversion : Conv) (from to : ℕ) → IsTrue (list_all is_pure (convert_words conversion from to))
conversions_pure Zext from to = refl
conversions_pure Sext from to = refl
conversions_pure Trunc from to = either (to == 32) (rv.ADDIW 5 5 (pos 0) ∷ []) (narrowed to) refl (narrowed_pure to)

pub all_pure : WordsArePure
all_pure = record { binaries = binaries_pure; comparisons = comparisons_pure; conversions = conversions_pure }
