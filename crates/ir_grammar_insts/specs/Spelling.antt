-- How phis, instructions and terminators are spelled: one list of symbols for each, and which of them a text can spell.
use Rattle.std.specs.Prelude.{◌≡◌, ℕ, ℤ, pos, negsuc, ◌==◌, Bool, true, false, List, [], ◌∷◌, ◌++◌, if◌then◌else◌}
use Rattle.std.specs.List.{All}
use Rattle.ir_tree.specs.Shape.{TyShape, ValShape, local, fixed, global, TyValShape, PhiInShape, CaseShape, BodyShape, phi, binary, icmp, select, convert, freeze, alloca, load, store, get_element, call, jump, branch, switch, return_void, return_value, unreachable}
use Rattle.ir_tree.specs.declared.module.Bin.{Bin}
use Rattle.ir_tree.specs.declared.module.Bin.TheVariants as bins
use Rattle.ir_tree.specs.declared.module.Flags.{Flags}
use Rattle.ir_tree.specs.declared.module.Pred.{Pred}
use Rattle.ir_tree.specs.declared.module.Pred.TheVariants as preds
use Rattle.ir_tree.specs.declared.module.Conv.{Conv}
use Rattle.ir_tree.specs.declared.module.Conv.TheVariants as convs
use Rattle.ir_words.specs.declared.words.Keyword.{Keyword}
use Rattle.ir_words.specs.declared.words.Keyword.TheVariants.{Integer, Void, Phi, Add, Sub, Mul, Shl, Udiv, Sdiv, Lshr, Ashr, Urem, Srem, And, Or, Xor, Nuw, Nsw, Exact, Icmp, Select, Zext, Sext, Trunc, To, Freeze, Alloca, Load, Store, GetElementPtr, Call, Br, Label, Switch, Ret, Unreachable, Eq, Ne, Ugt, Uge, Ult, Ule, Sgt, Sge, Slt, Sle}
use Rattle.ir_lex.specs.Symbols.{Symbol, KeywordSymbol, LocalSymbol, NumberSymbol, MarkSymbol}
use Rattle.ir_grammar_consts.specs.Spelling.{ty_spelling, const_spelling, flag_spelling, FitsTy, FitsConst}

-- the words of operations, of what `icmp` asks and of conversions
abbrev pub bin_word : Bin → Keyword
bin_word bins.Add = Add
bin_word bins.Sub = Sub
bin_word bins.Mul = Mul
bin_word bins.Shl = Shl
bin_word bins.Udiv = Udiv
bin_word bins.Sdiv = Sdiv
bin_word bins.Lshr = Lshr
bin_word bins.Ashr = Ashr
bin_word bins.Urem = Urem
bin_word bins.Srem = Srem
bin_word bins.And = And
bin_word bins.Or = Or
bin_word bins.Xor = Xor

abbrev pub pred_word : Pred → Keyword
pred_word preds.Eq = Eq
pred_word preds.Ne = Ne
pred_word preds.Ugt = Ugt
pred_word preds.Uge = Uge
pred_word preds.Ult = Ult
pred_word preds.Ule = Ule
pred_word preds.Sgt = Sgt
pred_word preds.Sge = Sge
pred_word preds.Slt = Slt
pred_word preds.Sle = Sle

abbrev pub conv_word : Conv → Keyword
conv_word convs.Zext = Zext
conv_word convs.Sext = Sext
conv_word convs.Trunc = Trunc

-- a flag where it is set
abbrev pub flag_word : Bool → Keyword → List Symbol
flag_word true k = KeywordSymbol k ∷ []
flag_word false k = []

-- `nuw`, `nsw` and `exact`, in this order
abbrev pub flags_spelling : Flags → List Symbol
flags_spelling f = flag_word f.nuw Nuw ++ (flag_word f.nsw Nsw ++ flag_word f.exact Exact)

abbrev pub val_spelling : ValShape → List Symbol
val_spelling (local name) = LocalSymbol name ∷ []
val_spelling (fixed c) = const_spelling c

-- ty val
abbrev pub ty_val_spelling : TyValShape → List Symbol
ty_val_spelling v = ty_spelling v.ty ++ val_spelling v.val

-- after a comma
abbrev pub more : {V : Type 0} → (V → List Symbol) → V → List Symbol
more spelling v = MarkSymbol 44 ∷ spelling v

-- one after another
abbrev pub in_a_row : {V : Type 0} → (V → List Symbol) → List V → List Symbol
in_a_row spelling [] = []
in_a_row spelling (v ∷ vs) = spelling v ++ in_a_row spelling vs

-- with commas between them
abbrev pub with_commas : {V : Type 0} → (V → List Symbol) → List V → List Symbol
with_commas spelling [] = []
with_commas spelling (v ∷ vs) = spelling v ++ in_a_row (more spelling) vs

-- ty val "," val
abbrev pub two_spelling : TyShape → ValShape → ValShape → List Symbol
two_spelling t x y = ty_spelling t ++ (val_spelling x ++ more val_spelling y)

-- "label" Local
abbrev pub target_spelling : List ℕ → List Symbol
target_spelling name = KeywordSymbol Label ∷ LocalSymbol name ∷ []

-- "[" val "," Local "]"
abbrev pub phi_input_spelling : PhiInShape → List Symbol
phi_input_spelling v = MarkSymbol 91 ∷ ((val_spelling v.val ++ (MarkSymbol 44 ∷ LocalSymbol v.from ∷ [])) ++ MarkSymbol 93 ∷ [])

-- ty Int "," "label" Local
abbrev pub case_spelling : CaseShape → List Symbol
case_spelling v = ty_spelling v.ty ++ (NumberSymbol v.value ∷ more target_spelling v.to)

-- a count of an alloca after a comma and the type `i64`; one is left out
abbrev pub count_written : ℤ → List Symbol
count_written z = MarkSymbol 44 ∷ KeywordSymbol (Integer 64) ∷ NumberSymbol z ∷ []

abbrev pub count_spelling : ℤ → List Symbol
count_spelling (pos n) = if n == 1 then [] else count_written (pos n)
count_spelling (negsuc n) = count_written (negsuc n)

-- phis, instructions and terminators
abbrev pub body_spelling : BodyShape → List Symbol
body_spelling (phi t inputs) = KeywordSymbol Phi ∷ (ty_spelling t ++ with_commas phi_input_spelling inputs)
body_spelling (binary operation flags t x y) = KeywordSymbol (bin_word operation) ∷ (flags_spelling flags ++ two_spelling t x y)
body_spelling (icmp predicate t x y) = KeywordSymbol Icmp ∷ KeywordSymbol (pred_word predicate) ∷ two_spelling t x y
body_spelling (select c x y) = KeywordSymbol Select ∷ (ty_val_spelling c ++ (more ty_val_spelling x ++ more ty_val_spelling y))
body_spelling (convert conversion t x to) = KeywordSymbol (conv_word conversion) ∷ (ty_spelling t ++ (val_spelling x ++ KeywordSymbol To ∷ ty_spelling to))
body_spelling (freeze t x) = KeywordSymbol Freeze ∷ (ty_spelling t ++ val_spelling x)
body_spelling (alloca t n) = KeywordSymbol Alloca ∷ (ty_spelling t ++ count_spelling n)
body_spelling (load t x) = KeywordSymbol Load ∷ (ty_spelling t ++ more ty_val_spelling x)
body_spelling (store x y) = KeywordSymbol Store ∷ (ty_val_spelling x ++ more ty_val_spelling y)
body_spelling (get_element inbounds t base row) =
    KeywordSymbol GetElementPtr ∷ (flag_spelling inbounds ++ (ty_spelling t ++ (more ty_val_spelling base ++ in_a_row (more ty_val_spelling) row)))
body_spelling (call t callee row) =
    KeywordSymbol Call ∷ (ty_spelling t ++ (val_spelling callee ++ MarkSymbol 40 ∷ (with_commas ty_val_spelling row ++ MarkSymbol 41 ∷ [])))
body_spelling (jump to) = KeywordSymbol Br ∷ target_spelling to
body_spelling (branch c x y) = KeywordSymbol Br ∷ (ty_val_spelling c ++ (more target_spelling x ++ more target_spelling y))
body_spelling (switch x to cases) =
    KeywordSymbol Switch ∷ (ty_val_spelling x ++ (more target_spelling to ++ MarkSymbol 91 ∷ (in_a_row case_spelling cases ++ MarkSymbol 93 ∷ [])))
body_spelling return_void = KeywordSymbol Ret ∷ KeywordSymbol Void ∷ []
body_spelling (return_value x) = KeywordSymbol Ret ∷ ty_val_spelling x
body_spelling unreachable = KeywordSymbol Unreachable ∷ []

-- what a text can spell: its types and constants are such
abbrev pub FitsVal : ValShape → Type 0
FitsVal (local name) = Unit {0}
FitsVal (fixed c) = FitsConst c

abbrev pub FitsTyVal : TyValShape → Type 0
FitsTyVal v = FitsTy v.ty × FitsVal v.val

abbrev pub FitsTwo : TyShape → ValShape → ValShape → Type 0
FitsTwo t x y = FitsTy t × FitsVal x × FitsVal y

abbrev pub FitsPhiInput : PhiInShape → Type 0
FitsPhiInput v = FitsVal v.val

abbrev pub FitsCase : CaseShape → Type 0
FitsCase v = FitsTy v.ty

-- no flag but those of the operation
abbrev pub FitsFlags : Bin → Flags → Type 0
FitsFlags bins.Add f = f.exact ≡ false
FitsFlags bins.Sub f = f.exact ≡ false
FitsFlags bins.Mul f = f.exact ≡ false
FitsFlags bins.Shl f = f.exact ≡ false
FitsFlags bins.Udiv f = (f.nuw ≡ false) × (f.nsw ≡ false)
FitsFlags bins.Sdiv f = (f.nuw ≡ false) × (f.nsw ≡ false)
FitsFlags bins.Lshr f = (f.nuw ≡ false) × (f.nsw ≡ false)
FitsFlags bins.Ashr f = (f.nuw ≡ false) × (f.nsw ≡ false)
FitsFlags _ f = (f.nuw ≡ false) × (f.nsw ≡ false) × (f.exact ≡ false)

-- a callee is the name of a function
abbrev pub IsCallee : ValShape → Type 0
IsCallee x = (name : List ℕ) × (x ≡ fixed (global name))

-- a phi has an input
abbrev pub FitsPhi : BodyShape → Type 0
FitsPhi (phi t (v ∷ vs)) = FitsTy t × FitsPhiInput v × All FitsPhiInput vs
FitsPhi _ = ⊥

abbrev pub FitsInst : BodyShape → Type 0
FitsInst (binary operation flags t x y) = FitsFlags operation flags × FitsTwo t x y
FitsInst (icmp predicate t x y) = FitsTwo t x y
FitsInst (select c x y) = FitsTyVal c × FitsTyVal x × FitsTyVal y
FitsInst (convert conversion t x to) = FitsTy t × FitsVal x × FitsTy to
FitsInst (freeze t x) = FitsTy t × FitsVal x
FitsInst (alloca t n) = FitsTy t
FitsInst (load t x) = FitsTy t × FitsTyVal x
FitsInst (store x y) = FitsTyVal x × FitsTyVal y
FitsInst (get_element inbounds t base row) = FitsTy t × FitsTyVal base × All FitsTyVal row
FitsInst (call t callee row) = FitsTy t × IsCallee callee × All FitsTyVal row
FitsInst _ = ⊥

abbrev pub FitsTerm : BodyShape → Type 0
FitsTerm (jump to) = Unit {0}
FitsTerm (branch c x y) = FitsTyVal c
FitsTerm (switch x to cases) = FitsTyVal x × All FitsCase cases
FitsTerm return_void = Unit {0}
FitsTerm (return_value x) = FitsTyVal x
FitsTerm unreachable = Unit {0}
FitsTerm _ = ⊥
