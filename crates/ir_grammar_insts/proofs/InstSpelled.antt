-- The spelling of a phi or of an instruction is a word of the grammar.
use Rattle.std.proofs.Common.{◌≡◌, ℕ, ℤ, ◌==◌, Bool, true, false, List, [], ◌∷◌, ◌++◌, refl, sym, ap, subst, Option, None, Some, arith, pos, negsuc, eqb-true, if◌then◌else◌}
use Rattle.grammar.specs.Language.{mark, maybe}
use Rattle.ir_tree.specs.Shape.{TyShape, integer, ValShape, fixed, global, TyValShape, PhiInShape, BodyShape, phi, binary, icmp, select, convert, freeze, alloca, load, store, get_element, call}
use Rattle.ir_tree.specs.declared.module.Bin.{Bin}
use Rattle.ir_tree.specs.declared.module.Bin.TheVariants as bins
use Rattle.ir_tree.specs.declared.module.Flags.{Flags}
use Rattle.ir_tree.specs.declared.module.Pred.{Pred}
use Rattle.ir_tree.specs.declared.module.Pred.TheVariants as preds
use Rattle.ir_tree.specs.declared.module.Conv.{Conv}
use Rattle.ir_tree.specs.declared.module.Conv.TheVariants as convs
use Rattle.ir_words.specs.declared.words.Keyword.TheVariants.{Integer, Phi, Nuw, Nsw, Exact, Icmp, Select, Zext, Sext, Trunc, To, Freeze, Alloca, Load, Store, GetElementPtr, Call}
use Rattle.ir_lex.specs.Symbols.{Symbol, KeywordSymbol, LocalSymbol, GlobalSymbol, NumberSymbol, MarkSymbol}
use Rattle.ir_grammar_consts.specs.Types.{ty}
use Rattle.ir_grammar_consts.specs.Spelling.{ty_spelling, const_spelling, flag_spelling, FitsTy}
use Rattle.ir_grammar_consts.proofs.TypeSpelled.{closed, spelled_ty}
use Rattle.ir_grammar_insts.specs.Operands.{asked, ty_val}
use Rattle.ir_grammar_insts.specs.Arithmetic.{wrap_flags, exact_flag, no_flags, converted}
use Rattle.ir_grammar_insts.specs.Memory.{counted, count_of}
use Rattle.ir_grammar_insts.specs.Instructions.{phi_input, inst_head, inst}
use Rattle.ir_grammar_insts.specs.declared.heads.InstHead.TheVariants.{WrappingWord, ExactWord, PlainWord, IcmpWord, SelectWord, ExtendWord, TruncWord, FreezeWord, AllocaWord, LoadWord, StoreWord, ElementWord, CallWord}
use Rattle.ir_grammar_insts.specs.Instructions as grammar
use Rattle.ir_grammar_insts.specs.Spelling.{bin_word, pred_word, flags_spelling, val_spelling, ty_val_spelling, more, in_a_row, with_commas, two_spelling, phi_input_spelling, count_written, count_spelling, body_spelling, FitsVal, FitsTyVal, FitsTwo, FitsPhiInput, FitsFlags, FitsPhi, FitsInst}
use Rattle.ir_grammar_insts.proofs.OperandSpelled.{spelled_val, spelled_ty_val, spelled_more_ty_val, spelled_two, spelled_commas, spelled_items, spelled_listed, spelled_flag}

pub spelled_phi_input : (v : PhiInShape) → FitsPhiInput v → phi_input (phi_input_spelling v) v
spelled_phi_input v h =
    let back : List Symbol = MarkSymbol 44 ∷ LocalSymbol v.from ∷ [] in (
      MarkSymbol 91,
      (val_spelling v.val ++ back) ++ MarkSymbol 93 ∷ [],
      mark,
      refl,
      refl,
      (
        (v, mark),
        (
          val_spelling v.val ++ back,
          MarkSymbol 93 ∷ [],
          refl,
          (
            (v.val, v.from),
            (val_spelling v.val, back, refl, spelled_val v.val h, (MarkSymbol 44, LocalSymbol v.from ∷ [], mark, refl, refl, (LocalSymbol v.from, [], v.from, refl, refl, (refl, refl)))),
            refl,
          ),
          closed 93 refl,
        ),
        refl,
      ),
    )

pub spelled_phi : (v : BodyShape) → FitsPhi v → grammar.phi (body_spelling v) v
spelled_phi (phi t (v ∷ vs)) h = (
  KeywordSymbol Phi,
  ty_spelling t ++ with_commas phi_input_spelling (v ∷ vs),
  mark,
  refl,
  refl,
  (
    (t, v ∷ vs),
    (ty_spelling t, with_commas phi_input_spelling (v ∷ vs), refl, spelled_ty t h.0, spelled_items phi_input phi_input_spelling FitsPhiInput spelled_phi_input v vs h.1 h.2),
    refl,
  ),
)
spelled_phi _ h = absurd h

wraps : (nuw nsw exact : Bool) → exact ≡ false → wrap_flags (flags_spelling (record { nuw = nuw; nsw = nsw; exact = exact })) (record { nuw = nuw; nsw = nsw; exact = exact })
wraps true true false e = (
  true ∷ false ∷ [],
  (
    KeywordSymbol Nuw ∷ [],
    KeywordSymbol Nsw ∷ [],
    refl,
    (KeywordSymbol Nuw, [], true, refl, refl, (refl, refl)),
    (KeywordSymbol Nsw ∷ [], [], refl, (KeywordSymbol Nsw, [], false, refl, refl, (refl, refl)), refl),
  ),
  refl,
)
wraps true false false e = (true ∷ [], (KeywordSymbol Nuw ∷ [], [], refl, (KeywordSymbol Nuw, [], true, refl, refl, (refl, refl)), refl), refl)
wraps false true false e = (false ∷ [], (KeywordSymbol Nsw ∷ [], [], refl, (KeywordSymbol Nsw, [], false, refl, refl, (refl, refl)), refl), refl)
wraps false false false e = ([], refl, refl)
wraps nuw nsw true e = cc

exacts : (nuw nsw exact : Bool) → nuw ≡ false → nsw ≡ false
    → exact_flag (flags_spelling (record { nuw = nuw; nsw = nsw; exact = exact })) (record { nuw = nuw; nsw = nsw; exact = exact })
exacts false false true e f = (Some mark, (KeywordSymbol Exact, [], mark, refl, refl, (refl, refl)), refl)
exacts false false false e f = (None, refl, refl)
exacts true nsw exact e f = cc
exacts false true exact e f = cc

plain_flags : (nuw nsw exact : Bool) → nuw ≡ false → nsw ≡ false → exact ≡ false → ◌≡◌ {A = Flags} (record { nuw = nuw; nsw = nsw; exact = exact }) no_flags
plain_flags false false false e g h = refl
plain_flags true nsw exact e g h = cc
plain_flags false true exact e g h = cc
plain_flags false false true e g h = cc

plains : (f : Flags) → f.nuw ≡ false → f.nsw ≡ false → f.exact ≡ false → f ≡ no_flags
plains f e g h = plain_flags f.nuw f.nsw f.exact e g h

wrapping_word : (operation : Bin) (f : Flags) (t : TyShape) (x y : ValShape) → inst_head (KeywordSymbol (bin_word operation)) ≡ Some (WrappingWord operation)
    → f.exact ≡ false → FitsTwo t x y → inst (body_spelling (binary operation f t x y)) (binary operation f t x y)
wrapping_word operation f t x y e g h = (
  KeywordSymbol (bin_word operation),
  flags_spelling f ++ two_spelling t x y,
  WrappingWord operation,
  refl,
  e,
  ((f, (t, (x, y))), (flags_spelling f, two_spelling t x y, refl, wraps f.nuw f.nsw f.exact g, spelled_two t x y h), refl),
)

exact_word : (operation : Bin) (f : Flags) (t : TyShape) (x y : ValShape) → inst_head (KeywordSymbol (bin_word operation)) ≡ Some (ExactWord operation)
    → (f.nuw ≡ false) × (f.nsw ≡ false) → FitsTwo t x y → inst (body_spelling (binary operation f t x y)) (binary operation f t x y)
exact_word operation f t x y e g h = (
  KeywordSymbol (bin_word operation),
  flags_spelling f ++ two_spelling t x y,
  ExactWord operation,
  refl,
  e,
  ((f, (t, (x, y))), (flags_spelling f, two_spelling t x y, refl, exacts f.nuw f.nsw f.exact g.0 g.1, spelled_two t x y h), refl),
)

plain_word : (operation : Bin) (f : Flags) (t : TyShape) (x y : ValShape) → inst_head (KeywordSymbol (bin_word operation)) ≡ Some (PlainWord operation)
    → (f.nuw ≡ false) × (f.nsw ≡ false) × (f.exact ≡ false) → FitsTwo t x y → inst (body_spelling (binary operation f t x y)) (binary operation f t x y)
plain_word operation f t x y e g h =
    subst (λ z. inst (body_spelling (binary operation z t x y)) (binary operation z t x y)) (sym (plains f g.0 g.1 g.2))
    (KeywordSymbol (bin_word operation), two_spelling t x y, PlainWord operation, refl, e, ((t, (x, y)), spelled_two t x y h, refl))

spelled_binary : (operation : Bin) (f : Flags) (t : TyShape) (x y : ValShape) → FitsFlags operation f → FitsTwo t x y
    → inst (body_spelling (binary operation f t x y)) (binary operation f t x y)
spelled_binary bins.Add f t x y g h = wrapping_word bins.Add f t x y refl g h
spelled_binary bins.Sub f t x y g h = wrapping_word bins.Sub f t x y refl g h
spelled_binary bins.Mul f t x y g h = wrapping_word bins.Mul f t x y refl g h
spelled_binary bins.Shl f t x y g h = wrapping_word bins.Shl f t x y refl g h
spelled_binary bins.Udiv f t x y g h = exact_word bins.Udiv f t x y refl g h
spelled_binary bins.Sdiv f t x y g h = exact_word bins.Sdiv f t x y refl g h
spelled_binary bins.Lshr f t x y g h = exact_word bins.Lshr f t x y refl g h
spelled_binary bins.Ashr f t x y g h = exact_word bins.Ashr f t x y refl g h
spelled_binary bins.Urem f t x y g h = plain_word bins.Urem f t x y refl g h
spelled_binary bins.Srem f t x y g h = plain_word bins.Srem f t x y refl g h
spelled_binary bins.And f t x y g h = plain_word bins.And f t x y refl g h
spelled_binary bins.Or f t x y g h = plain_word bins.Or f t x y refl g h
spelled_binary bins.Xor f t x y g h = plain_word bins.Xor f t x y refl g h

pred_known : (p : Pred) → asked (KeywordSymbol (pred_word p)) ≡ Some p
pred_known preds.Eq = refl
pred_known preds.Ne = refl
pred_known preds.Ugt = refl
pred_known preds.Uge = refl
pred_known preds.Ult = refl
pred_known preds.Ule = refl
pred_known preds.Sgt = refl
pred_known preds.Sge = refl
pred_known preds.Slt = refl
pred_known preds.Sle = refl

abbrev converted_spelling : TyShape → ValShape → TyShape → List Symbol
converted_spelling t x to = ty_spelling t ++ (val_spelling x ++ KeywordSymbol To ∷ ty_spelling to)

spelled_converted : (t : TyShape) (x : ValShape) (to : TyShape) → FitsTy t × FitsVal x × FitsTy to → converted (converted_spelling t x to) (t, (x, to))
spelled_converted t x to h = (
  ty_spelling t,
  val_spelling x ++ KeywordSymbol To ∷ ty_spelling to,
  refl,
  spelled_ty t h.0,
  (val_spelling x, KeywordSymbol To ∷ ty_spelling to, refl, spelled_val x h.1, (KeywordSymbol To, ty_spelling to, mark, refl, refl, spelled_ty to h.2)),
)

spelled_convert : (conversion : Conv) (t : TyShape) (x : ValShape) (to : TyShape) → FitsTy t × FitsVal x × FitsTy to
    → inst (body_spelling (convert conversion t x to)) (convert conversion t x to)
spelled_convert convs.Zext t x to h = (KeywordSymbol Zext, converted_spelling t x to, ExtendWord convs.Zext, refl, refl, ((t, (x, to)), spelled_converted t x to h, refl))
spelled_convert convs.Sext t x to h = (KeywordSymbol Sext, converted_spelling t x to, ExtendWord convs.Sext, refl, refl, ((t, (x, to)), spelled_converted t x to h, refl))
spelled_convert convs.Trunc t x to h = (
  KeywordSymbol Trunc,
  converted_spelling t x to,
  TruncWord,
  refl,
  refl,
  ((no_flags, (t, (x, to))), ([], converted_spelling t x to, refl, ([], refl, refl), spelled_converted t x to h), refl),
)

wide : FitsTy (integer 64)
unfolding FitsTy
wide = (omega arith, omega arith)

wide_word : ty_spelling (integer 64) ≡ KeywordSymbol (Integer 64) ∷ []
unfolding ty_spelling
wide_word = refl

counted_written : (z : ℤ) → counted (count_written z) (integer 64, z)
counted_written z = (
  MarkSymbol 44,
  KeywordSymbol (Integer 64) ∷ NumberSymbol z ∷ [],
  mark,
  refl,
  refl,
  (
    KeywordSymbol (Integer 64) ∷ [],
    NumberSymbol z ∷ [],
    refl,
    subst (λ p. ty p (integer 64)) wide_word (spelled_ty (integer 64) wide),
    (NumberSymbol z, [], z, refl, refl, (refl, refl)),
  ),
)

-- what is written of a count says the count
abbrev Counts : ℤ → List Symbol → Type 0
Counts z ss = (o : Option (TyShape × ℤ)) × maybe counted ss o × (z ≡ count_of o)

counts_at : (n : ℕ) (b : Bool) → n == 1 ≡ b → Counts (pos n) (if b then [] else count_written (pos n))
counts_at n true e = (None, refl, ap pos (eqb-true n 1 e))
counts_at n false e = (Some (integer 64, pos n), counted_written (pos n), refl)

counts : (z : ℤ) → Counts z (count_spelling z)
counts (pos n) = counts_at n (n == 1) refl
counts (negsuc n) = (Some (integer 64, negsuc n), counted_written (negsuc n), refl)

spelled_alloca : (t : TyShape) (z : ℤ) → FitsTy t → inst (body_spelling (alloca t z)) (alloca t z)
spelled_alloca t z h =
    let count = counts z in (
      KeywordSymbol Alloca,
      ty_spelling t ++ count_spelling z,
      AllocaWord,
      refl,
      refl,
      ((t, count.0), (ty_spelling t, count_spelling z, refl, spelled_ty t h, count.1), ap (alloca t) count.2),
    )

spelled_element : (inbounds : Bool) (t : TyShape) (base : TyValShape) (row : List TyValShape) → FitsInst (get_element inbounds t base row)
    → inst (body_spelling (get_element inbounds t base row)) (get_element inbounds t base row)
spelled_element inbounds t base row h =
    let last : List Symbol = in_a_row (more ty_val_spelling) row in
    let both : List Symbol = more ty_val_spelling base ++ last in (
      KeywordSymbol GetElementPtr,
      flag_spelling inbounds ++ (ty_spelling t ++ both),
      ElementWord,
      refl,
      refl,
      (
        (inbounds, (t, (base, row))),
        (
          flag_spelling inbounds,
          ty_spelling t ++ both,
          refl,
          spelled_flag inbounds,
          (
            ty_spelling t,
            both,
            refl,
            spelled_ty t h.0,
            (more ty_val_spelling base, last, refl, spelled_more_ty_val base h.1, spelled_commas ty_val ty_val_spelling FitsTyVal spelled_ty_val row h.2),
          ),
        ),
        refl,
      ),
    )

unfold_global : (name : List ℕ) → const_spelling (global name) ≡ GlobalSymbol name ∷ []
unfolding const_spelling
unfold_global name = refl

spelled_call_at : (t : TyShape) (name : List ℕ) (row : List TyValShape) → FitsInst (call t (fixed (global name)) row)
    → inst (body_spelling (call t (fixed (global name)) row)) (call t (fixed (global name)) row)
spelled_call_at t name row h =
    let last : List Symbol = with_commas ty_val_spelling row ++ MarkSymbol 41 ∷ [] in
    subst (λ p. inst (KeywordSymbol Call ∷ (ty_spelling t ++ (p ++ MarkSymbol 40 ∷ last))) (call t (fixed (global name)) row)) (sym (unfold_global name)) (
      KeywordSymbol Call,
      ty_spelling t ++ GlobalSymbol name ∷ MarkSymbol 40 ∷ last,
      CallWord,
      refl,
      refl,
      (
        (t, (name, row)),
        (
          ty_spelling t,
          GlobalSymbol name ∷ MarkSymbol 40 ∷ last,
          refl,
          spelled_ty t h.0,
          (
            GlobalSymbol name ∷ [],
            MarkSymbol 40 ∷ last,
            refl,
            (GlobalSymbol name, [], name, refl, refl, (refl, refl)),
            (MarkSymbol 40, last, mark, refl, refl, spelled_listed ty_val ty_val_spelling FitsTyVal spelled_ty_val 41 refl row h.2),
          ),
        ),
        refl,
      ),
    )

spelled_call : (t : TyShape) (callee : ValShape) (row : List TyValShape) → FitsInst (call t callee row)
    → inst (body_spelling (call t callee row)) (call t callee row)
spelled_call t callee row h =
    subst (λ x. inst (body_spelling (call t x row)) (call t x row)) (sym h.1.1)
    (spelled_call_at t h.1.0 row (h.0, (h.1.0, refl), h.2))

pub spelled_inst : (v : BodyShape) → FitsInst v → inst (body_spelling v) v
spelled_inst (binary operation f t x y) h = spelled_binary operation f t x y h.0 h.1
spelled_inst (icmp p t x y) h = (
  KeywordSymbol Icmp,
  KeywordSymbol (pred_word p) ∷ two_spelling t x y,
  IcmpWord,
  refl,
  refl,
  ((p, (t, (x, y))), (KeywordSymbol (pred_word p) ∷ [], two_spelling t x y, refl, (KeywordSymbol (pred_word p), [], p, refl, pred_known p, (refl, refl)), spelled_two t x y h), refl),
)
spelled_inst (select c x y) h = (
  KeywordSymbol Select,
  ty_val_spelling c ++ (more ty_val_spelling x ++ more ty_val_spelling y),
  SelectWord,
  refl,
  refl,
  (
    (c, (x, y)),
    (
      ty_val_spelling c,
      more ty_val_spelling x ++ more ty_val_spelling y,
      refl,
      spelled_ty_val c h.0,
      (more ty_val_spelling x, more ty_val_spelling y, refl, spelled_more_ty_val x h.1, spelled_more_ty_val y h.2),
    ),
    refl,
  ),
)
spelled_inst (convert conversion t x to) h = spelled_convert conversion t x to h
spelled_inst (freeze t x) h = (
  KeywordSymbol Freeze,
  ty_spelling t ++ val_spelling x,
  FreezeWord,
  refl,
  refl,
  ((t, x), (ty_spelling t, val_spelling x, refl, spelled_ty t h.0, spelled_val x h.1), refl),
)
spelled_inst (alloca t z) h = spelled_alloca t z h
spelled_inst (load t x) h = (
  KeywordSymbol Load,
  ty_spelling t ++ more ty_val_spelling x,
  LoadWord,
  refl,
  refl,
  ((t, x), (ty_spelling t, more ty_val_spelling x, refl, spelled_ty t h.0, spelled_more_ty_val x h.1), refl),
)
spelled_inst (store x y) h = (
  KeywordSymbol Store,
  ty_val_spelling x ++ more ty_val_spelling y,
  StoreWord,
  refl,
  refl,
  ((x, y), (ty_val_spelling x, more ty_val_spelling y, refl, spelled_ty_val x h.0, spelled_more_ty_val y h.1), refl),
)
spelled_inst (get_element inbounds t base row) h = spelled_element inbounds t base row h
spelled_inst (call t callee row) h = spelled_call t callee row h
spelled_inst _ h = absurd h
