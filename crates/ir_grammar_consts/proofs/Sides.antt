-- Marks are told apart by their bytes.
use Rattle.std.proofs.Common.{◌≡◌, ℕ, ◌==◌, Bool, true, false, Option, None, Some, refl, sym, ap, subst, eqb-true, is_some, if◌then◌else◌}
use Rattle.grammar.specs.Language.{mark}
use Rattle.grammar.specs.Reader.{heads}
use Rattle.ir_lex.specs.Symbols.{Symbol, KeywordSymbol, LocalSymbol, GlobalSymbol, LabelSymbol, NumberSymbol, TextSymbol, MarkSymbol, OtherSymbol}
use Rattle.ir_cursor.specs.Marks.{punct}

mark_byte : (b c : ℕ) (same : Bool) → b == c ≡ same → is_some (if same then Some mark else None) ≡ true → MarkSymbol c ≡ MarkSymbol b
mark_byte b c true e h = ap MarkSymbol (sym (eqb-true b c e))
mark_byte b c false e h = cc

-- the mark that punct b knows
pub punct_is : (b : ℕ) (t : Symbol) → heads (punct b) t ≡ true → t ≡ MarkSymbol b
punct_is b (KeywordSymbol k) h = cc
punct_is b (LocalSymbol n) h = cc
punct_is b (GlobalSymbol n) h = cc
punct_is b (LabelSymbol n) h = cc
punct_is b (NumberSymbol n) h = cc
punct_is b (TextSymbol n) h = cc
punct_is b (MarkSymbol c) h = mark_byte b c (b == c) refl h
punct_is b OtherSymbol h = cc

pub is_false : (b : Bool) → (b ≡ true → ⊥) → b ≡ false
is_false true h = absurd (h refl)
is_false false h = refl

-- what knows this mark doesn't begin with f where f doesn't know the mark
pub punct_apart : {K : Type 0} (f : Symbol → Option K) (b : ℕ) → heads f (MarkSymbol b) ≡ false → (t : Symbol) → heads f t ≡ true → heads (punct b) t ≡ false
punct_apart f b e t h =
    is_false (heads (punct b) t) (λ m. let same : heads f (MarkSymbol b) ≡ true = subst (λ z. heads f z ≡ true) (punct_is b t m) h in cc)
