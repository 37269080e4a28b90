-- Tokens up to a number, and what they mean.
use Rattle.std.proofs.Common.{◌≡◌, ℕ, zero, suc, ◌+◌, ◌≤◌, List, [], ◌∷◌, ◌++◌, length, take, drop, refl, sym, ap, arith}
use Rattle.std.proofs.lemmas.List.{take-map, length-map}
use Rattle.ir_lex.specs.Symbols.{symbol_of, symbols_of}
use Rattle.ir_lex.specs.declared.token.Token.{Token}

pub symbols_cut : (text : List ℕ) (toks : List Token) (n : ℕ) → symbols_of text (take n toks) ≡ take n (symbols_of text toks)
symbols_cut text toks n = sym (take-map (symbol_of text) n toks)

pub symbols_count : (text : List ℕ) (toks : List Token) → length (symbols_of text toks) ≡ length toks
symbols_count text toks = length-map toks (symbol_of text)

-- a list in two parts
pub two_parts : {X : Type 0} (j e : ℕ) (xs : List X) → j ≤ e → drop j (take e xs) ++ drop e xs ≡ drop j xs
two_parts zero zero xs h = refl
two_parts zero (suc e) [] h = refl
two_parts zero (suc e) (x ∷ xs) h = ap (λ z. x ∷ z) (two_parts zero e xs (omega arith))
two_parts (suc j) zero xs h = absurd (omega arith)
two_parts (suc j) (suc e) [] h = refl
two_parts (suc j) (suc e) (x ∷ xs) h = two_parts j e xs (omega arith)

pub drop_drop : {X : Type 0} (n m : ℕ) (xs : List X) → drop m (drop n xs) ≡ drop (n + m) xs
drop_drop zero m xs = let e : zero + m ≡ m = omega arith in rw e refl
drop_drop (suc n) zero [] = let e : suc n + zero ≡ suc n = omega arith in rw e refl
drop_drop (suc n) (suc m) [] = let e : suc n + suc m ≡ suc (n + suc m) = omega arith in rw e refl
drop_drop (suc n) m (x ∷ xs) = let e : suc n + m ≡ suc (n + m) = omega arith in rw e (drop_drop n m xs)
