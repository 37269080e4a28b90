-- A text has at most one literal, and a literal is read as the number that it writes.
use Rattle.std.proofs.Common.{◌≡◌, ◌≢◌, ◌<◌, ◌^◌, ℕ, List, [], ◌∷◌, ◌++◌, inl, inr, refl, ap, sym, ◌∙◌, arith, append_assoc, codes, Option, Some, None, Result, Ok, ℤ, pos, negsuc, MatchOption, IfNone, unsigned_abs, w32, FitsSigned, Bor, subst}
use Rattle.std.proofs.lemmas.List.{append_cancel_left, append_cancel_right}
use Rattle.std.proofs.lemmas.Int.{ints}
use Rattle.std.proofs.lemmas.Fmt.{parse-signed_decimal, IsAscii-signed}
use Rattle.std.proofs.lemmas.Str.{IsUtf8-from_ascii}
use Rattle.std.specs.Option.{option_or}
use Rattle.std.specs.Fmt.{signed_decimal}
use Rattle.std.specs.Str.{IsUtf8}
use lib.Signed.{mag}
use Rattle.std.specs.Str.Parse.{ParsesSigned}
use Rattle.sr_command.specs.FirstForm.{Writes, IsEnd, Returns}

-- two lists that are equal have the same last item
last_is : (xs ys : List ℕ) (a b : ℕ) → xs ++ a ∷ [] ≡ ys ++ b ∷ [] → a ≡ b
last_is [] [] a b e = cc
last_is [] (y ∷ []) a b e = cc
last_is [] (y ∷ z ∷ ys) a b e = cc
last_is (x ∷ []) [] a b e = cc
last_is (x ∷ w ∷ xs) [] a b e = cc
last_is (x ∷ xs) (y ∷ ys) a b e = last_is xs ys a b (cc)

-- a text that ends in ` }` doesn't end in ` }` and a line feed
ends_apart : (xs ys : List ℕ) → xs ++ codes " }" ≡ ys ++ (codes " }" ++ 10 ∷ []) → ⊥
ends_apart xs ys e =
    let f : (xs ++ 32 ∷ []) ++ 125 ∷ [] ≡ (ys ++ 32 ∷ 125 ∷ []) ++ 10 ∷ [] = append_assoc xs (32 ∷ []) (125 ∷ []) ∙ e ∙ sym (append_assoc ys (32 ∷ 125 ∷ []) (10 ∷ [])) in
    let g = last_is (xs ++ 32 ∷ []) (ys ++ 32 ∷ 125 ∷ []) 125 10 f in
    omega arith

-- what stands before the end is determined
pub one_front : (xs ys rest more : List ℕ) → IsEnd rest → IsEnd more → xs ++ rest ≡ ys ++ more → xs ≡ ys
one_front xs ys rest more (inl p) (inl q) e = append_cancel_right xs ys (codes " }") (ap (λ r. xs ++ r) (sym p) ∙ e ∙ ap (λ r. ys ++ r) q)
one_front xs ys rest more (inr p) (inr q) e = append_cancel_right xs ys (codes " }" ++ 10 ∷ []) (ap (λ r. xs ++ r) (sym p) ∙ e ∙ ap (λ r. ys ++ r) q)
one_front xs ys rest more (inl p) (inr q) e = absurd (ends_apart xs ys (ap (λ r. xs ++ r) (sym p) ∙ e ∙ ap (λ r. ys ++ r) q))
one_front xs ys rest more (inr p) (inl q) e = absurd (ends_apart ys xs (ap (λ r. ys ++ r) (sym q) ∙ sym e ∙ ap (λ r. xs ++ r) p))

-- where the text's own literal writes no number, the text returns none
pub returns_none : (o : Option ℤ) (text body literal rest : List ℕ) → text ≡ codes "define i32 @main() { ret i32 " ++ body → body ≡ literal ++ rest → IsEnd rest → MatchOption o ((number : ℤ) → Writes literal number → ⊥) (Writes literal) → IfNone o ((number : ℤ) → Returns text number → ⊥)
returns_none (Some n) text body literal rest e f end h = tt
returns_none None text body literal rest e f end h = λ number (other, writes, (more, is_end, whole)).
    let same : literal ++ rest ≡ other ++ more = sym f ∙ append_cancel_left (codes "define i32 @main() { ret i32 ") body (other ++ more) (sym e ∙ whole) in
    let found = one_front literal other rest more end is_end same in
    h number (subst (λ (l : List ℕ). Writes l number) (sym found) writes)

-- no literal stands before either end
pub no_end : (body : List ℕ) → ((front : List ℕ) → body ≢ front ++ codes " }") → ((front : List ℕ) → body ≢ front ++ codes " }\n") → (literal rest : List ℕ) → IsEnd rest → body ≢ literal ++ rest
no_end body plain line literal rest (inl p) e = plain literal (e ∙ ap (λ r. literal ++ r) p)
no_end body plain line literal rest (inr p) e = line literal (e ∙ ap (λ r. literal ++ r) p)

-- a number of at most nine digits fits 32 bits
pub nine_digits_fit : (number : ℤ) → unsigned_abs number < 10 ^ 9 → FitsSigned w32 number
nine_digits_fit (pos n) h = omega (arith, ints)
nine_digits_fit (negsuc n) h = omega (arith, ints)

-- nor is it too large to be written
nine_digits_small : (number : ℤ) → unsigned_abs number < 10 ^ 9 → mag number < 2 ^ 63
nine_digits_small (pos n) h = omega (arith, ints)
nine_digits_small (negsuc n) h = omega (arith, ints)

-- the literal of a number is text
pub literal_is_text : (literal : List ℕ) (number : ℤ) → Writes literal number → IsUtf8 literal
literal_is_text literal number h = rw h.1 (IsUtf8-from_ascii (signed_decimal number) (IsAscii-signed number (nine_digits_small number h.0)))

-- the literal of a number is parsed as that number
pub parsed_is : {E : Type 0} (literal : List ℕ) (number : ℤ) (r : Result ℤ E) → Writes literal number → ParsesSigned w32 10 literal r → r ≡ Ok number
parsed_is literal number r h parsed = parse-signed_decimal w32 number literal r (nine_digits_fit number h.0) (nine_digits_small number h.0) h.1 parsed

-- the first stripping that succeeds decides
pub first_end : (o p : Option (Bor (List ℕ))) (body : List ℕ) → MatchOption o ((front : List ℕ) → body ≢ front ++ codes " }") (λ x. body ≡ x.now ++ codes " }") → MatchOption p ((front : List ℕ) → body ≢ front ++ codes " }\n") (λ x. body ≡ x.now ++ codes " }\n") → MatchOption (option_or o p) ((literal rest : List ℕ) → IsEnd rest → body ≢ literal ++ rest) (λ literal. (rest : List ℕ) × IsEnd rest × (body ≡ literal.now ++ rest))
first_end (Some x) p body h k = (codes " }", inl refl, h)
first_end None (Some x) body h k = (codes " }\n", inr refl, k)
first_end None None body h k = no_end body h k
