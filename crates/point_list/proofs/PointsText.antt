-- The text of a list of points determines the list.
use Rattle.std.proofs.Common.{◌≡◌, ◌≢◌, ◌<◌, ◌≤◌, ◌-◌, ◌^◌, ℕ, zero, suc, List, [], ◌∷◌, ◌++◌, length, replicate, false, refl, ap, sym, ◌∙◌, arith, append_assoc, codes}
use Rattle.std.proofs.lemmas.Fmt.{digits_is_IsNumeral, decimal_is_IsNumeral, decimal_injective}
use Rattle.std.proofs.lemmas.List.{append_cancel_left}
use Rattle.std.specs.Fmt.{digits, decimal}
use Rattle.std.specs.List.{flat_map, AllByRecursion}
use Rattle.std.specs.Char.{digit_value}
use Rattle.std.specs.Str.Parse.{AllDigits, digits_value, digits_value_after}
use Rattle.point_list.specs.Points.{address, point_line, points_text, IsPoint}
use Rattle.point_list.specs.declared.list.Point.{Point}

-- the list doesn't hold c
abbrev Lacks : ℕ → List ℕ → Type 0
Lacks c xs = AllByRecursion (λ x. x ≢ c) xs

-- what stands before the first c, and after it, is determined
cut_at : (c : ℕ) (xs ys r s : List ℕ) → Lacks c xs → Lacks c ys → xs ++ c ∷ r ≡ ys ++ c ∷ s → (xs ≡ ys) × (r ≡ s)
cut_at c [] [] r s p q e = (refl, cc)
cut_at c [] (y ∷ ys) r s p q e = absurd (q.0 (cc))
cut_at c (x ∷ xs) [] r s p q e = absurd (p.0 (cc))
cut_at c (x ∷ xs) (y ∷ ys) r s p q e =
    let rest = cut_at c xs ys r s p.1 q.1 (cc) in
    let heads : x ≡ y = cc in
    (ap (λ (zs : List ℕ). x ∷ zs) rest.0 ∙ ap (λ z. z ∷ ys) heads, rest.1)

-- digits hold no character that is none
digits_lack : (c radix : ℕ) → radix ≤ digit_value c → (ds : List ℕ) → AllDigits radix ds → Lacks c ds
digits_lack c radix none [] h = tt
digits_lack c radix none (d ∷ ds) h = ((λ e. omega (arith, ap digit_value e, h.0, none)), digits_lack c radix none ds h.1)

-- zeros before a numeral are no other characters, and change no value
zeros_lack : (c : ℕ) → 48 ≢ c → (k : ℕ) (ds : List ℕ) → Lacks c ds → Lacks c (replicate k 48 ++ ds)
zeros_lack c ne zero ds h = h
zeros_lack c ne (suc k) ds h = (ne, zeros_lack c ne k ds h)

zeros_value : (k : ℕ) (ds : List ℕ) → digits_value_after 16 0 (replicate k 48 ++ ds) ≡ digits_value_after 16 0 ds
zeros_value zero ds = refl
zeros_value (suc k) ds = zeros_value k ds

-- an address is read back from its digits, and holds no blank
address_value : (pc : ℕ) → pc < 2 ^ 64 → digits_value 16 (address pc) ≡ pc
address_value pc h = zeros_value (8 - length (digits 16 false pc)) (digits 16 false pc) ∙ (digits_is_IsNumeral 16 false (omega arith) (omega arith) pc (small pc h)).1
  where
    small : (n : ℕ) → n < 2 ^ 64 → n < 16 ^ 64
    small n b = omega arith

address_lacks : (pc : ℕ) → pc < 2 ^ 64 → Lacks 32 (address pc)
address_lacks pc h =
    zeros_lack 32 (omega arith) (8 - length (digits 16 false pc)) (digits 16 false pc)
    (digits_lack 32 16 (omega arith) (digits 16 false pc) (digits_is_IsNumeral 16 false (omega arith) (omega arith) pc (omega arith)).0.1)

decimal_lacks : (n : ℕ) → n < 2 ^ 64 → Lacks 10 (decimal n)
decimal_lacks n h = digits_lack 10 10 (omega arith) (decimal n) (decimal_is_IsNumeral n h).0.1

-- a line, and what follows it, cut at the blank and at the line's end
line_is : (p : Point) (rest : List ℕ) → point_line p ++ rest ≡ address p.pc ++ 32 ∷ (120 ∷ (decimal p.reg ++ 10 ∷ rest))
line_is p rest =
    append_assoc (address p.pc) (32 ∷ 120 ∷ (decimal p.reg ++ 10 ∷ [])) rest
    ∙ ap (λ (zs : List ℕ). address p.pc ++ 32 ∷ 120 ∷ zs) (append_assoc (decimal p.reg) (10 ∷ []) rest)

not_empty : (xs r : List ℕ) (c : ℕ) → [] ≡ xs ++ c ∷ r → ⊥
not_empty [] r c e = cc
not_empty (x ∷ xs) r c e = cc

same_point : (p q : Point) → p.pc ≡ q.pc → p.reg ≡ q.reg → p ≡ q
same_point p q e f = first ∙ second
  where
    first : p ≡ record { pc = q.pc; reg = p.reg }
    first = ap (λ (n : ℕ). record p { pc = n }) e

    second : (record { pc = q.pc; reg = p.reg }) ≡ q
    second = ap (λ (n : ℕ). record q { reg = n }) f

-- the lines of points, one after another, determine them
lines_determine : (ps qs : List Point) → AllByRecursion IsPoint ps → AllByRecursion IsPoint qs → flat_map point_line ps ≡ flat_map point_line qs → ps ≡ qs
lines_determine [] [] f g e = refl
lines_determine [] (q ∷ qs) f g e = absurd (not_empty _ _ _ (e ∙ line_is q (flat_map point_line qs)))
lines_determine (p ∷ ps) [] f g e = absurd (not_empty _ _ _ (sym e ∙ line_is p (flat_map point_line ps)))
lines_determine (p ∷ ps) (q ∷ qs) f g e =
    let first = cut_at 32 (address p.pc) (address q.pc) (120 ∷ (decimal p.reg ++ 10 ∷ flat_map point_line ps)) (120 ∷ (decimal q.reg ++ 10 ∷ flat_map point_line qs))
    (address_lacks p.pc f.0.address) (address_lacks q.pc g.0.address) (sym (line_is p (flat_map point_line ps)) ∙ e ∙ line_is q (flat_map point_line qs)) in
    let behind : decimal p.reg ++ 10 ∷ flat_map point_line ps ≡ decimal q.reg ++ 10 ∷ flat_map point_line qs = cc (first.1) in
    let second = cut_at 10 (decimal p.reg) (decimal q.reg) (flat_map point_line ps) (flat_map point_line qs)
    (decimal_lacks p.reg (omega (arith, f.0.register))) (decimal_lacks q.reg (omega (arith, g.0.register))) behind in
    let pcs : p.pc ≡ q.pc = sym (address_value p.pc f.0.address) ∙ ap (digits_value 16) first.0 ∙ address_value q.pc g.0.address in
    let regs : p.reg ≡ q.reg = decimal_injective p.reg q.reg (omega (arith, f.0.register)) (omega (arith, g.0.register)) second.0 in
    ap (λ (zs : List Point). p ∷ zs) (lines_determine ps qs f.1 g.1 second.1) ∙ ap (λ (r : Point). r ∷ qs) (same_point p q pcs regs)

pub text_determines : (ps qs : List Point) → AllByRecursion IsPoint ps → AllByRecursion IsPoint qs → length ps < 2 ^ 64 → length qs < 2 ^ 64 → points_text ps ≡ points_text qs → ps ≡ qs
text_determines ps qs f g short too e =
    let cut = cut_at 10 (decimal (length ps)) (decimal (length qs)) (flat_map point_line ps) (flat_map point_line qs) (decimal_lacks (length ps) short) (decimal_lacks (length qs) too) (append_cancel_left (codes "points ") _ _ e) in
    lines_determine ps qs f g cut.1
