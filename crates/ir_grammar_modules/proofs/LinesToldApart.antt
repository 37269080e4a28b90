-- The lines of a block, told by their first symbol and by the word after a result, are the lines as they are
-- written.
use Rattle.std.proofs.Common.{◌≡◌, ℕ, List, [], ◌∷◌, ◌++◌, Option, None, Some, inl, inr, refl, sym, ◌∙◌, ap, append_assoc}
use Rattle.grammar.specs.Language.{Lang, seq, map_to, maybe, many, or_else, cons}
use Rattle.ir_tree.specs.Shape.{BodyShape, InstShape}
use Rattle.ir_lex.specs.Symbols.{Symbol}
use Rattle.ir_grammar_insts.specs.Instructions.{phi, inst}
use Rattle.ir_grammar_modules.specs.Blocks.{result, line_of, phi_line, inst_line, last_line, in_front, after_phis, lines, with_result, without_result, line_word, told_lines}

-- any number of as and then the others: one a and then the same, or the others
abbrev one_more : {V : Type 0} → Lang Symbol V → Lang Symbol (List V) → Lang Symbol (List V)
one_more a others = or_else (map_to cons (seq a (in_front a others))) others

more_at : {V : Type 0} (a : Lang Symbol V) (others : Lang Symbol (List V)) (ts : List Symbol) (v vs w : List V) (p q : List Symbol)
    → ts ≡ p ++ q → many a p vs → others q w → v ≡ vs ++ w → one_more a others ts v
more_at a others ts v [] w p q cut word last e =
    let here : ts ≡ q = cut ∙ ap (λ z. z ++ q) word in
    let same : v ≡ w = e in
    inr (rw (here, same) last)
more_at a others ts v (y ∷ ys) w p q cut word last e =
    let whole : ts ≡ word.0 ++ (word.1 ++ q) = cut ∙ ap (λ z. z ++ q) word.2 ∙ append_assoc word.0 word.1 q in
    inl ((y, ys ++ w), (word.0, word.1 ++ q, whole, word.3, ((ys, w), (word.1, q, refl, word.4, last), refl)), e)

more_out : {V : Type 0} (a : Lang Symbol V) (others : Lang Symbol (List V)) (ts : List Symbol) (v : List V) → in_front a others ts v → one_more a others ts v
more_out a others ts v u = more_at a others ts v u.0.0 u.0.1 u.1.0 u.1.1 u.1.2 u.1.3 u.1.4 u.2

more_in : {V : Type 0} (a : Lang Symbol V) (others : Lang Symbol (List V)) (ts : List Symbol) (v : List V) → one_more a others ts v → in_front a others ts v
more_in a others ts v (inl u) =
    let pair = u.1 in
    let rest = pair.4 in
    let parts = rest.1 in
    let whole : ts ≡ (pair.0 ++ parts.0) ++ parts.1 = pair.2 ∙ ap (λ z. pair.0 ++ z) parts.2 ∙ sym (append_assoc pair.0 parts.0 parts.1) in
    let value : v ≡ u.0.0 ∷ (rest.0.0 ++ rest.0.1) = u.2 ∙ ap (λ z. u.0.0 ∷ z) rest.2 in
    ((u.0.0 ∷ rest.0.0, rest.0.1), (pair.0 ++ parts.0, parts.1, whole, (pair.0, parts.0, refl, pair.3, parts.3), parts.4), value)
more_in a others ts v (inr u) = (([], v), ([], ts, refl, refl, u), refl)

-- a line and the lines after it, where a word tells the line
abbrev told : Lang Symbol BodyShape → Lang Symbol (List InstShape) → Lang Symbol (List InstShape)
told word more = or_else (map_to with_result (seq result (seq word more))) (map_to without_result (seq word more))

abbrev written : Lang Symbol BodyShape → Lang Symbol (List InstShape) → Lang Symbol (List InstShape)
written word more = map_to cons (seq (map_to line_of (seq (maybe result) word)) more)

told_at : (word : Lang Symbol BodyShape) (more : Lang Symbol (List InstShape)) (ts : List Symbol) (v : List InstShape)
    (name : Option (List ℕ)) (body : BodyShape) (rest : List InstShape) (p q x y : List Symbol)
    → ts ≡ p ++ q → p ≡ x ++ y → maybe result x name → word y body → more q rest → v ≡ line_of (name, body) ∷ rest → told word more ts v
told_at word more ts v None body rest p q x y cut front named line last e =
    let here : p ≡ y = front ∙ ap (λ z. z ++ y) named in
    inr ((body, rest), (y, q, cut ∙ ap (λ z. z ++ q) here, line, last), e)
told_at word more ts v (Some name) body rest p q x y cut front named line last e =
    let whole : ts ≡ x ++ (y ++ q) = cut ∙ ap (λ z. z ++ q) front ∙ append_assoc x y q in
    inl ((name, (body, rest)), (x, y ++ q, whole, named, (y, q, refl, line, last)), e)

told_out : (word : Lang Symbol BodyShape) (more : Lang Symbol (List InstShape)) (ts : List Symbol) (v : List InstShape) → written word more ts v → told word more ts v
told_out word more ts v u =
    let pair = u.1 in
    let line = pair.3 in
    let parts = line.1 in
    told_at word more ts v line.0.0 line.0.1 u.0.1 pair.0 pair.1 parts.0 parts.1 pair.2 parts.2 parts.3 parts.4 pair.4 (u.2 ∙ ap (λ z. z ∷ u.0.1) line.2)

told_in : (word : Lang Symbol BodyShape) (more : Lang Symbol (List InstShape)) (ts : List Symbol) (v : List InstShape) → told word more ts v → written word more ts v
told_in word more ts v (inl u) =
    let pair = u.1 in
    let parts = pair.4 in
    let whole : ts ≡ (pair.0 ++ parts.0) ++ parts.1 = pair.2 ∙ ap (λ z. pair.0 ++ z) parts.2 ∙ sym (append_assoc pair.0 parts.0 parts.1) in (
      (line_of (Some u.0.0, u.0.1.0), u.0.1.1),
      (pair.0 ++ parts.0, parts.1, whole, ((Some u.0.0, u.0.1.0), (pair.0, parts.0, refl, pair.3, parts.3), refl), parts.4),
      u.2,
    )
told_in word more ts v (inr u) =
    let parts = u.1 in (
      (line_of (None, u.0.0), u.0.1),
      (parts.0, parts.1, parts.2, ((None, u.0.0), ([], parts.0, refl, refl, parts.3), refl), parts.4),
      u.2,
    )

told_phi : (ts : List Symbol) (v : List InstShape) → told phi lines ts v → told_lines lines ts v
told_phi ts v (inl u) = inl (u.0, (u.1.0, u.1.1, u.1.2, u.1.3, inl u.1.4), u.2)
told_phi ts v (inr u) = inr (inl (u.0, inl u.1, u.2))

told_inst : (ts : List Symbol) (v : List InstShape) → told inst after_phis ts v → told_lines lines ts v
told_inst ts v (inl u) = inl (u.0, (u.1.0, u.1.1, u.1.2, u.1.3, inr u.1.4), u.2)
told_inst ts v (inr u) = inr (inl (u.0, inr u.1, u.2))

after_out : (ts : List Symbol) (v : List InstShape) → one_more inst_line last_line ts v → told_lines lines ts v
after_out ts v (inl u) = told_inst ts v (told_out inst after_phis ts v u)
after_out ts v (inr u) = inr (inr u)

lines_at : (ts : List Symbol) (v : List InstShape) → one_more phi_line after_phis ts v → told_lines lines ts v
lines_at ts v (inl u) = told_phi ts v (told_out phi lines ts v u)
lines_at ts v (inr u) = after_out ts v (more_out inst_line last_line ts v u)

pub lines_out : (ts : List Symbol) (v : List InstShape) → lines ts v → told_lines lines ts v
lines_out ts v u = lines_at ts v (more_out phi_line after_phis ts v u)

phi_in : (ts : List Symbol) (v : List InstShape) → told phi lines ts v → lines ts v
phi_in ts v u = more_in phi_line after_phis ts v (inl (told_in phi lines ts v u))

inst_in : (ts : List Symbol) (v : List InstShape) → told inst after_phis ts v → lines ts v
inst_in ts v u = more_in phi_line after_phis ts v (inr (more_in inst_line last_line ts v (inl (told_in inst after_phis ts v u))))

named_in : (ts : List Symbol) (v : List InstShape) (name : List ℕ) (w : BodyShape × List InstShape) (p q : List Symbol)
    → ts ≡ p ++ q → result p name → line_word lines q w → v ≡ with_result (name, w) → lines ts v
named_in ts v name w p q cut first (inl u) e = phi_in ts v (inl ((name, w), (p, q, cut, first, u), e))
named_in ts v name w p q cut first (inr u) e = inst_in ts v (inl ((name, w), (p, q, cut, first, u), e))

bare_in : (ts : List Symbol) (v : List InstShape) (w : BodyShape × List InstShape) → line_word lines ts w → v ≡ without_result w → lines ts v
bare_in ts v w (inl u) e = phi_in ts v (inr (w, u, e))
bare_in ts v w (inr u) e = inst_in ts v (inr (w, u, e))

pub lines_in : (ts : List Symbol) (v : List InstShape) → told_lines lines ts v → lines ts v
lines_in ts v (inl u) = named_in ts v u.0.0 u.0.1 u.1.0 u.1.1 u.1.2 u.1.3 u.1.4 u.2
lines_in ts v (inr (inl u)) = bare_in ts v u.0 u.1 u.2
lines_in ts v (inr (inr u)) = more_in phi_line after_phis ts v (inr (more_in inst_line last_line ts v (inr u)))
