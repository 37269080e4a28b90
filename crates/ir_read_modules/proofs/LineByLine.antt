-- The reader of a block's lines goes on line by line.
use Rattle.std.proofs.Common.{◌≡◌, ℕ, zero, suc, Bool, true, false, List, [], ◌∷◌, ◌++◌, Option, None, Some, refl, ◌∙◌, ap}
use Rattle.grammar.specs.Language.{cons}
use Rattle.grammar.specs.Reader.{Out, Got, Wrong, Reader, then_out, heads, opens, run_seq, run_map, run_maybe, run_or, run_many}
use Rattle.grammar.proofs.Loops.{after, after_one}
use Rattle.ir_tree.specs.Shape.{BodyShape, InstShape}
use Rattle.ir_lex.specs.Symbols.{Symbol, LocalSymbol}
use Rattle.ir_grammar_insts.specs.Operands.{local_name}
use Rattle.ir_grammar_insts.specs.Instructions.{phi_word, inst_head, run_phi, run_inst}
use Rattle.ir_grammar_modules.specs.Blocks.{line_of, joined, with_result, without_result, run_result, begins_inst, begins_word, run_last_line, run_after_phis, run_lines}
use Rattle.ir_read_modules.specs.Lines.{told_phi, is_phi_line, run_phi_line, run_others}

-- the lines as they are told, over any readers of their parts
abbrev word_by : Reader Symbol BodyShape → Reader Symbol BodyShape → Reader Symbol (List InstShape) → Reader Symbol (List InstShape) → Reader Symbol (BodyShape × List InstShape)
word_by phi inst more others = run_or (heads phi_word) (run_seq phi more) (run_seq inst others)

abbrev told_by : Reader Symbol (List ℕ) → Reader Symbol BodyShape → Reader Symbol BodyShape → Reader Symbol (List InstShape) → Reader Symbol (List InstShape) → Reader Symbol (List InstShape) → Reader Symbol (List InstShape)
told_by result phi inst more others last =
    run_or (heads local_name) (run_map with_result (run_seq result (word_by phi inst more others)))
    (run_or begins_word (run_map without_result (word_by phi inst more others)) last)

abbrev line_by : Reader Symbol (List ℕ) → Reader Symbol BodyShape → Reader Symbol InstShape
line_by result body = run_map line_of (run_seq (run_maybe (heads local_name) result) body)

abbrev others_by : Reader Symbol (List ℕ) → Reader Symbol BodyShape → Reader Symbol (List InstShape) → Reader Symbol (List InstShape) → Reader Symbol (List InstShape)
others_by result inst others last = run_or begins_inst (run_map cons (run_seq (line_by result inst) others)) last

abbrev phi_by : Reader Symbol (List ℕ) → List Symbol → Bool
phi_by result ts = told_phi (run_maybe (heads local_name) result ts)

-- a line with a result and one without, before others
named : (name : List ℕ) (body : BodyShape) (o : Out Symbol (List InstShape))
    → then_out (then_out {B = List ℕ × (BodyShape × List InstShape)} (then_out {B = BodyShape × List InstShape} o (λ vs more. Got (body, vs) more)) (λ w more. Got (name, w) more)) (λ x more. Got (with_result x) more)
    ≡ then_out (then_out {B = InstShape × List InstShape} o (λ vs more. Got (line_of (Some name, body), vs) more)) (λ x more. Got (cons x) more)
named name body (Got vs more) = refl
named name body (Wrong rest) = refl

bare : (body : BodyShape) (o : Out Symbol (List InstShape))
    → then_out (then_out {B = BodyShape × List InstShape} o (λ vs more. Got (body, vs) more)) (λ x more. Got (without_result x) more)
    ≡ then_out (then_out {B = InstShape × List InstShape} o (λ vs more. Got (line_of (None, body), vs) more)) (λ x more. Got (cons x) more)
bare body (Got vs more) = refl
bare body (Wrong rest) = refl

-- one line and then more: what is told with a result, and without one
named_word : (name : List ℕ) (more : Reader Symbol (List InstShape)) (o : Out Symbol BodyShape)
    → then_out (then_out {B = List ℕ × (BodyShape × List InstShape)} (then_out {B = BodyShape × List InstShape} o (λ v rest. then_out {B = BodyShape × List InstShape} (more rest) (λ w q. Got (v, w) q))) (λ w q. Got (name, w) q)) (λ x q. Got (with_result x) q)
    ≡ then_out (then_out {B = InstShape × List InstShape} (then_out (then_out {B = Option (List ℕ) × BodyShape} o (λ w q. Got (Some name, w) q)) (λ v rest. Got (line_of v) rest)) (λ v rest. then_out {B = InstShape × List InstShape} (more rest) (λ w q. Got (v, w) q))) (λ x q. Got (cons x) q)
named_word name more (Got body rest) = named name body (more rest)
named_word name more (Wrong rest) = refl

bare_word : (more : Reader Symbol (List InstShape)) (o : Out Symbol BodyShape)
    → then_out (then_out {B = BodyShape × List InstShape} o (λ v rest. then_out {B = BodyShape × List InstShape} (more rest) (λ w q. Got (v, w) q))) (λ x q. Got (without_result x) q)
    ≡ then_out (then_out {B = InstShape × List InstShape} (then_out (then_out {B = Option (List ℕ) × BodyShape} o (λ w q. Got (None, w) q)) (λ v rest. Got (line_of v) rest)) (λ v rest. then_out {B = InstShape × List InstShape} (more rest) (λ w q. Got (v, w) q))) (λ x q. Got (cons x) q)
bare_word more (Got body rest) = bare body (more rest)
bare_word more (Wrong rest) = refl

phi_after : (result : Reader Symbol (List ℕ)) (phi inst : Reader Symbol BodyShape) (more others last : Reader Symbol (List InstShape)) (name : List ℕ) (q : List Symbol) (o : Out Symbol (List ℕ))
    → result (LocalSymbol name ∷ q) ≡ o → phi_by result (LocalSymbol name ∷ q) ≡ true
    → told_by result phi inst more others last (LocalSymbol name ∷ q) ≡ run_map cons (run_seq (line_by result phi) more) (LocalSymbol name ∷ q)
phi_after result phi inst more others last name q (Wrong rest) e h = rw e refl
phi_after result phi inst more others last name q (Got v rest) e h =
    let word : opens (heads phi_word) rest ≡ true = rw e at h in
    rw (e, word) (named_word v more (phi rest))

phi_first : (result : Reader Symbol (List ℕ)) (phi inst : Reader Symbol BodyShape) (more others last : Reader Symbol (List InstShape)) (t : Symbol) (q : List Symbol)
    → heads local_name t ≡ false → heads phi_word t ≡ true
    → told_by result phi inst more others last (t ∷ q) ≡ run_map cons (run_seq (line_by result phi) more) (t ∷ q)
phi_first result phi inst more others last t q a b = rw (a, b) (bare_word more (phi (t ∷ q)))

phi_here : (result : Reader Symbol (List ℕ)) (phi inst : Reader Symbol BodyShape) (more others last : Reader Symbol (List InstShape)) (ts : List Symbol)
    → phi_by result ts ≡ true → told_by result phi inst more others last ts ≡ run_map cons (run_seq (line_by result phi) more) ts
phi_here result phi inst more others last [] h = cc
phi_here result phi inst more others last (LocalSymbol name ∷ q) h = phi_after result phi inst more others last name q (result (LocalSymbol name ∷ q)) refl h
phi_here result phi inst more others last (t ∷ q) h = phi_first result phi inst more others last t q refl h

inst_after : (result : Reader Symbol (List ℕ)) (phi inst : Reader Symbol BodyShape) (more others last : Reader Symbol (List InstShape)) (name : List ℕ) (q : List Symbol) (o : Out Symbol (List ℕ))
    → result (LocalSymbol name ∷ q) ≡ o → phi_by result (LocalSymbol name ∷ q) ≡ false
    → told_by result phi inst more others last (LocalSymbol name ∷ q) ≡ others_by result inst others last (LocalSymbol name ∷ q)
inst_after result phi inst more others last name q (Wrong rest) e h = rw e refl
inst_after result phi inst more others last name q (Got v rest) e h =
    let word : opens (heads phi_word) rest ≡ false = rw e at h in
    rw (e, word) (named_word v others (inst rest))

inst_first : (result : Reader Symbol (List ℕ)) (phi inst : Reader Symbol BodyShape) (more others last : Reader Symbol (List InstShape)) (t : Symbol) (q : List Symbol) (b : Bool)
    → heads local_name t ≡ false → begins_inst t ≡ b → heads inst_head t ≡ b → heads phi_word t ≡ false
    → told_by result phi inst more others last (t ∷ q) ≡ others_by result inst others last (t ∷ q)
inst_first result phi inst more others last t q true a b c d = rw (a, b, c, d) (bare_word others (inst (t ∷ q)))
inst_first result phi inst more others last t q false a b c d = rw (a, b, c, d) refl

no_phi_here : (result : Reader Symbol (List ℕ)) (phi inst : Reader Symbol BodyShape) (more others last : Reader Symbol (List InstShape)) (ts : List Symbol)
    → phi_by result ts ≡ false → told_by result phi inst more others last ts ≡ others_by result inst others last ts
no_phi_here result phi inst more others last [] h = refl
no_phi_here result phi inst more others last (LocalSymbol name ∷ q) h = inst_after result phi inst more others last name q (result (LocalSymbol name ∷ q)) refl h
no_phi_here result phi inst more others last (t ∷ q) h = inst_first result phi inst more others last t q (heads inst_head t) refl refl refl h

-- a line that is a phi, and then the others
pub lines_with_phi : (n : ℕ) (ts : List Symbol) → is_phi_line ts ≡ true → run_lines (suc n) ts ≡ run_map cons (run_seq (run_phi_line (suc n)) (run_lines n)) ts
unfolding run_lines is_phi_line
lines_with_phi n ts h = phi_here run_result (run_phi (suc n)) (run_inst (suc n)) (run_lines n) (run_after_phis (suc n)) (run_last_line (suc n)) ts h

-- no phi follows
pub lines_without_phi : (n : ℕ) (ts : List Symbol) → is_phi_line ts ≡ false → run_lines (suc n) ts ≡ run_others (suc n) ts
unfolding run_lines is_phi_line
lines_without_phi n ts h = no_phi_here run_result (run_phi (suc n)) (run_inst (suc n)) (run_lines n) (run_after_phis (suc n)) (run_last_line (suc n)) ts h

pub no_lines : (ts : List Symbol) → run_lines zero ts ≡ Wrong ts
unfolding run_lines
no_lines ts = refl

-- instructions, at most m of them, and then the terminator
abbrev pub rest_by : ℕ → (Symbol → Bool) → Reader Symbol InstShape → Reader Symbol (List InstShape) → Reader Symbol (List InstShape)
rest_by m p item last = run_map joined (run_seq (run_many m p item) last)

joined_one : (v : InstShape) (o : Out Symbol (List InstShape)) (vs : List InstShape)
    → then_out (then_out {B = List InstShape × List InstShape} o (λ w q. Got (v ∷ vs, w) q)) (λ x q. Got (joined x) q)
    ≡ then_out (then_out (then_out {B = List InstShape × List InstShape} o (λ w q. Got (vs, w) q)) (λ x q. Got (joined x) q)) (λ us q. Got (v ∷ us) q)
joined_one v (Got w q) vs = refl
joined_one v (Wrong q) vs = refl

joined_more : (v : InstShape) (last : Reader Symbol (List InstShape)) (o : Out Symbol (List InstShape))
    → then_out (then_out {B = List InstShape × List InstShape} (then_out (then_out {B = InstShape × List InstShape} o (λ w q. Got (v, w) q)) (λ x q. Got (cons x) q)) (λ vs rest. then_out {B = List InstShape × List InstShape} (last rest) (λ w q. Got (vs, w) q))) (λ x q. Got (joined x) q)
    ≡ then_out (then_out (then_out {B = List InstShape × List InstShape} o (λ vs rest. then_out {B = List InstShape × List InstShape} (last rest) (λ w q. Got (vs, w) q))) (λ x q. Got (joined x) q)) (λ us q. Got (v ∷ us) q)
joined_more v last (Got vs rest) = joined_one v (last rest) vs
joined_more v last (Wrong rest) = refl

joined_none : (o : Out Symbol (List InstShape)) → then_out (then_out {B = List InstShape × List InstShape} o (λ w q. Got ([], w) q)) (λ x q. Got (joined x) q) ≡ o
joined_none (Got w q) = refl
joined_none (Wrong q) = refl

-- an instruction was read
pub rest_next : (m : ℕ) (p : Symbol → Bool) (item : Reader Symbol InstShape) (last : Reader Symbol (List InstShape)) (front : List InstShape) (ts q : List Symbol) (v : InstShape)
    → opens p ts ≡ true → item ts ≡ Got v q → after front (rest_by (suc m) p item last ts) ≡ after (front ++ v ∷ []) (rest_by m p item last q)
unfolding run_many
rest_next m p item last front ts q v c e = rw (c, e) (ap (after front) (joined_more v last (run_many m p item q)) ∙ after_one front v (rest_by m p item last q))

pub rest_wrong : (m : ℕ) (p : Symbol → Bool) (item : Reader Symbol InstShape) (last : Reader Symbol (List InstShape)) (front : List InstShape) (ts q : List Symbol)
    → opens p ts ≡ true → item ts ≡ Wrong q → after front (rest_by (suc m) p item last ts) ≡ Wrong q
unfolding run_many
rest_wrong m p item last front ts q c e = rw (c, e) refl

-- no instruction follows
pub rest_last : (m : ℕ) (p : Symbol → Bool) (item : Reader Symbol InstShape) (last : Reader Symbol (List InstShape)) (ts : List Symbol)
    → opens p ts ≡ false → rest_by m p item last ts ≡ last ts
unfolding run_many
rest_last zero p item last ts c = joined_none (last ts)
rest_last (suc m) p item last ts c = rw c (joined_none (last ts))

pub rest_end : (p : Symbol → Bool) (item : Reader Symbol InstShape) (last : Reader Symbol (List InstShape)) (ts : List Symbol) → rest_by zero p item last ts ≡ last ts
unfolding run_many
rest_end p item last ts = joined_none (last ts)

line_and : (v : InstShape) (o : Out Symbol (List InstShape))
    → then_out (then_out {B = InstShape × List InstShape} o (λ w q. Got (v, w) q)) (λ x q. Got (cons x) q) ≡ then_out o (λ us q. Got (v ∷ us) q)
line_and v (Got w q) = refl
line_and v (Wrong q) = refl

-- a line was read, and others follow
pub line_then : (item : Reader Symbol InstShape) (others : Reader Symbol (List InstShape)) (front : List InstShape) (ts q : List Symbol) (v : InstShape)
    → item ts ≡ Got v q → after front (run_map cons (run_seq item others) ts) ≡ after (front ++ v ∷ []) (others q)
line_then item others front ts q v e = rw e (ap (after front) (line_and v (others q)) ∙ after_one front v (others q))

pub line_wrong : (item : Reader Symbol InstShape) (others : Reader Symbol (List InstShape)) (front : List InstShape) (ts q : List Symbol)
    → item ts ≡ Wrong q → after front (run_map cons (run_seq item others) ts) ≡ Wrong q
line_wrong item others front ts q e = rw e refl
